-- What news make of the row of a kept branch.
use Rattle.redo_record.specs.Data.{KeptRow}
use Rattle.redo_record.specs.Kept.{ended_commit, in_state, met_as, forgot_as, hidden_as}
use Rattle.redo_record.specs.declared.news.News.{News}
use Rattle.redo_record.specs.declared.news.News.TheVariants as newses

-- a row after the news of its branch
abbrev pub with_news : News → KeptRow → KeptRow
with_news (newses.Commits n) x = ended_commit n x
with_news (newses.IsForced state) x = in_state state x
with_news (newses.Learns d mixed) x = met_as d mixed x
with_news newses.Forgets x = forgot_as x
with_news newses.IsHidden x = hidden_as x
