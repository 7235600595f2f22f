use Rattle.commit_spread_laws.proofs.HearLemmas.{rows_have_heard}
use Rattle.commit_spread_laws.proofs.rows_have_heard.Goals as goal

pub returns : goal.returns
returns c = rows_have_heard
