use Rattle.std.proofs.Common.{◌≡◌, ◌≤◌, ◌++◌, take, drop}
use Rattle.redo_record.specs.Kept.{stands_at}
use Rattle.redo_record.specs.Lists.{change_where}
use Rattle.redo_record.specs.News.{with_news}
use Rattle.redo_record.proofs.news.tell_branch.Given as goal

abbrev pub invariant-loop-place : goal.invariant-loop-place
invariant-loop-place l =
    (l.place ≤ l.place-end) × (l.kept ≡ change_where (stands_at l.me) (with_news l.news) (take l.place l.initial.kept) ++ drop l.place l.initial.kept)
