use Rattle.std.proofs.Common.{◌≡◌, ◌++◌, map, filter, not, take}
use Rattle.session_tree.specs.Live.{is_branch}
use Rattle.commit_forget.specs.Beyond.{parent_beyond, kid_beyond}
use Rattle.commit_forget.proofs.neighbors.beyond_of.Given as goal

abbrev pub invariant-loop-kid : goal.invariant-loop-kid
invariant-loop-kid l = l.found.items ≡ parent_beyond l.row l.row.parent ++ map kid_beyond (filter (λ c. not (is_branch c.branch l.row.toward)) (take l.kid-index l.kids))
