use Rattle.std.proofs.Common.{◌≡◌, ◌++◌, map, take, drop}
use Rattle.commit_forget.specs.Next.{acks_kid}
use Rattle.commit_forget.proofs.rows.ack_kids.Given as goal

abbrev pub invariant-loop-kid : goal.invariant-loop-kid
invariant-loop-kid l = l.kid-items ≡ map (acks_kid l.from) (take l.kid-index l.initial.kid-items) ++ drop l.kid-index l.initial.kid-items
