use Rattle.row_locks.proofs.KeptLaws.{nothing_kept}
use Rattle.row_locks.proofs.numbered_locks.NumberedLocks.new.Goals as goal

pub invariant_of-result : goal.invariant_of-result
invariant_of-result c = nothing_kept c.new.result.entries c.new-2.result.entries c.new.ensures.empty c.new-2.ensures.empty
