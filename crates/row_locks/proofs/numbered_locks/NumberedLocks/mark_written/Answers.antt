use Rattle.row_locks.proofs.KeptLaws.{one_written}
use Rattle.row_locks.proofs.numbered_locks.NumberedLocks.mark_written.Goals as goal

pub invariant_of-self : goal.invariant_of-self
invariant_of-self c =
    let s = c.self.inside in
    one_written c.args.number s.next s.doubts s.locks.entries c.write.new.locks.entries s.numbers.entries c.self.invariant c.write.ensures
