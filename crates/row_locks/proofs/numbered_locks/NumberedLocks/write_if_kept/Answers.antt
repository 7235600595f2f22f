use Rattle.std.proofs.Common.{refl}
use Rattle.row_locks.specs.Back.{kept_if}
use Rattle.row_locks.proofs.KeptLaws.{one_changed}
use Rattle.row_locks.proofs.numbered_locks.NumberedLocks.write_if_kept.Goals as goal

pub invariant_of-self : goal.invariant_of-self
invariant_of-self c =
    let s = c.self.inside in
    one_changed (kept_if c.args.notes.now c.args.changes.now) (λ h t k. refl) (λ h l. refl) (λ h. refl) c.args.number s.next s.doubts s.locks.entries c.write_kept.new.locks.entries s.numbers.entries c.self.invariant c.write_kept.ensures
