use Rattle.std.proofs.Common.{◌≡◌, take}
use Rattle.row_locks.specs.Back.{kept_if}
use Rattle.row_locks.specs.Numbered.{changed_at}
use Rattle.row_locks.proofs.locks.write_all_kept.Given as goal

abbrev pub invariant-loop-number : goal.invariant-loop-number
invariant-loop-number l = l.locks ≡ changed_at (kept_if l.notes l.changes) (take l.number-index l.numbers) l.initial.locks
