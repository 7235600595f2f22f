use Rattle.std.proofs.Common.{◌≡◌, take}
use Rattle.row_locks.specs.Numbered.{without_numbers}
use Rattle.row_locks.proofs.locks.remove_all.Given as goal

abbrev pub invariant-loop-number : goal.invariant-loop-number
invariant-loop-number l = l.locks ≡ without_numbers (take l.number-index l.numbers) l.initial.locks
