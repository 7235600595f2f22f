use Rattle.std.proofs.Common.{◌≡◌, take}
use Rattle.row_locks.specs.Numbered.{doubtful, changed_at}
use Rattle.row_locks.proofs.locks.mark_in_doubt_all.Given as goal

abbrev pub invariant-loop-number : goal.invariant-loop-number
invariant-loop-number l = l.locks ≡ changed_at doubtful (take l.number-index l.numbers) l.initial.locks
