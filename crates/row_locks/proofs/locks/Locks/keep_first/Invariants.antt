use Rattle.std.proofs.Common.{◌≡◌, ◌-◌, take, length}
use Rattle.row_locks.proofs.locks.Locks.keep_first.Given as goal

-- so many of the last are given back
abbrev pub invariant-loop : goal.invariant-loop
invariant-loop l = l.self ≡ take (length l.initial.self - l.counter) l.initial.self
