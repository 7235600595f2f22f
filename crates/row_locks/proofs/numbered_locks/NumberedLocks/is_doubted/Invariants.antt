use Rattle.std.proofs.Common.{◌≡◌, ◌&&◌}
use Rattle.std.specs.List.{list_any}
use Rattle.std.specs.Str.{bytes_eq}
use Rattle.row_locks.proofs.numbered_locks.NumberedLocks.is_doubted.Given as goal

-- such a lock is among those that are left
abbrev pub invariant-loop-lock : goal.invariant-loop-lock
invariant-loop-lock l = list_any (λ e. e.1.in_doubt && bytes_eq e.1.table l.table) l.self ≡ list_any (λ e. e.1.in_doubt && bytes_eq e.1.table l.table) l.lock-iterator
