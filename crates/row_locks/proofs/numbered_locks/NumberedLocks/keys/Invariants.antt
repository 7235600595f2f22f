use Rattle.std.proofs.Common.{◌≡◌, ◌++◌, map, filter}
use Rattle.std.specs.Str.{bytes_eq}
use Rattle.row_locks.proofs.numbered_locks.NumberedLocks.keys.Given as goal

-- the keys so far, and those of the locks that are left
abbrev pub invariant-loop-lock : goal.invariant-loop-lock
invariant-loop-lock l =
    l.keys.items ++ map (λ e. e.1.key) (filter (λ e. bytes_eq e.1.table l.table) l.lock-iterator) ≡ map (λ e. e.1.key) (filter (λ e. bytes_eq e.1.table l.table) l.self)
