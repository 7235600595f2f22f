use Rattle.std.proofs.Common.{◌≡◌, drop, map}
use Rattle.sql_check.specs.Words.{first_some}
use Rattle.row_locks.specs.Held.{doubt_on as doubt_on_of}
use Rattle.stmt_run.proofs.holders.first_in_doubt.Given as goal

-- it is among those that are left
abbrev pub invariant-loop-key : goal.invariant-loop-key
invariant-loop-key l = first_some (map (doubt_on_of l.locks l.table) l.keys) ≡ first_some (map (doubt_on_of l.locks l.table) (drop l.key-index l.keys))
