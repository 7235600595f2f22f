use Rattle.std.proofs.Common.{◌≡◌, drop, map}
use Rattle.sql_check.specs.Words.{first_some}
use Rattle.row_locks.specs.Held.{hold_on as hold_on_of}
use Rattle.stmt_run.proofs.holders.first_holder.Given as goal

-- it is among those that are left
abbrev pub invariant-loop-key : goal.invariant-loop-key
invariant-loop-key l = first_some (map (hold_on_of l.locks l.me l.table) l.keys) ≡ first_some (map (hold_on_of l.locks l.me l.table) (drop l.key-index l.keys))
