use Rattle.std.proofs.Common.{◌≡◌, take}
use Rattle.std.specs.Prelude.{fold}
use Rattle.sql_eval.specs.Rows.{change_one}
use Rattle.stmt_store.proofs.past.change_all.Given as goal

-- those of the changes so far
abbrev pub invariant-loop-change : goal.invariant-loop-change
invariant-loop-change l = l.rows.items ≡ fold (change_one l.table) l.initial.rows.items (take l.change-index l.changes)
