use Rattle.std.proofs.Common.{◌≡◌, drop, Ok}
use Rattle.sql_eval.specs.Meaning.{set_all as set_all_of}
use Rattle.sql_eval.proofs.update.set_all.Given as goal

-- the assignments that are left go on from the row so far
abbrev pub invariant-loop-set : goal.invariant-loop-set
invariant-loop-set l = set_all_of l.table l.before (Ok l.before) l.sets ≡ set_all_of l.table l.before (Ok l.after) (drop l.set-index l.sets)
