use Rattle.std.proofs.Common.{◌≡◌, drop, map}
use Rattle.sql_check.specs.Words.{first_some}
use Rattle.sql_eval.specs.Meaning.{fixes as fixes_of}
use Rattle.sql_eval.proofs.keys.fixed_by.Given as goal

-- it is among those that are left
abbrev pub invariant-loop-cond : goal.invariant-loop-cond
invariant-loop-cond l = first_some (map (fixes_of l.table) l.conds) ≡ first_some (map (fixes_of l.table) (drop l.cond-index l.conds))
