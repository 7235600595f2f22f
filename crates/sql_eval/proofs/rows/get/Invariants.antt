use Rattle.std.proofs.Common.{◌≡◌, drop}
use Rattle.sql_eval.specs.Rows.{get as get_of}
use Rattle.sql_eval.proofs.rows.get.Given as goal

-- the row is among those that are left
abbrev pub invariant-loop-keyed : goal.invariant-loop-keyed
invariant-loop-keyed l = get_of l.rows l.key ≡ get_of (drop l.keyed-index l.rows) l.key
