use Rattle.std.proofs.Common.{◌≡◌, take}
use Rattle.sql_eval.specs.Rows.{keys_of as keys_in}
use Rattle.sql_eval.proofs.rows.keys_of.Given as goal

abbrev pub invariant-loop-keyed : goal.invariant-loop-keyed
invariant-loop-keyed l = l.keys.items ≡ keys_in (take l.keyed-index l.rows)
