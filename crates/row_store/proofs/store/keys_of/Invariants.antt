use Rattle.std.proofs.Common.{◌≡◌, ◌++◌, drop}
use Rattle.sql_eval.specs.Rows.{keys_of}
use Rattle.row_store.proofs.store.keys_of.Given as goal

abbrev pub invariant-loop-keyed : goal.invariant-loop-keyed
invariant-loop-keyed l = l.keys.items ++ keys_of (drop l.keyed-index l.rows) ≡ keys_of l.rows
