use Rattle.std.proofs.Common.{◌≡◌, take}
use Rattle.sql_eval.specs.Meaning.{deleted as deleted_of}
use Rattle.sql_eval.proofs.update.deleted.Given as goal

abbrev pub invariant-loop-keyed : goal.invariant-loop-keyed
invariant-loop-keyed l = l.changes.items ≡ deleted_of l.table (take l.keyed-index l.rows)
