use Rattle.std.proofs.Common.{◌≡◌, drop}
use Rattle.sql_eval.specs.Meaning.{updated as updated_of}
use Rattle.sql_eval.proofs.ChangeLemmas.{behind}
use Rattle.sql_eval.proofs.update.updated.Given as goal

-- the changes so far, and those of the rows that are left
abbrev pub invariant-loop-keyed : goal.invariant-loop-keyed
invariant-loop-keyed l = updated_of l.table l.sets l.rows ≡ behind l.changes.items (updated_of l.table l.sets (drop l.keyed-index l.rows))
