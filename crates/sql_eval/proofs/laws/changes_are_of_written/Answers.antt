use Rattle.sql_eval.proofs.MadeLemmas.{changes_are_of_written}
use Rattle.sql_eval.proofs.laws.changes_are_of_written.Goals as goal

pub returns : goal.returns
returns c = changes_are_of_written
