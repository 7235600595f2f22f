use Rattle.node_ready_laws.proofs.RowStepLemmas.{rows_stay_of_tables, no_rows_at_first}
use Rattle.node_ready_laws.proofs.rows_stay_of_tables.Goals as goal

pub returns-clause-made : goal.returns-clause-made
returns-clause-made c = no_rows_at_first

pub returns-clause-turns : goal.returns-clause-turns
returns-clause-turns c = rows_stay_of_tables
