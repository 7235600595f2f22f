use Rattle.run_key_laws.proofs.TriedRowsLemmas.{the_tried_rows}
use Rattle.run_key_laws.proofs.the_tried_rows.Goals as goal

pub returns : goal.returns
returns c = the_tried_rows
