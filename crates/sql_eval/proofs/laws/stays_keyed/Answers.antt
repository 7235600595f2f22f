use Rattle.sql_eval.proofs.StayLaws.{stays_keyed}
use Rattle.sql_eval.proofs.laws.stays_keyed.Goals as goal

pub returns : goal.returns
returns c = stays_keyed
