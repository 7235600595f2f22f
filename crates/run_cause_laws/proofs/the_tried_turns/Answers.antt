use Rattle.run_cause_laws.proofs.TriedTurnsLemmas.{the_tried_turns}
use Rattle.run_cause_laws.proofs.the_tried_turns.Goals as goal

pub returns : goal.returns
returns c = the_tried_turns
