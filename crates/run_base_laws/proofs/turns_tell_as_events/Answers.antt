use Rattle.run_base_laws.proofs.EventsStandLemmas.{turns_tell_as_events as law}
use Rattle.run_base_laws.proofs.turns_tell_as_events.Goals as goal

pub returns : goal.returns
returns c = law
