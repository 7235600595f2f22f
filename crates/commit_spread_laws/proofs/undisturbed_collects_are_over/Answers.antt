use Rattle.commit_spread_laws.proofs.StayLemmas.{undisturbed_collects_are_over}
use Rattle.commit_spread_laws.proofs.undisturbed_collects_are_over.Goals as goal

pub returns : goal.returns
returns c = undisturbed_collects_are_over
