use Rattle.commit_spread_laws.proofs.StayLemmas.{undisturbed_roots_are_gone}
use Rattle.commit_spread_laws.proofs.undisturbed_roots_are_gone.Goals as goal

pub returns : goal.returns
returns c = undisturbed_roots_are_gone
