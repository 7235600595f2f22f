use Rattle.refusal_laws.proofs.ApartLemmas.{lives_change_apart}
use Rattle.refusal_laws.proofs.lives_change_apart.Goals as goal

pub returns : goal.returns
returns c = lives_change_apart
