use Rattle.back_laws.proofs.ReturnLemmas.{rest_is_noted}
use Rattle.back_laws.proofs.rest_is_noted.Goals as goal

pub returns : goal.returns
returns c = rest_is_noted
