use Rattle.back_laws.proofs.HoldLemmas.{children_noted}
use Rattle.back_laws.proofs.children_noted.Goals as goal

pub returns : goal.returns
returns c = children_noted
