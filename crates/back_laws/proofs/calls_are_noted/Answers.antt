use Rattle.back_laws.proofs.NoteLemmas.{calls_are_noted}
use Rattle.back_laws.proofs.calls_are_noted.Goals as goal

pub returns : goal.returns
returns c = calls_are_noted
