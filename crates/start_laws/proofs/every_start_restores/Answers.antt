use Rattle.start_laws.proofs.StartLemmas.{every_start_restores}
use Rattle.start_laws.proofs.every_start_restores.Goals as goal

pub returns : goal.returns
returns c = every_start_restores
