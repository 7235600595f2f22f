use Rattle.run_base_laws.proofs.ClockLemmas.{clocks_cover}
use Rattle.run_base_laws.proofs.clocks_cover.Goals as goal

pub returns : goal.returns
returns c = clocks_cover
