use Rattle.run_base_laws.proofs.ClockLemmas.{clocks_rise}
use Rattle.run_base_laws.proofs.clocks_rise.Goals as goal

pub returns : goal.returns
returns c = clocks_rise
