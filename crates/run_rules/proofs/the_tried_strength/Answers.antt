-- The strengths are computed.
use Rattle.std.proofs.Common.{refl}
use Rattle.run_rules.proofs.the_tried_strength.Goals as goal

pub returns : goal.returns
returns c = record { set = refl; unset = refl }
