-- The versions are computed.
use Rattle.std.proofs.Common.{refl}
use Rattle.read_only_tx.specs.Versions.{rows_at}
use Rattle.read_only_tx.proofs.the_tried_versions.Goals as goal

pub returns : goal.returns
unfolding rows_at
returns c = record { kept = refl; floor = refl; too_old = refl; old_enough = refl; before = refl; first = refl; behind = refl }
