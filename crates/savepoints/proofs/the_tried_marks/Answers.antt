-- The marks are computed.
use Rattle.std.proofs.Common.{refl}
use Rattle.savepoints.proofs.the_tried_marks.Goals as goal

pub returns : goal.returns
returns c = record { at = refl; stay = refl; kept = refl; dropped = refl; behind = refl; calls = refl; first = refl; second = refl }
