-- What the happenings of the tried run tell, by computation.
use Rattle.std.proofs.Common.{refl}
use Rattle.tree_trail_laws.specs.TriedTrail.{TheTriedTrail}
use Rattle.tree_laws.proofs.Trying.{trying, trying_trails}

pub the_tried_trail : TheTriedTrail
unfolding trying trying_trails
the_tried_trail = record { children = refl; own = refl; own_below = refl; site = refl; decides = refl; sealed = refl; root = refl; ended = refl; begun = refl }
