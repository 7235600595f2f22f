-- Where the answers of the tried run come from, by computation.
use Rattle.std.proofs.Common.{refl}
use Rattle.answer_origin_laws.specs.TriedPlace.{TheTriedPlace}
use Rattle.tree_laws.proofs.Trying.{trying, trying_trails}

pub the_tried_place : TheTriedPlace
unfolding trying trying_trails
the_tried_place = record { reply = refl; lower = refl; root = refl }
