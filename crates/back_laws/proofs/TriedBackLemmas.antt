-- What the happenings of the tried run tell, by computation.
use Rattle.std.proofs.Common.{refl}
use Rattle.back_laws.specs.TriedBack.{TheTriedBack}
use Rattle.tree_laws.proofs.Trying.{trying, trying_trails}

pub the_tried_back : TheTriedBack
unfolding trying trying_trails
the_tried_back = record { set_at_a = refl; set_at_b = refl; more_at_b = refl; called = refl; back_at_a = refl; back_at_b = refl; held_at_a = refl; held_at_b = refl }
