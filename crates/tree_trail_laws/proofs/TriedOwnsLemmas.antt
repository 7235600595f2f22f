-- What the happenings of the tried run tell of changes, by computation.
use Rattle.std.proofs.Common.{refl}
use Rattle.tree_trail_laws.specs.TriedOwns.{TheTriedOwns}
use Rattle.tree_laws.proofs.Trying.{trying, trying_trails}

pub the_tried_owns : TheTriedOwns
unfolding trying trying_trails
the_tried_owns = record { traced_at_a = refl; kept_at_a = refl; traced_at_b = refl; kept_at_b = refl; runs = refl; means = refl; answers = refl }
