-- The forest of the tried run, by computation.
use Rattle.std.proofs.Common.{refl}
use Rattle.run_rules.specs.Births.{births_from}
use Rattle.tree_laws.specs.TriedForest.{TheTriedForest}
use Rattle.tree_laws.proofs.Trying.{trying}

pub the_tried_forest : TheTriedForest
unfolding trying births_from
the_tried_forest = record { asked = refl; off = refl; members = refl; toward = refl; site = refl; at_site = refl }
