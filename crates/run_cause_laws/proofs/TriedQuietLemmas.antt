-- What the happenings of the tried run tell of a ReadOnly, by computation.
use Rattle.std.proofs.Common.{refl}
use Rattle.run_rules.specs.Branches.{life_at}
use Rattle.run_cause_laws.specs.TriedQuiet.{TheTriedQuiet}
use Rattle.tree_laws.proofs.Trying.{trying, trying_trails}

pub the_tried_quiet : TheTriedQuiet
unfolding trying trying_trails life_at
the_tried_quiet = record { children = refl; says = refl; sender = refl; quiet = (refl, tt); left = refl; changed = refl }
