-- What an Exec of the tried run passes on, by computation.
use Rattle.std.proofs.Common.{codes, refl}
use Rattle.run_rules.specs.Branches.{life_at}
use Rattle.run_cause_laws.specs.TriedPass.{TheTriedPass}
use Rattle.tree_laws.proofs.Trying.{trying, trying_trails}

pub the_tried_pass : TheTriedPass
unfolding trying trying_trails life_at
the_tried_pass = record { passes = record { link = codes "B"; table = codes "T"; named = refl; leads = refl; same = refl }; asked = refl }
