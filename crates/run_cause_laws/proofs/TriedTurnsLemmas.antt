-- What the happenings of the tried run tell of Acks, by computation.
use Rattle.std.proofs.Common.{refl}
use Rattle.run_rules.specs.Branches.{life_at}
use Rattle.run_cause_laws.specs.TriedTurns.{TheTriedTurns}
use Rattle.tree_laws.proofs.Trying.{trying, trying_trails}

pub the_tried_turns : TheTriedTurns
unfolding trying trying_trails life_at
the_tried_turns = record { neighbors = refl; acked = refl; gone = refl; gone_below = refl }
