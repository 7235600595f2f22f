-- The causes of the tried turns, by computation.
use Rattle.std.proofs.Common.{refl}
use Rattle.node_rules.specs.Force.{branch_to_force, purge}
use Rattle.net_bag.specs.Net.{lost}
use Rattle.run_rules.specs.Book.{in_doubt}
use Rattle.run_base_laws.specs.RunEvents.{events_from}
use Rattle.commit_answer_laws.specs.TriedCauses.{TheTriedCauses}
use Rattle.tree_laws.proofs.Trying.{trying}

pub the_tried_causes : TheTriedCauses
unfolding trying branch_to_force purge lost in_doubt events_from
the_tried_causes = record { early = refl; known = refl; doubted = refl; unknown = refl; learned = refl; settled = refl }
