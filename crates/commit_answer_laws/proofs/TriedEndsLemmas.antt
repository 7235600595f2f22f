-- The tried turns, by computation.
use Rattle.std.proofs.Common.{refl}
use Rattle.node_rules.specs.Force.{branch_to_force, purge}
use Rattle.net_bag.specs.Net.{lost}
use Rattle.run_base_laws.specs.RunEvents.{events_from}
use Rattle.commit_answer_laws.specs.TriedEnds.{TheTriedEnds}
use Rattle.tree_laws.proofs.Trying.{trying}

pub the_tried_ends : TheTriedEnds
unfolding trying branch_to_force purge lost events_from
the_tried_ends = record {
  pends = refl;
  rolled_back = refl;
  still = refl;
  known = refl;
  complete = refl;
}
