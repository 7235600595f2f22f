-- The tried turns, by computation.
use Rattle.std.proofs.Common.{refl}
use Rattle.node_rules.specs.Force.{branch_to_force, purge}
use Rattle.net_bag.specs.Net.{lost}
use Rattle.run_base_laws.specs.RunEvents.{events_from}
use Rattle.commit_obey_laws.specs.TriedObey.{TheTriedObey}
use Rattle.tree_laws.proofs.Trying.{trying}

pub the_tried_obey : TheTriedObey
unfolding trying branch_to_force purge lost events_from
the_tried_obey = record {
  toward = refl;
  brings = refl;
  sealed = refl;
  unlearned = refl;
  unforced = refl;
  ends = refl;
  back = refl;
  back_unlearned = refl;
  meets_mixed = refl;
  on = refl;
  meets = refl;
}
