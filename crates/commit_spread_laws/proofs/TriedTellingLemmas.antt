-- The tried run, by computation.
use Rattle.std.proofs.Common.{refl}
use Rattle.net_bag.specs.Net.{lost}
use Rattle.run_base_laws.specs.RunEvents.{events_from}
use Rattle.commit_spread_laws.specs.TriedTelling.{TheTriedTelling}
use Rattle.tree_laws.proofs.Trying.{trying}

pub the_tried_telling : TheTriedTelling
unfolding trying lost events_from
the_tried_telling = record {
  decided = refl;
  sealed = refl;
  told = refl;
  heard = refl;
  unsealed = refl;
  unforced = refl;
  lost_decided = refl;
  lost_sealed = refl;
  lost_told = refl;
  lost_heard = refl;
}
