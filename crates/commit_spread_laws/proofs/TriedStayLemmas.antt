-- The tried runs, by computation.
use Rattle.std.proofs.Common.{false, [], take, drop, refl}
use Rattle.node_rules.specs.Data.kinds
use Rattle.net_bag.specs.Net.{lost, stopped, started as node_started}
use Rattle.run_rules.specs.Facts.{first_facts}
use Rattle.run_base_laws.specs.RunEvents.{events_from}
use Rattle.run_branch_laws.specs.TriedRun as tried
use Rattle.run_claims.specs.Undisturbed.{facts_by}
use Rattle.commit_spread_laws.specs.TriedStay.{TheTriedStay}
use Rattle.tree_laws.proofs.Trying.{trying}

pub the_tried_stay : TheTriedStay
unfolding trying lost stopped node_started events_from
the_tried_stay = record {
  got = record {
    message = record { from = tried.a; to = tried.b; scn = 0; kind = kinds.Prepare false [] };
    is_from = refl;
    is_to = refl;
    asks = refl;
    came = record {
      before = tried.played (first_facts tried.places) (take 10 tried.coming);
      turn = tried.takes 5 (facts_by tried.places [] (tried.played (first_facts tried.places) (take 10 tried.coming)));
      later = drop 11 tried.trace;
      is = refl;
      input = refl;
      here = refl;
    };
  };
  first = refl;
  asked = refl;
  sealed = refl;
  dropped = refl;
  aborts = refl;
}
