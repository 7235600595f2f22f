-- The tried walk of CommitPoint, by computation.
use Rattle.std.proofs.Common.{List, [], take, drop, None, refl, inl}
use Rattle.node_rules.specs.Data.stmts
use Rattle.run_rules.specs.Births.{births_from}
use Rattle.run_rules.specs.Data.{Turn, Happening}
use Rattle.run_rules.specs.Facts.{first_facts}
use Rattle.run_base_laws.specs.RunEvents.{events_from}
use Rattle.run_claims.specs.Undisturbed.{facts_by}
use Rattle.commit_point_laws.specs.TriedPoint as tried
use Rattle.commit_point_laws.specs.TriedPoint.{TheTriedPoint}
use Rattle.tree_laws.proofs.Trying.{trying}

-- up to the COMMIT
abbrev before : List Happening
before = tried.played (first_facts tried.places) (take 14 tried.coming)

-- its call
abbrev call : Turn
call = tried.calls 1 (stmts.Commit None) (facts_by tried.places [] before)

pub the_tried_point : TheTriedPoint
unfolding trying births_from events_from
the_tried_point = record {
  commit = record { before = before; call = call; during = drop 15 tried.trace; is = refl; session = 1; comment = None; asks = refl; kept = _; up = refl; root = tried.a; of = refl; live = _; there = refl; writer = refl };
  root = refl;
  undisturbed = record {
    goes_on = refl;
    still = refl;
    whole = refl;
    course = (inl (refl, 9, refl), (inl (refl, 10, refl), (inl (refl, 11, refl), (inl (refl, 12, refl), (inl (refl, 13, refl), (inl (refl, 14, refl), (inl (refl, 15, refl), (inl (refl, 16, refl), (inl (refl, 17, refl), (inl (refl, 18, refl), (inl (refl, 19, refl), tt)))))))))));
    over = refl;
    lost = (refl, (refl, (refl, (refl, (refl, (refl, (refl, (refl, (refl, (refl, (refl, (refl, (refl, (refl, (refl, (refl, (refl, (refl, (refl, tt)))))))))))))))))));
    stopped = (refl, (refl, (refl, tt)));
    calm = (refl, (refl, (refl, (refl, (refl, (refl, (refl, (refl, (refl, (refl, (refl, (refl, (refl, (refl, (refl, (refl, (refl, (refl, (refl, (refl, (refl, (refl, (refl, (refl, (refl, (refl, tt))))))))))))))))))))))))));
  };
  told = refl;
  ready = refl;
  point = refl;
  only = refl;
  lived = refl;
  gone = refl;
  sealed_a = refl;
  sealed_b = refl;
  toward_a = refl;
  toward_b = refl;
  decided = refl;
  site = refl;
}
