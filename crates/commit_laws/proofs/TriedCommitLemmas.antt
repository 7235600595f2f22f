-- The tried COMMITs, by computation.
use Rattle.std.proofs.Common.{List, [], take, drop, None, inl, refl}
use Rattle.node_rules.specs.Data.stmts
use Rattle.net_bag.specs.Net.{lost}
use Rattle.run_rules.specs.Births.{births_from}
use Rattle.run_rules.specs.Data.{Turn, Happening}
use Rattle.run_rules.specs.Facts.{first_facts}
use Rattle.run_branch_laws.specs.TriedRun as tried
use Rattle.run_claims.specs.Undisturbed.{facts_by}
use Rattle.commit_laws.specs.TriedCommit.{lost_trace, TheTriedCommit}
use Rattle.tree_laws.proofs.Trying.{trying}

-- up to the COMMIT
abbrev before : List Happening
before = tried.played (first_facts tried.places) (take 9 tried.coming)

-- its call
abbrev call : Turn
call = tried.calls 1 (stmts.Commit None) (facts_by tried.places [] before)

pub the_tried_commit : TheTriedCommit
unfolding trying lost births_from
the_tried_commit = record {
  commit = record { before = before; call = call; during = drop 10 tried.trace; is = refl; session = 1; comment = None; asks = refl; kept = _; up = refl; root = tried.a; of = refl; live = _; there = refl; writer = refl };
  undisturbed = record {
    goes_on = refl;
    still = refl;
    whole = refl;
    course = (inl (refl, 5, refl), (inl (refl, 6, refl), (inl (refl, 7, refl), (inl (refl, 8, refl), (inl (refl, 9, refl), tt)))));
    over = refl;
    lost = (refl, (refl, (refl, (refl, (refl, (refl, (refl, (refl, (refl, tt)))))))));
    stopped = (refl, (refl, tt));
    calm = (refl, (refl, (refl, (refl, (refl, (refl, (refl, (refl, (refl, (refl, (refl, (refl, (refl, (refl, (refl, tt)))))))))))))));
  };
  complete = record { answered = refl; decided = inl refl; ended = (tt, (tt, ((λ of. (1, 4, refl)), (tt, (tt, tt))))); gone = (refl, (refl, tt)) };
  lost = record { before = before; call = call; during = drop 10 lost_trace; is = refl; session = 1; comment = None; asks = refl; kept = _; up = refl; root = tried.a; of = refl; live = _; there = refl; writer = refl };
  lost_goes_on = refl;
  lost_still = refl;
  lost_over = refl;
  lost_stopped = (refl, (refl, tt));
  lost_calm = (refl, (refl, (refl, (refl, (refl, (refl, (refl, (refl, (refl, (refl, (refl, (refl, (tt, tt)))))))))))));
  lost_answers = refl;
  lost_doubt = refl;
}
