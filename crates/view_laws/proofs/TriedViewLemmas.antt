-- The tried views, by computation: each in a lemma of its own, since the check of a lemma has a limit.
use Rattle.std.proofs.Common.{◌≡◌, true, [], ◌∷◌, map, codes, Some, None, refl}
use Rattle.node_rules.specs.Force.{branch_to_force, purge}
use Rattle.net_bag.specs.Net.{lost}
use Rattle.std.specs.Prelude.{take}
use Rattle.node_rules.specs.Data.advices
use Rattle.run_branch_laws.specs.TriedRun.{coming, a, b}
use Rattle.tree_laws.proofs.Trying.{trying, trying_trails}
use Rattle.view_laws.specs.TriedViews.{TheTriedViews, rows_when, states_when, given_when, forced_back, met, purged, commented, advised}

forced_is : states_when forced_back 2 b ≡ codes "forced rollback" ∷ []
unfolding trying trying_trails branch_to_force purge lost
forced_is = refl

mixed_is : map (λ r. r.mixed) (rows_when met 2 b) ≡ true ∷ []
unfolding trying trying_trails branch_to_force purge lost
mixed_is = refl

hidden_is : states_when purged 2 b ≡ []
unfolding trying trying_trails branch_to_force purge lost
hidden_is = refl

root_is : map (λ r. r.root) (rows_when (take 10 coming) 1 a) ≡ a ∷ []
unfolding trying trying_trails
root_is = refl

comment_is : map (λ r. r.comment) (rows_when commented 1 a) ≡ codes "x" ∷ []
unfolding trying trying_trails
comment_is = refl

none_is : map (λ r. r.advice) (rows_when commented 1 a) ≡ None ∷ []
unfolding trying trying_trails
none_is = refl

advice_is : (given_when advised).advice b ≡ Some advices.Commit
unfolding trying trying_trails
advice_is = refl

pub the_tried_views : TheTriedViews
unfolding trying trying_trails
the_tried_views = record {
  working = refl;
  collecting = refl;
  sealed = refl;
  decided = refl;
  forced = forced_is;
  mixed = mixed_is;
  hidden = hidden_is;
  forgotten = refl;
  root = root_is;
  comment = comment_is;
  none = none_is;
  advice = advice_is;
  toward = refl;
}
