-- What comes later in a run adds events to those so far, so the laws of agreement hold of its first parts too, by the forest
-- of the whole run.
use Rattle.std.proofs.Common.{◌≡◌, List, [], ◌∷◌, sym, ap, subst, ◌∙◌}
use Rattle.agreement.specs.Events.{Forest, IsForest, Event, Lawful}
use Rattle.agreement.proofs.Invariant.{Inv}
use Rattle.agreement.proofs.InvariantKept.{inv}
use Rattle.node_rules.specs.Data.{Place}
use Rattle.run_rules.specs.Data.{Happening, Command}
use Rattle.run_rules.specs.Data.happenings
use Rattle.run_rules.specs.Facts.{Facts, first_facts, facts_after}
use Rattle.run_rules.specs.Lawful.{History, IsLawfulRun}
use Rattle.run_base_laws.specs.RunEvents.{events_after, events_from, events_of}
use Rattle.run_branch_laws.proofs.JustLemmas.{just_runs_are_lawful}
use Rattle.run_base_laws.proofs.LaterLemmas.{Added, Nothing_more, One_more, Any, added_on, added_wider, wrote_added, turn_added, stop_added}
use Rattle.run_branch_laws.proofs.TreeJustLemmas.{runs_by_trees_are_just}
use Rattle.tree_laws.specs.Forests.{forest_of}
use Rattle.tree_laws.proofs.AgreeLemmas.{runs_go_by_forest}
use Rattle.tree_laws.proofs.ForestRunLemmas.{runs_have_forests}
use Rattle.tree_laws.proofs.PrefixLemmas.{f_at, e_at}
use Rattle.tree_laws.proofs.TimeLemmas.{Part, events_join}

module _ (places : List Place) (asked : List Command) where
  pub happening_added : (f : Facts) (h : Happening) (e : List Event) → Added Any e (events_after places asked f h e)
  happening_added f (happenings.Turn u) e = added_on (wrote_added u e) (added_wider (λ x is. tt) (turn_added f (facts_after places asked f (happenings.Turn u)) u e))
  happening_added f (happenings.Stopped n) e = added_wider (λ x is. tt) (stop_added f (facts_after places asked f (happenings.Stopped n)) n e)
  happening_added f (happenings.Started n boot) e = Nothing_more
  happening_added f (happenings.Begun c) e = Nothing_more
  happening_added f (happenings.Cut a b) e = Nothing_more
  happening_added f (happenings.Join a b) e = Nothing_more
  happening_added f (happenings.Lost k) e = Nothing_more

  run_added : (f : Facts) (hs : List Happening) (e : List Event) → Added Any e (events_from places asked f hs e)
  unfolding events_from
  run_added f [] e = Nothing_more
  run_added f (h ∷ hs) e = added_on (happening_added f h e) (run_added (facts_after places asked f h) hs (events_after places asked f h e))

-- the older events are lawful too
lawful_before : (p : Forest) {t s : List Event} → Added Any t s → Lawful p s → Lawful p t
lawful_before p Nothing_more lawful = lawful
lawful_before p (One_more e is more) lawful = lawful_before p more lawful.1

module _ (t : History) (whole : IsLawfulRun t) where
  abbrev pub p : Forest
  p = forest_of t

  pub forest : IsForest p
  forest = runs_have_forests t whole

  pub events_lawful : Lawful p (events_of t)
  events_lawful = just_runs_are_lawful t p (runs_by_trees_are_just t whole p (runs_go_by_forest t whole))

  pub inv_end : Inv p (events_of t)
  inv_end = inv p (events_of t) forest events_lawful

  module _ (hs : List Happening) (part : Part t whole hs) where
    pub added_end : Added Any (e_at t hs) (events_of t)
    added_end =
        let ends : events_of t ≡ events_from t.places t.commands (f_at t hs) part.rest (e_at t hs)
        = ap (λ xs. events_from t.places t.commands (first_facts t.places) xs []) (sym part.is) ∙ events_join t.places t.commands (first_facts t.places) hs part.rest [] in
        subst (λ e. Added Any (e_at t hs) e) (sym ends) (run_added t.places t.commands (f_at t hs) part.rest (e_at t hs))

    pub lawful_at : Lawful p (e_at t hs)
    lawful_at = lawful_before p added_end events_lawful

    pub inv_at : Inv p (e_at t hs)
    inv_at = inv p (e_at t hs) forest lawful_at
