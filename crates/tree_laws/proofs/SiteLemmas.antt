-- In every lawful run only sites decide, by the forest that the Prepares of the whole run make.
use Rattle.std.proofs.Common.{◌≡◌, ℕ, List, [], ◌∷◌, Option, Some, None, inl, inr, sym, subst, ◌∙◌, ◌⊎◌}
use Rattle.std.specs.Prelude.{IfSome}
use Rattle.node_rules.specs.Data.{BranchId, RedoRecord, Place}
use Rattle.node_rules.specs.Data.records
use Rattle.agreement.specs.Events.{Forest, Event, Sealed, Decided, Quiet, Dropped, first, only_at, exit_by, exit, site_of}
use Rattle.agreement.proofs.EventLemmas.{first_is, only_at_is}
use Rattle.run_rules.specs.Data.{Turn, Happening, Command}
use Rattle.run_rules.specs.Data.happenings
use Rattle.run_rules.specs.Facts.{Facts, first_facts, facts_after}
use Rattle.run_base_laws.specs.RunEvents.{wrote_event, with_event, with_record, events_after}
use Rattle.run_base_laws.specs.EventLaws.{EachEventFrom}
use Rattle.run_base_laws.proofs.LaterLemmas.{Later, Was_said, Was_quiet, Was_dropped, exit_made, turn_added, stop_added}
use Rattle.tree_laws.specs.FitLaws.{FitsForest, WritesInForest}
use Rattle.tree_laws.specs.Forests.{forest_of}
use Rattle.tree_laws.specs.MessageLaws.{DecidedAtSite, SitesDecide}
use Rattle.tree_laws.proofs.FitLemmas.{records_fit_forest}
use Rattle.tree_laws.proofs.PrefixLemmas.{fact_each}

-- a decision is by a record alone
pub later_undecided : {before after : List BranchId} (b : BranchId) (m : ℕ) (e : Event) → Later before after e → exit_by e b ≡ Some (Decided m) → ⊥
later_undecided b m e (Was_said x none) is = let no : None ≡ Some (Decided m) = sym (none b).0 ∙ is in absurd cc
later_undecided b m e (Was_quiet c was gone) is = let at = only_at_is c b Quiet (Decided m) is in absurd (cc (at.1))
later_undecided b m e (Was_dropped c was gone) is = let at = only_at_is c b Dropped (Decided m) is in absurd (cc (at.1))

-- it is the decision of this branch
abbrev pub IsDecisionOf : BranchId → Option RedoRecord → Type 0
IsDecisionOf b (Some (records.Decided r)) = r.me ≡ b
IsDecisionOf b _ = ⊥

none_new : (t : List Event) (b : BranchId) (m : ℕ) (w : Option RedoRecord) → first (exit t b) None ≡ Some (Decided m) → (exit t b ≡ Some (Decided m)) ⊎ IsDecisionOf b w
none_new t b m w is = elim (first_is (exit t b) None (Decided m) is) [ inl old ↦ inl old | inr new ↦ (let no : None ≡ Some (Decided m) = new.1 in absurd cc) ]

pub wrote_decision : (n : ℕ) (t : List Event) (w : Option RedoRecord) (b : BranchId) (m : ℕ) → exit (with_event (wrote_event n w) t) b ≡ Some (Decided m) → (exit t b ≡ Some (Decided m)) ⊎ IsDecisionOf b w
wrote_decision n t None b m is = inl is
wrote_decision n t (Some (records.Sealed r)) b m is =
    elim (first_is (exit t b) (only_at r.me b (Sealed r.scn)) (Decided m) is) [ inl old ↦ inl old | inr new ↦ (let at = only_at_is r.me b (Sealed r.scn) (Decided m) new.1 in absurd (cc (at.1))) ]
wrote_decision n t (Some (records.Decided r)) b m is =
    elim (first_is (exit t b) (only_at r.me b (Decided r.scn)) (Decided m) is) [ inl old ↦ inl old | inr new ↦ inr (only_at_is r.me b (Decided r.scn) (Decided m) new.1).0 ]
wrote_decision n t (Some (records.Ended c d)) b m is = none_new t b m (Some (records.Ended c d)) is
wrote_decision n t (Some (records.Forced c d given)) b m is = none_new t b m (Some (records.Forced c d given)) is
wrote_decision n t (Some (records.Met c d mixed)) b m is = none_new t b m (Some (records.Met c d mixed)) is
wrote_decision n t (Some (records.Forgot c)) b m is = none_new t b m (Some (records.Forgot c)) is
wrote_decision n t (Some (records.Table table)) b m is = none_new t b m (Some (records.Table table)) is
wrote_decision n t (Some _) b m is = inl is

module _ (p : Forest) where
  decision_at_site : (w : Option RedoRecord) (b : BranchId) → IfSome w (FitsForest p) → IsDecisionOf b w → b ≡ site_of p b
  decision_at_site (Some (records.Decided r)) b fits at = subst (λ c. c ≡ site_of p c) at fits.0
  decision_at_site _ b fits at = absurd at

  -- with the record of a turn
  pub wrote_at_site : (u : Turn) (t : List Event) → IfSome u.wrote (FitsForest p) → DecidedAtSite p t → DecidedAtSite p (with_record u t)
  wrote_at_site u t fits now b n is = elim (wrote_decision u.node t u.wrote b n is) [ inl old ↦ now b n old | inr new ↦ decision_at_site u.wrote b fits new ]

  module _ (places : List Place) (asked : List Command) where
    decided_on : (f : Facts) (t : List Event) (h : Happening) → WritesInForest p places f h → DecidedAtSite p t → DecidedAtSite p (events_after places asked f h t)
    decided_on f t (happenings.Turn u) fits now b n is = elim (exit_made b (Decided n) (turn_added f (facts_after places asked f (happenings.Turn u)) u t) is) [
      | inl old ↦ wrote_at_site u t fits now b n old
      | inr made ↦ absurd (later_undecided b n made.0 made.1 made.2)
    ]
    decided_on f t (happenings.Stopped m) fits now b n is = elim (exit_made b (Decided n) (stop_added f (facts_after places asked f (happenings.Stopped m)) m t) is) [
      | inl old ↦ now b n old
      | inr made ↦ absurd (later_undecided b n made.0 made.1 made.2)
    ]
    decided_on f t (happenings.Started m boot) fits now x n is = now x n is
    decided_on f t (happenings.Begun c) fits now x n is = now x n is
    decided_on f t (happenings.Cut a b) fits now x n is = now x n is
    decided_on f t (happenings.Join a b) fits now x n is = now x n is
    decided_on f t (happenings.Lost k) fits now x n is = now x n is

    decided_each : (f : Facts) (t : List Event) (hs : List Happening) → DecidedAtSite p t → EachEventFrom (λ g e h. WritesInForest p places g h) places asked f t hs → EachEventFrom (λ g e h. DecidedAtSite p e) places asked f t hs
    decided_each f t [] now fits = tt
    decided_each f t (h ∷ hs) now fits = (now, decided_each (facts_after places asked f h) (events_after places asked f h t) hs (decided_on f t h fits.0 now) fits.1)

pub sites_decide : SitesDecide
sites_decide t lawful =
    decided_each (forest_of t) t.places t.commands (first_facts t.places) [] t.trace (λ b n is. absurd cc)
    (fact_each t.places t.commands (WritesInForest (forest_of t) t.places) (first_facts t.places) [] t.trace (records_fit_forest t lawful))
