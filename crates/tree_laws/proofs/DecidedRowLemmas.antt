-- In every lawful run a branch that decided has a row, by the records of its node, until it forgot, unless all beyond it are gone without
-- changes: a site without neighbours keeps none.
use Rattle.std.proofs.Common.{◌≡◌, ℕ, ◌||◌, Bool, true, false, if◌then◌else◌, List, [], ◌∷◌, ◌++◌, map, is_some, slice_get, Option, Some, None, refl, sym, subst, ◌⊎◌, inl, inr}
use Rattle.std.specs.Prelude.{IfSome}
use Rattle.std.specs.Option.{option_to_list}
use Rattle.tran_ids.proofs.BranchLemmas.{same_from_equal}
use Rattle.node_rules.specs.Data.{Decided as DecidedRecord, Peer}
use Rattle.redo_record.specs.Durable.{durable_after}
use Rattle.redo_record.specs.Kept.{add_kept, kept_after}
use Rattle.redo_record.specs.Rows.{kid_of, decided_as, has_neighbors}
use Rattle.node_rules.specs.Data.{BranchId, RedoRecord, Place}
use Rattle.node_rules.specs.Data.records
use Rattle.node_rules.specs.Records.{applied, nothing_stored, stored_by}
use Rattle.node_rules.specs.Words.{numbered}
use Rattle.agreement.specs.Events.{Forest, Event, Beyond, Decided, Quiet, Forget, exit}
use Rattle.run_rules.specs.Data.{Turn, Happening, Command}
use Rattle.run_rules.specs.Data.happenings
use Rattle.run_rules.specs.Facts.{Facts, first_facts, records_at, facts_after}
use Rattle.run_base_laws.specs.IdLaws.{IsRecordOf}
use Rattle.run_rules.specs.Lawful.{IsPlace, MayHappen, IsLawful, History, IsLawfulRun}
use Rattle.run_base_laws.specs.RunEvents.{events_after}
use Rattle.run_base_laws.specs.EventRows.{IsKeptIn, IsGoneForGood}
use Rattle.run_base_laws.specs.EventLaws.{EachEventFrom, AtEachEvent}
use Rattle.run_base_laws.proofs.EventsStandLemmas.{BranchStatus, stand_on, stand_first}
use Rattle.run_base_laws.proofs.LaterLemmas.{Added, Any, added_on, added_wider, exit_made, learned_later, has_later, wrote_added, turn_added, stop_added}
use Rattle.run_base_laws.proofs.NodesStandLemmas.{stored_rows}
use Rattle.run_base_laws.proofs.StoredLemmas.{stored_with}
use Rattle.tree_laws.specs.BeyondLaws.{IsNamed, RecordHeard, WritesHeard}
use Rattle.tree_laws.specs.Forests.{forest_of}
use Rattle.tree_laws.proofs.NameLemmas.{exit_on}
use Rattle.run_branch_laws.proofs.KeptRowLemmas.{own_record, records_now, row_after, started_row, put_there}
use Rattle.tree_laws.proofs.SettleRunLemmas.{records_heard}
use Rattle.tree_laws.proofs.SiteLemmas.{IsDecisionOf, wrote_decision, later_undecided}

-- all beyond a branch are gone without changes
abbrev pub IsAlone : Forest → List Event → BranchId → Type 0
IsAlone p t b = (x : BranchId) → Beyond p x b → exit t x ≡ Some Quiet

-- a branch that decided has a row, is done, or is alone
abbrev pub DecidedStays : Forest → Facts → List Event → Type 0
DecidedStays p f t = (b : BranchId) (n : ℕ) → exit t b ≡ Some (Decided n) → IsKeptIn b (stored_rows f b.node) ⊎ (IsGoneForGood t b ⊎ IsAlone p t b)

pub done_later : {Q : Event → Type 0} {t r : List Event} → Added Q t r → (b : BranchId) → IsGoneForGood t b → IsGoneForGood r b
done_later more b (inl learns) = inl (learned_later b _ more learns)
done_later more b (inr forgot) = inr (has_later (Forget b) more forgot)

-- a site without a parent and without children in its record has nobody that it names
pub nobody : (parent : Option BranchId) (ps : List Peer) → (is_some parent || is_some (slice_get (map kid_of ps) 0)) ≡ false → (x : BranchId) → IsNamed parent (map (λ (c : Peer). c.branch) ps) x → ⊥
nobody (Some q) ps none x named = absurd cc
nobody None (c ∷ ps) none x named = absurd cc
nobody None [] none x (inl up) = absurd cc
nobody None [] none x (inr down) = absurd cc

module _ (p : Forest) where
  alone_now : (t : List Event) (r : DecidedRecord) → RecordHeard p t (records.Decided r) → has_neighbors (decided_as r) ≡ false → IsAlone p t r.me
  alone_now t r heard none x edge = elim (heard.2 x edge) [
    | inl voted ↦ absurd (nobody r.parent r.children none x voted.0)
    | inr quiet ↦ quiet
  ]

  -- its row is there, or it is alone
  decided_there : (t : List Event) (b : BranchId) (rs : List RedoRecord) (w : Option RedoRecord) → IfSome w (RecordHeard p t) → IsDecisionOf b w → IsKeptIn b (stored_by nothing_stored (rs ++ option_to_list w)).durable.kept ⊎ IsAlone p t b
  unfolding applied durable_after kept_after
  decided_there t b rs (Some (records.Decided r)) heard at = by (has_neighbors (decided_as r)) refl
    where
      by : (q : Bool) → has_neighbors (decided_as r) ≡ q → IsKeptIn b (stored_by nothing_stored (rs ++ records.Decided r ∷ [])).durable.kept ⊎ IsAlone p t b
      by false none = inr (subst (IsAlone p t) at (alone_now t r heard none))
      by true some = inl (subst (λ x. IsKeptIn b x.durable.kept) (sym (stored_with rs (Some (records.Decided r))))
          (subst (λ q. IsKeptIn b (if q then add_kept (stored_by nothing_stored rs).durable.kept (decided_as r) else (stored_by nothing_stored rs).durable.kept)) (sym some)
          (put_there b (stored_by nothing_stored rs).durable.kept (decided_as r) (same_from_equal r.me b at))))
  decided_there t b rs _ heard at = absurd at

  module _ (places : List Place) (asked : List Command) (each : (n : ℕ) (q : Place) → numbered places n ≡ Some q → IsPlace places n q) (f : Facts) (t : List Event) (stand : BranchStatus places asked each f t) (now : DecidedStays p f t) where
    alone_later : (h : Happening) (b : BranchId) → IsAlone p t b → IsAlone p (events_after places asked f h t) b
    alone_later h b alone x edge = exit_on p places asked f t h x Quiet (alone x edge)

    module _ (u : Turn) (may : MayHappen places asked f (happenings.Turn u)) (heard : IfSome u.wrote (RecordHeard p t)) where
      abbrev g : Facts
      g = facts_after places asked f (happenings.Turn u)

      abbrev r : List Event
      r = events_after places asked f (happenings.Turn u) t

      decided_here : (w : Option RedoRecord) (b : BranchId) → IfSome w (IsRecordOf (λ c. c.node ≡ u.node)) → IsDecisionOf b w → b.node ≡ u.node
      decided_here (Some (records.Decided x)) b own at = subst (λ c. c.node ≡ u.node) at own
      decided_here _ b own at = absurd at

      new_row : (b : BranchId) → IsDecisionOf b u.wrote → IsKeptIn b (stored_rows g b.node) ⊎ IsAlone p t b
      new_row b at =
          subst (λ i. IsKeptIn b (stored_rows g i) ⊎ IsAlone p t b) (sym (decided_here u.wrote b (own_record places asked each f t stand u may) at))
          (subst (λ (xs : List RedoRecord). IsKeptIn b (stored_by nothing_stored xs).durable.kept ⊎ IsAlone p t b) (sym (records_now places asked each f t stand u may)) (decided_there t b (records_at f u.node) u.wrote heard at))

      old_stays : (b : BranchId) → IsKeptIn b (stored_rows f b.node) ⊎ (IsGoneForGood t b ⊎ IsAlone p t b) → IsKeptIn b (stored_rows g b.node) ⊎ (IsGoneForGood r b ⊎ IsAlone p r b)
      old_stays b (inl row) = elim (row_after places asked each f t stand u may b row) [ inl still ↦ inl still | inr done ↦ inr (inl (done_later (turn_added f g u t) b done)) ]
      old_stays b (inr (inl done)) = inr (inl (done_later (added_on (wrote_added u t) (added_wider {R = Any} (λ e is. tt) (turn_added f g u t))) b done))
      old_stays b (inr (inr alone)) = inr (inr (alone_later (happenings.Turn u) b alone))

      turn_stays : DecidedStays p g r
      turn_stays b n decided = elim (exit_made b (Decided n) (turn_added f g u t) decided) [
        | inl old ↦ elim (wrote_decision u.node t u.wrote b n old) [
          | inl before ↦ old_stays b (now b n before)
          | inr new ↦ elim (new_row b new) [ inl row ↦ inl row | inr alone ↦ inr (inr (alone_later (happenings.Turn u) b alone)) ]
        ]
        | inr made ↦ absurd (later_undecided b n made.0 made.1 made.2)
      ]

    stop_stays : (n : ℕ) → DecidedStays p (facts_after places asked f (happenings.Stopped n)) (events_after places asked f (happenings.Stopped n) t)
    unfolding facts_after
    stop_stays n b m decided = elim (exit_made b (Decided m) (stop_added f f n t) decided) [
      | inl old ↦ elim (now b m old) [
        | inl row ↦ inl row
        | inr rest ↦ elim rest [ inl done ↦ inr (inl (done_later (stop_added f f n t) b done)) | inr alone ↦ inr (inr (alone_later (happenings.Stopped n) b alone)) ]
      ]
      | inr made ↦ absurd (later_undecided b m made.0 made.1 made.2)
    ]

    module _ (n boot : ℕ) (may : MayHappen places asked f (happenings.Started n boot)) where
      abbrev h : Facts
      h = facts_after places asked f (happenings.Started n boot)

      start_stays : DecidedStays p h (events_after places asked f (happenings.Started n boot) t)
      start_stays b m decided = elim (now b m decided) [ inl row ↦ inl (started_row places asked each f t stand n boot may b row) | inr rest ↦ inr rest ]

    stays_on : (h : Happening) → MayHappen places asked f h → WritesHeard p f t h → DecidedStays p (facts_after places asked f h) (events_after places asked f h t)
    unfolding facts_after
    stays_on (happenings.Turn u) may heard = turn_stays u may heard
    stays_on (happenings.Stopped n) may heard = stop_stays n
    stays_on (happenings.Started n boot) may heard = start_stays n boot may
    stays_on _ may heard = now

  module _ (places : List Place) (asked : List Command) (each : (n : ℕ) (q : Place) → numbered places n ≡ Some q → IsPlace places n q) where
    stays_each : (f : Facts) (t : List Event) (hs : List Happening) → BranchStatus places asked each f t → DecidedStays p f t → IsLawful places asked f hs → EachEventFrom (WritesHeard p) places asked f t hs → EachEventFrom (λ g e h. DecidedStays p g e) places asked f t hs
    unfolding IsLawful
    stays_each f t [] stand now lawful heard = tt
    stays_each f t (h ∷ hs) stand now lawful heard = (
      now,
      stays_each (facts_after places asked f h) (events_after places asked f h t) hs (stand_on places asked each f t h stand lawful.0) (stays_on places asked each f t stand now h lawful.0 heard.0) lawful.1 heard.1,
    )

-- before each happening of a run
pub run_decided : (t : History) → IsLawfulRun t → AtEachEvent (λ f e h. DecidedStays (forest_of t) f e) t
run_decided t lawful =
    stays_each (forest_of t) t.places t.commands t.of_a_script.each (first_facts t.places) [] t.trace (stand_first t.places t.commands t.of_a_script.each) (λ b n is. absurd cc) lawful (records_heard t lawful)
