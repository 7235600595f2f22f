-- At each moment of a lawful run a branch that decided has a row, by the records of its node, until it forgot, unless all beyond
-- it are gone without changes.
use Rattle.std.proofs.Common.{◌≡◌, ℕ, ◌⊎◌, Bool, true, false, if◌then◌else◌, List, [], ◌∷◌, ◌++◌, Option, Some, inl, inr, refl, sym, subst, arith, append-nil}
use Rattle.std.specs.Prelude.{IfSome}
use Rattle.std.specs.Option.{option_to_list}
use Rattle.tran_ids.proofs.BranchLemmas.{same_from_equal}
use Rattle.redo_record.specs.Durable.{durable_after}
use Rattle.redo_record.specs.Kept.{add_kept, kept_after}
use Rattle.redo_record.specs.Rows.{decided_as, has_neighbors}
use Rattle.agreement.specs.Events.{Forest, Event, Decided, Quiet, exit}
use Rattle.node_rules.specs.Data.{BranchId, RedoRecord}
use Rattle.node_rules.specs.Data.records
use Rattle.node_rules.specs.Records.{applied, nothing_stored, stored_by}
use Rattle.run_rules.specs.Data.{Happening, Turn}
use Rattle.run_rules.specs.Data.happenings
use Rattle.run_base_laws.specs.EventLaws.{EachEventFrom}
use Rattle.run_base_laws.specs.EventRows.{IsKeptIn, IsGoneForGood, MayStand}
use Rattle.run_rules.specs.Facts.{Facts, first_facts, records_at, facts_after}
use Rattle.run_base_laws.specs.IdLaws.{IsRecordOf}
use Rattle.run_rules.specs.Lawful.{MayHappen, History, IsLawfulRun, facts_at}
use Rattle.run_base_laws.specs.RunEvents.{events_after, events_from, events_of}
use Rattle.run_rules.proofs.AtNodeLemmas.{turn_elsewhere, turn_here, start_elsewhere, start_here}
use Rattle.run_base_laws.proofs.EventsStandLemmas.{node_so, owned_so, run_stands, tells_so}
use Rattle.run_branch_laws.proofs.KeptRowLemmas.{put_there, wrote_stay}
use Rattle.run_base_laws.proofs.LaterLemmas.{Added, Any, exit_later, exit_made, turn_added, stop_added}
use Rattle.run_base_laws.proofs.NodesStandLemmas.{stored_rows}
use Rattle.run_base_laws.proofs.StoredLemmas.{stored_with}
use Rattle.run_base_laws.proofs.TurnEventLemmas.{cases_nat, record_own}
use Rattle.tree_laws.specs.BeyondLaws.{RecordHeard, WritesHeard}
use Rattle.tree_laws.specs.Forests.{forest_of}
use Rattle.tree_laws.proofs.DecidedRowLemmas.{IsAlone}
use Rattle.tree_laws.proofs.PrefixLemmas.{so_far, f_at, e_at, one_on, more_on}
use Rattle.tree_laws.proofs.SettleRunLemmas.{records_heard}
use Rattle.tree_laws.proofs.SiteLemmas.{IsDecisionOf, wrote_decision, later_undecided}
use Rattle.tree_laws.proofs.TimeLemmas.{Part, may_of, each_at, keep_on}
use Rattle.tree_laws.proofs.MoreLemmas.{happening_added}
use Rattle.tree_laws.proofs.AtTurn.{at_happening}
use Rattle.tree_laws.proofs.DecidedRowLemmas.{done_later, nobody}

module _ (t : History) (whole : IsLawfulRun t) (b : BranchId) where
  abbrev p : Forest
  p = forest_of t

  abbrev Rowed : Facts → List Event → Type 0
  Rowed f e = IsKeptIn b (stored_rows f b.node) ⊎ (IsGoneForGood e b ⊎ IsAlone p e b)

  abbrev Stays : Facts → List Event → Type 0
  Stays f e = (n : ℕ) → exit e b ≡ Some (Decided n) → Rowed f e

  -- its row is there, or it is alone
  decided_there : (e : List Event) (rs : List RedoRecord) (w : Option RedoRecord) → IfSome w (RecordHeard p e) → IsDecisionOf b w → IsKeptIn b (stored_by nothing_stored (rs ++ option_to_list w)).durable.kept ⊎ IsAlone p e b
  unfolding applied durable_after kept_after
  decided_there e rs (Some (records.Decided r)) heard at = by (has_neighbors (decided_as r)) refl
    where
      by : (q : Bool) → has_neighbors (decided_as r) ≡ q → IsKeptIn b (stored_by nothing_stored (rs ++ records.Decided r ∷ [])).durable.kept ⊎ IsAlone p e b
      by false none = inr (subst (IsAlone p e) at (λ x edge. elim (heard.2 x edge) [ inl voted ↦ absurd (nobody r.parent r.children none x voted.0) | inr quiet ↦ quiet ]))
      by true some = inl (subst (λ x. IsKeptIn b x.durable.kept) (sym (stored_with rs (Some (records.Decided r))))
          (subst (λ q. IsKeptIn b (if q then add_kept (stored_by nothing_stored rs).durable.kept (decided_as r) else (stored_by nothing_stored rs).durable.kept)) (sym some)
          (put_there b (stored_by nothing_stored rs).durable.kept (decided_as r) (same_from_equal r.me b at))))
  decided_there e rs _ heard at = absurd at

  module _ (hs : List Happening) (h : Happening) (rest : List Happening) (is : hs ++ h ∷ rest ≡ t.trace) (now : Stays (f_at t hs) (e_at t hs)) where
    open at_happening t whole hs h rest is use {f, e, lawful}

    abbrev g : Happening → Facts
    g y = facts_after t.places t.commands f y

    abbrev r : Happening → List Event
    r y = events_after t.places t.commands f y e

    added : (y : Happening) → Added Any e (r y)
    added y = happening_added t.places t.commands f y e

    alone_later : (y : Happening) → IsAlone p e b → IsAlone p (r y) b
    alone_later y alone x edge = exit_later x Quiet (added y) (alone x edge)

    -- what was so stays so, with the same records
    same_stays : (y : Happening) → records_at (g y) b.node ≡ records_at f b.node → Rowed f e → Rowed (g y) (r y)
    same_stays y disk (inl row) = inl (subst (λ (xs : List RedoRecord). IsKeptIn b (stored_by nothing_stored xs).durable.kept) (sym disk) row)
    same_stays y disk (inr (inl done)) = inr (inl (done_later (added y) b done))
    same_stays y disk (inr (inr alone)) = inr (inr (alone_later y alone))

    module _ (u : Turn) (may : MayHappen t.places t.commands f (happenings.Turn u)) (turn : h ≡ happenings.Turn u) where
      abbrev y : Happening
      y = happenings.Turn u

      stand : IfSome u.wrote (MayStand e)
      stand = (tells_so t.places t.commands t.of_a_script.each f e y (run_stands (so_far t hs) lawful) may).0

      own : IfSome u.wrote (IsRecordOf (λ c. c.node ≡ u.node))
      own = record_own t.places t.commands t.of_a_script.each f e u may.0 (run_stands (so_far t hs) lawful).1 (run_stands (so_far t hs) lawful).0.even
          (node_so t.places t.commands t.of_a_script.each f e (run_stands (so_far t hs) lawful)) (owned_so t.places t.commands t.of_a_script.each f e (run_stands (so_far t hs) lawful)) may.1

      heard : IfSome u.wrote (RecordHeard p e)
      heard = subst (WritesHeard p f e) turn
          (each_at t.places t.commands (WritesHeard p) (first_facts t.places) hs h rest [] (subst (EachEventFrom (WritesHeard p) t.places t.commands (first_facts t.places) []) (sym is) (records_heard t whole)))

      disk_now : records_at (g y) u.node ≡ records_at f u.node ++ option_to_list u.wrote
      disk_now = (turn_here t.places t.commands f (run_stands (so_far t hs) lawful).0.even u may.0 may.1.up).1

      old_stays : Rowed f e → Rowed (g y) (r y)
      old_stays (inl row) = elim (cases_nat b.node u.node) [
        | inl at ↦ elim (wrote_stay b u.node e (records_at f u.node) u.wrote stand (subst (λ i. IsKeptIn b (stored_rows f i)) at row)) [
          | inl still ↦ inl (subst (λ i. IsKeptIn b (stored_rows (g y) i)) (sym at) (subst (λ (xs : List RedoRecord). IsKeptIn b (stored_by nothing_stored xs).durable.kept) (sym disk_now) still))
          | inr done ↦ inr (inl (done_later (turn_added f (g y) u e) b done))
        ]
        | inr other ↦ same_stays y (turn_elsewhere t.places t.commands f (run_stands (so_far t hs) lawful).0.even u b.node (λ it. other (sym it))).1 (inl row)
      ]
      old_stays (inr (inl done)) = inr (inl (done_later (added y) b done))
      old_stays (inr (inr alone)) = inr (inr (alone_later y alone))

      decided_here : (w : Option RedoRecord) → IfSome w (IsRecordOf (λ c. c.node ≡ u.node)) → IsDecisionOf b w → b.node ≡ u.node
      decided_here (Some (records.Decided x)) its at = subst (λ c. c.node ≡ u.node) at its
      decided_here _ its at = absurd at

      new_row : IsDecisionOf b u.wrote → Rowed (g y) (r y)
      new_row at = elim (decided_there e (records_at f u.node) u.wrote heard at) [
        | inl row ↦ inl (subst (λ i. IsKeptIn b (stored_rows (g y) i)) (sym (decided_here u.wrote own at)) (subst (λ (xs : List RedoRecord). IsKeptIn b (stored_by nothing_stored xs).durable.kept) (sym disk_now) row))
        | inr alone ↦ inr (inr (alone_later y alone))
      ]

      turn_stays : Stays (g y) (r y)
      turn_stays n decided = elim (exit_made b (Decided n) (turn_added f (g y) u e) decided) [
        | inl old ↦ elim (wrote_decision u.node e u.wrote b n old) [ inl before ↦ old_stays (now n before) | inr new ↦ new_row new ]
        | inr made ↦ absurd (later_undecided b n made.0 made.1 made.2)
      ]

    stop_stays : (n : ℕ) → Stays (g (happenings.Stopped n)) (r (happenings.Stopped n))
    unfolding facts_after
    stop_stays n m decided = elim (exit_made b (Decided m) (stop_added f f n e) decided) [
      | inl old ↦ same_stays (happenings.Stopped n) refl (now m old)
      | inr made ↦ absurd (later_undecided b m made.0 made.1 made.2)
    ]

    booted_row : (boot : ℕ) (rs : List RedoRecord) → IsKeptIn b (stored_by nothing_stored rs).durable.kept → IsKeptIn b (stored_by nothing_stored (rs ++ records.Boot boot ∷ [])).durable.kept
    unfolding applied durable_after
    booted_row boot rs has = subst (λ s. IsKeptIn b s.durable.kept) (sym (stored_with rs (Some (records.Boot boot)))) has

    start_stays : (n boot : ℕ) → MayHappen t.places t.commands f (happenings.Started n boot) → Stays (g (happenings.Started n boot)) (r (happenings.Started n boot))
    start_stays n boot may m decided = by (now m decided)
      where
        by : Rowed f e → Rowed (g (happenings.Started n boot)) e
        by (inr rest_so) = inr rest_so
        by (inl row) = elim (cases_nat b.node n) [
          | inl at ↦ inl (subst (λ i. IsKeptIn b (stored_rows (g (happenings.Started n boot)) i)) (sym at)
              (subst (λ (xs : List RedoRecord). IsKeptIn b (stored_by nothing_stored xs).durable.kept)
              (sym (start_here t.places t.commands f (run_stands (so_far t hs) lawful).0.even n boot may.there.0 (omega (arith, may.there.1, (run_stands (so_far t hs) lawful).1.many))).1)
              (booted_row boot (records_at f n) (subst (λ i. IsKeptIn b (stored_rows f i)) at row))))
          | inr other ↦ inl (subst (λ (xs : List RedoRecord). IsKeptIn b (stored_by nothing_stored xs).durable.kept)
              (sym (start_elsewhere t.places t.commands f (run_stands (so_far t hs) lawful).0.even n boot b.node (λ it. other (sym it))).1) row)
        ]

    stays_by : (y : Happening) → h ≡ y → MayHappen t.places t.commands f y → Stays (g y) (r y)
    unfolding facts_after
    stays_by (happenings.Turn u) turn may = turn_stays u may turn
    stays_by (happenings.Stopped n) it may = stop_stays n
    stays_by (happenings.Started n boot) it may = start_stays n boot may
    stays_by (happenings.Begun c) it may = now
    stays_by (happenings.Cut x z) it may = now
    stays_by (happenings.Join x z) it may = now
    stays_by (happenings.Lost k) it may = now

    stays_on : Stays (f_at t (hs ++ h ∷ [])) (e_at t (hs ++ h ∷ []))
    stays_on n decided =
        subst (λ x. IsKeptIn b (stored_rows x b.node) ⊎ (IsGoneForGood (e_at t (hs ++ h ∷ [])) b ⊎ IsAlone p (e_at t (hs ++ h ∷ [])) b)) (sym (one_on t hs h))
        (subst (λ x. IsKeptIn b (stored_rows (g h) b.node) ⊎ (IsGoneForGood x b ⊎ IsAlone p x b)) (sym (more_on t hs h)) (stays_by h refl (may_of t whole hs h rest is) n (subst (λ x. exit x b ≡ Some (Decided n)) (more_on t hs h) decided)))

  first_stays : Stays (f_at t []) (e_at t [])
  unfolding events_from
  first_stays n decided = absurd cc

  -- at each moment of the run, by the forest of the whole
  pub decided_at : (hs : List Happening) → Part t whole hs → (n : ℕ) → exit (e_at t hs) b ≡ Some (Decided n) → IsKeptIn b (stored_rows (f_at t hs) b.node) ⊎ (IsGoneForGood (e_at t hs) b ⊎ IsAlone p (e_at t hs) b)
  decided_at hs part = keep_on t whole (λ xs. Stays (f_at t xs) (e_at t xs)) stays_on [] hs part first_stays

  pub decided_end : (n : ℕ) → exit (events_of t) b ≡ Some (Decided n) → IsKeptIn b (stored_rows (facts_at t) b.node) ⊎ (IsGoneForGood (events_of t) b ⊎ IsAlone (forest_of t) (events_of t) b)
  decided_end = decided_at t.trace (record { rest = []; is = append-nil t.trace })
