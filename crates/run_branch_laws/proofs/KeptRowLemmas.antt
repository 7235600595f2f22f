-- A sealed branch has a row, by the records of its node, until it learned a rollback or forgot.
use Rattle.std.proofs.Common.{◌≡◌, ℕ, arith, ◌||◌, ◌&&◌, not, Bool, true, false, true≢false, List, [], ◌∷◌, ◌++◌, map, if◌then◌else◌, Option, Some, None, refl, sym, ap, subst, ◌∙◌, ◌⊎◌, inl, inr}
use Rattle.std.specs.Prelude.{IfSome}
use Rattle.std.specs.Option.{option_to_list}
use Rattle.std.specs.List.{list_any}
use Rattle.std.proofs.lemmas.Bool.{cond_both, or_left, or_right}
use Rattle.tran_ids.specs.Branch.{branch_below}
use Rattle.tran_ids.proofs.BranchLemmas.{equal_from_same, same_from_equal}
use Rattle.redo_record.specs.Kept.{stands_at, add_kept, ended_commit, forced_state, in_state, met_as, forgot_as, is_done, hidden_as, kept_after}
use Rattle.redo_record.specs.Durable.{durable_after}
use Rattle.redo_record.specs.Rows.{sealed_as, decided_as, has_neighbors}
use Rattle.agreement.specs.Events.{Sealed, Decided, Quiet, Dropped, Event, Learn, Forget, first, only_at, exit_by, exit, learned_by, learned}
use Rattle.agreement.proofs.EventLemmas.{first_is, only_at_is}
use Rattle.node_rules.specs.Data.{BranchId, KeptRow, RedoRecord, Place}
use Rattle.node_rules.specs.Data.decisions
use Rattle.node_rules.specs.Data.records
use Rattle.node_rules.specs.Data.params
use Rattle.node_rules.specs.Words.{same, numbered, change_where, drop_where}
use Rattle.node_rules.specs.NodeState.{Stored}
use Rattle.node_rules.specs.Records.{applied, nothing_stored, stored_by}
use Rattle.run_rules.specs.Data.{Turn, Happening, Command}
use Rattle.run_rules.specs.Data.happenings
use Rattle.run_rules.specs.Facts.{Facts, first_facts, records_at, facts_after}
use Rattle.run_rules.specs.Lawful.{IsPlace, MayHappen}
use Rattle.run_base_laws.specs.IdLaws.{IsRecordOf}
use Rattle.run_base_laws.specs.RunEvents.{with_event, wrote_event, record_event, with_record, events_after}
use Rattle.run_base_laws.specs.EventRows.{MayStand, IsKeptIn, IsGoneForGood}
use Rattle.run_base_laws.specs.EventLaws.{SealedAreKept}
use Rattle.run_base_laws.proofs.StoredLemmas.{stored_with}
use Rattle.run_base_laws.proofs.LaterLemmas.{Added, Later, Was_said, Was_quiet, Was_dropped, learned_later, has_later, exit_made, turn_added, stop_added, events_keep}
use Rattle.run_base_laws.proofs.RowEventLemmas.{same_turned, learned_now}
use Rattle.run_base_laws.proofs.NodesStandLemmas.{stored_rows}
use Rattle.run_rules.proofs.AtNodeLemmas.{turn_elsewhere, turn_here, start_elsewhere, start_here}
use Rattle.run_base_laws.proofs.TurnEventLemmas.{cases_nat, record_may, record_own}
use Rattle.run_base_laws.proofs.EventsStandLemmas.{BranchStatus, node_so, owned_so, stand_on, stand_first}

-- ---- rows

module _ (b : BranchId) where
  or_is : (q r : Bool) → (q || r) ≡ true → (q ≡ true) ⊎ (r ≡ true)
  or_is true r is = inl refl
  or_is false r is = inr is

  -- a row that is put in is there
  pub put_there : (ks : List KeptRow) (x : KeptRow) → same x.me b ≡ true → IsKeptIn b (add_kept ks x)
  put_there [] x here = or_left (same x.me b) false here
  put_there (y ∷ ys) x here =
      cond_both (branch_below x.me y.me) _ _ (IsKeptIn b) (λ below. or_left (same x.me b) (list_any (stands_at b) (y ∷ ys)) here)
      (λ later. or_right (same y.me b) (list_any (stands_at b) (add_kept ys x)) (put_there ys x here))

  -- and the others stay
  put_stays : (ks : List KeptRow) (x : KeptRow) → IsKeptIn b ks → IsKeptIn b (add_kept ks x)
  put_stays [] x has = absurd cc
  put_stays (y ∷ ys) x has =
      cond_both (branch_below x.me y.me) _ _ (IsKeptIn b) (λ below. or_right (same x.me b) (list_any (stands_at b) (y ∷ ys)) has)
      (λ later. elim (or_is (same y.me b) (list_any (stands_at b) ys) has) [
        | inl here ↦ or_left (same y.me b) (list_any (stands_at b) (add_kept ys x)) here
        | inr there ↦ or_right (same y.me b) (list_any (stands_at b) (add_kept ys x)) (put_stays ys x there)
      ])

  pub any_map : (h : KeptRow → KeptRow) → ((x : KeptRow) → (h x).me ≡ x.me) → (ks : List KeptRow) → list_any (stands_at b) (map h ks) ≡ list_any (stands_at b) ks
  any_map h me [] = refl
  any_map h me (x ∷ ks) = ap (λ m. same m b || list_any (stands_at b) (map h ks)) (me x) ∙ ap (λ q. same x.me b || q) (any_map h me ks)

  -- rows that are changed stay
  changed_stays : (c : BranchId) (g : KeptRow → KeptRow) → ((x : KeptRow) → (g x).me ≡ x.me) → (ks : List KeptRow) → IsKeptIn b ks → IsKeptIn b (change_where (stands_at c) g ks)
  changed_stays c g me ks has = any_map (λ x. if stands_at c x then g x else x) (λ x. cond_both (stands_at c x) (g x) x (λ y. y.me ≡ x.me) (λ here. me x) (λ other. refl)) ks ∙ has

  -- and so does the branch's own, where others are left out
  left_stays : (p : KeptRow → Bool) → ((x : KeptRow) → same x.me b ≡ true → p x ≡ false) → (ks : List KeptRow) → IsKeptIn b ks → IsKeptIn b (drop_where p ks)
  left_stays p own [] has = absurd cc
  left_stays p own (x ∷ ks) has =
      cond_both (not (p x)) _ _ (IsKeptIn b)
      (λ stays. elim (or_is (same x.me b) (list_any (stands_at b) ks) has) [
        | inl here ↦ or_left (same x.me b) (list_any (stands_at b) (drop_where p ks)) here
        | inr there ↦ or_right (same x.me b) (list_any (stands_at b) (drop_where p ks)) (left_stays p own ks there)
      ])
      (λ goes. elim (or_is (same x.me b) (list_any (stands_at b) ks) has) [
        | inl here ↦ absurd (true≢false (sym (ap not (own x here)) ∙ goes))
        | inr there ↦ left_stays p own ks there
      ])

  own_row : (c : BranchId) → same c b ≡ false → (x : KeptRow) → same x.me b ≡ true → same x.me c ≡ false
  own_row c other x here = ap (λ m. same m c) (equal_from_same x.me b here) ∙ same_turned c b other

  module _ (n : ℕ) (t : List Event) where
    ended_done : (c : BranchId) (mixed : Option Bool) → learned t c ≡ None → same c b ≡ true → IsGoneForGood (Learn c decisions.Rollback mixed ∷ t) b
    ended_done c mixed none at = inl (learned_now t c b decisions.Rollback mixed none (sym (equal_from_same c b at)))

    -- the row stays with one record more, or the branch is done
    rows_stay : (ks : List KeptRow) (r : RedoRecord) → MayStand t r → IsKeptIn b ks → IsKeptIn b (kept_after ks r) ⊎ IsGoneForGood (with_event (record_event n r) t) b
    unfolding kept_after
    rows_stay ks (records.Sealed r) may has = inl (put_stays ks (sealed_as r) has)
    rows_stay ks (records.Decided r) may has = inl (cond_both (has_neighbors (decided_as r)) _ _ (IsKeptIn b) (λ kept. put_stays ks (decided_as r) has) (λ alone. has))
    rows_stay ks (records.Ended c (decisions.Commit m)) may has = inl (changed_stays c (ended_commit m) (λ x. refl) ks has)
    rows_stay ks (records.Ended c decisions.Rollback) may has = by (same c b) refl
      where
        by : (here : Bool) → same c b ≡ here → IsKeptIn b (drop_where (stands_at c) ks) ⊎ IsGoneForGood (Learn c decisions.Rollback None ∷ t) b
        by true at = inr (ended_done c None may.1 at)
        by false at = inl (left_stays (stands_at c) (own_row c at) ks has)
    rows_stay ks (records.Forced c d given) may has = inl (changed_stays c (in_state (forced_state d)) (λ x. refl) ks has)
    rows_stay ks (records.Met c d true) may has = inl (changed_stays c (met_as d true) (λ x. refl) ks has)
    rows_stay ks (records.Met c (decisions.Commit m) false) may has = inl (changed_stays c (met_as (decisions.Commit m) false) (λ x. refl) ks has)
    rows_stay ks (records.Met c decisions.Rollback false) may has = by (same c b) refl
      where
        by : (here : Bool) → same c b ≡ here → IsKeptIn b (drop_where (stands_at c) ks) ⊎ IsGoneForGood (Learn c decisions.Rollback (Some false) ∷ t) b
        by true at = inr (ended_done c (Some false) may.1 at)
        by false at = inl (left_stays (stands_at c) (own_row c at) ks has)
    rows_stay ks (records.Forgot c) may has = by (same c b) refl
      where
        by : (here : Bool) → same c b ≡ here → IsKeptIn b (change_where (stands_at c) forgot_as (drop_where (is_done c) ks)) ⊎ IsGoneForGood (Forget c ∷ t) b
        by true at = inr (inr (inl (ap Forget (equal_from_same c b at))))
        by false at = inl (changed_stays c forgot_as (λ x. refl) (drop_where (is_done c) ks) (left_stays (is_done c) (λ x here. ap (λ q. q && not x.mixed) (own_row c at x here)) ks has))
    rows_stay ks (records.Hidden c) may has = inl (changed_stays c hidden_as (λ x. refl) ks has)
    rows_stay ks _ may has = inl has

    stored_stay : (s : Stored) (r : RedoRecord) → MayStand t r → IsKeptIn b s.durable.kept → IsKeptIn b (applied s r).durable.kept ⊎ IsGoneForGood (with_event (record_event n r) t) b
    unfolding applied durable_after
    stored_stay s (records.Boot m) may has = inl has
    stored_stay s (records.Table table) may has = inl has
    stored_stay s (records.Link l) may has = inl has
    stored_stay s (records.Synonym y) may has = inl has
    stored_stay s (records.Param (params.Recovery on)) may has = inl has
    stored_stay s (records.Param (params.Strength strength)) may has = inl has
    stored_stay s r may has = rows_stay s.durable.kept r may has

    pub wrote_stay : (rs : List RedoRecord) (w : Option RedoRecord) → IfSome w (MayStand t) → IsKeptIn b (stored_by nothing_stored rs).durable.kept
        → IsKeptIn b (stored_by nothing_stored (rs ++ option_to_list w)).durable.kept ⊎ IsGoneForGood (with_event (wrote_event n w) t) b
    wrote_stay rs None may has = inl (subst (λ s. IsKeptIn b s.durable.kept) (sym (stored_with rs None)) has)
    wrote_stay rs (Some r) may has =
        subst (λ s. IsKeptIn b s.durable.kept ⊎ IsGoneForGood (with_event (record_event n r) t) b) (sym (stored_with rs (Some r))) (stored_stay (stored_by nothing_stored rs) r may has)

-- ---- events

-- a branch that is done stays so
done_later : {Q : Event → Type 0} {t r : List Event} → Added Q t r → (b : BranchId) → IsGoneForGood t b → IsGoneForGood r b
done_later more b (inl learns) = inl (learned_later b decisions.Rollback more learns)
done_later more b (inr forgot) = inr (has_later (Forget b) more forgot)

done_with : (o : Option Event) (t : List Event) (b : BranchId) → IsGoneForGood t b → IsGoneForGood (with_event o t) b
done_with None t b done = done
done_with (Some e) t b (inl learns) = inl (ap (λ o. first o (learned_by e b)) learns)
done_with (Some e) t b (inr forgot) = inr (inr forgot)

-- a seal is by a record alone
later_unsealed : {before after : List BranchId} (b : BranchId) (m : ℕ) (e : Event) → Later before after e → exit_by e b ≡ Some (Sealed m) → ⊥
later_unsealed b m e (Was_said x none) is = let no : None ≡ Some (Sealed m) = sym (none b).0 ∙ is in absurd cc
later_unsealed b m e (Was_quiet c was gone) is = let at = only_at_is c b Quiet (Sealed m) is in absurd (cc (at.1))
later_unsealed b m e (Was_dropped c was gone) is = let at = only_at_is c b Dropped (Sealed m) is in absurd (cc (at.1))

-- it is the seal of this branch
abbrev pub IsSealOf : BranchId → Option RedoRecord → Type 0
IsSealOf b (Some (records.Sealed s)) = s.me ≡ b
IsSealOf b _ = ⊥

none_new : (t : List Event) (b : BranchId) (m : ℕ) (w : Option RedoRecord) → first (exit t b) None ≡ Some (Sealed m) → (exit t b ≡ Some (Sealed m)) ⊎ IsSealOf b w
none_new t b m w is = elim (first_is (exit t b) None (Sealed m) is) [ inl old ↦ inl old | inr new ↦ (let no : None ≡ Some (Sealed m) = new.1 in absurd cc) ]

pub wrote_seal : (n : ℕ) (t : List Event) (w : Option RedoRecord) (b : BranchId) (m : ℕ) → exit (with_event (wrote_event n w) t) b ≡ Some (Sealed m) → (exit t b ≡ Some (Sealed m)) ⊎ IsSealOf b w
wrote_seal n t None b m is = inl is
wrote_seal n t (Some (records.Sealed s)) b m is =
    elim (first_is (exit t b) (only_at s.me b (Sealed s.scn)) (Sealed m) is) [ inl old ↦ inl old | inr new ↦ inr (only_at_is s.me b (Sealed s.scn) (Sealed m) new.1).0 ]
wrote_seal n t (Some (records.Decided s)) b m is =
    elim (first_is (exit t b) (only_at s.me b (Decided s.scn)) (Sealed m) is) [ inl old ↦ inl old | inr new ↦ (let at = only_at_is s.me b (Decided s.scn) (Sealed m) new.1 in absurd (cc (at.1))) ]
wrote_seal n t (Some (records.Ended c d)) b m is = none_new t b m (Some (records.Ended c d)) is
wrote_seal n t (Some (records.Forced c d given)) b m is = none_new t b m (Some (records.Forced c d given)) is
wrote_seal n t (Some (records.Met c d mixed)) b m is = none_new t b m (Some (records.Met c d mixed)) is
wrote_seal n t (Some (records.Forgot c)) b m is = none_new t b m (Some (records.Forgot c)) is
wrote_seal n t (Some (records.Table table)) b m is = none_new t b m (Some (records.Table table)) is
wrote_seal n t (Some _) b m is = inl is

-- its row is there
seal_there : (b : BranchId) (rs : List RedoRecord) (w : Option RedoRecord) → IsSealOf b w → IsKeptIn b (stored_by nothing_stored (rs ++ option_to_list w)).durable.kept
unfolding applied durable_after kept_after
seal_there b rs (Some (records.Sealed s)) at =
    subst (λ x. IsKeptIn b x.durable.kept) (sym (stored_with rs (Some (records.Sealed s)))) (put_there b (stored_by nothing_stored rs).durable.kept (sealed_as s) (same_from_equal s.me b at))
seal_there b rs _ at = absurd at

-- ---- happenings

-- a sealed branch has a row until it is done
abbrev pub StaysKept : Facts → List Event → Type 0
StaysKept f t = (b : BranchId) (m : ℕ) → exit t b ≡ Some (Sealed m) → IsKeptIn b (stored_rows f b.node) ⊎ IsGoneForGood t b

module _ (places : List Place) (asked : List Command) (each : (n : ℕ) (p : Place) → numbered places n ≡ Some p → IsPlace places n p) (f : Facts) (t : List Event) (stand : BranchStatus places asked each f t) where
  -- rows after a turn
  module _ (u : Turn) (may : MayHappen places asked f (happenings.Turn u)) where
    abbrev after : Facts
    after = facts_after places asked f (happenings.Turn u)

    may_stand : IfSome u.wrote (MayStand t)
    may_stand = record_may places asked each f t u may.0 stand.1 stand.0.even (node_so places asked each f t stand) (owned_so places asked each f t stand) may.1

    pub own_record : IfSome u.wrote (IsRecordOf (λ b. b.node ≡ u.node))
    own_record = record_own places asked each f t u may.0 stand.1 stand.0.even (node_so places asked each f t stand) (owned_so places asked each f t stand) may.1

    pub records_now : records_at after u.node ≡ records_at f u.node ++ option_to_list u.wrote
    records_now = (turn_here places asked f stand.0.even u may.0 may.1.up).1

    pub row_after : (b : BranchId) → IsKeptIn b (stored_rows f b.node) → IsKeptIn b (stored_rows after b.node) ⊎ IsGoneForGood (with_record u t) b
    row_after b has = elim (cases_nat b.node u.node) [
      | inl at ↦ subst (λ i. IsKeptIn b (stored_rows after i) ⊎ IsGoneForGood (with_record u t) b) (sym at)
          (subst (λ (xs : List RedoRecord). IsKeptIn b (stored_by nothing_stored xs).durable.kept ⊎ IsGoneForGood (with_record u t) b) (sym records_now)
          (wrote_stay b u.node t (records_at f u.node) u.wrote may_stand (subst (λ i. IsKeptIn b (stored_rows f i)) at has)))
      | inr other ↦ inl (subst (λ (xs : List RedoRecord). IsKeptIn b (stored_by nothing_stored xs).durable.kept) (sym (turn_elsewhere places asked f stand.0.even u b.node (λ e. other (sym e))).1) has)
    ]

  -- rows after a start
  module _ (n boot : ℕ) (may : MayHappen places asked f (happenings.Started n boot)) where
    abbrev started : Facts
    started = facts_after places asked f (happenings.Started n boot)

    booted_row : (b : BranchId) (rs : List RedoRecord) → IsKeptIn b (stored_by nothing_stored rs).durable.kept → IsKeptIn b (stored_by nothing_stored (rs ++ records.Boot boot ∷ [])).durable.kept
    unfolding applied durable_after
    booted_row b rs has = subst (λ s. IsKeptIn b s.durable.kept) (sym (stored_with rs (Some (records.Boot boot)))) has

    pub started_row : (b : BranchId) → IsKeptIn b (stored_rows f b.node) → IsKeptIn b (stored_rows started b.node)
    started_row b has = elim (cases_nat b.node n) [
      | inl at ↦ subst (λ i. IsKeptIn b (stored_rows started i)) (sym at)
          (subst (λ (xs : List RedoRecord). IsKeptIn b (stored_by nothing_stored xs).durable.kept) (sym (start_here places asked f stand.0.even n boot may.there.0 (omega (arith, may.there.1, stand.1.many))).1)
          (booted_row b (records_at f n) (subst (λ i. IsKeptIn b (stored_rows f i)) at has)))
      | inr other ↦ subst (λ (xs : List RedoRecord). IsKeptIn b (stored_by nothing_stored xs).durable.kept) (sym (start_elsewhere places asked f stand.0.even n boot b.node (λ e. other (sym e))).1) has
    ]

module _ (places : List Place) (asked : List Command) (each : (n : ℕ) (p : Place) → numbered places n ≡ Some p → IsPlace places n p) (f : Facts) (t : List Event) (stand : BranchStatus places asked each f t)
    (kept : StaysKept f t) where
  module _ (u : Turn) (may : MayHappen places asked f (happenings.Turn u)) where
    abbrev g : Facts
    g = facts_after places asked f (happenings.Turn u)

    seal_here : (w : Option RedoRecord) (b : BranchId) → IfSome w (IsRecordOf (λ c. c.node ≡ u.node)) → IsSealOf b w → b.node ≡ u.node
    seal_here (Some (records.Sealed s)) b own at = subst (λ c. c.node ≡ u.node) at own
    seal_here _ b own at = absurd at

    new_row : (b : BranchId) → IsSealOf b u.wrote → IsKeptIn b (stored_rows g b.node)
    new_row b at =
        subst (λ i. IsKeptIn b (stored_rows g i)) (sym (seal_here u.wrote b (own_record places asked each f t stand u may) at))
        (subst (λ (xs : List RedoRecord). IsKeptIn b (stored_by nothing_stored xs).durable.kept) (sym (records_now places asked each f t stand u may)) (seal_there b (records_at f u.node) u.wrote at))

    row_now : (b : BranchId) (m : ℕ) → exit (with_record u t) b ≡ Some (Sealed m) → IsKeptIn b (stored_rows g b.node) ⊎ IsGoneForGood (with_record u t) b
    row_now b m sealed = elim (wrote_seal u.node t u.wrote b m sealed) [
      | inl old ↦ elim (kept b m old) [ inl row ↦ row_after places asked each f t stand u may b row | inr done ↦ inr (done_with (wrote_event u.node u.wrote) t b done) ]
      | inr new ↦ inl (new_row b new)
    ]

    turn_keeps : StaysKept g (events_after places asked f (happenings.Turn u) t)
    turn_keeps b m sealed = elim (exit_made b (Sealed m) (turn_added f g u t) sealed) [
      | inl old ↦ elim (row_now b m old) [ inl row ↦ inl row | inr done ↦ inr (done_later (turn_added f g u t) b done) ]
      | inr made ↦ absurd (later_unsealed b m made.0 made.1 made.2)
    ]

  stop_keeps : (n : ℕ) → StaysKept (facts_after places asked f (happenings.Stopped n)) (events_after places asked f (happenings.Stopped n) t)
  unfolding facts_after
  stop_keeps n b m sealed = elim (exit_made b (Sealed m) (stop_added f f n t) sealed) [
    | inl old ↦ elim (kept b m old) [ inl row ↦ inl row | inr done ↦ inr (done_later (stop_added f f n t) b done) ]
    | inr made ↦ absurd (later_unsealed b m made.0 made.1 made.2)
  ]

  module _ (n boot : ℕ) (may : MayHappen places asked f (happenings.Started n boot)) where
    abbrev h : Facts
    h = facts_after places asked f (happenings.Started n boot)

    start_keeps : StaysKept h (events_after places asked f (happenings.Started n boot) t)
    start_keeps b m sealed = elim (kept b m sealed) [ inl row ↦ inl (started_row places asked each f t stand n boot may b row) | inr done ↦ inr done ]

  pub keeps_on : (h : Happening) → MayHappen places asked f h → StaysKept (facts_after places asked f h) (events_after places asked f h t)
  unfolding facts_after
  keeps_on (happenings.Turn u) may = turn_keeps u may
  keeps_on (happenings.Stopped n) may = stop_keeps n
  keeps_on (happenings.Started n boot) may = start_keeps n boot may
  keeps_on _ may = kept

pub sealed_are_kept : SealedAreKept
sealed_are_kept t lawful b m sealed =
    (events_keep t.places t.commands (λ f s. BranchStatus t.places t.commands t.of_a_script.each f s × StaysKept f s)
    (λ f s h now may. (stand_on t.places t.commands t.of_a_script.each f s h now.0 may, keeps_on t.places t.commands t.of_a_script.each f s now.0 now.1 h may))
    (first_facts t.places) t.trace [] (stand_first t.places t.commands t.of_a_script.each, (λ c n is. absurd cc)) lawful).1 b m sealed
