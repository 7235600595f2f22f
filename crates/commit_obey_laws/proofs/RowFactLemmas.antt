-- What the book and the records of a node have of one branch, against the events and its rows: each record keeps it so.
use Rattle.std.proofs.Common.{◌≡◌, ◌≢◌, ◌||◌, ◌&&◌, not, ℕ, Bool, true, false, if◌then◌else◌, List, [], ◌∷◌, ◌++◌, filter, map, Option, Some, None, inl, inr, refl, sym, ap, subst, ◌∙◌, append-nil}
use Rattle.std.specs.Prelude.{◌⊎◌, IfSome}
use Rattle.std.specs.List.{list_any}
use Rattle.std.proofs.lemmas.Bool.{cond_both}
use Rattle.std.proofs.lemmas.List.Folds.{list_any-append}
use Rattle.tran_ids.proofs.BranchLemmas.{equal_from_same}
use Rattle.redo_record.specs.Kept.{stands_at, add_kept, keep_decided, ended_commit, ended, forced_state, in_state, forced, met_as, met, forgot_as, is_done, forgotten, hidden_as, hidden, kept_after}
use Rattle.redo_record.specs.Rows.{sealed_as, decided_as, has_neighbors}
use Rattle.agreement.proofs.BookTests.{not_true}
use Rattle.agreement.specs.Events.{Exit, Sealed, Decided, Quiet, Dropped, Event, Make, Seal, Decide, Force, Learn, Forget, first, only_at, exit_by, exit, learned_by, learned, Knows}
use Rattle.node_rules.specs.Data.{BranchId, Decision, KeptRow, RedoRecord, Sealed as SealedRecord, Decided as DecidedRecord}
use Rattle.node_rules.specs.Data.decisions
use Rattle.node_rules.specs.Data.records
use Rattle.node_rules.specs.Words.{same, change_where, drop_where}
use Rattle.run_rules.specs.Book.{is_sealed_of, stands}
use Rattle.run_rules.specs.Data.{Entry}
use Rattle.run_rules.specs.Entries.{entry_of, entries_of}
use Rattle.run_base_laws.specs.EventRows.{MayStand}
use Rattle.run_base_laws.specs.IdLaws.{IsRecordOf}
use Rattle.run_base_laws.specs.RunEvents.{with_event, record_event}
use Rattle.commit_obey_laws.specs.RowStayLaws.{is_rollback_end_of, is_met_rollback_of, is_mixed_of, is_forgotten_of}
use Rattle.commit_obey_laws.proofs.RowMarkLemmas.{marks, marks_put, marks_new, marks_kept, marks_other, marks_set, drop_other, drop_own, done_other, done_own}

-- ---- what is known of a branch

-- Whether a branch is sealed, ended with a rollback, is mixed, met a rollback, forgot.
pub record BranchFacts : Type 0 where
  pub sealed : Bool
  pub rolled : Bool
  pub mixed : Bool
  pub met_back : Bool
  pub forgot : Bool

-- these five
abbrev facts_by : Bool → Bool → Bool → Bool → Bool → BranchFacts
facts_by s r m q f = record { sealed = s; rolled = r; mixed = m; met_back = q; forgot = f }

-- by the book and the records of its node
abbrev pub branch_facts : BranchId → List Entry → List RedoRecord → BranchFacts
branch_facts b book rs =
    facts_by (stands (is_sealed_of b) book) (stands (is_rollback_end_of b) book) (stands (is_mixed_of b) book) (stands (is_met_rollback_of b) book) (list_any (is_forgotten_of b) rs)

-- what is so of a branch, or is so by this
abbrev pub either_facts : BranchFacts → Bool → Bool → Bool → Bool → Bool → BranchFacts
either_facts x s r m q f = facts_by (x.sealed || s) (x.rolled || r) (x.mixed || m) (x.met_back || q) (x.forgot || f)

-- with one record more
abbrev pub with_record_facts : BranchId → ℕ → BranchFacts → RedoRecord → BranchFacts
with_record_facts b n x r =
    either_facts x (stands (is_sealed_of b) (entry_of n r)) (stands (is_rollback_end_of b) (entry_of n r)) (stands (is_mixed_of b) (entry_of n r)) (stands (is_met_rollback_of b) (entry_of n r)) (is_forgotten_of b r)

-- what is equal in all is one
five : (s r m q f s' r' m' q' f' : Bool) → s ≡ s' → r ≡ r' → m ≡ m' → q ≡ q' → f ≡ f' → facts_by s r m q f ≡ facts_by s' r' m' q' f'
five s r m q f s' r' m' q' f' a b c d e =
    ap (λ z. facts_by z r m q f) a
    ∙ (ap (λ z. facts_by s' z m q f) b ∙ (ap (λ z. facts_by s' r' z q f) c ∙ (ap (λ z. facts_by s' r' m' z f) d ∙ ap (λ z. facts_by s' r' m' q' z) e)))

or_none : (q : Bool) → (q || false) ≡ q
or_none true = refl
or_none false = refl

-- nothing more
pub facts_same : (x : BranchFacts) → either_facts x false false false false false ≡ x
facts_same x = five _ _ _ _ _ x.sealed x.rolled x.mixed x.met_back x.forgot (or_none x.sealed) (or_none x.rolled) (or_none x.mixed) (or_none x.met_back) (or_none x.forgot)

booked : (p : Entry → Bool) (n : ℕ) (book : List Entry) (r : RedoRecord) → stands p (book ++ entries_of n (Some r)) ≡ (stands p book || stands p (entry_of n r))
booked p n book r = list_any-append p book (entries_of n (Some r)) ∙ ap (λ es. stands p book || stands p es) (append-nil (entry_of n r))

pub facts_last : (b : BranchId) (n : ℕ) (book : List Entry) (rs : List RedoRecord) (r : RedoRecord)
    → branch_facts b (book ++ entries_of n (Some r)) (rs ++ r ∷ []) ≡ with_record_facts b n (branch_facts b book rs) r
facts_last b n book rs r =
    let all : BranchFacts = with_record_facts b n (branch_facts b book rs) r in
    five _ _ _ _ _ all.sealed all.rolled all.mixed all.met_back all.forgot (booked (is_sealed_of b) n book r) (booked (is_rollback_end_of b) n book r) (booked (is_mixed_of b) n book r)
    (booked (is_met_rollback_of b) n book r) (list_any-append (is_forgotten_of b) rs (r ∷ []) ∙ ap (λ q. list_any (is_forgotten_of b) rs || q) (or_none (is_forgotten_of b r)))

-- what a record adds, where it is of a branch of another node
module _ (b : BranchId) (n : ℕ) (other : b.node ≢ n) where
  apart : (c : BranchId) → c.node ≡ n → same c b ≡ false
  apart c at = not_true (same c b) (λ is. other (sym (ap (λ (z : BranchId). z.node) (equal_from_same c b is)) ∙ at))

  nothing_said : (r : RedoRecord) → IsRecordOf (λ c. c.node ≡ n) r
      → (stands (is_sealed_of b) (entry_of n r) ≡ false) × (stands (is_rollback_end_of b) (entry_of n r) ≡ false) × (stands (is_mixed_of b) (entry_of n r) ≡ false)
      × (stands (is_met_rollback_of b) (entry_of n r) ≡ false)
  nothing_said (records.Sealed r) own = (ap (λ q. q || false) (apart r.me own), refl, refl, refl)
  nothing_said (records.Ended c (decisions.Commit k)) own = (refl, refl, refl, refl)
  nothing_said (records.Ended c decisions.Rollback) own = (refl, ap (λ q. q || false) (apart c own), refl, refl)
  nothing_said (records.Met c (decisions.Commit k) mixed) own = (refl, refl, ap (λ q. (q && mixed) || false) (apart c own), refl)
  nothing_said (records.Met c decisions.Rollback mixed) own = (refl, refl, ap (λ q. (q && mixed) || false) (apart c own), ap (λ q. q || false) (apart c own))
  nothing_said _ own = (refl, refl, refl, refl)

  still : (p : Entry → Bool) (book : List Entry) (r : RedoRecord) → stands p (entry_of n r) ≡ false → stands p (book ++ entries_of n (Some r)) ≡ stands p book
  still p book r none = booked p n book r ∙ (ap (λ q. stands p book || q) none ∙ or_none (stands p book))

  pub facts_elsewhere : (book : List Entry) (rs : List RedoRecord) (w : Option RedoRecord) → IfSome w (IsRecordOf (λ c. c.node ≡ n)) → branch_facts b (book ++ entries_of n w) rs ≡ branch_facts b book rs
  facts_elsewhere book rs None own = ap (λ es. branch_facts b es rs) (append-nil book)
  facts_elsewhere book rs (Some r) own =
      let now : BranchFacts = branch_facts b book rs in
      let none = nothing_said r own in
      five _ _ _ _ _ now.sealed now.rolled now.mixed now.met_back now.forgot (still (is_sealed_of b) book r none.0) (still (is_rollback_end_of b) book r none.1) (still (is_mixed_of b) book r none.2)
      (still (is_met_rollback_of b) book r none.3) refl

-- ---- rows, events and records

-- whether the row of a branch of which this is so may go
abbrev pub goes_by : BranchFacts → Bool
goes_by x = x.rolled || (not x.mixed && (x.met_back || x.forgot))

-- the mark of its row then
abbrev pub left_by : BranchFacts → List Bool
left_by x = if goes_by x then [] else x.mixed ∷ []

-- of a branch that is live
abbrev pub no_facts : BranchFacts
no_facts = record { sealed = false; rolled = false; mixed = false; met_back = false; forgot = false }

-- and of one that was sealed just now
abbrev pub just_sealed : BranchFacts
just_sealed = record { sealed = true; rolled = false; mixed = false; met_back = false; forgot = false }

-- by how the branch stopped being live and what it learned: its rows, and what is known of it
abbrev pub RowStands : Option Exit → Option Decision → List Bool → BranchFacts → Type 0
RowStands None l ms x = (ms ≡ []) × (x ≡ no_facts)
RowStands (Some (Sealed m)) None ms x = (ms ≡ false ∷ []) × (x ≡ just_sealed)
RowStands (Some (Sealed m)) (Some d) ms x = ms ≡ left_by x
RowStands (Some (Decided m)) l ms x = x.sealed ≡ false
RowStands (Some Quiet) l ms x = x.sealed ≡ false
RowStands (Some Dropped) l ms x = x.sealed ≡ false

pub first_right : {A : Type 0} (o p : Option A) → p ≡ None → first o p ≡ o
first_right None p is = is
first_right (Some a) p is = refl

module _ (b : BranchId) (n : ℕ) (t : List Event) (untaught : exit t b ≡ None → learned t b ≡ None) (ks : List KeptRow) (x : BranchFacts) (now : RowStands (exit t b) (learned t b) (marks b ks) x) where
  -- what stands with one event more, or with none
  abbrev StandsWith : Option Event → List KeptRow → BranchFacts → Type 0
  StandsWith o rows y = RowStands (exit (with_event o t) b) (learned (with_event o t) b) (marks b rows) y

  -- the branch is sealed and has learned nothing
  sealed_now : (m : ℕ) → exit t b ≡ Some (Sealed m) → learned t b ≡ None → (marks b ks ≡ false ∷ []) × (x ≡ just_sealed)
  sealed_now m sealed none = subst (λ o. RowStands (Some (Sealed m)) o (marks b ks) x) none (subst (λ o. RowStands o (learned t b) (marks b ks) x) sealed now)

  -- and it learns now
  learns : (e : Event) (m : ℕ) (d : Decision) (rows : List KeptRow) (y : BranchFacts) → exit t b ≡ Some (Sealed m) → learned t b ≡ None → learned_by e b ≡ Some d → marks b rows ≡ left_by y → StandsWith (Some e) rows y
  learns e m d rows y sealed none teaches is =
      subst (λ o. RowStands (first o (exit_by e b)) (learned (e ∷ t) b) (marks b rows) y) (sym sealed)
      (subst (λ o. RowStands (Some (Sealed m)) o (marks b rows) y) (sym (ap (λ o. first o (learned_by e b)) none ∙ teaches)) is)

  -- rows of which nothing changed for it
  rests : (rows : List KeptRow) (y : BranchFacts) → marks b rows ≡ marks b ks → y ≡ x → RowStands (exit t b) (learned t b) (marks b rows) y
  rests rows y same_rows same_facts = subst (λ ms. RowStands (exit t b) (learned t b) ms y) (sym same_rows) (subst (λ z. RowStands (exit t b) (learned t b) (marks b ks) z) (sym same_facts) now)

  -- an event that does not concern it
  passes : (e : Event) (rows : List KeptRow) (y : BranchFacts) → exit_by e b ≡ None → learned_by e b ≡ None → marks b rows ≡ marks b ks → y ≡ x → StandsWith (Some e) rows y
  passes e rows y leaves teaches same_rows same_facts =
      subst (λ o. RowStands o (learned (e ∷ t) b) (marks b rows) y) (sym (first_right (exit t b) (exit_by e b) leaves))
      (subst (λ o. RowStands (exit t b) o (marks b rows) y) (sym (first_right (learned t b) (learned_by e b) teaches)) (rests rows y same_rows same_facts))

  at_b : {A : Type 0} (c : BranchId) (a : A) → same c b ≡ true → only_at c b a ≡ Some a
  at_b c a own = ap (λ q. if q then Some a else None) own

  not_b : {A : Type 0} (c : BranchId) (a : A) → same c b ≡ false → only_at c b a ≡ None
  not_b c a other = ap (λ q. if q then Some a else None) other

  -- ---- each record

  on_sealed : (r : SealedRecord) → MayStand t (records.Sealed r) → StandsWith (record_event n (records.Sealed r)) (add_kept ks (sealed_as r)) (with_record_facts b n x (records.Sealed r))
  on_sealed r may = by (same r.me b) refl
    where
      by : (q : Bool) → same r.me b ≡ q → StandsWith (record_event n (records.Sealed r)) (add_kept ks (sealed_as r)) (with_record_facts b n x (records.Sealed r))
      by true own =
          let me : r.me ≡ b = equal_from_same r.me b own in
          let none : exit t b ≡ None = subst (λ c. exit t c ≡ None) me may.0 in
          let unlearned : learned t b ≡ None = subst (λ c. learned t c ≡ None) me may.1 in
          let before : (marks b ks ≡ []) × (x ≡ no_facts) = subst (λ o. RowStands o (learned t b) (marks b ks) x) none now in
          let known : with_record_facts b n x (records.Sealed r) ≡ just_sealed = ap (λ z. either_facts z (same r.me b || false) false false false false) before.1 ∙ ap (λ q. either_facts no_facts (q || false) false false false false) own in
          let left : first (exit t b) (only_at r.me b (Sealed r.scn)) ≡ Some (Sealed r.scn) = ap (λ o. first o (only_at r.me b (Sealed r.scn))) none ∙ at_b r.me (Sealed r.scn) own in
          let still : first (learned t b) None ≡ None = ap (λ o. first o None) unlearned in
          subst (λ o. RowStands o (first (learned t b) None) (marks b (add_kept ks (sealed_as r))) (with_record_facts b n x (records.Sealed r))) (sym left)
          (subst (λ o. RowStands (Some (Sealed r.scn)) o (marks b (add_kept ks (sealed_as r))) (with_record_facts b n x (records.Sealed r))) (sym still) (marks_new b (sealed_as r) own ks before.0, known))
      by false other =
          passes (Seal r.me r.root r.scn r.changes) (add_kept ks (sealed_as r)) (with_record_facts b n x (records.Sealed r)) (not_b r.me (Sealed r.scn) other) refl (marks_put b (sealed_as r) other ks)
          (ap (λ q. either_facts x (q || false) false false false false) other ∙ facts_same x)

  on_decided : (r : DecidedRecord) → MayStand t (records.Decided r) → StandsWith (record_event n (records.Decided r)) (keep_decided ks (decided_as r)) (with_record_facts b n x (records.Decided r))
  on_decided r may = by (same r.me b) refl
    where
      by : (q : Bool) → same r.me b ≡ q → StandsWith (record_event n (records.Decided r)) (keep_decided ks (decided_as r)) (with_record_facts b n x (records.Decided r))
      by true own =
          let none : exit t b ≡ None = subst (λ c. exit t c ≡ None) (equal_from_same r.me b own) may in
          let before : (marks b ks ≡ []) × (x ≡ no_facts) = subst (λ o. RowStands o (learned t b) (marks b ks) x) none now in
          let left : first (exit t b) (only_at r.me b (Decided r.scn)) ≡ Some (Decided r.scn) = ap (λ o. first o (only_at r.me b (Decided r.scn))) none ∙ at_b r.me (Decided r.scn) own in
          subst (λ o. RowStands o (first (learned t b) None) (marks b (keep_decided ks (decided_as r))) (with_record_facts b n x (records.Decided r))) (sym left) (ap (λ (z : BranchFacts). z.sealed || false) before.1)
      by false other =
          passes (Decide r.me r.root r.scn r.changes) (keep_decided ks (decided_as r)) (with_record_facts b n x (records.Decided r)) (not_b r.me (Decided r.scn) other) refl
          (cond_both (has_neighbors (decided_as r)) _ _ (λ zs. marks b zs ≡ marks b ks) (λ kept. marks_put b (decided_as r) other ks) (λ alone. refl)) (facts_same x)

  -- a sealed branch that learns its decision
  module _ (c : BranchId) (m : ℕ) (sealed : exit t c ≡ Some (Sealed m)) (none : learned t c ≡ None) (own : same c b ≡ true) where
    me : c ≡ b
    me = equal_from_same c b own

    before : (marks b ks ≡ false ∷ []) × (x ≡ just_sealed)
    before = sealed_now m (subst (λ z. exit t z ≡ Some (Sealed m)) me sealed) (subst (λ z. learned t z ≡ None) me none)

    -- what it leaves, by what the record makes of a branch that was just sealed
    learns_so : (d : Decision) (mark : Option Bool) (rows : List KeptRow) (r : RedoRecord) (ms : List Bool) → marks b rows ≡ ms → left_by (with_record_facts b n just_sealed r) ≡ ms → StandsWith (Some (Learn c d mark)) rows (with_record_facts b n x r)
    learns_so d mark rows r ms is left =
        learns (Learn c d mark) m d rows (with_record_facts b n x r) (subst (λ z. exit t z ≡ Some (Sealed m)) me sealed) (subst (λ z. learned t z ≡ None) me none) (at_b c d own)
        (is ∙ sym (ap (λ z. left_by (with_record_facts b n z r)) before.1 ∙ left))

    ends_own : (d : Decision) → StandsWith (Some (Learn c d None)) (ended ks c d) (with_record_facts b n x (records.Ended c d))
    ends_own (decisions.Commit k) = learns_so (decisions.Commit k) None (ended ks c (decisions.Commit k)) (records.Ended c (decisions.Commit k)) (false ∷ []) (marks_kept b c (ended_commit k) (λ y. refl) (λ y. refl) ks ∙ before.0) refl
    ends_own decisions.Rollback =
        learns_so decisions.Rollback None (ended ks c decisions.Rollback) (records.Ended c decisions.Rollback) [] (drop_own b c own ks) (ap (λ q. left_by (either_facts just_sealed false (q || false) false false false)) own)

    set_to : (d : Decision) (q : Bool) → marks b (change_where (stands_at c) (met_as d q) ks) ≡ q ∷ []
    set_to d q = marks_set b c (met_as d q) (λ y. refl) own q (λ y. refl) ks ∙ ap (map (λ z. q)) before.0

    meets_own : (d : Decision) (mixed : Bool) → StandsWith (Some (Learn c d (Some mixed))) (met ks c d mixed) (with_record_facts b n x (records.Met c d mixed))
    meets_own (decisions.Commit k) true =
        learns_so (decisions.Commit k) (Some true) (met ks c (decisions.Commit k) true) (records.Met c (decisions.Commit k) true) (true ∷ []) (set_to (decisions.Commit k) true)
        (ap (λ q. left_by (either_facts just_sealed false false ((q && true) || false) false false)) own)
    meets_own decisions.Rollback true =
        learns_so decisions.Rollback (Some true) (met ks c decisions.Rollback true) (records.Met c decisions.Rollback true) (true ∷ []) (set_to decisions.Rollback true)
        (ap (λ q. left_by (either_facts just_sealed false false ((q && true) || false) (q || false) false)) own)
    meets_own (decisions.Commit k) false =
        learns_so (decisions.Commit k) (Some false) (met ks c (decisions.Commit k) false) (records.Met c (decisions.Commit k) false) (false ∷ []) (set_to (decisions.Commit k) false)
        (ap (λ q. left_by (either_facts just_sealed false false ((q && false) || false) false false)) own)
    meets_own decisions.Rollback false =
        learns_so decisions.Rollback (Some false) (met ks c decisions.Rollback false) (records.Met c decisions.Rollback false) [] (drop_own b c own ks)
        (ap (λ q. left_by (either_facts just_sealed false false ((q && false) || false) (q || false) false)) own)

  -- another branch that does
  ends_other : (c : BranchId) (d : Decision) → same c b ≡ false → StandsWith (Some (Learn c d None)) (ended ks c d) (with_record_facts b n x (records.Ended c d))
  ends_other c (decisions.Commit k) other =
      passes (Learn c (decisions.Commit k) None) (ended ks c (decisions.Commit k)) (with_record_facts b n x (records.Ended c (decisions.Commit k))) refl (not_b c (decisions.Commit k) other) (marks_other b c (ended_commit k) (λ y. refl) other ks) (facts_same x)
  ends_other c decisions.Rollback other =
      passes (Learn c decisions.Rollback None) (ended ks c decisions.Rollback) (with_record_facts b n x (records.Ended c decisions.Rollback)) refl (not_b c decisions.Rollback other) (drop_other b c other ks)
      (ap (λ q. either_facts x false (q || false) false false false) other ∙ facts_same x)

  meets_other : (c : BranchId) (d : Decision) (mixed : Bool) → same c b ≡ false → StandsWith (Some (Learn c d (Some mixed))) (met ks c d mixed) (with_record_facts b n x (records.Met c d mixed))
  meets_other c d mixed other = passes (Learn c d (Some mixed)) (met ks c d mixed) (with_record_facts b n x (records.Met c d mixed)) refl (not_b c d other) (rows d mixed) (known d ∙ facts_same x)
    where
      rows : (d : Decision) (mixed : Bool) → marks b (met ks c d mixed) ≡ marks b ks
      rows d true = marks_other b c (met_as d true) (λ y. refl) other ks
      rows (decisions.Commit k) false = marks_other b c (met_as (decisions.Commit k) false) (λ y. refl) other ks
      rows decisions.Rollback false = drop_other b c other ks

      known : (d : Decision) → with_record_facts b n x (records.Met c d mixed) ≡ either_facts x false false false false false
      known (decisions.Commit k) = ap (λ q. either_facts x false false ((q && mixed) || false) false false) other
      known decisions.Rollback = ap (λ q. either_facts x false false ((q && mixed) || false) (q || false) false) other

  -- ---- one that forgets

  forget_left : (r m q f : Bool) → filter (λ z. z) (if r || (not m && (q || f)) then [] else m ∷ []) ≡ (if (r || false) || (not (m || false) && ((q || false) || (f || true))) then [] else (m || false) ∷ [])
  forget_left true m q f = refl
  forget_left false true q f = refl
  forget_left false false true f = refl
  forget_left false false false true = refl
  forget_left false false false false = refl

  forgets_own : (e : Option Exit) (l : Option Decision) → (e ≡ None → l ≡ None) → (k : ℕ) → (e ≡ Some (Decided k)) ⊎ (l ≡ Some (decisions.Commit k)) → RowStands e l (marks b ks) x
      → RowStands e l (filter (λ z. z) (marks b ks)) (either_facts x false false false false true)
  forgets_own None l untaught k (inl is) now = absurd cc
  forgets_own None l untaught k (inr is) now = (let none : l ≡ None = untaught refl in absurd (cc (none, is)))
  forgets_own (Some (Sealed m)) None untaught k (inl is) now = absurd cc
  forgets_own (Some (Sealed m)) None untaught k (inr is) now = absurd cc
  forgets_own (Some (Sealed m)) (Some d) untaught k knows now = ap (filter (λ z. z)) now ∙ forget_left x.rolled x.mixed x.met_back x.forgot
  forgets_own (Some (Decided m)) l untaught k knows now = or_none x.sealed ∙ now
  forgets_own (Some Quiet) l untaught k knows now = or_none x.sealed ∙ now
  forgets_own (Some Dropped) l untaught k knows now = or_none x.sealed ∙ now

  on_forgot : (c : BranchId) → MayStand t (records.Forgot c) → StandsWith (Some (Forget c)) (forgotten ks c) (with_record_facts b n x (records.Forgot c))
  on_forgot c may = by (same c b) refl
    where
      by : (q : Bool) → same c b ≡ q → StandsWith (Some (Forget c)) (forgotten ks c) (with_record_facts b n x (records.Forgot c))
      by true own =
          let rows : marks b (forgotten ks c) ≡ filter (λ z. z) (marks b ks) = marks_kept b c forgot_as (λ y. refl) (λ y. refl) (drop_where (is_done c) ks) ∙ done_own b c own ks in
          let known : with_record_facts b n x (records.Forgot c) ≡ either_facts x false false false false true = ap (λ q. either_facts x false false false false q) own in
          let now_so : RowStands (exit t b) (learned t b) (filter (λ z. z) (marks b ks)) (either_facts x false false false false true) = forgets_own (exit t b) (learned t b) untaught may.0 (subst (λ z. Knows t z may.0) (equal_from_same c b own) may.1) now in
          subst (λ o. RowStands o (first (learned t b) None) (marks b (forgotten ks c)) (with_record_facts b n x (records.Forgot c))) (sym (first_right (exit t b) None refl))
          (subst (λ o. RowStands (exit t b) o (marks b (forgotten ks c)) (with_record_facts b n x (records.Forgot c))) (sym (first_right (learned t b) None refl))
          (subst (λ ms. RowStands (exit t b) (learned t b) ms (with_record_facts b n x (records.Forgot c))) (sym rows) (subst (λ z. RowStands (exit t b) (learned t b) (filter (λ z. z) (marks b ks)) z) (sym known) now_so)))
      by false other =
          passes (Forget c) (forgotten ks c) (with_record_facts b n x (records.Forgot c)) refl refl (marks_kept b c forgot_as (λ y. refl) (λ y. refl) (drop_where (is_done c) ks) ∙ done_other b c other ks)
          (ap (λ q. either_facts x false false false false q) other ∙ facts_same x)

  -- ---- any record

  pub on_record : (r : RedoRecord) → MayStand t r → StandsWith (record_event n r) (kept_after ks r) (with_record_facts b n x r)
  unfolding kept_after
  on_record (records.Sealed r) may = on_sealed r may
  on_record (records.Decided r) may = on_decided r may
  on_record (records.Ended c d) may = by (same c b) refl
    where
      by : (q : Bool) → same c b ≡ q → StandsWith (Some (Learn c d None)) (ended ks c d) (with_record_facts b n x (records.Ended c d))
      by true own = ends_own c may.0.0 may.0.1 may.1 own d
      by false other = ends_other c d other
  on_record (records.Met c d mixed) may = by (same c b) refl
    where
      by : (q : Bool) → same c b ≡ q → StandsWith (Some (Learn c d (Some mixed))) (met ks c d mixed) (with_record_facts b n x (records.Met c d mixed))
      by true own = meets_own c may.0.0 may.0.1 may.1 own d mixed
      by false other = meets_other c d mixed other
  on_record (records.Forced c d given) may =
      passes (Force c d) (forced ks c d) (with_record_facts b n x (records.Forced c d given)) refl refl (marks_kept b c (in_state (forced_state d)) (λ y. refl) (λ y. refl) ks) (facts_same x)
  on_record (records.Forgot c) may = on_forgot c may
  on_record (records.Hidden c) may = rests (hidden ks c) (with_record_facts b n x (records.Hidden c)) (marks_kept b c hidden_as (λ y. refl) (λ y. refl) ks) (facts_same x)
  on_record (records.Table table) may = passes (Make n table) ks (with_record_facts b n x (records.Table table)) refl refl refl (facts_same x)
  on_record (records.Boot m) may = rests ks (with_record_facts b n x (records.Boot m)) refl (facts_same x)
  on_record (records.Link l) may = rests ks (with_record_facts b n x (records.Link l)) refl (facts_same x)
  on_record (records.Synonym y) may = rests ks (with_record_facts b n x (records.Synonym y)) refl (facts_same x)
  on_record (records.Param setting) may = rests ks (with_record_facts b n x (records.Param setting)) refl (facts_same x)
  on_record (records.Image i) may = rests ks (with_record_facts b n x (records.Image i)) refl (facts_same x)
