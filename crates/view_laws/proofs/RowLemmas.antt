-- The row of a branch that its node keeps is the one that the node's records say, and one record more keeps it so.
use Rattle.std.proofs.Common.{◌≡◌, ℕ, ◌≤◌, ◌||◌, ◌&&◌, not, Bool, true, false, if◌then◌else◌, List, [], ◌∷◌, ◌++◌, option_map, Option, Some, None, refl, sym, ap, subst, ◌∙◌}
use Rattle.std.proofs.lemmas.Bool.{and_left}
use Rattle.tran_ids.proofs.BranchLemmas.{equal_from_same, same_from_equal}
use Rattle.redo_record.specs.Kept.{stands_at, add_kept, ended_commit, forced_state, in_state, met_as, is_done, forgot_as, hidden_as, kept_after}
use Rattle.redo_record.specs.Lists.{drop_where}
use Rattle.redo_record.specs.Rows.{sealed_as, decided_as, has_neighbors}
use Rattle.agreement.specs.Events.{first}
use Rattle.node_rules.specs.Data.{BranchId, Decision, RedoRecord, Sealed, Decided, State, KeptRow}
use Rattle.node_rules.specs.Data.decisions
use Rattle.node_rules.specs.Data.records
use Rattle.node_rules.specs.Data.states
use Rattle.node_rules.specs.Words.{same, item_at}
use Rattle.node_rules.specs.NodeState.{kept_row_id}
use Rattle.run_base_laws.specs.NodeLaws.{count_of}
use Rattle.view_laws.proofs.OneMoreLemmas.{Says, says, plus, says_on}
use Rattle.view_laws.proofs.KeptListLemmas.{if_mixed, changed_other, changed_same, dropped_other, dropped_all, dropped_done, put_other, put_same}

-- ---- the row

abbrev pub state_in : Option Decision → Option ℕ → State → State
state_in (Some d) n s = forced_state d
state_in None (Some n) s = states.Committed
state_in None None s = s

-- a row as it is by what is said now
abbrev pub dressed : Says → KeptRow → KeptRow
dressed s x = record x { state = state_in s.forced s.committed x.state; decision = first s.learned x.decision; mixed = s.mixed; forgot = s.forgot; hidden = s.hidden }

-- the row that begins with the first record
abbrev pub first_row : Option Sealed → Option Decided → Option KeptRow
first_row (Some r) d = Some (sealed_as r)
first_row None (Some r) = if has_neighbors (decided_as r) then Some (decided_as r) else None
first_row None None = None

-- whether it has gone
abbrev pub over : Says → Bool
over s = s.back || ((s.met_back || s.forgot) && not s.mixed)

abbrev pub row_with : Says → Option KeptRow
row_with s = if over s then None else option_map (dressed s) (first_row s.sealed s.decided)

-- ---- what one record says

-- whether it is about a branch
abbrev pub about : BranchId → RedoRecord → Bool
about b (records.Sealed r) = same r.me b
about b (records.Decided r) = same r.me b
about b (records.Ended c d) = same c b
about b (records.Forced c d given) = same c b
about b (records.Met c d mixed) = same c b
about b (records.Forgot c) = same c b
about b (records.Hidden c) = same c b
about b _ = false

abbrev pub nothing_said : Says
nothing_said = record { sealed = None; decided = None; forced = None; committed = None; learned = None; mixed = false; back = false; met_back = false; forgot = false; hidden = false }

-- what it says of the branch, if it is about it
abbrev pub one : Bool → RedoRecord → Says
one q (records.Sealed r) = record nothing_said { sealed = if q then Some r else None }
one q (records.Decided r) = record nothing_said { decided = if q then Some r else None }
one q (records.Ended c (decisions.Commit n)) = record nothing_said { committed = if q then Some n else None; learned = if q then Some (decisions.Commit n) else None }
one q (records.Ended c decisions.Rollback) = record nothing_said { learned = if q then Some decisions.Rollback else None; back = q || false }
one q (records.Forced c d given) = record nothing_said { forced = if q then Some d else None }
one q (records.Met c (decisions.Commit n) mixed) = record nothing_said { learned = if q then Some (decisions.Commit n) else None; mixed = (q && mixed) || false }
one q (records.Met c decisions.Rollback mixed) = record nothing_said { learned = if q then Some decisions.Rollback else None; met_back = q || false; mixed = (q && mixed) || false }
one q (records.Forgot c) = record nothing_said { forgot = q || false }
one q (records.Hidden c) = record nothing_said { hidden = (q && true) || false }
one q _ = nothing_said

pub says_one : (b : BranchId) (r : RedoRecord) → says (r ∷ []) b ≡ one (about b r) r
says_one b (records.Sealed r) = refl
says_one b (records.Decided r) = refl
says_one b (records.Ended c (decisions.Commit n)) = refl
says_one b (records.Ended c decisions.Rollback) = refl
says_one b (records.Forced c d given) = refl
says_one b (records.Met c (decisions.Commit n) mixed) = refl
says_one b (records.Met c decisions.Rollback mixed) = refl
says_one b (records.Forgot c) = refl
says_one b (records.Hidden c) = refl
says_one b (records.Boot n) = refl
says_one b (records.Table t) = refl
says_one b (records.Link l) = refl
says_one b (records.Synonym y) = refl
says_one b (records.Param p) = refl
says_one b (records.Image i) = refl

pub one_of_none : (r : RedoRecord) → one false r ≡ nothing_said
one_of_none (records.Sealed r) = refl
one_of_none (records.Decided r) = refl
one_of_none (records.Ended c (decisions.Commit n)) = refl
one_of_none (records.Ended c decisions.Rollback) = refl
one_of_none (records.Forced c d given) = refl
one_of_none (records.Met c (decisions.Commit n) mixed) = refl
one_of_none (records.Met c decisions.Rollback mixed) = refl
one_of_none (records.Forgot c) = refl
one_of_none (records.Hidden c) = refl
one_of_none (records.Boot n) = refl
one_of_none (records.Table t) = refl
one_of_none (records.Link l) = refl
one_of_none (records.Synonym y) = refl
one_of_none (records.Param p) = refl
one_of_none (records.Image i) = refl

pub says_more : (rs : List RedoRecord) (r : RedoRecord) (b : BranchId) → says (rs ++ r ∷ []) b ≡ plus (says rs b) (one (about b r) r)
says_more rs r b = says_on b (r ∷ []) rs ∙ ap (plus (says rs b)) (says_one b r)

-- ---- sums

or_none : (q : Bool) → (q || false) ≡ q
or_none true = refl
or_none false = refl

or_some : (q : Bool) → (q || true) ≡ true
or_some true = refl
or_some false = refl

and_all : (q : Bool) → (q && true) ≡ q
and_all true = refl
and_all false = refl

first_none : {A : Type 0} (o : Option A) → first o None ≡ o
first_none None = refl
first_none (Some a) = refl

first_new : {A : Type 0} (o p : Option A) → o ≡ None → first o p ≡ p
first_new None p is = refl
first_new (Some a) p is = absurd cc

still_hidden : (q : Bool) → ((q && not false) || false) ≡ q
still_hidden true = refl
still_hidden false = refl

pub plus_none : (s : Says) → plus s nothing_said ≡ s
plus_none s = λ i. record {
  sealed = first_none s.sealed i;
  decided = first_none s.decided i;
  forced = first_none s.forced i;
  committed = first_none s.committed i;
  learned = first_none s.learned i;
  mixed = or_none s.mixed i;
  back = or_none s.back i;
  met_back = or_none s.met_back i;
  forgot = or_none s.forgot i;
  hidden = still_hidden s.hidden i;
}

map_if : (g h k : KeptRow → KeptRow) → ((x : KeptRow) → g (h x) ≡ k x) → (o : Bool) (f : Option KeptRow) → option_map g (if o then None else option_map h f) ≡ (if o then None else option_map k f)
map_if g h k all true f = refl
map_if g h k all false None = refl
map_if g h k all false (Some x) = ap Some (all x)

-- ---- what may be said next

-- what a record about a branch needs of what is said of it
abbrev pub Fits : Says → RedoRecord → Type 0
Fits s (records.Sealed r) = s ≡ nothing_said
Fits s (records.Decided r) = s ≡ nothing_said
Fits s (records.Ended c d) = (s.forced ≡ None) × (s.committed ≡ None) × (s.learned ≡ None)
Fits s (records.Forced c d given) = s.forced ≡ None
Fits s (records.Met c d mixed) = (s.learned ≡ None) × (s.mixed ≡ false) × (s.met_back ≡ false) × (s.forgot ≡ false)
Fits s _ = Unit {0}

-- ---- the row after a record

pub same_turned : (c b : BranchId) → same c b ≡ false → same b c ≡ false
same_turned c b other = by (same b c) refl
  where
    by : (q : Bool) → same b c ≡ q → q ≡ false
    by true is = (let it : same c b ≡ true = same_from_equal c b (sym (equal_from_same b c is)) in absurd (cc (it, other)))
    by false is = refl

-- what is said once a branch forgets
one_mixed : (s : Says) (f : Option KeptRow) → option_map forgot_as (if_mixed (option_map (dressed (record s { mixed = true })) f)) ≡ option_map (dressed (record s { mixed = true; forgot = true })) f
one_mixed s None = refl
one_mixed s (Some x) = refl

none_mixed : (s : Says) (o : Bool) (f : Option KeptRow) → option_map forgot_as (if_mixed (if o then None else option_map (dressed (record s { mixed = false })) f)) ≡ None
none_mixed s true f = refl
none_mixed s false None = refl
none_mixed s false (Some x) = refl

forgets_by : (s : Says) (m ba mb fg : Bool) → option_map forgot_as (if_mixed (row_with (record s { mixed = m; back = ba; met_back = mb; forgot = fg }))) ≡ row_with (record s { mixed = m; back = ba; met_back = mb; forgot = true })
forgets_by s true true mb fg = refl
forgets_by s true false true fg = one_mixed (record s { back = false; met_back = true; forgot = fg }) (first_row s.sealed s.decided)
forgets_by s true false false true = one_mixed (record s { back = false; met_back = false; forgot = true }) (first_row s.sealed s.decided)
forgets_by s true false false false = one_mixed (record s { back = false; met_back = false; forgot = false }) (first_row s.sealed s.decided)
forgets_by s false true mb fg = refl
forgets_by s false false true fg = none_mixed (record s { back = false; met_back = true; forgot = fg }) true (first_row s.sealed s.decided)
forgets_by s false false false fg = none_mixed (record s { back = false; met_back = false; forgot = fg }) (fg && true) (first_row s.sealed s.decided)

module _ (b : BranchId) (ks : List KeptRow) where
  abbrev row_at : List KeptRow → Option KeptRow
  row_at xs = item_at kept_row_id xs b

  -- another branch's
  untouched : (r : RedoRecord) → about b r ≡ false → row_at (kept_after ks r) ≡ row_at ks
  unfolding kept_after
  untouched (records.Sealed r) other = put_other b ks (sealed_as r) other
  untouched (records.Decided r) other = by (has_neighbors (decided_as r))
    where
      by : (q : Bool) → row_at (if q then add_kept ks (decided_as r) else ks) ≡ row_at ks
      by true = put_other b ks (decided_as r) other
      by false = refl
  untouched (records.Ended c (decisions.Commit n)) other = changed_other b c (ended_commit n) (λ x. refl) other ks
  untouched (records.Ended c decisions.Rollback) other = dropped_other b (stands_at c) (λ x own. (ap (λ m. same m c) (equal_from_same x.me b own) ∙ same_turned c b other)) ks
  untouched (records.Forced c d given) other = changed_other b c (in_state (forced_state d)) (λ x. refl) other ks
  untouched (records.Met c d true) other = changed_other b c (met_as d true) (λ x. refl) other ks
  untouched (records.Met c (decisions.Commit n) false) other = changed_other b c (met_as (decisions.Commit n) false) (λ x. refl) other ks
  untouched (records.Met c decisions.Rollback false) other = dropped_other b (stands_at c) (λ x own. (ap (λ m. same m c) (equal_from_same x.me b own) ∙ same_turned c b other)) ks
  untouched (records.Forgot c) other =
      changed_other b c forgot_as (λ x. refl) other (drop_where (is_done c) ks)
      ∙ dropped_other b (is_done c) (λ x own. and_left (same x.me c) (not x.mixed) (ap (λ m. same m c) (equal_from_same x.me b own) ∙ same_turned c b other)) ks
  untouched (records.Hidden c) other = changed_other b c hidden_as (λ x. refl) other ks
  untouched (records.Boot n) other = refl
  untouched (records.Table t) other = refl
  untouched (records.Link l) other = refl
  untouched (records.Synonym y) other = refl
  untouched (records.Param p) other = refl
  untouched (records.Image i) other = refl

  module _ (s : Says) (now : row_at ks ≡ row_with s) (single : count_of kept_row_id b ks ≤ 1) where
    own_row : (r : RedoRecord) → about b r ≡ true → Fits s r → row_at (kept_after ks r) ≡ row_with (plus s (one true r))
    unfolding kept_after
    own_row (records.Sealed r) here fits =
        let none : row_at ks ≡ None = now ∙ ap row_with fits in
        put_same b ks (sealed_as r) here none ∙ sym (ap (λ z. row_with (plus z (one true (records.Sealed r)))) fits)
    own_row (records.Decided r) here fits = by (has_neighbors (decided_as r)) refl
      where
        none : row_at ks ≡ None
        none = now ∙ ap row_with fits

        by : (q : Bool) → has_neighbors (decided_as r) ≡ q → row_at (if q then add_kept ks (decided_as r) else ks) ≡ row_with (plus s (one true (records.Decided r)))
        by true is = put_same b ks (decided_as r) here none
            ∙ (sym (ap (λ q. option_map (dressed nothing_said) (if q then Some (decided_as r) else None)) is) ∙ sym (ap (λ z. row_with (plus z (one true (records.Decided r)))) fits))
        by false is = none
            ∙ (sym (ap (λ q. option_map (dressed nothing_said) (if q then Some (decided_as r) else None)) is) ∙ sym (ap (λ z. row_with (plus z (one true (records.Decided r)))) fits))
    own_row (records.Ended c (decisions.Commit n)) here fits =
        let to : Says = record s { forced = None; committed = Some n; learned = Some (decisions.Commit n) } in
        let sum : plus s (one true (records.Ended c (decisions.Commit n))) ≡ to = λ i. record (plus_none s i) { forced = (first_none s.forced ∙ fits.0) i; committed = first_new s.committed (Some n) fits.1 i; learned = first_new s.learned (Some (decisions.Commit n)) fits.2 i } in
        subst (λ m. row_at (change_of m) ≡ option_map (ended_commit n) (row_at ks)) (sym (equal_from_same c b here)) (changed_same b (ended_commit n) (λ x. refl) ks)
        ∙ (ap (option_map (ended_commit n)) now ∙ (map_if (ended_commit n) (dressed s) (dressed to) (λ x. refl) (over s) (first_row s.sealed s.decided) ∙ sym (ap row_with sum)))
      where
        change_of : BranchId → List KeptRow
        change_of m = kept_after ks (records.Ended m (decisions.Commit n))
    own_row (records.Ended c decisions.Rollback) here fits =
        let to : Says = record s { learned = Some decisions.Rollback; back = true } in
        let sum : plus s (one true (records.Ended c decisions.Rollback)) ≡ to = λ i. record (plus_none s i) { learned = first_new s.learned (Some decisions.Rollback) fits.2 i; back = or_some s.back i } in
        subst (λ m. row_at (drop_where (stands_at m) ks) ≡ None) (sym (equal_from_same c b here)) (dropped_all b ks) ∙ sym (ap row_with sum)
    own_row (records.Forced c d given) here fits =
        let to : Says = record s { forced = Some d } in
        let sum : plus s (one true (records.Forced c d given)) ≡ to = λ i. record (plus_none s i) { forced = first_new s.forced (Some d) fits i } in
        subst (λ m. row_at (kept_after ks (records.Forced m d given)) ≡ option_map (in_state (forced_state d)) (row_at ks)) (sym (equal_from_same c b here)) (changed_same b (in_state (forced_state d)) (λ x. refl) ks)
        ∙ (ap (option_map (in_state (forced_state d))) now ∙ (map_if (in_state (forced_state d)) (dressed s) (dressed to) (λ x. refl) (over s) (first_row s.sealed s.decided) ∙ sym (ap row_with sum)))
    own_row (records.Hidden c) here fits =
        let to : Says = record s { hidden = true } in
        let sum : plus s (one true (records.Hidden c)) ≡ to = λ i. record (plus_none s i) { hidden = or_some (s.hidden && not false) i } in
        subst (λ m. row_at (kept_after ks (records.Hidden m)) ≡ option_map hidden_as (row_at ks)) (sym (equal_from_same c b here)) (changed_same b hidden_as (λ x. refl) ks)
        ∙ (ap (option_map hidden_as) now ∙ (map_if hidden_as (dressed s) (dressed to) (λ x. refl) (over s) (first_row s.sealed s.decided) ∙ sym (ap row_with sum)))
    own_row (records.Met c (decisions.Commit n) mixed) here fits = by mixed
      where
        -- with what is not yet said of it
        was : Says
        was = record s { mixed = false; met_back = false; forgot = false }

        as_was : s ≡ was
        as_was = λ i. record s { mixed = fits.1 i; met_back = fits.2 i; forgot = fits.3 i }

        to : Bool → Says
        to m = record was { learned = Some (decisions.Commit n); mixed = m; hidden = s.hidden && not m }

        by : (m : Bool) → row_at (kept_after ks (records.Met c (decisions.Commit n) m)) ≡ row_with (plus s (one true (records.Met c (decisions.Commit n) m)))
        by true =
            let sum : plus s (one true (records.Met c (decisions.Commit n) true)) ≡ to true = λ i. record (plus_none (as_was i) i) { learned = first_new s.learned (Some (decisions.Commit n)) fits.0 i; mixed = or_some s.mixed i; hidden = or_none (s.hidden && not true) i } in
            subst (λ m. row_at (kept_after ks (records.Met m (decisions.Commit n) true)) ≡ option_map (met_as (decisions.Commit n) true) (row_at ks)) (sym (equal_from_same c b here)) (changed_same b (met_as (decisions.Commit n) true) (λ x. refl) ks)
            ∙ (ap (option_map (met_as (decisions.Commit n) true)) (now ∙ ap row_with as_was) ∙ (map_if (met_as (decisions.Commit n) true) (dressed was) (dressed (to true)) (λ x. refl) (over was) (first_row s.sealed s.decided) ∙ sym (ap row_with sum)))
        by false =
            let sum : plus s (one true (records.Met c (decisions.Commit n) false)) ≡ to false = λ i. record (plus_none (as_was i) i) { learned = first_new s.learned (Some (decisions.Commit n)) fits.0 i; hidden = or_none (s.hidden && not false) i } in
            subst (λ m. row_at (kept_after ks (records.Met m (decisions.Commit n) false)) ≡ option_map (met_as (decisions.Commit n) false) (row_at ks)) (sym (equal_from_same c b here)) (changed_same b (met_as (decisions.Commit n) false) (λ x. refl) ks)
            ∙ (ap (option_map (met_as (decisions.Commit n) false)) (now ∙ ap row_with as_was) ∙ (map_if (met_as (decisions.Commit n) false) (dressed was) (dressed (to false)) (λ x. refl) (over was) (first_row s.sealed s.decided) ∙ sym (ap row_with sum)))
    own_row (records.Met c decisions.Rollback true) here fits =
        let was : Says = record s { mixed = false; met_back = false; forgot = false } in
        let as_was : s ≡ was = λ i. record s { mixed = fits.1 i; met_back = fits.2 i; forgot = fits.3 i } in
        let to : Says = record was { learned = Some decisions.Rollback; mixed = true; met_back = true; hidden = s.hidden && not true } in
        let sum : plus s (one true (records.Met c decisions.Rollback true)) ≡ to = λ i. record (plus_none (as_was i) i) { learned = first_new s.learned (Some decisions.Rollback) fits.0 i; mixed = or_some s.mixed i; met_back = or_some s.met_back i; hidden = or_none (s.hidden && not true) i } in
        subst (λ m. row_at (kept_after ks (records.Met m decisions.Rollback true)) ≡ option_map (met_as decisions.Rollback true) (row_at ks)) (sym (equal_from_same c b here)) (changed_same b (met_as decisions.Rollback true) (λ x. refl) ks)
        ∙ (ap (option_map (met_as decisions.Rollback true)) (now ∙ ap row_with as_was) ∙ (map_if (met_as decisions.Rollback true) (dressed was) (dressed to) (λ x. refl) (over was) (first_row s.sealed s.decided) ∙ sym (ap row_with sum)))
    own_row (records.Met c decisions.Rollback false) here fits =
        let to : Says = record s { learned = Some decisions.Rollback; mixed = false; met_back = true } in
        let sum : plus s (one true (records.Met c decisions.Rollback false)) ≡ to = λ i. record (plus_none s i) { learned = first_new s.learned (Some decisions.Rollback) fits.0 i; mixed = (or_none s.mixed ∙ fits.1) i; met_back = or_some s.met_back i } in
        subst (λ m. row_at (drop_where (stands_at m) ks) ≡ None) (sym (equal_from_same c b here)) (dropped_all b ks)
        ∙ (sym (ap (λ q. if q then None else option_map (dressed to) (first_row s.sealed s.decided)) (or_some s.back)) ∙ sym (ap row_with sum))
    own_row (records.Forgot c) here fits =
        let to : Says = record s { forgot = true } in
        let sum : plus s (one true (records.Forgot c)) ≡ to = λ i. record (plus_none s i) { forgot = or_some s.forgot i } in
        subst (λ m. row_at (kept_after ks (records.Forgot m)) ≡ option_map forgot_as (if_mixed (row_at ks))) (sym (equal_from_same c b here))
        (changed_same b forgot_as (λ x. refl) (drop_where (is_done b) ks) ∙ ap (option_map forgot_as) (dropped_done b ks single))
        ∙ (ap (λ o. option_map forgot_as (if_mixed o)) now ∙ (forgets_by s s.mixed s.back s.met_back s.forgot ∙ sym (ap row_with sum)))
    own_row _ here fits = absurd cc

    -- any record
    pub row_on : (r : RedoRecord) → (about b r ≡ true → Fits s r) → row_at (kept_after ks r) ≡ row_with (plus s (one (about b r) r))
    row_on r fits = by (about b r) refl
      where
        by : (q : Bool) → about b r ≡ q → row_at (kept_after ks r) ≡ row_with (plus s (one q r))
        by true is = own_row r is (fits is)
        by false is = untouched r is ∙ (now ∙ ap row_with (sym (ap (plus s) (one_of_none r) ∙ plus_none s)))
