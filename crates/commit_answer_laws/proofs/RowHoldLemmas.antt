-- A row that says that its branch is sealed and in doubt, or committed, stays so with each record of another branch, and with its
-- own Ended with the commit. Where a branch seals, or decides with neighbours, it has such a row.
use Rattle.std.proofs.Common.{◌≡◌, ◌≢◌, ℕ, ◌&&◌, not, Bool, true, false, if◌then◌else◌, List, [], ◌∷◌, Option, Some, None, refl, sym, ap, subst, ◌∙◌}
use Rattle.std.proofs.lemmas.Bool.{cond_both}
use Rattle.tran_ids.proofs.BranchLemmas.{equal_from_same, same_from_equal}
use Rattle.node_rules.specs.Data.{BranchId, Decided, Decision, KeptRow, RedoRecord, Sealed, State}
use Rattle.node_rules.specs.Data.decisions
use Rattle.node_rules.specs.Data.params
use Rattle.node_rules.specs.Data.records
use Rattle.node_rules.specs.Data.states
use Rattle.node_rules.specs.Words.{same, item_at, branch_below, change_where, drop_where}
use Rattle.node_rules.specs.NodeState.{Stored, kept_row_id}
use Rattle.node_rules.specs.Records.{applied}
use Rattle.redo_record.specs.Durable.{durable_after}
use Rattle.redo_record.specs.Kept.{stands_at, add_kept, ended_commit, hidden_as, in_state, forced_state, met_as, forgot_as, is_done, kept_after}
use Rattle.redo_record.specs.Rows.{sealed_as, decided_as, has_neighbors}

-- ---- lists

apart : (a b : BranchId) → a ≢ b → same a b ≡ false
apart a b other = by (same a b) refl
  where
    by : (q : Bool) → same a b ≡ q → q ≡ false
    by true is = absurd (other (equal_from_same a b is))
    by false is = refl

put_apart : (ks : List KeptRow) (x : KeptRow) (b : BranchId) → same x.me b ≡ false → item_at kept_row_id (add_kept ks x) b ≡ item_at kept_row_id ks b
put_apart [] x b other = ap (λ q. if q then Some x else None) other
put_apart (y ∷ ys) x b other = by (branch_below x.me y.me) (put_apart ys x b other)
  where
    by : (q : Bool) → item_at kept_row_id (add_kept ys x) b ≡ item_at kept_row_id ys b → item_at kept_row_id (if q then x ∷ y ∷ ys else y ∷ add_kept ys x) b ≡ item_at kept_row_id (y ∷ ys) b
    by true rest = ap (λ q. if q then Some x else item_at kept_row_id (y ∷ ys) b) other
    by false rest = ap (λ o. if same y.me b then Some y else o) rest

put_new : (ks : List KeptRow) (x : KeptRow) (b : BranchId) → same x.me b ≡ true → item_at kept_row_id ks b ≡ None → item_at kept_row_id (add_kept ks x) b ≡ Some x
put_new [] x b here none = ap (λ q. if q then Some x else None) here
put_new (y ∷ ys) x b here none = by (branch_below x.me y.me) (same y.me b) refl none (put_new ys x b here)
  where
    by : (q w : Bool) → same y.me b ≡ w → (if w then Some y else item_at kept_row_id ys b) ≡ None → (item_at kept_row_id ys b ≡ None → item_at kept_row_id (add_kept ys x) b ≡ Some x)
        → item_at kept_row_id (if q then x ∷ y ∷ ys else y ∷ add_kept ys x) b ≡ Some x
    by true w is found rest = ap (λ q. if q then Some x else item_at kept_row_id (y ∷ ys) b) here
    by false true is found rest = absurd cc
    by false false is found rest = ap (λ q. if q then Some y else item_at kept_row_id (add_kept ys x) b) is ∙ rest found

module _ (g : KeptRow → KeptRow) (me : (x : KeptRow) → (g x).me ≡ x.me) where
  change_apart : (c : BranchId) (ks : List KeptRow) (b : BranchId) → same c b ≡ false → item_at kept_row_id (change_where (stands_at c) g ks) b ≡ item_at kept_row_id ks b
  change_apart c [] b other = refl
  change_apart c (x ∷ xs) b other = by (same x.me c) refl (change_apart c xs b other)
    where
      by : (q : Bool) → same x.me c ≡ q → item_at kept_row_id (change_where (stands_at c) g xs) b ≡ item_at kept_row_id xs b
          → item_at kept_row_id ((if q then g x else x) ∷ change_where (stands_at c) g xs) b ≡ item_at kept_row_id (x ∷ xs) b
      by true here rest =
          let off : same x.me b ≡ false = ap (λ z. same z b) (equal_from_same x.me c here) ∙ other in
          let off_g : same (g x).me b ≡ false = ap (λ z. same z b) (me x) ∙ off in
          ap (λ w. if w then Some (g x) else item_at kept_row_id (change_where (stands_at c) g xs) b) off_g ∙ (rest ∙ sym (ap (λ w. if w then Some x else item_at kept_row_id xs b) off))
      by false there rest = ap (λ z. if same x.me b then Some x else z) rest

  change_found : (b : BranchId) (ks : List KeptRow) (s : KeptRow) → item_at kept_row_id ks b ≡ Some s → item_at kept_row_id (change_where (stands_at b) g ks) b ≡ Some (g s)
  change_found b [] s found = absurd cc
  change_found b (x ∷ xs) s found = by (same x.me b) refl found (change_found b xs s)
    where
      by : (q : Bool) → same x.me b ≡ q → (if q then Some x else item_at kept_row_id xs b) ≡ Some s → (item_at kept_row_id xs b ≡ Some s → item_at kept_row_id (change_where (stands_at b) g xs) b ≡ Some (g s))
          → item_at kept_row_id ((if q then g x else x) ∷ change_where (stands_at b) g xs) b ≡ Some (g s)
      by true here is rest =
          let both : Some x ≡ Some s = is in
          let one : x ≡ s = cc in
          let here_g : same (g x).me b ≡ true = ap (λ z. same z b) (me x) ∙ here in
          ap (λ w. if w then Some (g x) else item_at kept_row_id (change_where (stands_at b) g xs) b) here_g ∙ ap (λ z. Some (g z)) one
      by false there is rest = ap (λ w. if w then Some x else item_at kept_row_id (change_where (stands_at b) g xs) b) there ∙ rest is

drop_apart : (q : KeptRow → Bool) (b : BranchId) → ((x : KeptRow) → same x.me b ≡ true → q x ≡ false) → (ks : List KeptRow) → item_at kept_row_id (drop_where q ks) b ≡ item_at kept_row_id ks b
drop_apart q b stays [] = refl
drop_apart q b stays (x ∷ xs) = by (same x.me b) (q x) refl refl (drop_apart q b stays xs)
  where
    by : (here w : Bool) → same x.me b ≡ here → q x ≡ w → item_at kept_row_id (drop_where q xs) b ≡ item_at kept_row_id xs b
        → item_at kept_row_id (if not w then x ∷ drop_where q xs else drop_where q xs) b ≡ (if here then Some x else item_at kept_row_id xs b)
    by here false is stay rest = ap (λ v. if v then Some x else item_at kept_row_id (drop_where q xs) b) is ∙ ap (λ o. if here then Some x else o) rest
    by true true is goes rest = absurd (let no = stays x is in cc (no, goes))
    by false true is goes rest = rest

-- ---- rows

-- sealed without a decision, or committed, and not forgotten
abbrev pub StandsWell : State → Option Decision → Bool → Type 0
StandsWell states.Sealed None false = Unit {0}
StandsWell states.Committed (Some (decisions.Commit n)) false = Unit {0}
StandsWell _ _ _ = ⊥

-- which of both it is
well_by : {A : Type 0} (s : KeptRow) (state : State) (d : Option Decision) (forgot : Bool) → s.state ≡ state → s.decision ≡ d → s.forgot ≡ forgot → StandsWell state d forgot
    → (s.state ≡ states.Sealed → s.decision ≡ None → s.forgot ≡ false → A) → ((n : ℕ) → s.state ≡ states.Committed → s.decision ≡ Some (decisions.Commit n) → s.forgot ≡ false → A) → A
well_by s states.Sealed None false at none fresh well sealed committed = sealed at none fresh
well_by s states.Committed (Some (decisions.Commit n)) false at known fresh well sealed committed = committed n at known fresh
well_by s states.Sealed None true at none fresh well sealed committed = absurd well
well_by s states.Sealed (Some d) forgot at none fresh well sealed committed = absurd well
well_by s states.Committed None forgot at none fresh well sealed committed = absurd well
well_by s states.Committed (Some (decisions.Commit n)) true at none fresh well sealed committed = absurd well
well_by s states.Committed (Some decisions.Rollback) forgot at none fresh well sealed committed = absurd well
well_by s (states.ForcedCommit n) d forgot at none fresh well sealed committed = absurd well
well_by s states.ForcedRollback d forgot at none fresh well sealed committed = absurd well

pub well_row : {A : Type 0} (s : KeptRow) → StandsWell s.state s.decision s.forgot → (s.state ≡ states.Sealed → s.decision ≡ None → s.forgot ≡ false → A)
    → ((n : ℕ) → s.state ≡ states.Committed → s.decision ≡ Some (decisions.Commit n) → s.forgot ≡ false → A) → A
well_row s well sealed committed = well_by s s.state s.decision s.forgot refl refl refl well sealed committed

-- a branch has such a row
abbrev pub HasRow : List KeptRow → BranchId → Type 0
HasRow ks b = (s : KeptRow) × (item_at kept_row_id ks b ≡ Some s) × StandsWell s.state s.decision s.forgot

-- a record leaves the row of a branch so: it is another's, or it is an Ended with the commit, or hides the row
abbrev pub Spares : BranchId → RedoRecord → Type 0
Spares b (records.Sealed r) = r.me ≢ b
Spares b (records.Decided r) = r.me ≢ b
Spares b (records.Ended c decisions.Rollback) = c ≢ b
Spares b (records.Forced c d given) = c ≢ b
Spares b (records.Met c d mixed) = c ≢ b
Spares b (records.Forgot c) = c ≢ b
Spares b _ = Unit {0}

module _ (b : BranchId) where
  same_row : (ks zs : List KeptRow) → item_at kept_row_id zs b ≡ item_at kept_row_id ks b → HasRow ks b → HasRow zs b
  same_row ks zs same has = (has.0, same ∙ has.1, has.2)

  changed_row : (g : KeptRow → KeptRow) → ((x : KeptRow) → (g x).me ≡ x.me) → (c : BranchId) (ks : List KeptRow) → (c ≡ b → (x : KeptRow) → StandsWell x.state x.decision x.forgot → StandsWell (g x).state (g x).decision (g x).forgot)
      → HasRow ks b → HasRow (change_where (stands_at c) g ks) b
  changed_row g me c ks well has = by (same c b) refl
    where
      by : (q : Bool) → same c b ≡ q → HasRow (change_where (stands_at c) g ks) b
      by true is =
          let here : c ≡ b = equal_from_same c b is in
          (g has.0, subst (λ z. item_at kept_row_id (change_where (stands_at z) g ks) b ≡ Some (g has.0)) (sym here) (change_found g me b ks has.0 has.1), well here has.0 has.2)
      by false is = same_row ks (change_where (stands_at c) g ks) (change_apart g me c ks b is) has

  other_row : (c : BranchId) → c ≢ b → (x : KeptRow) → same x.me b ≡ true → same x.me c ≡ false
  other_row c other x here = apart x.me c (λ is. other (sym is ∙ equal_from_same x.me b here))

  ended_well : (n : ℕ) (x : KeptRow) → StandsWell x.state x.decision x.forgot → StandsWell (ended_commit n x).state (ended_commit n x).decision (ended_commit n x).forgot
  ended_well n x well =
      well_row x well (λ sealed none fresh. subst (StandsWell states.Committed (Some (decisions.Commit n))) (sym fresh) tt) (λ m committed known fresh. subst (StandsWell states.Committed (Some (decisions.Commit n))) (sym fresh) tt)

  pub row_kept : (ks : List KeptRow) (r : RedoRecord) → Spares b r → HasRow ks b → HasRow (kept_after ks r) b
  unfolding kept_after
  row_kept ks (records.Sealed r) spares has = same_row ks (add_kept ks (sealed_as r)) (put_apart ks (sealed_as r) b (apart r.me b spares)) has
  row_kept ks (records.Decided r) spares has =
      cond_both (has_neighbors (decided_as r)) _ _ (λ zs. HasRow zs b) (λ kept. same_row ks (add_kept ks (decided_as r)) (put_apart ks (decided_as r) b (apart r.me b spares)) has) (λ alone. has)
  row_kept ks (records.Ended c (decisions.Commit n)) spares has = changed_row (ended_commit n) (λ x. refl) c ks (λ here x well. ended_well n x well) has
  row_kept ks (records.Ended c decisions.Rollback) spares has = same_row ks _ (drop_apart (stands_at c) b (other_row c spares) ks) has
  row_kept ks (records.Forced c d given) spares has = changed_row (in_state (forced_state d)) (λ x. refl) c ks (λ here x well. absurd (spares here)) has
  row_kept ks (records.Met c d true) spares has = changed_row (met_as d true) (λ x. refl) c ks (λ here x well. absurd (spares here)) has
  row_kept ks (records.Met c (decisions.Commit n) false) spares has = changed_row (met_as (decisions.Commit n) false) (λ x. refl) c ks (λ here x well. absurd (spares here)) has
  row_kept ks (records.Met c decisions.Rollback false) spares has = same_row ks _ (drop_apart (stands_at c) b (other_row c spares) ks) has
  row_kept ks (records.Forgot c) spares has =
      changed_row forgot_as (λ x. refl) c (drop_where (is_done c) ks) (λ here x well. absurd (spares here))
      (same_row ks (drop_where (is_done c) ks) (drop_apart (is_done c) b (λ x here. ap (λ q. q && not x.mixed) (other_row c spares x here)) ks) has)
  row_kept ks (records.Hidden c) spares has = changed_row hidden_as (λ x. refl) c ks (λ here x well. well) has
  row_kept ks _ spares has = has

  pub row_applied : (s : Stored) (r : RedoRecord) → Spares b r → HasRow s.durable.kept b → HasRow (applied s r).durable.kept b
  unfolding applied durable_after
  row_applied s (records.Boot n) spares has = has
  row_applied s (records.Table t) spares has = has
  row_applied s (records.Link l) spares has = has
  row_applied s (records.Synonym y) spares has = has
  row_applied s (records.Param (params.Recovery on)) spares has = has
  row_applied s (records.Param (params.Strength strength)) spares has = has
  row_applied s r spares has = row_kept s.durable.kept r spares has

  -- the row of a seal, and of a decision with neighbours
  pub sealed_row : (s : Stored) (r : Sealed) → r.me ≡ b → item_at kept_row_id s.durable.kept b ≡ None → HasRow (applied s (records.Sealed r)).durable.kept b
  unfolding applied durable_after kept_after
  sealed_row s r me none = (sealed_as r, put_new s.durable.kept (sealed_as r) b (same_from_equal r.me b me) none, tt)

  pub decided_row : (s : Stored) (r : Decided) → r.me ≡ b → has_neighbors (decided_as r) ≡ true → item_at kept_row_id s.durable.kept b ≡ None → HasRow (applied s (records.Decided r)).durable.kept b
  unfolding applied durable_after kept_after
  decided_row s r me neighbors none =
      cond_both (has_neighbors (decided_as r)) _ _ (λ zs. HasRow zs b) (λ kept. (decided_as r, put_new s.durable.kept (decided_as r) b (same_from_equal r.me b me) none, tt)) (λ alone. absurd (cc (neighbors, alone)))
