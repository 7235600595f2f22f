-- What a message that tells no decision leaves: each undecided row stays as it is, and each live branch stays live or leaves by
-- an act of its prepare phase, or as it is rolled back.
use Rattle.std.proofs.Common.{◌≡◌, ℕ, ◌+◌, ◌⊎◌, not, Bool, true, false, if◌then◌else◌, cond, List, [], ◌∷◌, ◌++◌, Option, Some, None, inl, inr, refl, sym, ap, subst, ◌∙◌}
use Rattle.std.proofs.lemmas.Bool.{and_parts, cond_both}
use Rattle.tran_ids.specs.Branch.{branch_below, put_by_branch}
use Rattle.tran_ids.proofs.BranchLemmas.{equal_from_same}
use Rattle.tran_ids.proofs.ListedLemmas.{put_leaves, put_or_before, drop_leaves}
use Rattle.commit_forget.specs.declared.next.Next.TheVariants as nexts
use Rattle.redo_record.specs.Durable.{durable_after}
use Rattle.redo_record.specs.Kept.{is_done, forgot_as, kept_after}
use Rattle.node_rules.specs.Data.{BranchId, Decision, KeptRow, Live, Act, Place, Input, Msg}
use Rattle.node_rules.specs.Data.acts
use Rattle.node_rules.specs.Data.inputs
use Rattle.node_rules.specs.Data.kinds
use Rattle.node_rules.specs.Data.records
use Rattle.node_rules.specs.Words.{same, item_at, put_item, drop_item, drop_where}
use Rattle.node_rules.specs.Inputs.{Came, Brings}
use Rattle.node_rules.specs.NodeState.{NodeState, TurnDraft, live_at, live_id, kept_row_at, kept_row_id, with_kept_row}
use Rattle.node_rules.specs.Records.{applied}
use Rattle.session_tree.specs.Live.{new_edge}
use Rattle.node_rules.specs.Statement.{ran, after_run}
use Rattle.node_rules.specs.Calls.{with_edge, hears_reply}
use Rattle.node_rules.specs.Prepare.{act_turn, ready}
use Rattle.node_rules.specs.Commit.{acked_by, knows_commit, is_beyond}
use Rattle.node_rules.proofs.Steps as steps
use Rattle.node_rules.proofs.Steps.{Step, Acting, Doing, IsKept, Drops}
use Rattle.node_rules.proofs.StepLemmas.{IsLive, acting_live}
use Rattle.std.specs.List.{AllByRecursion}
use Rattle.redo_record.specs.Rows.{sealed_as, decided_as, has_neighbors}
use Rattle.tran_ids.proofs.BranchLemmas.{same_from_equal}
use Rattle.node_rules.specs.Data.{Decided}
use Rattle.node_rules.specs.Calls.{answered}
use Rattle.node_rules.specs.Prepare.{decided_of, sealed_of, own_changes, drops}
use Rattle.node_rules.proofs.Steps.{Says}
use Rattle.run_rules.proofs.ListLemmas.{all_weaker, all_put}
use Rattle.run_base_laws.proofs.OwnLemmas.{all_with}
use Rattle.tree_laws.proofs.WhyLemmas.{seal_act}
use Rattle.commit_forget_laws.proofs.TellLemmas.{rows_changed, rows_left}
use Rattle.settle_laws.proofs.RollTurnLemmas.{change_leaves}

-- ---- lists

module _ {A : Type 0} (id : A → BranchId) where
  -- an item that is put in its place leaves those of other branches
  pub place_leaves : (xs : List A) (x : A) (b : BranchId) → same (id x) b ≡ false → item_at id (put_by_branch id xs x) b ≡ item_at id xs b
  place_leaves [] x b other = ap (λ (w : Bool). if w then Some x else None) other
  place_leaves (y ∷ ys) x b other =
      cond_both (branch_below (id x) (id y)) (x ∷ y ∷ ys) (y ∷ put_by_branch id ys x) (λ zs. item_at id zs b ≡ item_at id (y ∷ ys) b)
      (λ before. ap (λ (w : Bool). if w then Some x else item_at id (y ∷ ys) b) other)
      (λ later. ap (λ (o : Option A). if same (id y) b then Some y else o) (place_leaves ys x b other))

  -- one that is found is found where more come behind it
  pub found_more : (xs ys : List A) (b : BranchId) (a : A) → item_at id xs b ≡ Some a → item_at id (xs ++ ys) b ≡ Some a
  found_more [] ys b a found = absurd cc
  found_more (x ∷ xs) ys b a found = by (same (id x) b) found (found_more xs ys b a)
    where
      by : (q : Bool) → (if q then Some x else item_at id xs b) ≡ Some a → (item_at id xs b ≡ Some a → item_at id (xs ++ ys) b ≡ Some a) → (if q then Some x else item_at id (xs ++ ys) b) ≡ Some a
      by true is later = is
      by false is later = later is

  -- where items of another branch alone are left out, those of this one are as before
  pub drops_leave : (test : A → Bool) (b : BranchId) → ((x : A) → test x ≡ true → same (id x) b ≡ false) → (xs : List A) → item_at id (drop_where test xs) b ≡ item_at id xs b
  drops_leave test b others [] = refl
  drops_leave test b others (x ∷ xs) = by (test x) refl (drops_leave test b others xs)
    where
      by : (q : Bool) → test x ≡ q → item_at id (drop_where test xs) b ≡ item_at id xs b
          → item_at id (cond (not q) (x ∷ drop_where test xs) (drop_where test xs)) b ≡ (if same (id x) b then Some x else item_at id xs b)
      by true is later = later ∙ sym (ap (λ (w : Bool). if w then Some x else item_at id xs b) (others x is))
      by false is later = ap (λ (o : Option A). if same (id x) b then Some x else o) later

-- ---- rows

-- no branch is live and kept at once
abbrev pub NotBoth : NodeState → Type 0
NotBoth k = (b : BranchId) (l : Live) (s : KeptRow) → live_at k b ≡ Some l → kept_row_at k b ≡ Some s → ⊥

done_other : (c b : BranchId) → same c b ≡ false → (x : KeptRow) → is_done c x ≡ true → same x.me b ≡ false
done_other c b other x is = ap (λ z. same z b) (equal_from_same x.me c (and_parts (same x.me c) (not x.mixed) is).0) ∙ other

-- the row of another branch is found as before
pub forgot_leaves : (k : NodeState) (c b : BranchId) → same c b ≡ false → item_at kept_row_id (applied k.stored (records.Forgot c)).durable.kept b ≡ kept_row_at k b
unfolding applied durable_after kept_after
forgot_leaves k c b other =
    change_leaves c forgot_as (λ x. refl) (drop_where (is_done c) k.stored.durable.kept) b other ∙ drops_leave kept_row_id (is_done c) b (done_other c b other) k.stored.durable.kept

pub decided_leaves : (k : NodeState) (r : Decided) (b : BranchId) → same r.me b ≡ false → item_at kept_row_id (applied k.stored (records.Decided r)).durable.kept b ≡ kept_row_at k b
unfolding applied durable_after kept_after
decided_leaves k r b other =
    cond_both (has_neighbors (decided_as r)) (put_by_branch kept_row_id k.stored.durable.kept (decided_as r)) k.stored.durable.kept (λ ks. item_at kept_row_id ks b ≡ kept_row_at k b)
    (λ near. place_leaves kept_row_id k.stored.durable.kept (decided_as r) b other) (λ alone. refl)

module _ (p : Place) (m : Msg) (no_decision : (from to : BranchId) (o : Decision) → Brings (inputs.Message m) from to o → ⊥) where
  abbrev input : Input
  input = inputs.Message m

  both_acked : (k : NodeState) → NotBoth k → (x : KeptRow) (from : BranchId) → IsKept k x → NotBoth (with_kept_row k (acked_by x from))
  both_acked k not x from kept b l s live found = elim (put_or_before kept_row_id k.stored.durable.kept (acked_by x from) b) [
    | inl before ↦ not b l s live (sym before ∙ found)
    | inr new ↦ not b l x live (subst (λ z. kept_row_at k z ≡ Some x) new.0 kept)
  ]

  ends_not : {clock : _} {x : KeptRow} {from : BranchId} {o : Decision} → Doing clock input x from (nexts.End o) → ⊥
  ends_not (steps.Ends_so o brings on undecided sealed met) = no_decision _ _ o brings

  meets_not : {clock : _} {x : KeptRow} {from : BranchId} {o : Decision} {mixed : Bool} → Doing clock input x from (nexts.Meet o mixed) → ⊥
  meets_not (steps.Meets_so o brings on undecided forced other met) = no_decision _ _ o brings

  forgets_know : {clock : _} {x : KeptRow} {from : BranchId} → Doing clock input x from nexts.Forget → knows_commit x.decision ≡ true
  forgets_know (steps.Forgets_first came knows fresh all none) = knows
  forgets_know (steps.Forgets_after came knows on fresh) = knows

  -- a row that knows a commit is not this undecided one
  other_row : (k : NodeState) (x s : KeptRow) (b : BranchId) → IsKept k x → knows_commit x.decision ≡ true → kept_row_at k b ≡ Some s → s.decision ≡ None → same x.me b ≡ false
  other_row k x s b kept knows at undecided = by (same x.me b) refl
    where
      by : (q : Bool) → same x.me b ≡ q → same x.me b ≡ false
      by false is = is
      by true is =
          let both : Some x ≡ Some s = sym kept ∙ (ap (kept_row_at k) (equal_from_same x.me b is) ∙ at) in
          let it : x ≡ s = cc in
          let never : knows_commit x.decision ≡ false = ap (λ (z : KeptRow). knows_commit z.decision) it ∙ ap knows_commit undecided in
          absurd (cc (knows, never))

  -- a branch that is live is another than the one of this row
  other_live : (k : NodeState) → NotBoth k → (l : Live) → IsLive k l.me → (s : KeptRow) (b : BranchId) → kept_row_at k b ≡ Some s → same l.me b ≡ false
  other_live k not l live s b at = by (same l.me b) refl
    where
      by : (q : Bool) → same l.me b ≡ q → same l.me b ≡ false
      by false is = is
      by true is = absurd (not l.me live.0 s live.1 (ap (kept_row_at k) (equal_from_same l.me b is) ∙ at))

  -- each undecided row stays as it is
  pub rows_stay : {k : NodeState} {d : TurnDraft} → Step p input k d → NotBoth k → (b : BranchId) (s : KeptRow) → kept_row_at k b ≡ Some s → s.decision ≡ None → kept_row_at d.after b ≡ Some s
  unfolding applied durable_after kept_after
  rows_stay (steps.Begins n x read_at call begins range free step) not b s at undecided = absurd (cc (call))
  rows_stay (steps.Counts_call n x call counts step) not b s at undecided = absurd (cc (call))
  rows_stay (steps.Goes_back x step goes next) not b s at undecided = rows_stay next not b s at undecided
  rows_stay (steps.Pends n l given call has live code writer step) not b s at undecided = absurd (cc (call))
  rows_stay (steps.Lets_reads_go l comment below live begins step) not b s at undecided = rows_stay step not b s at undecided
  rows_stay (steps.Counts_ack {k = k} x from kept came counts step) not b s at undecided =
      let knows : knows_commit x.decision ≡ true = (and_parts (knows_commit x.decision) (is_beyond x from) counts).0 in
      rows_stay step (both_acked k not x from kept) b s (put_leaves kept_row_id k.stored.durable.kept (acked_by x from) b (other_row k x s b kept knows at undecided) ∙ at) undecided
  rows_stay (steps.Acts {k = k} l below acts.Seal why) not b s at undecided = place_leaves kept_row_id k.stored.durable.kept _ b (other_live k not l (acting_live why) s b at) ∙ at
  rows_stay (steps.Acts {k = k} l below (acts.SealAndPass i) why) not b s at undecided = place_leaves kept_row_id k.stored.durable.kept _ b (other_live k not l (acting_live why) s b at) ∙ at
  rows_stay (steps.Acts {k = k} l below acts.Decide why) not b s at undecided = decided_leaves k (decided_of (k.clock + 1) l (own_changes k l.me)) b (other_live k not l (acting_live why) s b at) ∙ at
  rows_stay (steps.Does x from (nexts.End o) kept why) not b s at undecided = absurd (ends_not why)
  rows_stay (steps.Does x from (nexts.Meet o mixed) kept why) not b s at undecided = absurd (meets_not why)
  rows_stay (steps.Does {k = k} x from nexts.Forget kept why) not b s at undecided = forgot_leaves k x.me b (other_row k x s b kept (forgets_know why) at undecided) ∙ at
  rows_stay (steps.Refuses n x r call) not b s at undecided = absurd (cc (call))
  rows_stay (steps.Completes_at_once n x r call completes none) not b s at undecided = absurd (cc (call))
  rows_stay (steps.Makes_record n x r done call makes) not b s at undecided = absurd (cc (call))
  rows_stay (steps.Forces_given n id scn c call named) not b s at undecided = absurd (cc (call))
  rows_stay (steps.Forces_commit n id c call named) not b s at undecided = absurd (cc (call))
  rows_stay (steps.Forces_rollback n id c call named) not b s at undecided = absurd (cc (call))
  rows_stay (steps.Hides n mixed id x call found) not b s at undecided = absurd (cc (call))
  rows_stay (steps.Advises n a call) not b s at undecided = absurd (cc (call))
  rows_stay (steps.Leaves n x r c call ends has live) not b s at undecided = absurd (cc (call))
  rows_stay (steps.Sets_read_only n call) not b s at undecided = absurd (cc (call))
  rows_stay (steps.Sets_savepoint n x name call has code live) not b s at undecided = absurd (cc (call))
  rows_stay (steps.Gives_up n x gives has calls live) not b s at undecided = absurd (cc (gives))
  rows_stay (steps.Gives_up_commit n c o gives has calls live) not b s at undecided = absurd (cc (gives))
  rows_stay (steps.Images checkpoint) not b s at undecided = absurd (cc (checkpoint))
  rows_stay _ not b s at undecided = at

  -- ---- the rows that there are then

  -- A branch became sealed in the turn.
  pub data SealsBy (x : KeptRow) : Type 0 where
    By_seal : (j : NodeState) (l : Live) (below : Bool) (path : Option ℕ) → Acting j input l below (seal_act path) → x ≡ sealed_as (sealed_of j.clock l (own_changes j l.me) path) → SealsBy x

  module _ (old : NodeState) where
    -- an undecided row stood before the turn
    abbrev StoodBefore : KeptRow → Type 0
    StoodBefore x = x.decision ≡ None → kept_row_at old x.me ≡ Some x

    -- or its branch became sealed in it
    abbrev pub StoodOrSeals : KeptRow → Type 0
    StoodOrSeals x = x.decision ≡ None → (kept_row_at old x.me ≡ Some x) ⊎ SealsBy x

    -- each undecided row stands still
    abbrev pub StandStill : NodeState → Type 0
    StandStill k = (b : BranchId) (s : KeptRow) → kept_row_at old b ≡ Some s → s.decision ≡ None → kept_row_at k b ≡ Some s

    stood_all : (ks : List KeptRow) → AllByRecursion StoodBefore ks → AllByRecursion StoodOrSeals ks
    stood_all ks all = all_weaker StoodBefore StoodOrSeals (λ x so undecided. inl (so undecided)) ks all

    seals_all : (k : NodeState) (l : Live) (below : Bool) (path : Option ℕ) → Acting k input l below (seal_act path) → AllByRecursion StoodBefore k.stored.durable.kept
        → AllByRecursion StoodOrSeals (applied k.stored (records.Sealed (sealed_of k.clock l (own_changes k l.me) path))).durable.kept
    unfolding applied durable_after kept_after
    seals_all k l below path why all =
        all_put StoodOrSeals kept_row_id k.stored.durable.kept (sealed_as (sealed_of k.clock l (own_changes k l.me) path)) (stood_all k.stored.durable.kept all) (λ undecided. inr (By_seal k l below path why refl))

    decides_all : (k : NodeState) (r : Decided) → AllByRecursion StoodBefore k.stored.durable.kept → AllByRecursion StoodOrSeals (applied k.stored (records.Decided r)).durable.kept
    unfolding applied durable_after kept_after
    decides_all k r all =
        cond_both (has_neighbors (decided_as r)) (put_by_branch kept_row_id k.stored.durable.kept (decided_as r)) k.stored.durable.kept (AllByRecursion StoodOrSeals)
        (λ near. all_put StoodOrSeals kept_row_id k.stored.durable.kept (decided_as r) (stood_all k.stored.durable.kept all) (λ undecided. absurd cc)) (λ alone. stood_all k.stored.durable.kept all)

    forgets_all : (k : NodeState) (x : KeptRow) → StandStill k → IsKept k x → knows_commit x.decision ≡ true → AllByRecursion StoodBefore k.stored.durable.kept
        → AllByRecursion StoodOrSeals (applied k.stored (records.Forgot x.me)).durable.kept
    unfolding applied durable_after kept_after
    forgets_all k x still kept knows all =
        rows_changed StoodBefore StoodOrSeals x.me forgot_as
        (λ z at so undecided.
        (let there : kept_row_at k x.me ≡ Some z = still x.me z (subst (λ b. kept_row_at old b ≡ Some z) at (so undecided)) undecided in
        let other : same x.me x.me ≡ false = other_row k x z x.me kept knows there undecided in
        let that : same x.me x.me ≡ true = same_from_equal x.me x.me refl in absurd (cc (other, that))))
        (λ z apart so undecided. inl (so undecided)) (drop_where (is_done x.me) k.stored.durable.kept)
        (rows_left StoodBefore StoodBefore (is_done x.me) (λ z stays so. so) k.stored.durable.kept all)

    -- each undecided row stood before the turn, or its branch became sealed in it
    pub rows_stood : {k : NodeState} {d : TurnDraft} → Step p input k d → NotBoth k → StandStill k → AllByRecursion StoodBefore k.stored.durable.kept → AllByRecursion StoodOrSeals d.after.stored.durable.kept
    rows_stood (steps.Begins n x read_at call begins range free step) not still all = absurd (cc (call))
    rows_stood (steps.Counts_call n x call counts step) not still all = absurd (cc (call))
    rows_stood (steps.Goes_back x step goes next) not still all = rows_stood next not still all
    rows_stood (steps.Pends n l given call has live code writer step) not still all = absurd (cc (call))
    rows_stood (steps.Lets_reads_go l comment below live begins step) not still all = rows_stood step not still all
    rows_stood (steps.Counts_ack {k = k} x from kept came counts step) not still all =
        let knows : knows_commit x.decision ≡ true = (and_parts (knows_commit x.decision) (is_beyond x from) counts).0 in
        rows_stood step (both_acked k not x from kept)
        (λ b s at undecided. put_leaves kept_row_id k.stored.durable.kept (acked_by x from) b (other_row k x s b kept knows (still b s at undecided) undecided) ∙ still b s at undecided)
        (all_with StoodBefore kept_row_id k.stored.durable.kept (acked_by x from) all (λ undecided. (let never : knows_commit x.decision ≡ false = ap knows_commit undecided in absurd (cc (knows, never)))))
    rows_stood (steps.Acts {k = k} l below acts.Seal why) not still all = seals_all k l below None why all
    rows_stood (steps.Acts {k = k} l below (acts.SealAndPass i) why) not still all = seals_all k l below (Some i) why all
    rows_stood (steps.Acts {k = k} l below acts.Decide why) not still all = decides_all k (decided_of (k.clock + 1) l (own_changes k l.me)) all
    rows_stood (steps.Does x from (nexts.End o) kept why) not still all = absurd (ends_not why)
    rows_stood (steps.Does x from (nexts.Meet o mixed) kept why) not still all = absurd (meets_not why)
    rows_stood (steps.Does {k = k} x from nexts.Forget kept why) not still all = forgets_all k x still kept (forgets_know why) all
    rows_stood (steps.Refuses n x r call) not still all = absurd (cc (call))
    rows_stood (steps.Completes_at_once n x r call completes none) not still all = absurd (cc (call))
    rows_stood (steps.Makes_record n x r done call makes) not still all = absurd (cc (call))
    rows_stood (steps.Forces_given n id scn c call named) not still all = absurd (cc (call))
    rows_stood (steps.Forces_commit n id c call named) not still all = absurd (cc (call))
    rows_stood (steps.Forces_rollback n id c call named) not still all = absurd (cc (call))
    rows_stood (steps.Hides n mixed id x call found) not still all = absurd (cc (call))
    rows_stood (steps.Advises n a call) not still all = absurd (cc (call))
    rows_stood (steps.Leaves n x r c call ends has live) not still all = absurd (cc (call))
    rows_stood (steps.Sets_read_only n call) not still all = absurd (cc (call))
    rows_stood (steps.Sets_savepoint n x name call has code live) not still all = absurd (cc (call))
    rows_stood (steps.Gives_up n x gives has calls live) not still all = absurd (cc (gives))
    rows_stood (steps.Gives_up_commit n c o gives has calls live) not still all = absurd (cc (gives))
    rows_stood (steps.Images checkpoint) not still all = absurd (cc (checkpoint))
    rows_stood {k = k} _ not still all = stood_all k.stored.durable.kept all

  -- ---- live branches

  -- Why one of these live branches is live no more.
  pub data LeavesBy (ls : List Live) (d : TurnDraft) (b : BranchId) : Type 0 where
    By_act : (j : NodeState) (l : Live) (below : Bool) (a : Act) → j.lives ≡ ls → Acting j input l below a → d ≡ act_turn j l below a → l.me ≡ b → LeavesBy ls d b
    By_rollback : (l : Live) → Drops input l → LeavesBy ls d b
    By_ask : (l : Live) (from : BranchId) → Came input from l.me kinds.Ask → LeavesBy ls d b

  put_live : (k : NodeState) (x : Live) (b : BranchId) → IsLive k b → (l : Live) × (item_at live_id (put_item live_id k.lives x) b ≡ Some l)
  put_live k x b live = elim (put_or_before live_id k.lives x b) [ inl before ↦ (live.0, before ∙ live.1) | inr new ↦ (x, new.1) ]

  drop_live : (k : NodeState) (c b : BranchId) → IsLive k b → (c ≡ b) ⊎ ((l : Live) × (item_at live_id (drop_item live_id k.lives c) b ≡ Some l))
  drop_live k c b live = by (same c b) refl
    where
      by : (q : Bool) → same c b ≡ q → (c ≡ b) ⊎ ((l : Live) × (item_at live_id (drop_item live_id k.lives c) b ≡ Some l))
      by true is = inl (equal_from_same c b is)
      by false is = inr (live.0, drop_leaves live_id k.lives c b is ∙ live.1)

  abbrev pub StaysLive : List Live → TurnDraft → BranchId → Type 0
  StaysLive ls d b = IsLive d.after b ⊎ LeavesBy ls d b

  left_or : {d : TurnDraft} (k : NodeState) (c b : BranchId) → d.after.lives ≡ drop_item live_id k.lives c → IsLive k b → (c ≡ b → LeavesBy k.lives d b) → StaysLive k.lives d b
  left_or {d = d} k c b is live leaves = elim (drop_live k c b live) [
    | inl at ↦ inr (leaves at)
    | inr on ↦ inl (on.0, ap (λ ls. item_at live_id ls b) is ∙ on.1)
  ]

  acts_stay : (k : NodeState) (l : Live) (below : Bool) (a : Act) → Acting k input l below a → (b : BranchId) → IsLive k b → StaysLive k.lives (act_turn k l below a) b
  acts_stay k l below acts.Rest why b live = inl (put_live k l b live)
  acts_stay k l below acts.AskDown why b live = inl (put_live k l b live)
  acts_stay k l below acts.SayReady why b live = inl (put_live k (ready l) b live)
  acts_stay k l below acts.SayReadOnly why b live = left_or k l.me b refl live (λ at. By_act k l below acts.SayReadOnly refl why refl at)
  acts_stay k l below acts.Seal why b live = left_or k l.me b refl live (λ at. By_act k l below acts.Seal refl why refl at)
  acts_stay k l below (acts.SealAndPass i) why b live = left_or k l.me b refl live (λ at. By_act k l below (acts.SealAndPass i) refl why refl at)
  acts_stay k l below acts.Decide why b live = left_or k l.me b refl live (λ at. By_act k l below acts.Decide refl why refl at)
  acts_stay k l below acts.Finish why b live = left_or k l.me b refl live (λ at. By_act k l below acts.Finish refl why refl at)
  acts_stay k l below acts.Abandon why b live = left_or k l.me b refl live (λ at. By_act k l below acts.Abandon refl why refl at)

  -- each live branch stays live, or leaves so
  pub lives_stay : {k : NodeState} {d : TurnDraft} → Step p input k d → (b : BranchId) → IsLive k b → StaysLive k.lives d b
  lives_stay (steps.Begins n x read_at call begins range free step) b live = absurd (cc (call))
  lives_stay (steps.Counts_call n x call counts step) b live = absurd (cc (call))
  lives_stay (steps.Goes_back x step goes next) b live = lives_stay next b live
  lives_stay (steps.Pends n l given call has found code writer step) b live = absurd (cc (call))
  lives_stay (steps.Lets_reads_go l comment below found begins step) b live = lives_stay step b live
  lives_stay (steps.Counts_ack x from kept came counts step) b live = lives_stay step b live
  lives_stay (steps.Runs {k = k} x s given t asked way) b live = inl (put_live k (after_run x.live (ran p k x.live.me s t)) b live)
  lives_stay (steps.Goes_nowhere {k = k} x s given r asked way) b live = inl (put_live k x.live b live)
  lives_stay (steps.Calls {k = k} x s given i table asked way) b live = inl (put_live k x.live b live)
  lives_stay (steps.Opens {k = k} x s given node link table asked way) b live = inl (put_live k x.live b live)
  lives_stay (steps.Goes_on {k = k} x from strength g link opened) b live = inl (put_live k (with_edge x (new_edge from link strength)).live b live)
  lives_stay (steps.Hears_reply {k = k} x weight count a i e answered) b live = inl (put_live k (hears_reply x i weight count e).live b live)
  lives_stay (steps.Backs {k = k} x step from i calls next) b live = inl (put_live k x.live b live)
  lives_stay (steps.Is_back {k = k} x step from calls none) b live = inl (put_live k x.live b live)
  lives_stay (steps.Opens_branch {k = k} to parent edge root depth read_at came new) b live = inl (live.0, found_more live_id k.lives _ b live.0 live.1)
  lives_stay (steps.Acts {k = k} l below a why) b live = acts_stay k l below a why b live
  lives_stay (steps.Drops_told {k = k} l found drops) b live = left_or k l.me b refl live (λ at. By_rollback l drops)
  lives_stay (steps.Drops_asked {k = k} l from found came parent) b live = left_or k l.me b refl live (λ at. By_ask l from came)
  lives_stay (steps.Does x from nexts.Rest kept why) b live = inl live
  lives_stay (steps.Refuses n x r call) b live = absurd (cc (call))
  lives_stay (steps.Completes_at_once n x r call completes none) b live = absurd (cc (call))
  lives_stay (steps.Makes_record n x r done call makes) b live = absurd (cc (call))
  lives_stay (steps.Forces_given n id scn c call named) b live = absurd (cc (call))
  lives_stay (steps.Forces_commit n id c call named) b live = absurd (cc (call))
  lives_stay (steps.Forces_rollback n id c call named) b live = absurd (cc (call))
  lives_stay (steps.Hides n mixed id x call found) b live = absurd (cc (call))
  lives_stay (steps.Advises n a call) b live = absurd (cc (call))
  lives_stay (steps.Leaves n x r c call ends has found) b live = absurd (cc (call))
  lives_stay (steps.Sets_read_only n call) b live = absurd (cc (call))
  lives_stay (steps.Sets_savepoint n x name call has code found) b live = absurd (cc (call))
  lives_stay (steps.Gives_up n x gives has calls found) b live = absurd (cc (gives))
  lives_stay (steps.Gives_up_commit n c o gives has calls found) b live = absurd (cc (gives))
  lives_stay (steps.Images checkpoint) b live = absurd (cc (checkpoint))
  lives_stay _ b live = inl live
