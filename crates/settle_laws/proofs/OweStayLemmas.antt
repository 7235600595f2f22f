-- What a message other than Committed, Ack and Forgotten leaves: each row that knows a commit and has not forgotten stays as it is, and
-- one that is new has just decided.
use Rattle.std.proofs.Common.{◌≡◌, ℕ, ◌+◌, ◌⊎◌, ◌||◌, not, Bool, true, false, if◌then◌else◌, cond, List, [], ◌∷◌, map, filter, Option, Some, None, inl, inr, refl, sym, ap, subst, ◌∙◌}
use Rattle.std.specs.Option.{option_to_list}
use Rattle.std.specs.List.{AllByRecursion}
use Rattle.std.proofs.lemmas.Bool.{cond_both}
use Rattle.tran_ids.specs.Branch.{put_by_branch}
use Rattle.tran_ids.proofs.BranchLemmas.{equal_from_same}
use Rattle.tran_ids.proofs.ListedLemmas.{drop_leaves}
use Rattle.commit_forget.specs.declared.next.Beyond.{Beyond as Neighbor}
use Rattle.commit_forget.specs.declared.next.Next.TheVariants as nexts
use Rattle.commit_forget.specs.Beyond.{beyond, parent_beyond, kid_beyond}
use Rattle.commit_forget.specs.Next.{knows_commit}
use Rattle.session_tree.specs.Live.{is_branch}
use Rattle.redo_record.specs.Durable.{durable_after}
use Rattle.redo_record.specs.Kept.{stands_at, met_as, kept_after}
use Rattle.redo_record.specs.Rows.{kid_of, sealed_as, decided_as, has_neighbors}
use Rattle.redo_record.specs.declared.record.Peer.{Peer}
use Rattle.node_rules.specs.Data.{BranchId, Decision, Edge, KeptRow, Kid, Live, Place, Input, Msg}
use Rattle.node_rules.specs.Data.acts
use Rattle.node_rules.specs.Data.decisions
use Rattle.node_rules.specs.Data.inputs
use Rattle.node_rules.specs.Data.kinds
use Rattle.node_rules.specs.Data.records
use Rattle.node_rules.specs.Words.{same, item_at}
use Rattle.node_rules.specs.Inputs.{Came, Brings, Commit_came, Rollback_came, Rolled_back_came}
use Rattle.node_rules.specs.NodeState.{NodeState, TurnDraft, kept_row_at, kept_row_id}
use Rattle.node_rules.specs.Records.{applied}
use Rattle.node_rules.specs.Prepare.{act_turn, decided_of, sealed_of, own_changes, site_neighbors, named_children, is_prepared}
use Rattle.node_rules.specs.Commit.{next_turn}
use Rattle.node_rules.proofs.Steps as steps
use Rattle.node_rules.proofs.Steps.{Step, Acting, Doing, IsKept}
use Rattle.node_rules.proofs.StepLemmas.{IsLive, acting_live}
use Rattle.run_rules.proofs.ListLemmas.{all_weaker, all_put, all_append, all_filter, all_map}
use Rattle.commit_laws.proofs.ListLemmas.{IsIn}
use Rattle.commit_forget_laws.specs.RowLaws.{is_ack}
use Rattle.commit_forget_laws.proofs.TellLemmas.{rows_changed, rows_left}
use Rattle.settle_laws.specs.OweLaws.{is_committed, is_forgotten, IsToForget}
use Rattle.settle_laws.proofs.FlyLemmas.{in_before, in_behind}
use Rattle.settle_laws.proofs.RollTurnLemmas.{change_leaves}
use Rattle.settle_laws.proofs.StayLemmas.{NotBoth, place_leaves, decided_leaves}
use Rattle.settle_laws.proofs.BesideTurnLemmas.{came_kind}

-- ---- whom a site tells

kids_in : (i : ℕ) (es : List Edge) → AllByRecursion (λ (c : Peer). IsIn c.branch (map (λ (e : Edge). e.peer) (filter is_prepared es))) (named_children None i es)
kids_in i [] = tt
kids_in i (e ∷ es) = by (is_prepared e) (kids_in (i + 1) es)
  where
    by : (w : Bool) → AllByRecursion (λ (c : Peer). IsIn c.branch (map (λ (x : Edge). x.peer) (filter is_prepared es))) (named_children None (i + 1) es)
        → AllByRecursion (λ (c : Peer). IsIn c.branch (map (λ (x : Edge). x.peer) (cond w (e ∷ filter is_prepared es) (filter is_prepared es))))
        (if w || false then record { branch = e.peer; link = e.link } ∷ named_children None (i + 1) es else named_children None (i + 1) es)
    by true rest = (inl refl, all_weaker _ _ (λ c at. inr at) (named_children None (i + 1) es) rest)
    by false rest = rest

-- the parent, and each child that answered Prepared, is among the neighbours of the site
parent_in : (row : KeptRow) (l : Live) (o : Option BranchId) → l.parent ≡ o → AllByRecursion (λ (y : Neighbor). IsIn y.branch (site_neighbors l)) (parent_beyond row o)
parent_in row l None is = tt
parent_in row l (Some b) is =
    cond_both (is_branch b row.toward) [] (record { branch = b; acked = row.parent_acked; is_parent = true } ∷ []) (AllByRecursion (λ (y : Neighbor). IsIn y.branch (site_neighbors l))) (λ toward. tt)
    (λ away. (in_before b (option_to_list l.parent) (map (λ (e : Edge). e.peer) (filter is_prepared l.edges)) (subst (λ (o : Option BranchId). IsIn b (option_to_list o)) (sym is) (inl refl)), tt))

-- all beyond a branch that decided are told so
pub told_all : (scn : ℕ) (j : NodeState) (l : Live) → AllByRecursion (λ (y : Neighbor). IsIn y.branch (site_neighbors l)) (beyond (decided_as (decided_of scn l (own_changes j l.me))))
unfolding beyond
told_all scn j l =
    let row : KeptRow = decided_as (decided_of scn l (own_changes j l.me)) in
    let kids : AllByRecursion (λ (c : Kid). IsIn c.branch (site_neighbors l)) row.children
    = all_map (λ (c : Kid). IsIn c.branch (site_neighbors l)) kid_of (named_children None 1 l.edges)
    (all_weaker _ _ (λ (c : Peer) at. in_behind c.branch (option_to_list l.parent) (map (λ (e : Edge). e.peer) (filter is_prepared l.edges)) at) (named_children None 1 l.edges) (kids_in 1 l.edges)) in
    all_append (λ (y : Neighbor). IsIn y.branch (site_neighbors l)) (parent_beyond row l.parent) (map kid_beyond (filter (λ (c : Kid). not (is_branch c.branch row.toward)) row.children)) (parent_in row l l.parent refl)
    (all_map (λ (y : Neighbor). IsIn y.branch (site_neighbors l)) kid_beyond (filter (λ (c : Kid). not (is_branch c.branch row.toward)) row.children)
    (all_filter (λ (c : Kid). IsIn c.branch (site_neighbors l)) (λ (c : Kid). IsIn c.branch (site_neighbors l)) (λ (c : Kid). not (is_branch c.branch row.toward)) (λ c passes so. so) row.children kids))

-- ---- the row of another branch

ended_leaves : (k : NodeState) (c b : BranchId) → same c b ≡ false → item_at kept_row_id (applied k.stored (records.Ended c decisions.Rollback)).durable.kept b ≡ kept_row_at k b
unfolding applied durable_after kept_after
ended_leaves k c b other = drop_leaves kept_row_id k.stored.durable.kept c b other

met_leaves : (k : NodeState) (c b : BranchId) (mixed : Bool) → same c b ≡ false → item_at kept_row_id (applied k.stored (records.Met c decisions.Rollback mixed)).durable.kept b ≡ kept_row_at k b
unfolding applied durable_after kept_after
met_leaves k c b true other = change_leaves c (met_as decisions.Rollback true) (λ x. refl) k.stored.durable.kept b other
met_leaves k c b false other = drop_leaves kept_row_id k.stored.durable.kept c b other

module _ (p : Place) (m : Msg) (no_commit : is_committed m.kind ≡ false) (no_ack : is_ack m.kind ≡ false) (no_forgotten : is_forgotten m.kind ≡ false) where
  abbrev input : Input
  input = inputs.Message m

  no_ack_came : {from to : BranchId} → Came input from to kinds.Ack → ⊥
  no_ack_came came = (let is : is_ack m.kind ≡ true = ap is_ack (came_kind m came) in absurd (cc (is, no_ack)))

  no_forgotten_came : {from to : BranchId} → Came input from to kinds.Forgotten → ⊥
  no_forgotten_came came = (let is : is_forgotten m.kind ≡ true = ap is_forgotten (came_kind m came) in absurd (cc (is, no_forgotten)))

  brings_rollback : {from to : BranchId} {o : Decision} → Brings input from to o → o ≡ decisions.Rollback
  brings_rollback (Commit_came n came) = (let is : is_committed m.kind ≡ true = ap is_committed (came_kind m came) in absurd (cc (is, no_commit)))
  brings_rollback (Rollback_came came) = refl
  brings_rollback (Rolled_back_came came) = refl

  ends_so : {clock : ℕ} {x : KeptRow} {from : BranchId} {o : Decision} → Doing clock input x from (nexts.End o) → (o ≡ decisions.Rollback) × (x.decision ≡ None)
  ends_so (steps.Ends_so o brings on undecided sealed met) = (brings_rollback brings, undecided)

  meets_so : {clock : ℕ} {x : KeptRow} {from : BranchId} {o : Decision} {mixed : Bool} → Doing clock input x from (nexts.Meet o mixed) → (o ≡ decisions.Rollback) × (x.decision ≡ None)
  meets_so (steps.Meets_so o brings on undecided forced other met) = (brings_rollback brings, undecided)

  forgets_not : {clock : ℕ} {x : KeptRow} {from : BranchId} → Doing clock input x from nexts.Forget → ⊥
  forgets_not (steps.Forgets_first came knows fresh all none) = no_ack_came came
  forgets_not (steps.Forgets_after came knows on fresh) = no_forgotten_came came

  -- a row that does not know its decision is not this one
  other_row : (k : NodeState) (x s : KeptRow) (b : BranchId) → IsKept k x → x.decision ≡ None → kept_row_at k b ≡ Some s → IsToForget s → same x.me b ≡ false
  other_row k x s b kept undecided at waits = by (same x.me b) refl
    where
      by : (q : Bool) → same x.me b ≡ q → same x.me b ≡ false
      by false is = is
      by true is =
          let both : Some x ≡ Some s = sym kept ∙ (ap (kept_row_at k) (equal_from_same x.me b is) ∙ at) in
          let it : x ≡ s = cc in
          let never : knows_commit s.decision ≡ false = ap (λ (z : KeptRow). knows_commit z.decision) (sym it) ∙ ap knows_commit undecided in
          let knows : knows_commit s.decision ≡ true = waits.0 in absurd (cc (knows, never))

  other_live : (k : NodeState) → NotBoth k → (l : Live) → IsLive k l.me → (s : KeptRow) (b : BranchId) → kept_row_at k b ≡ Some s → same l.me b ≡ false
  other_live k not l live s b at = by (same l.me b) refl
    where
      by : (q : Bool) → same l.me b ≡ q → same l.me b ≡ false
      by false is = is
      by true is = absurd (not l.me live.0 s live.1 (ap (kept_row_at k) (equal_from_same l.me b is) ∙ at))

  ends_stay : (k : NodeState) (x s : KeptRow) (b : BranchId) (o : Decision) → o ≡ decisions.Rollback → IsKept k x → x.decision ≡ None → kept_row_at k b ≡ Some s → IsToForget s
      → item_at kept_row_id (applied k.stored (records.Ended x.me o)).durable.kept b ≡ Some s
  ends_stay k x s b o rollback kept undecided at waits =
      subst (λ w. item_at kept_row_id (applied k.stored (records.Ended x.me w)).durable.kept b ≡ Some s) (sym rollback) (ended_leaves k x.me b (other_row k x s b kept undecided at waits) ∙ at)

  meets_stay : (k : NodeState) (x s : KeptRow) (b : BranchId) (o : Decision) (mixed : Bool) → o ≡ decisions.Rollback → IsKept k x → x.decision ≡ None → kept_row_at k b ≡ Some s → IsToForget s
      → item_at kept_row_id (applied k.stored (records.Met x.me o mixed)).durable.kept b ≡ Some s
  meets_stay k x s b o mixed rollback kept undecided at waits =
      subst (λ w. item_at kept_row_id (applied k.stored (records.Met x.me w mixed)).durable.kept b ≡ Some s) (sym rollback) (met_leaves k x.me b mixed (other_row k x s b kept undecided at waits) ∙ at)

  seal_stays : (k : NodeState) (l : Live) (path : Option ℕ) (s : KeptRow) (b : BranchId) → same l.me b ≡ false → kept_row_at k b ≡ Some s
      → item_at kept_row_id (applied k.stored (records.Sealed (sealed_of k.clock l (own_changes k l.me) path))).durable.kept b ≡ Some s
  unfolding applied durable_after kept_after
  seal_stays k l path s b other at = place_leaves kept_row_id k.stored.durable.kept (sealed_as (sealed_of k.clock l (own_changes k l.me) path)) b other ∙ at

  -- each row that is to forget stays as it is
  pub waiting_stay : {k : NodeState} {d : TurnDraft} → Step p input k d → NotBoth k → (b : BranchId) (s : KeptRow) → kept_row_at k b ≡ Some s → IsToForget s → kept_row_at d.after b ≡ Some s
  waiting_stay (steps.Begins n x read_at call begins range free step) not b s at waits = absurd (cc (call))
  waiting_stay (steps.Counts_call n x call counts step) not b s at waits = absurd (cc (call))
  waiting_stay (steps.Goes_back x step goes next) not b s at waits = waiting_stay next not b s at waits
  waiting_stay (steps.Pends n l given call has live code writer step) not b s at waits = absurd (cc (call))
  waiting_stay (steps.Lets_reads_go l comment below live begins step) not b s at waits = waiting_stay step not b s at waits
  waiting_stay (steps.Counts_ack x from kept came counts step) not b s at waits = absurd (no_ack_came came)
  waiting_stay (steps.Acts {k = k} l below acts.Seal why) not b s at waits = seal_stays k l None s b (other_live k not l (acting_live why) s b at) at
  waiting_stay (steps.Acts {k = k} l below (acts.SealAndPass i) why) not b s at waits = seal_stays k l (Some i) s b (other_live k not l (acting_live why) s b at) at
  waiting_stay (steps.Acts {k = k} l below acts.Decide why) not b s at waits = decided_leaves k (decided_of (k.clock + 1) l (own_changes k l.me)) b (other_live k not l (acting_live why) s b at) ∙ at
  waiting_stay (steps.Does {k = k} x from (nexts.End o) kept why) not b s at waits = (let so = ends_so why in ends_stay k x s b o so.0 kept so.1 at waits)
  waiting_stay (steps.Does {k = k} x from (nexts.Meet o mixed) kept why) not b s at waits = (let so = meets_so why in meets_stay k x s b o mixed so.0 kept so.1 at waits)
  waiting_stay (steps.Does x from nexts.Forget kept why) not b s at waits = absurd (forgets_not why)
  waiting_stay (steps.Refuses n x r call) not b s at waits = absurd (cc (call))
  waiting_stay (steps.Completes_at_once n x r call completes none) not b s at waits = absurd (cc (call))
  waiting_stay (steps.Makes_record n x r done call makes) not b s at waits = absurd (cc (call))
  waiting_stay (steps.Forces_given n id scn c call named) not b s at waits = absurd (cc (call))
  waiting_stay (steps.Forces_commit n id c call named) not b s at waits = absurd (cc (call))
  waiting_stay (steps.Forces_rollback n id c call named) not b s at waits = absurd (cc (call))
  waiting_stay (steps.Hides n mixed id x call found) not b s at waits = absurd (cc (call))
  waiting_stay (steps.Advises n a call) not b s at waits = absurd (cc (call))
  waiting_stay (steps.Leaves n x r c call ends has live) not b s at waits = absurd (cc (call))
  waiting_stay (steps.Sets_read_only n call) not b s at waits = absurd (cc (call))
  waiting_stay (steps.Sets_savepoint n x name call has code live) not b s at waits = absurd (cc (call))
  waiting_stay (steps.Gives_up n x gives has calls live) not b s at waits = absurd (cc (gives))
  waiting_stay (steps.Gives_up_commit n c o gives has calls live) not b s at waits = absurd (cc (gives))
  waiting_stay (steps.Images checkpoint) not b s at waits = absurd (cc (checkpoint))
  waiting_stay _ not b s at waits = at

  -- ---- the rows that there are then

  -- A branch decided in the turn.
  pub data DecidesBy (d : TurnDraft) (x : KeptRow) : Type 0 where
    By_decision : (j : NodeState) (l : Live) (below : Bool) → d ≡ act_turn j l below acts.Decide → x ≡ decided_as (decided_of (j.clock + 1) l (own_changes j l.me)) → DecidesBy d x

  module _ (old : NodeState) where
    -- a row that is to forget stood before the turn
    abbrev WaitedBefore : KeptRow → Type 0
    WaitedBefore x = IsToForget x → kept_row_at old x.me ≡ Some x

    -- or its branch decided in it
    abbrev pub WaitedOrDecides : TurnDraft → KeptRow → Type 0
    WaitedOrDecides d x = IsToForget x → (kept_row_at old x.me ≡ Some x) ⊎ DecidesBy d x

    waited_all : (d : TurnDraft) (ks : List KeptRow) → AllByRecursion WaitedBefore ks → AllByRecursion (WaitedOrDecides d) ks
    waited_all d ks all = all_weaker WaitedBefore (WaitedOrDecides d) (λ x so waits. inl (so waits)) ks all

    seals_all : (d : TurnDraft) (k : NodeState) (l : Live) (path : Option ℕ) → AllByRecursion WaitedBefore k.stored.durable.kept
        → AllByRecursion (WaitedOrDecides d) (applied k.stored (records.Sealed (sealed_of k.clock l (own_changes k l.me) path))).durable.kept
    unfolding applied durable_after kept_after
    seals_all d k l path all =
        all_put (WaitedOrDecides d) kept_row_id k.stored.durable.kept (sealed_as (sealed_of k.clock l (own_changes k l.me) path)) (waited_all d k.stored.durable.kept all) (λ waits. (let knows : false ≡ true = waits.0 in absurd (cc (knows))))

    decides_all : (k : NodeState) (l : Live) (below : Bool) → AllByRecursion WaitedBefore k.stored.durable.kept
        → AllByRecursion (WaitedOrDecides (act_turn k l below acts.Decide)) (applied k.stored (records.Decided (decided_of (k.clock + 1) l (own_changes k l.me)))).durable.kept
    unfolding applied durable_after kept_after
    decides_all k l below all =
        let row : KeptRow = decided_as (decided_of (k.clock + 1) l (own_changes k l.me)) in
        let d : TurnDraft = act_turn k l below acts.Decide in
        cond_both (has_neighbors row) (put_by_branch kept_row_id k.stored.durable.kept row) k.stored.durable.kept (AllByRecursion (WaitedOrDecides d))
        (λ near. all_put (WaitedOrDecides d) kept_row_id k.stored.durable.kept row (waited_all d k.stored.durable.kept all) (λ waits. inr (By_decision k l below refl refl))) (λ alone. waited_all d k.stored.durable.kept all)

    ends_all : (d : TurnDraft) (k : NodeState) (c : BranchId) → AllByRecursion WaitedBefore k.stored.durable.kept → AllByRecursion (WaitedOrDecides d) (applied k.stored (records.Ended c decisions.Rollback)).durable.kept
    unfolding applied durable_after kept_after
    ends_all d k c all = rows_left WaitedBefore (WaitedOrDecides d) (stands_at c) (λ x other so waits. inl (so waits)) k.stored.durable.kept all

    meets_all : (d : TurnDraft) (k : NodeState) (c : BranchId) (mixed : Bool) → AllByRecursion WaitedBefore k.stored.durable.kept
        → AllByRecursion (WaitedOrDecides d) (applied k.stored (records.Met c decisions.Rollback mixed)).durable.kept
    unfolding applied durable_after kept_after
    meets_all d k c true all =
        rows_changed WaitedBefore (WaitedOrDecides d) c (met_as decisions.Rollback true) (λ x at so waits. (let knows : false ≡ true = waits.0 in absurd (cc (knows)))) (λ x other so waits. inl (so waits)) k.stored.durable.kept all
    meets_all d k c false all = rows_left WaitedBefore (WaitedOrDecides d) (stands_at c) (λ x other so waits. inl (so waits)) k.stored.durable.kept all

    -- each row that is to forget stood before the turn, or its branch decided in it
    pub rows_waited : {k : NodeState} {d : TurnDraft} → Step p input k d → AllByRecursion WaitedBefore k.stored.durable.kept → AllByRecursion (WaitedOrDecides d) d.after.stored.durable.kept
    rows_waited (steps.Begins n x read_at call begins range free step) all = absurd (cc (call))
    rows_waited (steps.Counts_call n x call counts step) all = absurd (cc (call))
    rows_waited (steps.Goes_back x step goes next) all = rows_waited next all
    rows_waited (steps.Pends n l given call has live code writer step) all = absurd (cc (call))
    rows_waited (steps.Lets_reads_go l comment below live begins step) all = rows_waited step all
    rows_waited (steps.Counts_ack x from kept came counts step) all = absurd (no_ack_came came)
    rows_waited (steps.Acts {k = k} l below acts.Seal why) all = seals_all _ k l None all
    rows_waited (steps.Acts {k = k} l below (acts.SealAndPass i) why) all = seals_all _ k l (Some i) all
    rows_waited (steps.Acts {k = k} l below acts.Decide why) all = decides_all k l below all
    rows_waited (steps.Does {k = k} x from (nexts.End o) kept why) all =
        subst (λ w. AllByRecursion (WaitedOrDecides (next_turn k x from (nexts.End o))) (applied k.stored (records.Ended x.me w)).durable.kept) (sym (ends_so why).0) (ends_all (next_turn k x from (nexts.End o)) k x.me all)
    rows_waited (steps.Does {k = k} x from (nexts.Meet o mixed) kept why) all =
        subst (λ w. AllByRecursion (WaitedOrDecides (next_turn k x from (nexts.Meet o mixed))) (applied k.stored (records.Met x.me w mixed)).durable.kept) (sym (meets_so why).0) (meets_all (next_turn k x from (nexts.Meet o mixed)) k x.me mixed all)
    rows_waited (steps.Does x from nexts.Forget kept why) all = absurd (forgets_not why)
    rows_waited (steps.Refuses n x r call) all = absurd (cc (call))
    rows_waited (steps.Completes_at_once n x r call completes none) all = absurd (cc (call))
    rows_waited (steps.Makes_record n x r done call makes) all = absurd (cc (call))
    rows_waited (steps.Forces_given n id scn c call named) all = absurd (cc (call))
    rows_waited (steps.Forces_commit n id c call named) all = absurd (cc (call))
    rows_waited (steps.Forces_rollback n id c call named) all = absurd (cc (call))
    rows_waited (steps.Hides n mixed id x call found) all = absurd (cc (call))
    rows_waited (steps.Advises n a call) all = absurd (cc (call))
    rows_waited (steps.Leaves n x r c call ends has live) all = absurd (cc (call))
    rows_waited (steps.Sets_read_only n call) all = absurd (cc (call))
    rows_waited (steps.Sets_savepoint n x name call has code live) all = absurd (cc (call))
    rows_waited (steps.Gives_up n x gives has calls live) all = absurd (cc (gives))
    rows_waited (steps.Gives_up_commit n c o gives has calls live) all = absurd (cc (gives))
    rows_waited (steps.Images checkpoint) all = absurd (cc (checkpoint))
    rows_waited {k = k} _ all = waited_all _ k.stored.durable.kept all
