-- A COMMIT that comes to a node changes its session's root alone. Where a live root that is working leaves without a rollback, or begins its
-- collect, its COMMIT came, and was not refused.
use Rattle.std.proofs.Common.{◌≡◌, ◌≢◌, ℕ, ◌&&◌, ◌||◌, ◌⊎◌, Bool, true, false, List, [], ◌∷◌, map, unwrap_or, Option, Some, None, inl, inr, refl, sym, ap, subst, ◌∙◌}
use Rattle.std.specs.List.{list_any}
use Rattle.tran_ids.proofs.BranchLemmas.{equal_from_same}
use Rattle.tran_ids.proofs.ListedLemmas.{put_found, put_leaves, drop_gone, drop_leaves}
use Rattle.node_rules.specs.Data.{BranchId, Edge, Live, Act, Place, RedoRecord}
use Rattle.session_tree.specs.Live.{children_of}
use Rattle.node_rules.specs.Data.acts
use Rattle.node_rules.specs.Data.inputs
use Rattle.node_rules.specs.Data.kinds
use Rattle.node_rules.specs.Data.phases
use Rattle.node_rules.specs.Data.stmts
use Rattle.node_rules.specs.declared.session.PendingCall.TheVariants as pending
use Rattle.node_rules.specs.Words.{same, item_at, put_item, drop_item}
use Rattle.node_rules.specs.NodeState.{NodeState, Branch, TurnDraft, live_id, live_at, branch_at, to_each}
use Rattle.node_rules.specs.Sessions.{session_at, with_call}
use Rattle.node_rules.specs.Client.{root_by, root_at, commit_at, commit_by}
use Rattle.node_rules.specs.Prepare.{act_turn, ready, collecting, with_comment, first_act, without_read_keys}
use Rattle.node_rules.specs.Turn.{draft_of, stamped}
use Rattle.run_rules.specs.Trail.{is_quiet}
use Rattle.node_rules.proofs.Steps.{HasRoot}
use Rattle.node_rules.proofs.StandLemmas.{RootSo, root_so}
use Rattle.run_branch_laws.proofs.KeptRowLemmas.{IsSealOf}
use Rattle.tree_laws.proofs.SiteLemmas.{IsDecisionOf}
use Rattle.run_branch_laws.proofs.StillLemmas.{collected}

-- an act concerns its branch alone
act_other : (k : NodeState) (l : Live) (b : Bool) (a : Act) (c : BranchId) → same l.me c ≡ false → live_at (act_turn k l b a).after c ≡ live_at k c
act_other k l b acts.Rest c other = put_leaves live_id k.lives l c other
act_other k l b acts.AskDown c other = put_leaves live_id k.lives l c other
act_other k l b acts.SayReady c other = put_leaves live_id k.lives (ready l) c other
act_other k l b _ c other = drop_leaves live_id k.lives l.me c other

-- a record of this branch
abbrev pub Ends_record : BranchId → Option RedoRecord → Type 0
Ends_record c w = IsSealOf c w ⊎ IsDecisionOf c w

act_record : (k : NodeState) (l : Live) (b : Bool) (a : Act) (c : BranchId) → Ends_record c (act_turn k l b a).wrote → l.me ≡ c
act_record k l b acts.Seal c (inl is) = is
act_record k l b (acts.SealAndPass i) c (inl is) = is
act_record k l b acts.Decide c (inr is) = is
act_record k l b acts.Seal c (inr is) = absurd is
act_record k l b (acts.SealAndPass i) c (inr is) = absurd is
act_record k l b acts.Decide c (inl is) = absurd is
act_record k l b _ c is = elim is [ inl never ↦ absurd never | inr never ↦ absurd never ]

-- Rollbacks are no ReadOnly
no_quiet : (q : Bool) → (q && false) ≡ false
no_quiet true = refl
no_quiet false = refl

rolls_loud : (clock : ℕ) (me c : BranchId) (bs : List BranchId) → list_any (is_quiet c) (map (stamped clock) (to_each me kinds.Rollback bs)) ≡ false
rolls_loud clock me c [] = refl
rolls_loud clock me c (b ∷ bs) = ap (λ q. q || list_any (is_quiet c) (map (stamped clock) (to_each me kinds.Rollback bs))) (no_quiet (same me c)) ∙ rolls_loud clock me c bs

module _ (k : NodeState) (n : ℕ) (comment : List ℕ) where
  -- it is the root of the session, its transaction needs no rollback, and is not READ ONLY
  abbrev pub Commits_root : BranchId → Type 0
  Commits_root c = (x : Branch) × (branch_at k x.live.me ≡ Some x) × (x.live.me ≡ c) × HasRoot k n x.live.me × ((session_at k.sessions n).code ≡ None) × (x.live.read_at ≡ None)

  -- What the COMMIT makes of a branch: nothing; it is the root, and begins its collect; or it is the root of a READ ONLY transaction,
  -- which leaves and does not answer ReadOnly.
  pub data CommitTurns (c : BranchId) (d : TurnDraft) : Type 0 where
    Is_other : live_at d.after c ≡ live_at k c → CommitTurns c d
    Is_committed : Commits_root c → CommitTurns c d
    Is_reader : live_at d.after c ≡ None → ((clock : ℕ) → list_any (is_quiet c) (map (stamped clock) d.says) ≡ false) → CommitTurns c d

  -- the act of the root
  abbrev pub with_pending : NodeState
  with_pending = record k { sessions = with_call k.sessions n pending.Commit }

  changes_at : (x : Branch) (read_at : Option ℕ) → x.live.read_at ≡ read_at → (session_at k.sessions n).code ≡ None → RootSo k n (Some x) → (c : BranchId) → CommitTurns c (commit_at k n comment x read_at)
  changes_at x (Some scn) reads is root c = by (same x.live.me c) refl
    where
      by : (q : Bool) → same x.live.me c ≡ q → CommitTurns c (commit_at k n comment x (Some scn))
      by true here = Is_reader (subst (λ b. item_at live_id (drop_item live_id k.lives x.live.me) b ≡ None) (equal_from_same x.live.me c here) (drop_gone live_id k.lives x.live.me)) (λ clock. rolls_loud clock x.live.me c (children_of x.live))
      by false other = Is_other (drop_leaves live_id k.lives x.live.me c other)
  changes_at x None reads is root c = by (same x.live.me c) refl
    where
      by : (q : Bool) → same x.live.me c ≡ q → CommitTurns c (commit_at k n comment x None)
      by true here = Is_committed (x, root.1, equal_from_same x.live.me c here, root.0, is, reads)
      by false other =
          Is_other (act_other (without_read_keys with_pending x.live.me) (collecting (with_comment x.live comment) true) true (first_act (collecting (with_comment x.live comment) true) true) c other)

  changes_by : (code : Option ℕ) (o : Option Branch) → (session_at k.sessions n).code ≡ code → RootSo k n o → (c : BranchId) → CommitTurns c (commit_by k n comment code o)
  changes_by code None is root c = Is_other refl
  changes_by (Some w) (Some x) is root c = Is_other refl
  changes_by None (Some x) is root c = changes_at x x.live.read_at refl is root c

  writes_at : (x : Branch) (read_at : Option ℕ) → x.live.read_at ≡ read_at → (session_at k.sessions n).code ≡ None → RootSo k n (Some x) → (c : BranchId) → Ends_record c (commit_at k n comment x read_at).wrote → Commits_root c
  writes_at x (Some scn) reads is root c wrote = elim wrote [ inl never ↦ absurd never | inr never ↦ absurd never ]
  writes_at x None reads is root c wrote =
      let me : x.live.me ≡ c = act_record (without_read_keys with_pending x.live.me) (collecting (with_comment x.live comment) true) true (first_act (collecting (with_comment x.live comment) true) true) c wrote in
      (x, root.1, me, root.0, is, reads)

  writes_by : (code : Option ℕ) (o : Option Branch) → (session_at k.sessions n).code ≡ code → RootSo k n o → (c : BranchId) → Ends_record c (commit_by k n comment code o).wrote → Commits_root c
  writes_by code None is root c wrote = elim wrote [ inl never ↦ absurd never | inr never ↦ absurd never ]
  writes_by (Some w) (Some x) is root c wrote = elim wrote [ inl never ↦ absurd never | inr never ↦ absurd never ]
  writes_by None (Some x) is root c wrote = writes_at x x.live.read_at refl is root c wrote

module _ (p : Place) (k : NodeState) (n : ℕ) (given : Option (List ℕ)) where
  abbrev pub d : TurnDraft
  d = draft_of p k (inputs.Call n (Some (stmts.Commit given)))

  pub commit_changes : (c : BranchId) → CommitTurns k n (unwrap_or given []) c d
  commit_changes c = changes_by k n (unwrap_or given []) (session_at k.sessions n).code (root_at k n) refl (root_so k n) c

  pub commit_writes : (c : BranchId) → Ends_record c d.wrote → Commits_root k n (unwrap_or given []) c
  commit_writes c wrote = writes_by k n (unwrap_or given []) (session_at k.sessions n).code (root_at k n) refl (root_so k n) c wrote

-- ---- what a COMMIT leaves of its root

-- the same children, weights and changes, in its prepare phase
abbrev pub AsAsked : Live → Live → Type 0
AsAsked l w = (children_of w ≡ children_of l) × (map (λ e. e.weight) w.edges ≡ map (λ e. e.weight) l.edges) × (w.changed ≡ l.changed) × (w.phase ≢ phases.Working)

kept_as : (k : NodeState) (l w : Live) → l.phase ≢ phases.Working → item_at live_id (put_item live_id k.lives l) l.me ≡ Some w → AsAsked l w
kept_as k l w other is = let it : Some l ≡ Some w = sym (put_found live_id k.lives l) ∙ is in let here : l ≡ w = cc in subst (AsAsked l) here (refl, refl, refl, other)

act_leaves : (k : NodeState) (l : Live) (b : Bool) (a : Act) (w : Live) → l.phase ≢ phases.Working → live_at (act_turn k l b a).after l.me ≡ Some w → AsAsked l w
act_leaves k l b acts.Rest w other is = kept_as k l w other is
act_leaves k l b acts.AskDown w other is = kept_as k l w other is
act_leaves k l b acts.SayReady w other is = kept_as k (ready l) w (λ no_more. absurd cc) is
act_leaves k l b acts.SayReadOnly w other is = (let none : live_at (act_turn k l b acts.SayReadOnly).after l.me ≡ None = drop_gone live_id k.lives l.me in absurd (cc (none, is)))
act_leaves k l b acts.Seal w other is = (let none : live_at (act_turn k l b acts.Seal).after l.me ≡ None = drop_gone live_id k.lives l.me in absurd (cc (none, is)))
act_leaves k l b (acts.SealAndPass i) w other is = (let none : live_at (act_turn k l b (acts.SealAndPass i)).after l.me ≡ None = drop_gone live_id k.lives l.me in absurd (cc (none, is)))
act_leaves k l b acts.Decide w other is = (let none : live_at (act_turn k l b acts.Decide).after l.me ≡ None = drop_gone live_id k.lives l.me in absurd (cc (none, is)))
act_leaves k l b acts.Finish w other is = (let none : live_at (act_turn k l b acts.Finish).after l.me ≡ None = drop_gone live_id k.lives l.me in absurd (cc (none, is)))
act_leaves k l b acts.Abandon w other is = (let none : live_at (act_turn k l b acts.Abandon).after l.me ≡ None = drop_gone live_id k.lives l.me in absurd (cc (none, is)))

pub commit_leaves : (p : Place) (k : NodeState) (n : ℕ) (given : Option (List ℕ)) (x : Branch) → HasRoot k n x.live.me → branch_at k x.live.me ≡ Some x → (session_at k.sessions n).code ≡ None → x.live.read_at ≡ None
    → (w : Live) → live_at (draft_of p k (inputs.Call n (Some (stmts.Commit given)))).after x.live.me ≡ Some w → AsAsked x.live w
commit_leaves p k n given x has found code writes w is =
    let root : root_at k n ≡ Some x = ap (root_by k) has ∙ found in
    let c : List ℕ = unwrap_or given [] in
    let one : commit_by k n c (session_at k.sessions n).code (root_at k n) ≡ commit_at k n c x None
    = ap (λ o. commit_by k n c o (root_at k n)) code ∙ (ap (λ o. commit_by k n c None o) root ∙ ap (commit_at k n c x) writes) in
    let l : Live = collecting (with_comment x.live c) true in
    let so : AsAsked l w = act_leaves (without_read_keys (with_pending k n c) x.live.me) l true (first_act l true) w (λ is_working. absurd cc) (subst (λ (d : TurnDraft). live_at d.after x.live.me ≡ Some w) one is) in
    (so.0 ∙ collected (λ (e : Edge). e.peer) (λ e. refl) x.live.edges, so.1 ∙ collected (λ (e : Edge). e.weight) (λ e. refl) x.live.edges, so.2, so.3)
