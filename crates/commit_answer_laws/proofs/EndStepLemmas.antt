-- Each step of a node that ends a COMMIT that was pending ends it for a reason, with the answer of that reason.
use Rattle.std.proofs.Common.{◌≡◌, ◌≢◌, ℕ, ◌+◌, ◌⊎◌, Bool, true, false, if◌then◌else◌, is_none, List, [], ◌∷◌, ◌++◌, ◌&&◌, ◌||◌, map, Option, Some, None, inl, inr, refl, sym, ap, subst, ◌∙◌}
use Rattle.std.proofs.lemmas.Bool.{and_parts}
use Rattle.commit_forget.specs.declared.next.Next.TheVariants as nexts
use Rattle.tran_ids.proofs.ListedLemmas.{drop_gone, item_is, put_leaves}
use Rattle.tran_ids.proofs.BranchLemmas.{equal_from_same}
use Rattle.session_tree.specs.Live.{is_branch, children_of}
use Rattle.session_tree.specs.Tree.{step as step_from}
use Rattle.session_tree.specs.declared.act.Walk.TheVariants as walks
use Rattle.reco.specs.Asks.{stamped, to_each, to_one}
use Rattle.run_rules.specs.Trail.{is_read_only, is_quiet}
use Rattle.std.specs.List.{list_any}
use Rattle.node_rules.specs.Data.{Stmt, Answer, BranchId, Decision, Live, Act, Place, Input, Edge, KeptRow, Decided, RedoRecord, Msg, Kind}
use Rattle.node_rules.specs.Data.acts
use Rattle.node_rules.specs.Data.decisions
use Rattle.node_rules.specs.Data.inputs
use Rattle.node_rules.specs.Data.kinds
use Rattle.node_rules.specs.Data.stmts
use Rattle.node_rules.specs.Data.tasks
use Rattle.node_rules.specs.Data.votes
use Rattle.node_rules.specs.Data.records
use Rattle.node_rules.specs.declared.session.Finished.{Finished}
use Rattle.node_rules.specs.declared.session.Session.{Session}
use Rattle.node_rules.specs.declared.session.PendingCall.TheVariants as pending
use Rattle.node_rules.specs.Words.{same, set_numbered, item_at, drop_item}
use Rattle.node_rules.specs.Calls.{answer_ends, hears_reply, reply_going, reply_of}
use Rattle.node_rules.specs.Client.{new_root, begun_by, given_up_code, commit_given_up}
use Rattle.node_rules.specs.Marks.{node_back}
use Rattle.node_rules.specs.Commit.{decision_answers, acked_by}
use Rattle.node_rules.specs.Inputs.{Came}
use Rattle.node_rules.specs.NodeState.{NodeState, Branch, TurnDraft, live_id, live_at, branch_at, kept_row_id, kept_row_at, with_kept_row}
use Rattle.node_rules.specs.Prepare.{abandon_ends, is_alone, act_turn, decided_of, own_changes, voted}
use Rattle.node_rules.specs.Sessions.{session_at, is_commit, commit_is_pending, commit_answer, commit_complete, tran_refusal}
use Rattle.node_rules.specs.Statement.{ran, after_run}
use Rattle.node_rules.proofs.StandLemmas.{live_so}
use Rattle.node_rules.proofs.StepLemmas.{branch_found, IsLive, acting_live}
use Rattle.node_rules.proofs.Steps as steps
use Rattle.node_rules.proofs.Steps.{Step, Answers, Asked, Acting, Calls_back, Collects, Collected, Goes_to}
use Rattle.run_branch_laws.proofs.QuietLemmas.{NoRows, acting_apart, came_apart}
use Rattle.run_base_laws.proofs.BeginLemmas.{may_begin}
use Rattle.run_base_laws.proofs.RootLemmas.{SessionsFit, session_or_before, begun_so, counted_so, back_so, counted_session, pends_so}
use Rattle.answer_origin_laws.proofs.ExecLemmas.{ExecsBelow}
use Rattle.tree_laws.proofs.TopStepLemmas.{Finishes, On_answer}
use Rattle.run_claims.specs.Knowledge.{neighbors_of}
use Rattle.tree_trail_laws.proofs.NoSiteLemmas.{Writes}
use Rattle.commit_answer_laws.specs.CommitEndLaws as laws
use Rattle.commit_answer_laws.specs.CommitEndLaws.{row_knows, LeavesUnrecorded, CommitEnd, EndsCall}
use Rattle.commit_answer_laws.proofs.AloneLemmas.{alone_names_none}

neither : (p q r : Bool) → q ≡ false → r ≡ false → ((p && q) || r) ≡ false
neither true false r none rest = rest
neither true true r none rest = absurd cc
neither false q r none rest = rest

-- Why the COMMIT of the root g ends in a step, with this answer. A root that ends without a site has found that none of its
-- session tree has changes.
pub data StepEnd (k : NodeState) (input : Input) (after : NodeState) (wrote : Option RedoRecord) (sent : List Msg) (g : BranchId) (a : Answer) : Type 0 where
  Has_decided : (r : Decided) (l : Live) → live_at k g ≡ Some l → wrote ≡ Some (records.Decided r) → r.me ≡ g → neighbors_of r ≡ [] → a ≡ commit_complete → StepEnd k input after wrote sent g a
  Has_no_site : (leaves : LeavesUnrecorded k after wrote sent g) → leaves.live.parent ≡ None → Finishes input g leaves.live k.sessions → Writes input leaves.live → a ≡ commit_complete → StepEnd k input after wrote sent g a
  Has_forgotten : (s : KeptRow) → kept_row_at k g ≡ Some s → wrote ≡ Some (records.Forgot g) → a ≡ commit_complete → StepEnd k input after wrote sent g a
  Hears_abort : (from : BranchId) (sb : Bool) → Came input from g kinds.Abort → (leaves : LeavesUnrecorded k after wrote sent g) → Answers input leaves.live from votes.Abort sb → a ≡ tran_refusal 2050 g → StepEnd k input after wrote sent g a
  Is_given_up : input ≡ inputs.GiveUp g.session → LeavesUnrecorded k after wrote sent g → a ≡ tran_refusal 2050 g → StepEnd k input after wrote sent g a
  Ends_back : wrote ≡ Some (records.Ended g decisions.Rollback) → a ≡ tran_refusal 2050 g → StepEnd k input after wrote sent g a
  Meets_back : (mixed : Bool) → (session_at k.sessions g.session).call ≡ pending.Commit → wrote ≡ Some (records.Met g decisions.Rollback mixed) → a ≡ tran_refusal 2050 g → StepEnd k input after wrote sent g a
  Is_known : input ≡ inputs.GiveUp g.session → live_at k g ≡ None → row_knows (kept_row_at k g) ≡ true → a ≡ tran_refusal 2053 g → StepEnd k input after wrote sent g a
  Is_in_doubt : input ≡ inputs.GiveUp g.session → (session_at k.sessions g.session).call ≡ pending.Commit → live_at k g ≡ None → row_knows (kept_row_at k g) ≡ false → a ≡ tran_refusal 2054 g → StepEnd k input after wrote sent g a
  Is_forced : (d : Decision) (given : Bool) → wrote ≡ Some (records.Forced g d given) → a ≡ tran_refusal 2054 g → StepEnd k input after wrote sent g a

-- the reason that the law gives
pub as_end : {k : NodeState} {input : Input} {after : NodeState} {wrote : Option RedoRecord} {sent : List Msg} {g : BranchId} {a : Answer} → StepEnd k input after wrote sent g a → CommitEnd k input after wrote sent g a
as_end (Has_decided r l live wrote me none is) = laws.Has_decided r l live wrote me is
as_end (Has_no_site leaves top ends writes is) = laws.Has_no_site leaves is
as_end (Has_forgotten s row wrote is) = laws.Has_forgotten s row wrote is
as_end (Hears_abort from sb came leaves answers is) = laws.Hears_abort from came leaves is
as_end (Is_given_up given leaves is) = laws.Is_given_up given leaves is
as_end (Ends_back wrote is) = laws.Ends_back wrote is
as_end (Meets_back mixed call wrote is) = laws.Meets_back mixed wrote is
as_end (Is_known given gone knows is) = laws.Is_known given gone knows is
as_end (Is_in_doubt given call gone doubt is) = laws.Is_in_doubt given gone doubt is
as_end (Is_forced d given wrote is) = laws.Is_forced d given wrote is

-- Prepare comes to no root
abbrev pub PreparesBelow : Input → NodeState → Type 0
PreparesBelow input k = (from to : BranchId) (site_below : Bool) (comment : List ℕ) → Came input from to (kinds.Prepare site_below comment) → (l : Live) → live_at k to ≡ Some l → l.parent ≢ None

no_parent : (o : Option BranchId) → is_none o ≡ true → o ≡ None
no_parent None is = refl
no_parent (Some parent) is = absurd cc

-- a root without a site
no_site : {l : Live} {below : Bool} → Collected l below acts.Finish → (l.parent ≡ None) × (step_from l ≡ walks.Nowhere)
no_site {l = l} (steps.Has_no_site root is) = (no_parent l.parent root, is)

module _ (k0 : NodeState) (input : Input) (g : BranchId) (a : Answer) where
  abbrev its : Finished
  its = record { session = g.session; answer = a }

  abbrev End : TurnDraft → Type 0
  End d = StepEnd k0 input d.after d.wrote (map (stamped d.after.clock) d.says) g a

  -- the transaction of its session is g
  abbrev pub RootIs : List Session → Type 0
  RootIs ss = (session_at ss g.session).root ≡ Some g

  -- ---- calls that end

  same_one : (b : BranchId) (x : Answer) → record { session = b.session; answer = x } ≡ its → (b.session ≡ g.session) × (a ≡ x)
  same_one b x is = (ap (λ (f : Finished). f.session) is, sym (ap (λ (f : Finished). f.answer) is))

  commit_its : (ss : List Session) → RootIs ss → (b : BranchId) (x : Answer) → EndsCall its (commit_answer ss b x) → (b ≡ g) × (a ≡ x)
  commit_its ss root b x = by (commit_is_pending ss b) refl
    where
      root_of : (b.session ≡ g.session) → (session_at ss b.session).root ≡ Some b → b ≡ g
      root_of at has =
          let there : (session_at ss g.session).root ≡ Some b = subst (λ i. (session_at ss i).root ≡ Some b) at has in
          let both : Some b ≡ Some g = sym there ∙ root in
          cc

      by : (q : Bool) → commit_is_pending ss b ≡ q → EndsCall its (if q then (record { session = b.session; answer = x }) ∷ [] else []) → (b ≡ g) × (a ≡ x)
      by true is (inl it) =
          let one = same_one b x it in
          let has : (session_at ss b.session).root ≡ Some b = branch_found b (session_at ss b.session).root (and_parts (is_branch b (session_at ss b.session).root) (is_commit (session_at ss b.session).call) is).0 in
          (root_of one.0 has, one.1)
      by true is (inr none) = absurd none
      by false is none = absurd none

  -- a call of another session
  none_own : (n : ℕ) (x : Answer) → n ≢ g.session → EndsCall its ((record { session = n; answer = x }) ∷ []) → ⊥
  none_own n x other (inl is) = other (ap (λ (f : Finished). f.session) is)
  none_own n x other (inr none) = none

  ends_more : (xs ys : List Finished) → EndsCall its (xs ++ ys) → EndsCall its xs ⊎ EndsCall its ys
  ends_more [] ys is = inr is
  ends_more (x ∷ xs) ys (inl is) = inl (inl is)
  ends_more (x ∷ xs) ys (inr is) = elim (ends_more xs ys is) [ inl one ↦ inl (inr one) | inr two ↦ inr two ]

  -- an answer at a root of that session
  answer_its : (l : Live) (x : Answer) (o : Option BranchId) → EndsCall its (answer_ends l x o) → (o ≡ None) × (l.me.session ≡ g.session)
  answer_its l x None (inl is) = (refl, ap (λ (f : Finished). f.session) is)
  answer_its l x None (inr none) = absurd none
  answer_its l x (Some parent) none = absurd none

  -- ---- what is known where a step begins

  -- a Reply comes to no root of that session that waits
  abbrev pub NoReply : NodeState → Type 0
  NoReply k = (x : Branch) (from : BranchId) (call : ℕ) (weight : Option ℕ) (count : ℕ) (said : Answer) → Came input from x.live.me (kinds.Reply call weight count said) → branch_at k x.live.me ≡ Some x → x.live.parent ≡ None
      → x.live.me.session ≡ g.session → x.work.going ≡ None

  -- the same branches are live as before the turn
  abbrev pub Near : NodeState → Type 0
  Near k = k.lives ≡ k0.lives

  -- What is known.
  pub record Known (k : NodeState) : Type 0 where
    pub root : RootIs k.sessions
    pub fit : SessionsFit k
    pub below : ExecsBelow input k
    pub prepared : PreparesBelow input k
    pub replies : NoReply k
    pub near : NoRows input → Near k
    pub given : (n : ℕ) → input ≡ inputs.GiveUp n → k ≡ k0
    pub commits : (session_at k0.sessions g.session).call ≡ pending.Commit
    pub rows : (s : KeptRow) → kept_row_at k g ≡ Some s → (s0 : KeptRow) × (kept_row_at k0 g ≡ Some s0)

  -- a client's call is of another session
  module _ (other : (n : ℕ) (s : Option Stmt) → input ≡ inputs.Call n s → n ≢ g.session) where
    asked_not : {k : NodeState} {x : Branch} {s : Stmt} {given : ℕ} → Known k → Asked k input x s given → x.live.parent ≡ None → x.live.me.session ≡ g.session → ⊥
    asked_not now (steps.By_call n x s call rows has code live may) top at = other n (Some s) call (sym (now.fit.roots.each n x.live.me has) ∙ at)
    asked_not {k = k} now (steps.By_exec x from call given advice s came live runs) top at = now.below from x.live.me call (tasks.Run given advice s) came x.live (live_so k x.live.me x live) top

    -- nor does the root of that session go back
    gone_not : (k : NodeState) {x : Branch} {step : ℕ} → Known (node_back k x step) → Goes_to k input x step → x.live.parent ≡ None → x.live.me.session ≡ g.session → ⊥
    gone_not k now (steps.By_rollback_to n x name step call has code live set) top at = other n (Some (stmts.RollbackTo name)) call (sym (now.fit.roots.each n x.live.me has) ∙ at)
    gone_not k now (steps.By_back x from call keep came live runs) top at = now.below from x.live.me call (tasks.GoBack keep) came x.live (live_so k x.live.me x live) top

    back_not : {k : NodeState} {x : Branch} {step from : ℕ} → Known k → Calls_back k input x step from → x.live.parent ≡ None → x.live.me.session ≡ g.session → ⊥
    back_not now (steps.Has_gone before x step goes is) top at = gone_not before (subst Known is now) goes top at
    back_not now (steps.Has_heard x weight count b i e h step answered going errand plain) top at =
        (let none = now.replies x answered.from answered.call weight count b answered.came answered.live top at in absurd (cc (none, going)))

    -- a live root that is near is live before
    live_near : (k : NodeState) → Near k → (b : BranchId) (l : Live) → live_at k b ≡ Some l → live_at k0 b ≡ Some l
    live_near k near b l live = subst (λ (ls : List Live). item_at live_id ls b ≡ Some l) near live

    abbrev leaves_by : (k : NodeState) → Near k → (l : Live) → l.me ≡ g → IsLive k l.me → (after : NodeState) → after.lives ≡ drop_item live_id k.lives l.me → (sent : List Msg) → list_any (is_quiet g) sent ≡ false → LeavesUnrecorded k0 after None sent g
    leaves_by k near l me live after is sent silent = record {
      live = live.0;
      there = live_near k near g live.0 (subst (λ i. live_at k i ≡ Some live.0) me live.1);
      gone = ap (λ (ls : List Live). item_at live_id ls g) is ∙ (ap (λ i. item_at live_id (drop_item live_id k.lives l.me) i) (sym me) ∙ drop_gone live_id k.lives l.me);
      unwritten = refl;
      silent = silent;
    }

    -- who rolls back does not say ReadOnly
    each_silent : (c : ℕ) (me : BranchId) (kind : Kind) (tos : List BranchId) → is_read_only kind ≡ false → list_any (is_quiet g) (map (stamped c) (to_each me kind tos)) ≡ false
    each_silent c me kind [] unread = refl
    each_silent c me kind (b ∷ bs) unread = neither (same me g) (is_read_only kind) (list_any (is_quiet g) (map (stamped c) (to_each me kind bs))) unread (each_silent c me kind bs unread)

    abandon_silent : (c : ℕ) (l : Live) (o : Option BranchId) → list_any (is_quiet g) (map (stamped c) (to_one l.me kinds.Abort o ++ to_each l.me kinds.Rollback (children_of l))) ≡ false
    abandon_silent c l None = each_silent c l.me kinds.Rollback (children_of l) refl
    abandon_silent c l (Some parent) =
        neither (same l.me g) false (list_any (is_quiet g) (map (stamped c) (to_each l.me kinds.Rollback (children_of l)))) refl (each_silent c l.me kinds.Rollback (children_of l) refl)

    module _ (k : NodeState) (now : Known k) where
      alone_ends : (here : Bool) (l : Live) → EndsCall its (if here then commit_answer k.sessions l.me commit_complete else []) → (here ≡ true) × (l.me ≡ g) × (a ≡ commit_complete)
      alone_ends true l is = (let one = commit_its k.sessions now.root l.me commit_complete is in (refl, one.0, one.1))
      alone_ends false l none = absurd none

      -- a root without neighbours decides
      decide_ends : {l : Live} {below : Bool} → Acting k input l below acts.Decide → EndsCall its (if is_alone l then commit_answer k.sessions l.me commit_complete else []) → End (act_turn k l below acts.Decide)
      decide_ends {l = l} why is =
          let one = alone_ends (is_alone l) l is in
          let live = acting_live why in
          Has_decided (decided_of (k.clock + 1) l (own_changes k l.me)) live.0 (live_near k (now.near (acting_apart why)) g live.0 (subst (λ i. live_at k i ≡ Some live.0) one.1 live.1)) refl one.1
          (alone_names_none (k.clock + 1) l (own_changes k l.me) one.0) one.2

      abandon_its : (l : Live) (o : Option BranchId) → EndsCall its (abandon_ends k.sessions l o) → (l.me ≡ g) × (a ≡ tran_refusal 2050 l.me)
      abandon_its l None is = commit_its k.sessions now.root l.me (tran_refusal 2050 l.me) is
      abandon_its l (Some parent) none = absurd none

      -- a root ends without a site, on the last answer of its children
      finish_ends : {l : Live} {below : Bool} → Near k → Acting k input l below acts.Finish → l.me ≡ g → a ≡ commit_complete → End (act_turn k l below acts.Finish)
      finish_ends near (steps.Has_no_children y comment below _ found (steps.By_commit n given call has code writer is) none collected) me complete =
          absurd (other n (Some (stmts.Commit given)) call (sym (now.fit.roots.each n y.me has) ∙ ap (λ (z : BranchId). z.session) me))
      finish_ends near (steps.Has_no_children y comment below _ found (steps.By_prepare from _ came working) none collected) me complete =
          absurd (now.prepared from y.me below comment came y found (no_site collected).0)
      finish_ends near (steps.Hears_last y from v below _ found answers more all collected) me complete =
          let so = no_site collected in
          Has_no_site (leaves_by k near (voted y from v) me (y, found) (act_turn k (voted y from v) below acts.Finish).after refl [] refl) so.0 (On_answer from v below answers more all so.1) (λ n given call. absurd (came_apart n (stmts.Commit given) answers.came call)) complete
      finish_ends near (steps.At_point y from _ found came is pointed) me complete = elim pointed [ ]

      -- on a child's Abort a root rolls back
      abort_ends : {l : Live} {below : Bool} → Acting k input l below acts.Abandon → l.me ≡ g → a ≡ tran_refusal 2050 g → End (act_turn k l below acts.Abandon)
      abort_ends (steps.Hears_abort y from below found answers) me is =
          let it : Some kinds.Abort ≡ Some answers.kind = answers.is_vote in
          let kind : answers.kind ≡ kinds.Abort = cc in
          let came : Came input from y.me kinds.Abort = subst (Came input from y.me) kind answers.came in
          let z : Live = voted y from votes.Abort in
          Hears_abort from below (subst (λ i. Came input from i kinds.Abort) me came)
          (leaves_by k (now.near (λ n s call rows. came_apart n s answers.came call)) z me (y, found) (act_turn k z below acts.Abandon).after refl _ (abandon_silent (act_turn k z below acts.Abandon).after.clock z z.parent)) answers is
      abort_ends (steps.Has_no_children y comment below _ found begins none collected) me is = elim collected [ ]
      abort_ends (steps.Hears_last y from v below _ found answers more all collected) me is = elim collected [ ]
      abort_ends (steps.At_point y from _ found came is_point pointed) me is = elim pointed [ ]

      act_ends : (l : Live) (below : Bool) (x : Act) → Acting k input l below x → EndsCall its (act_turn k l below x).ended → End (act_turn k l below x)
      act_ends l below acts.Decide why is = decide_ends why is
      act_ends l below acts.Finish why is =
          let one = commit_its k.sessions now.root l.me commit_complete is in
          finish_ends (now.near (acting_apart why)) why one.0 one.1
      act_ends l below acts.Abandon why is = (let one = abandon_its l l.parent is in abort_ends why one.0 (subst (λ i. a ≡ tran_refusal 2050 i) one.0 one.1))
      act_ends l below acts.Rest why none = absurd none
      act_ends l below acts.AskDown why none = absurd none
      act_ends l below acts.SayReadOnly why none = absurd none
      act_ends l below acts.SayReady why none = absurd none
      act_ends l below acts.Seal why none = absurd none
      act_ends l below (acts.SealAndPass i) why none = absurd none

      back_its : (b : BranchId) (d : Decision) → EndsCall its (decision_answers k.sessions b d) → (d ≡ decisions.Rollback) × (b ≡ g) × (a ≡ tran_refusal 2050 g)
      back_its b (decisions.Commit n) none = absurd none
      back_its b decisions.Rollback is = (let one = commit_its k.sessions now.root b (tran_refusal 2050 b) is in (refl, one.0, subst (λ i. a ≡ tran_refusal 2050 i) one.0 one.1))

      -- a forced outcome, by a call of another session
      forced_its : (b : BranchId) (x : Answer) (n : ℕ) → n ≢ g.session → EndsCall its (commit_answer k.sessions b (tran_refusal 2054 b) ++ (record { session = n; answer = x }) ∷ []) → (b ≡ g) × (a ≡ tran_refusal 2054 g)
      forced_its b x n apart is = elim (ends_more (commit_answer k.sessions b (tran_refusal 2054 b)) ((record { session = n; answer = x }) ∷ []) is) [
        | inl one ↦ (let it = commit_its k.sessions now.root b (tran_refusal 2054 b) one in (it.0, subst (λ i. a ≡ tran_refusal 2054 i) it.0 it.1))
        | inr own ↦ absurd (none_own n x apart own)
      ]

    -- a row in which an Ack is noted was there
    acked_row : (k : NodeState) → Known k → (s : KeptRow) (from : BranchId) → kept_row_at k s.me ≡ Some s → (x : KeptRow) → kept_row_at (with_kept_row k (acked_by s from)) g ≡ Some x → (s0 : KeptRow) × (kept_row_at k0 g ≡ Some s0)
    acked_row k now s from kept x at = by (same s.me g) refl
      where
        by : (q : Bool) → same s.me g ≡ q → (s0 : KeptRow) × (kept_row_at k0 g ≡ Some s0)
        by true here = now.rows s (subst (λ i. kept_row_at k i ≡ Some s) (equal_from_same s.me g here) kept)
        by false apart = now.rows x (sym (put_leaves kept_row_id k.stored.durable.kept (acked_by s from) g apart) ∙ at)

    -- a session that another call changes
    root_stays : (ss : List Session) (n : ℕ) (s : Session) → n ≢ g.session → RootIs ss → RootIs (set_numbered ss n s)
    root_stays ss n s apart root = elim (session_or_before ss n g.session s) [
      | inl still ↦ ap (λ (z : Session). z.root) still ∙ root
      | inr new ↦ absurd (apart new.0)
    ]

    call_not_given : {n m : ℕ} {s : Option Stmt} → input ≡ inputs.Call n s → input ≡ inputs.GiveUp m → ⊥
    call_not_given call gives = absurd cc

    came_not_given : {m : ℕ} {from to : BranchId} {kind : _} → Came input from to kind → input ≡ inputs.GiveUp m → ⊥
    came_not_given came gives = (let is = came.is in absurd cc)

    collects_not_given : {k : NodeState} {l : Live} {comment : List ℕ} {below : Bool} {m : ℕ} → Collects k input l comment below → input ≡ inputs.GiveUp m → ⊥
    collects_not_given (steps.By_commit n given call has code writer is) gives = call_not_given call gives
    collects_not_given (steps.By_prepare from below came working) gives = came_not_given came gives

    goes_not_given : {k : NodeState} {x : Branch} {step m : ℕ} → Goes_to k input x step → input ≡ inputs.GiveUp m → ⊥
    goes_not_given (steps.By_rollback_to n x name step call has code live set) gives = call_not_given call gives
    goes_not_given (steps.By_back x from call keep came live runs) gives = came_not_given came gives

    call_no_reply : {n : ℕ} {s : Option Stmt} (k : NodeState) → input ≡ inputs.Call n s → NoReply k
    call_no_reply k call x from number weight count said came live top at = (let is = came.is in absurd cc)

    call_below : {n : ℕ} {s : Option Stmt} (k : NodeState) → input ≡ inputs.Call n s → ExecsBelow input k
    call_below k call from to number task came l live none = (let is = came.is in absurd cc)

    call_prepares : {n : ℕ} {s : Option Stmt} (k : NodeState) → input ≡ inputs.Call n s → PreparesBelow input k
    call_prepares k call from to below comment came l live none = (let is = came.is in absurd cc)

    no_edge : {A : Type 0} (x : A) (o : Option A) → o ≡ None → o ≡ Some x → ⊥
    no_edge x None none is = absurd cc
    no_edge x (Some y) none is = absurd cc

    not_replied : (x : Branch) (from : BranchId) (call i : ℕ) (e : Edge) → x.work.going ≡ None → reply_of x from call ≡ Some (i, e) → ⊥
    unfolding reply_of
    not_replied x from call i e none is = no_edge (i, e) (reply_going x from call x.work.going) (ap (reply_going x from call) none) is

    given_kept : (session_at k0.sessions g.session).call ≡ pending.Commit → (k : NodeState) → k ≡ k0 → (n : ℕ) → input ≡ inputs.GiveUp n → n ≡ g.session → live_at k g ≡ None → (d : TurnDraft) → (o : Option KeptRow) → kept_row_at k g ≡ o → a ≡ tran_refusal (given_up_code o) g → End d
    given_kept commits k same n gives at none d o row is = by (row_knows o) refl
      where
        input_is : input ≡ inputs.GiveUp g.session
        input_is = gives ∙ ap inputs.GiveUp at

        none0 : live_at k0 g ≡ None
        none0 = subst (λ (z : NodeState). live_at z g ≡ None) same none

        row0 : kept_row_at k0 g ≡ o
        row0 = subst (λ (z : NodeState). kept_row_at z g ≡ o) same row

        code : (r : Option KeptRow) (q : Bool) → row_knows r ≡ q → given_up_code r ≡ (if q then 2053 else 2054)
        code None false is = refl
        code None true is = absurd cc
        code (Some s) q is = ap (λ b. if b then 2053 else 2054) is

        by : (q : Bool) → row_knows o ≡ q → End d
        by true knows = Is_known input_is none0 (ap row_knows row0 ∙ knows) (is ∙ ap (λ c. tran_refusal c g) (code o true knows))
        by false knows = Is_in_doubt input_is commits none0 (ap row_knows row0 ∙ knows) (is ∙ ap (λ c. tran_refusal c g) (code o false knows))

    -- a statement is given up where a COMMIT was pending: no
    given_statement : (k : NodeState) → Known k → (n : ℕ) (x : Branch) → input ≡ inputs.GiveUp n → steps.HasRoot k n x.live.me → (session_at k.sessions n).call ≡ pending.Statement → (b : Answer)
        → EndsCall its ((record { session = n; answer = b }) ∷ []) → ⊥
    given_statement k now n x gives has calls b (inl is) =
        let at : n ≡ g.session = ap (λ (f : Finished). f.session) is in
        let one : (session_at k.sessions g.session).call ≡ pending.Statement = subst (λ i. (session_at k.sessions i).call ≡ pending.Statement) at calls in
        let two : (session_at k0.sessions g.session).call ≡ pending.Statement = subst (λ (z : NodeState). (session_at z.sessions g.session).call ≡ pending.Statement) (now.given n gives) one in
        let commit = now.commits in
        absurd (cc (two, commit))
    given_statement k now n x gives has calls b (inr none) = none

    module _ (p : Place) where
      pub ends_on : {k : NodeState} {d : TurnDraft} → Step p input k d → Known k → EndsCall its d.ended → End d
      ends_on (steps.Begins {k = k} n s read_at call begins range none step) now is =
          ends_on step
          (record {
            root = root_stays k.sessions n (record (session_at k.sessions n) { seq = (new_root p k n).seq; root = Some (new_root p k n); calls = 0 }) (other n (Some s) call) now.root;
            fit = begun_so k now.fit p n read_at;
            below = call_below (begun_by p k n read_at None) call;
            prepared = call_prepares (begun_by p k n read_at None) call;
            replies = call_no_reply (begun_by p k n read_at None) call;
            near = λ no. absurd (no n s call (may_begin begins));
            given = λ m gives. absurd (call_not_given call gives);
            commits = now.commits;
            rows = now.rows;
          }) is
      ends_on (steps.Counts_call {k = k} n s call counts step) now is =
          ends_on step
          (record {
            root = ap (λ (z : Session). z.root) (counted_session k.sessions n g.session (session_at k.sessions n).root).1 ∙ now.root;
            fit = counted_so k now.fit n;
            below = now.below;
            prepared = now.prepared;
            replies = now.replies;
            near = now.near;
            given = λ m gives. absurd (call_not_given call gives);
            commits = now.commits;
            rows = now.rows;
          }) is
      ends_on (steps.Goes_back {k = k} x step goes next) now is =
          ends_on next
          (record {
            root = now.root;
            fit = back_so k now.fit x step;
            below = now.below;
            prepared = now.prepared;
            replies = now.replies;
            near = now.near;
            given = λ m gives. absurd (goes_not_given goes gives);
            commits = now.commits;
            rows = now.rows;
          }) is
      ends_on (steps.Pends {k = k} n l given call has live code writer step) now is =
          ends_on step
          (record {
            root = root_stays k.sessions n (record (session_at k.sessions n) { call = pending.Commit }) (other n (Some (stmts.Commit given)) call) now.root;
            fit = pends_so k now.fit n pending.Commit;
            below = now.below;
            prepared = now.prepared;
            replies = now.replies;
            near = now.near;
            given = λ m gives. absurd (call_not_given call gives);
            commits = now.commits;
            rows = now.rows;
          }) is
      ends_on (steps.Lets_reads_go {k = k} l comment below live begins step) now is =
          ends_on step
          (record {
            root = now.root;
            fit = record { roots = now.fit.roots; above = now.fit.above };
            below = now.below;
            prepared = now.prepared;
            replies = now.replies;
            near = now.near;
            given = λ m gives. absurd (collects_not_given begins gives);
            commits = now.commits;
            rows = now.rows;
          }) is
      ends_on (steps.Counts_ack {k = k} s from kept came counts step) now is =
          ends_on step
          (record {
            root = now.root;
            fit = record { roots = now.fit.roots; above = now.fit.above };
            below = now.below;
            prepared = now.prepared;
            replies = now.replies;
            near = now.near;
            given = λ m gives. absurd (came_not_given came gives);
            commits = now.commits;
            rows = λ x at. acked_row k now s from kept x at;
          }) is
      ends_on (steps.Runs {k = k} x s given t asked way) now is =
          (let l : Live = after_run x.live (ran p k x.live.me s t) in let one = answer_its l _ x.live.parent is in absurd (asked_not now asked one.0 one.1))
      ends_on (steps.Goes_nowhere {k = k} x s given r asked way) now is = (let one = answer_its x.live _ x.live.parent is in absurd (asked_not now asked one.0 one.1))
      ends_on (steps.Hears_reply {k = k} x weight count b i e answered) now is =
          (let one = answer_its (hears_reply x i weight count e).live _ x.live.parent is in
          absurd (not_replied x answered.from answered.call i e (now.replies x answered.from answered.call weight count b answered.came answered.live one.0 one.1) answered.waits))
      ends_on (steps.Is_back {k = k} x step from calls none) now is = (let one = answer_its x.live _ x.live.parent is in absurd (back_not now calls one.0 one.1))
      ends_on (steps.Acts {k = k} l below x why) now is = act_ends k now l below x why is
      ends_on (steps.Does {k = k} s from (nexts.End d) kept why) now is =
          (let one = back_its k now s.me d is in Ends_back (ap Some (ap (records.Ended s.me) one.0 ∙ ap (λ i. records.Ended i decisions.Rollback) one.1)) one.2)
      ends_on (steps.Does {k = k} s from (nexts.Meet d mixed) kept why) now is =
          (let one = back_its k now s.me d is in Meets_back mixed now.commits (ap Some (ap (λ x. records.Met s.me x mixed) one.0 ∙ ap (λ i. records.Met i decisions.Rollback mixed) one.1)) one.2)
      ends_on (steps.Does {k = k} s from nexts.Forget kept why) now is = (let one = commit_its k.sessions now.root s.me commit_complete is in let row = now.rows s (subst (λ i. kept_row_at k i ≡ Some s) one.0 kept) in Has_forgotten row.0 row.1 (ap (λ i. Some (records.Forgot i)) one.0) one.1)
      ends_on (steps.Does s from nexts.Rest kept why) now none = absurd none
      ends_on (steps.Does s from nexts.AckToward kept why) now none = absurd none
      ends_on (steps.Does s from nexts.SayForgotten kept why) now none = absurd none
      ends_on (steps.Does s from nexts.SayAck kept why) now none = absurd none
      ends_on (steps.Refuses n s r call) now is = absurd (none_own n _ (other n s call) is)
      ends_on (steps.Completes_at_once n s d call completes none) now is = absurd (none_own n _ (other n (Some s) call) is)
      ends_on (steps.Makes_record n s r d call makes) now is = absurd (none_own n _ (other n (Some s) call) is)
      ends_on (steps.Forces_given {k = k} n id m b call named) now is = (let one = forced_its k now b _ n (other n _ call) is in Is_forced (decisions.Commit m) true (ap (λ i. Some (records.Forced i (decisions.Commit m) true)) one.0) one.1)
      ends_on (steps.Forces_commit {k = k} n id b call named) now is =
          (let one = forced_its k now b _ n (other n _ call) is in Is_forced (decisions.Commit (k.clock + 1)) false (ap (λ i. Some (records.Forced i (decisions.Commit (k.clock + 1)) false)) one.0) one.1)
      ends_on (steps.Forces_rollback {k = k} n id b call named) now is = (let one = forced_its k now b _ n (other n _ call) is in Is_forced decisions.Rollback false (ap (λ i. Some (records.Forced i decisions.Rollback false)) one.0) one.1)
      ends_on (steps.Hides n mixed id s call found) now is = absurd (none_own n _ (other n _ call) is)
      ends_on (steps.Advises n x call) now is = absurd (none_own n _ (other n _ call) is)
      ends_on (steps.Leaves n s d x call ends has live) now is = absurd (none_own n _ (other n _ call) is)
      ends_on (steps.Sets_read_only n call) now is = absurd (none_own n _ (other n _ call) is)
      ends_on (steps.Sets_savepoint n x name call has code live) now is = absurd (none_own n _ (other n _ call) is)
      ends_on (steps.Gives_up {k = k} n x gives has calls live) now is = absurd (given_statement k now n x gives has calls _ is)
      ends_on (steps.Gives_up_commit {k = k} n b (Some l) gives has calls live) now is =
          (let one = commit_its k.sessions now.root l.me _ is in
          let at : n ≡ g.session = sym (now.fit.roots.each n b has) ∙ ap (λ (z : BranchId). z.session) (sym (item_is live_id k.lives b l live) ∙ one.0) in
          let near : Near k = ap (λ (z : NodeState). z.lives) (now.given n gives) in
          Is_given_up (gives ∙ ap inputs.GiveUp at) (leaves_by k near l one.0 (l, subst (λ i. live_at k i ≡ Some l) (sym (item_is live_id k.lives b l live)) live) _ refl _ (each_silent (commit_given_up k b (Some l)).after.clock l.me kinds.Rollback (children_of l) refl))
          (one.1 ∙ ap (tran_refusal 2050) (sym (item_is live_id k.lives b l live) ∙ one.0)))
      ends_on (steps.Gives_up_commit {k = k} n b None gives has calls live) now is =
          (let one = commit_its k.sessions now.root b _ is in
          let at : n ≡ g.session = sym (now.fit.roots.each n b has) ∙ ap (λ (z : BranchId). z.session) one.0 in
          given_kept now.commits k (now.given n gives) n gives at (subst (λ i. live_at k i ≡ None) one.0 live) (commit_given_up k b None) (kept_row_at k g) refl
          (one.1 ∙ (ap (λ i. tran_refusal (given_up_code (kept_row_at k i)) i) one.0)))
      ends_on steps.Rests now none = absurd none
      ends_on (steps.Sends says why) now none = absurd none
      ends_on (steps.Calls x s given i table asked way) now none = absurd none
      ends_on (steps.Opens x s given node link table asked way) now none = absurd none
      ends_on (steps.Goes_on x from strength h link opened) now none = absurd none
      ends_on (steps.Backs x step from i calls next) now none = absurd none
      ends_on (steps.Opens_branch to parent edge root depth read_at came new) now none = absurd none
      ends_on (steps.Images is) now none = absurd none
      ends_on (steps.Drops_told l live drops) now none = absurd none
      ends_on (steps.Drops_asked l from live came parent) now none = absurd none
