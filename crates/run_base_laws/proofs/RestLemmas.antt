-- What the call of a session tells of its root, where sessions change and where branches change.
use Rattle.std.proofs.Common.{◌≡◌, ◌≢◌, ℕ, ◌&&◌, Bool, true, false, if◌then◌else◌, List, [], is_none, Option, Some, None, inl, inr, refl, sym, ap, subst, ◌∙◌}
use Rattle.std.proofs.lemmas.Bool.{cond_both, and_parts}
use Rattle.tran_ids.proofs.BranchLemmas.{equal_from_same, same_from_equal}
use Rattle.tran_ids.proofs.ListedLemmas.{item_is}
use Rattle.node_rules.specs.Data.{Stmt, Answer, BranchId, Phase, Live, Act, Input, Task}
use Rattle.node_rules.specs.declared.work.Work.{Work}
use Rattle.node_rules.specs.declared.work.Going.{Going}
use Rattle.node_rules.specs.Data.acts
use Rattle.node_rules.specs.Data.kinds
use Rattle.node_rules.specs.declared.session.PendingCall.TheVariants as pending
use Rattle.node_rules.specs.Data.phases
use Rattle.node_rules.specs.Data.stmts
use Rattle.node_rules.specs.declared.session.PendingCall.{PendingCall}
use Rattle.node_rules.specs.declared.session.Session.{Session}
use Rattle.node_rules.specs.Words.{same, item_at, set_numbered, put_item, drop_item}
use Rattle.node_rules.specs.Inputs.{Came, IsCall}
use Rattle.node_rules.specs.Refusals.{dtx}
use Rattle.session_tree.specs.Live.{is_branch}
use Rattle.node_rules.specs.NodeState.{NodeState, Branch, live_id, work_id, live_at, branch_at}
use Rattle.node_rules.specs.Sessions.{session_at, with_call, needs_rollback, no_transaction, is_commit, commit_is_pending, commit_ended}
use Rattle.node_rules.specs.Calls.{call_pends, answered_sessions, heard_sessions, is_gone}
use Rattle.node_rules.proofs.Steps as steps
use Rattle.node_rules.proofs.Steps.{Asked, Acting, Collected, Goes_to, Calls_back}
use Rattle.node_rules.proofs.StandLemmas.{live_so, call_set}
use Rattle.std.specs.List.{AllByRecursion}
use Rattle.node_rules.specs.Prepare.{ready}
use Rattle.run_base_laws.specs.CallLaws.{RootWaits}
use Rattle.node_rules.proofs.StepLemmas.{branch_found}
use Rattle.node_rules.specs.LiveBranches.{EachLive, works_of}
use Rattle.node_rules.proofs.LiveLemmas.{each_put, each_left, each_same, branch_parts, work_is}
use Rattle.node_rules.specs.Data.tasks
use Rattle.node_rules.specs.Marks.{node_back, branch_back}
use Rattle.run_base_laws.proofs.RootLemmas.{SessionsFit, session_or_before}
use Rattle.run_base_laws.proofs.BeginLemmas.{MayBegin}

-- A root is its session's transaction, waits as that says, and waits for nothing once it needs a rollback.
pub record IsRootIn (s : Session) (me : BranchId) (phase : Phase) (going : Option Going) : Type 0 where
  pub root : s.root ≡ Some me
  pub waits : RootWaits s.call phase going
  pub code : going ≢ None → s.code ≡ None

-- of a live branch
abbrev pub RootIs : List Session → Live → Work → Type 0
RootIs ss l w = l.parent ≡ None → IsRootIn (session_at ss l.me.session) l.me l.phase w.going

-- two that are not the same are not equal
apart : (b c : BranchId) (s : Option BranchId) → same b c ≡ false → s ≡ Some b → s ≡ Some c → ⊥
apart b c s other one two = let it : Some b ≡ Some c = sym one ∙ two in let here : b ≡ c = cc in let is : same b c ≡ true = same_from_equal b c here in absurd (cc (is, other))

module _ (ss : List Session) (y : Live) (v : Work) where
  -- a session that is set leaves a root so where it leaves that session's root so
  pub set_leaves : (n : ℕ) (s : Session) → (IsRootIn (session_at ss n) y.me y.phase v.going → IsRootIn s y.me y.phase v.going) → RootIs ss y v → RootIs (set_numbered ss n s) y v
  set_leaves n s at so none = elim (session_or_before ss n y.me.session s) [
    | inl still ↦ subst (λ x. IsRootIn x y.me y.phase v.going) (sym still) (so none)
    | inr new ↦ subst (λ x. IsRootIn x y.me y.phase v.going) (sym new.1) (at (subst (λ m. IsRootIn (session_at ss m) y.me y.phase v.going) (sym new.0) (so none)))
  ]

  -- a session of another transaction
  pub taken_leaves : (n : ℕ) (b : BranchId) (s : Session) → (session_at ss n).root ≡ Some b → same b y.me ≡ false → RootIs ss y v → RootIs (set_numbered ss n s) y v
  taken_leaves n b s has other so = set_leaves n s (λ is. absurd (apart b y.me (session_at ss n).root other has is.root)) so

  -- the COMMIT of another transaction ends
  ended_leaves : (b : BranchId) → same b y.me ≡ false → RootIs ss y v → RootIs (commit_ended ss b) y v
  ended_leaves b other so = by (commit_is_pending ss b) refl
    where
      by : (q : Bool) → commit_is_pending ss b ≡ q → RootIs (if q then set_numbered ss b.session (no_transaction (session_at ss b.session)) else ss) y v
      by false is = so
      by true is = taken_leaves b.session b _ (branch_found b (session_at ss b.session).root (and_parts (is_branch b (session_at ss b.session).root) (is_commit (session_at ss b.session).call) is).0) other so

  -- the same root, call and code as before
  pub still_leaves : (n : ℕ) (s : Session) → s.root ≡ (session_at ss n).root → s.call ≡ (session_at ss n).call → s.code ≡ (session_at ss n).code → RootIs ss y v → RootIs (set_numbered ss n s) y v
  still_leaves n s root call code so =
      set_leaves n s (λ is. record { root = root ∙ is.root; waits = subst (λ c. RootWaits c y.phase v.going) (sym call) is.waits; code = λ some. code ∙ is.code some }) so

none_there : (o : Option BranchId) → is_none o ≡ true → o ≡ None
none_there None is = refl
none_there (Some b) is = absurd cc

-- a root that has just begun
pub fresh_waits : (c : PendingCall) → RootWaits c phases.Working None
fresh_waits pending.NoCall = (refl, refl)
fresh_waits pending.Statement = refl
fresh_waits pending.Commit = refl

-- one that waits is working
working_by : (c : PendingCall) (phase : Phase) (o : Option Going) (g : Going) → RootWaits c phase o → o ≡ Some g → phase ≡ phases.Working
working_by pending.NoCall phase o g is going = is.0
working_by pending.Statement phase o g is going = is
working_by pending.Commit phase o g is going = absurd (cc (is, going))

pub free_waits : (c : PendingCall) (phase : Phase) (o : Option Going) → RootWaits c phase o → c ≡ pending.NoCall → (phase ≡ phases.Working) × (o ≡ None)
free_waits pending.NoCall phase o is free = is
free_waits pending.Statement phase o is free = absurd cc
free_waits pending.Commit phase o is free = absurd cc

pub statement_waits : (c : PendingCall) (phase : Phase) (o : Option Going) → RootWaits c phase o → c ≡ pending.Statement → phase ≡ phases.Working
statement_waits pending.NoCall phase o is free = absurd cc
statement_waits pending.Statement phase o is free = is
statement_waits pending.Commit phase o is free = absurd cc

-- ---- nodes

-- What is known as a turn begins.
pub record Before (input : Input) (k : NodeState) : Type 0 where
  pub free : (n : ℕ) (s : Stmt) → IsCall input n s → (session_at k.sessions n).call ≡ pending.NoCall
  pub asked : (from to : BranchId) (call : ℕ) (task : Task) → Came input from to (kinds.Exec call task) → (l : Live) → live_at k to ≡ Some l → l.parent ≢ None
  pub prepared : (from to : BranchId) (site_below : Bool) (comment : List ℕ) → Came input from to (kinds.Prepare site_below comment) → (l : Live) → live_at k to ≡ Some l → l.parent ≢ None
  pub either : ((n : ℕ) (s : Stmt) → IsCall input n s → MayBegin s → ⊥) → AllByRecursion (λ s. live_at k s.me ≡ None) k.stored.durable.kept

abbrev pub NodeRoots : NodeState → Type 0
NodeRoots k = EachLive (RootIs k.sessions) k.lives k.works

-- What is known of the root of a statement that goes on.
pub record Works (ss : List Session) (x : Branch) : Type 0 where
  pub mine : x.work.branch ≡ x.live.me
  pub root : x.live.parent ≡ None → (session_at ss x.live.me.session).root ≡ Some x.live.me
  pub working : x.live.parent ≡ None → x.live.phase ≡ phases.Working
  pub no_code : x.live.parent ≡ None → (session_at ss x.live.me.session).code ≡ None

module _ (k : NodeState) (now : NodeRoots k) where
  pub branch_root : (x : Branch) → branch_at k x.live.me ≡ Some x → RootIs k.sessions x.live x.work
  branch_root x found = let parts = branch_parts k x.live.me x found in subst (RootIs k.sessions x.live) (sym parts.1) (now.each x.live.me x.live parts.0)

  pub live_root : (b : BranchId) (l : Live) → live_at k b ≡ Some l → RootIs k.sessions l (works_of k.works l.me)
  live_root b l found = subst (λ m. RootIs k.sessions l (works_of k.works m)) (sym (item_is live_id k.lives b l found)) (now.each b l found)

  pub going_works : (x : Branch) (g : Going) → branch_at k x.live.me ≡ Some x → x.work.going ≡ Some g → Works k.sessions x
  going_works x g live going = record {
    mine = work_is k x.live.me x live;
    root = λ none. (branch_root x live none).root;
    working = λ none. working_by (session_at k.sessions x.live.me.session).call x.live.phase x.work.going g (branch_root x live none).waits going;
    no_code = λ none. (branch_root x live none).code (λ rests. (let some : x.work.going ≡ Some g = going in absurd (cc (some, rests))));
  }

  pub asked_works : (input : Input) → Before input k → SessionsFit k → {x : Branch} {s : Stmt} {given : ℕ} → Asked k input x s given → Works k.sessions x
  asked_works input before fit (steps.By_call n x s call rows has code live may) = record {
    mine = work_is k x.live.me x live;
    root = λ none. (branch_root x live none).root;
    working = λ none. (free_waits (session_at k.sessions x.live.me.session).call x.live.phase x.work.going (branch_root x live none).waits
        (subst (λ m. (session_at k.sessions m).call ≡ pending.NoCall) (sym (fit.roots.each n x.live.me has)) (before.free n s call))).0;
    no_code = λ none. subst (λ m. (session_at k.sessions m).code ≡ None) (sym (fit.roots.each n x.live.me has)) code;
  }
  asked_works input before fit (steps.By_exec x from call given advice s came live runs) =
      let below : x.live.parent ≢ None = before.asked from x.live.me call (tasks.Run given advice s) came x.live (live_so k x.live.me x live) in
      record { mine = work_is k x.live.me x live; root = λ none. absurd (below none); working = λ none. absurd (below none); no_code = λ none. absurd (below none) }

  goes_works : (input : Input) → Before input k → SessionsFit k → {x : Branch} {step : ℕ} → Goes_to k input x step → Works k.sessions x
  goes_works input before fit (steps.By_rollback_to n x name step call has code live set) = record {
    mine = work_is k x.live.me x live;
    root = λ none. (branch_root x live none).root;
    working = λ none. (free_waits (session_at k.sessions x.live.me.session).call x.live.phase x.work.going (branch_root x live none).waits
        (subst (λ m. (session_at k.sessions m).call ≡ pending.NoCall) (sym (fit.roots.each n x.live.me has)) (before.free n (stmts.RollbackTo name) call))).0;
    no_code = λ none. subst (λ m. (session_at k.sessions m).code ≡ None) (sym (fit.roots.each n x.live.me has)) code;
  }
  goes_works input before fit (steps.By_back x from call keep came live runs) =
      let below : x.live.parent ≢ None = before.asked from x.live.me call (tasks.GoBack keep) came x.live (live_so k x.live.me x live) in
      record { mine = work_is k x.live.me x live; root = λ none. absurd (below none); working = λ none. absurd (below none); no_code = λ none. absurd (below none) }

  -- other roots stay so as the sessions change
  abbrev OthersStay : List Session → Branch → Type 0
  OthersStay ss x = (y : Live) (v : Work) → same x.live.me y.me ≡ false → RootIs k.sessions y v → RootIs ss y v

  -- a statement that is answered ends a root's call, over sessions that changed for others
  answered_over : (ss : List Session) (x : Branch) (w : Work) → OthersStay ss x → w.branch ≡ x.live.me → w.going ≡ None → (x.live.parent ≡ None → (session_at ss x.live.me.session).root ≡ Some x.live.me)
      → (x.live.parent ≡ None → x.live.phase ≡ phases.Working) → (o : Option BranchId) → x.live.parent ≡ o → EachLive (RootIs (answered_sessions ss x.live o)) (put_item live_id k.lives x.live) (put_item work_id k.works w)
  answered_over ss x w stay mine rests has works (Some b) above =
      each_put (RootIs k.sessions) (RootIs ss) k.lives k.works now x.live w mine (λ none. absurd (cc (above, none))) (λ y v live other so. stay y v other so)
  answered_over ss x w stay mine rests has works None root =
      let n : ℕ = x.live.me.session in
      let set : session_at (with_call ss n pending.NoCall) n ≡ record (session_at ss n) { call = pending.NoCall } = call_set ss n x.live.me pending.NoCall (has root) in
      each_put (RootIs k.sessions) (RootIs (with_call ss n pending.NoCall)) k.lives k.works now x.live w mine
      (λ none. subst (λ s. IsRootIn s x.live.me x.live.phase w.going) (sym set) (record { root = has root; waits = (works root, rests); code = λ some. absurd (some rests) }))
      (λ y v live other so. taken_leaves ss y v n x.live.me (record (session_at ss n) { call = pending.NoCall }) (has root) other (stay y v other so))

  pub answered_so : (x : Branch) (w : Work) → w.branch ≡ x.live.me → w.going ≡ None → Works k.sessions x → (o : Option BranchId) → x.live.parent ≡ o
      → EachLive (RootIs (answered_sessions k.sessions x.live o)) (put_item live_id k.lives x.live) (put_item work_id k.works w)
  answered_so x w mine rests is o above = answered_over k.sessions x w (λ y v other so. so) mine rests is.root is.working o above

  -- a refusal of a gone branch is noted at the root that hears it
  heard_stays : (x : Branch) (a : Answer) → Works k.sessions x → OthersStay (heard_sessions k.sessions x.live a) x
  heard_stays x a is y v other so =
      cond_both (is_none x.live.parent && is_gone a) (needs_rollback k.sessions x.live.me.session (dtx 8 []).code) k.sessions (λ ss. RootIs ss y v)
      (λ gone. taken_leaves k.sessions y v x.live.me.session x.live.me (record (session_at k.sessions x.live.me.session) { code = Some (dtx 8 []).code })
      (is.root (none_there x.live.parent (and_parts (is_none x.live.parent) (is_gone a) gone).0)) other so)
      (λ no. so)

  heard_root : (x : Branch) (a : Answer) → Works k.sessions x → x.live.parent ≡ None → (session_at (heard_sessions k.sessions x.live a) x.live.me.session).root ≡ Some x.live.me
  heard_root x a is none =
      cond_both (is_none x.live.parent && is_gone a) (needs_rollback k.sessions x.live.me.session (dtx 8 []).code) k.sessions (λ ss. (session_at ss x.live.me.session).root ≡ Some x.live.me)
      (λ gone. elim (session_or_before k.sessions x.live.me.session x.live.me.session (record (session_at k.sessions x.live.me.session) { code = Some (dtx 8 []).code })) [
        | inl still ↦ ap (λ s. s.root) still ∙ is.root none
        | inr new ↦ ap (λ s. s.root) new.1 ∙ is.root none
      ])
      (λ no. is.root none)

  -- a Reply that is heard ends the call
  pub heard_so : (x : Branch) (a : Answer) (w : Work) → w.branch ≡ x.live.me → w.going ≡ None → Works k.sessions x
      → EachLive (RootIs (answered_sessions (heard_sessions k.sessions x.live a) x.live x.live.parent)) (put_item live_id k.lives x.live) (put_item work_id k.works w)
  heard_so x a w mine rests is = answered_over (heard_sessions k.sessions x.live a) x w (heard_stays x a is) mine rests (heard_root x a is) is.working x.live.parent refl

  -- one that goes on makes it pending
  pends_by : (x : Branch) (w : Work) → w.branch ≡ x.live.me → Works k.sessions x → (o : Option BranchId) → x.live.parent ≡ o
      → EachLive (RootIs (if is_none o then with_call k.sessions x.live.me.session pending.Statement else k.sessions)) (put_item live_id k.lives x.live) (put_item work_id k.works w)
  pends_by x w mine is (Some b) above = each_put (RootIs k.sessions) (RootIs k.sessions) k.lives k.works now x.live w mine (λ none. absurd (cc (above, none))) (λ y v live other so. so)
  pends_by x w mine is None root =
      let n : ℕ = x.live.me.session in
      let set : session_at (with_call k.sessions n pending.Statement) n ≡ record (session_at k.sessions n) { call = pending.Statement } = call_set k.sessions n x.live.me pending.Statement (is.root root) in
      each_put (RootIs k.sessions) (RootIs (with_call k.sessions n pending.Statement)) k.lives k.works now x.live w mine
      (λ none. subst (λ s. IsRootIn s x.live.me x.live.phase w.going) (sym set) (record { root = is.root root; waits = is.working root; code = λ some. is.no_code root }))
      (λ y v live other so. taken_leaves k.sessions y v n x.live.me (record (session_at k.sessions n) { call = pending.Statement }) (is.root root) other so)

  pub calls_so : (x : Branch) (w : Work) → w.branch ≡ x.live.me → Works k.sessions x → EachLive (RootIs (call_pends k.sessions x.live)) (put_item live_id k.lives x.live) (put_item work_id k.works w)
  calls_so x w mine is = pends_by x w mine is x.live.parent refl

  -- a branch leaves, and its COMMIT ends or not
  pub gone : (b : BranchId) → EachLive (RootIs k.sessions) (drop_item live_id k.lives b) (drop_item work_id k.works b)
  gone b = each_left (RootIs k.sessions) (RootIs k.sessions) k.lives k.works now b (λ y v live other so. so)

  pub gone_ended : (b : BranchId) → EachLive (RootIs (commit_ended k.sessions b)) (drop_item live_id k.lives b) (drop_item work_id k.works b)
  gone_ended b = each_left (RootIs k.sessions) (RootIs (commit_ended k.sessions b)) k.lives k.works now b (λ y v live other so. ended_leaves k.sessions y v b other so)

  -- the COMMIT of a branch ends that is not live
  pub ended_so : (b : BranchId) → live_at k b ≡ None → EachLive (RootIs (commit_ended k.sessions b)) k.lives k.works
  ended_so b none =
      each_same (RootIs k.sessions) (RootIs (commit_ended k.sessions b)) k.lives k.works now (λ y v live any so. ended_leaves k.sessions y v b (unlike y (same b y.me) refl live) so)
    where
      unlike : (y : Live) (q : Bool) → same b y.me ≡ q → item_at live_id k.lives y.me ≡ Some y → q ≡ false
      unlike y false is live = refl
      unlike y true is live = let at : item_at live_id k.lives b ≡ Some y = subst (λ m. item_at live_id k.lives m ≡ Some y) (sym (equal_from_same b y.me is)) live in absurd (cc (at, none))

  module _ (input : Input) (before : Before input k) (quits : (n : ℕ) (c : Option (List ℕ)) → IsCall input n (stmts.Commit c) → ⊥) where
    -- a branch that acts
    pub acting_root : {l : Live} {site_below : Bool} {a : Act} → Acting k input l site_below a → RootIs k.sessions l (works_of k.works l.me)
    acting_root (steps.Asks_down l comment site_below e es live (steps.By_commit n given call has free writer is) has_edges) = absurd (quits n given call)
    acting_root (steps.Asks_down l comment site_below e es live (steps.By_prepare from _ came working) has_edges) = λ none. absurd (before.prepared from l.me site_below comment came l live none)
    acting_root (steps.Has_no_children l comment site_below a live (steps.By_commit n given call has free writer is) none_there collected) = absurd (quits n given call)
    acting_root (steps.Has_no_children l comment site_below a live (steps.By_prepare from _ came working) none_there collected) = λ none. absurd (before.prepared from l.me site_below comment came l live none)
    acting_root (steps.Hears_abort l from site_below live answers) = live_root l.me l live
    acting_root (steps.Waits_on l from v site_below live answers other some) = live_root l.me l live
    acting_root (steps.Hears_last l from v site_below a live answers other all collected) = live_root l.me l live
    acting_root (steps.At_point l from a live came ready pointed) = live_root l.me l live

-- the same is known where a branch went back
pub back_before : (input : Input) (k : NodeState) (x : Branch) (step : ℕ) → Before input k → Before input (node_back k x step)
back_before input k x step before = record { free = before.free; asked = before.asked; prepared = before.prepared; either = before.either }

-- and of a branch whose children are to go back
pub calling_works : (k : NodeState) → NodeRoots k → (input : Input) → Before input k → SessionsFit k → {x : Branch} {step from : ℕ} → Calls_back k input x step from → Works k.sessions x
calling_works k now input before fit (steps.Has_gone j x step goes is) =
    let known : Before input (node_back j x step) = subst (Before input) is before in
    let fits : SessionsFit (node_back j x step) = subst SessionsFit is fit in
    let was : Works j.sessions x =
    goes_works j (subst NodeRoots is now) input (record { free = known.free; asked = known.asked; prepared = known.prepared; either = known.either }) (record { roots = fits.roots; above = fits.above }) goes in
    subst (λ i. Works i.sessions (branch_back j x step)) (sym is) (record { mine = was.mine; root = was.root; working = was.working; no_code = was.no_code })
calling_works k now input before fit (steps.Has_heard x weight count a i e g step answered going errand done) =
    let was : Works k.sessions x = going_works k now x g answered.live going in record { mine = was.mine; root = was.root; working = was.working; no_code = was.no_code }

-- a root says no Ready
below_by : (o : Option BranchId) → is_none o ≡ false → o ≢ None
below_by None is none = absurd cc
below_by (Some b) is none = absurd cc

awaits_below : {l : Live} {site_below : Bool} → Collected l site_below acts.SayReady → l.parent ≢ None
awaits_below {l = l} (steps.Awaits_point is) = below_by l.parent is

pub ready_below : {k : NodeState} {input : Input} {l : Live} {site_below : Bool} → Acting k input l site_below acts.SayReady → l.parent ≢ None
ready_below (steps.Has_no_children l comment site_below _ live begins none_there collected) = awaits_below collected
ready_below (steps.Hears_last l from v site_below _ live answers other all collected) = awaits_below collected
ready_below (steps.At_point l from _ live came ready pointed) = elim pointed [ ]
