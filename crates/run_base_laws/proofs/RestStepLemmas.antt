-- Each step of a node leaves roots as the calls of their sessions tell.
use Rattle.std.proofs.Common.{◌≡◌, ℕ, Bool, true, false, if◌then◌else◌, List, [], unwrap_or, Option, Some, None, Ok, inl, inr, refl, sym, ap, subst, ◌∙◌, ◌⊎◌, arith, ◌+◌, filter, length}
use Rattle.node_rules.specs.Data.{Stmt, BranchId, Decision, Edge, Kind, Phase, Live, Act, KeptRow, Place, Input}
use Rattle.node_rules.specs.declared.work.Going.{Going}
use Rattle.node_rules.specs.Data.acts
use Rattle.node_rules.specs.Data.answers
use Rattle.node_rules.specs.Data.decisions
use Rattle.node_rules.specs.Data.inputs
use Rattle.node_rules.specs.Data.kinds
use Rattle.node_rules.specs.declared.session.PendingCall.TheVariants as pending
use Rattle.node_rules.specs.Data.phases
use Rattle.node_rules.specs.Data.stmts
use Rattle.node_rules.specs.declared.session.PendingCall.{PendingCall}
use Rattle.node_rules.specs.declared.session.Session.{Session}
use Rattle.node_rules.specs.Words.{set_numbered, put_item, drop_item}
use Rattle.node_rules.specs.Inputs.{Came, IsCall, IsSession, Brings, Commit_came, Rollback_came, Rolled_back_came}
use Rattle.node_rules.specs.Refusals.{dtx}
use Rattle.session_tree.specs.Live.{new_edge}
use Rattle.node_rules.specs.NodeState.{NodeState, Branch, TurnDraft, live_id, work_id, kept_row_id, live_at, branch_at, with_kept_row}
use Rattle.node_rules.specs.Sessions.{session_at, with_call, needs_rollback, no_transaction, commit_ended, with_call_of}
use Rattle.node_rules.specs.Calls.{called, waits_for_opened, with_edge, with_answer, hears_reply, heard_answer, reply_going, reply_of, branch_ran, less_room}
use Rattle.node_rules.specs.Client.{new_root, fresh_root, begun_by, commit_by, commit_call, gives_up, statement_given_up, root_at, counted, commit_at, marked}
use Rattle.node_rules.proofs.Steps as steps
use Rattle.node_rules.proofs.Steps.{Step, Acting}
use Rattle.node_rules.proofs.StandLemmas.{RootSo as SessionRoot, live_so, session_set, call_set, root_so}
use Rattle.std.specs.List.{AllByRecursion}
use Rattle.node_rules.specs.Statement.{ran, answer_of_run}
use Rattle.node_rules.specs.Names.{passed_on}
use Rattle.node_rules.specs.Prepare.{act_turn, first_act, collecting, with_comment, ready, is_alone, abandoned_sessions, without_read_keys}
use Rattle.node_rules.specs.Commit.{acked_by, decided_sessions}
use Rattle.node_rules.specs.Force.{branch_to_force, is_named_by}
use Rattle.run_rules.proofs.ListLemmas.{all_filter}
use Rattle.run_base_laws.proofs.OwnLemmas.{all_found, all_with, forced_one}
use Rattle.run_base_laws.specs.CallLaws.{RootWaits}
use Rattle.run_rules.proofs.AtNodeLemmas.{item_there}
use Rattle.node_rules.specs.LiveBranches.{EachLive, works_of}
use Rattle.node_rules.proofs.LiveLemmas.{each_put, each_changed, each_left, each_begun, each_same, work_is}
use Rattle.node_rules.specs.declared.work.Errand.TheVariants as errands
use Rattle.node_rules.specs.Data.dones
use Rattle.run_base_laws.proofs.RootLemmas.{RootsFit, SessionsFit, session_or_before, begun_so, counted_session, counted_so, back_so}
use Rattle.run_base_laws.proofs.RestLemmas.{RootIs, set_leaves, taken_leaves, still_leaves, fresh_waits, free_waits, statement_waits, Before, NodeRoots, Works, branch_root, live_root, going_works, asked_works, answered_so, calls_so, heard_so, gone, gone_ended, ended_so, acting_root, ready_below, back_before, calling_works, IsRootIn}
use Rattle.run_base_laws.proofs.BeginLemmas.{MayBegin, may_begin}

-- the drafts of a branch that acts
module _ (k : NodeState) (now : NodeRoots k) (l : Live) (is : RootIs k.sessions l (works_of k.works l.me)) where
  stays_so : (y : Live) → y.me ≡ l.me → RootIs k.sessions y (works_of k.works y.me) → EachLive (RootIs k.sessions) (put_item live_id k.lives y) k.works
  stays_so y me so = each_changed (RootIs k.sessions) (RootIs k.sessions) k.lives k.works now y so (λ z v live other so. so)

  abandoned_so : (o : Option BranchId) → EachLive (RootIs (abandoned_sessions k.sessions l o)) (drop_item live_id k.lives l.me) (drop_item work_id k.works l.me)
  abandoned_so None = gone_ended k now l.me
  abandoned_so (Some b) = gone k now l.me

  decided_so : (alone : Bool) → EachLive (RootIs (if alone then commit_ended k.sessions l.me else k.sessions)) (drop_item live_id k.lives l.me) (drop_item work_id k.works l.me)
  decided_so true = gone_ended k now l.me
  decided_so false = gone k now l.me

  acts_so : (site_below : Bool) (a : Act) → (a ≡ acts.SayReady → RootIs k.sessions (ready l) (works_of k.works l.me)) → NodeRoots (act_turn k l site_below a).after
  acts_so site_below acts.Rest says = stays_so l refl is
  acts_so site_below acts.AskDown says = stays_so l refl is
  acts_so site_below acts.SayReady says = stays_so (ready l) refl (says refl)
  acts_so site_below acts.Decide says = decided_so (is_alone l)
  acts_so site_below acts.Finish says = gone_ended k now l.me
  acts_so site_below acts.Abandon says = abandoned_so l.parent
  acts_so site_below _ says = gone k now l.me

-- a session whose number is in range is set
session_put : (ss : List Session) (n : ℕ) (s : Session) → RootsFit ss → IsSession n → session_at (set_numbered ss n s) n ≡ s
session_put ss n s fit range = let there = item_there ss n range.0 (omega (arith, range.1, fit.many)) in session_set ss n there.0 s there.1

-- a message is no call
no_call : {input : Input} {from to : BranchId} {kind : Kind} → Came input from to kind → (n : ℕ) (s : Stmt) → IsCall input n s → ⊥
no_call came n s call = let is = came.is in absurd (cc (is, call))

-- and a statement that forces an outcome has no table
forces_none : {input : Input} (n : ℕ) (id : List ℕ) (scn : Option ℕ) → IsCall input n (stmts.CommitForce id scn) → (m : ℕ) (s : Stmt) → IsCall input m s → MayBegin s → ⊥
forces_none n id scn call m s other rows =
    let it : inputs.Call n (Some (stmts.CommitForce id scn)) ≡ inputs.Call m (Some s) = sym call ∙ other in
    let here : s ≡ stmts.CommitForce id scn = cc in
    absurd (subst MayBegin here rows)

rolls_none : {input : Input} (n : ℕ) (id : List ℕ) → IsCall input n (stmts.RollbackForce id) → (m : ℕ) (s : Stmt) → IsCall input m s → MayBegin s → ⊥
rolls_none n id call m s other rows =
    let it : inputs.Call n (Some (stmts.RollbackForce id)) ≡ inputs.Call m (Some s) = sym call ∙ other in
    let here : s ≡ stmts.RollbackForce id = cc in
    absurd (subst MayBegin here rows)

brings_none : {input : Input} {from to : BranchId} {d : Decision} → Brings input from to d → (n : ℕ) (s : Stmt) → IsCall input n s → ⊥
brings_none (Commit_came m came) n s call = no_call came n s call
brings_none (Rollback_came came) n s call = no_call came n s call
brings_none (Rolled_back_came came) n s call = no_call came n s call

-- the sessions after a decision that a branch learned
learned_so : (k : NodeState) → NodeRoots k → (b : BranchId) (d : Decision) → live_at k b ≡ None → EachLive (RootIs (decided_sessions k.sessions b d)) k.lives k.works
learned_so k now b (decisions.Commit n) none = now
learned_so k now b decisions.Rollback none = ended_so k now b none

-- a call of rows begins a transaction
begun_before : (input : Input) (k : NodeState) (p : Place) (n : ℕ) (s : Stmt) (read_at : Option ℕ) → IsCall input n s → MayBegin s → Before input k → Before input (begun_by p k n read_at None)
begun_before input k p n s read_at call begins before = record {
  free = λ m x is. elim (session_or_before k.sessions n m (record (session_at k.sessions n) { seq = (new_root p k n).seq; root = Some (new_root p k n); calls = 0 })) [
    | inl still ↦ ap (λ y. y.call) still ∙ before.free m x is
    | inr new ↦ ap (λ y. y.call) new.1 ∙ before.free n s call
  ];
  asked = λ from to c task came. absurd (no_call came n s call);
  prepared = λ from to site_below comment came. absurd (no_call came n s call);
  either = λ not. absurd (not n s call begins);
}

-- a call is counted
counted_before : (input : Input) (k : NodeState) (n : ℕ) → Before input k → Before input (counted k n)
counted_before input k n before = record {
  free = λ m x is. ap (λ s. s.call) (counted_session k.sessions n m (session_at k.sessions n).root).1 ∙ before.free m x is;
  asked = before.asked;
  prepared = before.prepared;
  either = before.either;
}

counted_roots : (k : NodeState) → NodeRoots k → (n : ℕ) (o : Option BranchId) → EachLive (RootIs (with_call_of k.sessions n o)) k.lives k.works
counted_roots k now n None = now
counted_roots k now n (Some root) =
    each_same (RootIs k.sessions) _ k.lives k.works now (λ y v live any so. still_leaves k.sessions y v n (record (session_at k.sessions n) { calls = (session_at k.sessions n).calls + 1 }) refl refl refl so)

acked_before : (input : Input) (k : NodeState) (s : KeptRow) (from : BranchId) → steps.IsKept k s → Came input from s.me kinds.Ack → Before input k → Before input (with_kept_row k (acked_by s from))
acked_before input k s from kept came before = record {
  free = before.free;
  asked = before.asked;
  prepared = before.prepared;
  either = λ not. all_with (λ x. live_at k x.me ≡ None) kept_row_id k.stored.durable.kept (acked_by s from) (before.either not)
      (all_found (λ x. live_at k x.me ≡ None) kept_row_id k.stored.durable.kept s.me s (before.either not) kept);
}

begun_roots : (k : NodeState) (p : Place) (n : ℕ) (read_at : Option ℕ) → SessionsFit k → IsSession n → (session_at k.sessions n).root ≡ None → NodeRoots k → NodeRoots (begun_by p k n read_at None)
begun_roots k p n read_at fit range none now =
    let s : Session = record (session_at k.sessions n) { seq = (new_root p k n).seq; root = Some (new_root p k n); calls = 0 } in
    let set : session_at (set_numbered k.sessions n s) n ≡ s = session_put k.sessions n s fit.roots range in
    each_begun (RootIs k.sessions) (RootIs (set_numbered k.sessions n s)) k.lives k.works now (fresh_root p k (new_root p k n) read_at)
    (λ root. subst (λ x. IsRootIn x (new_root p k n) phases.Working None) (sym set) (record { root = refl; waits = fresh_waits (session_at k.sessions n).call; code = λ some. absurd (some refl) }))
    (λ y v live any so. set_leaves k.sessions y v n s (λ is. (let had : (session_at k.sessions n).root ≡ Some y.me = is.root in absurd (cc (had, none)))) so)

-- a kept branch is not live
kept_gone : (k : NodeState) (s : KeptRow) → steps.IsKept k s → AllByRecursion (λ x. live_at k x.me ≡ None) k.stored.durable.kept → live_at k s.me ≡ None
kept_gone k s kept all = all_found (λ x. live_at k x.me ≡ None) kept_row_id k.stored.durable.kept s.me s all kept

-- nor is one whose outcome is forced
forced_gone : (p : Place) (k : NodeState) (id : List ℕ) (b : BranchId) → AllByRecursion (λ x. live_at k x.me ≡ None) k.stored.durable.kept → branch_to_force p.names k.stored.durable.kept id ≡ Ok b → live_at k b ≡ None
unfolding branch_to_force
forced_gone p k id b all named =
    forced_one (λ c. live_at k c ≡ None) id (filter (is_named_by p.names id) k.stored.durable.kept) b
    (all_filter (λ x. live_at k x.me ≡ None) (λ x. live_at k x.me ≡ None) (is_named_by p.names id) (λ x passes so. so) k.stored.durable.kept all) named

-- a Reply that is waited for finds a statement under way
going_by : (x : Branch) (from : BranchId) (call i : ℕ) (e : Edge) (o : Option Going) → reply_going x from call o ≡ Some (i, e) → (g : Going) × (o ≡ Some g)
going_by x from call i e None is = absurd cc
going_by x from call i e (Some g) is = (g, refl)

pub going_of : (x : Branch) (from : BranchId) (call i : ℕ) (e : Edge) → reply_of x from call ≡ Some (i, e) → (g : Going) × (x.work.going ≡ Some g)
unfolding reply_of
going_of x from call i e is = going_by x from call i e x.work.going is

-- a statement that is given up
module _ (k : NodeState) (fit : SessionsFit k) (now : NodeRoots k) (n : ℕ) (x : Branch) (has : (session_at k.sessions n).root ≡ Some x.live.me) (calls : (session_at k.sessions n).call ≡ pending.Statement)
    (live : branch_at k x.live.me ≡ Some x) where
  abbrev freed : List Session
  freed = with_call k.sessions n pending.NoCall

  abbrev noted : List Session
  noted = needs_rollback freed n (dtx 3 []).code

  set : session_at freed n ≡ record (session_at k.sessions n) { call = pending.NoCall }
  set = call_set k.sessions n x.live.me pending.NoCall has

  freed_so : RootIs freed x.live (gives_up x).work
  freed_so none =
      let here : x.live.me.session ≡ n = fit.roots.each n x.live.me has in
      let was : IsRootIn (session_at k.sessions n) x.live.me x.live.phase x.work.going = subst (λ m. IsRootIn (session_at k.sessions m) x.live.me x.live.phase x.work.going) here (branch_root k now x live none) in
      subst (λ m. IsRootIn (session_at freed m) x.live.me x.live.phase None) (sym here)
      (subst (λ s. IsRootIn s x.live.me x.live.phase None) (sym set)
      (record { root = has; waits = (statement_waits (session_at k.sessions n).call x.live.phase x.work.going was.waits calls, refl); code = λ some. absurd (some refl) }))

  -- it waits for nothing, so it may need a rollback
  noted_so : RootIs noted x.live (gives_up x).work
  noted_so =
      set_leaves freed x.live (gives_up x).work n (record (session_at freed n) { code = Some (dtx 3 []).code }) (λ is. record { root = is.root; waits = is.waits; code = λ some. absurd (some refl) }) freed_so

  given_up : NodeRoots (statement_given_up k n (Some x)).after
  given_up =
      each_put (RootIs k.sessions) (RootIs noted) k.lives k.works now x.live (gives_up x).work (work_is k x.live.me x live) noted_so
      (λ y v living other so. taken_leaves freed y v n x.live.me (record (session_at freed n) { code = Some (dtx 3 []).code }) (ap (λ s. s.root) set ∙ has) other
      (taken_leaves k.sessions y v n x.live.me (record (session_at k.sessions n) { call = pending.NoCall }) has other so))

-- so an act of a root is no Ready
never_ready : {k : NodeState} {input : Input} {l : Live} {site_below : Bool} (a : Act) → a ≡ acts.SayReady → Acting k input l site_below a → RootIs k.sessions (ready l) (works_of k.works l.me)
never_ready {k = k} {input = input} {l = l} {site_below = site_below} a is why = λ none. absurd (ready_below (subst (λ b. Acting k input l site_below b) is why) none)

module _ (p : Place) (input : Input) (quits : (n : ℕ) (c : Option (List ℕ)) → IsCall input n (stmts.Commit c) → ⊥) where
  -- each step of another input than COMMIT keeps it
  pub roots_on : {k : NodeState} {d : TurnDraft} → Step p input k d → Before input k → SessionsFit k → NodeRoots k → NodeRoots d.after
  roots_on (steps.Begins {k = k} n s read_at call begins range none step) before fit now = roots_on step (begun_before input k p n s read_at call (may_begin begins) before) (begun_so k fit p n read_at) (begun_roots k p n read_at fit range none now)
  roots_on (steps.Counts_call {k = k} n s call counts step) before fit now =
      roots_on step (counted_before input k n before) (counted_so k fit n) (counted_roots k now n (session_at k.sessions n).root)
  roots_on (steps.Goes_back {k = k} x step goes next) before fit now = roots_on next (back_before input k x step before) (back_so k fit x step) now
  roots_on (steps.Pends n l given call has live code writer step) before fit now = absurd (quits n given call)
  roots_on (steps.Lets_reads_go l comment site_below live begins step) before fit now =
      roots_on step (record { free = before.free; asked = before.asked; prepared = before.prepared; either = before.either }) (record { roots = fit.roots; above = fit.above }) now
  roots_on (steps.Counts_ack {k = k} s from kept came counts step) before fit now = roots_on step (acked_before input k s from kept came before) (record { roots = fit.roots; above = fit.above }) now
  roots_on (steps.Runs {k = k} x s given t asked way) before fit now =
      let is : Works k.sessions x = asked_works k now input before fit asked in
      let y : Branch = branch_ran k.sessions x t (ran p k x.live.me s t) in
      answered_so k now y (with_answer y (answer_of_run (ran p k x.live.me s t))).work is.mine refl (record { mine = is.mine; root = is.root; working = is.working; no_code = is.no_code }) x.live.parent refl
  roots_on (steps.Goes_nowhere {k = k} x s given r asked way) before fit now =
      let is : Works k.sessions x = asked_works k now input before fit asked in answered_so k now x (with_answer x (answers.Refused r)).work is.mine refl is x.live.parent refl
  roots_on (steps.Calls {k = k} x s given i table asked way) before fit now =
      let is : Works k.sessions x = asked_works k now input before fit asked in calls_so k now x (called k.sessions x i (errands.Statement (passed_on s table) given)).work is.mine is
  roots_on (steps.Opens {k = k} x s given node link table asked way) before fit now =
      let is : Works k.sessions x = asked_works k now input before fit asked in calls_so k now x (waits_for_opened x link (passed_on s table) given).work is.mine is
  roots_on (steps.Goes_on {k = k} x from strength g link opened) before fit now =
      let is : Works k.sessions x = going_works k now x g opened.live opened.going in
      let y : Branch = with_edge x (new_edge from link strength) in
      calls_so k now y (called k.sessions y (length x.live.edges + 1) (less_room g.errand)).work is.mine (record { mine = is.mine; root = is.root; working = is.working; no_code = is.no_code })
  roots_on (steps.Hears_reply {k = k} x weight count a i e answered) before fit now =
      let y : Branch = hears_reply x i weight count e in
      let g = going_of x answered.from answered.call i e answered.waits in
      let was : Works k.sessions x = going_works k now x g.0 answered.live g.1 in
      heard_so k now y a (with_answer y (heard_answer y.live e.link a)).work was.mine refl (record { mine = was.mine; root = was.root; working = was.working; no_code = was.no_code })
  roots_on (steps.Backs {k = k} x step from i calls next) before fit now =
      let is : Works k.sessions x = calling_works k now input before fit calls in calls_so k now x (called k.sessions x i (errands.GoBack step)).work is.mine is
  roots_on (steps.Is_back {k = k} x step from calls none) before fit now =
      let is : Works k.sessions x = calling_works k now input before fit calls in answered_so k now x (with_answer x (answers.Did dones.RolledBack 0)).work is.mine refl is x.live.parent refl
  roots_on (steps.Opens_branch {k = k} to parent edge root depth read_at came new) before fit now =
      each_begun (RootIs k.sessions) (RootIs k.sessions) k.lives k.works now _ (λ none. absurd (cc none)) (λ y v live any so. so)
  roots_on (steps.Acts {k = k} l site_below acts.SayReady why) before fit now = acts_so k now l (acting_root k now input before quits why) site_below acts.SayReady (λ is none. absurd (ready_below why none))
  roots_on (steps.Acts {k = k} l site_below a why) before fit now = acts_so k now l (acting_root k now input before quits why) site_below a (λ is. never_ready a is why)
  roots_on (steps.Drops_told {k = k} l live drops) before fit now = gone k now l.me
  roots_on (steps.Drops_asked {k = k} l from live came parent) before fit now = gone k now l.me
  roots_on (steps.Does {k = k} s from _ kept (steps.Ends_so d brings toward new sealed met)) before fit now = learned_so k now s.me d (kept_gone k s kept (before.either (λ n x call rows. brings_none brings n x call)))
  roots_on (steps.Does {k = k} s from _ kept (steps.Meets_so d brings toward new unsealed uncommitted met)) before fit now =
      learned_so k now s.me d (kept_gone k s kept (before.either (λ n x call rows. brings_none brings n x call)))
  roots_on (steps.Does {k = k} s from _ kept (steps.Forgets_first came knows first all none)) before fit now = ended_so k now s.me (kept_gone k s kept (before.either (λ n x call rows. no_call came n x call)))
  roots_on (steps.Does {k = k} s from _ kept (steps.Forgets_after came knows toward first)) before fit now = ended_so k now s.me (kept_gone k s kept (before.either (λ n x call rows. no_call came n x call)))
  roots_on (steps.Forces_given {k = k} n id m b call named) before fit now = ended_so k now b (forced_gone p k id b (before.either (forces_none n id (Some m) call)) named)
  roots_on (steps.Forces_commit {k = k} n id b call named) before fit now = ended_so k now b (forced_gone p k id b (before.either (forces_none n id None call)) named)
  roots_on (steps.Forces_rollback {k = k} n id b call named) before fit now = ended_so k now b (forced_gone p k id b (before.either (rolls_none n id call)) named)
  roots_on (steps.Advises {k = k} n a call) before fit now =
      each_same (RootIs k.sessions) _ k.lives k.works now (λ y v live any so. still_leaves k.sessions y v n (record (session_at k.sessions n) { advice = a }) refl refl refl so)
  roots_on (steps.Leaves {k = k} n s d x call ends has live) before fit now =
      each_left (RootIs k.sessions) _ k.lives k.works now x.live.me (λ y v living other so. taken_leaves k.sessions y v n x.live.me (no_transaction (session_at k.sessions n)) has other so)
  roots_on (steps.Sets_savepoint {k = k} n x name call has code live) before fit now =
      each_put (RootIs k.sessions) (RootIs k.sessions) k.lives k.works now x.live (marked k.sessions x name).work (work_is k x.live.me x live) (branch_root k now x live) (λ y v living other so. so)
  roots_on (steps.Gives_up {k = k} n x gives has calls live) before fit now = given_up k fit now n x has calls live
  roots_on (steps.Gives_up_commit {k = k} n b (Some l) gives has calls live) before fit now = gone_ended k now l.me
  roots_on (steps.Gives_up_commit {k = k} n b None gives has calls live) before fit now = ended_so k now b live
  roots_on _ before fit now = now

-- ---- COMMIT

commit_waits : (c : PendingCall) (before after : Phase) (o : Option Going) → RootWaits c before o → c ≡ pending.Commit → RootWaits c after o
commit_waits pending.NoCall before after o is commits = absurd cc
commit_waits pending.Statement before after o is commits = absurd cc
commit_waits pending.Commit before after o is commits = is

module _ (k : NodeState) (fit : SessionsFit k) (now : NodeRoots k) (n : ℕ) (free : (session_at k.sessions n).call ≡ pending.NoCall) where
  -- the session's COMMIT is pending
  abbrev commits : List Session
  commits = with_call k.sessions n pending.Commit

  pends_now : NodeRoots (record k { sessions = commits })
  pends_now =
      each_same (RootIs k.sessions) (RootIs commits) k.lives k.works now
      (λ y v live any old. set_leaves k.sessions y v n (record (session_at k.sessions n) { call = pending.Commit })
      (λ is. record { root = is.root; waits = (free_waits (session_at k.sessions n).call y.phase v.going is.waits free).1; code = is.code }) old)

  -- its root waits for nothing, however far it is
  module _ (x : Branch) (so : SessionRoot k n (Some x)) where
    committed : (session_at commits x.live.me.session).call ≡ pending.Commit
    committed =
        let set : session_at commits n ≡ record (session_at k.sessions n) { call = pending.Commit } = call_set k.sessions n x.live.me pending.Commit so.0 in
        subst (λ m. (session_at commits m).call ≡ pending.Commit) (sym (fit.roots.each n x.live.me so.0)) (ap (λ s. s.call) set)

    at_phase : (phase : Phase) → x.live.parent ≡ None → IsRootIn (session_at commits x.live.me.session) x.live.me phase (works_of k.works x.live.me).going
    at_phase phase none =
        let was : IsRootIn (session_at commits x.live.me.session) x.live.me x.live.phase (works_of k.works x.live.me).going
        = live_root (record k { sessions = commits }) pends_now x.live.me x.live (live_so k x.live.me x so.1) none in
        record { root = was.root; waits = commit_waits (session_at commits x.live.me.session).call x.live.phase phase (works_of k.works x.live.me).going was.waits committed; code = was.code }

  commit_at_so : (comment : List ℕ) (x : Branch) → SessionRoot k n (Some x) → (read_at : Option ℕ) → NodeRoots (commit_at k n comment x read_at).after
  commit_at_so comment x so (Some scn) =
      each_left (RootIs k.sessions) _ k.lives k.works now x.live.me (λ y v living other is. taken_leaves k.sessions y v n x.live.me (no_transaction (session_at k.sessions n)) so.0 other is)
  commit_at_so comment x so None =
      let l : Live = collecting (with_comment x.live comment) true in
      acts_so (without_read_keys (record k { sessions = commits }) x.live.me) pends_now l (at_phase x so l.phase) true (first_act l true) (λ says. at_phase x so (ready l).phase)

  commit_by_so : (comment : List ℕ) (code : Option ℕ) (o : Option Branch) → SessionRoot k n o → NodeRoots (commit_by k n comment code o).after
  commit_by_so comment None None so = now
  commit_by_so comment (Some c) None so = now
  commit_by_so comment (Some c) (Some x) so = now
  commit_by_so comment None (Some x) so = commit_at_so comment x so x.live.read_at

  pub commit_call_so : (comment : Option (List ℕ)) → NodeRoots (commit_call k n comment).after
  commit_call_so comment = commit_by_so (unwrap_or comment []) (session_at k.sessions n).code (root_at k n) (root_so k n)

-- an input is a COMMIT or none
pub commit_or_not : (input : Input) → ((n : ℕ) × (c : Option (List ℕ)) × IsCall input n (stmts.Commit c)) ⊎ ((n : ℕ) (c : Option (List ℕ)) → IsCall input n (stmts.Commit c) → ⊥)
commit_or_not (inputs.Call n (Some (stmts.Commit c))) = inl (n, c, refl)
commit_or_not (inputs.Call n (Some _)) = inr (λ m c is. absurd cc)
commit_or_not (inputs.Call n None) = inr (λ m c is. absurd cc)
commit_or_not (inputs.GiveUp n) = inr (λ m c is. absurd cc)
commit_or_not (inputs.Message x) = inr (λ m c is. absurd cc)
commit_or_not inputs.Reco = inr (λ m c is. absurd cc)
commit_or_not inputs.Checkpoint = inr (λ m c is. absurd cc)
