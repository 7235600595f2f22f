-- A session's transaction is live until its COMMIT comes: each step of a node that another input brings leaves it so.
use Rattle.std.proofs.Common.{◌≡◌, ◌≢◌, ℕ, ◌+◌, ◌&&◌, Bool, true, false, if◌then◌else◌, List, [], ◌∷◌, ◌++◌, is_none, Option, Some, None, inl, inr, refl, sym, ap, subst, ◌∙◌}
use Rattle.std.proofs.lemmas.Bool.{cond_both}
use Rattle.tran_ids.proofs.BranchLemmas.{equal_from_same, same_from_equal}
use Rattle.tran_ids.proofs.ListedLemmas.{item_is, put_found, put_or_before, drop_leaves}
use Rattle.node_rules.specs.Data.{Stmt, Answer, BranchId, Decision, Phase, Live, Act, Place, Input}
use Rattle.node_rules.specs.Data.acts
use Rattle.node_rules.specs.Data.decisions
use Rattle.node_rules.specs.Data.inputs
use Rattle.node_rules.specs.Data.kinds
use Rattle.node_rules.specs.Data.phases
use Rattle.node_rules.specs.declared.session.PendingCall.{PendingCall}
use Rattle.node_rules.specs.declared.session.PendingCall.TheVariants as pending
use Rattle.node_rules.specs.declared.session.Session.{Session}
use Rattle.commit_forget.specs.declared.next.Next.TheVariants as nexts
use Rattle.node_rules.specs.declared.work.Going.{Going}
use Rattle.node_rules.specs.Words.{same, item_at, set_numbered, put_item, drop_item}
use Rattle.node_rules.specs.Inputs.{Came}
use Rattle.node_rules.specs.Refusals.{dtx}
use Rattle.session_tree.specs.Live.{is_branch, new_edge}
use Rattle.node_rules.specs.NodeState.{NodeState, Branch, TurnDraft, live_id, live_at}
use Rattle.node_rules.specs.Statement.{ran, after_run}
use Rattle.node_rules.specs.Sessions.{session_at, with_call, needs_rollback, no_transaction, with_call_of, commit_is_pending, commit_ended}
use Rattle.node_rules.specs.Calls.{call_pends, answered_sessions, heard_sessions, is_gone, with_edge, hears_reply}
use Rattle.node_rules.specs.Prepare.{abandoned_sessions, ready, is_alone, act_turn}
use Rattle.node_rules.specs.Commit.{decided_sessions}
use Rattle.node_rules.specs.Client.{begun_by, new_root, fresh_root}
use Rattle.node_rules.proofs.Steps as steps
use Rattle.node_rules.proofs.Steps.{Step, Acting}
use Rattle.node_rules.proofs.StepLemmas.{branch_found, acting_so}
use Rattle.run_base_laws.specs.CallLaws.{RootWaits}
use Rattle.run_base_laws.proofs.RootLemmas.{SessionsFit, session_or_before, root_alone, back_so}
use Rattle.run_base_laws.proofs.RestLemmas.{Before, NodeRoots, acting_root, asked_works, back_before, going_works}
use Rattle.run_base_laws.proofs.RestStepLemmas.{going_of}
use Rattle.run_ready_laws.proofs.CallEndLemmas.{none_of, heard_root, acked_before, calling_root}

-- the transaction of a session is live, unless its COMMIT is pending
abbrev pub RootLives : List Live → Session → Type 0
RootLives ls s = (b : BranchId) → s.root ≡ Some b → s.call ≢ pending.Commit → (l : Live) × (item_at live_id ls b ≡ Some l)

-- so are those of all sessions
abbrev pub RootsLive : List Live → List Session → Type 0
RootsLive ls ss = (n : ℕ) → RootLives ls (session_at ss n)

-- ---- live branches

-- a branch is live among these if it is among those
abbrev pub AlsoLive : List Live → List Live → Type 0
AlsoLive ls xs = (b : BranchId) (l : Live) → item_at live_id ls b ≡ Some l → (x : Live) × (item_at live_id xs b ≡ Some x)

pub put_lives : (ls : List Live) (y : Live) → AlsoLive ls (put_item live_id ls y)
put_lives ls y b l found = elim (put_or_before live_id ls y b) [ inl still ↦ (l, still ∙ found) | inr new ↦ (y, new.1) ]

last_lives : (ls : List Live) (y : Live) → AlsoLive ls (ls ++ y ∷ [])
last_lives [] y b l found = absurd cc
last_lives (z ∷ zs) y b l found = by (same z.me b) found (last_lives zs y b l)
  where
    by : (q : Bool) → (if q then Some z else item_at live_id zs b) ≡ Some l → (item_at live_id zs b ≡ Some l → (x : Live) × (item_at live_id (zs ++ y ∷ []) b ≡ Some x))
        → (x : Live) × ((if q then Some z else item_at live_id (zs ++ y ∷ []) b) ≡ Some x)
    by true is later = (z, refl)
    by false is later = later is

last_there : (ls : List Live) (y : Live) → (x : Live) × (item_at live_id (ls ++ y ∷ []) y.me ≡ Some x)
last_there [] y = (y, ap (λ q. if q then Some y else None) (same_from_equal y.me y.me refl))
last_there (z ∷ zs) y = by (same z.me y.me) (last_there zs y)
  where
    by : (q : Bool) → (x : Live) × (item_at live_id (zs ++ y ∷ []) y.me ≡ Some x) → (x : Live) × ((if q then Some z else item_at live_id (zs ++ y ∷ []) y.me) ≡ Some x)
    by true later = (z, refl)
    by false later = later

-- one that leaves, where no session's transaction needs it
pub dropped : (ls : List Live) (ss : List Session) (c : BranchId) → RootsLive ls ss → ((n : ℕ) → (session_at ss n).root ≡ Some c → (session_at ss n).call ≢ pending.Commit → ⊥) → RootsLive (drop_item live_id ls c) ss
dropped ls ss c now unneeded n b has waits = by (same c b) refl
  where
    by : (q : Bool) → same c b ≡ q → (l : Live) × (item_at live_id (drop_item live_id ls c) b ≡ Some l)
    by true is = absurd (unneeded n (subst (λ m. (session_at ss n).root ≡ Some m) (sym (equal_from_same c b is)) has) waits)
    by false is = let was = now n b has waits in (was.0, drop_leaves live_id ls c b is ∙ was.1)

pub also : (ls xs : List Live) (ss : List Session) → AlsoLive ls xs → RootsLive ls ss → RootsLive xs ss
also ls xs ss stay now n b has waits = let was = now n b has waits in stay b was.0 was.1

-- ---- sessions

module _ (ls : List Live) (ss : List Session) (now : RootsLive ls ss) where
  -- a session that is set
  set_lives : (n : ℕ) (s : Session) → RootLives ls s → RootsLive ls (set_numbered ss n s)
  set_lives n s so m = elim (session_or_before ss n m s) [
    | inl still ↦ subst (RootLives ls) (sym still) (now m)
    | inr new ↦ subst (RootLives ls) (sym new.1) so
  ]

  -- with the same transaction and call
  pub same_lives : (n : ℕ) (s : Session) → s.root ≡ (session_at ss n).root → s.call ≡ (session_at ss n).call → RootsLive ls (set_numbered ss n s)
  same_lives n s root call = set_lives n s (λ b has waits. now n b (sym root ∙ has) (λ is. waits (call ∙ is)))

  -- one call more is counted
  pub counted_lives : (n : ℕ) (o : Option BranchId) → RootsLive ls (with_call_of ss n o)
  counted_lives n None = now
  counted_lives n (Some root) = same_lives n (record (session_at ss n) { calls = (session_at ss n).calls + 1 }) refl refl

  -- whose transaction has ended
  pub done_lives : (n : ℕ) → RootsLive ls (set_numbered ss n (no_transaction (session_at ss n)))
  done_lives n = set_lives n (no_transaction (session_at ss n)) (λ b has waits. absurd cc)

  pub ended_lives : (b : BranchId) → RootsLive ls (commit_ended ss b)
  ended_lives b = cond_both (commit_is_pending ss b) (set_numbered ss b.session (no_transaction (session_at ss b.session))) ss (RootsLive ls) (λ is. done_lives b.session) (λ other. now)

  ended_if_lives : (here : Bool) (b : BranchId) → RootsLive ls (if here then commit_ended ss b else ss)
  ended_if_lives true b = ended_lives b
  ended_if_lives false b = now

  decided_lives : (b : BranchId) (d : Decision) → RootsLive ls (decided_sessions ss b d)
  decided_lives b (decisions.Commit n) = now
  decided_lives b decisions.Rollback = ended_lives b

  abandoned_lives : (l : Live) (o : Option BranchId) → RootsLive ls (abandoned_sessions ss l o)
  abandoned_lives l None = ended_lives l.me
  abandoned_lives l (Some parent) = now

  -- the call of a session whose transaction is live
  call_lives : (n : ℕ) (c : PendingCall) → ((b : BranchId) → (session_at ss n).root ≡ Some b → (l : Live) × (item_at live_id ls b ≡ Some l)) → RootsLive ls (with_call ss n c)
  call_lives n c live = set_lives n (record (session_at ss n) { call = c }) (λ b has waits. live b has)

  pub commit_lives : (n : ℕ) → RootsLive ls (with_call ss n pending.Commit)
  commit_lives n = set_lives n (record (session_at ss n) { call = pending.Commit }) (λ b has waits. absurd (waits refl))

  heard_lives : (l : Live) (a : Answer) → RootsLive ls (heard_sessions ss l a)
  heard_lives l a =
      cond_both (is_none l.parent && is_gone a) (needs_rollback ss l.me.session (dtx 8 []).code) ss (RootsLive ls)
      (λ gone. same_lives l.me.session (record (session_at ss l.me.session) { code = Some (dtx 8 []).code }) refl refl) (λ other. now)

-- the transaction of a session is this branch, which is live
root_live : (ls : List Live) (ss : List Session) (n : ℕ) (me : BranchId) (x : Live) → item_at live_id ls me ≡ Some x → (session_at ss n).root ≡ Some me
    → (b : BranchId) → (session_at ss n).root ≡ Some b → (l : Live) × (item_at live_id ls b ≡ Some l)
root_live ls ss n me x found has b is = let it : Some me ≡ Some b = sym has ∙ is in let here : me ≡ b = cc in (x, subst (λ m. item_at live_id ls m ≡ Some x) here found)

module _ (ls : List Live) (ss : List Session) (l : Live) (now : RootsLive ls ss) where
  -- a statement is answered
  pub answered_lives : (o : Option BranchId) → (x : Live) → item_at live_id ls l.me ≡ Some x → (o ≡ None → (session_at ss l.me.session).root ≡ Some l.me) → RootsLive ls (answered_sessions ss l o)
  answered_lives None x found has = call_lives ls ss now l.me.session pending.NoCall (root_live ls ss l.me.session l.me x found (has refl))
  answered_lives (Some parent) x found has = now

  -- it goes on
  pub pends_lives : (x : Live) → item_at live_id ls l.me ≡ Some x → (l.parent ≡ None → (session_at ss l.me.session).root ≡ Some l.me) → RootsLive ls (call_pends ss l)
  pends_lives x found has =
      cond_both (is_none l.parent) (with_call ss l.me.session pending.Statement) ss (RootsLive ls)
      (λ root. call_lives ls ss now l.me.session pending.Statement (root_live ls ss l.me.session l.me x found (has (none_of l.parent root)))) (λ below. now)

-- a transaction begins
pub begun_lives : (p : Place) (k : NodeState) (n : ℕ) (read_at : Option ℕ) → RootsLive k.lives k.sessions → RootsLive (begun_by p k n read_at None).lives (begun_by p k n read_at None).sessions
begun_lives p k n read_at now =
    let y : Live = fresh_root p k (new_root p k n) read_at in
    set_lives (k.lives ++ y ∷ []) k.sessions (also k.lives (k.lives ++ y ∷ []) k.sessions (last_lives k.lives y) now) n _
    (λ b has waits. (let it : Some (new_root p k n) ≡ Some b = has in let here : new_root p k n ≡ b = cc in subst (λ m. (l : Live) × (item_at live_id (k.lives ++ y ∷ []) m ≡ Some l)) here (last_there k.lives y)))

-- ---- the prepare phase

-- no session's transaction is this branch, unless its COMMIT is pending
abbrev pub IsUnneeded : NodeState → BranchId → Type 0
IsUnneeded k b = (n : ℕ) → (session_at k.sessions n).root ≡ Some b → (session_at k.sessions n).call ≢ pending.Commit → ⊥

module _ (k : NodeState) (l : Live) (now : RootsLive k.lives k.sessions) (unneeded : IsUnneeded k l.me) where
  gone : RootsLive (drop_item live_id k.lives l.me) k.sessions
  gone = dropped k.lives k.sessions l.me now unneeded

  stays : (y : Live) → RootsLive (put_item live_id k.lives y) k.sessions
  stays y = also k.lives (put_item live_id k.lives y) k.sessions (put_lives k.lives y) now

  pub act_lives : (site_below : Bool) (a : Act) → RootsLive (act_turn k l site_below a).after.lives (act_turn k l site_below a).after.sessions
  act_lives site_below acts.Rest = stays l
  act_lives site_below acts.AskDown = stays l
  act_lives site_below acts.SayReadOnly = gone
  act_lives site_below acts.SayReady = stays (ready l)
  act_lives site_below acts.Seal = gone
  act_lives site_below (acts.SealAndPass i) = gone
  act_lives site_below acts.Decide = ended_if_lives (drop_item live_id k.lives l.me) k.sessions gone (is_alone l) l.me
  act_lives site_below acts.Finish = ended_lives (drop_item live_id k.lives l.me) k.sessions gone l.me
  act_lives site_below acts.Abandon = abandoned_lives (drop_item live_id k.lives l.me) k.sessions gone l l.parent

-- a branch that acts works no more
acting_phase : {k : NodeState} {input : Input} {l : Live} {site_below : Bool} {a : Act} → Acting k input l site_below a → l.phase ≢ phases.Working
acting_phase (steps.Asks_down l comment site_below e es live begins has) = λ is. absurd cc
acting_phase (steps.Has_no_children l comment site_below a live begins none collected) = λ is. absurd cc
acting_phase (steps.Hears_abort l from site_below live answers) = let phase = answers.collecting in λ is. absurd (cc (phase, is))
acting_phase (steps.Waits_on l from v site_below live answers other some) = let phase = answers.collecting in λ is. absurd (cc (phase, is))
acting_phase (steps.Hears_last l from v site_below a live answers other all collected) = let phase = answers.collecting in λ is. absurd (cc (phase, is))
acting_phase (steps.At_point l from a live came ready pointed) = λ is. absurd (cc (ready, is))

waits_no_more : (c : PendingCall) (phase : Phase) (o : Option Going) → RootWaits c phase o → phase ≢ phases.Working → c ≢ pending.Commit → ⊥
waits_no_more pending.NoCall phase o is other free = other is.0
waits_no_more pending.Statement phase o is other free = other is
waits_no_more pending.Commit phase o is other free = free refl

module _ (k : NodeState) (fit : SessionsFit k) where
  -- a branch below a root is no session's transaction
  below_unneeded : (l : Live) → live_at k l.me ≡ Some l → l.parent ≢ None → IsUnneeded k l.me
  below_unneeded l live below n has waits = below (root_alone k fit n l.me has l live)

  -- nor is one that acts, unless its COMMIT came
  acting_unneeded : (input : Input) → Before input k → NodeRoots k → ((n : ℕ) (s : Option Stmt) → input ≡ inputs.Call n s → ⊥) → {l : Live} {site_below : Bool} {a : Act} → Acting k input l site_below a → IsUnneeded k l.me
  acting_unneeded input before roots no_call {l = l} why n has waits =
      let none : l.parent ≡ None = acting_so (λ y. (session_at k.sessions n).root ≡ Some y.me → y.parent ≡ None) (λ y comment site_below q. q) (λ y from v q. q)
      (λ b y found here. root_alone k fit n y.me here y (subst (λ m. live_at k m ≡ Some y) (sym (item_is live_id k.lives b y found)) found)) why has in
      let is = acting_root k roots input before (λ m c call. no_call m _ call) why none in
      let at : l.me.session ≡ n = fit.roots.each n l.me has in
      absurd (waits_no_more (session_at k.sessions l.me.session).call l.phase _ is.waits (acting_phase why) (subst (λ m. (session_at k.sessions m).call ≢ pending.Commit) (sym at) waits))

-- ---- steps

-- Rollback comes to no root
abbrev pub RollsBelow : Input → NodeState → Type 0
RollsBelow input k = (from to : BranchId) → Came input from to kinds.Rollback → (l : Live) → live_at k to ≡ Some l → l.parent ≢ None

parent_some : (b : BranchId) (o : Option BranchId) → is_branch b o ≡ true → o ≢ None
parent_some b o is none = let it = branch_found b o is in absurd (cc (it, none))

module _ (p : Place) (input : Input) (no_call : (n : ℕ) (s : Option Stmt) → input ≡ inputs.Call n s → ⊥) where
  pub lives_on : {k : NodeState} {d : TurnDraft} → Step p input k d → Before input k → RollsBelow input k → SessionsFit k → NodeRoots k → RootsLive k.lives k.sessions → RootsLive d.after.lives d.after.sessions
  lives_on (steps.Begins n s read_at call begins range none step) before rolls fit roots now = absurd (no_call n (Some s) call)
  lives_on (steps.Counts_call n s call counts step) before rolls fit roots now = absurd (no_call n (Some s) call)
  lives_on (steps.Goes_back {k = k} x step goes next) before rolls fit roots now = lives_on next (back_before input k x step before) rolls (back_so k fit x step) roots now
  lives_on (steps.Pends n l given call has live code writer step) before rolls fit roots now = absurd (no_call n _ call)
  lives_on (steps.Lets_reads_go l comment site_below live begins step) before rolls fit roots now =
      lives_on step (record { free = before.free; asked = before.asked; prepared = before.prepared; either = before.either }) rolls (record { roots = fit.roots; above = fit.above }) roots now
  lives_on (steps.Counts_ack {k = k} s from kept came counts step) before rolls fit roots now = lives_on step (acked_before input k s from kept came before) rolls (record { roots = fit.roots; above = fit.above }) roots now
  lives_on (steps.Runs {k = k} x s given t asked way) before rolls fit roots now =
      let l : Live = after_run x.live (ran p k x.live.me s t) in
      answered_lives (put_item live_id k.lives l) k.sessions l (also k.lives (put_item live_id k.lives l) k.sessions (put_lives k.lives l) now) x.live.parent l (put_found live_id k.lives l)
      (asked_works k roots input before fit asked).root
  lives_on (steps.Goes_nowhere {k = k} x s given r asked way) before rolls fit roots now =
      answered_lives (put_item live_id k.lives x.live) k.sessions x.live (also k.lives (put_item live_id k.lives x.live) k.sessions (put_lives k.lives x.live) now) x.live.parent x.live (put_found live_id k.lives x.live)
      (asked_works k roots input before fit asked).root
  lives_on (steps.Calls {k = k} x s given i table asked way) before rolls fit roots now =
      pends_lives (put_item live_id k.lives x.live) k.sessions x.live (also k.lives (put_item live_id k.lives x.live) k.sessions (put_lives k.lives x.live) now) x.live (put_found live_id k.lives x.live)
      (asked_works k roots input before fit asked).root
  lives_on (steps.Opens {k = k} x s given node link table asked way) before rolls fit roots now =
      pends_lives (put_item live_id k.lives x.live) k.sessions x.live (also k.lives (put_item live_id k.lives x.live) k.sessions (put_lives k.lives x.live) now) x.live (put_found live_id k.lives x.live)
      (asked_works k roots input before fit asked).root
  lives_on (steps.Goes_on {k = k} x from strength g link opened) before rolls fit roots now =
      let l : Live = (with_edge x (new_edge from link strength)).live in
      pends_lives (put_item live_id k.lives l) k.sessions l (also k.lives (put_item live_id k.lives l) k.sessions (put_lives k.lives l) now) l (put_found live_id k.lives l)
      (going_works k roots x g opened.live opened.going).root
  lives_on (steps.Hears_reply {k = k} x weight count a i e answered) before rolls fit roots now =
      let y : Branch = hears_reply x i weight count e in
      let zs : List Session = heard_sessions k.sessions y.live a in
      let g = going_of x answered.from answered.call i e answered.waits in
      answered_lives (put_item live_id k.lives y.live) zs y.live (heard_lives (put_item live_id k.lives y.live) k.sessions (also k.lives (put_item live_id k.lives y.live) k.sessions (put_lives k.lives y.live) now) y.live a)
      x.live.parent y.live (put_found live_id k.lives y.live) (λ root. heard_root k.sessions y.live a ((going_works k roots x g.0 answered.live g.1).root root))
  lives_on (steps.Backs {k = k} x step from i calls next) before rolls fit roots now =
      pends_lives (put_item live_id k.lives x.live) k.sessions x.live (also k.lives (put_item live_id k.lives x.live) k.sessions (put_lives k.lives x.live) now) x.live (put_found live_id k.lives x.live)
      (λ root. (calling_root before no_call roots calls root).1)
  lives_on (steps.Is_back {k = k} x step from calls none) before rolls fit roots now =
      answered_lives (put_item live_id k.lives x.live) k.sessions x.live (also k.lives (put_item live_id k.lives x.live) k.sessions (put_lives k.lives x.live) now) x.live.parent x.live (put_found live_id k.lives x.live)
      (λ root. (calling_root before no_call roots calls root).1)
  lives_on (steps.Opens_branch {k = k} to parent edge root depth read_at came new) before rolls fit roots now = also k.lives (k.lives ++ _ ∷ []) k.sessions (last_lives k.lives _) now
  lives_on (steps.Acts {k = k} l site_below a why) before rolls fit roots now = act_lives k l now (acting_unneeded k fit input before roots no_call why) site_below a
  lives_on (steps.Drops_told {k = k} l live (steps.By_rollback from came)) before rolls fit roots now = dropped k.lives k.sessions l.me now (below_unneeded k fit l live (rolls from l.me came l live))
  lives_on (steps.Drops_told {k = k} l live (steps.By_parent from came parent)) before rolls fit roots now = dropped k.lives k.sessions l.me now (below_unneeded k fit l live (parent_some from l.parent parent))
  lives_on (steps.Drops_asked {k = k} l from live came parent) before rolls fit roots now = dropped k.lives k.sessions l.me now (below_unneeded k fit l live (parent_some from l.parent parent))
  lives_on (steps.Does {k = k} s from (nexts.End d) kept why) before rolls fit roots now = decided_lives k.lives k.sessions now s.me d
  lives_on (steps.Does {k = k} s from (nexts.Meet d mixed) kept why) before rolls fit roots now = decided_lives k.lives k.sessions now s.me d
  lives_on (steps.Does {k = k} s from nexts.Forget kept why) before rolls fit roots now = ended_lives k.lives k.sessions now s.me
  lives_on (steps.Does s from nexts.Rest kept why) before rolls fit roots now = now
  lives_on (steps.Does s from nexts.AckToward kept why) before rolls fit roots now = now
  lives_on (steps.Does s from nexts.SayForgotten kept why) before rolls fit roots now = now
  lives_on (steps.Does s from nexts.SayAck kept why) before rolls fit roots now = now
  lives_on (steps.Refuses n s r is) before rolls fit roots now = absurd (no_call n s is)
  lives_on (steps.Completes_at_once n s d call completes none) before rolls fit roots now = absurd (no_call n _ call)
  lives_on (steps.Makes_record n s r d call makes) before rolls fit roots now = absurd (no_call n _ call)
  lives_on (steps.Forces_given n id m b call named) before rolls fit roots now = absurd (no_call n _ call)
  lives_on (steps.Forces_commit n id b call named) before rolls fit roots now = absurd (no_call n _ call)
  lives_on (steps.Forces_rollback n id b call named) before rolls fit roots now = absurd (no_call n _ call)
  lives_on (steps.Hides n mixed id s call found) before rolls fit roots now = absurd (no_call n _ call)
  lives_on (steps.Advises n a call) before rolls fit roots now = absurd (no_call n _ call)
  lives_on (steps.Leaves n s d x call ends has live) before rolls fit roots now = absurd (no_call n _ call)
  lives_on (steps.Sets_read_only n call) before rolls fit roots now = absurd (no_call n _ call)
  lives_on (steps.Sets_savepoint n x name call has code live) before rolls fit roots now = absurd (no_call n _ call)
  lives_on (steps.Gives_up {k = k} n x gives has calls live) before rolls fit roots now =
      let xs : List Live = put_item live_id k.lives x.live in
      let zs : List Session = with_call k.sessions n pending.NoCall in
      same_lives xs zs (call_lives xs k.sessions (also k.lives xs k.sessions (put_lives k.lives x.live) now) n pending.NoCall (root_live xs k.sessions n x.live.me x.live (put_found live_id k.lives x.live) has)) n
      (record (session_at zs n) { code = Some (dtx 3 []).code }) refl refl
  lives_on (steps.Gives_up_commit {k = k} n b (Some l) gives has calls live) before rolls fit roots now =
      ended_lives (drop_item live_id k.lives l.me) k.sessions (dropped k.lives k.sessions l.me now (λ m has_too waits.
      (let me : l.me ≡ b = item_is live_id k.lives b l live in
      let at : m ≡ n = sym (fit.roots.each m l.me has_too) ∙ (ap (λ c. c.session) me ∙ fit.roots.each n b has) in
      waits (subst (λ i. (session_at k.sessions i).call ≡ pending.Commit) (sym at) calls)))) l.me
  lives_on (steps.Gives_up_commit {k = k} n b None gives has calls live) before rolls fit roots now = ended_lives k.lives k.sessions now b
  lives_on (steps.Images is) before rolls fit roots now = now
  lives_on (steps.Rests) before rolls fit roots now = now
  lives_on (steps.Sends says why) before rolls fit roots now = now
