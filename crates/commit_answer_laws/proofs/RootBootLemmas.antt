-- In every lawful run the transaction of a session has begun since its node started last.
use Rattle.std.proofs.Common.{◌≡◌, ℕ, Bool, true, false, if◌then◌else◌, ◌&&◌, is_none, List, [], ◌∷◌, ◌++◌, replicate, Option, Some, None, inl, inr, refl, sym, ap, subst, ◌∙◌}
use Rattle.std.specs.Option.{option_to_list}
use Rattle.std.proofs.lemmas.Bool.{cond_both}
use Rattle.commit_forget.specs.declared.next.Next.TheVariants as nexts
use Rattle.session_tree.specs.Live.{new_edge}
use Rattle.node_rules.specs.Data.{Act, Answer, BranchId, Decision, Input, Live, Place, RedoRecord}
use Rattle.node_rules.specs.Data.acts
use Rattle.node_rules.specs.Data.decisions
use Rattle.node_rules.specs.Data.records
use Rattle.node_rules.specs.declared.session.PendingCall.TheVariants as pending
use Rattle.node_rules.specs.declared.session.Session.{Session}
use Rattle.node_rules.specs.Calls.{call_pends, answered_sessions, hears_reply, heard_sessions, is_gone, with_edge}
use Rattle.node_rules.specs.Client.{new_root}
use Rattle.node_rules.specs.Commit.{decided_sessions}
use Rattle.node_rules.specs.NodeState.{NodeState, TurnDraft}
use Rattle.node_rules.specs.Prepare.{abandoned_sessions, act_turn, is_alone}
use Rattle.node_rules.specs.Refusals.{dtx}
use Rattle.node_rules.specs.Sessions.{session_at, fresh_session, with_call, with_root, needs_rollback, no_transaction, commit_is_pending, commit_ended}
use Rattle.node_rules.specs.Statement.{ran, after_run}
use Rattle.node_rules.specs.Turn.{start_of}
use Rattle.node_rules.specs.Words.{set_numbered}
use Rattle.node_rules.proofs.Steps as steps
use Rattle.node_rules.proofs.Steps.{Step}
use Rattle.run_rules.specs.Facts.{node_at, records_at}
use Rattle.run_rules.specs.Lawful.{History, IsLawfulRun, boots, facts_at}
use Rattle.run_rules.proofs.BootLemmas.{boots_with, step_of_turn}
use Rattle.run_base_laws.proofs.FreshLemmas.{Disk, Node, nodes}
use Rattle.run_base_laws.proofs.NodeLemmas.{Keeps, node_keeps}
use Rattle.run_base_laws.proofs.RootLemmas.{session_or_before, counted_session}
use Rattle.run_ready_laws.proofs.TurnCallLemmas.{fresh_at}

-- ---- sessions

module _ (ss : List Session) where
  -- each transaction was there before
  abbrev Fewer : List Session → Type 0
  Fewer zs = (m : ℕ) (b : BranchId) → (session_at zs m).root ≡ Some b → (session_at ss m).root ≡ Some b

  set_fewer : (n : ℕ) (s : Session) → ((b : BranchId) → s.root ≡ Some b → (session_at ss n).root ≡ Some b) → Fewer (set_numbered ss n s)
  set_fewer n s same m b has = elim (session_or_before ss n m s) [
    | inl still ↦ sym (ap (λ (x : Session). x.root) still) ∙ has
    | inr new ↦ subst (λ i. (session_at ss i).root ≡ Some b) new.0 (same b (sym (ap (λ (x : Session). x.root) new.1) ∙ has))
  ]

  call_fewer : (n : ℕ) (s : Session) → s.root ≡ (session_at ss n).root → Fewer (set_numbered ss n s)
  call_fewer n s same = set_fewer n s (λ b has. sym same ∙ has)

  done : (n : ℕ) → Fewer (set_numbered ss n (no_transaction (session_at ss n)))
  done n = set_fewer n (no_transaction (session_at ss n)) (λ b none. absurd cc)

  ended : (b : BranchId) → Fewer (commit_ended ss b)
  ended b = cond_both (commit_is_pending ss b) (set_numbered ss b.session (no_transaction (session_at ss b.session))) ss Fewer (λ was. done b.session) (λ other m c has. has)

  alone : (here : Bool) (b : BranchId) → Fewer (if here then commit_ended ss b else ss)
  alone true b = ended b
  alone false b = λ m c has. has

  decided : (b : BranchId) (d : Decision) → Fewer (decided_sessions ss b d)
  decided b (decisions.Commit n) = λ m c has. has
  decided b decisions.Rollback = ended b

  abandoned : (l : Live) (o : Option BranchId) → Fewer (abandoned_sessions ss l o)
  abandoned l None = ended l.me
  abandoned l (Some parent) = λ m c has. has

  answered : (l : Live) (o : Option BranchId) → Fewer (answered_sessions ss l o)
  answered l None = call_fewer l.me.session (record (session_at ss l.me.session) { call = pending.NoCall }) refl
  answered l (Some parent) = λ m c has. has

  goes_on : (l : Live) → Fewer (call_pends ss l)
  goes_on l =
      cond_both (is_none l.parent) (with_call ss l.me.session pending.Statement) ss Fewer (λ root. call_fewer l.me.session (record (session_at ss l.me.session) { call = pending.Statement }) refl) (λ below m c has. has)

  heard_so : (l : Live) (a : Answer) → Fewer (heard_sessions ss l a)
  heard_so l a =
      cond_both (is_none l.parent && is_gone a) (needs_rollback ss l.me.session (dtx 8 []).code) ss Fewer
      (λ gone. call_fewer l.me.session (record (session_at ss l.me.session) { code = Some (dtx 8 []).code }) refl) (λ other m c has. has)

act_fewer : (k : NodeState) (l : Live) (sb : Bool) (a : Act) → Fewer k.sessions (act_turn k l sb a).after.sessions
act_fewer k l sb acts.Decide = alone k.sessions (is_alone l) l.me
act_fewer k l sb acts.Finish = ended k.sessions l.me
act_fewer k l sb acts.Abandon = abandoned k.sessions l l.parent
act_fewer k l sb acts.Rest = λ m c has. has
act_fewer k l sb acts.AskDown = λ m c has. has
act_fewer k l sb acts.SayReadOnly = λ m c has. has
act_fewer k l sb acts.SayReady = λ m c has. has
act_fewer k l sb acts.Seal = λ m c has. has
act_fewer k l sb (acts.SealAndPass i) = λ m c has. has

-- ---- steps

module _ (p : Place) (input : Input) (boot : ℕ) where
  -- the transactions of sessions are of this start
  abbrev pub Booted : NodeState → Type 0
  Booted k = (n : ℕ) (b : BranchId) → (session_at k.sessions n).root ≡ Some b → b.boot ≡ boot

  begins : (k : NodeState) (n : ℕ) → k.stored.durable.boot ≡ boot → Booted k
      → (m : ℕ) (b : BranchId) → (session_at (with_root k.sessions n (new_root p k n)) m).root ≡ Some b → b.boot ≡ boot
  begins k n is now m b has = elim (session_or_before k.sessions n m (record (session_at k.sessions n) { seq = (new_root p k n).seq; root = Some (new_root p k n); calls = 0 })) [
    | inl still ↦ now m b (sym (ap (λ (x : Session). x.root) still) ∙ has)
    | inr new ↦ (let both : Some (new_root p k n) ≡ Some b = sym (ap (λ (x : Session). x.root) new.1) ∙ has in let one : new_root p k n ≡ b = cc in sym (ap (λ (x : BranchId). x.boot) one) ∙ is)
  ]

  booted_on : {k : NodeState} {d : TurnDraft} → Step p input k d → k.stored.durable.boot ≡ boot → Booted k → Booted d.after
  booted_on (steps.Begins {k = k} n s read_at call may range none step) is now = booted_on step is (begins k n is now)
  booted_on (steps.Counts_call {k = k} n s call counts step) is now =
      booted_on step is (λ m b at. now m b (sym (ap (λ (x : Session). x.root) (counted_session k.sessions n m (session_at k.sessions n).root).1) ∙ at))
  booted_on (steps.Goes_back x step goes next) is now = booted_on next is now
  booted_on (steps.Pends {k = k} n l given call has live code writer step) is now = booted_on step is (λ m b at. now m b (call_fewer k.sessions n (record (session_at k.sessions n) { call = pending.Commit }) refl m b at))
  booted_on (steps.Lets_reads_go l comment site_below live begins step) is now = booted_on step is now
  booted_on (steps.Counts_ack s from kept came counts step) is now = booted_on step is now
  booted_on (steps.Runs {k = k} x s given t asked way) is now = λ m b at. now m b (answered k.sessions (after_run x.live (ran p k x.live.me s t)) x.live.parent m b at)
  booted_on (steps.Goes_nowhere {k = k} x s given r asked way) is now = λ m b at. now m b (answered k.sessions x.live x.live.parent m b at)
  booted_on (steps.Calls {k = k} x s given i table asked way) is now = λ m b at. now m b (goes_on k.sessions x.live m b at)
  booted_on (steps.Opens {k = k} x s given node link table asked way) is now = λ m b at. now m b (goes_on k.sessions x.live m b at)
  booted_on (steps.Goes_on {k = k} x from strength g link opened) is now = λ m b at. now m b (goes_on k.sessions (with_edge x (new_edge from link strength)).live m b at)
  booted_on (steps.Hears_reply {k = k} x weight count a i e heard_it) is now =
      let y : Live = (hears_reply x i weight count e).live in λ m b at. now m b (heard_so k.sessions y a m b (answered (heard_sessions k.sessions y a) y x.live.parent m b at))
  booted_on (steps.Backs {k = k} x step from i calls next) is now = λ m b at. now m b (goes_on k.sessions x.live m b at)
  booted_on (steps.Is_back {k = k} x step from calls none) is now = λ m b at. now m b (answered k.sessions x.live x.live.parent m b at)
  booted_on (steps.Acts {k = k} l sb a why) is now = λ m b at. now m b (act_fewer k l sb a m b at)
  booted_on (steps.Does {k = k} s from (nexts.End d) kept why) is now = λ m b at. now m b (decided k.sessions s.me d m b at)
  booted_on (steps.Does {k = k} s from (nexts.Meet d mixed) kept why) is now = λ m b at. now m b (decided k.sessions s.me d m b at)
  booted_on (steps.Does {k = k} s from nexts.Forget kept why) is now = λ m b at. now m b (ended k.sessions s.me m b at)
  booted_on (steps.Does s from nexts.Rest kept why) is now = now
  booted_on (steps.Does s from nexts.AckToward kept why) is now = now
  booted_on (steps.Does s from nexts.SayForgotten kept why) is now = now
  booted_on (steps.Does s from nexts.SayAck kept why) is now = now
  booted_on (steps.Forces_given {k = k} n id j c call named) is now = λ m b at. now m b (ended k.sessions c m b at)
  booted_on (steps.Forces_commit {k = k} n id c call named) is now = λ m b at. now m b (ended k.sessions c m b at)
  booted_on (steps.Forces_rollback {k = k} n id c call named) is now = λ m b at. now m b (ended k.sessions c m b at)
  booted_on (steps.Advises {k = k} n a call) is now = λ m b at. now m b (call_fewer k.sessions n (record (session_at k.sessions n) { advice = a }) refl m b at)
  booted_on (steps.Leaves {k = k} n s d x call ends has live) is now = λ m b at. now m b (done k.sessions n m b at)
  booted_on (steps.Gives_up {k = k} n x gives has calls live) is now =
      let zs : List Session = with_call k.sessions n pending.NoCall in
      λ m b at. now m b (call_fewer k.sessions n (record (session_at k.sessions n) { call = pending.NoCall }) refl m b (call_fewer zs n (record (session_at zs n) { code = Some (dtx 3 []).code }) refl m b at))
  booted_on (steps.Gives_up_commit {k = k} n c (Some l) gives has calls live) is now = λ m b at. now m b (ended k.sessions l.me m b at)
  booted_on (steps.Gives_up_commit {k = k} n c None gives has calls live) is now = λ m b at. now m b (ended k.sessions c m b at)
  booted_on _ is now = now

-- ---- every run

-- with the ids that the node has given out
abbrev SessionsBoot : Place → List RedoRecord → NodeState → Type 0
SessionsBoot p rs k = Node rs k × ((n : ℕ) (b : BranchId) → (session_at k.sessions n).root ≡ Some b → b.boot ≡ boots rs)

started : (rs : List RedoRecord) (boot : ℕ) (n : ℕ) (b : BranchId) → (session_at (start_of rs).sessions n).root ≡ Some b → b.boot ≡ boot
unfolding start_of
started rs boot n b has = (let none : (session_at (replicate 64 fresh_session) n).root ≡ None = ap (λ s. s.root) (fresh_at n) in absurd (cc (none, has)))

step_boots : (p : Place) (rs : List RedoRecord) (input : Input) (k : NodeState) (d : TurnDraft) → Step p input k d → SessionsBoot p rs k → SessionsBoot p (rs ++ option_to_list d.wrote) d.after
step_boots p rs input k d step now = (
  nodes.steps p rs input k d step now.0,
  λ n b has. booted_on p input (boots rs) step (ap (λ s. s.durable.boot) now.0.stored ∙ now.0.boot) now.1 n b has ∙ sym (boots_with rs d.wrote (step_of_turn p input step)),
)

boots_keep : Keeps (λ p rs. Disk rs) SessionsBoot
boots_keep = record {
  empty = λ p. nodes.empty p;
  starts = λ p rs boot disk next. (nodes.starts p rs boot disk next, λ n b has. started (rs ++ records.Boot boot ∷ []) (boots (rs ++ records.Boot boot ∷ [])) n b has);
  hears = λ p rs k scn now. (nodes.hears p rs k scn now.0, now.1);
  steps = λ p rs input k d step now. step_boots p rs input k d step now;
  rests = λ p rs k now. nodes.rests p rs k now.0;
}

pub roots_boot : (t : History) → IsLawfulRun t → (n : ℕ) (k : NodeState) → node_at (facts_at t) n ≡ Some k → (m : ℕ) (b : BranchId) → (session_at k.sessions m).root ≡ Some b → b.boot ≡ boots (records_at (facts_at t) n)
roots_boot t lawful n k up = (node_keeps (λ p rs. Disk rs) SessionsBoot boots_keep t lawful n k up).1
