-- The transaction of a session whose COMMIT is pending after a step is the one that it was before.
use Rattle.std.proofs.Common.{◌≡◌, ◌≢◌, ℕ, ◌&&◌, Bool, true, false, if◌then◌else◌, is_none, List, [], unwrap_or, Option, Some, None, inl, inr, refl, sym, ap, ◌∙◌}
use Rattle.std.proofs.lemmas.Bool.{cond_both}
use Rattle.commit_forget.specs.declared.next.Next.TheVariants as nexts
use Rattle.node_rules.specs.Data.{Act, Answer, BranchId, Decision, Input, Live, Place, Stmt}
use Rattle.node_rules.specs.Data.acts
use Rattle.node_rules.specs.Data.decisions
use Rattle.node_rules.specs.Data.inputs
use Rattle.node_rules.specs.declared.session.PendingCall.TheVariants as pending
use Rattle.node_rules.specs.declared.session.Session.{Session}
use Rattle.session_tree.specs.Live.{new_edge}
use Rattle.node_rules.specs.Calls.{call_pends, answered_sessions, hears_reply, heard_sessions, is_gone, with_edge}
use Rattle.node_rules.specs.Client.{commit_at, commit_by, commit_call, new_root, root_at}
use Rattle.node_rules.specs.Commit.{decided_sessions}
use Rattle.node_rules.specs.NodeState.{NodeState, Branch, TurnDraft}
use Rattle.node_rules.specs.Prepare.{abandoned_sessions, act_turn, collecting, first_act, is_alone, with_comment, without_read_keys}
use Rattle.node_rules.specs.Refusals.{dtx}
use Rattle.node_rules.specs.Sessions.{session_at, with_call, needs_rollback, no_transaction, commit_is_pending, commit_ended}
use Rattle.node_rules.specs.Statement.{ran, after_run}
use Rattle.node_rules.specs.Words.{set_numbered}
use Rattle.node_rules.proofs.StandLemmas.{RootSo, root_so}
use Rattle.node_rules.proofs.Steps as steps
use Rattle.node_rules.proofs.Steps.{Step}
use Rattle.run_base_laws.proofs.RootLemmas.{session_or_before, counted_session}

module _ (ss : List Session) (m : ℕ) where
  -- the transaction is what it was
  abbrev Same : List Session → Type 0
  Same zs = (session_at zs m).root ≡ (session_at ss m).root

  -- so it is where the COMMIT is pending
  abbrev Back : List Session → Type 0
  Back zs = (session_at zs m).call ≡ pending.Commit → Same zs

  -- a session with its transaction, or without a COMMIT
  set_same : (n : ℕ) (s : Session) → s.root ≡ (session_at ss n).root → Same (set_numbered ss n s)
  set_same n s same = elim (session_or_before ss n m s) [
    | inl still ↦ ap (λ (x : Session). x.root) still
    | inr new ↦ ap (λ (x : Session). x.root) new.1 ∙ (same ∙ ap (λ i. (session_at ss i).root) new.0)
  ]

  set_other : (n : ℕ) (s : Session) → s.call ≢ pending.Commit → Back (set_numbered ss n s)
  set_other n s other commits = elim (session_or_before ss n m s) [
    | inl still ↦ ap (λ (x : Session). x.root) still
    | inr new ↦ absurd (other (sym (ap (λ (x : Session). x.call) new.1) ∙ commits))
  ]

  done : (n : ℕ) → Back (set_numbered ss n (no_transaction (session_at ss n)))
  done n = set_other n (no_transaction (session_at ss n)) (λ free. absurd cc)

  ended : (b : BranchId) → Back (commit_ended ss b)
  ended b = cond_both (commit_is_pending ss b) (set_numbered ss b.session (no_transaction (session_at ss b.session))) ss Back (λ was. done b.session) (λ none commits. refl)

  alone : (here : Bool) (b : BranchId) → Back (if here then commit_ended ss b else ss)
  alone true b = ended b
  alone false b = λ commits. refl

  decided : (b : BranchId) (d : Decision) → Back (decided_sessions ss b d)
  decided b (decisions.Commit n) = λ commits. refl
  decided b decisions.Rollback = ended b

  abandoned : (l : Live) (o : Option BranchId) → Back (abandoned_sessions ss l o)
  abandoned l None = ended l.me
  abandoned l (Some parent) = λ commits. refl

  answered : (l : Live) (o : Option BranchId) → Same (answered_sessions ss l o)
  answered l None = set_same l.me.session (record (session_at ss l.me.session) { call = pending.NoCall }) refl
  answered l (Some parent) = refl

  goes_on : (l : Live) → Same (call_pends ss l)
  goes_on l = cond_both (is_none l.parent) (with_call ss l.me.session pending.Statement) ss Same (λ root. set_same l.me.session (record (session_at ss l.me.session) { call = pending.Statement }) refl) (λ below. refl)

  heard_so : (l : Live) (a : Answer) → Same (heard_sessions ss l a)
  heard_so l a =
      cond_both (is_none l.parent && is_gone a) (needs_rollback ss l.me.session (dtx 8 []).code) ss Same
      (λ gone. set_same l.me.session (record (session_at ss l.me.session) { code = Some (dtx 8 []).code }) refl) (λ other. refl)

act_back : (k : NodeState) (m : ℕ) (l : Live) (site_below : Bool) (a : Act) → Back k.sessions m (act_turn k l site_below a).after.sessions
act_back k m l site_below acts.Decide = alone k.sessions m (is_alone l) l.me
act_back k m l site_below acts.Finish = ended k.sessions m l.me
act_back k m l site_below acts.Abandon = abandoned k.sessions m l l.parent
act_back k m l site_below acts.Rest = λ commits. refl
act_back k m l site_below acts.AskDown = λ commits. refl
act_back k m l site_below acts.SayReadOnly = λ commits. refl
act_back k m l site_below acts.SayReady = λ commits. refl
act_back k m l site_below acts.Seal = λ commits. refl
act_back k m l site_below (acts.SealAndPass i) = λ commits. refl

-- each step of an input that is no call of the session
module _ (p : Place) (input : Input) (m : ℕ) (other : (s : Option Stmt) → input ≡ inputs.Call m s → ⊥) where
  begun_same : (ss : List Session) (n : ℕ) (s : Session) (st : Option Stmt) → input ≡ inputs.Call n st → (session_at (set_numbered ss n s) m).root ≡ (session_at ss m).root
  begun_same ss n s st call = elim (session_or_before ss n m s) [
    | inl still ↦ ap (λ (x : Session). x.root) still
    | inr new ↦ absurd (other st (call ∙ ap (λ i. inputs.Call i st) new.0))
  ]

  pub root_on : {k : NodeState} {d : TurnDraft} → Step p input k d → (session_at d.after.sessions m).call ≡ pending.Commit → (session_at d.after.sessions m).root ≡ (session_at k.sessions m).root
  root_on (steps.Begins {k = k} n s read_at call begins range none step) is =
      root_on step is ∙ begun_same k.sessions n (record (session_at k.sessions n) { seq = (new_root p k n).seq; root = Some (new_root p k n); calls = 0 }) (Some s) call
  root_on (steps.Counts_call {k = k} n s call counts step) is = root_on step is ∙ ap (λ (x : Session). x.root) (counted_session k.sessions n m (session_at k.sessions n).root).1
  root_on (steps.Goes_back {k = k} x step goes next) is = root_on next is
  root_on (steps.Pends {k = k} n l given call has live code writer step) is = root_on step is ∙ set_same k.sessions m n (record (session_at k.sessions n) { call = pending.Commit }) refl
  root_on (steps.Lets_reads_go l comment site_below live begins step) is = root_on step is
  root_on (steps.Counts_ack s from kept came counts step) is = root_on step is
  root_on (steps.Runs {k = k} x s given t asked way) is = answered k.sessions m (after_run x.live (ran p k x.live.me s t)) x.live.parent
  root_on (steps.Goes_nowhere {k = k} x s given r asked way) is = answered k.sessions m x.live x.live.parent
  root_on (steps.Calls {k = k} x s given i table asked way) is = goes_on k.sessions m x.live
  root_on (steps.Opens {k = k} x s given node link table asked way) is = goes_on k.sessions m x.live
  root_on (steps.Goes_on {k = k} x from strength g link opened) is = goes_on k.sessions m (with_edge x (new_edge from link strength)).live
  root_on (steps.Hears_reply {k = k} x weight count a i e heard_it) is =
      let y : Live = (hears_reply x i weight count e).live in answered (heard_sessions k.sessions y a) m y x.live.parent ∙ heard_so k.sessions m y a
  root_on (steps.Backs {k = k} x step from i calls next) is = goes_on k.sessions m x.live
  root_on (steps.Is_back {k = k} x step from calls none) is = answered k.sessions m x.live x.live.parent
  root_on (steps.Acts {k = k} l site_below a why) is = act_back k m l site_below a is
  root_on (steps.Does {k = k} s from (nexts.End d) kept why) is = decided k.sessions m s.me d is
  root_on (steps.Does {k = k} s from (nexts.Meet d mixed) kept why) is = decided k.sessions m s.me d is
  root_on (steps.Does {k = k} s from nexts.Forget kept why) is = ended k.sessions m s.me is
  root_on (steps.Does s from nexts.Rest kept why) is = refl
  root_on (steps.Does s from nexts.AckToward kept why) is = refl
  root_on (steps.Does s from nexts.SayForgotten kept why) is = refl
  root_on (steps.Does s from nexts.SayAck kept why) is = refl
  root_on (steps.Forces_given {k = k} n id j b call named) is = ended k.sessions m b is
  root_on (steps.Forces_commit {k = k} n id b call named) is = ended k.sessions m b is
  root_on (steps.Forces_rollback {k = k} n id b call named) is = ended k.sessions m b is
  root_on (steps.Advises {k = k} n a call) is = set_same k.sessions m n (record (session_at k.sessions n) { advice = a }) refl
  root_on (steps.Leaves {k = k} n s d x call ends has live) is = done k.sessions m n is
  root_on (steps.Gives_up {k = k} n x gives has calls live) is =
      let zs : List Session = with_call k.sessions n pending.NoCall in
      set_same zs m n (record (session_at zs n) { code = Some (dtx 3 []).code }) refl ∙ set_same k.sessions m n (record (session_at k.sessions n) { call = pending.NoCall }) refl
  root_on (steps.Gives_up_commit {k = k} n b (Some l) gives has calls live) is = ended k.sessions m l.me is
  root_on (steps.Gives_up_commit {k = k} n b None gives has calls live) is = ended k.sessions m b is
  root_on _ is = refl

-- ---- the turn in which it comes

-- The session has this transaction, before and after.
pub record KeepsRoot (before after : List Session) (n : ℕ) : Type 0 where
  pub root : BranchId
  pub was : (session_at before n).root ≡ Some root
  pub stays : (session_at after n).root ≡ Some root

-- a COMMIT that is pending after its own turn has a transaction
pub commit_root : (k : NodeState) (n : ℕ) (given : Option (List ℕ)) → (session_at k.sessions n).call ≡ pending.NoCall → (session_at (commit_call k n given).after.sessions n).call ≡ pending.Commit → KeepsRoot k.sessions (commit_call k n given).after.sessions n
commit_root k n given free = by (session_at k.sessions n).code (root_at k n) (root_so k n)
  where
    by : (code : Option ℕ) (o : Option Branch) → RootSo k n o → (session_at (commit_by k n (unwrap_or given []) code o).after.sessions n).call ≡ pending.Commit
        → KeepsRoot k.sessions (commit_by k n (unwrap_or given []) code o).after.sessions n
    by None None so is = absurd (cc (free, is))
    by (Some c) None so is = absurd (cc (free, is))
    by (Some c) (Some x) so is = absurd (cc (free, is))
    by None (Some x) so is = at_root x so x.live.read_at is
      where
        -- one that is READ ONLY is complete at once
        at_root : (x : Branch) → RootSo k n (Some x) → (o : Option ℕ) → (session_at (commit_at k n (unwrap_or given []) x o).after.sessions n).call ≡ pending.Commit
            → KeepsRoot k.sessions (commit_at k n (unwrap_or given []) x o).after.sessions n
        at_root x so (Some scn) is = elim (session_or_before k.sessions n n (no_transaction (session_at k.sessions n))) [
          | inl still ↦ (let was = sym (ap (λ (s : Session). s.call) still) ∙ is in absurd (cc (free, was)))
          | inr new ↦ (let was = sym (ap (λ (s : Session). s.call) new.1) ∙ is in absurd cc)
        ]
        at_root x so None is =
            let l : Live = collecting (with_comment x.live (unwrap_or given [])) true in
            let k2 : NodeState = without_read_keys (record k { sessions = with_call k.sessions n pending.Commit }) x.live.me in
            record {
              root = x.live.me;
              was = so.0;
              stays = act_back k2 n l true (first_act l true) is ∙ (set_same k.sessions n n (record (session_at k.sessions n) { call = pending.Commit }) refl ∙ so.0);
            }
