-- In every lawful run the transaction of a session has an id of that session, and is a root where it is live.
use Rattle.std.proofs.Common.{◌≡◌, ◌≢◌, ℕ, zero, suc, ◌≤◌, ◌&&◌, Bool, true, false, if◌then◌else◌, List, [], length, replicate, slice_get, unwrap_or, is_none, Option, Some, None, inl, inr, refl, sym, ap, subst, ◌∙◌, ◌⊎◌, arith, ◌+◌}
use Rattle.std.specs.List.{AllByRecursion}
use Rattle.std.proofs.lemmas.Bool.{cond_both}
use Rattle.tran_ids.proofs.ListedLemmas.{item_is}
use Rattle.tran_ids.proofs.NumberedLemmas.{set_length, set_or_before}
use Rattle.commit_forget.specs.declared.next.Next.TheVariants as nexts
use Rattle.node_rules.specs.Data.{Stmt, Answer, BranchId, Decision, Live, Act, Place, Input}
use Rattle.node_rules.specs.Data.acts
use Rattle.node_rules.specs.Data.decisions
use Rattle.node_rules.specs.declared.session.PendingCall.{PendingCall}
use Rattle.node_rules.specs.declared.session.PendingCall.TheVariants as pending
use Rattle.node_rules.specs.declared.session.Session.{Session}
use Rattle.node_rules.specs.Words.{numbered, set_numbered, put_item, drop_item}
use Rattle.node_rules.specs.Refusals.{dtx}
use Rattle.session_tree.specs.Live.{new_edge}
use Rattle.node_rules.specs.NodeState.{NodeState, Branch, TurnDraft, Stored, live_id, live_at, branch_at}
use Rattle.node_rules.specs.Statement.{ran, after_run}
use Rattle.node_rules.specs.Sessions.{fresh_session, session_at, with_call, needs_rollback, no_transaction, commit_is_pending, commit_ended, with_call_of}
use Rattle.node_rules.specs.Calls.{call_pends, answered_sessions, heard_sessions, is_gone, with_edge, hears_reply}
use Rattle.node_rules.specs.Prepare.{abandoned_sessions, ready, is_alone}
use Rattle.node_rules.specs.Commit.{decided_sessions}
use Rattle.node_rules.specs.Client.{new_root, begun_by, counted}
use Rattle.node_rules.specs.Turn.{kept_by}
use Rattle.node_rules.proofs.Steps as steps
use Rattle.node_rules.proofs.Steps.{Step, Asked, Acting, Calls_back}
use Rattle.node_rules.proofs.StandLemmas.{live_so}
use Rattle.run_base_laws.specs.CallLaws.{RootsAreOfSessions}
use Rattle.node_rules.proofs.StepLemmas.{acting_so, calling_back_so}
use Rattle.node_rules.specs.Marks.{node_back}
use Rattle.run_base_laws.proofs.OwnLemmas.{all_found, all_with, all_without, all_last}
use Rattle.run_rules.proofs.AtNodeLemmas.{range_of}
use Rattle.run_base_laws.proofs.NodeLemmas.{KeepsAlone, kept_alone}
use Rattle.read_only_tx.specs.Versions.{Versions}

-- ---- sessions

-- what is found at a session after one was set
pub session_or_before : (ss : List Session) (n m : ℕ) (s : Session) → (session_at (set_numbered ss n s) m ≡ session_at ss m) ⊎ ((n ≡ m) × (session_at (set_numbered ss n s) m ≡ s))
session_or_before ss n m s = elim (set_or_before ss n m s) [ inl same ↦ inl (ap (λ o. unwrap_or o fresh_session) same) | inr new ↦ inr (new.0, ap (λ o. unwrap_or o fresh_session) new.1) ]

-- what is found at a session where a call was counted: the same but for the number of calls
pub counted_session : (ss : List Session) (n m : ℕ) (o : Option BranchId) → (c : ℕ) × (session_at (with_call_of ss n o) m ≡ record (session_at ss m) { calls = c })
counted_session ss n m None = ((session_at ss m).calls, refl)
counted_session ss n m (Some root) =
    let c : ℕ = (session_at ss n).calls + 1 in
    elim (session_or_before ss n m (record (session_at ss n) { calls = c })) [
      | inl still ↦ ((session_at ss m).calls, still)
      | inr new ↦ (c, new.1 ∙ ap (λ i. record (session_at ss i) { calls = c }) new.0)
    ]

-- a session's transaction has an id of it
abbrev IsOf : ℕ → Session → Type 0
IsOf n s = (b : BranchId) → s.root ≡ Some b → b.session ≡ n

-- There are 64 sessions, and each one's transaction has an id of it.
pub record RootsFit (ss : List Session) : Type 0 where
  pub many : length ss ≡ 64
  pub each : (n : ℕ) → IsOf n (session_at ss n)

module _ (ss : List Session) (now : RootsFit ss) where
  set_fits : (n : ℕ) (s : Session) → IsOf n s → RootsFit (set_numbered ss n s)
  set_fits n s so = record {
    many = set_length ss n s ∙ now.many;
    each = λ m. elim (session_or_before ss n m s) [ inl same ↦ subst (IsOf m) (sym same) (now.each m) | inr new ↦ subst (IsOf m) (sym new.1) (subst (λ i. IsOf i s) new.0 so) ];
  }

  pub call_fits : (n : ℕ) (c : PendingCall) → RootsFit (with_call ss n c)
  call_fits n c = set_fits n (record (session_at ss n) { call = c }) (now.each n)

  counted_fits : (n : ℕ) (o : Option BranchId) → RootsFit (with_call_of ss n o)
  counted_fits n None = now
  counted_fits n (Some root) = set_fits n (record (session_at ss n) { calls = (session_at ss n).calls + 1 }) (now.each n)

  needs_fits : (n code : ℕ) → RootsFit (needs_rollback ss n code)
  needs_fits n code = set_fits n (record (session_at ss n) { code = Some code }) (now.each n)

  done_fits : (n : ℕ) → RootsFit (set_numbered ss n (no_transaction (session_at ss n)))
  done_fits n = set_fits n (no_transaction (session_at ss n)) (λ b is. absurd cc)

  ended_fits : (root : BranchId) → RootsFit (commit_ended ss root)
  ended_fits root = cond_both (commit_is_pending ss root) (set_numbered ss root.session (no_transaction (session_at ss root.session))) ss RootsFit (λ is. done_fits root.session) (λ other. now)

  pends_fits : (l : Live) → RootsFit (call_pends ss l)
  pends_fits l = cond_both (is_none l.parent) (with_call ss l.me.session pending.Statement) ss RootsFit (λ root. call_fits l.me.session pending.Statement) (λ below. now)

  answered_fits : (l : Live) (parent : Option BranchId) → RootsFit (answered_sessions ss l parent)
  answered_fits l None = call_fits l.me.session pending.NoCall
  answered_fits l (Some parent) = now

  heard_fits : (l : Live) (a : Answer) → RootsFit (heard_sessions ss l a)
  heard_fits l a = cond_both (is_none l.parent && is_gone a) (needs_rollback ss l.me.session (dtx 8 []).code) ss RootsFit (λ gone. needs_fits l.me.session (dtx 8 []).code) (λ other. now)

  decided_fits : (b : BranchId) (d : Decision) → RootsFit (decided_sessions ss b d)
  decided_fits b (decisions.Commit n) = now
  decided_fits b decisions.Rollback = ended_fits b

  abandoned_fits : (l : Live) (parent : Option BranchId) → RootsFit (abandoned_sessions ss l parent)
  abandoned_fits l None = ended_fits l.me
  abandoned_fits l (Some parent) = now

  ended_if_fits : (here : Bool) (root : BranchId) → RootsFit (if here then commit_ended ss root else ss)
  ended_if_fits true root = ended_fits root
  ended_if_fits false root = now

  -- a session with a transaction is one of the 64
  session_low : (n : ℕ) (b : BranchId) (o : Option Session) → numbered ss n ≡ o → (unwrap_or o fresh_session).root ≡ Some b → n ≤ 64
  session_low n b None is has = absurd cc
  session_low n b (Some s) is has = omega (arith, (range_of ss n s is).1, now.many)

-- ---- nodes

-- a branch below a root has an id above those of sessions
abbrev IsAbove : Live → Type 0
IsAbove l = l.parent ≢ None → 65 ≤ l.me.session

-- Sessions and live branches fit.
pub record SessionsFit (k : NodeState) : Type 0 where
  pub roots : RootsFit k.sessions
  pub above : AllByRecursion IsAbove k.lives

-- so a session's live transaction has no parent
no_parent : (l : Live) (o : Option BranchId) → l.parent ≡ o → IsAbove l → l.me.session ≤ 64 → o ≡ None
no_parent l None is above low = refl
no_parent l (Some b) is above low = let high : 65 ≤ l.me.session = above (λ none. absurd (cc (is, none))) in absurd (omega (arith, high, low))

pub root_alone : (k : NodeState) → SessionsFit k → (n : ℕ) (b : BranchId) → (session_at k.sessions n).root ≡ Some b → (l : Live) → live_at k b ≡ Some l → l.parent ≡ None
root_alone k now n b has l found =
    let me : l.me ≡ b = item_is live_id k.lives b l found in
    let at : b.session ≡ n = now.roots.each n b has in
    let low : n ≤ 64 = session_low k.sessions now.roots n b (numbered k.sessions n) refl has in
    no_parent l l.parent refl (all_found IsAbove live_id k.lives b l now.above found) (omega (arith, low, at, ap (λ c. c.session) me))

module _ (k : NodeState) (now : SessionsFit k) where
  live_above : (b : BranchId) (l : Live) → live_at k b ≡ Some l → IsAbove l
  live_above b l found = all_found IsAbove live_id k.lives b l now.above found

  branch_above : (x : Branch) → branch_at k x.live.me ≡ Some x → IsAbove x.live
  branch_above x found = live_above x.live.me x.live (live_so k x.live.me x found)

  asked_above : {input : Input} {x : Branch} {s : Stmt} {given : ℕ} → Asked k input x s given → IsAbove x.live
  asked_above (steps.By_call n x s call rows has code live may) = branch_above x live
  asked_above (steps.By_exec x from call given advice s came live runs) = branch_above x live

  calling_above : {input : Input} {x : Branch} {step from : ℕ} → Calls_back k input x step from → IsAbove x.live
  calling_above calls = calling_back_so IsAbove (λ before x step is. is) (λ x weight count a i e answered is. is) live_above calls

  acting_above : {input : Input} {l : Live} {site_below : Bool} {a : Act} → Acting k input l site_below a → IsAbove l
  acting_above why = acting_so IsAbove (λ l comment site_below is. is) (λ l from v is. is) live_above why

  changed : (l : Live) → IsAbove l → AllByRecursion IsAbove (put_item live_id k.lives l)
  changed l is = all_with IsAbove live_id k.lives l now.above is

  gone : (b : BranchId) → AllByRecursion IsAbove (drop_item live_id k.lives b)
  gone b = all_without IsAbove live_id k.lives b now.above

  -- a session's call is pending
  pub pends_so : (n : ℕ) (c : PendingCall) → SessionsFit (record k { sessions = with_call k.sessions n c })
  pends_so n c = record { roots = call_fits k.sessions now.roots n c; above = now.above }

  -- a root begins
  pub begun_so : (p : Place) (n : ℕ) (read_at : Option ℕ) → SessionsFit (begun_by p k n read_at None)
  begun_so p n read_at = record {
    roots = set_fits k.sessions now.roots n (record (session_at k.sessions n) { seq = (new_root p k n).seq; root = Some (new_root p k n); calls = 0 })
        (λ b is. (let it : Some (new_root p k n) ≡ Some b = is in let here : new_root p k n ≡ b = cc in sym (ap (λ c. c.session) here)));
    above = all_last IsAbove live_id k.lives _ now.above (λ some. absurd (some refl));
  }

  -- a call is counted
  pub counted_so : (n : ℕ) → SessionsFit (counted k n)
  counted_so n = record { roots = counted_fits k.sessions now.roots n (session_at k.sessions n).root; above = now.above }

-- so it is where a branch goes back
pub back_so : (k : NodeState) → SessionsFit k → (x : Branch) (step : ℕ) → SessionsFit (node_back k x step)
back_so k now x step = record { roots = now.roots; above = now.above }

-- each step keeps it
pub sessions_on : (p : Place) (input : Input) {k : NodeState} {d : TurnDraft} → Step p input k d → SessionsFit k → SessionsFit d.after
sessions_on p input (steps.Begins {k = k} n s read_at call begins fit none step) now = sessions_on p input step (begun_so k now p n read_at)
sessions_on p input (steps.Counts_call {k = k} n s call counts step) now = sessions_on p input step (counted_so k now n)
sessions_on p input (steps.Goes_back {k = k} x step goes next) now = sessions_on p input next (back_so k now x step)
sessions_on p input (steps.Pends {k = k} n l given call has live code writer step) now = sessions_on p input step (pends_so k now n pending.Commit)
sessions_on p input (steps.Lets_reads_go l comment site_below live begins step) now = sessions_on p input step (record { roots = now.roots; above = now.above })
sessions_on p input (steps.Counts_ack s from kept came counts step) now = sessions_on p input step (record { roots = now.roots; above = now.above })
sessions_on p input (steps.Runs {k = k} x s given t asked way) now =
    let l : Live = after_run x.live (ran p k x.live.me s t) in record { roots = answered_fits k.sessions now.roots l x.live.parent; above = changed k now l (asked_above k now asked) }
sessions_on p input (steps.Goes_nowhere {k = k} x s given r asked way) now = record { roots = answered_fits k.sessions now.roots x.live x.live.parent; above = changed k now x.live (asked_above k now asked) }
sessions_on p input (steps.Calls {k = k} x s given i table asked way) now = record { roots = pends_fits k.sessions now.roots x.live; above = changed k now x.live (asked_above k now asked) }
sessions_on p input (steps.Opens {k = k} x s given node link table asked way) now = record { roots = pends_fits k.sessions now.roots x.live; above = changed k now x.live (asked_above k now asked) }
sessions_on p input (steps.Goes_on {k = k} x from strength g link opened) now =
    let l : Live = (with_edge x (new_edge from link strength)).live in record { roots = pends_fits k.sessions now.roots l; above = changed k now l (branch_above k now x opened.live) }
sessions_on p input (steps.Hears_reply {k = k} x weight count a i e answered) now =
    let l : Live = (hears_reply x i weight count e).live in
    record { roots = answered_fits (heard_sessions k.sessions l a) (heard_fits k.sessions now.roots l a) l x.live.parent; above = changed k now l (branch_above k now x answered.live) }
sessions_on p input (steps.Backs {k = k} x step from i calls next) now = record { roots = pends_fits k.sessions now.roots x.live; above = changed k now x.live (calling_above k now calls) }
sessions_on p input (steps.Is_back {k = k} x step from calls none) now =
    record { roots = answered_fits k.sessions now.roots x.live x.live.parent; above = changed k now x.live (calling_above k now calls) }
sessions_on p input (steps.Opens_branch {k = k} to parent edge root depth read_at came new) now = record { roots = now.roots; above = all_last IsAbove live_id k.lives _ now.above (λ some. omega arith) }
sessions_on p input (steps.Acts {k = k} l site_below acts.Rest why) now = record { roots = now.roots; above = changed k now l (acting_above k now why) }
sessions_on p input (steps.Acts {k = k} l site_below acts.AskDown why) now = record { roots = now.roots; above = changed k now l (acting_above k now why) }
sessions_on p input (steps.Acts {k = k} l site_below acts.SayReady why) now = record { roots = now.roots; above = changed k now (ready l) (acting_above k now why) }
sessions_on p input (steps.Acts {k = k} l site_below acts.SayReadOnly why) now = record { roots = now.roots; above = gone k now l.me }
sessions_on p input (steps.Acts {k = k} l site_below acts.Seal why) now = record { roots = now.roots; above = gone k now l.me }
sessions_on p input (steps.Acts {k = k} l site_below (acts.SealAndPass i) why) now = record { roots = now.roots; above = gone k now l.me }
sessions_on p input (steps.Acts {k = k} l site_below acts.Decide why) now = record { roots = ended_if_fits k.sessions now.roots (is_alone l) l.me; above = gone k now l.me }
sessions_on p input (steps.Acts {k = k} l site_below acts.Finish why) now = record { roots = ended_fits k.sessions now.roots l.me; above = gone k now l.me }
sessions_on p input (steps.Acts {k = k} l site_below acts.Abandon why) now = record { roots = abandoned_fits k.sessions now.roots l l.parent; above = gone k now l.me }
sessions_on p input (steps.Drops_told {k = k} l live drops) now = record { roots = now.roots; above = gone k now l.me }
sessions_on p input (steps.Drops_asked {k = k} l from live came parent) now = record { roots = now.roots; above = gone k now l.me }
sessions_on p input (steps.Does s from nexts.Rest kept why) now = now
sessions_on p input (steps.Does s from nexts.AckToward kept why) now = now
sessions_on p input (steps.Does s from nexts.SayForgotten kept why) now = now
sessions_on p input (steps.Does s from nexts.SayAck kept why) now = now
sessions_on p input (steps.Does {k = k} s from (nexts.End d) kept why) now = record { roots = decided_fits k.sessions now.roots s.me d; above = now.above }
sessions_on p input (steps.Does {k = k} s from (nexts.Meet d mixed) kept why) now = record { roots = decided_fits k.sessions now.roots s.me d; above = now.above }
sessions_on p input (steps.Does {k = k} s from nexts.Forget kept why) now = record { roots = ended_fits k.sessions now.roots s.me; above = now.above }
sessions_on p input (steps.Makes_record n s r d call makes) now = record { roots = now.roots; above = now.above }
sessions_on p input (steps.Forces_given {k = k} n id m b call named) now = record { roots = ended_fits k.sessions now.roots b; above = now.above }
sessions_on p input (steps.Forces_commit {k = k} n id b call named) now = record { roots = ended_fits k.sessions now.roots b; above = now.above }
sessions_on p input (steps.Forces_rollback {k = k} n id b call named) now = record { roots = ended_fits k.sessions now.roots b; above = now.above }
sessions_on p input (steps.Hides n mixed id s call found) now = record { roots = now.roots; above = now.above }
sessions_on p input (steps.Advises {k = k} n a call) now =
    record { roots = set_fits k.sessions now.roots n (record (session_at k.sessions n) { advice = a }) (now.roots.each n); above = now.above }
sessions_on p input (steps.Leaves {k = k} n s d x call ends has live) now = record { roots = done_fits k.sessions now.roots n; above = gone k now x.live.me }
sessions_on p input (steps.Sets_read_only n call) now = now
sessions_on p input (steps.Sets_savepoint {k = k} n x name call has code live) now = record { roots = now.roots; above = changed k now x.live (branch_above k now x live) }
sessions_on p input (steps.Images is) now = record { roots = now.roots; above = now.above }
sessions_on p input (steps.Gives_up {k = k} n x gives has calls live) now =
    record { roots = needs_fits (with_call k.sessions n pending.NoCall) (call_fits k.sessions now.roots n pending.NoCall) n _; above = changed k now x.live (branch_above k now x live) }
sessions_on p input (steps.Gives_up_commit {k = k} n b (Some l) gives has calls live) now = record { roots = ended_fits k.sessions now.roots l.me; above = gone k now l.me }
sessions_on p input (steps.Gives_up_commit {k = k} n b None gives has calls live) now = record { roots = ended_fits k.sessions now.roots b; above = now.above }
sessions_on p input (steps.Rests) now = now
sessions_on p input (steps.Sends says why) now = now
sessions_on p input (steps.Refuses n s r is) now = now
sessions_on p input (steps.Completes_at_once n s d call completes none) now = now

-- a node that starts has fresh sessions
fresh_slice : (m i : ℕ) → (unwrap_or (slice_get (replicate m fresh_session) i) fresh_session).root ≡ None
fresh_slice zero i = refl
fresh_slice (suc m) zero = refl
fresh_slice (suc m) (suc i) = fresh_slice m i

fresh_none : (n : ℕ) → (session_at (replicate 64 fresh_session) n).root ≡ None
fresh_none zero = refl
fresh_none (suc i) = fresh_slice 64 i

pub started_fits : (s : Stored) (vs : Versions) → SessionsFit (kept_by s vs)
started_fits s vs = record { roots = record { many = refl; each = λ n b is. absurd (cc (is, fresh_none n)) }; above = tt }

pub sessions_keep : KeepsAlone SessionsFit
sessions_keep = record {
  starts = started_fits;
  hears = λ k scn now. record { roots = now.roots; above = now.above };
  steps = λ p input k d step now. sessions_on p input step now;
}

pub roots_are_of_sessions : RootsAreOfSessions
roots_are_of_sessions t lawful n k up m b has =
    let fits : SessionsFit k = kept_alone SessionsFit sessions_keep t lawful n k up in (fits.roots.each m b has, root_alone k fits m b has)
