-- The number of a session's transaction rises in the step alone in which one begins, and so by one at most in one turn.
use Rattle.std.proofs.Common.{◌≡◌, ℕ, zero, suc, ◌+◌, ◌≤◌, List, [], ◌∷◌, slice_get, slice_set, unwrap_or, Option, Some, None, inl, inr, refl, sym, ap, subst, ◌∙◌, ◌⊎◌, arith}
use Rattle.std.specs.List.{AllByRecursion}
use Rattle.node_rules.specs.Data.{BranchId, Live, Stmt, Place, Input}
use Rattle.node_rules.specs.Data.inputs
use Rattle.node_rules.specs.declared.session.PendingCall.TheVariants as pending
use Rattle.node_rules.specs.declared.session.Session.{Session}
use Rattle.node_rules.specs.Data.acts
use Rattle.commit_forget.specs.declared.next.Next.TheVariants as nexts
use Rattle.node_rules.specs.Words.{numbered, set_numbered}
use Rattle.node_rules.specs.Refusals.{dtx}
use Rattle.node_rules.specs.Sessions.{session_at, with_call, no_transaction, with_call_of, fresh_session}
use Rattle.node_rules.specs.NodeState.{NodeState, TurnDraft, Branch}
use Rattle.node_rules.specs.Calls.{with_edge, hears_reply, heard_sessions}
use Rattle.session_tree.specs.Live.{new_edge}
use Rattle.node_rules.specs.Prepare.{is_alone}
use Rattle.node_rules.specs.Client.{new_root, begun_by, counted}
use Rattle.node_rules.specs.Inputs.{IsCall}
use Rattle.node_rules.specs.Turn.{turn_of}
use Rattle.node_rules.proofs.Steps as steps
use Rattle.node_rules.proofs.Steps.{Step, HasRoot}
use Rattle.node_rules.proofs.StandLemmas.{call_set, session_set}
use Rattle.node_rules.proofs.SessionLemmas.{seqs, seq_at, session_seq, set_seqs, call_seqs, needs_seqs, ended_seqs, pends_seqs, answered_seqs, heard_seqs, decided_seqs, abandoned_seqs, ended_if_seqs, still_seqs, counted_seqs}
use Rattle.node_rules.proofs.TurnLemmas.{step_of}
use Rattle.node_rules.proofs.HeardLemmas.{sessions_heard}
use Rattle.node_ready_laws.specs.Numbers.{SeqsRiseByOne}
use Rattle.node_ready_laws.proofs.ListLemmas.{all_weaker}
use Rattle.tran_ids.proofs.NumberedLemmas.{set_or_before}

-- numbers that are no greater than this
abbrev Low : ℕ → List ℕ → Type 0
Low n ms = AllByRecursion (λ m. m ≤ n) ms

higher : (n : ℕ) (ms : List ℕ) → Low n ms → Low (n + 1) ms
higher n ms all = all_weaker (λ m. m ≤ n) (λ m. m ≤ n + 1) (λ m low. omega (arith, low)) ms all

at_low : (n : ℕ) (ms : List ℕ) (i : ℕ) → Low n ms → unwrap_or (slice_get ms i) 0 ≤ n
at_low n [] i all = omega arith
at_low n (m ∷ ms) zero all = all.0
at_low n (m ∷ ms) (suc i) all = at_low n ms i all.1

seq_low : (n : ℕ) (ms : List ℕ) (i : ℕ) → Low n ms → seq_at ms i ≤ n
seq_low n ms zero all = omega arith
seq_low n ms (suc i) all = at_low n ms i all

put_low : (n : ℕ) (ms : List ℕ) (i m : ℕ) → Low n ms → m ≤ n → Low n (slice_set ms i m)
put_low n [] i m all low = tt
put_low n (x ∷ ms) zero m all low = (low, all.1)
put_low n (x ∷ ms) (suc i) m all low = (all.0, put_low n ms i m all.1 low)

set_low : (n : ℕ) (ms : List ℕ) (i m : ℕ) → Low n ms → m ≤ n → Low n (set_numbered ms i m)
set_low n ms zero m all low = all
set_low n ms (suc i) m all low = put_low n ms i m all low

-- a session that is not there is not set
slice_still : {A : Type 0} (xs : List A) (i : ℕ) (y : A) → slice_get xs i ≡ None → slice_set xs i y ≡ xs
slice_still [] i y none = refl
slice_still (x ∷ xs) zero y none = absurd cc
slice_still (x ∷ xs) (suc i) y none = ap (λ zs. x ∷ zs) (slice_still xs i y none)

set_still : {A : Type 0} (xs : List A) (n : ℕ) (y : A) → numbered xs n ≡ None → set_numbered xs n y ≡ xs
set_still xs zero y none = refl
set_still xs (suc i) y none = slice_still xs i y none

-- each session of a call has a transaction
abbrev Has_begun : Input → NodeState → Type 0
Has_begun input k = (n : ℕ) (s : Stmt) → IsCall input n s → (b : BranchId) × HasRoot k n b

-- the numbers before a transaction begins in the turn, and after
abbrev Lows : Input → ℕ → NodeState → Type 0
Lows input n k = Low n (seqs k.sessions) ⊎ (Low (n + 1) (seqs k.sessions) × Has_begun input k)

after : (input : Input) (n : ℕ) (k : NodeState) → Lows input n k → Low (n + 1) (seqs k.sessions)
after input n k (inl low) = higher n (seqs k.sessions) low
after input n k (inr low) = low.0

-- one session of a call
same_session : {input : Input} {n m : ℕ} {s t : Stmt} → IsCall input n s → IsCall input m t → n ≡ m
same_session {n = n} {m = m} {s = s} {t = t} one other = let is : inputs.Call n (Some s) ≡ inputs.Call m (Some t) = sym one ∙ other in cc

-- a transaction begins
begins : (p : Place) (input : Input) (n m : ℕ) (s : Stmt) (read_at : Option ℕ) (k : NodeState) (o : Option Session) → IsCall input m s → numbered k.sessions m ≡ o → Low n (seqs k.sessions) → Lows input n (begun_by p k m read_at None)
begins p input n m s read_at k (Some there) call is low = inr (
  subst (Low (n + 1)) (sym (set_seqs k.sessions m _))
      (set_low (n + 1) (seqs k.sessions) m _ (higher n (seqs k.sessions) low) (let was = session_seq k.sessions m in let old = seq_low n (seqs k.sessions) m low in omega (arith, was, old))),
  (λ i t other.
      let here : m ≡ i = same_session call other in
      (new_root p k m, subst (λ j. HasRoot (begun_by p k m read_at None) j (new_root p k m)) here (ap (λ (x : Session). x.root) (session_set k.sessions m there _ is)))),
)
begins p input n m s read_at k None call is low = inl (subst (λ ss. Low n (seqs ss)) (sym (set_still k.sessions m _ is)) low)

-- a call is counted
counted_root : (ss : List Session) (n m : ℕ) (o : Option BranchId) → (session_at (with_call_of ss n o) m).root ≡ (session_at ss m).root
counted_root ss n m None = refl
counted_root ss n m (Some root) =
    let s : Session = record (session_at ss n) { calls = (session_at ss n).calls + 1 } in
    elim (set_or_before ss n m s) [
      | inl still ↦ ap (λ o. (unwrap_or o fresh_session).root) still
      | inr new ↦ ap (λ o. (unwrap_or o fresh_session).root) new.1 ∙ ap (λ i. (session_at ss i).root) new.0
    ]

counts : (input : Input) (n m : ℕ) (k : NodeState) → Lows input n k → Lows input n (counted k m)
counts input n m k (inl low) = inl (subst (Low n) (sym (counted_seqs k.sessions m (session_at k.sessions m).root)) low)
counts input n m k (inr low) = inr (
  subst (Low (n + 1)) (sym (counted_seqs k.sessions m (session_at k.sessions m).root)) low.0,
  (λ i t call. (let has = low.1 i t call in (has.0, counted_root k.sessions m i (session_at k.sessions m).root ∙ has.1))),
)

-- a COMMIT is pending from now on
pends : (input : Input) (n m : ℕ) (l : Live) (s : Stmt) (k : NodeState) → IsCall input m s → HasRoot k m l.me → Lows input n k → Lows input n (record k { sessions = with_call k.sessions m pending.Commit })
pends input n m l s k call has (inl low) = inl (subst (Low n) (sym (call_seqs k.sessions m pending.Commit)) low)
pends input n m l s k call has (inr low) = inr (
  subst (Low (n + 1)) (sym (call_seqs k.sessions m pending.Commit)) low.0,
  (λ i t other.
      let here : m ≡ i = same_session call other in
      (l.me, subst (λ j. HasRoot (record k { sessions = with_call k.sessions m pending.Commit }) j l.me) here (ap (λ (x : Session). x.root) (call_set k.sessions m l.me pending.Commit has) ∙ has))),
)

seqs_on : (p : Place) (input : Input) (n : ℕ) {k : NodeState} {d : TurnDraft} → Step p input k d → Lows input n k → Low (n + 1) (seqs d.after.sessions)
seqs_on p input n (steps.Begins {k = k} m s read_at call by fit none step) (inl low) = seqs_on p input n step (begins p input n m s read_at k (numbered k.sessions m) call refl low)
seqs_on p input n (steps.Begins {k = k} m s read_at call begins fit none step) (inr low) = let has = low.1 m s call in let clash : None ≡ Some has.0 = sym none ∙ has.1 in absurd cc
seqs_on p input n (steps.Counts_call {k = k} m s call is step) now = seqs_on p input n step (counts input n m k now)
seqs_on p input n (steps.Goes_back x step goes next) (inl low) = seqs_on p input n next (inl low)
seqs_on p input n (steps.Goes_back x step goes next) (inr low) = seqs_on p input n next (inr (low.0, low.1))
seqs_on p input n (steps.Pends {k = k} m l given call has live code writer step) now = seqs_on p input n step (pends input n m l _ k call has now)
seqs_on p input n (steps.Lets_reads_go l comment site_below live begins step) now = seqs_on p input n step now
seqs_on p input n (steps.Counts_ack s from kept came counts step) now = seqs_on p input n step now
seqs_on p input n (steps.Runs {k = k} x s given t asked way) now = subst (Low (n + 1)) (sym (answered_seqs k.sessions x.live x.live.parent)) (after input n k now)
seqs_on p input n (steps.Goes_nowhere {k = k} x s given r asked way) now = subst (Low (n + 1)) (sym (answered_seqs k.sessions x.live x.live.parent)) (after input n k now)
seqs_on p input n (steps.Calls {k = k} x s given i table asked way) now = subst (Low (n + 1)) (sym (pends_seqs k.sessions x.live)) (after input n k now)
seqs_on p input n (steps.Opens {k = k} x s given node link table asked way) now = subst (Low (n + 1)) (sym (pends_seqs k.sessions x.live)) (after input n k now)
seqs_on p input n (steps.Goes_on {k = k} x from strength g link opened) now = subst (Low (n + 1)) (sym (pends_seqs k.sessions (with_edge x (new_edge from link strength)).live)) (after input n k now)
seqs_on p input n (steps.Hears_reply {k = k} x weight count a i e answered) now =
    let y : Branch = hears_reply x i weight count e in
    subst (Low (n + 1)) (sym (answered_seqs (heard_sessions k.sessions y.live a) y.live x.live.parent ∙ heard_seqs k.sessions y.live a)) (after input n k now)
seqs_on p input n (steps.Backs {k = k} x step from i calls next) now = subst (Low (n + 1)) (sym (pends_seqs k.sessions x.live)) (after input n k now)
seqs_on p input n (steps.Is_back {k = k} x step from calls none) now = subst (Low (n + 1)) (sym (answered_seqs k.sessions x.live x.live.parent)) (after input n k now)
seqs_on p input n (steps.Acts {k = k} l site_below acts.Rest why) now = after input n k now
seqs_on p input n (steps.Acts {k = k} l site_below acts.AskDown why) now = after input n k now
seqs_on p input n (steps.Acts {k = k} l site_below acts.SayReady why) now = after input n k now
seqs_on p input n (steps.Acts {k = k} l site_below acts.SayReadOnly why) now = after input n k now
seqs_on p input n (steps.Acts {k = k} l site_below acts.Seal why) now = after input n k now
seqs_on p input n (steps.Acts {k = k} l site_below (acts.SealAndPass i) why) now = after input n k now
seqs_on p input n (steps.Acts {k = k} l site_below acts.Decide why) now = subst (Low (n + 1)) (sym (ended_if_seqs k.sessions (is_alone l) l.me)) (after input n k now)
seqs_on p input n (steps.Acts {k = k} l site_below acts.Finish why) now = subst (Low (n + 1)) (sym (ended_seqs k.sessions l.me)) (after input n k now)
seqs_on p input n (steps.Acts {k = k} l site_below acts.Abandon why) now = subst (Low (n + 1)) (sym (abandoned_seqs k.sessions l l.parent)) (after input n k now)
seqs_on p input n (steps.Does {k = k} s from nexts.Rest kept why) now = after input n k now
seqs_on p input n (steps.Does {k = k} s from nexts.AckToward kept why) now = after input n k now
seqs_on p input n (steps.Does {k = k} s from nexts.SayForgotten kept why) now = after input n k now
seqs_on p input n (steps.Does {k = k} s from nexts.SayAck kept why) now = after input n k now
seqs_on p input n (steps.Does {k = k} s from (nexts.End d) kept why) now = subst (Low (n + 1)) (sym (decided_seqs k.sessions s.me d)) (after input n k now)
seqs_on p input n (steps.Does {k = k} s from (nexts.Meet d mixed) kept why) now = subst (Low (n + 1)) (sym (decided_seqs k.sessions s.me d)) (after input n k now)
seqs_on p input n (steps.Does {k = k} s from nexts.Forget kept why) now = subst (Low (n + 1)) (sym (ended_seqs k.sessions s.me)) (after input n k now)
seqs_on p input n (steps.Forces_given {k = k} m id scn b call named) now = subst (Low (n + 1)) (sym (ended_seqs k.sessions b)) (after input n k now)
seqs_on p input n (steps.Forces_commit {k = k} m id b call named) now = subst (Low (n + 1)) (sym (ended_seqs k.sessions b)) (after input n k now)
seqs_on p input n (steps.Forces_rollback {k = k} m id b call named) now = subst (Low (n + 1)) (sym (ended_seqs k.sessions b)) (after input n k now)
seqs_on p input n (steps.Advises {k = k} m a call) now = subst (Low (n + 1)) (sym (still_seqs k.sessions m (record (session_at k.sessions m) { advice = a }) refl)) (after input n k now)
seqs_on p input n (steps.Leaves {k = k} m s d x call ends has live) now = subst (Low (n + 1)) (sym (still_seqs k.sessions m (no_transaction (session_at k.sessions m)) refl)) (after input n k now)
seqs_on p input n (steps.Gives_up {k = k} m x gives has calls live) now = subst (Low (n + 1)) (sym (needs_seqs (with_call k.sessions m pending.NoCall) m (dtx 3 []).code ∙ call_seqs k.sessions m pending.NoCall)) (after input n k now)
seqs_on p input n (steps.Gives_up_commit {k = k} m b (Some l) gives has calls live) now = subst (Low (n + 1)) (sym (ended_seqs k.sessions l.me)) (after input n k now)
seqs_on p input n (steps.Gives_up_commit {k = k} m b None gives has calls live) now = subst (Low (n + 1)) (sym (ended_seqs k.sessions b)) (after input n k now)
seqs_on p input n {k = k} _ now = after input n k now

-- the numbers of sessions one by one
to_low : (n : ℕ) (ss : List Session) → AllByRecursion (λ s. s.seq ≤ n) ss → Low n (seqs ss)
to_low n [] all = tt
to_low n (s ∷ ss) all = (all.0, to_low n ss all.1)

from_low : (n : ℕ) (ss : List Session) → Low n (seqs ss) → AllByRecursion (λ s. s.seq ≤ n) ss
from_low n [] all = tt
from_low n (s ∷ ss) all = (all.0, from_low n ss all.1)

pub seqs_rise_by_one : SeqsRiseByOne
unfolding turn_of
seqs_rise_by_one p k input n fit all =
    from_low (n + 1) _ (seqs_on p input n (step_of p k input fit) (inl (subst (λ ss. Low n (seqs ss)) (sym (sessions_heard k input)) (to_low n k.sessions all))))
