-- The numbers of sessions' transactions: a step of a node gives a session the next number where a transaction begins, and changes no other. A
-- branch below a root has an id above those of sessions.
use Rattle.std.proofs.Common.{◌≡◌, ◌≢◌, ℕ, ◌+◌, ◌≤◌, ◌⊎◌, Bool, true, false, if◌then◌else◌, List, [], ◌∷◌, ◌++◌, Option, Some, None, inl, inr, refl, sym, ap, subst, ◌∙◌, arith, find}
use Rattle.std.specs.List.{AllByRecursion}
use Rattle.commit_forget.specs.declared.next.Next.TheVariants as nexts
use Rattle.node_rules.specs.Data.{Stmt, BranchId, Kind, Live, Opening, Place, Input}
use Rattle.node_rules.specs.Data.acts
use Rattle.node_rules.specs.Data.inputs
use Rattle.node_rules.specs.Data.kinds
use Rattle.node_rules.specs.Data.stmts
use Rattle.node_rules.specs.declared.session.PendingCall.TheVariants as pending
use Rattle.node_rules.specs.declared.session.Session.{Session}
use Rattle.node_rules.specs.Words.{set_numbered}
use Rattle.node_rules.specs.Inputs.{IsCall, IsSession}
use Rattle.session_tree.specs.Live.{new_edge}
use Rattle.node_rules.specs.NodeState.{NodeState, TurnDraft}
use Rattle.node_rules.specs.Sessions.{session_at, with_call, no_transaction}
use Rattle.node_rules.specs.Statement.{ran, after_run}
use Rattle.node_rules.specs.Calls.{with_edge, hears_reply, heard_sessions, is_opening}
use Rattle.node_rules.specs.Prepare.{is_alone}
use Rattle.node_rules.specs.Client.{new_root, counted}
use Rattle.node_rules.proofs.Steps as steps
use Rattle.node_rules.proofs.Steps.{Step}
use Rattle.node_rules.proofs.StandLemmas.{session_set}
use Rattle.node_rules.proofs.SessionLemmas.{seqs, set_seqs, still_seqs, call_seqs, needs_seqs, ended_seqs, pends_seqs, answered_seqs, heard_seqs, decided_seqs, abandoned_seqs, ended_if_seqs, counted_seqs}
use Rattle.run_rules.specs.Births.{Born, roots_by, births_by_call, births_by_open, births_by_kind, births_by, births_at, births_after, births_from, births_of, read_at_by}
use Rattle.run_rules.specs.Data.{Happening, Command}
use Rattle.run_rules.specs.Data.happenings
use Rattle.run_rules.specs.Facts.{Facts, first_facts, place_at, node_at, facts_after}
use Rattle.run_rules.specs.Lawful.{History}
use Rattle.run_rules.specs.Runs.{begins_transaction}
use Rattle.run_rules.proofs.AtNodeLemmas.{item_there}
use Rattle.run_rules.proofs.ListLemmas.{all_append}
use Rattle.run_base_laws.proofs.RootLemmas.{SessionsFit, pends_so, begun_so, counted_session, counted_so, back_so}
use Rattle.run_base_laws.proofs.BeginLemmas.{MayBegin, may_begin}

-- a transaction begins in a session
pub record BeginsAt (input : Input) (ss ts : List Session) : Type 0 where
  pub session : ℕ
  pub statement : Stmt
  pub call : IsCall input session statement
  pub begins : MayBegin statement
  pub none : (session_at ss session).root ≡ None
  pub next : seqs ts ≡ set_numbered (seqs ss) session ((session_at ss session).seq + 1)

module _ (p : Place) (input : Input) where
  -- a session that has begun one begins no other
  begun_once : (k : NodeState) → SessionsFit k → (n : ℕ) (s : Stmt) → IsCall input n s → IsSession n → (ts : List Session) → BeginsAt input (set_numbered k.sessions n (record (session_at k.sessions n) { seq = (new_root p k n).seq; root = Some (new_root p k n); calls = 0 })) ts → ⊥
  begun_once k fit n s call range ts more =
      let x : Session = record (session_at k.sessions n) { seq = (new_root p k n).seq; root = Some (new_root p k n); calls = 0 } in
      let here = item_there k.sessions n range.0 (omega (arith, range.1, fit.roots.many)) in
      let set : session_at (set_numbered k.sessions n x) n ≡ x = session_set k.sessions n here.0 x here.1 in
      let it : inputs.Call n (Some s) ≡ inputs.Call more.session (Some more.statement) = sym call ∙ more.call in
      let same : n ≡ more.session = cc in
      let none : (session_at (set_numbered k.sessions n x) n).root ≡ None = subst (λ m. (session_at (set_numbered k.sessions n x) m).root ≡ None) (sym same) more.none in
      let some : (session_at (set_numbered k.sessions n x) n).root ≡ Some (new_root p k n) = ap (λ (y : Session). y.root) set in
      absurd (cc (none, some))

  -- COMMIT begins none
  commit_begins : (n : ℕ) (given : Option (List ℕ)) → IsCall input n (stmts.Commit given) → (m : ℕ) (s : Stmt) → IsCall input m s → MayBegin s → ⊥
  commit_begins n given call m s other begins =
      let it : inputs.Call n (Some (stmts.Commit given)) ≡ inputs.Call m (Some s) = sym call ∙ other in
      let here : s ≡ stmts.Commit given = cc in
      absurd (subst MayBegin here begins)

  -- a session that begins one once a call is counted begins one
  counted_begins : (k : NodeState) (n : ℕ) (ts : List Session) → BeginsAt input (counted k n).sessions ts → BeginsAt input k.sessions ts
  counted_begins k n ts more =
      let at = counted_session k.sessions n more.session (session_at k.sessions n).root in
      record {
        session = more.session;
        statement = more.statement;
        call = more.call;
        begins = more.begins;
        none = sym (ap (λ (x : Session). x.root) at.1) ∙ more.none;
        next = more.next ∙ (ap (λ ms. set_numbered ms more.session ((session_at (counted k n).sessions more.session).seq + 1)) (counted_seqs k.sessions n (session_at k.sessions n).root)
            ∙ ap (λ (x : Session). set_numbered (seqs k.sessions) more.session (x.seq + 1)) at.1);
      }

  pub seqs_on : {k : NodeState} {d : TurnDraft} → Step p input k d → SessionsFit k → (seqs d.after.sessions ≡ seqs k.sessions) ⊎ BeginsAt input k.sessions d.after.sessions
  seqs_on {d = d} (steps.Begins {k = k} n s read_at call begins range none step) fit = elim (seqs_on step (begun_so k fit p n read_at)) [
    | inl same ↦ inr (record {
      session = n;
      statement = s;
      call = call;
      begins = may_begin begins;
      none = none;
      next = same ∙ set_seqs k.sessions n (record (session_at k.sessions n) { seq = (new_root p k n).seq; root = Some (new_root p k n); calls = 0 });
    })
    | inr more ↦ absurd (begun_once k fit n s call range d.after.sessions more)
  ]
  seqs_on {d = d} (steps.Counts_call {k = k} n s call counts step) fit = elim (seqs_on step (counted_so k fit n)) [
    | inl same ↦ inl (same ∙ counted_seqs k.sessions n (session_at k.sessions n).root)
    | inr more ↦ inr (counted_begins k n d.after.sessions more)
  ]
  seqs_on (steps.Goes_back {k = k} x step goes next) fit = elim (seqs_on next (back_so k fit x step)) [
    | inl same ↦ inl same
    | inr more ↦ inr (record { session = more.session; statement = more.statement; call = more.call; begins = more.begins; none = more.none; next = more.next })
  ]
  seqs_on {d = d} (steps.Pends {k = k} n l given call has found code writer step) fit = elim (seqs_on step (pends_so k fit n pending.Commit)) [
    | inl same ↦ inl (same ∙ call_seqs k.sessions n pending.Commit)
    | inr more ↦ absurd (commit_begins n given call more.session more.statement more.call more.begins)
  ]
  seqs_on (steps.Lets_reads_go l comment q found begins step) fit = seqs_on step (record { roots = fit.roots; above = fit.above })
  seqs_on (steps.Counts_ack s from kept came counts step) fit = seqs_on step (record { roots = fit.roots; above = fit.above })
  seqs_on (steps.Runs {k = k} x s given t ask way) fit = inl (answered_seqs k.sessions (after_run x.live (ran p k x.live.me s t)) x.live.parent)
  seqs_on (steps.Goes_nowhere {k = k} x s given r ask way) fit = inl (answered_seqs k.sessions x.live x.live.parent)
  seqs_on (steps.Calls {k = k} x s given i table ask way) fit = inl (pends_seqs k.sessions x.live)
  seqs_on (steps.Opens {k = k} x s given node link table ask way) fit = inl (pends_seqs k.sessions x.live)
  seqs_on (steps.Goes_on {k = k} x from strength g link opened) fit = inl (pends_seqs k.sessions (with_edge x (new_edge from link strength)).live)
  seqs_on (steps.Hears_reply {k = k} x weight count a i e answered) fit =
      let l : Live = (hears_reply x i weight count e).live in inl (answered_seqs (heard_sessions k.sessions l a) l x.live.parent ∙ heard_seqs k.sessions l a)
  seqs_on (steps.Backs {k = k} x step from i calls next) fit = inl (pends_seqs k.sessions x.live)
  seqs_on (steps.Is_back {k = k} x step from calls none) fit = inl (answered_seqs k.sessions x.live x.live.parent)
  seqs_on (steps.Acts {k = k} l q acts.Decide why) fit = inl (ended_if_seqs k.sessions (is_alone l) l.me)
  seqs_on (steps.Acts {k = k} l q acts.Finish why) fit = inl (ended_seqs k.sessions l.me)
  seqs_on (steps.Acts {k = k} l q acts.Abandon why) fit = inl (abandoned_seqs k.sessions l l.parent)
  seqs_on (steps.Does {k = k} s from (nexts.End d) kept why) fit = inl (decided_seqs k.sessions s.me d)
  seqs_on (steps.Does {k = k} s from (nexts.Meet d mixed) kept why) fit = inl (decided_seqs k.sessions s.me d)
  seqs_on (steps.Does {k = k} s from nexts.Forget kept why) fit = inl (ended_seqs k.sessions s.me)
  seqs_on (steps.Forces_given {k = k} n id m b call named) fit = inl (ended_seqs k.sessions b)
  seqs_on (steps.Forces_commit {k = k} n id b call named) fit = inl (ended_seqs k.sessions b)
  seqs_on (steps.Forces_rollback {k = k} n id b call named) fit = inl (ended_seqs k.sessions b)
  seqs_on (steps.Advises {k = k} n a call) fit = inl (still_seqs k.sessions n (record (session_at k.sessions n) { advice = a }) refl)
  seqs_on (steps.Leaves {k = k} n s d x call ends has live) fit = inl (still_seqs k.sessions n (no_transaction (session_at k.sessions n)) refl)
  seqs_on (steps.Gives_up {k = k} n x gives has calls live) fit = inl (needs_seqs (with_call k.sessions n pending.NoCall) n _ ∙ call_seqs k.sessions n pending.NoCall)
  seqs_on (steps.Gives_up_commit {k = k} n b (Some l) gives has calls live) fit = inl (ended_seqs k.sessions l.me)
  seqs_on (steps.Gives_up_commit {k = k} n b None gives has calls gone) fit = inl (ended_seqs k.sessions b)
  seqs_on _ fit = inl refl

-- ---- ids below roots

-- a branch below another has an id above those of sessions
abbrev pub IsHigh : Born → Type 0
IsHigh x = x.parent ≢ None → 65 ≤ x.me.session

roots_high : (p : Place) (k : NodeState) (n : ℕ) (read_at : Option ℕ) (o : Option BranchId) → AllByRecursion IsHigh (roots_by p k n read_at o)
roots_high p k n read_at None = ((λ some. absurd (some refl)), tt)
roots_high p k n read_at (Some b) = tt

opens_high : (p : Place) (k : NodeState) (parent : BranchId) (edge : ℕ) (root : BranchId) (depth : ℕ) (read_at : Option ℕ) (o : Option Opening) → AllByRecursion IsHigh (births_by_open p k parent edge root depth read_at o)
opens_high p k parent edge root depth read_at None = ((λ some. omega arith), tt)
opens_high p k parent edge root depth read_at (Some o) = tt

kind_high : (p : Place) (k : NodeState) (from : BranchId) (kind : Kind) → AllByRecursion IsHigh (births_by_kind p k from kind)
kind_high p k from (kinds.Open edge root depth read_at) = opens_high p k from edge root depth read_at (find (is_opening from edge) k.opens)
kind_high p k from _ = tt

call_high : (p : Place) (k : NodeState) (n : ℕ) (s : Stmt) → AllByRecursion IsHigh (births_by_call p k n s)
call_high p k n s = by (begins_transaction s)
  where
    by : (q : Bool) → AllByRecursion IsHigh (if q then roots_by p k n (read_at_by k.clock s) (session_at k.sessions n).root else [])
    by true = roots_high p k n (read_at_by k.clock s) (session_at k.sessions n).root
    by false = tt

by_high : (p : Place) (k : NodeState) (input : Input) → AllByRecursion IsHigh (births_by p k input)
by_high p k (inputs.Call n (Some s)) = call_high p k n s
by_high p k (inputs.Message m) = kind_high p k m.from m.kind
by_high p k _ = tt

at_high : (p : Place) (input : Input) (o : Option NodeState) → AllByRecursion IsHigh (births_at p input o)
at_high p input None = tt
at_high p input (Some k) = by_high p k input

after_high : (places : List Place) (f : Facts) (h : Happening) (bs : List Born) → AllByRecursion IsHigh bs → AllByRecursion IsHigh (births_after places f h bs)
after_high places f (happenings.Turn u) bs all = by u.cut
  where
    by : (cut : Bool) → AllByRecursion IsHigh (if cut then bs else bs ++ births_at (place_at places u.node) u.input (node_at f u.node))
    by true = all
    by false = all_append IsHigh bs (births_at (place_at places u.node) u.input (node_at f u.node)) all (at_high (place_at places u.node) u.input (node_at f u.node))
after_high places f _ bs all = all

from_high : (places : List Place) (asked : List Command) (f : Facts) (hs : List Happening) (bs : List Born) → AllByRecursion IsHigh bs → AllByRecursion IsHigh (births_from places asked f hs bs)
unfolding births_from
from_high places asked f [] bs all = all
from_high places asked f (h ∷ hs) bs all = from_high places asked (facts_after places asked f h) hs (births_after places f h bs) (after_high places f h bs all)

pub births_high : (t : History) → AllByRecursion IsHigh (births_of t)
births_high t = from_high t.places t.commands (first_facts t.places) t.trace [] tt
