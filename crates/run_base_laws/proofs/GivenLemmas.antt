-- An id that a node gave out stays given out in every step of the node.
use Rattle.std.proofs.Common.{◌≡◌, ℕ, ◌+◌, List, length, Some, None, refl, sym, subst, ◌∙◌, arith, Option}
use Rattle.std.proofs.lemmas.List.{length-append}
use Rattle.node_rules.specs.Data.{BranchId, Live, Place, Input}
use Rattle.node_rules.specs.Data.acts
use Rattle.commit_forget.specs.declared.next.Next.TheVariants as nexts
use Rattle.node_rules.specs.declared.session.PendingCall.TheVariants as pending
use Rattle.node_rules.specs.declared.session.Session.{Session}
use Rattle.node_rules.specs.Words.{set_numbered}
use Rattle.node_rules.specs.NodeState.{NodeState, TurnDraft}
use Rattle.node_rules.specs.Sessions.{session_at, no_transaction, with_call}
use Rattle.node_rules.specs.Statement.{ran, after_run}
use Rattle.session_tree.specs.Live.{new_edge}
use Rattle.node_rules.specs.Calls.{opens_branch, with_edge, hears_reply, heard_sessions}
use Rattle.node_rules.specs.Prepare.{is_alone}
use Rattle.node_rules.specs.Client.{new_root, begun_by, counted}
use Rattle.node_rules.proofs.Steps as steps
use Rattle.node_rules.proofs.Steps.{Step}
use Rattle.node_rules.proofs.SessionLemmas.{seqs, seq_at, session_seq, set_seqs, still_seqs, call_seqs, needs_seqs, ended_seqs, pends_seqs, answered_seqs, heard_seqs, decided_seqs, abandoned_seqs, ended_if_seqs, counted_seqs}
use Rattle.run_base_laws.proofs.IdLemmas.{seqs_rise, Given, given_still}

module _ (boot : ℕ) (b : BranchId) where
  -- it was given out
  abbrev pub GivenAt : NodeState → Type 0
  GivenAt k = Given boot (seqs k.sessions) (length k.opens) b

  -- with sessions of the same numbers
  still : (k : NodeState) (ss : List Session) → seqs ss ≡ seqs k.sessions → GivenAt k → Given boot (seqs ss) (length k.opens) b
  still k ss same given = subst (λ ms. Given boot ms (length k.opens) b) (sym same) given

  -- a transaction begins
  pub begun_given : (p : Place) (k : NodeState) (m : ℕ) (read_at : Option ℕ) → GivenAt k → GivenAt (begun_by p k m read_at None)
  begun_given p k m read_at given =
      let q : ℕ = (new_root p k m).seq in
      let was : (session_at k.sessions m).seq ≡ seq_at (seqs k.sessions) m = session_seq k.sessions m in
      subst (λ ms. Given boot ms (length k.opens) b) (sym (set_seqs k.sessions m _))
      (given_still (set_numbered (seqs k.sessions) m q) (length k.opens) (seqs_rise (seqs k.sessions) m q (omega (arith, was))) (omega arith) given)

  pub given_on : (p : Place) (input : Input) {k : NodeState} {d : TurnDraft} → Step p input k d → GivenAt k → GivenAt d.after
  given_on p input (steps.Begins {k = k} m s read_at call begins fit none step) given = given_on p input step (begun_given p k m read_at given)
  given_on p input (steps.Counts_call {k = k} m s call counts step) given = given_on p input step (still k (counted k m).sessions (counted_seqs k.sessions m (session_at k.sessions m).root) given)
  given_on p input (steps.Goes_back x step goes next) given = given_on p input next given
  given_on p input (steps.Pends {k = k} m l wanted call has live code writer step) given = given_on p input step (still k (with_call k.sessions m pending.Commit) (call_seqs k.sessions m pending.Commit) given)
  given_on p input (steps.Lets_reads_go l comment site_below live begins step) given = given_on p input step given
  given_on p input (steps.Counts_ack s from kept came counts step) given = given_on p input step given
  given_on p input (steps.Runs {k = k} x s room t asked way) given = still k _ (answered_seqs k.sessions (after_run x.live (ran p k x.live.me s t)) x.live.parent) given
  given_on p input (steps.Goes_nowhere {k = k} x s room r asked way) given = still k _ (answered_seqs k.sessions x.live x.live.parent) given
  given_on p input (steps.Calls {k = k} x s room i table asked way) given = still k _ (pends_seqs k.sessions x.live) given
  given_on p input (steps.Opens {k = k} x s room node link table asked way) given = still k _ (pends_seqs k.sessions x.live) given
  given_on p input (steps.Goes_on {k = k} x from strength g link opened) given = still k _ (pends_seqs k.sessions (with_edge x (new_edge from link strength)).live) given
  given_on p input (steps.Hears_reply {k = k} x weight count a i e answered) given =
      let l : Live = (hears_reply x i weight count e).live in still k _ (answered_seqs (heard_sessions k.sessions l a) l x.live.parent ∙ heard_seqs k.sessions l a) given
  given_on p input (steps.Backs {k = k} x step from i calls next) given = still k _ (pends_seqs k.sessions x.live) given
  given_on p input (steps.Is_back {k = k} x step from calls none) given = still k _ (answered_seqs k.sessions x.live x.live.parent) given
  given_on p input (steps.Opens_branch {k = k} to parent edge root depth read_at came new) given =
      let more : length (opens_branch p k parent edge root depth read_at).opens ≡ length k.opens + 1 = length-append k.opens _ in
      given_still (seqs k.sessions) (length (opens_branch p k parent edge root depth read_at).opens) (λ m. omega arith) (omega (arith, more)) given
  given_on p input (steps.Acts {k = k} l site_below acts.Decide why) given = still k _ (ended_if_seqs k.sessions (is_alone l) l.me) given
  given_on p input (steps.Acts {k = k} l site_below acts.Finish why) given = still k _ (ended_seqs k.sessions l.me) given
  given_on p input (steps.Acts {k = k} l site_below acts.Abandon why) given = still k _ (abandoned_seqs k.sessions l l.parent) given
  given_on p input (steps.Does {k = k} s from (nexts.End d) kept why) given = still k _ (decided_seqs k.sessions s.me d) given
  given_on p input (steps.Does {k = k} s from (nexts.Meet d mixed) kept why) given = still k _ (decided_seqs k.sessions s.me d) given
  given_on p input (steps.Does {k = k} s from nexts.Forget kept why) given = still k _ (ended_seqs k.sessions s.me) given
  given_on p input (steps.Forces_given {k = k} m id scn c call named) given = still k _ (ended_seqs k.sessions c) given
  given_on p input (steps.Forces_commit {k = k} m id c call named) given = still k _ (ended_seqs k.sessions c) given
  given_on p input (steps.Forces_rollback {k = k} m id c call named) given = still k _ (ended_seqs k.sessions c) given
  given_on p input (steps.Advises {k = k} m a call) given = still k _ (still_seqs k.sessions m (record (session_at k.sessions m) { advice = a }) refl) given
  given_on p input (steps.Leaves {k = k} m s d x call ends has live) given = still k _ (still_seqs k.sessions m (no_transaction (session_at k.sessions m)) refl) given
  given_on p input (steps.Gives_up {k = k} m x gives has calls live) given = still k _ (needs_seqs (with_call k.sessions m pending.NoCall) m _ ∙ call_seqs k.sessions m pending.NoCall) given
  given_on p input (steps.Gives_up_commit {k = k} m c (Some l) gives has calls live) given = still k _ (ended_seqs k.sessions l.me) given
  given_on p input (steps.Gives_up_commit {k = k} m c None gives has calls gone) given = still k _ (ended_seqs k.sessions c) given
  given_on p input _ given = given
