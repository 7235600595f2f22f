-- In the run of a script the transaction of a session whose COMMIT is pending is the one that it had when the COMMIT came.
use Rattle.std.proofs.Common.{◌≡◌, ℕ, ◌+◌, ◌<◌, List, slice_get, Option, Some, refl, sym, ap, subst, ◌∙◌, arith}
use Rattle.node_rules.specs.Data.{Input}
use Rattle.node_rules.specs.Data.inputs
use Rattle.node_rules.specs.Data.stmts
use Rattle.node_rules.specs.declared.session.PendingCall.TheVariants as pending
use Rattle.node_rules.specs.declared.session.Session.{Session}
use Rattle.node_rules.specs.NodeState.{NodeState}
use Rattle.node_rules.specs.Sessions.{session_at}
use Rattle.node_rules.specs.Turn.{turn_of}
use Rattle.node_rules.proofs.HeardLemmas.{sessions_heard}
use Rattle.run_rules.specs.Data.{Turn}
use Rattle.run_rules.specs.Data.happenings
use Rattle.run_rules.specs.Facts.{node_at, place_at}
use Rattle.run_rules.specs.Lawful.{History, MayTurn}
use Rattle.run_rules.specs.RunReport.{Call}
use Rattle.run_rules.specs.Scripts.{IsTheRunOf}
use Rattle.run_claims.specs.Places.{past_upto}
use Rattle.run_base_laws.proofs.LawfulLemmas.{serves}
use Rattle.tree_trail_laws.proofs.CallLemmas.{call_free}
use Rattle.answer_origin_laws.specs.CallTurns.{CameBefore}
use Rattle.answer_done_laws.proofs.CommitEndLemmas.{pends_at}
use Rattle.answer_done_laws.proofs.WhilePendingLemmas.{at_first as at_call, holds_while_pending}
use Rattle.commit_answer_laws.proofs.RootStepLemmas.{root_on, KeepsRoot, commit_root}

module _ (t : History) (run : IsTheRunOf t) (bound n s : ℕ) (c : Call) (came : CameBefore t bound n s c) (given : Option (List ℕ)) (own : c.statement ≡ Some (stmts.Commit given)) where
  -- what its node keeps when it comes
  abbrev pub at_first : (k : NodeState) × MayTurn t.places (past_upto t came.moment).facts came.turn.turn k
  at_first = at_call t run bound n s c came

  abbrev before : List Session
  before = at_first.0.sessions

  pub call_is : came.turn.turn.input ≡ inputs.Call s (Some (stmts.Commit given))
  call_is = came.turn.came ∙ ap (inputs.Call s) own

  free : (session_at before s).call ≡ pending.NoCall
  free = (call_free (past_upto t came.moment).facts at_first.0 came.turn.turn.node came.turn.turn.input came.turn.turn.took s (Some (stmts.Commit given)) call_is at_first.1.comes).1

  pends : (j : ℕ) → came.moment < j → j < bound → (k : NodeState) → node_at (past_upto t j).facts n ≡ Some k → (session_at k.sessions s).call ≡ pending.Commit
  pends j later below k up = pends_at t run bound n s c came given own j later below k up

  -- the transaction is the one that it was
  abbrev pub Rooted : ℕ → Type 0
  Rooted j = (k : NodeState) → node_at (past_upto t j).facts n ≡ Some k → KeepsRoot before k.sessions s

  -- after its own turn
  first_root : (after : List Session) → after ≡ (turn_of (place_at t.places came.turn.turn.node) at_first.0 came.turn.turn.input).after.sessions → (session_at after s).call ≡ pending.Commit → KeepsRoot before after s
  unfolding turn_of
  first_root after is commits =
      let k : NodeState = at_first.0 in
      let so : after ≡ (turn_of (place_at t.places came.turn.turn.node) k (inputs.Call s (Some (stmts.Commit given)))).after.sessions
      = is ∙ ap (λ (i : Input). (turn_of (place_at t.places came.turn.turn.node) k i).after.sessions) call_is in
      subst (λ ss. KeepsRoot before ss s) (sym so) (commit_root k s given free (subst (λ ss. (session_at ss s).call ≡ pending.Commit) so commits))

  -- after a later one
  later_root : (j : ℕ) → came.moment < j → j < bound → (u : Turn) → slice_get t.trace j ≡ Some (happenings.Turn u) → u.node ≡ n → (k : NodeState) → MayTurn t.places (past_upto t j).facts u k → KeepsRoot before k.sessions s
      → (after : List Session) → after ≡ (turn_of (place_at t.places u.node) k u.input).after.sessions → (session_at after s).call ≡ pending.Commit → KeepsRoot before after s
  unfolding turn_of
  later_root j later below u there here k may now after is commits =
      let same : (session_at after s).root ≡ (session_at k.sessions s).root
      = ap (λ ss. (session_at ss s).root) is
      ∙ (root_on (place_at t.places u.node) u.input s (λ st call. came.last j later below u there here st call) (serves t.places (past_upto t j).facts u k may).step (subst (λ ss. (session_at ss s).call ≡ pending.Commit) is commits)
      ∙ ap (λ ss. (session_at ss s).root) (sessions_heard k u.input)) in
      record { root = now.root; was = now.was; stays = same ∙ now.stays }

  -- so up to the turn that ends it
  pub root_at_end : (j : ℕ) → came.moment < j → j < bound → Rooted j
  root_at_end = holds_while_pending t run bound n s c came (λ k. KeepsRoot before k.sessions s)
      (λ below turn. first_root _ refl (pends (came.moment + 1) (omega arith) below _ turn.after))
      (λ j later below u k turn rooted. later_root j later (omega (arith, below)) u turn.there turn.here k turn.may rooted _ refl (pends (j + 1) (omega (arith, later)) below _ turn.after))

  -- and the COMMIT is pending there
  pub commits_at : (j : ℕ) → came.moment < j → j < bound → (k : NodeState) → node_at (past_upto t j).facts n ≡ Some k → (session_at k.sessions s).call ≡ pending.Commit
  commits_at j later below k up = pends j later below k up
