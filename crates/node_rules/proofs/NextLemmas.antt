-- Why a kept branch does so next, by what stands in its row and what came.
use Rattle.std.proofs.Common.{◌≡◌, ℕ, Option, Some, None, refl, subst, true}
use Rattle.std.proofs.lemmas.Bool.{and_parts, not-true, cond_both}
use Rattle.std.specs.Prelude.{is_none, ◌≢◌}
use Rattle.node_rules.specs.Data.{BranchId, Decision, State, KeptRow, Input}
use Rattle.node_rules.specs.Data.decisions
use Rattle.node_rules.specs.Data.states
use Rattle.node_rules.specs.Data.nexts
use Rattle.node_rules.specs.Data.kinds
use Rattle.session_tree.specs.Live.{is_branch}
use Rattle.node_rules.specs.Commit.{all_acked, is_mixed, first_decision, known_decision, decision_at, next_on_decision, knows_commit, next_on_ack, next_on_forgotten}
use Rattle.node_rules.specs.Inputs.{Came, Brings, Commit_came}
use Rattle.node_rules.proofs.Steps.{IsMet, Doing, Stays, Ends_so, Meets_so, Acks_again, Acks_on, Forgets_first, Forgets_after, Has_forgotten}

module _ (clock : ℕ) (input : Input) (s : KeptRow) (from : BranchId) where
  -- a forced branch
  meets_so : (d : Decision) (state : State) → Brings input from s.me d → is_branch from s.toward ≡ true → s.decision ≡ None → IsMet clock d → state ≢ states.Sealed → state ≢ states.Committed → s.state ≡ state
      → Doing clock input s from (nexts.Meet d (is_mixed state d))
  meets_so d state brings toward new met unsealed uncommitted is =
      subst (λ x. Doing clock input s from (nexts.Meet d (is_mixed x d))) is (Meets_so d brings toward new (λ e. unsealed cc) (λ e. uncommitted cc) met)

  first_decision_so : (d : Decision) (state : State) → Brings input from s.me d → is_branch from s.toward ≡ true → s.decision ≡ None → IsMet clock d → s.state ≡ state
      → Doing clock input s from (first_decision state d)
  first_decision_so d states.Sealed brings toward new met is = Ends_so d brings toward new is met
  first_decision_so d states.Committed brings toward new met is = Stays
  first_decision_so d (states.ForcedCommit n) brings toward new met is = meets_so d (states.ForcedCommit n) brings toward new met (λ e. absurd cc) (λ e. absurd cc) is
  first_decision_so d states.ForcedRollback brings toward new met is = meets_so d states.ForcedRollback brings toward new met (λ e. absurd cc) (λ e. absurd cc) is

  known_decision_so : (d known : Decision) → Brings input from s.me d → is_branch from s.toward ≡ true → s.decision ≡ Some known → Doing clock input s from (known_decision s known d)
  known_decision_so d (decisions.Commit n) (Commit_came m came) toward is = cond_both (all_acked s) _ _ (Doing clock input s from) (Acks_again n m came toward is) (λ some. Stays)
  known_decision_so d (decisions.Commit n) brings toward is = Stays
  known_decision_so d decisions.Rollback brings toward is = Stays

  decision_at_so : (d : Decision) (o : Option Decision) → Brings input from s.me d → IsMet clock d → is_branch from s.toward ≡ true → s.decision ≡ o → Doing clock input s from (decision_at s d o)
  decision_at_so d None brings met toward is = first_decision_so d s.state brings toward is met refl
  decision_at_so d (Some known) brings met toward is = known_decision_so d known brings toward is

  -- at a decision
  pub decision_so : (d : Decision) → Brings input from s.me d → IsMet clock d → Doing clock input s from (next_on_decision s from d)
  unfolding next_on_decision
  decision_so d brings met = cond_both (is_branch from s.toward) _ _ (Doing clock input s from) (λ toward. decision_at_so d s.decision brings met toward refl) (λ other. Stays)

  -- at an Ack that counts
  pub ack_so : Came input from s.me kinds.Ack → knows_commit s.decision ≡ true → Doing clock input s from (next_on_ack s)
  unfolding next_on_ack
  ack_so came knows =
      cond_both s.forgot _ _ (Doing clock input s from) (Has_forgotten came knows)
      (λ new. cond_both (all_acked s) _ _ (Doing clock input s from)
      (λ all. cond_both (is_none s.toward) _ _ (Doing clock input s from) (Forgets_first came knows new all) (Acks_on came knows new all)) (λ some. Stays))

  -- at Forgotten
  pub forgotten_so : Came input from s.me kinds.Forgotten → Doing clock input s from (next_on_forgotten s from)
  unfolding next_on_forgotten
  forgotten_so came =
      cond_both _ _ _ (Doing clock input s from)
      (λ all. let parts = and_parts _ _ all in let rest = and_parts _ _ parts.1 in Forgets_after came parts.0 rest.0 (not-true s.forgot rest.1)) (λ some. Stays)
