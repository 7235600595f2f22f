-- What children's answers tell of the walk: who answered Ready was told that the walk comes there, and once a branch collects each
-- child was asked.
use Rattle.std.specs.Prelude.{◌≡◌, ◌≢◌, ℕ, true, List, Some}
use Rattle.std.specs.List.{AllByRecursion}
use Rattle.node_rules.specs.Data.{BranchId, Edge, Kind, Live, Phase, Post}
use Rattle.node_rules.specs.Data.kinds
use Rattle.node_rules.specs.Data.phases
use Rattle.node_rules.specs.Data.votes
use Rattle.node_rules.specs.NodeState.{NodeState}
use Rattle.run_rules.specs.Facts.{node_at}
use Rattle.run_rules.specs.Lawful.{History, IsLawfulRun, facts_at}
use Rattle.run_base_laws.specs.InTurnLaws.{said_in}
use Rattle.run_branch_laws.specs.WalkLaws.{is_below, was_sent}

-- A child that answered Ready was told that the walk comes there. Once the collect began each child was asked.
pub record EdgeTold (said : List Post) (me : BranchId) (phase : Phase) (e : Edge) : Type 0 where
  pub ready : e.vote ≡ votes.Ready → was_sent is_below said me e.peer ≡ true
  pub asked : phase ≢ phases.Working → e.vote ≢ votes.Unasked

-- of the children of a live branch
abbrev pub AnswersTold : List Post → Live → Type 0
AnswersTold said l = AllByRecursion (EdgeTold said l.me l.phase) l.edges

-- who says Ready was told so by the receiver
abbrev pub ReadyIs : List Post → BranchId → BranchId → Kind → Type 0
ReadyIs said from to kinds.Ready = was_sent is_below said to from ≡ true
ReadyIs said from to _ = Unit {0}

-- In every lawful run the answers that live branches hold, and each Ready that was sent, are so.
abbrev pub AnswersAreAsTold : Type 0
AnswersAreAsTold = (t : History) → IsLawfulRun t
    → ((n : ℕ) (k : NodeState) → node_at (facts_at t) n ≡ Some k → AllByRecursion (AnswersTold (said_in (facts_at t))) k.lives)
    × AllByRecursion (λ x. ReadyIs (said_in (facts_at t)) x.msg.from x.msg.to x.msg.kind) (facts_at t).net.packets
