-- Who has voted: sealed branches, and no live one.
use Rattle.std.specs.Prelude.{◌≡◌, ℕ, ◌≤◌, Some}
use Rattle.std.specs.List.{AllByRecursion}
use Rattle.agreement.specs.Events.{Sealed, Send_vote, exit, Has}
use Rattle.node_rules.specs.Data.{BranchId}
use Rattle.node_rules.specs.NodeState.{NodeState}
use Rattle.run_rules.specs.Facts.{node_at}
use Rattle.run_rules.specs.Lawful.{History, IsLawfulRun, facts_at}
use Rattle.run_base_laws.specs.RunEvents.{events_of}

-- In every lawful run a branch that voted is sealed, and the clock of its vote is not below the SCN of its seal.
abbrev pub VotesAreOfSealed : Type 0
VotesAreOfSealed = (t : History) → IsLawfulRun t → (b : BranchId) (j : ℕ) → Has (Send_vote b j) (events_of t) → (n : ℕ) × (exit (events_of t) b ≡ Some (Sealed n)) × (n ≤ j)

-- So no live branch has voted.
abbrev pub LiveHaveNotVoted : Type 0
LiveHaveNotVoted = (t : History) → IsLawfulRun t → (n : ℕ) (k : NodeState) → node_at (facts_at t) n ≡ Some k → AllByRecursion (λ l. (j : ℕ) → Has (Send_vote l.me j) (events_of t) → ⊥) k.lives
