-- In a calm stretch what is so of the branches of nodes that have recovered begins with each node's turn of RECO, and stays.
use Rattle.std.specs.Prelude.{◌≡◌, ℕ, ◌⊎◌, Bool, true, false}
use Rattle.node_rules.specs.Data.{Kind, Msg}
use Rattle.node_rules.specs.Data.inputs
use Rattle.node_rules.specs.Data.kinds
use Rattle.node_rules.specs.NodeState.{NodeState}
use Rattle.run_rules.specs.Data.{Turn}
use Rattle.run_rules.specs.Data.happenings
use Rattle.run_rules.specs.Facts.{Facts, facts_after}
use Rattle.run_rules.specs.Lawful.{MayTurn, History, IsLawfulRun, facts_at}
use Rattle.settle_laws.specs.Interval.{IsCalm, Obliged}

-- after a lawful run, and one turn more
abbrev pub after_turn : History → Turn → Facts
after_turn t u = facts_after t.places t.commands (facts_at t) (happenings.Turn u)

-- of no node it is so at once
abbrev pub NoneIsObliged : Type 0
NoneIsObliged = (t : History) → IsLawfulRun t → Obliged (λ n. ⊥) (facts_at t)

-- After a calm turn of RECO it is so of the same nodes, and of that node.
abbrev pub RecoObliges : Type 0
RecoObliges = (t : History) → IsLawfulRun t → (u : Turn) (k : NodeState) → MayTurn t.places (facts_at t) u k → IsCalm (facts_at t) u → u.input ≡ inputs.Reco → (R : ℕ → Bool) → Obliged (λ n. R n ≡ true) (facts_at t)
    → Obliged (λ n. (R n ≡ true) ⊎ (u.node ≡ n)) (after_turn t u)

-- After a calm turn in which a question comes it is so of the same nodes.
abbrev pub QuestionsKeep : Type 0
QuestionsKeep = (t : History) → IsLawfulRun t → (u : Turn) (k : NodeState) → MayTurn t.places (facts_at t) u k → IsCalm (facts_at t) u → (m : Msg) → u.input ≡ inputs.Message m → m.kind ≡ kinds.Ask → (R : ℕ → Bool) → Obliged (λ n. R n ≡ true) (facts_at t)
    → Obliged (λ n. R n ≡ true) (after_turn t u)

-- After a calm turn in which a rollback comes it is so of the same nodes.
abbrev pub RollbacksKeep : Type 0
RollbacksKeep = (t : History) → IsLawfulRun t → (u : Turn) (k : NodeState) → MayTurn t.places (facts_at t) u k → IsCalm (facts_at t) u → (m : Msg) → u.input ≡ inputs.Message m → (m.kind ≡ kinds.Rollback) ⊎ (m.kind ≡ kinds.RolledBack)
    → (R : ℕ → Bool) → Obliged (λ n. R n ≡ true) (facts_at t) → Obliged (λ n. R n ≡ true) (after_turn t u)

-- After a calm turn in which a commit comes it is so of the same nodes.
abbrev pub CommitsKeep : Type 0
CommitsKeep = (t : History) → IsLawfulRun t → (u : Turn) (k : NodeState) → MayTurn t.places (facts_at t) u k → IsCalm (facts_at t) u → (m : Msg) → u.input ≡ inputs.Message m → (n : ℕ) → m.kind ≡ kinds.Committed n
    → (R : ℕ → Bool) → Obliged (λ i. R i ≡ true) (facts_at t) → Obliged (λ i. R i ≡ true) (after_turn t u)

-- a message of a statement, the answer InDoubt, or a message of the forget phase
abbrev pub is_beside : Kind → Bool
is_beside (kinds.Open edge root depth read_at) = true
is_beside (kinds.Opened edge strength) = true
is_beside (kinds.Exec call task) = true
is_beside (kinds.Reply call weight count result) = true
is_beside kinds.InDoubt = true
is_beside kinds.Ack = true
is_beside kinds.Forgotten = true
is_beside _ = false

-- After a calm turn in which such a message comes it is so of the same nodes.
abbrev pub OthersKeep : Type 0
OthersKeep = (t : History) → IsLawfulRun t → (u : Turn) (k : NodeState) → MayTurn t.places (facts_at t) u k → IsCalm (facts_at t) u → (m : Msg) → u.input ≡ inputs.Message m → is_beside m.kind ≡ true → (R : ℕ → Bool) → Obliged (λ n. R n ≡ true) (facts_at t)
    → Obliged (λ n. R n ≡ true) (after_turn t u)

-- After a calm turn in which an Abort comes it is so of the same nodes.
abbrev pub AbortsKeep : Type 0
AbortsKeep = (t : History) → IsLawfulRun t → (u : Turn) (k : NodeState) → MayTurn t.places (facts_at t) u k → IsCalm (facts_at t) u → (m : Msg) → u.input ≡ inputs.Message m → m.kind ≡ kinds.Abort → (R : ℕ → Bool) → Obliged (λ n. R n ≡ true) (facts_at t)
    → Obliged (λ n. R n ≡ true) (after_turn t u)
