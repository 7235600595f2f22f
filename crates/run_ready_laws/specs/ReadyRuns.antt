-- The nodes of a run are ready for what comes to them, where no Reply tells of more branches than a Reply may.
use Rattle.std.specs.Prelude.{◌≡◌, ℕ, List, Some}
use Rattle.node_rules.specs.Data.{Place}
use Rattle.node_rules.specs.NodeState.{NodeState}
use Rattle.run_rules.specs.Data.{Happening}
use Rattle.run_rules.specs.Data.happenings
use Rattle.run_rules.specs.Facts.{Facts, place_at, node_at}
use Rattle.run_rules.specs.Lawful.{History, IsLawfulRun, facts_at}
use Rattle.run_base_laws.specs.NodeLaws.{AtEachFact}
use Rattle.node_ready_laws.specs.Shapes.{TellsFew}
use Rattle.std.specs.List.{AllByRecursion}
use Rattle.node_ready_laws.specs.Ready.{IsReady, IsExpected}

-- no Reply that a turn sends tells of more branches than a Reply may
abbrev pub RepliesTellFew : List Place → Facts → Happening → Type 0
RepliesTellFew places f (happenings.Turn u) = AllByRecursion (λ m. TellsFew m.kind) u.sent
RepliesTellFew places f _ = Unit {0}

-- what comes to a node is what a node is ready for
abbrev pub IsExpectedThere : List Place → Facts → Happening → Type 0
IsExpectedThere places f (happenings.Turn u) = IsExpected u.input
IsExpectedThere places f _ = Unit {0}

-- In every lawful run whose Replies tell of few branches each node that is up is ready for its next turn.
abbrev pub NodesAreReady : Type 0
NodesAreReady = (t : History) → IsLawfulRun t → AtEachFact RepliesTellFew t → (n : ℕ) (k : NodeState) → node_at (facts_at t) n ≡ Some k → IsReady (place_at t.places n) k

-- And what comes to its nodes is what they are ready for.
abbrev pub InputsAreExpected : Type 0
InputsAreExpected = (t : History) → IsLawfulRun t → AtEachFact RepliesTellFew t → AtEachFact IsExpectedThere t
