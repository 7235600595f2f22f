-- The branches that Replies tell of: a Reply tells of no more than its Exec gave room for, and so of no more than a session tree may have.
-- So the nodes of every lawful run are ready for what comes to them.
use Rattle.std.specs.Prelude.{◌≡◌, ℕ, ◌≤◌, List, Option, Some}
use Rattle.std.specs.List.{AllByRecursion}
use Rattle.dtx_values.specs.Limits.{branch_limit}
use Rattle.node_rules.specs.Data.{Kind, Place, Input}
use Rattle.node_rules.specs.Data.kinds
use Rattle.node_rules.specs.NodeState.{NodeState}
use Rattle.run_rules.specs.Data.{Took, Happening}
use Rattle.run_rules.specs.Data.happenings
use Rattle.run_rules.specs.Facts.{Facts, place_at, node_at}
use Rattle.run_rules.specs.Lawful.{History, IsLawfulRun, Comes, facts_at}
use Rattle.run_base_laws.specs.NodeLaws.{AtEachFact}
use Rattle.node_ready_laws.specs.Ready.{IsReady, IsExpected}
use Rattle.run_ready_laws.specs.ReadyRuns.{RepliesTellFew, IsExpectedThere}

-- a Reply tells of no more branches than a session tree may have
abbrev pub TellsOfTree : Kind → Type 0
TellsOfTree (kinds.Reply call weight count result) = count ≤ branch_limit
TellsOfTree _ = Unit {0}

-- each Reply that a turn sends does
abbrev pub RepliesTellOfTree : List Place → Facts → Happening → Type 0
RepliesTellOfTree places f (happenings.Turn u) = AllByRecursion (λ m. TellsOfTree m.kind) u.sent
RepliesTellOfTree places f _ = Unit {0}

-- In every lawful run no Reply tells of more branches than a session tree may have.
abbrev pub CountsAreOfTrees : Type 0
CountsAreOfTrees = (t : History) → IsLawfulRun t → AtEachFact RepliesTellOfTree t

-- So none tells of more than a Reply may.
abbrev pub CountsAreFew : Type 0
CountsAreFew = (t : History) → IsLawfulRun t → AtEachFact RepliesTellFew t

-- So in every lawful run each node that is up is ready for its next turn.
abbrev pub NodesAreAlwaysReady : Type 0
NodesAreAlwaysReady = (t : History) → IsLawfulRun t → (n : ℕ) (k : NodeState) → node_at (facts_at t) n ≡ Some k → IsReady (place_at t.places n) k

-- And what comes to its nodes is what they are ready for.
abbrev pub InputsAreAlwaysExpected : Type 0
InputsAreAlwaysExpected = (t : History) → IsLawfulRun t → AtEachFact IsExpectedThere t

-- So is whatever may come next.
abbrev pub ComersAreExpected : Type 0
ComersAreExpected = (t : History) → IsLawfulRun t → (n : ℕ) (k : NodeState) → node_at (facts_at t) n ≡ Some k → (input : Input) (took : Option Took) → Comes (facts_at t) k n input took → IsExpected input
