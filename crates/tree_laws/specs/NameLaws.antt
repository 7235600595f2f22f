-- The rows of kept branches name their neighbours beyond, by the forest that the Prepares of the whole run make. What records do by it.
use Rattle.std.specs.Prelude.{◌≡◌, ℕ, ◌⊎◌, List, map, Option, Some}
use Rattle.std.specs.List.{AllByRecursion}
use Rattle.node_rules.specs.Data.{BranchId, KeptRow}
use Rattle.node_rules.specs.NodeState.{NodeState}
use Rattle.agreement.specs.Events.{Forest, Event, Beyond, Quiet, exit}
use Rattle.run_rules.specs.Data.{Happening}
use Rattle.run_rules.specs.Data.happenings
use Rattle.run_rules.specs.Facts.{Facts, node_at}
use Rattle.run_rules.specs.Lawful.{History, IsLawfulRun}
use Rattle.run_base_laws.specs.RunEvents.{wrote_event}
use Rattle.run_base_laws.specs.EventLaws.{AtEachEvent}
use Rattle.run_branch_laws.specs.TreeJust.{IsTreeAllowed}
use Rattle.tree_laws.specs.BeyondLaws.{IsNamed}
use Rattle.tree_laws.specs.Forests.{forest_of}

-- each neighbour beyond is named, or gone without changes
abbrev pub NamesBeyond : Forest → List Event → BranchId → Option BranchId → List BranchId → Type 0
NamesBeyond p t me parent kids = (x : BranchId) → Beyond p x me → IsNamed parent kids x ⊎ (exit t x ≡ Some Quiet)

-- by a row
abbrev pub RowNames : Forest → List Event → KeptRow → Type 0
RowNames p t s = NamesBeyond p t s.me s.parent (map (λ c. c.branch) s.children)

-- each row of each node that is up does so, whatever happens next
abbrev pub NodesName : Forest → Facts → List Event → Happening → Type 0
NodesName p f t h = (n : ℕ) (k : NodeState) → node_at f n ≡ Some k → AllByRecursion (RowNames p t) k.stored.durable.kept

-- In every lawful run the row of each branch names each neighbour beyond that is not gone without changes.
abbrev pub RowsNameBeyond : Type 0
RowsNameBeyond = (t : History) → IsLawfulRun t → AtEachEvent (NodesName (forest_of t)) t

-- the forest allows what a turn writes
abbrev pub WritesByForest : Forest → Facts → List Event → Happening → Type 0
WritesByForest p f t (happenings.Turn u) = IsTreeAllowed p t (wrote_event u.node u.wrote)
WritesByForest p f t _ = Unit {0}

-- In every lawful run the forest allows each record.
abbrev pub RecordsGoByForest : Type 0
RecordsGoByForest = (t : History) → IsLawfulRun t → AtEachEvent (WritesByForest (forest_of t)) t
