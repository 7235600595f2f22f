-- Decisions are learned of toward, by the forest that the Prepares of the whole run make.
use Rattle.std.specs.Prelude.{IfSome, List}
use Rattle.agreement.specs.Events.{Forest, Event}
use Rattle.node_rules.specs.Data.{RedoRecord}
use Rattle.node_rules.specs.Data.records
use Rattle.run_rules.specs.Data.{Happening}
use Rattle.run_rules.specs.Data.happenings
use Rattle.run_rules.specs.Facts.{Facts}
use Rattle.run_rules.specs.Lawful.{History, IsLawfulRun}
use Rattle.run_base_laws.specs.EventLaws.{AtEachEvent}
use Rattle.run_branch_laws.specs.TowardLaws.{WasTold}
use Rattle.tree_laws.specs.Forests.{forest_of}

-- a decision that is learned was told by toward
abbrev pub LearnsOfToward : Forest → List Event → RedoRecord → Type 0
LearnsOfToward p t (records.Ended b d) = WasTold t (p.toward b) b d
LearnsOfToward p t (records.Met b d mixed) = WasTold t (p.toward b) b d
LearnsOfToward p t _ = Unit {0}

-- the record of a turn is so, by the events before it
abbrev pub LearnsInForest : Forest → Facts → List Event → Happening → Type 0
LearnsInForest p f t (happenings.Turn u) = IfSome u.wrote (LearnsOfToward p t)
LearnsInForest p f t _ = Unit {0}

-- In every lawful run each decision is learned of the neighbour that is toward in the forest of the run.
abbrev pub LearnedOfToward : Type 0
LearnedOfToward = (t : History) → IsLawfulRun t → AtEachEvent (LearnsInForest (forest_of t)) t
