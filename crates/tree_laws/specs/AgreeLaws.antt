-- The turns of a lawful run do what the forest of its Prepares allows, and so the run agrees.
use Rattle.std.specs.Prelude.{List, []}
use Rattle.agreement.specs.Events.{Event}
use Rattle.run_rules.specs.Data.{Happening}
use Rattle.run_rules.specs.Data.happenings
use Rattle.run_rules.specs.Entries.{book_of as trace_book}
use Rattle.run_rules.specs.Book.{Agreement, MixedIsMarked, AboveSeals}
use Rattle.run_rules.specs.Facts.{Facts, first_facts, node_at, facts_after}
use Rattle.run_rules.specs.Lawful.{History, IsLawfulRun}
use Rattle.run_base_laws.specs.RunEvents.{lives_at, with_record}
use Rattle.run_base_laws.specs.EventLaws.{AtEachEvent}
use Rattle.run_branch_laws.specs.TreeJust.{TreeLeaves, GoByTree}
use Rattle.tree_laws.specs.Forests.{forest_of}

-- the forest allows those to leave that answer without changes
abbrev pub LeavesByForest : History → Facts → List Event → Happening → Type 0
LeavesByForest t f e (happenings.Turn u) = TreeLeaves (forest_of t) (lives_at (node_at (facts_after t.places t.commands f (happenings.Turn u)) u.node)) u.sent (lives_at (node_at f u.node)) (with_record u e)
LeavesByForest t f e _ = Unit {0}

-- In every lawful run a branch that answers ReadOnly is not the site, and all beyond it are gone without changes.
abbrev pub LeavesGoByForest : Type 0
LeavesGoByForest = (t : History) → IsLawfulRun t → AtEachEvent (LeavesByForest t) t

-- So each turn of a lawful run does what the forest allows.
abbrev pub RunsGoByForest : Type 0
RunsGoByForest = (t : History) → IsLawfulRun t → GoByTree (forest_of t) t.places t.commands (first_facts t.places) t.trace []

-- And each lawful run agrees: all branches of a transaction end as its site decided, mixed outcomes are marked, and the SCN of a decision
-- exceeds those of all seals of its transaction.
abbrev pub RunsAgree : Type 0
RunsAgree = (t : History) → IsLawfulRun t → Agreement (trace_book t.trace) × MixedIsMarked (trace_book t.trace) × AboveSeals (trace_book t.trace)
