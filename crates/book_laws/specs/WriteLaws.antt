-- What a record needs of its turn, where that can be said without what its branch did before: records of the catalog, forced outcomes and
-- purges are written for the statement that came; decisions are learned of the neighbour that the branch's Sealed record names as
-- the one on the way to the site, and a sealed branch forgets after that neighbour. (Database Administrator's Guide, "Distributed
-- Transactions Concepts": two-phase commit; "Managing Distributed Transactions": manually overriding in-doubt transactions.)
use Rattle.std.specs.Prelude.{◌≡◌, ℕ, List, IfSome, Some, None}
use Rattle.node_rules.specs.Data.{RedoRecord, Input, Place}
use Rattle.node_rules.specs.Data.records
use Rattle.node_rules.specs.NodeState.{NodeState}
use Rattle.run_rules.specs.Data.{Happening}
use Rattle.run_rules.specs.Data.happenings
use Rattle.run_rules.specs.Branches.{Trail}
use Rattle.run_rules.specs.Facts.{Facts, place_at, node_at, records_at}
use Rattle.run_claims.specs.Knowledge.{MayWrite, ForgottenByToward}
use Rattle.run_rules.specs.BranchRecords.{decided_in}
use Rattle.run_rules.specs.Lawful.{History, IsLawfulRun}
use Rattle.run_base_laws.specs.NodeLaws.{AtEachFact}

-- what a record needs of its turn, whatever came to its branch before
abbrev pub IsToBeWritten : Place → Facts → NodeState → ℕ → Input → RedoRecord → Type 0
IsToBeWritten p f k n input (records.Sealed r) = Unit {0}
IsToBeWritten p f k n input (records.Decided r) = Unit {0}
IsToBeWritten p f k n input (records.Forgot b) = decided_in (records_at f b.node) b ≡ None → ForgottenByToward f b input
IsToBeWritten p f k n input r = (before after : Trail) → MayWrite p f before after k n input r

-- the record of a turn is so
abbrev pub WritesDue : List Place → Facts → Happening → Type 0
WritesDue places f (happenings.Turn u) = (k : NodeState) → node_at f u.node ≡ Some k → IfSome u.wrote (IsToBeWritten (place_at places u.node) f k u.node u.input)
WritesDue places f _ = Unit {0}

-- in every lawful run each turn writes such records
abbrev pub RecordsAreDue : Type 0
RecordsAreDue = (t : History) → IsLawfulRun t → AtEachFact WritesDue t
