-- What is left of the law that each turn writes and says what it may: what hangs on the lives of branches before the turn, as the
-- happenings tell them. A branch seals, decides and says Abort by the votes that came, a site forgets by the Acks that came, Exec
-- passes on the statement that was asked, and ReadOnly is said where nothing was changed. (Database Administrator's Guide,
-- "Distributed Transactions Concepts": two-phase commit.)
use Rattle.std.specs.Prelude.{◌≡◌, ℕ, List, ◌++◌, option_to_list, IfSome, Some}
use Rattle.std.specs.List.{AllByRecursion}
use Rattle.node_rules.specs.Data.{BranchId, RedoRecord, Decided, Kind, Input, Place}
use Rattle.node_rules.specs.Data.records
use Rattle.node_rules.specs.Data.kinds
use Rattle.node_rules.specs.NodeState.{NodeState}
use Rattle.run_rules.specs.Branches.{Trail}
use Rattle.run_rules.specs.Data.{Turn, Happening}
use Rattle.run_rules.specs.Data.happenings
use Rattle.run_rules.specs.Each.{AtEach}
use Rattle.run_rules.specs.Facts.{Facts, place_at, node_at, records_at}
use Rattle.run_claims.specs.Knowledge.{MayWrite, MaySay, MayForget, Knowledge}
use Rattle.run_rules.specs.BranchRecords.{decided_in}
use Rattle.run_rules.specs.Lawful.{History, IsLawfulRun}
use Rattle.run_rules.specs.Trail.{trail_after}

-- a seal, a decision, and the end of a site
abbrev pub IsWrittenByLife : Place → Facts → Trail → Trail → NodeState → ℕ → Input → RedoRecord → Type 0
IsWrittenByLife p f tr after k n input (records.Sealed r) = MayWrite p f tr after k n input (records.Sealed r)
IsWrittenByLife p f tr after k n input (records.Decided r) = MayWrite p f tr after k n input (records.Decided r)
IsWrittenByLife p f tr after k n input (records.Forgot b) = (r : Decided) → decided_in (records_at f b.node) b ≡ Some r → MayForget f after b input (Some r)
IsWrittenByLife p f tr after k n input _ = Unit {0}

-- Exec, Abort and ReadOnly
abbrev pub IsSaidByLife : Place → Facts → Trail → Trail → List RedoRecord → Input → BranchId → BranchId → Kind → Type 0
IsSaidByLife p f tr after rs input b to (kinds.Exec call task) = MaySay p f tr after rs input b to (kinds.Exec call task)
IsSaidByLife p f tr after rs input b to kinds.Abort = MaySay p f tr after rs input b to kinds.Abort
IsSaidByLife p f tr after rs input b to kinds.ReadOnly = MaySay p f tr after rs input b to kinds.ReadOnly
IsSaidByLife p f tr after rs input b to _ = Unit {0}

-- these of a turn were to be written and said
pub record TurnKnowsLives (places : List Place) (f : Facts) (tr : Trail) (u : Turn) (k : NodeState) : Type 0 where
  pub writes : IfSome u.wrote (IsWrittenByLife (place_at places u.node) f tr (trail_after places f tr (happenings.Turn u)) k u.node u.input)
  pub says : AllByRecursion (λ m. IsSaidByLife (place_at places u.node) f tr (trail_after places f tr (happenings.Turn u)) (records_at f u.node ++ option_to_list u.wrote) u.input m.from m.to m.kind) u.sent

-- of each turn of a node that is up
abbrev pub KnowsLives : List Place → Facts → Trail → Happening → Type 0
KnowsLives places f tr (happenings.Turn u) = (k : NodeState) → node_at f u.node ≡ Some k → TurnKnowsLives places f tr u k
KnowsLives places f tr _ = Unit {0}

-- A lawful run in which they were, writes and says all that it may: the rest needs no more than the records and what came.
abbrev pub LivesAreEnough : Type 0
LivesAreEnough = (t : History) → IsLawfulRun t → AtEach KnowsLives t → Knowledge t
