-- On what branches below a root seal and decide, by what the happenings tell of them. (Database Administrator's Guide,
-- "Distributed Transactions Concepts": prepare phase, commit point site.)
use Rattle.std.specs.Prelude.{◌≡◌, ◌≢◌, ◌⊎◌, List, Some, None}
use Rattle.node_rules.specs.Data.{Live, RedoRecord, Input, Place}
use Rattle.node_rules.specs.Data.records
use Rattle.node_rules.specs.NodeState.{NodeState, live_at}
use Rattle.run_rules.specs.Branches.{Trail}
use Rattle.run_rules.specs.Data.{Happening}
use Rattle.run_rules.specs.Data.happenings
use Rattle.run_rules.specs.Each.{AtEach}
use Rattle.run_rules.specs.Facts.{Facts, node_at}
use Rattle.run_claims.specs.Knowledge.{IsLastVote, IsPrepareToLeaf, IsCommitPoint}
use Rattle.run_rules.specs.Lawful.{History, IsLawfulRun}

-- a branch below a root seals on the last answer of its children, on Prepare where it has none, on CommitPoint; it decides
-- on CommitPoint
abbrev pub LeavesBelow : Trail → NodeState → Input → RedoRecord → Type 0
LeavesBelow tr k input (records.Sealed r) = (l : Live) → live_at k r.me ≡ Some l → l.parent ≢ None → IsLastVote tr r.me input ⊎ (IsPrepareToLeaf tr r.me input ⊎ IsCommitPoint tr r.me input)
LeavesBelow tr k input (records.Decided r) = (l : Live) → live_at k r.me ≡ Some l → l.parent ≢ None → IsCommitPoint tr r.me input
LeavesBelow tr k input _ = Unit {0}

-- the branch of the record of a turn does so
abbrev pub LeavesAsTraced : List Place → Facts → Trail → Happening → Type 0
LeavesAsTraced places f tr (happenings.Turn u) = (k : NodeState) → node_at f u.node ≡ Some k → (r : RedoRecord) → u.wrote ≡ Some r → LeavesBelow tr k u.input r
LeavesAsTraced places f tr _ = Unit {0}

-- In every lawful run live branches below roots do so.
abbrev pub LowerLeaveAsTraced : Type 0
LowerLeaveAsTraced = (t : History) → IsLawfulRun t → AtEach LeavesAsTraced t
