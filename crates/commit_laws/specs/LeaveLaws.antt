-- Why a live branch below a root leaves in a turn: its seal or its decision is written, it says ReadOnly, or it is dropped:
-- a rollback reaches it, its parent asks it, or a child says Abort. (Database Administrator's Guide, "Distributed
-- Transactions Concepts": prepare phase.)
use Rattle.std.specs.Prelude.{◌≡◌, ◌≢◌, true, List, Option, Some, None}
use Rattle.std.specs.List.{list_any}
use Rattle.node_rules.specs.Data.{BranchId, Live, Msg, Place, RedoRecord, Sealed, Decided, Input}
use Rattle.node_rules.specs.Data.kinds
use Rattle.node_rules.specs.Data.records
use Rattle.node_rules.specs.Inputs.{Came}
use Rattle.node_rules.specs.NodeState.{NodeState, TurnOutput, live_at}
use Rattle.node_rules.specs.Turn.{turn_of}
use Rattle.run_rules.specs.Data.{Happening}
use Rattle.run_rules.specs.Data.happenings
use Rattle.run_rules.specs.Facts.{Facts, place_at, node_at}
use Rattle.run_rules.specs.Lawful.{History, IsLawfulRun}
use Rattle.run_base_laws.specs.NodeLaws.{AtEachFact}
use Rattle.run_rules.specs.Trail.{is_quiet}

-- Why a branch with this parent leaves in a turn that writes and sends this.
pub data Reason (input : Input) (b : BranchId) (parent : Option BranchId) (wrote : Option RedoRecord) (sent : List Msg) : Type 0 where
  Seals : (r : Sealed) → wrote ≡ Some (records.Sealed r) → r.me ≡ b → Reason input b parent wrote sent
  Decides : (r : Decided) → wrote ≡ Some (records.Decided r) → r.me ≡ b → Reason input b parent wrote sent
  Says_read_only : list_any (is_quiet b) sent ≡ true → Reason input b parent wrote sent
  Gets_rollback : (from : BranchId) → Came input from b kinds.Rollback → Reason input b parent wrote sent
  Is_rolled_back : (from : BranchId) → Came input from b kinds.RolledBack → parent ≡ Some from → Reason input b parent wrote sent
  Is_asked : (from : BranchId) → Came input from b kinds.Ask → parent ≡ Some from → Reason input b parent wrote sent
  Hears_abort : (from : BranchId) → Came input from b kinds.Abort → Reason input b parent wrote sent

-- each live branch below a root that a turn leaves no more has a reason
abbrev pub LeavesForReason : Input → NodeState → TurnOutput → Type 0
LeavesForReason input k o = (b : BranchId) (l : Live) → live_at k b ≡ Some l → l.parent ≢ None → live_at o.after b ≡ None → Reason input b l.parent o.wrote o.sent

-- so does each turn of a node that is up
abbrev pub TurnsHaveReasons : List Place → Facts → Happening → Type 0
TurnsHaveReasons places f (happenings.Turn u) = (k : NodeState) → node_at f u.node ≡ Some k → LeavesForReason u.input k (turn_of (place_at places u.node) k u.input)
TurnsHaveReasons places f _ = Unit {0}

-- In every lawful run.
abbrev pub LeaversHaveReasons : Type 0
LeaversHaveReasons = (t : History) → IsLawfulRun t → AtEachFact TurnsHaveReasons t
