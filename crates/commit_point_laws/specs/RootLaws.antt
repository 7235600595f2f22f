-- Why a live root leaves in a turn: its seal or its decision is written, its collect found no changes, its transaction is READ
-- ONLY and commits, or it rolls back: a child says Abort, a rollback reaches it, or its session rolls back or gives up the COMMIT. (Database Administrator's
-- Guide, "Distributed Transactions Concepts": prepare phase, read-only optimization.)
use Rattle.std.specs.Prelude.{◌≡◌, ℕ, Bool, true, false, List, map, Option, Some, None}
use Rattle.agreement.specs.Events.{Event, Quiet, exit}
use Rattle.node_rules.specs.Data.{BranchId, Kind, Live, Place, Post, RedoRecord, Sealed, Decided, Input}
use Rattle.node_rules.specs.Data.inputs
use Rattle.node_rules.specs.Data.kinds
use Rattle.node_rules.specs.Data.records
use Rattle.node_rules.specs.Data.stmts
use Rattle.node_rules.specs.Inputs.{Came, IsCall}
use Rattle.node_rules.specs.NodeState.{NodeState, TurnOutput, live_at}
use Rattle.node_rules.specs.Turn.{turn_of}
use Rattle.run_rules.specs.Data.{Happening}
use Rattle.run_rules.specs.Data.happenings
use Rattle.run_base_laws.specs.EventLaws.{AtEachEvent}
use Rattle.run_rules.specs.Facts.{Facts, place_at, node_at}
use Rattle.run_base_laws.specs.FreezeLaws.{was_asked}
use Rattle.run_base_laws.specs.InTurnLaws.{post_of, said_in}
use Rattle.run_rules.specs.Lawful.{History, IsLawfulRun}
use Rattle.run_branch_laws.specs.WalkLaws.{is_below, was_sent}

-- Each child that a branch asked is gone without changes, and it told none that the walk comes there.
pub record FoundNothing (said : List Post) (e : List Event) (b : BranchId) : Type 0 where
  pub quiet : (c : BranchId) → was_asked said b c ≡ true → exit e c ≡ Some Quiet
  pub off : (c : BranchId) → was_sent is_below said b c ≡ false

-- whether a message is Rollback
abbrev pub is_rollback : Kind → Bool
is_rollback kinds.Rollback = true
is_rollback _ = false

-- Why a root, which reads at an SCN where its transaction is READ ONLY, leaves in a turn that writes and sends this; a child
-- that says Abort is told Rollback.
pub data RootReason (said : List Post) (e : List Event) (input : Input) (b : BranchId) (read_at : Option ℕ) (wrote : Option RedoRecord) (sent : List Post) : Type 0 where
  Seals : (r : Sealed) → wrote ≡ Some (records.Sealed r) → r.me ≡ b → RootReason said e input b read_at wrote sent
  Decides : (r : Decided) → wrote ≡ Some (records.Decided r) → r.me ≡ b → RootReason said e input b read_at wrote sent
  Finishes : FoundNothing said e b → RootReason said e input b read_at wrote sent
  Hears_abort : (from : BranchId) → Came input from b kinds.Abort → was_sent is_rollback sent b from ≡ true → RootReason said e input b read_at wrote sent
  Gets_rollback : (from : BranchId) → Came input from b kinds.Rollback → RootReason said e input b read_at wrote sent
  Rolls_back : (n : ℕ) → IsCall input n stmts.Rollback → RootReason said e input b read_at wrote sent
  Ends_reading : (comment : Option (List ℕ)) (scn : ℕ) → IsCall input b.session (stmts.Commit comment) → read_at ≡ Some scn → RootReason said e input b read_at wrote sent
  Gives_up : (n : ℕ) → input ≡ inputs.GiveUp n → RootReason said e input b read_at wrote sent

-- each live root that a turn leaves no more has a reason
abbrev pub RootLeaves : List Post → List Event → Input → NodeState → TurnOutput → Type 0
RootLeaves said e input k o = (b : BranchId) (l : Live) → live_at k b ≡ Some l → l.parent ≡ None → live_at o.after b ≡ None → RootReason said e input b l.read_at o.wrote (map post_of o.sent)

-- so does each turn of a node that is up
abbrev pub TurnsLeaveRoots : List Place → Facts → List Event → Happening → Type 0
TurnsLeaveRoots places f e (happenings.Turn u) = (k : NodeState) → node_at f u.node ≡ Some k → RootLeaves (said_in f) e u.input k (turn_of (place_at places u.node) k u.input)
TurnsLeaveRoots places f e _ = Unit {0}

-- In every lawful run.
abbrev pub RootsHaveReasons : Type 0
RootsHaveReasons = (t : History) → IsLawfulRun t → AtEachEvent (TurnsLeaveRoots t.places) t
