-- The places that a turn passes, as they stand in memory, and what has to be known of its branch.
use Rattle.std.specs.Prelude.{◌≡◌, ◌++◌, if◌then◌else◌, List, [], ◌∷◌, option_to_list, option_map, Option, Some, None}
use Rattle.crash_points.specs.Points.{numbers_at}
use Rattle.crash_points.specs.declared.place.TurnPlace.TheVariants as places
use Rattle.node_rules.specs.Data.{BranchId, RedoRecord, Msg, Live, KeptRow, Place, Input}
use Rattle.node_rules.specs.Data.inputs
use Rattle.node_rules.specs.Data.records
use Rattle.node_rules.specs.Data.decisions
use Rattle.node_rules.specs.Words.{one}
use Rattle.node_rules.specs.Inputs.{IsFit}
use Rattle.node_rules.specs.Sessions.{session_at}
use Rattle.node_rules.specs.NodeState.{NodeState, live_at, kept_row_at}
use Rattle.node_rules.specs.Points.{Passes as PassesByRules, has_edges, is_ready, ready_points, ended_points, forgot_points}
use Rattle.node_rules.specs.Turn.{turn_of}
use Rattle.node_points.specs.declared.places.Passes.{Passes}
use Rattle.node_points.specs.declared.looking.Ahead.{Ahead}

-- the points that these places are
abbrev pub passes_as : Passes → PassesByRules
passes_as p = record {
  root = p.root;
  before = numbers_at p.at_site ((if p.collected then one places.Collected else []) ++ option_to_list p.before);
  after = numbers_at p.at_site (option_to_list p.after);
}

-- the branch that says Ready in the first of these messages
abbrev pub ready_sender : List Msg → Option BranchId
ready_sender [] = None
ready_sender (m ∷ ms) = if is_ready m.kind then Some m.from else None

-- the branch of a record
abbrev pub branch_of : RedoRecord → Option BranchId
branch_of (records.Decided r) = Some r.me
branch_of (records.Ended me (decisions.Commit n)) = Some me
branch_of (records.Forgot me) = Some me
branch_of _ = None

-- the branch whose points a turn passes, where they depend on what the node keeps of it
abbrev pub turns : List Msg → Option RedoRecord → Option BranchId
turns sent None = ready_sender sent
turns sent (Some r) = branch_of r

-- This is ahead of a branch that is live so, and whose row is this.
pub record IsAhead (live : Option Live) (row : Option KeptRow) (a : Ahead) : Type 0 where
  pub ready : option_map passes_as a.ready ≡ ready_points live
  pub children : a.has_children ≡ has_edges live
  pub ended : option_map passes_as a.ended ≡ ended_points row
  pub forgot : option_map passes_as a.forgot ≡ forgot_points row

-- this is ahead of the branch that a turn is of
abbrev pub Foresees : NodeState → Option BranchId → Ahead → Type 0
Foresees k b a = (c : BranchId) → b ≡ Some c → IsAhead (live_at k c) (kept_row_at k c) a

-- the branch that an input is about: the one that a message is for, or the root of the session that calls
abbrev pub concerned : NodeState → Input → Option BranchId
concerned k (inputs.Message m) = Some m.to
concerned k (inputs.Call n s) = (session_at k.sessions n).root
concerned k _ = None

-- a turn passes places of no other branch
abbrev pub TurnsAreOfTheirBranch : Type 0
TurnsAreOfTheirBranch = (p : Place) (k : NodeState) (input : Input) → IsFit input → (b : BranchId) → turns (turn_of p k input).sent (turn_of p k input).wrote ≡ Some b → concerned k input ≡ Some b
