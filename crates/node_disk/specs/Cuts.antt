-- Where a turn is cut: before its record, in the append of its record, or after it; and what is so of its points and its disk there.
use Rattle.std.specs.Prelude.{◌≡◌, ℕ, Bool, true, false, List, Option, Some, None, is_some}
use Rattle.block_disk.specs.Plan.{FaultPlan}
use Rattle.redo_log.specs.Plans.{CallsGoByPlan, append_calls}
use Rattle.record_log.specs.Held.{GrowsByPlan}
use Rattle.node_rules.specs.Data.{RedoRecord}
use Rattle.node_rules.specs.Points.{Point, reaches}
use Rattle.node_points.specs.declared.places.Passes.{Passes}
use Rattle.node_points.specs.declared.point.Side.{Side}
use Rattle.node_points.specs.declared.point.Side.TheVariants as sides
use Rattle.node_points.specs.Passing.{passes_as}
use Rattle.node_points.specs.Points.{numbers_on}
use Rattle.node_disk.specs.declared.effects.DurableTurn.{DurableTurn}
use Rattle.node_disk.specs.declared.err.CutAt.{CutAt}
use Rattle.node_disk.specs.declared.err.CutAt.TheVariants as cuts
use Rattle.node_disk.specs.declared.err.TurnErr.{TurnErr}
use Rattle.node_disk.specs.declared.err.TurnErr.TheVariants as errs
use Rattle.node_disk.specs.declared.err.Unwritten.{Unwritten}
use Rattle.node_disk.specs.declared.err.Unwritten.TheVariants as unwritten
use Rattle.node_disk.specs.OnDisk.{HoldsNext, turn_calls}

-- this is so of where a turn was cut, of its record and of the places that it passes
abbrev pub AtCut : (CutAt → Option RedoRecord → Option Passes → Type 0) → TurnErr → Type 0
AtCut P (errs.Cut c) = P c.at c.tried c.passes
AtCut P errs.NoMemory = Unit {0}

-- the same while it is not told yet
abbrev pub AtStop : (CutAt → Type 0) → Unwritten → Type 0
AtStop P (unwritten.Cut at) = P at
AtStop P unwritten.NoMemory = Unit {0}

-- a turn that was cut while this was to be told
abbrev pub CutsShort : DurableTurn → TurnErr → Type 0
CutsShort e (errs.Cut c) = (c.input ≡ e.input) × (c.tried ≡ e.wrote) × (c.passes ≡ e.passes)
CutsShort e errs.NoMemory = Unit {0}

-- ---- points

-- whether one of these points stops the node at the places of a side
abbrev pub stops : List Point → Side → Option Passes → Bool
stops points side None = false
stops points side (Some p) = reaches points (passes_as p).root (numbers_on side (passes_as p))

-- the points that are reached, by where the turn is cut: one before the record; none of those; none of those, and one after it
abbrev pub Stops : List Point → CutAt → Option Passes → Type 0
Stops points cuts.BeforeRecord p = stops points sides.Before p ≡ true
Stops points cuts.InAppend p = stops points sides.Before p ≡ false
Stops points cuts.AfterRecord p = (stops points sides.Before p ≡ false) × (stops points sides.After p ≡ true)

-- ---- the disk

-- the record that the disk failed to take is there
abbrev pub IsTried : CutAt → Option RedoRecord → Type 0
IsTried cuts.InAppend wrote = is_some wrote ≡ true
IsTried _ wrote = Unit {0}

-- before its record nothing is written; after it, the record is
abbrev pub CutStores : CutAt → Option RedoRecord → List ℕ → List ℕ → Type 0
CutStores cuts.BeforeRecord wrote before now = now ≡ before
CutStores cuts.InAppend wrote before now = Unit {0}
CutStores cuts.AfterRecord wrote before now = HoldsNext wrote before now

-- an append is cut where an order of the disk's plan strikes one of its calls, and nowhere else
abbrev pub CutByPlan : CutAt → Option RedoRecord → Option FaultPlan → Option FaultPlan → Type 0
CutByPlan cuts.BeforeRecord wrote before now = now ≡ before
CutByPlan cuts.InAppend wrote before now = CallsGoByPlan append_calls before now true
CutByPlan cuts.AfterRecord wrote before now = CallsGoByPlan (turn_calls wrote) before now false

-- the record of an append that failed stands where the plan says so, if the disk shows it
abbrev pub CutStands : CutAt → Option RedoRecord → Option FaultPlan → List ℕ → List ℕ → Type 0
CutStands cuts.InAppend (Some r) plan before now = GrowsByPlan plan r before now
CutStands _ wrote plan before now = Unit {0}
