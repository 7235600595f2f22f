-- A turn of a node, between what its node did and what the trace takes.
use Rattle.std.specs.Prelude.{◌≡◌, ◌≤◌, ℕ, Bool, true, false, List, Option, Some, None, IfSome}
use Rattle.std.specs.List.{AllByRecursion}
use Rattle.node_rules.specs.Data.{Input, RedoRecord}
use Rattle.node_rules.specs.Data.inputs
use Rattle.node_rules.specs.Words.{numbered}
use Rattle.node_rules.specs.Sessions.{session_at}
use Rattle.node_rules.specs.NodeState.{NodeState, TurnOutput}
use Rattle.node_rules.specs.Turn.{turn_of}
use Rattle.node_disk.specs.declared.effects.DurableTurn.{DurableTurn}
use Rattle.node_disk.specs.declared.err.CutTurn.{CutTurn}
use Rattle.node_disk.specs.declared.incoming.Incoming.{Incoming}
use Rattle.node_disk.specs.declared.incoming.Incoming.TheVariants as comings
use Rattle.node_disk.specs.declared.err.TurnErr.{TurnErr}
use Rattle.node_disk.specs.declared.err.TurnErr.TheVariants as errs
use Rattle.node_disk.specs.Incoming.{IsReadAs}
use Rattle.node_disk.specs.Effects.{TellsPasses, call_of, mailed, IsMailed}
use Rattle.node_points.specs.Passing.{passes_as}
use Rattle.node_rules.specs.Points.{passes}
use Rattle.std.specs.Prelude.{option_map, option_to_list, length, map, is_some, ◌++◌, ◌∷◌, []}
use Rattle.record_log.specs.Held.{HoldRecords}
use Rattle.run_rules.specs.Data.{Session, Took, Turn}
use Rattle.run_rules.specs.Data.happenings
use Rattle.run_rules.specs.Past.{next}
use Rattle.run_rules.specs.Facts.{node_at, place_at, records_at}
use Rattle.run_rules.specs.Cuts.{Cut_by, By_nothing, By_point, By_strike, cut_by}
use Rattle.run_rules.specs.RunReport.{orders_at}
use Rattle.run_rules.specs.Due.{Due, Delivers}
use Rattle.run_rules.specs.Lawful.{boots}
use Rattle.run_trace.specs.Recorded.{happening_limit, past_of}
use Rattle.run_report.specs.declared.turn.TurnFacts.{TurnFacts}
use Rattle.run_report.specs.Facts.{ReportsTurn}
use Rattle.world.specs.declared.slot.NodeSlot.{NodeSlot}
use Rattle.world.specs.declared.turning.Begun.{Begun}
use Rattle.world.specs.declared.world.World.{World}
use Rattle.world_parts.specs.Orders.{HasOrders, OrdersLeft, cut_orders, orders_if}
use Rattle.world.specs.Orders.{OrdersAre, OtherOrdersAre}
use Rattle.world.specs.Slots.{kept_at}
use Rattle.world.specs.Needs.{DeliveriesAreFew, DueTurnsCanBeTaken, IsOfScript, IsTurnDue, due_in}
use Rattle.world.specs.Linked.{CountsAgree, IsLinked, PartsAre}
use Rattle.world_parts.specs.Shown.{ShowDisks}
use Rattle.world.specs.NodeSlot.{site_kept, site_disk, bytes_of, images_of, RunsAt, OtherSitesAre}
use Rattle.node_disk.specs.Starts.{CanBeStarted}

-- the session that calls, where the input is a client's call
abbrev pub CallerIs : Incoming → Option NodeState → Session → Type 0
CallerIs (comings.Call session statement) o s = IfSome o (λ k. s ≡ session_at k.sessions session)
CallerIs _ o s = Unit {0}

-- of the node of a number
abbrev pub CallerAt : List NodeSlot → ℕ → Incoming → Session → Type 0
CallerAt slots n incoming s = CallerIs incoming (kept_at slots n) s

-- a turn takes a message where a delivery is due
abbrev pub TookIs : Due → Option Took → Type 0
TookIs (Delivers k again) took = took ≡ Some (record { number = k; again = again })
TookIs _ took = took ≡ None

-- What comes is read, and a turn of this node over it is due.
pub record IsComingDue (incoming : Incoming) (n : ℕ) (w : World) : Type 0 where
  pub reads : (input : Input) × IsReadAs incoming input
  pub due : (input : Input) → IsReadAs incoming input → IsTurnDue (past_of w.trace).facts (due_in w.trace) n input

-- Before a turn that is due: what is known then.
pub record IsReadied (begun : Begun) (incoming : Incoming) (w : World) : Type 0 where
  pub linked : IsLinked w
  pub orders : OrdersAre w
  pub turns : DueTurnsCanBeTaken
  pub deliveries : DeliveriesAreFew
  pub coming : IsComingDue incoming begun.node w
  pub took : TookIs (due_in w.trace) begun.took
  pub caller : CallerAt w.slots.items begun.node incoming begun.caller

-- whether the record of a cut turn stands
abbrev pub stands_by : Cut_by → Bool
stands_by By_nothing = false
stands_by (By_point root numbers stands) = stands
stands_by (By_strike stands) = stands

-- the caller of an input
abbrev pub CallerOf : NodeState → Input → Session → Type 0
CallerOf k (inputs.Call session statement) s = s ≡ session_at k.sessions session
CallerOf k _ s = Unit {0}

-- What a whole turn tells: its record, its messages with their bytes, and the calls that end.
pub record ReportsWholeTurn (o : TurnOutput) (e : DurableTurn) : Type 0 where
  pub wrote : e.wrote ≡ o.wrote
  pub sent : e.sent ≡ map mailed o.sent
  pub ended : map call_of e.ended ≡ o.ended

-- A turn over this input is due at a node that kept this before it, all other parts of the world are as before the turn, and the
-- turn is cut by this.
pub record TurnIsUnderWay (begun : Begun) (input : Input) (k : NodeState) (w : World) (by : Cut_by) : Type 0 where
  pub script : IsOfScript w.trace
  pub parts : PartsAre (past_of w.trace) w
  pub upright : (past_of w.trace).run_report.start_to_stop ≡ None
  pub counted : CountsAgree w
  pub others : OtherSitesAre begun.node w.trace.places (past_of w.trace) w.slots.items
  pub orders : OtherOrdersAre begun.node w
  pub shown : ShowDisks w.trace w.shown
  pub due : IsTurnDue (past_of w.trace).facts (due_in w.trace) begun.node input
  pub took : TookIs (due_in w.trace) begun.took
  pub few : (past_of w.trace).run_report.deliveries ≤ happening_limit
  pub up : node_at (past_of w.trace).facts begun.node ≡ Some k
  pub caller : CallerOf k input begun.caller
  pub boots : boots (records_at (past_of w.trace).facts begun.node ++ option_to_list (turn_of (place_at w.trace.places begun.node) k input).wrote) ≡ boots (records_at (past_of w.trace).facts begun.node)
  pub cut : cut_by (past_of w.trace).run_report begun.node k input (turn_of (place_at w.trace.places begun.node) k input) ≡ by

-- The site of a node whose turn came to this and was whole.
pub record IsTurned (w : World) (n : ℕ) (o : TurnOutput) (slot : NodeSlot) : Type 0 where
  pub kept : site_kept slot ≡ Some o.after
  pub runs : RunsAt (place_at w.trace.places n) slot
  pub holds : HoldRecords (records_at (past_of w.trace).facts n ++ option_to_list o.wrote) (bytes_of (site_disk slot))
  pub starts : CanBeStarted (place_at w.trace.places n).undo bytes_of images_of (site_disk slot)
  pub orders : HasOrders (orders_if (is_some o.wrote) (orders_at (past_of w.trace).run_report n)) (site_disk slot)

-- The node did this, and its record stands on its disk.
pub record IsDuringAt (begun : Begun) (e : DurableTurn) (w : World) (k : NodeState) : Type 0 where
  pub under_way : TurnIsUnderWay begun e.input k w By_nothing
  pub tells : ReportsWholeTurn (turn_of (place_at w.trace.places begun.node) k e.input) e
  pub passed : TellsPasses k (turn_of (place_at w.trace.places begun.node) k e.input) e
  pub mailed : AllByRecursion IsMailed e.sent
  pub slot : (s : NodeSlot) → numbered w.slots.items begun.node ≡ Some s → IsTurned w begun.node (turn_of (place_at w.trace.places begun.node) k e.input) s

-- A turn is told, and the trace has taken it.
pub record TurnIsReported (u : Turn) (facts : TurnFacts) (before after : World) : Type 0 where
  pub tells : ReportsTurn facts before.running before.run_report u after.run_report
  pub trace : after.trace ≡ record before.trace { happenings = before.trace.happenings ++ happenings.Turn u ∷ [] }
  pub past : past_of after.trace ≡ next before.trace.places before.trace.asked (past_of before.trace) (happenings.Turn u)
  pub few : length after.trace.happenings ≤ happening_limit

-- a whole turn whose node is done
abbrev pub IsDuring : Begun → DurableTurn → World → Type 0
IsDuring begun e w = (k : NodeState) × IsDuringAt begun e w k

-- the record of a cut turn, where it stands
abbrev pub stood : Bool → Option RedoRecord → Option RedoRecord
stood true tried = tried
stood false tried = None

-- The site of a node whose turn would have come to this, and was cut: the record stands on its disk where the definitions of a run
-- say so. An order may have stopped the disk.
pub record IsCutOff (w : World) (n : ℕ) (o : TurnOutput) (by : Cut_by) (slot : NodeSlot) : Type 0 where
  pub holds : HoldRecords (records_at (past_of w.trace).facts n ++ option_to_list (stood (stands_by by) o.wrote)) (bytes_of (site_disk slot))
  pub starts : CanBeStarted (place_at w.trace.places n).undo bytes_of images_of (site_disk slot)
  pub orders : OrdersLeft (cut_orders (is_some o.wrote) by (orders_at (past_of w.trace).run_report n)) (site_disk slot).orders

-- The turn was cut.
pub record IsCutDuringAt (begun : Begun) (c : CutTurn) (w : World) (k : NodeState) (by : Cut_by) : Type 0 where
  pub under_way : TurnIsUnderWay begun c.input k w by
  pub is_cut : (by ≡ By_nothing) → ⊥
  pub tried : c.tried ≡ (turn_of (place_at w.trace.places begun.node) k c.input).wrote
  pub passed : option_map passes_as c.passes ≡ passes k c.input (turn_of (place_at w.trace.places begun.node) k c.input)
  pub slot : (s : NodeSlot) → numbered w.slots.items begun.node ≡ Some s → IsCutOff w begun.node (turn_of (place_at w.trace.places begun.node) k c.input) by s

-- a cut turn whose node has to stop
abbrev pub IsCutDuring : Begun → CutTurn → World → Type 0
IsCutDuring begun c w = (k : NodeState) × (by : Cut_by) × IsCutDuringAt begun c w k by

-- why a turn came to no end
abbrev pub IsCutShort : Begun → TurnErr → World → Type 0
IsCutShort begun (errs.Cut c) w = IsCutDuring begun c w
IsCutShort begun errs.NoMemory w = Unit {0}
