-- What comes to the node of a site, and what its turn leaves.
use Rattle.std.specs.Prelude.{◌≡◌, false, List, Some}
use Rattle.std.specs.List.{AllByRecursion}
use Rattle.block_disk.specs.MemDisk.{DiskState}
use Rattle.block_disk.specs.Orders.{plan_of}
use Rattle.redo_log.specs.Plans.{CallsGoByPlan}
use Rattle.node_rules.specs.Data.{Input}
use Rattle.node_rules.specs.Points.{Point}
use Rattle.node_core.specs.Able.{MayTake}
use Rattle.node_disk.specs.declared.effects.DurableTurn.{DurableTurn}
use Rattle.node_disk.specs.declared.err.TurnErr.{TurnErr}
use Rattle.node_disk.specs.declared.incoming.Incoming.{Incoming}
use Rattle.node_disk.specs.declared.node.Node.{Node}
use Rattle.node_disk.specs.Cuts.{AtCut, CutByPlan, CutStands, CutStores, IsTried, Stops}
use Rattle.node_disk.specs.Effects.{GoesUncut, IsCut, Tells, TellsPasses, IsMailed}
use Rattle.node_disk.specs.Incoming.{IsReadAs}
use Rattle.node_disk.specs.OnDisk.{disk_of, kept_of, place_of, turn_at, turn_calls, IsRunning, IsSpellable, HoldsNext}
use Rattle.node_disk.specs.Starts.{CanBeStarted}
use Rattle.world.specs.declared.slot.NodeSlot.{NodeSlot}
use Rattle.world.specs.declared.slot.NodeSlot.TheVariants.{Up, Down}
use Rattle.world.specs.NodeSlot.{bytes_of, images_of}

-- A node that can take what comes.
pub record NodeCanServe (node : Node DiskState) (incoming : Incoming) : Type 0 where
  pub running : IsRunning bytes_of images_of node
  pub reads : (input : Input) × IsReadAs incoming input
  pub takes : (input : Input) → IsReadAs incoming input → MayTake (place_of node) (kept_of node) input
  pub spellable : (input : Input) → IsReadAs incoming input → IsSpellable (turn_at node input)

-- the node of a site is up and can take it
abbrev pub CanServe : NodeSlot → Incoming → Type 0
CanServe (Up node) incoming = NodeCanServe node incoming
CanServe (Down disk) incoming = ⊥

-- What a node has done whose turn was whole.
pub record NodeServed (before after : Node DiskState) (incoming : Incoming) (points : List Point) (e : DurableTurn) : Type 0 where
  pub input : IsReadAs incoming e.input
  pub tells : Tells (turn_at before e.input) (kept_of after) e
  pub passed : TellsPasses (kept_of before) (turn_at before e.input) e
  pub mailed : AllByRecursion IsMailed e.sent
  pub uncut : GoesUncut points e.passes
  pub stored : HoldsNext e.wrote (bytes_of (disk_of before)) (bytes_of (disk_of after))
  pub goes : CallsGoByPlan (turn_calls e.wrote) (Some (plan_of (disk_of before).orders)) (Some (plan_of (disk_of after).orders)) false
  pub running : IsRunning bytes_of images_of after
  pub place : place_of after ≡ place_of before
  pub starts : CanBeStarted (place_of before).undo bytes_of images_of (disk_of after)

-- the node of a site has
abbrev pub HasServed : NodeSlot → NodeSlot → Incoming → List Point → DurableTurn → Type 0
HasServed (Up before) (Up after) incoming points e = NodeServed before after incoming points e
HasServed _ _ incoming points e = ⊥

-- What a turn leaves that came to no end: where it was cut, by the points that were reached and by the plan of the disk.
pub record NodeFailed (before after : Node DiskState) (incoming : Incoming) (points : List Point) (err : TurnErr) : Type 0 where
  pub is_cut : IsCut (kept_of before) (place_of before) incoming err
  pub stops : AtCut (λ place wrote passes. Stops points place passes) err
  pub tried : AtCut (λ place wrote passes. IsTried place wrote) err
  pub stored : AtCut (λ place wrote passes. CutStores place wrote (bytes_of (disk_of before)) (bytes_of (disk_of after))) err
  pub goes : AtCut (λ place wrote passes. CutByPlan place wrote (Some (plan_of (disk_of before).orders)) (Some (plan_of (disk_of after).orders))) err
  pub stands : AtCut (λ place wrote passes. CutStands place wrote (Some (plan_of (disk_of before).orders)) (bytes_of (disk_of before)) (bytes_of (disk_of after))) err
  pub starts : CanBeStarted (place_of before).undo bytes_of images_of (disk_of after)

-- the node of a site came to no end
abbrev pub HasFailed : NodeSlot → NodeSlot → Incoming → List Point → TurnErr → Type 0
HasFailed (Up before) (Up after) incoming points err = NodeFailed before after incoming points err
HasFailed _ _ incoming points err = ⊥
