-- What a turn, the making of a node and its start do to a disk.
use Rattle.std.specs.Prelude.{◌≡◌, ◌⊎◌, ◌∷◌, ◌++◌, [], Option, Some, None, List}
use Rattle.std.specs.List.{AllByRecursion}
use Rattle.block_disk.specs.declared.disk.Disk.{Ghosts}
use Rattle.redo_log.specs.Calls.{length_calls}
use Rattle.redo_log.specs.Plans.{append_calls, begin_calls, load_calls}
use Rattle.redo_log.specs.Runs.{IsUntouched, HasRun, MetFault, LeavesByPlan}
use Rattle.record_log.specs.Held.{HoldRecords, GrowsByPlan}
use Rattle.node_rules.specs.Data.{RedoRecord, Place}
use Rattle.node_rules.specs.Data.records
use Rattle.node_rules.specs.Points.{Point}
use Rattle.node_rules.specs.Turn.{start_of, made}
use Rattle.node_ready_laws.specs.Ready.{IsReady}
use Rattle.node_undo_laws.specs.Kept.{HasUndo}
use Rattle.node_disk.specs.declared.effects.DurableTurn.{DurableTurn}
use Rattle.node_disk.specs.declared.err.CutAt.{CutAt}
use Rattle.node_disk.specs.declared.err.CutAt.TheVariants as cuts
use Rattle.node_disk.specs.declared.err.CutTurn.{CutTurn}
use Rattle.node_disk.specs.declared.err.TurnErr.{TurnErr}
use Rattle.node_disk.specs.declared.err.TurnErr.TheVariants as errs
use Rattle.node_disk.specs.declared.incoming.Incoming.{Incoming}
use Rattle.node_disk.specs.declared.node.Node.{Node}
use Rattle.node_disk.specs.Cuts.{Stops}
use Rattle.node_disk.specs.Effects.{Tells, TellsPasses, IsMailed, GoesUncut, IsCutTurn}
use Rattle.node_disk.specs.Incoming.{IsReadAs}
use Rattle.node_disk.specs.OnDisk.{place_of, kept_of, disk_of, turn_at, turn_calls, IsRunning, HoldsNext}
use Rattle.node_disk.specs.Starts.{CanBeStarted, StartIsLeft, next_boot}

-- ---- turns

-- A turn tells what the rules say.
pub record TellsTurn {D : Type 0} (before now : Node D) (incoming : Incoming) (points : List Point) (e : DurableTurn) : Type 0 where
  -- what came is read so
  pub input : IsReadAs incoming e.input
  -- the rules say this of it: the record, the messages, the calls that end, and what the node keeps
  pub tells : Tells (turn_at before e.input) (kept_of now) e
  -- and these places of crash-test comments
  pub passes : TellsPasses (kept_of before) (turn_at before e.input) e
  -- the messages have their bytes
  pub mailed : AllByRecursion IsMailed e.sent
  -- no point was reached
  pub uncut : GoesUncut points e.passes

module _ {D : Type 0} (d : Ghosts D) where
  -- The record of a turn was written, where there is one.
  pub record HasWritten (wrote : Option RedoRecord) (before now : D) : Type 0 where
    -- it stands on the disk, and nothing else is new there
    pub stored : HoldsNext wrote (d.content before) (d.content now)
    -- the calls of an append were made, or none
    pub run : HasRun d (turn_calls wrote) before now

  -- The node can take its next turn.
  pub record TakesNext (node : Node D) : Type 0 where
    -- its log can take a record, a crash leaves what a read gives, and the records say what the node stores
    pub running : IsRunning d.content d.images node
    -- what it keeps is sound
    pub ready : IsReady (place_of node) (kept_of node)
    -- and it has the undo of its branches
    pub undo : HasUndo (place_of node) (kept_of node)

  -- The disk of a turn that was cut. Before its record, nothing was done to it; in its record, a call of the append failed, and there
  -- was a record to append; after its record, the record stands.
  abbrev pub CutLeaves : CutAt → Option RedoRecord → D → D → Type 0
  CutLeaves cuts.BeforeRecord wrote before now = IsUntouched d before now
  CutLeaves cuts.InAppend None before now = ⊥
  CutLeaves cuts.InAppend (Some r) before now = LeavesByPlan d (λ plan. GrowsByPlan plan r) before now
  CutLeaves cuts.AfterRecord wrote before now = HasWritten wrote before now

  -- A turn that was cut tells where.
  pub record TellsCut (before now : Node D) (incoming : Incoming) (points : List Point) (c : CutTurn) : Type 0 where
    -- what came is read so, and the record that was tried and the places are those that the rules say
    pub turn : IsCutTurn (kept_of before) (place_of before) incoming c
    -- before its record exactly if a point is reached there, after it exactly if none is and one is reached there
    pub stops : Stops points c.at c.passes
    -- what was done to the disk
    pub leaves : CutLeaves c.at c.tried (disk_of before) (disk_of now)

  -- a turn that came to no end was cut, or there was no memory for it and nothing was done to the disk
  abbrev pub EndsEarly : Node D → Node D → Incoming → List Point → TurnErr → Type 0
  EndsEarly before now incoming points (errs.Cut c) = TellsCut before now incoming points c
  EndsEarly before now incoming points errs.NoMemory = IsUntouched d (disk_of before) (disk_of now)

-- ---- make and start

module _ {D : Type 0} (d : Ghosts D) where
  -- A node was made.
  pub record IsNewNode (place : Place) (before : D) (node : Node D) : Type 0 where
    -- it keeps what a node does that was just made
    pub kept : kept_of node ≡ made
    pub place_is : place_of node ≡ place
    -- the record of its first start stands on the disk
    pub stored : HoldRecords (records.Boot 1 ∷ []) (d.content (disk_of node))
    -- it can take a turn, and a node can start from its disk
    pub next : TakesNext d node
    pub startable : CanBeStarted place.undo d.content d.images (disk_of node)
    -- the calls that begin a log were made, and those of an append
    pub run : HasRun d (begin_calls ++ append_calls) before (disk_of node)

  -- there was no memory to make a node: nothing was done, or its log has no record
  abbrev pub MakesNone : D → D → Type 0
  MakesNone before now = IsUntouched d before now ⊎ (HoldRecords [] (d.content now) × HasRun d begin_calls before now)

  -- A node was started whose disk held these records.
  pub record HasRestarted (place : Place) (rs : List RedoRecord) (before : D) (node : Node D) : Type 0 where
    -- it keeps what they say with the record of this start
    pub kept : kept_of node ≡ start_of (rs ++ next_boot rs ∷ [])
    pub place_is : place_of node ≡ place
    -- which stands on the disk behind them
    pub stored : HoldRecords (rs ++ next_boot rs ∷ []) (d.content (disk_of node))
    -- it can take a turn
    pub next : TakesNext d node
    -- the calls of a load were made, and those of an append
    pub run : HasRun d (load_calls (d.content before) ++ append_calls) before (disk_of node)

  -- A start met a fault.
  pub record StartMetFault (before now : D) : Type 0 where
    -- one of its calls failed
    pub run : MetFault d (load_calls (d.content before) ++ append_calls) before now
    -- the record of the start stands where the plan says so, if the disk shows it
    pub left : StartIsLeft (d.plan before) (d.content before) (d.content now)

  -- There was no memory for a start.
  pub record StartsNone (before now : D) : Type 0 where
    -- nothing was written
    pub content : d.content now ≡ d.content before
    -- it came as far as the disk's length, or read all
    pub run : HasRun d length_calls before now ⊎ HasRun d (load_calls (d.content before)) before now
