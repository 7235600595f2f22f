-- A node and its disk.
pub use Rattle.node_disk.specs.Spellable.{IsSpellable}
use Rattle.std.specs.Prelude.{◌≡◌, ℕ, Bool, List, [], Option, None, Some}
use Rattle.block_disk.specs.Images.{IsOnly}
use Rattle.redo_log.specs.Plans.{append_calls}
use Rattle.record_log.specs.Held.{HoldRecords, GrowsByRecord, HoldWithOrWithout}
use Rattle.record_log.specs.Log.{disk_of as disk_of_log, IsIntact, IsUsable}
use Rattle.record_log.specs.declared.log.RecordLog.{RecordLog}
use Rattle.node_rules.specs.Data.{RedoRecord, Place, Input}
use Rattle.node_rules.specs.NodeState.{Stored, NodeState, TurnOutput}
use Rattle.node_rules.specs.Records.{nothing_stored, stored_by}
use Rattle.node_rules.specs.Turn.{turn_of}
use Rattle.node_memory.specs.Parts.{stored_in, kept_in}
use Rattle.node_disk.specs.declared.node.Node.{Node}
use Rattle.node_disk.specs.declared.incoming.Incoming.{Incoming}
use Rattle.node_disk.specs.Incoming.{read_as, record_of}
use Rattle.node_disk.specs.Starts.{MayBeHad, IsButForAcks}

-- the place of a node
abbrev pub place_of : {D : Type 0} → Node D → Place
place_of node = node.memory.place

-- what it keeps
abbrev pub kept_of : {D : Type 0} → Node D → NodeState
kept_of node = kept_in node.memory

-- its disk
abbrev pub disk_of : {D : Type 0} → Node D → D
disk_of node = disk_of_log node.log

-- what the rules say of its turn
abbrev pub turn_at : {D : Type 0} → Node D → Input → TurnOutput
turn_at node input = turn_of (place_of node) (kept_of node) input

-- the bytes hold records that a node of so many undo extents may have, which say what is stored, but for Acks
abbrev pub StandsOn : ℕ → List ℕ → Stored → Type 0
StandsOn undo bytes s = (rs : List RedoRecord) × HoldRecords rs bytes × MayBeHad undo rs × IsButForAcks (stored_by nothing_stored rs) s

-- A log to which the records of a node of so many undo extents that stores this may be appended, and a crash leaves what a read gives.
pub record IsOpenFor {D : Type 0} (undo : ℕ) (content : D → List ℕ) (images : D → List ℕ → Type 0) (log : RecordLog D) (s : Stored) : Type 0 where
  pub usable : IsUsable content images log
  pub intact : IsIntact log
  pub durable : IsOnly (content (disk_of_log log)) (images (disk_of_log log))
  pub stands : StandsOn undo (content (disk_of_log log)) s

-- a node that is running
abbrev pub IsRunning : {D : Type 0} → (D → List ℕ) → (D → List ℕ → Type 0) → Node D → Type 0
IsRunning content images node = IsOpenFor (place_of node).undo content images node.log (stored_in node.memory)

-- the records of a disk become more by this one, where there is one
abbrev pub HoldsNext : Option RedoRecord → List ℕ → List ℕ → Type 0
HoldsNext None before now = now ≡ before
HoldsNext (Some r) before now = GrowsByRecord r before now

-- an image holds the records from before, with this one or without
abbrev pub ImageHolds : List RedoRecord → Option RedoRecord → List ℕ → Type 0
ImageHolds rs None image = HoldRecords rs image
ImageHolds rs (Some r) image = HoldWithOrWithout rs r image

-- the disk calls of a turn: those of an append, where there is a record
abbrev pub turn_calls : Option RedoRecord → List Bool
turn_calls None = []
turn_calls (Some r) = append_calls

-- the record that the turn of a node over this writes, where it writes one
abbrev pub record_at : {D : Type 0} → Node D → Incoming → Option RedoRecord
record_at node incoming = record_of (place_of node) (kept_of node) (read_as incoming)
