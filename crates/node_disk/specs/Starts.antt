-- What a node can start from.
use Rattle.std.specs.Prelude.{◌≡◌, ◌⊎◌, ◌+◌, ℕ, List, [], Option, Some, None}
use Rattle.block_disk.specs.Plan.{FaultPlan}
use Rattle.redo_log.specs.Log.{MayBeBegun}
use Rattle.redo_log.specs.Plans.{load_calls}
use Rattle.redo_log.specs.Stands.{stands_after}
use Rattle.record_log.specs.Held.{HoldRecords, HoldWithOrWithout, with_record_if}
use Rattle.node_rules.specs.Data.{RedoRecord}
use Rattle.node_rules.specs.Data.records
use Rattle.node_rules.specs.NodeState.{Stored}
use Rattle.node_rules.specs.Records.{nothing_stored, applied, stored_by}
use Rattle.node_ready_laws.specs.Following.{MayAllFollow}
use Rattle.node_ready_laws.specs.Sound.{AreSound, IsNext, with_rows}
use Rattle.node_undo_laws.specs.Fits.{FitsDoubts, AllFitDoubts}

-- Records that a node of so many undo extents may have: each may stand next behind those before it, is sound, and fits beside the
-- branches in doubt.
pub record MayBeHad (undo : ℕ) (rs : List RedoRecord) : Type 0 where
  pub follow : MayAllFollow nothing_stored rs
  pub sound : AreSound nothing_stored rs
  pub fit : AllFitDoubts undo nothing_stored rs

-- one more that it may have next
abbrev pub MayBeNext : ℕ → Stored → RedoRecord → Type 0
MayBeNext undo s r = IsNext s r × FitsDoubts undo s r

-- bytes that hold such records
abbrev pub IsStartable : ℕ → List ℕ → Type 0
IsStartable undo bytes = (rs : List RedoRecord) × HoldRecords rs bytes × MayBeHad undo rs

-- A node of so many undo extents can start from a disk, and from whatever a crash may leave of it.
pub record CanBeStarted {D : Type 0} (undo : ℕ) (content : D → List ℕ) (images : D → List ℕ → Type 0) (disk : D) : Type 0 where
  pub now : IsStartable undo (content disk)
  pub crashed : (image : List ℕ) → images disk image → IsStartable undo image

-- the number of the last start
abbrev pub last_boot : List RedoRecord → ℕ
last_boot rs = (stored_by nothing_stored rs).durable.boot

-- the record of the next start
abbrev pub next_boot : List RedoRecord → RedoRecord
next_boot rs = records.Boot (last_boot rs + 1)

-- after a start that met a fault the record of the start stands where the plan says so, if the disk shows it
abbrev pub StartIsLeft : Option FaultPlan → List ℕ → List ℕ → Type 0
StartIsLeft None before now = Unit {0}
StartIsLeft (Some plan) before now = (rs : List RedoRecord) → HoldRecords rs before → HoldRecords (with_record_if (stands_after (load_calls before) plan) rs (next_boot rs)) now

-- the same is stored, but for the Acks that were noted in rows of kept branches
abbrev pub IsButForAcks : Stored → Stored → Type 0
IsButForAcks s t = t ≡ with_rows s t.durable.kept

-- what is stored when a record stands next, where there is one
abbrev pub stored_next : Stored → Option RedoRecord → Stored
stored_next s None = s
stored_next s (Some r) = applied s r

-- while a node is made its disk holds nothing, or at most the record of its first start
abbrev pub MayBeMade : List ℕ → Type 0
MayBeMade image = MayBeBegun image ⊎ HoldWithOrWithout [] (records.Boot 1) image
