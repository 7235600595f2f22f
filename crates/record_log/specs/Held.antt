-- The records that the bytes of a disk hold, and how they become more.
use Rattle.std.specs.Prelude.{◌≡◌, ◌⊎◌, ℕ, Bool, true, false, List, [], ◌∷◌, ◌++◌, Option, Some, None}
use Rattle.std.specs.List.{AllByRecursion}
use Rattle.redo_record.specs.declared.record.RedoRecord.{RedoRecord}
use Rattle.redo_log.specs.Cells.{bodies}
use Rattle.block_disk.specs.Plan.{FaultPlan}
use Rattle.redo_log.specs.Log.{MayBeBegun}
use Rattle.redo_log.specs.Stands.{stands_by, stands_after}
use Rattle.record_log.specs.Records.{IsSpelled, bodies_of, disk_bytes}

-- The bytes hold these records: the bodies of their log are the records', each of which can be written. Anything may
-- stand behind the gate that ends the log.
pub record HoldRecords (rs : List RedoRecord) (bytes : List ℕ) : Type 0 where
  pub spelled : AllByRecursion IsSpelled rs
  pub held : bodies bytes ≡ Some (bodies_of rs)

-- The bytes are the log of these records, and nothing stands behind the gate that ends it.
pub record IsLogOf (rs : List RedoRecord) (bytes : List ℕ) : Type 0 where
  pub spelled : AllByRecursion IsSpelled rs
  pub content : bytes ≡ disk_bytes rs

-- bytes that held some records now hold these and one more
abbrev pub GrowsByRecord : RedoRecord → List ℕ → List ℕ → Type 0
GrowsByRecord r before now = (rs : List RedoRecord) → HoldRecords rs before → HoldRecords (rs ++ r ∷ []) now

-- the records, with one more where that stands
abbrev pub with_record_if : Bool → List RedoRecord → RedoRecord → List RedoRecord
with_record_if true rs r = rs ++ r ∷ []
with_record_if false rs r = rs

-- bytes that held some records now hold these, and one more where that stands
abbrev pub GrowsIf : Bool → RedoRecord → List ℕ → List ℕ → Type 0
GrowsIf stands r before now = (rs : List RedoRecord) → HoldRecords rs before → HoldRecords (with_record_if stands rs r) now

-- after a failed append the new record stands where the plan says so, if the disk shows it
abbrev pub GrowsByPlan : Option FaultPlan → RedoRecord → List ℕ → List ℕ → Type 0
GrowsByPlan None r before now = Unit {0}
GrowsByPlan (Some plan) r before now = GrowsIf (stands_by plan) r before now

-- the same for an append after these calls, where one of them or the append failed
abbrev pub GrowsByPlanAfter : List Bool → Option FaultPlan → RedoRecord → List ℕ → List ℕ → Type 0
GrowsByPlanAfter calls None r before now = Unit {0}
GrowsByPlanAfter calls (Some plan) r before now = GrowsIf (stands_after calls plan) r before now

-- bytes that were the log of some records alone now are that of these and one more
abbrev pub GrowsExactly : RedoRecord → List ℕ → List ℕ → Type 0
GrowsExactly r before now = (rs : List RedoRecord) → IsLogOf rs before → IsLogOf (rs ++ r ∷ []) now

-- these bytes hold the records, with one more or without it
abbrev pub HoldWithOrWithout : List RedoRecord → RedoRecord → List ℕ → Type 0
HoldWithOrWithout rs r image = HoldRecords rs image ⊎ HoldRecords (rs ++ r ∷ []) image

-- no bytes hold two lists of records
abbrev pub HoldOneList : Type 0
HoldOneList = (bytes : List ℕ) (rs others : List RedoRecord) → HoldRecords rs bytes → HoldRecords others bytes → rs ≡ others

-- the log of records alone holds these records
abbrev pub LogsHold : Type 0
LogsHold = (bytes : List ℕ) (rs : List RedoRecord) → IsLogOf rs bytes → HoldRecords rs bytes

-- while a log is begun, what a crash leaves holds no record
abbrev pub BegunHoldNone : Type 0
BegunHoldNone = (image : List ℕ) (rs : List RedoRecord) → MayBeBegun image → HoldRecords rs image → rs ≡ []
