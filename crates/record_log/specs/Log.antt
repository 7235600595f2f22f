-- A log of records and its disk.
use Rattle.std.specs.Prelude.{◌≡◌, ℕ, List, true, false}
use Rattle.redo_log.specs.Log.{disk_of as disk_of_bodies, IsIntact as IsIntactLog, IsSettled}
use Rattle.redo_log.specs.declared.log.Log.{Log}
use Rattle.record_log.specs.declared.log.RecordLog.{RecordLog}

-- the disk that a log stands on
abbrev pub disk_of : {D : Type 0} → RecordLog D → D
disk_of log = disk_of_bodies log.log

-- an append has answered Fault
abbrev pub IsBroken : {D : Type 0} → RecordLog D → Type 0
IsBroken log = log.broken ≡ true

-- no append has answered Fault
abbrev pub IsIntact : {D : Type 0} → RecordLog D → Type 0
IsIntact log = log.broken ≡ false

-- Bodies can be appended: the disk ends in a closed gate where the log says, and a crash leaves what a read gives.
pub record IsWritable {D : Type 0} (content : D → List ℕ) (images : D → List ℕ → Type 0) (log : Log D) : Type 0 where
  pub intact : IsIntactLog log
  pub settled : IsSettled content images log

-- where no append has answered Fault, records can be appended
abbrev pub IsUsable : {D : Type 0} → (D → List ℕ) → (D → List ℕ → Type 0) → RecordLog D → Type 0
IsUsable content images log = IsIntact log → IsWritable content images log.log
