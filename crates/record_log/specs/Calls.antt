-- What the calls of a log of records do to its disk.
use Rattle.std.specs.Prelude.{◌≡◌, ◌⊎◌, [], ℕ, List, Result, Ok, Err, IsErrOf}
use Rattle.block_disk.specs.declared.disk.Disk.{Ghosts}
use Rattle.block_disk.specs.Images.{IsOnly}
use Rattle.redo_log.specs.Calls.{length_calls}
use Rattle.redo_log.specs.Plans.{begin_calls, load_calls}
use Rattle.redo_log.specs.Runs.{HasRun, MetFault}
use Rattle.redo_record.specs.declared.record.RedoRecord.{RedoRecord}
use Rattle.record_log.specs.declared.err.AppendErr.{AppendErr}
use Rattle.record_log.specs.declared.err.AppendErr.TheVariants as appends
use Rattle.record_log.specs.declared.err.LoadWhy.{LoadWhy}
use Rattle.record_log.specs.declared.err.LoadWhy.TheVariants as loads
use Rattle.record_log.specs.declared.log.RecordLog.{RecordLog}
use Rattle.record_log.specs.Held.{HoldRecords, GrowsByRecord, GrowsExactly}
use Rattle.record_log.specs.Log.{disk_of, IsBroken, IsIntact, IsUsable}
use Rattle.record_log.specs.Records.{disk_bytes}

-- A log that can take its next record.
pub record IsReadyLog {D : Type 0} (d : Ghosts D) (log : RecordLog D) : Type 0 where
  -- records can be appended
  pub usable : IsUsable d.content d.images log
  pub intact : IsIntact log
  -- a crash leaves what a read gives
  pub durable : IsOnly (d.content (disk_of log)) (d.images (disk_of log))

-- ---- create and load

module _ {D : Type 0} (d : Ghosts D) where
  -- A log of records was made on an empty disk.
  pub record IsNewRecordLog (before : D) (log : RecordLog D) : Type 0 where
    -- it has no record
    pub made : HoldRecords [] (d.content (disk_of log))
    -- and nothing else stands on the disk
    pub exact : d.content (disk_of log) ≡ disk_bytes []
    -- records can be appended
    pub ready : IsReadyLog d log
    -- two calls were made, one of them a write
    pub run : HasRun d begin_calls before (disk_of log)

  -- The log of a disk was loaded.
  pub record LoadsRecords (before : D) (log : RecordLog D) (rs : List RedoRecord) : Type 0 where
    -- the disk holds these records
    pub found : HoldRecords rs (d.content before)
    -- and no others
    pub only : (others : List RedoRecord) → HoldRecords others (d.content before) → rs ≡ others
    -- more can be appended
    pub ready : IsReadyLog d log
    -- a sync and the calls that read were made
    pub run : HasRun d (load_calls (d.content before)) before (disk_of log)

  -- a load that failed: one of its calls did, or it had no memory for what it was to read or has read
  abbrev pub NotLoaded : LoadWhy → D → D → Type 0
  NotLoaded loads.Fault before now = MetFault d (load_calls (d.content before)) before now
  NotLoaded loads.NoMemory before now = HasRun d length_calls before now ⊎ HasRun d (load_calls (d.content before)) before now

-- ---- append

-- Bytes that held records hold one more.
pub record GainsRecord (r : RedoRecord) (before now : List ℕ) : Type 0 where
  -- it stands behind those from before
  pub stored : GrowsByRecord r before now
  -- where nothing stood behind their log, nothing does now
  pub exact : GrowsExactly r before now

-- a log of records is broken from the append on that answers Fault
abbrev pub BreaksAtFault : {T D : Type 0} → Result T AppendErr → RecordLog D → Type 0
BreaksAtFault (Ok value) log = IsIntact log
BreaksAtFault (Err appends.Fault) log = IsBroken log
BreaksAtFault (Err appends.NoMemory) log = IsIntact log

-- What a log of records is after an append.
pub record IsLogAfter {D T : Type 0} (d : Ghosts D) (result : Result T AppendErr) (before now : RecordLog D) : Type 0 where
  -- where it is not broken, records can be appended
  pub usable : IsUsable d.content d.images now
  -- it is broken if this append answered Fault
  pub breaks : BreaksAtFault result now
  -- where it was broken before, it answers Fault and does nothing
  pub stays_broken : IsBroken before → IsErrOf result appends.Fault
  pub untouched : IsBroken before → disk_of now ≡ disk_of before
