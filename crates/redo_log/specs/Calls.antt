-- What the calls of a log do to its disk.
use Rattle.std.specs.Prelude.{◌≡◌, ◌≤◌, ◌⊎◌, ◌++◌, ◌∷◌, [], ℕ, Bool, false, List, length, Option, None, Some, Result, Ok, Err, IsErrOf}
use Rattle.block_disk.specs.declared.disk.Disk.{Ghosts}
use Rattle.block_disk.specs.Plan.{FaultPlan}
use Rattle.redo_log.specs.declared.log.Log.{Log}
use Rattle.redo_log.specs.declared.err.LogErr.{LogErr}
use Rattle.redo_log.specs.declared.err.LogErr.TheVariants.{Fault, NoMemory, TooLong}
use Rattle.redo_log.specs.declared.err.LoadWhy.{LoadWhy}
use Rattle.redo_log.specs.declared.err.LoadWhy.TheVariants as loads
use Rattle.redo_log.specs.Cells.{body_limit, bodies, held, log_of, GrowsBy}
use Rattle.redo_log.specs.Log.{disk_of, IsBroken, IsIntact, IsSettled, IsUsable}
use Rattle.redo_log.specs.Plans.{begin_calls, load_calls}
use Rattle.redo_log.specs.Runs.{HasRun, MetFault}
use Rattle.redo_log.specs.Stands.{HoldsByPlan}

-- ---- create and load

-- the calls before the bytes of a content are read: a sync, and its length
abbrev pub length_calls : List Bool
length_calls = false ∷ false ∷ []

module _ {D : Type 0} (d : Ghosts D) where
  -- A log was made on an empty disk.
  pub record IsNewLog (before : D) (log : Log D) : Type 0 where
    -- it has no body
    pub made : bodies (d.content (disk_of log)) ≡ Some []
    -- and nothing else stands on the disk
    pub exact : d.content (disk_of log) ≡ log_of []
    -- bodies can be appended
    pub settled : IsSettled d.content d.images log
    pub intact : IsIntact log
    -- two calls were made, one of them a write
    pub run : HasRun d begin_calls before (disk_of log)

  -- The log of a disk was loaded.
  pub record LoadsBodies (before : D) (log : Log D) (list : List (List ℕ)) : Type 0 where
    -- the disk holds these bodies
    pub loaded : bodies (d.content before) ≡ Some list
    -- more can be appended
    pub settled : IsSettled d.content d.images log
    pub intact : IsIntact log
    -- a sync and the calls that read were made
    pub run : HasRun d (load_calls (d.content before)) before (disk_of log)

  -- a load that failed: one of its calls did, or it read all and found no log, or it had no memory for what it was to read or has read
  abbrev pub LoadFails : LoadWhy → D → D → Type 0
  LoadFails loads.Fault before now = MetFault d (load_calls (d.content before)) before now
  LoadFails loads.NotALog before now = (bodies (d.content before) ≡ None) × HasRun d (load_calls (d.content before)) before now
  LoadFails loads.NoMemory before now = HasRun d length_calls before now ⊎ HasRun d (load_calls (d.content before)) before now

-- ---- append

-- Bytes that held a log hold one body more.
pub record GrowsByBody (body before now : List ℕ) : Type 0 where
  -- it is not too long
  pub fits : length body ≤ body_limit
  -- it stands behind those from before
  pub stored : bodies now ≡ Some (held before ++ body ∷ [])
  -- where nothing stood behind the log, nothing does now
  pub exact : GrowsBy body before now

-- bytes hold the bodies from before, and this one where it stands by the plan
abbrev pub HoldsAsPlanned : List ℕ → Option FaultPlan → List ℕ → List ℕ → Type 0
HoldsAsPlanned body plan before now = HoldsByPlan plan (held before) body now

-- a log is broken from the append on that answers Fault
abbrev pub BreaksOnFault : {T D : Type 0} → Result T LogErr → Log D → Type 0
BreaksOnFault (Ok value) log = IsIntact log
BreaksOnFault (Err Fault) log = IsBroken log
BreaksOnFault (Err NoMemory) log = IsIntact log
BreaksOnFault (Err TooLong) log = IsIntact log

-- What a log is after an append.
pub record GoesOnAfter {D T : Type 0} (d : Ghosts D) (result : Result T LogErr) (before now : Log D) : Type 0 where
  -- where it is not broken, bodies can be appended
  pub usable : IsUsable d.content d.images now
  -- it is broken if this append answered Fault
  pub breaks : BreaksOnFault result now
  -- where it was broken before, it answers Fault and does nothing
  pub stays_broken : IsBroken before → IsErrOf result Fault
  pub untouched : IsBroken before → disk_of now ≡ disk_of before
