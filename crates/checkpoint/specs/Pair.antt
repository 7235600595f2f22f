-- What two logs keep on their disks, and what their calls do.
use Rattle.std.specs.Prelude.{◌≡◌, ◌≢◌, ◌⊎◌, ℕ, Bool, true, false, not, List, [], ◌∷◌, ◌++◌, Some, Result, Ok, Err, IsErrOf}
use Rattle.block_disk.specs.declared.disk.Disk.{Ghosts}
use Rattle.redo_log.specs.Calls.{LoadFails}
use Rattle.redo_log.specs.Cells.{bodies, held}
use Rattle.redo_log.specs.Log.{disk_of, IsIntact, IsSettled}
use Rattle.redo_log.specs.Plans.{begin_calls, load_calls}
use Rattle.redo_log.specs.Runs.{HasRun, MetFault, IsUntouched}
use Rattle.redo_log.specs.declared.log.Log.{Log}
use Rattle.redo_log.specs.declared.err.LogErr.{LogErr}
use Rattle.redo_log.specs.declared.err.LogErr.TheVariants as of_append
use Rattle.redo_log.specs.declared.err.MakeWhy.{MakeWhy}
use Rattle.redo_log.specs.declared.err.MakeWhy.TheVariants as of_make
use Rattle.redo_log.specs.declared.err.LoadWhy.{LoadWhy}
use Rattle.redo_log.specs.declared.err.LoadWhy.TheVariants as of_load
use Rattle.checkpoint.specs.Active.{second_leads, picked, active_list, list_with}
use Rattle.checkpoint.specs.declared.err.PairErr.{PairErr}
use Rattle.checkpoint.specs.declared.two_logs.TwoLogs.{TwoLogs}

-- the first disk, or the second
abbrev pub disk_at : {D : Type 0} → Bool → TwoLogs D → D
disk_at is_second logs = picked is_second (disk_of logs.first) (disk_of logs.second)

-- the disk of the active log, and that of the other
abbrev pub active_disk : {D : Type 0} → TwoLogs D → D
active_disk logs = disk_at logs.second_is_active logs

abbrev pub spare_disk : {D : Type 0} → TwoLogs D → D
spare_disk logs = disk_at (not logs.second_is_active) logs

-- a call has answered Fault, or none
abbrev pub IsBroken : {D : Type 0} → TwoLogs D → Type 0
IsBroken logs = logs.broken ≡ true

abbrev pub IsWhole : {D : Type 0} → TwoLogs D → Type 0
IsWhole logs = logs.broken ≡ false

-- Both logs can be written on, and the active one is that of the two lists.
pub record IsPaired {D : Type 0} (content : D → List ℕ) (images : D → List ℕ → Type 0) (logs : TwoLogs D) : Type 0 where
  pub first : IsSettled content images logs.first
  pub first_intact : IsIntact logs.first
  pub second : IsSettled content images logs.second
  pub second_intact : IsIntact logs.second
  pub leads : second_leads (held (content (disk_of logs.first))) (held (content (disk_of logs.second))) ≡ logs.second_is_active

-- where no call has answered Fault, both logs can be written on
abbrev pub IsReady : {D : Type 0} → (D → List ℕ) → (D → List ℕ → Type 0) → TwoLogs D → Type 0
IsReady content images logs = IsWhole logs → IsPaired content images logs

-- ---- create and load

module _ {D : Type 0} (d : Ghosts D) where
  -- Two logs with no body were made, of which the first is the active one.
  pub record IsNewPair (first second : D) (logs : TwoLogs D) : Type 0 where
    pub first_made : bodies (d.content (disk_of logs.first)) ≡ Some []
    pub second_made : bodies (d.content (disk_of logs.second)) ≡ Some []
    pub active : logs.second_is_active ≡ false
    pub paired : IsPaired d.content d.images logs
    pub whole : IsWhole logs
    -- two calls were made on each, one of them a write
    pub first_run : HasRun d begin_calls first (disk_of logs.first)
    pub second_run : HasRun d begin_calls second (disk_of logs.second)

  -- a log was not made: a call failed, or nothing was done
  abbrev pub MakeFails : MakeWhy → D → D → Type 0
  MakeFails of_make.Fault before now = MetFault d begin_calls before now
  MakeFails of_make.NoMemory before now = IsUntouched d before now

  -- the first was not made, and nothing was done to the second; or the first was, and the second was not
  abbrev pub MakePairFails : MakeWhy → D → D → D → D → Type 0
  MakePairFails why first second first_now second_now = (MakeFails why first first_now × (second_now ≡ second)) ⊎ (HasRun d begin_calls first first_now × MakeFails why second second_now)

  -- The logs of two disks were loaded.
  pub record LoadsPair (first second : D) (logs : TwoLogs D) (list : List (List ℕ)) : Type 0 where
    -- these are the bodies of the active one, and there are some
    pub loaded : active_list (d.content first) (d.content second) ≡ Some list
    pub some : list ≢ []
    -- more can be appended
    pub paired : IsPaired d.content d.images logs
    pub whole : IsWhole logs
    -- the calls that read were made on the first and then on the second
    pub first_run : HasRun d (load_calls (d.content first)) first (disk_of logs.first)
    pub second_run : HasRun d (load_calls (d.content second)) second (disk_of logs.second)

  -- both were read, and have no body
  pub record HoldNothing (why : LoadWhy) (first second first_now second_now : D) : Type 0 where
    pub why_is : why ≡ of_load.NotALog
    pub first_empty : bodies (d.content first) ≡ Some []
    pub second_empty : bodies (d.content second) ≡ Some []
    pub first_run : HasRun d (load_calls (d.content first)) first first_now
    pub second_run : HasRun d (load_calls (d.content second)) second second_now

  -- the first was not loaded, and nothing was done to the second; or the first was, and the second was not; or both have no body
  abbrev pub LoadPairFails : LoadWhy → D → D → D → D → Type 0
  LoadPairFails why first second first_now second_now =
      (LoadFails d why first first_now × (second_now ≡ second)) ⊎ ((HasRun d (load_calls (d.content first)) first first_now × LoadFails d why second second_now) ⊎ HoldNothing why first second first_now second_now)

-- Two logs, of which a load gave these lists, are put together.
pub record IsPairOf {D : Type 0} (first : Log D) (first_list : List (List ℕ)) (second : Log D) (second_list : List (List ℕ)) (logs : TwoLogs D) (list : List (List ℕ)) : Type 0 where
  pub first_is : logs.first ≡ first
  pub second_is : logs.second ≡ second
  pub whole : IsWhole logs
  pub leads : logs.second_is_active ≡ second_leads first_list second_list
  -- the active list, which is not empty
  pub active : list ≡ picked (second_leads first_list second_list) first_list second_list
  pub some : list ≢ []

-- Both lists are empty, and the disks are given back.
pub record IsEmptyPair {D : Type 0} (first : Log D) (first_list : List (List ℕ)) (second : Log D) (second_list : List (List ℕ)) (err : PairErr D) : Type 0 where
  pub first_empty : first_list ≡ []
  pub second_empty : second_list ≡ []
  pub first_is : err.first ≡ disk_of first
  pub second_is : err.second ≡ disk_of second
  pub why_is : err.why ≡ of_load.NotALog

-- ---- append and swap

-- an image while a body is appended: with the other disk as it reads, a load gives the active list with the body or without
abbrev pub LoadsWithOrWithout : Bool → List ℕ → List (List ℕ) → List ℕ → List ℕ → Type 0
LoadsWithOrWithout is_second other list body image = (list_with is_second image other ≡ Some list) ⊎ (list_with is_second image other ≡ Some (list ++ body ∷ []))

-- an image while the logs change their places: with the other disk as it reads, a load gives the old active list, or the image alone
abbrev pub LoadsOldOrNew : Bool → List ℕ → List (List ℕ) → List ℕ → List ℕ → Type 0
LoadsOldOrNew is_second other list body image = (list_with is_second image other ≡ Some list) ⊎ (list_with is_second image other ≡ Some (body ∷ []))

-- whether a call has answered Fault
abbrev pub is_fault : {T : Type 0} → Result T LogErr → Bool
is_fault (Ok value) = false
is_fault (Err of_append.Fault) = true
is_fault (Err of_append.NoMemory) = false
is_fault (Err of_append.TooLong) = false

-- What two logs are after an append or a swap.
pub record GoesOnAfter {D T : Type 0} (d : Ghosts D) (result : Result T LogErr) (before now : TwoLogs D) : Type 0 where
  -- where they are not broken, they can be written on
  pub ready : IsReady d.content d.images now
  -- they are broken if this call answered Fault
  pub breaks : now.broken ≡ is_fault result
  -- where they were broken before, it answers Fault and does nothing
  pub stays_broken : IsBroken before → IsErrOf result of_append.Fault
  pub untouched : IsBroken before → now ≡ before
