-- What a run of disk calls does to a disk: its counts, its plan, and what it holds.
use Rattle.std.specs.Prelude.{◌≡◌, ◌≤◌, ◌⊎◌, ℕ, Bool, true, false, List, [], ◌∷◌, Option}
use Rattle.dtx_ports.specs.Causes.{Rose}
use Rattle.block_disk.specs.declared.disk.Disk.{Ghosts}
use Rattle.block_disk.specs.Counts.{next_count}
use Rattle.block_disk.specs.Images.{IsOnly, AtEachMoment}
use Rattle.block_disk.specs.Plan.{FaultPlan}
use Rattle.redo_log.specs.Plans.{CallsGoByPlan, append_calls}

-- ---- counts

-- the count of calls after these
abbrev pub call_count_after : List Bool → ℕ → ℕ
call_count_after [] count = count
call_count_after (is_write ∷ calls) count = call_count_after calls (next_count count)

-- the count of writes after one call more
abbrev pub write_count_next : Bool → ℕ → ℕ
write_count_next true count = next_count count
write_count_next false count = count

-- the count of writes after these calls
abbrev pub write_count_after : List Bool → ℕ → ℕ
write_count_after [] count = count
write_count_after (is_write ∷ calls) count = write_count_after calls (write_count_next is_write count)

-- the counts of calls and of writes after the first of these calls, or the first two, and so on to all of them
abbrev pub CountSome : List Bool → ℕ → ℕ → ℕ → ℕ → Type 0
CountSome [] calls writes calls_now writes_now = ⊥
CountSome (is_write ∷ more) calls writes calls_now writes_now =
    ((calls_now ≡ next_count calls) × (writes_now ≡ write_count_next is_write writes)) ⊎ CountSome more (next_count calls) (write_count_next is_write writes) calls_now writes_now

-- ---- runs

module _ {D : Type 0} (d : Ghosts D) where
  -- Nothing was done to a disk.
  pub record IsUntouched (before now : D) : Type 0 where
    -- it holds what it held
    pub content : d.content now ≡ d.content before
    -- no call has failed
    pub faults : d.faults now ≡ d.faults before
    -- and none was made
    pub calls : d.calls now ≡ d.calls before
    pub writes : d.writes now ≡ d.writes before
    -- no order was used up
    pub plan : d.plan now ≡ d.plan before

  -- These calls were made, and none failed.
  pub record HasRun (run : List Bool) (before now : D) : Type 0 where
    -- no call has failed
    pub faults : d.faults now ≡ d.faults before
    -- they are counted, and so are the writes among them
    pub calls : d.calls now ≡ call_count_after run (d.calls before)
    pub writes : d.writes now ≡ write_count_after run (d.writes before)
    -- where the disk shows its plan, no order strikes one of them
    pub plan : CallsGoByPlan run (d.plan before) (d.plan now) false

  -- One of these calls failed, and was the last that was made.
  pub record MetFault (run : List Bool) (before now : D) : Type 0 where
    -- the count of faults rose
    pub faults : Rose (d.faults before) (d.faults now)
    pub later : d.faults before ≤ d.faults now
    -- the calls are counted up to that one, and so are the writes among them
    pub counts : CountSome run (d.calls before) (d.writes before) (d.calls now) (d.writes now)
    -- where the disk shows its plan, an order strikes one of them
    pub plan : CallsGoByPlan run (d.plan before) (d.plan now) true

  -- A disk was only read.
  pub record IsOnlyRead (before now : D) : Type 0 where
    -- it holds what it held
    pub content : d.content now ≡ d.content before
    -- a crash at any moment leaves what one before might have left
    pub any_moment : AtEachMoment d.moment d.images_since before now (d.images before)

  -- An append has done its work.
  pub record HasGrown (Grows : List ℕ → List ℕ → Type 0) (before now : D) : Type 0 where
    -- what the disk holds has grown so
    pub grows : Grows (d.content before) (d.content now)
    -- and a crash leaves just that
    pub durable : IsOnly (d.content now) (d.images now)
    -- four calls were made, two of them writes
    pub run : HasRun append_calls before now

  -- A call of an append failed.
  pub record LeavesByPlan (Holds : Option FaultPlan → List ℕ → List ℕ → Type 0) (before now : D) : Type 0 where
    -- it was one of the four
    pub run : MetFault append_calls before now
    -- what was appended stands where the plan says so, if the disk shows it
    pub left : Holds (d.plan before) (d.content before) (d.content now)
