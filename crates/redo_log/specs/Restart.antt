-- A log that begins anew: its list is shut, and then one body is stored behind the first gate.
use Rattle.std.specs.Prelude.{◌≡◌, ◌⊎◌, ◌==◌, ◌≤◌, ℕ, Bool, true, false, not, if◌then◌else◌, List, [], ◌∷◌, length, Option, Some, None}
use Rattle.block_disk.specs.declared.disk.Disk.{Ghosts}
use Rattle.block_disk.specs.Images.{IsOnly}
use Rattle.block_disk.specs.Plan.{FaultPlan, strikes, left_by_plan}
use Rattle.redo_log.specs.Cells.{body_limit, bodies, held, IsClosed}
use Rattle.redo_log.specs.Log.{with_gate}
use Rattle.redo_log.specs.Plans.{append_calls}
use Rattle.redo_log.specs.Runs.{HasRun, MetFault}
use Rattle.redo_log.specs.Stands.{stands_by, stands_after}

-- ---- calls

-- the calls that shut a list: its first gate is written closed, and a sync
abbrev pub shut_calls : List Bool
shut_calls = true ∷ false ∷ []

-- the calls of a restart: a list with bodies is shut, and then comes an append
abbrev pub restart_calls : List (List ℕ) → List Bool
restart_calls [] = append_calls
restart_calls (first ∷ list) = true ∷ false ∷ append_calls

-- ---- what a crash may leave

-- an image while a list is shut: all is as before, or a closed gate stands first
abbrev pub MayBeShut : List ℕ → List ℕ → Type 0
MayBeShut before image = (image ≡ before) ⊎ IsClosed image

-- an image while bytes take the place of a list: the list is shut or as before, or they stand behind an open first gate
abbrev pub MayBeReplaced : List ℕ → List ℕ → List ℕ → Type 0
MayBeReplaced behind before image = MayBeShut before image ⊎ (image ≡ with_gate 1 0 behind before)

-- these bytes hold the bodies from before, or no body, or this one alone
abbrev pub HoldsOldOrNew : List (List ℕ) → List ℕ → List ℕ → Type 0
HoldsOldOrNew list body image = (bodies image ≡ Some list) ⊎ ((bodies image ≡ Some []) ⊎ (bodies image ≡ Some (body ∷ [])))

-- ---- what a failed call leaves, by the disk's plan

-- whether a gate that is not open stands first
abbrev pub is_shut : List ℕ → Bool
is_shut [] = false
is_shut (gate ∷ behind) = not (gate == 1)

-- whether the next write, of a closed gate over an open one, leaves a gate that is not open
abbrev pub shuts_gate : FaultPlan → Bool
shuts_gate plan = if strikes plan true then is_shut (left_by_plan plan (0 ∷ [])) else true

-- a list was shut, or all is as before
abbrev pub IsShutIf : Bool → List ℕ → List ℕ → Type 0
IsShutIf true before now = IsClosed now
IsShutIf false before now = now ≡ before

-- after a failed call that was to shut a list, it is shut where the plan says so, if the disk shows it
abbrev pub IsShutByPlan : Option FaultPlan → List ℕ → List ℕ → Type 0
IsShutByPlan None before now = Unit {0}
IsShutByPlan (Some plan) before now = IsShutIf (shuts_gate plan) before now

-- these bytes stand in the place of a list, or the list was shut, or all is as before
abbrev pub IsReplacedIf : Bool → Bool → List ℕ → List ℕ → List ℕ → Type 0
IsReplacedIf true shut behind before now = now ≡ with_gate 1 0 behind before
IsReplacedIf false shut behind before now = IsShutIf shut before now

-- after a failed call bytes stand in the place of this list where the plan says so, if the disk shows it
abbrev pub IsReplacedByPlan : Option FaultPlan → List (List ℕ) → List ℕ → List ℕ → List ℕ → Type 0
IsReplacedByPlan None list behind before now = Unit {0}
IsReplacedByPlan (Some plan) [] behind before now = IsReplacedIf (stands_by plan) true behind before now
IsReplacedByPlan (Some plan) (first ∷ list) behind before now = IsReplacedIf (stands_after shut_calls plan) (shuts_gate plan) behind before now

-- this body alone, or no body where the list was shut, or the list
abbrev pub replaced_if : Bool → Bool → List (List ℕ) → List ℕ → List (List ℕ)
replaced_if true shut list body = body ∷ []
replaced_if false true list body = []
replaced_if false false list body = list

-- the bodies after a failed restart
abbrev pub replaced_by_plan : FaultPlan → List (List ℕ) → List ℕ → List (List ℕ)
replaced_by_plan plan [] body = replaced_if (stands_by plan) true [] body
replaced_by_plan plan (first ∷ list) body = replaced_if (stands_after shut_calls plan) (shuts_gate plan) (first ∷ list) body

-- after a failed restart the bytes hold the bodies that the plan says, if the disk shows it
abbrev pub HoldsReplaced : Option FaultPlan → List (List ℕ) → List ℕ → List ℕ → Type 0
HoldsReplaced None list body image = Unit {0}
HoldsReplaced (Some plan) list body image = bodies image ≡ Some (replaced_by_plan plan list body)

-- ---- restart

module _ {D : Type 0} (d : Ghosts D) where
  -- A restart has done its work.
  pub record HasRestarted (body : List ℕ) (before now : D) : Type 0 where
    -- the body is not too long
    pub fits : length body ≤ body_limit
    -- it stands alone
    pub stored : bodies (d.content now) ≡ Some (body ∷ [])
    -- and a crash leaves just that
    pub durable : IsOnly (d.content now) (d.images now)
    -- the list was shut where it had bodies, and four calls were made, two of them writes
    pub run : HasRun d (restart_calls (held (d.content before))) before now

  -- A call of a restart failed.
  pub record LeavesOldOrNew (body : List ℕ) (before now : D) : Type 0 where
    -- it was one of those
    pub run : MetFault d (restart_calls (held (d.content before))) before now
    -- the disk holds what the plan says, if it shows it
    pub left : HoldsReplaced (d.plan before) (held (d.content before)) body (d.content now)
