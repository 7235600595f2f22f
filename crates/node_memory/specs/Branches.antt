-- What a node knows of a branch, where it stands in memory.
use Rattle.std.specs.Prelude.{◌≡◌, Option, Some, None}
use Rattle.std.specs.Option.{option_copied}
use Rattle.redo_record.specs.declared.durable.KeptRow.{KeptRow}
use Rattle.node_rules.specs.Data.{Live}
use Rattle.node_state.specs.Lives.{HasRoom}
use Rattle.node_rules.specs.NodeState.{Branch, work_or}
use Rattle.node_rules.specs.Turn.{BranchStatus as StandByRules, Is_live, Is_kept, Is_gone}
use Rattle.node_memory.specs.declared.branches.LiveBranch.{LiveBranch}
use Rattle.node_memory.specs.declared.branches.BranchStatus.{BranchStatus}
use Rattle.node_memory.specs.declared.branches.BranchStatus.TheVariants as stands

-- a live branch with its calls
abbrev pub branch_as : LiveBranch → Branch
branch_as x = record { live = x.live.now; work = work_or x.live.now.me (option_copied x.work) }

-- what a branch is
abbrev pub stand_as : BranchStatus → StandByRules
stand_as (stands.Live x) = Is_live (branch_as x)
stand_as (stands.Kept row) = Is_kept row.now
stand_as stands.Gone = Is_gone

-- the branch, where it is live
abbrev pub live_in : BranchStatus → Option Live
live_in (stands.Live x) = Some x.live.now
live_in _ = None

-- one that is kept has this row
abbrev pub HasRow : BranchStatus → Option KeptRow → Type 0
HasRow (stands.Kept row) s = Some row.now ≡ s
HasRow _ s = Unit {0}

-- one that is live has no more children than a tree has branches
abbrev pub HasRoomIn : BranchStatus → Type 0
HasRoomIn (stands.Live x) = HasRoom x.live.now
HasRoomIn _ = Unit {0}
