-- Which rows of a branch go.
use Rattle.std.specs.Prelude.{Bool}
use Rattle.redo_record.specs.Data.{BranchId, KeptRow}
use Rattle.redo_record.specs.Kept.{stands_at, is_done}
use Rattle.redo_record.specs.declared.search.Leaving.{Leaving}
use Rattle.redo_record.specs.declared.search.Leaving.TheVariants as leavings

-- the branch of a row
abbrev pub row_id : KeptRow → BranchId
row_id s = s.me

-- whether a row goes: any row of the branch, or one that is not mixed
abbrev pub leaves : Leaving → BranchId → KeptRow → Bool
leaves leavings.Any b s = stands_at b s
leaves leavings.Unmixed b s = is_done b s
