use Rattle.std.proofs.Common.{◌≡◌, take}
use Rattle.redo_record.proofs.kept_rows.KeptRowsDuplicate.copy.Given as goal

-- the copies of the rows so far
abbrev pub invariant-loop-row : goal.invariant-loop-row
invariant-loop-row l = l.rows.items ≡ take l.row-index l.held
