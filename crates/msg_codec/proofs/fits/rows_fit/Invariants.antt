use Rattle.std.proofs.Common.{take}
use Rattle.std.specs.List.{All}
use Rattle.field_codec.specs.Value.{row_format}
use Rattle.msg_codec.proofs.fits.rows_fit.Given as goal

-- the rows so far have spellings
abbrev pub invariant-loop-row : goal.invariant-loop-row
invariant-loop-row l = All row_format.Fits (take l.row-index l.rows)
