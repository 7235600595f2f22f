use Rattle.std.proofs.Common.{take}
use Rattle.std.specs.List.{All}
use Rattle.field_codec.specs.Table.{column_format}
use Rattle.field_codec.proofs.fits.columns_fit.Given as goal

-- the columns so far have spellings
abbrev pub invariant-loop-column : goal.invariant-loop-column
invariant-loop-column l = All column_format.Fits (take l.column-index l.columns)
