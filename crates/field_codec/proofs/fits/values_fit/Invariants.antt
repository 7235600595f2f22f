use Rattle.std.proofs.Common.{take}
use Rattle.std.specs.List.{All}
use Rattle.field_codec.specs.Value.{value_format}
use Rattle.field_codec.proofs.fits.values_fit.Given as goal

-- the values so far have spellings
abbrev pub invariant-loop-value : goal.invariant-loop-value
invariant-loop-value l = All value_format.Fits (take l.value-index l.values)
