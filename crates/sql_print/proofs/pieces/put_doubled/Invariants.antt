use Rattle.std.proofs.Common.{◌≡◌, ◌++◌, take}
use Rattle.std.specs.List.{flat_map}
use Rattle.dtx_values.specs.Texts.{quoted_byte}
use Rattle.sql_print.proofs.pieces.put_doubled.Given as goal

-- what was written of the bytes so far
abbrev pub invariant-loop-byte : goal.invariant-loop-byte
invariant-loop-byte l = l.out.items ≡ l.fn.out.items ++ flat_map quoted_byte (take l.byte-index l.bytes)
