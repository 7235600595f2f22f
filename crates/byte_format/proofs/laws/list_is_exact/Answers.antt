use Rattle.byte_format.specs.Number.{number8, number32}
use Rattle.byte_format.proofs.NumberLaws.{number8_exact, number32_exact}
use Rattle.byte_format.proofs.SeveralLaws.{counted_exact}
use Rattle.byte_format.proofs.laws.list_is_exact.Goals as goal

pub returns : goal.returns
returns g c = record {
  one_byte = counted_exact g.F.Field.format c.requires number8 number8_exact;
  four_bytes = counted_exact g.F.Field.format c.requires number32 number32_exact;
}
