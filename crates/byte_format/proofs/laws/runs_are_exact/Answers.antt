use Rattle.byte_format.specs.Number.{number8, number16, number32}
use Rattle.byte_format.proofs.NumberLaws.{number8_exact, number16_exact, number32_exact}
use Rattle.byte_format.proofs.PartLaws.{run_exact}
use Rattle.byte_format.proofs.laws.runs_are_exact.Goals as goal

pub returns : goal.returns
returns c = record {
  one_byte = run_exact number8 number8_exact;
  two_bytes = run_exact number16 number16_exact;
  four_bytes = run_exact number32 number32_exact;
}
