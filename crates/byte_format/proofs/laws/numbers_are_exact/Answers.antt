use Rattle.byte_format.proofs.NumberLaws.{number8_exact, number16_exact, number32_exact, number48_exact, number64_exact, signed64_exact, flag_exact, constant_exact}
use Rattle.byte_format.proofs.laws.numbers_are_exact.Goals as goal

pub returns : goal.returns
returns c = record {
  one_byte = number8_exact;
  two_bytes = number16_exact;
  four_bytes = number32_exact;
  six_bytes = number48_exact;
  eight_bytes = number64_exact;
  signed = signed64_exact;
  flags = flag_exact;
  constants = constant_exact;
}
