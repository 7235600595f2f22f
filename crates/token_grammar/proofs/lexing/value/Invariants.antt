use Rattle.std.proofs.Common.{◌≡◌, ◌<◌, ◌^◌, drop}
use Rattle.token_grammar.specs.Bytes.{value_from}
use Rattle.token_grammar.proofs.lexing.value.Given as goal

abbrev pub invariant-loop-digit : goal.invariant-loop-digit
invariant-loop-digit l = (l.value < 2 ^ 64) × (value_from l.value (drop l.digit-index l.digits) ≡ value_from 0 l.digits)
