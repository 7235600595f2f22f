use Rattle.std.proofs.Common.{◌≡◌, ◌-◌, length}
use Rattle.token_grammar.specs.Steps.{many_at}
use Rattle.token_grammar.specs.Lexing.{any_byte, lexeme_at, lexemes_at}
use Rattle.token_grammar.proofs.Loop.{with_front}
use Rattle.token_grammar.proofs.lexing.lexemes.Given as goal

abbrev pub invariant-loop : goal.invariant-loop
invariant-loop l = with_front l.tokens.items (many_at (length l.bytes - l.counter) any_byte lexeme_at l.rest) ≡ lexemes_at l.bytes
