use Rattle.std.proofs.Common.{◌≡◌, ◌-◌, length}
use Rattle.token_grammar.specs.Lexing.{quoted_from, quoted_at}
use Rattle.token_grammar.proofs.Quotes.{with_text}
use Rattle.token_grammar.proofs.lexing.quoted.Given as goal

abbrev pub invariant-loop : goal.invariant-loop
invariant-loop l = with_text l.text.items (quoted_from (length l.bytes - l.counter) l.rest) ≡ quoted_at l.bytes
