use Rattle.std.proofs.Common.{◌≡◌, ◌-◌, length}
use Rattle.token_grammar.specs.Steps.{many_at}
use Rattle.token_grammar.proofs.Loop.{with_front}
use Rattle.token_grammar.proofs.repeated.many.Given as goal

-- the items so far and those still read are all that is read
abbrev pub invariant-loop : goal.invariant-loop
invariant-loop g l = with_front l.items.items (many_at (length l.tokens - l.counter) g.R.Repeated.starts g.R.Repeated.grammar.read l.rest) ≡ many_at (length l.tokens) g.R.Repeated.starts g.R.Repeated.grammar.read l.tokens
