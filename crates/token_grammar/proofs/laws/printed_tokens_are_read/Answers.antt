use Rattle.token_grammar.proofs.PrintLaws.{printed_tokens}
use Rattle.token_grammar.proofs.laws.printed_tokens_are_read.Goals as goal

pub returns : goal.returns
returns c = printed_tokens
