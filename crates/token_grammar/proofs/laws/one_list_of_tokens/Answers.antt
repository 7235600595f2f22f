use Rattle.token_grammar.proofs.TextLaws.{one_list}
use Rattle.token_grammar.proofs.laws.one_list_of_tokens.Goals as goal

pub returns : goal.returns
returns c = one_list
