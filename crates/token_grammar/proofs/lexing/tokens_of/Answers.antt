use Rattle.token_grammar.proofs.TextLaws.{tokens_found, tokens_bad}
use Rattle.token_grammar.proofs.lexing.tokens_of.Goals as goal

pub returns-clause-found : goal.returns-clause-found
returns-clause-found c = tokens_found c.args.text.now c.lex.result c.lex.ensures

pub returns-clause-bad : goal.returns-clause-bad
returns-clause-bad c = tokens_bad c.args.text.now c.lex.result c.lex.ensures
