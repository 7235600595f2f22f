use Rattle.token_grammar.proofs.WholeLaws.{found, bad}
use Rattle.token_grammar.proofs.text.read_text.Goals as goal

pub returns-clause-found : goal.returns-clause-found
returns-clause-found g c = found g.P.Part.grammar c.requires c.args.text.now c.value_in.result c.value_in.ensures

pub returns-clause-bad : goal.returns-clause-bad
returns-clause-bad g c = bad g.P.Part.grammar c.requires c.args.text.now c.value_in.result c.value_in.ensures
