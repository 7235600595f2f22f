use Rattle.token_grammar.proofs.WholeLaws.{one_reading}
use Rattle.token_grammar.proofs.text.one_reading.Goals as goal

pub returns : goal.returns
returns g c = one_reading g.P.Part.grammar c.requires
