use Rattle.byte_format.proofs.PartLaws.{pair_exact}
use Rattle.byte_format.proofs.laws.pair_is_exact.Goals as goal

pub returns : goal.returns
returns g c = pair_exact g.A.Field.format g.B.Field.format c.requires.first c.requires.second
