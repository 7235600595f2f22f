use Rattle.byte_format.proofs.PartLaws.{mapped_exact}
use Rattle.byte_format.proofs.laws.mapped_is_exact.Goals as goal

pub returns : goal.returns
returns g c = λ to from back forth. mapped_exact to from g.A.Field.format c.requires back forth
