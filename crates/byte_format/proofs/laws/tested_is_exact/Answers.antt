use Rattle.byte_format.proofs.PartLaws.{tested_exact}
use Rattle.byte_format.proofs.laws.tested_is_exact.Goals as goal

pub returns : goal.returns
returns g c = λ test. tested_exact test g.F.Field.format c.requires
