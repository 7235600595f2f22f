use Rattle.byte_format.proofs.PartLaws.{optional_exact}
use Rattle.byte_format.proofs.laws.option_is_exact.Goals as goal

pub returns : goal.returns
returns g c = optional_exact g.F.Field.format c.requires
