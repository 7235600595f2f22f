use Rattle.byte_format.proofs.FormatLaws.{has_one_reading, has_no_front}
use Rattle.byte_format.proofs.laws.has_one_reading.Goals as goal

pub returns : goal.returns
returns g c = record {
  one = has_one_reading g.F.Field.format c.requires;
  refused = has_no_front g.F.Field.format c.requires;
}
