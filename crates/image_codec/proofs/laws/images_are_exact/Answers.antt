use Rattle.byte_format.proofs.FormatLaws.{has_one_reading}
use Rattle.image_codec.specs.Image.{body_format}
use Rattle.image_codec.proofs.ImageLaws.{image_exact, body_exact}
use Rattle.image_codec.proofs.laws.images_are_exact.Goals as goal

pub returns : goal.returns
returns c = record { fields = image_exact; exact = body_exact; one = has_one_reading body_format body_exact }
