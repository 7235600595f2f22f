use Rattle.image_codec.proofs.ImageLaws.{body_exact}
use Rattle.image_codec.proofs.body.decode.Goals as goal

pub read_whole-requires : goal.read_whole-requires
read_whole-requires c = body_exact
