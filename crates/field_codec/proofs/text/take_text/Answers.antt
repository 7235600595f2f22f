use Rattle.field_codec.proofs.FieldLaws.{text_exact}
use Rattle.field_codec.proofs.text.take_text.Goals as goal

pub read_front-requires : goal.read_front-requires
read_front-requires c = text_exact
