use Rattle.field_codec.proofs.FieldLaws.{name_exact}
use Rattle.field_codec.proofs.name.take_name.Goals as goal

pub read_front-requires : goal.read_front-requires
read_front-requires c = name_exact
