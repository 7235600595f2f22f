use Rattle.field_codec.proofs.FieldLaws.{value_exact}
use Rattle.field_codec.proofs.value.take_value.Goals as goal

pub read_front-requires : goal.read_front-requires
read_front-requires c = value_exact
