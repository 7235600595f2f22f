use Rattle.field_codec.proofs.FieldLaws.{change_exact}
use Rattle.field_codec.proofs.change.take_change.Goals as goal

pub read_front-requires : goal.read_front-requires
read_front-requires c = change_exact
