use Rattle.field_codec.proofs.FieldLaws.{row_exact}
use Rattle.field_codec.proofs.row.take_row.Goals as goal

pub read_front-requires : goal.read_front-requires
read_front-requires c = row_exact
