use Rattle.redo_codec.proofs.RecordLaws.{record_exact}
use Rattle.redo_codec.proofs.body.decode.Goals as goal

pub read_whole-requires : goal.read_whole-requires
read_whole-requires c = record_exact
