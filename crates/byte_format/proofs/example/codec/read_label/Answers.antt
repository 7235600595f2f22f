use Rattle.byte_format.proofs.ExampleLaws.{label_exact}
use Rattle.byte_format.proofs.example.codec.read_label.Goals as goal

pub read_whole-requires : goal.read_whole-requires
read_whole-requires c = label_exact
