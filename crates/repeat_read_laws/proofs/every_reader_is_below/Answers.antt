use Rattle.repeat_read_laws.proofs.ReaderLemmas.{every_reader_is_below}
use Rattle.repeat_read_laws.proofs.every_reader_is_below.Goals as goal

pub returns : goal.returns
returns c = every_reader_is_below
