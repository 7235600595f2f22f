use Rattle.repeat_read_laws.proofs.BranchLemmas.{every_reader_reads_the_same}
use Rattle.repeat_read_laws.proofs.every_reader_reads_the_same.Goals as goal

pub returns : goal.returns
returns c = every_reader_reads_the_same
