use Rattle.repeat_read_laws.proofs.TriedReadsLemmas.{the_tried_reads}
use Rattle.repeat_read_laws.proofs.the_tried_reads.Goals as goal

pub returns : goal.returns
returns c = the_tried_reads
