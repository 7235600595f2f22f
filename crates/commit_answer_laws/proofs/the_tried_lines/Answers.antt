use Rattle.commit_answer_laws.proofs.TriedLinesLemmas.{the_tried_lines}
use Rattle.commit_answer_laws.proofs.the_tried_lines.Goals as goal

pub returns : goal.returns
returns c = the_tried_lines
