use Rattle.chart_marks.proofs.ArrowLemmas.{every_message}
use Rattle.chart_marks.proofs.laws.each_message_has_its_arrow.Goals as goal

pub returns : goal.returns
returns c = every_message
