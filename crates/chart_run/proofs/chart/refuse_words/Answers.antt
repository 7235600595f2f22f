use Rattle.script_run.proofs.Headlines.{with_status}
use Rattle.chart_run.proofs.chart.refuse_words.Goals as goal

pub returns-clause-run : goal.returns-clause-run
returns-clause-run g c = with_status c.empty-run.result c.explain-status.result c.empty-run.ensures.run
