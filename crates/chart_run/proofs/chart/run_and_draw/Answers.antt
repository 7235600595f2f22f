use Rattle.chart_run.proofs.EndingLemmas.{runs_too}
use Rattle.chart_run.proofs.chart.run_and_draw.Goals as goal

pub returns-clause-run : goal.returns-clause-run
returns-clause-run g c = runs_too _ _ _ _ c.run_source-status.result.status c.show-status.result c.show-status.ensures c.run_source-status.ensures.run
