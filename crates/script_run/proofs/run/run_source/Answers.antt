use Rattle.script_run.proofs.Headlines.{with_status}
use Rattle.script_run.proofs.run.run_source.Goals as goal

pub returns-clause-run : goal.returns-clause-run
returns-clause-run g c = with_status c.empty.result c.match-this.status c.empty.ensures.run
