use Rattle.script_run.proofs.Headlines.{with_status}
use Rattle.script_run.proofs.making.report_made.Goals as goal

pub returns-clause-run : goal.returns-clause-run
returns-clause-run g c = with_status c.args.run c.write_output-status.result c.requires.run
