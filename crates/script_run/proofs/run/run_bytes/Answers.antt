use Rattle.script_run.proofs.Headlines.{stands_too, with_status}
use Rattle.script_run.proofs.run.run_bytes.Goals as goal

pub returns-in-Err-NoMemory-clause-run : goal.returns-in-Err-NoMemory-clause-run
returns-in-Err-NoMemory-clause-run g c = stands_too c.empty.result c.empty.ensures.run

pub returns-in-Err-Bad-clause-run : goal.returns-in-Err-Bad-clause-run
returns-in-Err-Bad-clause-run g c = with_status c.empty-in-Err-Bad.result c.explain_line.result c.empty-in-Err-Bad.ensures.run

pub returns-in_default-clause-run : goal.returns-in_default-clause-run
returns-in_default-clause-run g c = stands_too c.empty-in_default.result c.empty-in_default.ensures.run
