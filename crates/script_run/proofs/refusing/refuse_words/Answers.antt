use Rattle.script_run.proofs.Headlines.{with_status}
use Rattle.script_run.proofs.refusing.refuse_words.Goals as goal

pub returns-clause-run : goal.returns-clause-run
returns-clause-run g c = with_status c.empty-run.result c.explain_words-status.result c.empty-run.ensures.run
