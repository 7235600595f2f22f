use Rattle.commit_course_laws.proofs.CommandLemmas.{commands_find_no_call}
use Rattle.commit_course_laws.proofs.commands_find_no_call.Goals as goal

pub returns : goal.returns
returns c = commands_find_no_call
