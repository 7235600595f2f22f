use Rattle.commit_course_laws.proofs.CommandLemmas.{hold_is_kept}
use Rattle.commit_course_laws.proofs.hold_is_kept.Goals as goal

pub returns : goal.returns
returns c = hold_is_kept
