use Rattle.commit_course_laws.proofs.CompleteLemmas.{every_undisturbed_commit_is_complete}
use Rattle.commit_course_laws.proofs.every_undisturbed_commit_is_complete.Goals as goal

pub returns : goal.returns
returns c = every_undisturbed_commit_is_complete
