use Rattle.commit_course_laws.proofs.CourseLemmas.{commits_end}
use Rattle.commit_course_laws.proofs.commits_end.Goals as goal

pub returns : goal.returns
returns c = commits_end
