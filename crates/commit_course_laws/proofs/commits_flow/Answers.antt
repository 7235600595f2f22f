use Rattle.commit_course_laws.proofs.CourseLemmas.{commits_flow}
use Rattle.commit_course_laws.proofs.commits_flow.Goals as goal

pub returns : goal.returns
returns c = commits_flow
