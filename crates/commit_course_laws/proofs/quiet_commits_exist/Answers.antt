use Rattle.commit_course_laws.proofs.TriedQuietLemmas.{quiet_commits_exist}
use Rattle.commit_course_laws.proofs.quiet_commits_exist.Goals as goal

pub returns : goal.returns
returns c = quiet_commits_exist
