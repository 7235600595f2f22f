use Rattle.commit_course_laws.proofs.CompleteLemmas.{every_undisturbed_commit_is_complete}
use Rattle.commit_length_laws.proofs.FewLemmas.{deliveries_stay_below}
use Rattle.commit_course_laws.proofs.QuietLemmas.{quiet_commits_follow}
use Rattle.commit_course_laws.proofs.quiet_commits_are_complete.Goals as goal

pub returns : goal.returns
returns c = quiet_commits_follow every_undisturbed_commit_is_complete deliveries_stay_below
