use Rattle.commit_course_laws.proofs.CompleteLemmas.{lawful_commits_are_complete}
use Rattle.commit_course_laws.proofs.lawful_commits_are_complete.Goals as goal

pub returns : goal.returns
returns c = lawful_commits_are_complete
