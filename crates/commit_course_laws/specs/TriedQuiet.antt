-- Quiet COMMITs exist: the COMMIT of the tried script is one, and it is done when the script ends. Its transaction has changed a
-- row at each of two nodes, so it has a commit point site, a branch that is prepared, and five messages. In a script that ends
-- with a CREATE instead, the COMMIT that the CREATE makes first is one too.
use Rattle.std.specs.Prelude.{◌≡◌, codes, List, [], ◌∷◌, ◌++◌}
use Rattle.node_rules.specs.Data.{Stmt}
use Rattle.node_rules.specs.Data.stmts
use Rattle.run_rules.specs.Data.{Command}
use Rattle.run_rules.specs.Lawful.{History}
use Rattle.run_rules.specs.Scripts.{IsTheRunOf}
use Rattle.run_branch_laws.specs.TriedRun as tried
use Rattle.run_claims.specs.CommitCourse.{QuietCommit, IsDone}
use Rattle.run_claims.specs.Undisturbed.{Commit}
use Rattle.commit_course_laws.specs.TriedCourse.{asks, changes, script}

-- a second link
abbrev pub made : Stmt
made = stmts.CreateLink (record { name = codes "C"; target = codes "B" })

-- the same changes, and a CREATE in place of the COMMIT
abbrev pub creating : List Command
creating = changes ++ asks 1 made ∷ []

-- The run of a script has a quiet COMMIT, of the transaction of session 1 at A, and it is done.
pub record HasQuietCommit (asked : List Command) : Type 0 where
  pub history : History
  pub asks : history.commands ≡ asked
  pub run : IsTheRunOf history
  pub commit : Commit history.places history.commands history.trace
  pub root : commit.root ≡ tried.a
  pub quiet : QuietCommit history history.trace [] commit
  pub done : IsDone history history.trace commit

-- Both scripts have one.
pub record QuietCommitsExist : Type 0 where
  pub commits : HasQuietCommit script
  pub creates : HasQuietCommit creating
