-- What an undisturbed COMMIT comes to in the middle of a run: at the moment at which nothing is in flight any more it is
-- complete, whatever comes later. (Database Administrator's Guide, "Distributed Transactions Concepts": two-phase commit
-- mechanism.)
use Rattle.std.specs.Prelude.{◌≡◌, List, ◌++◌}
use Rattle.run_rules.specs.Data.{Happening}
use Rattle.run_rules.specs.Lawful.{History, IsLawfulRun}
use Rattle.run_claims.specs.Undisturbed.{Commit, Undisturbed, CommitIsComplete}

-- Each COMMIT of a run that was undisturbed up to some moment is complete then.
abbrev pub CommitsAreComplete : History → Type 0
CommitsAreComplete t = (front later : List Happening) → front ++ later ≡ t.trace → (c : Commit t.places t.commands front) → Undisturbed t.places t.commands front c → CommitIsComplete t.places t.commands front c

-- So it is of every lawful run.
abbrev pub LawfulCommitsAreComplete : Type 0
LawfulCommitsAreComplete = (t : History) → IsLawfulRun t → CommitsAreComplete t
