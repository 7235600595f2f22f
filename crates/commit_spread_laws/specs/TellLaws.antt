-- Whom a branch tells a commit that it knows: its neighbours away from the commit point site. (Database Administrator's
-- Guide, "Distributed Transactions Concepts": commit phase.)
use Rattle.std.specs.Prelude.{◌≡◌, ◌≢◌, ℕ, ◌==◌, ◌⊎◌, Bool, true, false, Some}
use Rattle.agreement.specs.Events.{Beyond, Quiet, exit, Knows}
use Rattle.node_rules.specs.Data.{BranchId, Kind}
use Rattle.node_rules.specs.Data.kinds
use Rattle.run_base_laws.specs.InTurnLaws.{said_in}
use Rattle.run_rules.specs.Lawful.{History, IsLawfulRun, facts_at}
use Rattle.run_base_laws.specs.RunEvents.{events_of}
use Rattle.run_branch_laws.specs.WalkLaws.{was_sent}
use Rattle.tree_laws.specs.Forests.{forest_of}
use Rattle.commit_laws.specs.WaitLaws.{NodeHasStopped}

-- whether a message tells the commit of this SCN
abbrev pub is_commit_at : ℕ → Kind → Bool
is_commit_at n (kinds.Committed m) = m == n
is_commit_at n _ = false

-- In every lawful run a branch that has decided, or learned a commit, has told it to each neighbour beyond that is not gone
-- without changes, or its node has stopped since.
abbrev pub CommitsAreTold : Type 0
CommitsAreTold = (t : History) → IsLawfulRun t → (b x : BranchId) (n : ℕ) → Knows (events_of t) b n → Beyond (forest_of t) x b → exit (events_of t) x ≢ Some Quiet
    → (was_sent (is_commit_at n) (said_in (facts_at t)) b x ≡ true) ⊎ NodeHasStopped (facts_at t) b
