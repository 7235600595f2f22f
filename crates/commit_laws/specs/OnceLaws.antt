-- How often a branch asks a child to prepare: once at most. (Database Administrator's Guide, "Distributed Transactions Concepts":
-- prepare phase.)
use Rattle.std.specs.Prelude.{ℕ, ◌+◌, ◌≤◌, ◌&&◌, Bool, if◌then◌else◌, List, [], ◌∷◌}
use Rattle.node_rules.specs.Data.{BranchId, Kind, Post}
use Rattle.node_rules.specs.Words.{same}
use Rattle.run_base_laws.specs.InTurnLaws.{said_in}
use Rattle.run_rules.specs.Lawful.{History, IsLawfulRun, facts_at}
use Rattle.run_rules.specs.Trail.{is_prepare}

-- how many messages of a kind a branch sent to another
abbrev pub count_sent : (Kind → Bool) → List Post → BranchId → BranchId → ℕ
count_sent kind [] p c = 0
count_sent kind (m ∷ ms) p c = if (same m.from p && same m.to c) && kind m.kind then 1 + count_sent kind ms p c else count_sent kind ms p c

-- In every lawful run a branch sent Prepare to another at most once.
abbrev pub PreparesAreSentOnce : Type 0
PreparesAreSentOnce = (t : History) → IsLawfulRun t → (p c : BranchId) → count_sent is_prepare (said_in (facts_at t)) p c ≤ 1
