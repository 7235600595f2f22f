-- Where all messages of a transaction came, and no node of its branches stopped, its decision has reached each sealed branch.
-- (Database Administrator's Guide, "Distributed Transactions Concepts": commit phase.)
use Rattle.std.specs.Prelude.{◌≡◌, ℕ, Some}
use Rattle.std.specs.List.{AllByRecursion}
use Rattle.agreement.specs.Events.{Sealed, Decided, exit, learned}
use Rattle.node_rules.specs.Data.{BranchId}
use Rattle.node_rules.specs.Data.decisions
use Rattle.run_rules.specs.Births.{Born, births_of}
use Rattle.run_base_laws.specs.BirthLaws.{Began}
use Rattle.run_rules.specs.Data.fates
use Rattle.run_rules.specs.Lawful.{History, IsLawfulRun, facts_at}
use Rattle.run_base_laws.specs.RunEvents.{events_of}
use Rattle.tree_laws.specs.Forests.{forest_of}
use Rattle.commit_laws.specs.WaitLaws.{NodeHasStopped}

-- All messages of a transaction came, and no node of its branches has stopped since they began.
pub record HasAllCome (t : History) (root : BranchId) : Type 0 where
  pub messages : AllByRecursion (λ x. (b : Born) → Began (births_of t) b → b.me ≡ x.msg.from → b.root ≡ root → x.fate ≡ fates.Delivered) (facts_at t).net.packets
  pub up : (b : Born) → Began (births_of t) b → b.root ≡ root → NodeHasStopped (facts_at t) b.me → ⊥

-- In every lawful run each sealed branch of such a transaction has learned the commit that its site decided.
abbrev pub CommitsReachAll : Type 0
CommitsReachAll = (t : History) → IsLawfulRun t → (root : BranchId) → HasAllCome t root → (n : ℕ) → exit (events_of t) ((forest_of t).site root) ≡ Some (Decided n)
    → (b : BranchId) (m : ℕ) → exit (events_of t) b ≡ Some (Sealed m) → (forest_of t).root b ≡ root → learned (events_of t) b ≡ Some (decisions.Commit n)
