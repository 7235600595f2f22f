-- The second half of the law of commit SCNs: they are in order at each key. Of two committed transactions that changed one
-- key at a node the one that held it first has the lower SCN. (Database Administrator's Guide, "Distributed Transactions
-- Concepts": commit phase.)
use Rattle.std.specs.Prelude.{◌≡◌, ℕ, ◌<◌, ◌⊎◌, true, List, [], ◌∷◌, ◌++◌, Some, None}
use Rattle.agreement.specs.Events.{Forest, IsForest, Decided, exit, forced, site_of}
use Rattle.node_rules.specs.Data.{Change, BranchId, RedoRecord}
use Rattle.node_rules.specs.Data.records
use Rattle.run_rules.specs.Facts.{first_facts, records_at}
use Rattle.run_rules.specs.Lawful.{History, IsLawfulRun, facts_at}
use Rattle.run_base_laws.specs.RunEvents.{events_of}
use Rattle.run_branch_laws.specs.TreeJust.{GoByTree}
use Rattle.run_key_laws.specs.OrderLaws.{have_a_key_in_common}

-- a record is one of these
abbrev pub IsIn : RedoRecord → List RedoRecord → Type 0
IsIn r [] = ⊥
IsIn r (s ∷ rs) = (s ≡ r) ⊎ IsIn r rs

-- a branch seals or decides by a record
abbrev pub SealsOrDecides : BranchId → RedoRecord → Type 0
SealsOrDecides b (records.Sealed r) = r.me ≡ b
SealsOrDecides b (records.Decided r) = r.me ≡ b
SealsOrDecides b _ = ⊥

-- the changes of a branch that seals or decides
abbrev pub changes_by : RedoRecord → List Change
changes_by (records.Sealed r) = r.changes
changes_by (records.Decided r) = r.changes
changes_by _ = []

-- On a disk one branch left after another, and both changed one key.
pub record LeavesAfter (rs : List RedoRecord) (first second : BranchId) : Type 0 where
  pub older : List RedoRecord
  pub newer : List RedoRecord
  pub one : RedoRecord
  pub other : RedoRecord
  pub split : rs ≡ older ++ other ∷ newer
  pub before : IsIn one older
  pub leaves : SealsOrDecides first one
  pub leaves_after : SealsOrDecides second other
  pub common : have_a_key_in_common (changes_by one) (changes_by other) ≡ true

-- where the turns of a lawful run do what its session trees allow, the transaction of a branch that was never forced has a lower
-- SCN than that of a branch that left after it on one of its keys, where both were committed
abbrev pub CommitsComeInOrder : Type 0
CommitsComeInOrder = (r : History) → IsLawfulRun r → (p : Forest) → IsForest p → GoByTree p r.places r.commands (first_facts r.places) r.trace []
    → (n : ℕ) (first second : BranchId) (k m : ℕ) → LeavesAfter (records_at (facts_at r) n) first second → forced (events_of r) first ≡ None
    → exit (events_of r) (site_of p first) ≡ Some (Decided k) → exit (events_of r) (site_of p second) ≡ Some (Decided m) → k < m
