-- Who holds the keys of a node: a live branch those that it has changed, a branch in doubt those of the changes that it
-- holds back; and no key is held twice. (Database Administrator's Guide, "Distributed Transactions Concepts": locks of
-- in-doubt transactions.)
use Rattle.std.specs.Prelude.{◌≡◌, ℕ, ◌&&◌, Bool, true, false, List, find, Option, Some, None}
use Rattle.std.specs.List.{AllByRecursion}
use Rattle.row_locks.specs.Locks.{Lock, is_lock_on, AreOnDistinctKeys}
use Rattle.node_rules.specs.Data.{Value, Change, BranchId, RedoRecord, Owned, Doubt}
use Rattle.node_rules.specs.Data.records
use Rattle.node_rules.specs.Words.{same, same_text}
use Rattle.node_rules.specs.Rows.{same_value}
use Rattle.node_undo_laws.specs.Changed.{changes_at}

-- whether the lock of a key passes a test
abbrev pub passes : (Lock → Bool) → Option Lock → Bool
passes test None = false
passes test (Some l) = test l

-- whether a branch has a lock for writing
abbrev pub is_written_by : BranchId → Lock → Bool
is_written_by b l = same l.branch b && l.writes

-- and is in doubt
abbrev pub is_doubted_by : BranchId → Lock → Bool
is_doubted_by b l = is_written_by b l && l.in_doubt

-- whether the lock of the key of a change passes a test
abbrev pub is_held : (Lock → Bool) → List Lock → List ℕ → Value → Bool
is_held test locks table key = passes test (find (is_lock_on table key) locks)

-- the keys of these changes are all held so
abbrev pub AreHeld : (Lock → Bool) → List Lock → List Change → Type 0
AreHeld test locks cs = AllByRecursion (λ c. is_held test locks c.table c.key ≡ true) cs

-- No key is held twice; each branch holds the keys that it has changed, for writing, and each branch in doubt those of the
-- changes that it holds back, in doubt.
pub record KeysHeld (locks : List Lock) (owns : List Owned) (ds : List Doubt) : Type 0 where
  pub apart : AreOnDistinctKeys locks
  pub own : (b : BranchId) → AreHeld (is_written_by b) locks (changes_at owns b)
  pub doubts : AllByRecursion (λ d. AreHeld (is_doubted_by d.branch) locks d.changes) ds

-- two changes are of one key
abbrev pub are_of_one_key : Change → Change → Bool
are_of_one_key c d = same_text c.table d.table && same_value c.key d.key

-- these changes and those have no key in common
abbrev pub HaveNoKeyInCommon : List Change → List Change → Type 0
HaveNoKeyInCommon cs ds = AllByRecursion (λ c. AllByRecursion (λ d. are_of_one_key c d ≡ false) ds) cs

-- no branch in doubt holds a key of these changes
abbrev pub AreFree : List Doubt → List Change → Type 0
AreFree doubts cs = AllByRecursion (λ d. HaveNoKeyInCommon d.changes cs) doubts

-- of a seal or a decision none does
abbrev pub ChangesFreeKeys : List Doubt → RedoRecord → Type 0
ChangesFreeKeys doubts (records.Sealed r) = AreFree doubts r.changes
ChangesFreeKeys doubts (records.Decided r) = AreFree doubts r.changes
ChangesFreeKeys doubts _ = Unit {0}
