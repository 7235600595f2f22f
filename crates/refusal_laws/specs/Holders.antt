-- Whose the locks of a node are. A lock in doubt is of a branch in doubt, on a key that this branch has changed; each other lock is of a
-- branch that is live. So a key is in doubt at its node exactly where it is by the book. (Database Administrator's Guide,
-- "Distributed Transactions Concepts": locks of in-doubt transactions.)
use Rattle.std.specs.Prelude.{◌≡◌, ℕ, ◌&&◌, Bool, true, if◌then◌else◌, List, find, Option, Some}
use Rattle.std.specs.List.{AllByRecursion, list_any}
use Rattle.row_locks.specs.Back.{is_changed_in}
use Rattle.row_locks.specs.Held.{doubt_on}
use Rattle.row_locks.specs.Locks.{Lock}
use Rattle.node_rules.specs.Data.{Value, BranchId, Live, Doubt}
use Rattle.node_rules.specs.Words.{same, is_item_of}
use Rattle.node_rules.specs.NodeState.{NodeState, live_id}
use Rattle.run_rules.specs.Book.{changes_of, in_doubt}
use Rattle.run_rules.specs.Data.{Entry}
use Rattle.run_rules.specs.Facts.{node_at}
use Rattle.run_rules.specs.Lawful.{History, IsLawfulRun, facts_at}
use Rattle.run_base_laws.specs.NodeLaws.{OfEachNode}

-- ---- the locks of a node

-- whether the branch in doubt that has a lock has changed its key
abbrev pub is_of_doubt : List Doubt → Lock → Bool
is_of_doubt ds l = list_any (λ d. same d.branch l.branch && is_changed_in d.changes l.table l.key) ds

-- whether a lock is of such a branch, or of one that is live
abbrev pub is_of_branch : List Live → List Doubt → Lock → Bool
is_of_branch lives ds l = if l.in_doubt then is_of_doubt ds l else list_any (is_item_of live_id l.branch) lives

-- In every lawful run each lock of a node is.
abbrev pub LocksAreOfBranches : Type 0
LocksAreOfBranches = OfEachNode (λ p rs k. AllByRecursion (λ l. is_of_branch k.lives k.stored.doubts l ≡ true) k.locks)

-- ---- keys in doubt

-- the branch in doubt at a node that has changed a key of a table, by the book
abbrev pub doubt_at : List Entry → ℕ → List ℕ → Value → Option BranchId
doubt_at book n table key = find (λ b. is_changed_in (changes_of book b) table key) (in_doubt book n)

-- In every lawful run a node finds a key held in doubt exactly where the book has it in doubt, and by the same branch.
abbrev pub DoubtsAreOfTheBook : Type 0
DoubtsAreOfTheBook = (t : History) → IsLawfulRun t → (n : ℕ) (k : NodeState) → node_at (facts_at t) n ≡ Some k → (table : List ℕ) (key : Value)
    → doubt_on k.locks table key ≡ doubt_at (facts_at t).book n table key
