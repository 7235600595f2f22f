-- What a node has right after a start, by the book and by the records on its disk, whatever was cut before: committed rows, the
-- keys of branches in doubt and their holders, catalog and kept rows; and nobody is live there. (Database Administrator's Guide,
-- "Distributed Transactions Concepts": in-doubt transactions, locks of in-doubt transactions.)
use Rattle.std.specs.Prelude.{◌≡◌, ℕ, ◌+◌, ◌&&◌, Bool, true, List, [], find, fold, map, slice_get, Option, Some, None}
use Rattle.std.specs.List.{list_any}
use Rattle.std.specs.Option.{option_map}
use Rattle.redo_record.specs.Durable.{durable}
use Rattle.row_locks.specs.Locks.{Lock, is_lock_on}
use Rattle.node_rules.specs.Data.{Value, Change, BranchId, Doubt}
use Rattle.node_rules.specs.NodeState.{NodeState}
use Rattle.node_rules.specs.Rows.{same_value, get, rows_of_table}
use Rattle.node_rules.specs.Sessions.{fresh_session, session_at}
use Rattle.node_rules.specs.Words.{same_text, put_by_branch}
use Rattle.run_rules.specs.Book.{changes_of, in_doubt, rows_of, rows_by_book}
use Rattle.run_rules.specs.Data.{Entry}
use Rattle.run_rules.specs.Data.happenings
use Rattle.run_rules.specs.Each.{facts_upto}
use Rattle.run_rules.specs.Facts.{Facts, node_at, records_at}
use Rattle.run_rules.specs.Lawful.{History, IsLawfulRun}

-- ---- keys in doubt, with who holds them

-- whether a change is to this key of this table
abbrev pub is_change_to : List ℕ → Value → Change → Bool
is_change_to table key c = same_text c.table table && same_value c.key key

-- whether a branch has changed a key, by the book
abbrev pub has_changed : List Entry → List ℕ → Value → BranchId → Bool
has_changed book table key b = list_any (is_change_to table key) (changes_of book b)

-- branches in the order of their ids
abbrev pub by_id : List BranchId → List BranchId
by_id bs = fold (put_by_branch (λ b. b)) [] bs

-- the branches in doubt at a node, in the order of their ids
abbrev pub doubters : List Entry → ℕ → List BranchId
doubters book n = by_id (in_doubt book n)

-- the branch in doubt at a node that has changed a key, where there is one
abbrev pub doubter_of : List Entry → ℕ → List ℕ → Value → Option BranchId
doubter_of book n table key = find (has_changed book table key) (doubters book n)

-- the lock by which it holds the key: for writing, and in doubt
abbrev pub lock_in_doubt : List ℕ → Value → BranchId → Lock
lock_in_doubt table key b = record { table = table; key = key; branch = b; writes = true; in_doubt = true }

-- a branch in doubt with the changes that its node holds back
abbrev pub held_back : Doubt → BranchId × List Change
held_back d = (d.branch, d.changes)

-- and with those that it has by the book
abbrev pub changed_by : List Entry → BranchId → BranchId × List Change
changed_by book b = (b, changes_of book b)

-- ---- a node that has just started

-- A node that keeps what book and records say, and nothing else.
pub record IsRestored (f : Facts) (n : ℕ) (k : NodeState) : Type 0 where
  -- at each key that is not in doubt it has the row that the committed transactions of the book leave there, or both have none
  pub rows : (table : List ℕ) (key : Value) → doubter_of f.book n table key ≡ None → get (rows_of_table k.stored.rows table) key ≡ get (rows_of f.book n table) key
  -- all rows of a table, those at keys in doubt too, are as the entries of its own branches committed them, one after the other
  pub committed : (table : List ℕ) → rows_of_table k.stored.rows table ≡ rows_by_book f.book n table
  -- a key is locked where a branch in doubt has changed it, by that branch, and no other key is
  pub locks : (table : List ℕ) (key : Value) → find (is_lock_on table key) k.locks ≡ option_map (lock_in_doubt table key) (doubter_of f.book n table key)
  -- it holds back the changes of the branches in doubt, in the order of their ids
  pub doubts : map held_back k.stored.doubts ≡ map (changed_by f.book) (doubters f.book n)
  -- catalog, settings and kept rows are those of its records
  pub kept : k.stored.durable ≡ durable (records_at f n)
  -- no branch is live: none has changes or calls, and no link is open
  pub lives : k.lives ≡ []
  pub owns : k.owns ≡ []
  pub works : k.works ≡ []
  pub opens : k.opens ≡ []
  -- no session has a transaction or a call
  pub sessions : (session : ℕ) → session_at k.sessions session ≡ fresh_session

-- after each start in a run its node is up and restored
abbrev pub StartsRestore : History → Type 0
StartsRestore t = (i n boot : ℕ) → slice_get t.trace i ≡ Some (happenings.Started n boot)
    → (k : NodeState) × (node_at (facts_upto t (i + 1)) n ≡ Some k) × IsRestored (facts_upto t (i + 1)) n k

-- In every lawful run it is so.
abbrev pub EveryStartRestores : Type 0
EveryStartRestores = (t : History) → IsLawfulRun t → StartsRestore t
