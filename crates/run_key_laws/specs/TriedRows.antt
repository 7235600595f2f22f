-- The tried run once more, as to what its nodes keep of rows: both nodes end with the row that the book tells; the root at A
-- holds its key before the COMMIT, and the branch at B holds its own in doubt once it sealed.
use Rattle.std.specs.Prelude.{◌≡◌, ℕ, true, List, [], ◌∷◌, codes, take, Option, Some, None}
use Rattle.node_rules.specs.Data.{Keyed}
use Rattle.row_locks.specs.Locks.{Lock}
use Rattle.node_rules.specs.Rows.{rows_of_table}
use Rattle.node_rules.specs.NodeState.{NodeState}
use Rattle.node_rules.specs.Records.{nothing_stored, stored_by}
use Rattle.run_rules.specs.Entries.{book_of}
use Rattle.run_rules.specs.Book.{rows_by_book}
use Rattle.run_rules.specs.Facts.{Facts, first_facts, node_at, records_at, facts_of}
use Rattle.run_key_laws.specs.KeyLaws.{is_written_by, is_doubted_by, is_held}
use Rattle.run_branch_laws.specs.TriedRun.{places, trace, one, a, b}

-- after so many happenings
abbrev pub facts_after_so_many : ℕ → Facts
facts_after_so_many i = facts_of places [] (first_facts places) (take i trace)

-- the rows of T that a node stores at the end
abbrev pub stored_rows : ℕ → List Keyed
stored_rows n = rows_of_table (stored_by nothing_stored (records_at (facts_of places [] (first_facts places) trace) n)).rows (codes "T")

-- the locks of a node that is up
abbrev pub locks_in : Option NodeState → List Lock
locks_in None = []
locks_in (Some k) = k.locks

-- the one row
abbrev pub the_row : List Keyed
the_row = (record { key = one; row = record { cells = one ∷ [] } }) ∷ []

-- rows are told as they are stored, and keys are held
pub record TheTriedRows : Type 0 where
  pub told_at_a : rows_by_book (book_of trace) 1 (codes "T") ≡ the_row
  pub told_at_b : rows_by_book (book_of trace) 2 (codes "T") ≡ the_row
  pub stored_at_a : stored_rows 1 ≡ the_row
  pub stored_at_b : stored_rows 2 ≡ the_row
  pub held_at_a : is_held (is_written_by a) (locks_in (node_at (facts_after_so_many 9) 1)) (codes "T") one ≡ true
  pub held_at_b : is_held (is_doubted_by b) (locks_in (node_at (facts_after_so_many 11) 2)) (codes "T") one ≡ true
