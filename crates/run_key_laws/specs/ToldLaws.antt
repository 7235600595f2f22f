-- The committed rows of a node are those that the book tells, one entry after the other.
use Rattle.std.specs.Prelude.{◌≡◌, ℕ, List, Some}
use Rattle.node_rules.specs.Rows.{rows_of_table}
use Rattle.node_rules.specs.NodeState.{NodeState}
use Rattle.run_rules.specs.Entries.{book_of}
use Rattle.run_rules.specs.Book.{rows_by_book}
use Rattle.run_rules.specs.Facts.{node_at}
use Rattle.run_rules.specs.Lawful.{History, IsLawfulRun, facts_at}

-- in every lawful run the rows of a table of a node are those that the book tells of it
abbrev pub RowsAreOfTheBook : Type 0
RowsAreOfTheBook = (t : History) → IsLawfulRun t → (n : ℕ) (k : NodeState) → node_at (facts_at t) n ≡ Some k → (table : List ℕ) → rows_of_table k.stored.rows table ≡ rows_by_book (book_of t.trace) n table
