-- What the nodes store, by the book: at each key that is not in doubt a node has the row that the committed transactions of
-- the book leave there, and its keys in doubt are those of the book. (Database Administrator's Guide, "Distributed
-- Transactions Concepts": in-doubt transactions.)
use Rattle.std.specs.Prelude.{◌≡◌, ℕ, Bool, false, List, filter, flat_map, map, Some}
use Rattle.std.specs.List.{list_any}
use Rattle.sql_eval.specs.Laws.{AreRowsOf}
use Rattle.node_rules.specs.Data.{Value, Table, Doubt}
use Rattle.node_rules.specs.NodeState.{NodeState}
use Rattle.node_rules.specs.Rows.{same_value, get, rows_of_table}
use Rattle.node_rules.specs.Words.{same_text}
use Rattle.run_rules.specs.Book.{rows_of, rows_by_book}
use Rattle.run_rules.specs.Entries.{book_of}
use Rattle.run_rules.specs.Facts.{node_at}
use Rattle.run_rules.specs.Lawful.{History, IsLawfulRun, facts_at}
use Rattle.run_rules.specs.Runs.{keys_in_doubt}
use Rattle.run_key_laws.specs.TableLaws.{table_in}

-- the keys of a table in the changes that branches in doubt hold back
abbrev pub doubtful_keys : List Doubt → List ℕ → List Value
doubtful_keys ds table = flat_map (λ d. map (λ c. c.key) (filter (λ c. same_text c.table table) d.changes)) ds

-- the keys in doubt by the book are those of the branches in doubt of the node, which stand in the order of their ids: any test
-- holds of one of these keys where it holds of one of those
abbrev pub DoubtsAgree : Type 0
DoubtsAgree = (t : History) → IsLawfulRun t → (n : ℕ) (k : NodeState) → node_at (facts_at t) n ≡ Some k → (table : List ℕ) (test : Value → Bool)
    → list_any test (keys_in_doubt (facts_at t).book n table) ≡ list_any test (doubtful_keys k.stored.doubts table)

-- at each key that is not in doubt the commits of a node leave the same row in their own order, one entry of the book after
-- the other, as in the order of the decisions, whether the node is up or down
abbrev pub OrdersAgree : Type 0
OrdersAgree = (t : History) → IsLawfulRun t → (n : ℕ) (table : List ℕ) (key : Value) → list_any (same_value key) (keys_in_doubt (book_of t.trace) n table) ≡ false
    → get (rows_by_book (book_of t.trace) n table) key ≡ get (rows_of (book_of t.trace) n table) key

-- so at each key that is not in doubt the node has the row of the book, or both have none
abbrev pub RowsAgree : Type 0
RowsAgree = (t : History) → IsLawfulRun t → (n : ℕ) (k : NodeState) → node_at (facts_at t) n ≡ Some k → (table : List ℕ) (key : Value)
    → list_any (same_value key) (keys_in_doubt (facts_at t).book n table) ≡ false
    → get (rows_of_table k.stored.rows table) key ≡ get (rows_of (facts_at t).book n table) key

-- the rows of the book are rows of their table
abbrev pub BookRowsFit : Type 0
BookRowsFit = (t : History) → IsLawfulRun t → (n : ℕ) (k : NodeState) → node_at (facts_at t) n ≡ Some k → (name : List ℕ) (x : Table)
    → table_in k.stored.durable.tables name ≡ Some x → AreRowsOf x (rows_of (facts_at t).book n name)
