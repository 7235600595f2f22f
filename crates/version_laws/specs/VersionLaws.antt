-- What a READ ONLY transaction reads at a node, by the book: at each key that is not in doubt the row that the commits up to its
-- SCN leave there, as long as the SCN is not too old for the node. (SQL Language Reference: SET TRANSACTION READ ONLY.)
use Rattle.std.specs.Prelude.{◌≡◌, ℕ, false, List, Some}
use Rattle.std.specs.List.{list_any}
use Rattle.sql_eval.specs.Laws.{AreRowsOf}
use Rattle.stmt_view_laws.specs.Views.{AreInKeyOrder}
use Rattle.node_rules.specs.Data.{Value, Table}
use Rattle.node_rules.specs.NodeState.{NodeState}
use Rattle.node_rules.specs.Rows.{TableRows, same_value, get, rows_of_table}
use Rattle.read_only_tx.specs.Versions.{rows_at, is_too_old}
use Rattle.run_key_laws.specs.TableLaws.{table_in}
use Rattle.run_rules.specs.Book.{rows_until}
use Rattle.run_rules.specs.Facts.{node_at}
use Rattle.run_rules.specs.Lawful.{History, IsLawfulRun, facts_at}
use Rattle.run_rules.specs.Runs.{keys_in_doubt}

-- the rows of all tables of a node at an SCN
abbrev pub kept_at : NodeState → ℕ → List TableRows
kept_at k scn = rows_at k.stored.rows k.versions scn

-- of each node that is up, and of each SCN that is not too old for it
abbrev pub OfEachRead : (History → ℕ → NodeState → ℕ → Type 0) → Type 0
OfEachRead So = (t : History) → IsLawfulRun t → (n : ℕ) (k : NodeState) → node_at (facts_at t) n ≡ Some k → (scn : ℕ) → is_too_old k.versions scn ≡ false → So t n k scn

-- the node has at an SCN, at each key that is not in doubt, the row of the book up to that SCN, or both have none
abbrev pub VersionsAgree : Type 0
VersionsAgree = OfEachRead (λ t n k scn. (table : List ℕ) (key : Value) → list_any (same_value key) (keys_in_doubt (facts_at t).book n table) ≡ false
    → get (rows_of_table (kept_at k scn) table) key ≡ get (rows_until (facts_at t).book n table scn) key)

-- its rows at an SCN are rows of their table, in the order of their keys
abbrev pub VersionsFit : Type 0
VersionsFit = OfEachRead (λ t n k scn. (name : List ℕ) (x : Table) → table_in k.stored.durable.tables name ≡ Some x → AreInKeyOrder (rows_of_table (kept_at k scn) name) × AreRowsOf x (rows_of_table (kept_at k scn) name))

-- and so are those of the book
abbrev pub RowsUntilFit : Type 0
RowsUntilFit = (t : History) → IsLawfulRun t → (n : ℕ) (k : NodeState) → node_at (facts_at t) n ≡ Some k → (scn : ℕ) (name : List ℕ) (x : Table) → table_in k.stored.durable.tables name ≡ Some x
    → AreInKeyOrder (rows_until (facts_at t).book n name scn) × AreRowsOf x (rows_until (facts_at t).book n name scn)
