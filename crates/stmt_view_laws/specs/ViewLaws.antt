-- The meaning of a statement depends on the rows that it examines alone: over two views that agree there it means the same,
-- and examines and writes the same keys. (SQL Language Reference; Database Administrator's Guide, "Distributed Transactions
-- Concepts": in-doubt transactions.)
use Rattle.std.specs.Prelude.{◌≡◌, ℕ, List}
use Rattle.dtx_values.specs.declared.value.Value.{Value}
use Rattle.dtx_values.specs.declared.table.Table.{Table}
use Rattle.dtx_values.specs.declared.row.Change.{Change}
use Rattle.sql_statement.specs.declared.statement.Stmt.{Stmt}
use Rattle.sql_eval.specs.declared.keyed.Keyed.{Keyed}
use Rattle.sql_eval.specs.Rows.{apply}
use Rattle.sql_eval.specs.Meaning.{examined, written, meant, meant_over}
use Rattle.stmt_view_laws.specs.Views.{AgreeBut, AreInKeyOrder, AreCertain, SeesAlike}

-- ---- statements

-- a statement means the same over both views
abbrev pub MeansAlike : Type 0
MeansAlike = (s : Stmt) (t : Table) (doubtful locked : List Value) (rows more : List Keyed) → SeesAlike s t doubtful locked rows more
    → meant_over s t rows ≡ meant_over s t more

-- with its checks, too
abbrev pub MeantAlike : Type 0
MeantAlike = (s : Stmt) (t : Table) (doubtful locked : List Value) (rows more : List Keyed) → SeesAlike s t doubtful locked rows more
    → meant s t rows ≡ meant s t more

-- it writes the same keys
abbrev pub WritesAlike : Type 0
WritesAlike = (s : Stmt) (t : Table) (doubtful locked : List Value) (rows more : List Keyed) → SeesAlike s t doubtful locked rows more
    → written s t rows ≡ written s t more

-- and examines the same, whatever is locked
abbrev pub ExaminesAlike : Type 0
ExaminesAlike = (s : Stmt) (t : Table) (doubtful locked others : List Value) (rows more : List Keyed) → SeesAlike s t doubtful locked rows more
    → examined s t rows others ≡ examined s t more others

-- none of them in doubt
abbrev pub AvoidsAlike : Type 0
AvoidsAlike = (s : Stmt) (t : Table) (doubtful locked others : List Value) (rows more : List Keyed) → SeesAlike s t doubtful locked rows more
    → AreCertain doubtful (examined s t more others)

-- so either view may be the one over which it was seen that no key in doubt is examined
abbrev pub EitherSeesAlike : Type 0
EitherSeesAlike = (s : Stmt) (t : Table) (doubtful locked : List Value) (rows more : List Keyed) → SeesAlike s t doubtful locked rows more
    → SeesAlike s t doubtful locked more rows

-- ---- changes

-- the same changes leave rows that agree where those before agree
abbrev pub ChangesKeepAgreement : Type 0
ChangesKeepAgreement = (table : List ℕ) (cs : List Change) (doubtful : List Value) (rows more : List Keyed)
    → AgreeBut doubtful rows more → AgreeBut doubtful (apply table rows cs) (apply table more cs)

-- and they leave rows in the order of their keys
abbrev pub ChangesKeepOrder : Type 0
ChangesKeepOrder = (table : List ℕ) (cs : List Change) (rows : List Keyed) → AreInKeyOrder rows → AreInKeyOrder (apply table rows cs)
