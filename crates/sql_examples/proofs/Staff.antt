-- What the runs begin with: a table with one key, and rows of it.
use Rattle.std.proofs.Common.{◌≡◌, ℕ, Bool, true, false, cond, List, [], ◌∷◌, Some, position, refl, sym, subst}
use Rattle.std.specs.Str.{bytes_eq}
use Rattle.std.specs.List.{AllByRecursion}
use Rattle.std.proofs.lemmas.List.Elements.{All-weaker, All-from_recursion}
use Rattle.dtx_values.specs.declared.row.Change.{Change}
use Rattle.dtx_values.specs.declared.table.Column.{Column}
use Rattle.dtx_values.specs.declared.table.Table.{Table}
use Rattle.sql_eval.specs.declared.keyed.Keyed.{Keyed}
use Rattle.sql_check.specs.Words.{same_text}
use Rattle.sql_eval.specs.Rows.{apply}
use Rattle.sql_eval.specs.Laws.{has_one_key, AreRowsOf, IsChangeOf}
use Rattle.sql_eval.proofs.RowLaws.{rows_stay}
use Rattle.tran_ids.specs.declared.branch.BranchId.{BranchId}
use Rattle.row_store.specs.declared.pending.Owned.{Owned}
use Rattle.row_store.specs.Own.{view_of}
use Rattle.row_store.specs.Pending.{changes_of}
use Rattle.row_store.specs.Store.{Contents, sets_at, seen_by}
use Rattle.row_store.specs.Tables.{TableRows, apply_all, rows_of_table, with_table}

-- of two columns of different names the first is the key
pub one_of_two : (name : List ℕ) (c d : Column) → c.key ≡ true → d.key ≡ false → bytes_eq d.name c.name ≡ false → has_one_key (record { name = name; columns = c ∷ d ∷ [] }) ≡ true
one_of_two name c d key other differ = rw (key, other, differ) refl

pub first_of_two : (c d : Column) → c.key ≡ true → position (λ (e : Column). e.key) (c ∷ d ∷ []) ≡ Some 0
first_of_two c d key = rw key refl

either : (t : Table) (b : Bool) (rows : List Keyed) → AreRowsOf t rows → AreRowsOf t (cond b rows [])
either t true rows are = are
either t false rows are = tt

-- changes of a table leave rows of it
pub rows_of_changes : (t : Table) (cs : List Change) (tables : List TableRows) → AllByRecursion (IsChangeOf t) cs → tables ≡ apply_all (with_table [] t.name) cs → AreRowsOf t (rows_of_table tables t.name)
rows_of_changes t cs tables all are =
    let Is = λ (c : Change). same_text c.table t.name ≡ true → IsChangeOf t c in
    let rows = rows_stay t [] cs tt (All-weaker (IsChangeOf t) Is (λ c is same. is) cs (All-from_recursion (IsChangeOf t) cs all)) in
    subst (λ (ts : List TableRows). AreRowsOf t (rows_of_table ts t.name)) (sym are) (either t (same_text t.name t.name) (apply t.name [] cs) rows)

-- where no branch has changed anything, each sees the committed rows
pub seen_at_first : (t : Table) (s : Contents) (b : BranchId) → s.owns ≡ [] → AreRowsOf t (rows_of_table s.rows t.name) → AreRowsOf t (seen_by s b t.name)
seen_at_first t s b none are = subst (λ (owns : List Owned). AreRowsOf t (view_of s.rows (changes_of (sets_at owns b)) t.name)) (sym none) are
