-- Each change of an accepted statement is one of its table, and what changes of a table leave are rows of it.
use Rattle.std.proofs.Common.{◌≡◌, ℕ, ◌+◌, ◌≤◌, ◌&&◌, ◌||◌, is_none, Bool, true, false, cond, List, [], ◌∷◌, Option, None, Some, Ok, count_by, length, map, not, slice_get, slice_set, unwrap_or, zip, refl, sym, ap, subst, ◌∙◌, arith, zero, suc}
use Rattle.std.specs.List.{list_any, position_or_len}
use Rattle.std.proofs.lemmas.Bool.{eqb-true}
use Rattle.std.proofs.lemmas.List.{length-map}
use Rattle.std.proofs.lemmas.List.Elements.{All-weaker}
use Rattle.std.proofs.Math.Numerals.{one-add}
use Rattle.sql_eval.specs.Data.{Value, Row, Change, Column, Table, Keyed, Set, Stmt, Refusal}
use Rattle.sql_eval.specs.Data.values
use Rattle.sql_eval.specs.Data.stmts
use Rattle.sql_check.specs.Words.{first_some, same_text}
use Rattle.dtx_values.specs.Order.{is_null}
use Rattle.sql_check.specs.Columns.{column_of, given_columns, key_of_row, place_of, statement_fits}
use Rattle.sql_check.specs.Refusals.{dtx, else_refuse, refuse_if}
use Rattle.sql_check.specs.Sums.{sum_value}
use Rattle.sql_check.specs.Inserted.{cells_of, given_value, inserted_cells}
use Rattle.sql_check.specs.Checks.{cell_null, checked, column_refusal, ill_cells, ill_inserted, ill_values, miscounted, sets_key, unknown_column}
use Rattle.sql_eval.specs.Meaning.{insertion, set_all, set_one, set_value}
use Rattle.sql_eval.specs.Laws.{ChangesAreOfTable, IsChangeOf, IsRowAt, RowsAreKeyed, RowsStay, has_one_key}
use Rattle.sql_eval.proofs.EachLemmas.{Puts, apply-each}
use Rattle.sql_eval.proofs.MadeLemmas.{Makes, changes-all}
use Rattle.sql_eval.proofs.StayLaws.{set_all-keyed, set_cell-is, set_more}
use Rattle.sql_eval.proofs.TableLaws.{is_of_key, key_within, keys_of_more, left, placed, tables_have_one_key}

-- ---- rows of a table

pub rows_are_keyed : RowsAreKeyed
rows_are_keyed t [] rows = tt
rows_are_keyed t (r ∷ rs) rows = (rows.0.1, rows_are_keyed t rs rows.1)

pub rows_stay : RowsStay
rows_stay t rows changes are_rows are_changes =
    let Stands = λ (r : Keyed). IsRowAt t r.key r.row in
    apply-each Stands t.name rows changes are_rows
    (All-weaker (λ (c : Change). same_text c.table t.name ≡ true → IsChangeOf t c) (λ (c : Change). same_text c.table t.name ≡ true → Puts Stands c) (λ c is same. (is same).2) changes are_changes)

-- ---- an assignment leaves as many cells

length-set : (cells : List Value) (i : ℕ) (v : Value) → length (slice_set cells i v) ≡ length cells
length-set [] i v = refl
length-set (c ∷ cs) zero v = refl
length-set (c ∷ cs) (suc i) v = let rest = length-set cs i v in omega arith

set_value-length : (t : Table) (o : Option Column) (i : ℕ) (after : Row) (v : Option Value) (row : Row) → set_value t o i after v ≡ Ok row → length row.cells ≡ length after.cells
set_value-length t o i after None row e = absurd cc
set_value-length t None i after (Some v) row e = let same : after ≡ row = cc in sym (ap (λ (x : Row). length x.cells) same)
set_value-length t (Some c) i after (Some v) row e = subst (λ (x : Row). length x.cells ≡ length after.cells) (set_cell-is t c i after v row e) (length-set after.cells i v)

set_all-length : (t : Table) (before : Row) (sets : List Set) (row after : Row) → set_all t before (Ok after) sets ≡ Ok row → length row.cells ≡ length after.cells
set_all-length t before [] row after e = let same : after ≡ row = cc in sym (ap (λ (x : Row). length x.cells) same)
set_all-length t before (s ∷ ss) row after e =
    set_more (λ (a : Row). length a.cells ≡ length after.cells) t before ss row (set_one t before after s)
    (λ a first. set_value-length t (column_of t s.column) (unwrap_or (place_of t s.column) 0) after (sum_value t before s.to) a first)
    (λ a still. λ rest. set_all-length t before ss row a rest ∙ still) e

-- ---- a new row has a key

unrefused : (a b : Option Refusal) → else_refuse a b ≡ None → (a ≡ None) × (b ≡ None)
unrefused (Some r) b e = absurd cc
unrefused None b e = (refl, e)

not_refused : (b : Bool) (r : Refusal) → refuse_if b r ≡ None → b ≡ false
not_refused true r e = absurd cc
not_refused false r e = refl

none_first : (o : Option Refusal) (os : List (Option Refusal)) → first_some (o ∷ os) ≡ None → (o ≡ None) × (first_some os ≡ None)
none_first (Some r) os e = absurd cc
none_first None os e = (refl, e)

-- the key is this column, or one behind it
key_here : (k n : Bool) (v : Value) (vs : List Value) (i m : ℕ) → 1 ≤ cond k 1 0 + m → ((k || n) && is_null v) ≡ false → (1 ≤ m → is_null (unwrap_or (slice_get vs i) values.Null) ≡ false)
    → is_null (unwrap_or (slice_get (v ∷ vs) (cond (not k) (1 + i) 0)) values.Null) ≡ false
key_here true n v vs i m some here later = here
key_here false n v vs i m some here later = rw one-add (later (omega arith))

key_given : (t : Table) (cs : List Column) (vs : List Value) → 1 ≤ count_by is_of_key cs → length vs ≡ length cs → first_some (map (cell_null t) (zip cs vs)) ≡ None
    → is_null (unwrap_or (slice_get vs (position_or_len is_of_key cs)) values.Null) ≡ false
key_given t [] vs some long none = absurd (omega arith)
key_given t (c ∷ cs) [] some long none = absurd (omega arith)
key_given t (c ∷ cs) (v ∷ vs) some long none =
    let parts = none_first (cell_null t (c, v)) (map (cell_null t) (zip cs vs)) none in
    key_here c.key c.not_null v vs (position_or_len is_of_key cs) (count_by is_of_key cs) (rw (keys_of_more c cs) at some)
    (not_refused ((c.key || c.not_null) && is_null v) (column_refusal 1400 t c) parts.0) (λ later. key_given t cs vs later (omega arith) parts.1)

row_given : (t : Table) (vs : List Value) → 1 ≤ count_by is_of_key t.columns → length vs ≡ length t.columns → first_some (map (cell_null t) (zip t.columns vs)) ≡ None → is_null (key_of_row t vs) ≡ false
row_given t vs some long none =
    subst (λ (o : Option ℕ). is_null (unwrap_or (slice_get vs (unwrap_or o 0)) values.Null) ≡ false) (sym (placed is_of_key t.columns (key_within t.columns some)))
    (key_given t t.columns vs some long none)

-- ---- an accepted statement

accepted : (s : Stmt) (t : Table) → checked s t ≡ None → (sets_key s t ≡ false) × (ill_inserted s t ≡ None)
unfolding checked
accepted s t e =
    let named = unrefused (unknown_column s t) _ e in
    let unset = unrefused (refuse_if (sets_key s t) (dtx 15 [])) _ named.1 in
    let counted = unrefused (miscounted s t) _ unset.1 in
    let fitting = unrefused (refuse_if (not (statement_fits t s)) (dtx 10 [])) (ill_inserted s t) counted.1 in
    (not_refused (sets_key s t) (dtx 15 []) unset.0, fitting.1)

inserted-is : (t : Table) (vs : List (Option Value)) → 1 ≤ count_by is_of_key t.columns → length vs ≡ length t.columns → ill_values t vs ≡ None → IsChangeOf t (insertion t (cells_of vs))
inserted-is t vs some long none =
    let cells = cells_of vs in
    let as_many : length cells ≡ length t.columns = length-map vs (λ v. unwrap_or v values.Null) ∙ long in
    let ranged = unrefused (refuse_if (list_any is_none vs) (dtx 9 [])) (ill_cells t cells) none in
    let given = unrefused (first_some (map (cell_null t) (zip t.columns cells))) _ ranged.1 in
    let key = row_given t cells some as_many given.0 in
    (refl, key, (as_many, refl, key))

makes_changes : (s : Stmt) (t : Table) → has_one_key t ≡ true → checked s t ≡ None → Makes (IsChangeOf t) (λ r. IsRowAt t r.key r.row) t s
makes_changes (stmts.Insert table columns given) t one none =
    let some : count_by is_of_key t.columns ≡ 1 = eqb-true _ _ (left _ _ one) in
    inserted-is t (inserted_cells t columns given) (omega arith) (length-map t.columns (λ c. given_value t (zip (given_columns t columns) given) c.name))
    (accepted (stmts.Insert table columns given) t none).1
makes_changes (stmts.Update table sets cs) t one none = λ r row stands e.
    let others = (accepted (stmts.Update table sets cs) t none).0 in
    (refl, stands.2, (set_all-length t r.row sets row r.row e ∙ stands.0, set_all-keyed t r.row sets row r.key r.row (tables_have_one_key t one) others stands.1 e, stands.2))
makes_changes (stmts.Delete table cs) t one none = λ r stands. (refl, stands.2, tt)
makes_changes s t one none = tt

pub changes_are_of_table : ChangesAreOfTable
changes_are_of_table s t rows done count changes one are_rows none e =
    changes-all (IsChangeOf t) (λ r. IsRowAt t r.key r.row) s t rows done count changes (makes_changes s t one none) are_rows e
