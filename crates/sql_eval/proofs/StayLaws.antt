-- What the changes of a statement leave has its keys in the key column.
use Rattle.std.proofs.Common.{◌≡◌, ℕ, ◌<◌, ◌&&◌, ◌||◌, not, Bool, true, false, cond, ◌+◌, List, [], ◌∷◌, Option, None, Some, Result, Ok, Err, find, length, slice_get, slice_set, unwrap_or, refl, sym, ap, subst, ◌∙◌, arith, zero, suc}
use Rattle.std.specs.Prelude.{IfSome}
use Rattle.std.specs.List.{list_any, position_or_len}
use Rattle.std.proofs.lemmas.Bool.{lt-ltb}
use Rattle.std.proofs.lemmas.List.Elements.{All-weaker}
use Rattle.sql_eval.specs.Data.{Value, Row, Change, Column, Table, Keyed, Set, Stmt, Refusal}
use Rattle.sql_eval.specs.Data.values
use Rattle.sql_eval.specs.Data.stmts
use Rattle.sql_check.specs.Words.{same_text}
use Rattle.dtx_values.specs.Order.{is_null}
use Rattle.sql_check.specs.Columns.{is_key, is_named, key_of_row, place_of, column_of}
use Rattle.sql_check.specs.Sums.{sum_value}
use Rattle.sql_check.specs.Checks.{column_refusal, sets_key, too_long}
use Rattle.sql_eval.specs.Meaning.{row_unless, set_all, set_cell, set_one, set_value}
use Rattle.sql_eval.specs.Laws.{HasOneKey, key_place, StaysKeyed}
use Rattle.sql_eval.proofs.EachLemmas.{apply-each}
use Rattle.sql_eval.proofs.MadeLemmas.{Makes, changes-all}

-- ---- one cell of a row

get-other : (cells : List Value) (i j : ℕ) (v : Value) → (i ≡ j → ⊥) → slice_get (slice_set cells i v) j ≡ slice_get cells j
get-other [] i j v apart = refl
get-other (c ∷ cs) zero zero v apart = absurd (apart refl)
get-other (c ∷ cs) zero (suc j) v apart = refl
get-other (c ∷ cs) (suc i) zero v apart = refl
get-other (c ∷ cs) (suc i) (suc j) v apart = get-other cs i j v (λ e. apart (ap (λ n. suc n) e))

found_here : (p : Column → Bool) (d : Column) (ds : List Column) (c : Column) (b : Bool) → cond b (Some d) (find p ds) ≡ Some c → (find p ds ≡ Some c → position_or_len p ds < length ds)
    → cond (not b) (1 + position_or_len p ds) 0 < length (d ∷ ds)
found_here p d ds c true e below = omega arith
found_here p d ds c false e below = let behind : position_or_len p ds < length ds = below e in omega arith

found_below : (p : Column → Bool) (cs : List Column) (c : Column) → find p cs ≡ Some c → position_or_len p cs < length cs
found_below p [] c e = absurd cc
found_below p (d ∷ ds) c e = found_here p d ds c (p d) e (found_below p ds c)

-- a column that is there has a place
placed : (t : Table) (name : List ℕ) (c : Column) → column_of t name ≡ Some c → place_of t name ≡ Some (unwrap_or (place_of t name) 0)
placed t name c e = rw (lt-ltb _ _ (found_below (is_named name) t.columns c e)) refl

-- and another than the key's, where it is not of the key
apart : (t : Table) (name : List ℕ) (c : Column) → HasOneKey t → is_key t name ≡ false → column_of t name ≡ Some c → unwrap_or (place_of t name) 0 ≡ key_place t → ⊥
apart t name c one other is e =
    let at : place_of t name ≡ Some (key_place t) = placed t name c is ∙ ap (λ (n : ℕ). Some n) e in
    let clash : true ≡ false = sym ((one name).1 at) ∙ other in
    absurd cc

-- ---- one row

row_is : (b : Bool) (r : Refusal) (due : Result Row Refusal) (row : Row) → cond b (Err r) due ≡ Ok row → due ≡ Ok row
row_is true r due row e = absurd cc
row_is false r due row e = e

width_is : (o : Option Refusal) (new row : Row) → row_unless o new ≡ Ok row → new ≡ row
width_is (Some r) new row e = absurd cc
width_is None new row e = cc

-- what a cell is set to
pub set_cell-is : (t : Table) (c : Column) (i : ℕ) (after : Row) (v : Value) (row : Row) → set_cell t c i after v ≡ Ok row → record { cells = slice_set after.cells i v } ≡ row
set_cell-is t c i after v row e =
    let new : Row = record { cells = slice_set after.cells i v } in
    width_is (too_long t c v) new row (row_is (is_null v && c.not_null) (column_refusal 1407 t c) (row_unless (too_long t c v) new) row e)

set_cell-keyed : (t : Table) (c : Column) (i : ℕ) (after : Row) (v : Value) (row : Row) (key : Value) → (i ≡ key_place t → ⊥) → key_of_row t after.cells ≡ key → set_cell t c i after v ≡ Ok row → key_of_row t row.cells ≡ key
set_cell-keyed t c i after v row key apart keyed e =
    subst (λ (x : Row). key_of_row t x.cells ≡ key) (set_cell-is t c i after v row e) (ap (λ (o : Option Value). unwrap_or o values.Null) (get-other after.cells i (key_place t) v apart) ∙ keyed)

set_value-keyed : (t : Table) (name : List ℕ) (o : Option Column) (after : Row) (v : Option Value) (row : Row) (key : Value) → HasOneKey t → is_key t name ≡ false → column_of t name ≡ o → key_of_row t after.cells ≡ key
    → set_value t o (unwrap_or (place_of t name) 0) after v ≡ Ok row → key_of_row t row.cells ≡ key
set_value-keyed t name o after None row key one other is keyed e = absurd cc
set_value-keyed t name None after (Some v) row key one other is keyed e = let same : after ≡ row = cc in subst (λ (x : Row). key_of_row t x.cells ≡ key) same keyed
set_value-keyed t name (Some c) after (Some v) row key one other is keyed e = set_cell-keyed t c (unwrap_or (place_of t name) 0) after v row key (apart t name c one other is) keyed e

neither : (a b : Bool) → (a || b) ≡ false → (a ≡ false) × (b ≡ false)
neither true b e = absurd cc
neither false b e = (refl, e)

-- what one assignment keeps, and all behind it, all keep
pub set_more : (P : Row → Type 0) (t : Table) (before : Row) (ss : List Set) (row : Row) (due : Result Row Refusal) → ((a : Row) → due ≡ Ok a → P a)
    → ((a : Row) → P a → set_all t before (Ok a) ss ≡ Ok row → P row) → set_all t before due ss ≡ Ok row → P row
set_more P t before ss row (Err r) first later e = absurd cc
set_more P t before ss row (Ok a) first later e = later a (first a refl) e

pub set_all-keyed : (t : Table) (before : Row) (sets : List Set) (row : Row) (key : Value) (after : Row) → HasOneKey t → list_any (λ s. is_key t s.column) sets ≡ false → key_of_row t after.cells ≡ key
    → set_all t before (Ok after) sets ≡ Ok row → key_of_row t row.cells ≡ key
set_all-keyed t before [] row key after one others keyed e = let same : after ≡ row = cc in subst (λ (x : Row). key_of_row t x.cells ≡ key) same keyed
set_all-keyed t before (s ∷ ss) row key after one others keyed e =
    let none = neither (is_key t s.column) (list_any (λ s. is_key t s.column) ss) others in
    set_more (λ (a : Row). key_of_row t a.cells ≡ key) t before ss row (set_one t before after s)
    (λ a first. set_value-keyed t s.column (column_of t s.column) after (sum_value t before s.to) a key one none.0 refl keyed first)
    (λ a still. set_all-keyed t before ss row key a one none.1 still) e

-- ---- changes

-- what a change sets has the change's key
abbrev HasKey : Table → Change → Type 0
HasKey t c = IfSome c.after (λ row. key_of_row t row.cells ≡ c.key)

sets-keys : (s : Stmt) (t : Table) → HasOneKey t → sets_key s t ≡ false → Makes (HasKey t) (λ r. key_of_row t r.row.cells ≡ r.key) t s
sets-keys (stmts.Insert table columns given) t one others = refl
sets-keys (stmts.Update table sets cs) t one others = λ r row keyed e. set_all-keyed t r.row sets row r.key r.row one others keyed e
sets-keys (stmts.Delete table cs) t one others = λ r keyed. tt
sets-keys s t one others = tt

pub stays_keyed : StaysKeyed
stays_keyed s t rows done count changes one keyed others e =
    let IsKeyed = λ (r : Keyed). key_of_row t r.row.cells ≡ r.key in
    let have = changes-all (HasKey t) IsKeyed s t rows done count changes (sets-keys s t one others) keyed e in
    apply-each IsKeyed t.name rows changes keyed (All-weaker (HasKey t) (λ (c : Change). same_text c.table t.name ≡ true → HasKey t c) (λ c has same. has) changes have)
