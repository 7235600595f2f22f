-- In a table with one key column and columns of different names, a name is that of the key exactly where it stands at the key's place; and each table that a text creates is one.
use Rattle.std.proofs.Common.{◌≡◌, ℕ, ◌+◌, ◌<◌, ◌≤◌, ◌==◌, ◌&&◌, ◌||◌, not, Bool, true, false, cond, List, [], ◌∷◌, Option, None, Some, nat_lt, position, count_by, length, unwrap_or, refl, sym, ap, subst, ◌∙◌, arith}
use Rattle.std.specs.List.{list_any, position_or_len}
use Rattle.std.specs.Cmp.Lexicographic.{bytes_decides}
use Rattle.std.proofs.lemmas.List.Sums.{sum_by-cons}
use Rattle.std.proofs.lemmas.Bool.{lt-ltb, ltb-true, eqb-true}
use Rattle.sql_statement.specs.Distinct.{are_distinct, column_name}
use Rattle.sql_eval.specs.Data.{Column}
use Rattle.sql_check.specs.Columns.{is_named}
use Rattle.sql_eval.specs.Laws.{key_place, TablesHaveOneKey, WholeTablesHaveOneKey}

abbrev pub is_of_key : Column → Bool
is_of_key c = c.key

abbrev is_key_named : List ℕ → Column → Bool
is_key_named name c = c.key && is_named name c

pub left : (a b : Bool) → (a && b) ≡ true → a ≡ true
left true b h = refl
left false b h = absurd cc

right : (a b : Bool) → (a && b) ≡ true → b ≡ true
right true b h = h
right false b h = absurd cc

same_name : (name : List ℕ) (c : Column) → is_named name c ≡ true → c.name ≡ name
same_name name c h = (bytes_decides c.name name).0 h

-- a key column of this name is a column of this name
named_step : (k n a b : Bool) → ((k && n) || a) ≡ true → (a ≡ true → b ≡ true) → (n || b) ≡ true
named_step true true a b e f = refl
named_step false true a b e f = refl
named_step true false a b e f = f e
named_step false false a b e f = f e

any_named : (name : List ℕ) (cs : List Column) → list_any (is_key_named name) cs ≡ true → list_any (is_named name) cs ≡ true
any_named name [] e = absurd cc
any_named name (c ∷ cs) e = named_step c.key (is_named name c) (list_any (is_key_named name) cs) (list_any (is_named name) cs) e (any_named name cs)

-- how many key columns there are with one column more
pub keys_of_more : (c : Column) (cs : List Column) → count_by is_of_key (c ∷ cs) ≡ cond c.key 1 0 + count_by is_of_key cs
keys_of_more c cs = sum_by-cons (λ d. cond (is_of_key d) 1 0) c cs

-- and a key column
count_step : (k n a : Bool) (m : ℕ) → ((k && n) || a) ≡ true → (a ≡ true → 1 ≤ m) → 1 ≤ cond k 1 0 + m
count_step true n a m e f = omega arith
count_step false n a m e f = let later : 1 ≤ m = f e in omega arith

any_key : (name : List ℕ) (cs : List Column) → list_any (is_key_named name) cs ≡ true → 1 ≤ count_by is_of_key cs
any_key name [] e = absurd cc
any_key name (c ∷ cs) e = rw (keys_of_more c cs) (count_step c.key (is_named name c) (list_any (is_key_named name) cs) (count_by is_of_key cs) e (any_key name cs))

-- ---- the key's name stands where the key stands

not_both : (a b : Bool) → (not a && b) ≡ true → a ≡ true → ⊥
not_both true b h e = cc
not_both false b h e = cc

place_step : (name : List ℕ) (c : Column) (cs : List Column) (k n : Bool) → c.key ≡ k → is_named name c ≡ n
    → (are_distinct column_name cs ≡ true → count_by is_of_key cs ≤ 1 → list_any (is_key_named name) cs ≡ true → position_or_len (is_named name) cs ≡ position_or_len is_of_key cs)
    → (not (list_any (is_named c.name) cs) && are_distinct column_name cs) ≡ true → cond k 1 0 + count_by is_of_key cs ≤ 1 → ((k && n) || list_any (is_key_named name) cs) ≡ true
    → cond (not n) (1 + position_or_len (is_named name) cs) 0 ≡ cond (not k) (1 + position_or_len is_of_key cs) 0
place_step name c cs true true key named later differ few e = refl
place_step name c cs true false key named later differ few e = let another : 1 ≤ count_by is_of_key cs = any_key name cs e in absurd (omega arith)
place_step name c cs false true key named later differ few e =
    let another : list_any (is_named c.name) cs ≡ true = subst (λ (x : List ℕ). list_any (is_named x) cs ≡ true) (sym (same_name name c named)) (any_named name cs e) in
    absurd (not_both (list_any (is_named c.name) cs) (are_distinct column_name cs) differ another)
place_step name c cs false false key named later differ few e = ap (λ (i : ℕ). 1 + i) (later (right _ _ differ) (omega arith) e)

same_place : (name : List ℕ) (cs : List Column) → are_distinct column_name cs ≡ true → count_by is_of_key cs ≤ 1 → list_any (is_key_named name) cs ≡ true → position_or_len (is_named name) cs ≡ position_or_len is_of_key cs
same_place name [] differ few e = absurd cc
same_place name (c ∷ cs) differ few e = place_step name c cs c.key (is_named name c) refl refl (same_place name cs) differ (rw (keys_of_more c cs) at few) e

-- ---- what stands where the key stands is the key

one_step : (k n a : Bool) (i j m : ℕ) → (i ≡ j → i < m → a ≡ true) → cond (not n) (1 + i) 0 ≡ cond (not k) (1 + j) 0 → cond (not n) (1 + i) 0 < m + 1 → ((k && n) || a) ≡ true
one_step true true a i j m f e h = refl
one_step true false a i j m f e h = absurd (omega arith)
one_step false true a i j m f e h = absurd (omega arith)
one_step false false a i j m f e h = f (omega arith) (omega arith)

same_column : (name : List ℕ) (cs : List Column) → position_or_len (is_named name) cs ≡ position_or_len is_of_key cs → position_or_len (is_named name) cs < length cs → list_any (is_key_named name) cs ≡ true
same_column name [] e h = absurd (omega arith)
same_column name (c ∷ cs) e h =
    one_step c.key (is_named name c) (list_any (is_key_named name) cs) (position_or_len (is_named name) cs) (position_or_len is_of_key cs) (length cs) (same_column name cs) e (omega (arith, h))

-- ---- places

key_step : (k : Bool) (m i l : ℕ) → (1 ≤ m → i < l) → 1 ≤ cond k 1 0 + m → cond (not k) (1 + i) 0 < l + 1
key_step true m i l f h = omega arith
key_step false m i l f h = let later : i < l = f (omega arith) in omega arith

pub key_within : (cs : List Column) → 1 ≤ count_by is_of_key cs → position_or_len is_of_key cs < length cs
key_within [] h = absurd (omega arith)
key_within (c ∷ cs) h = let here = key_step c.key (count_by is_of_key cs) (position_or_len is_of_key cs) (length cs) (key_within cs) (rw (keys_of_more c cs) at h) in omega (arith, here)

pub placed : (p : Column → Bool) (cs : List Column) → position_or_len p cs < length cs → position p cs ≡ Some (position_or_len p cs)
placed p cs h = rw (lt-ltb _ _ h) refl

place_is : (b : Bool) (i k : ℕ) → cond b (Some i) None ≡ Some k → (b ≡ true) × (i ≡ k)
place_is true i k e = (refl, cc)
place_is false i k e = absurd cc

pub tables_have_one_key : TablesHaveOneKey
tables_have_one_key t h name =
    let cs = t.columns in
    let one : count_by is_of_key cs ≡ 1 = eqb-true _ _ (left _ _ h) in
    let differ : are_distinct column_name cs ≡ true = right (count_by is_of_key cs == 1) (are_distinct column_name cs) h in
    let within : position_or_len is_of_key cs < length cs = key_within cs (omega arith) in
    let key : key_place t ≡ position_or_len is_of_key cs = ap (λ (o : Option ℕ). unwrap_or o 0) (placed is_of_key cs within) in (
      λ is.
          let same : position_or_len (is_named name) cs ≡ position_or_len is_of_key cs = same_place name cs differ (omega arith) is in
          placed (is_named name) cs (omega arith) ∙ ap (λ (n : ℕ). Some n) (same ∙ sym key),
      λ e.
          let found = place_is (nat_lt (position_or_len (is_named name) cs) (length cs)) (position_or_len (is_named name) cs) (key_place t) e in
          same_column name cs (found.1 ∙ key) (ltb-true _ _ found.0),
    )

-- ---- tables that a text creates

pub whole_tables_have_one_key : WholeTablesHaveOneKey
whole_tables_have_one_key t whole = ap (λ (n : ℕ). (n == 1) && are_distinct column_name t.columns) whole.one_key ∙ whole.distinct
