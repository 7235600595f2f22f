-- What the map of tables does, as the list of tables says it.
use Rattle.std.proofs.Common.{◌≡◌, ℕ, Bool, true, false, cond, ◌||◌, List, [], ◌∷◌, None, Some, Option, unwrap_or, refl, sym, ap, subst, ◌∙◌, true≢false}
use Rattle.std.specs.Cmp.Lexicographic.{nat_list_eq_equiv, bytes_decides}
use Rattle.std.specs.List.{list_any, AllByRecursion, IsDistinct}
use Rattle.std.specs.Map.{lookup, keys_of as entry_keys}
use Rattle.std.specs.Str.{bytes_eq}
use Rattle.indexmap.specs.IndexMap.{insert_entry}
use Rattle.dtx_values.specs.declared.row.Change.{Change}
use Rattle.sql_eval.specs.declared.keyed.Keyed.{Keyed}
use Rattle.sql_check.specs.Words.{same_text}
use Rattle.sql_eval.specs.Rows.{set_to}
use Rattle.row_store.specs.Named.{table_of, tables_of}
use Rattle.row_store.specs.Tables.{TableRows, apply_to, apply_all, rows_of_table}

-- a table's name and its rows, as the map keeps them
abbrev Entry : Type 0
Entry = List ℕ × List Keyed

-- ---- a look-up

found_first : (hit : Bool) (e : Entry) (found : Option (List Keyed)) (rows : List Keyed) → unwrap_or found [] ≡ rows → unwrap_or (cond hit (Some e.1) found) [] ≡ cond hit e.1 rows
found_first true e found rows rest = refl
found_first false e found rows rest = rest

pub rows_are : (es : List Entry) (q : List ℕ) → unwrap_or (lookup (bytes_eq q) es) [] ≡ rows_of_table (tables_of es) q
rows_are [] q = refl
rows_are (e ∷ es) q =
    found_first (bytes_eq q e.0) e (lookup (bytes_eq q) es) (rows_of_table (tables_of es) q) (rows_are es q)
    ∙ ap (λ hit. cond hit e.1 (rows_of_table (tables_of es) q)) (nat_list_eq_equiv.symm q e.0)

-- ---- a new name

neither : (a b : Bool) → (a || b) ≡ false → (a ≡ false) × (b ≡ false)
neither true b none = absurd (true≢false none)
neither false b none = (refl, none)

pub absent : (es : List Entry) (q : List ℕ) → list_any (λ t. same_text t.table q) (tables_of es) ≡ false → lookup (bytes_eq q) es ≡ None
absent [] q new = refl
absent (e ∷ es) q new =
    let both = neither (same_text e.0 q) (list_any (λ t. same_text t.table q) (tables_of es)) new in
    ap (λ hit. cond hit (Some e.1) (lookup (bytes_eq q) es)) (nat_list_eq_equiv.symm q e.0 ∙ both.0) ∙ absent es q both.1

-- ---- a change

-- changes in order are one change and then the others
pub apply_next : (c : Change) (cs : List Change) (ts : List TableRows) → apply_all (apply_all ts (c ∷ [])) cs ≡ apply_all ts (c ∷ cs)
apply_next c cs [] = refl
apply_next c cs (t ∷ ts) = ap (λ (all : List TableRows). apply_to (c ∷ cs) t ∷ all) (apply_next c cs ts)

pub apply_none : (ts : List TableRows) → apply_all ts [] ≡ ts
apply_none [] = refl
apply_none (t ∷ ts) = ap (λ (all : List TableRows). t ∷ all) (apply_none ts)

module _ (c : Change) where
  -- no table has the name of the change
  abbrev are_others : List Entry → Type 0
  are_others es = AllByRecursion (λ k. bytes_eq c.table k ≡ false) (entry_keys es)

  apart_first : (hit : Bool) (e : Entry) (es : List Entry) → bytes_eq c.table e.0 ≡ hit → (lookup (bytes_eq c.table) es ≡ None → are_others es)
      → cond hit (Some e.1) (lookup (bytes_eq c.table) es) ≡ None → are_others (e ∷ es)
  apart_first true e es is rest none = absurd cc
  apart_first false e es is rest none = (is, rest none)

  others_from : (es : List Entry) → lookup (bytes_eq c.table) es ≡ None → are_others es
  others_from [] none = tt
  others_from (e ∷ es) none = apart_first (bytes_eq c.table e.0) e es refl (others_from es) none

  unchanged : (es : List Entry) → are_others es → tables_of es ≡ apply_all (tables_of es) (c ∷ [])
  unchanged [] others = refl
  unchanged (e ∷ es) others =
      (λ i. record { table = e.0; rows = cond (sym others.0 i) (set_to e.1 c.key c.after) e.1 } ∷ unchanged es others.1 i)

  same_rows : (x y : List Keyed) → Some x ≡ Some y → x ≡ y
  same_rows x y e = ap (λ o. unwrap_or o []) e

  changed_first : (hit : Bool) (e : Entry) (es : List Entry) (rows now : List Keyed) → bytes_eq c.table e.0 ≡ hit → AllByRecursion (λ k. bytes_eq e.0 k ≡ false) (entry_keys es)
      → now ≡ set_to rows c.key c.after → cond hit (Some e.1) (lookup (bytes_eq c.table) es) ≡ Some rows
      → (lookup (bytes_eq c.table) es ≡ Some rows → tables_of (insert_entry bytes_eq es c.table now) ≡ apply_all (tables_of es) (c ∷ []))
      → tables_of (cond hit ((e.0, now) ∷ es) (e ∷ insert_entry bytes_eq es c.table now)) ≡ record { table = e.0; rows = cond hit (set_to e.1 c.key c.after) e.1 } ∷ apply_all (tables_of es) (c ∷ [])
  changed_first true e es rows now is others set found rest =
      let here : now ≡ set_to e.1 c.key c.after = set ∙ ap (λ r. set_to r c.key c.after) (sym (same_rows e.1 rows found)) in
      let behind = unchanged es (subst (λ (name : List ℕ). AllByRecursion (λ k. bytes_eq name k ≡ false) (entry_keys es)) (sym ((bytes_decides c.table e.0).0 is)) others) in
      (λ i. record { table = e.0; rows = here i } ∷ behind i)
  changed_first false e es rows now is others set found rest = ap (λ (all : List TableRows). table_of e ∷ all) (rest found)

  pub changed : (es : List Entry) (rows now : List Keyed) → IsDistinct bytes_eq (entry_keys es) → lookup (bytes_eq c.table) es ≡ Some rows → now ≡ set_to rows c.key c.after
      → tables_of (insert_entry bytes_eq es c.table now) ≡ apply_all (tables_of es) (c ∷ [])
  unfolding IsDistinct
  changed [] rows now apart found set = absurd cc
  changed (e ∷ es) rows now apart found set =
      changed_first (bytes_eq c.table e.0) e es rows now refl apart.0 set found (λ behind. changed es rows now apart.1 behind set)
