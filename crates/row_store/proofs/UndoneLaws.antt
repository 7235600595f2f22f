-- Changes, and then their undo from the last to the first, leave rows as they were.
use Rattle.std.proofs.Common.{◌≡◌, ℕ, Bool, true, false, cond, List, [], ◌∷◌, None, Some, Option, unwrap_or, refl, sym, ap, ◌∙◌, true≢false}
use Rattle.std.specs.Prelude.{reverse}
use Rattle.std.specs.Cmp.Lexicographic.{nat_list_eq_equiv, bytes_decides}
use Rattle.std.specs.List.{AllByRecursion}
use Rattle.std.proofs.lemmas.Bool.{and_parts}
use Rattle.std.proofs.lemmas.Grind.{reverse_onto}
use Rattle.dtx_values.specs.declared.value.Value.{Value}
use Rattle.dtx_values.specs.declared.row.Row.{Row}
use Rattle.dtx_values.specs.declared.row.Change.{Change}
use Rattle.dtx_values.specs.Order.{same_value}
use Rattle.dtx_values.proofs.ValueOrder.{equal_from_same}
use Rattle.sql_eval.specs.declared.keyed.Keyed.{Keyed}
use Rattle.sql_check.specs.Words.{same_text}
use Rattle.sql_eval.specs.Rows.{get, apply}
use Rattle.row_store.specs.Own.{is_change_of, before}
use Rattle.row_store.specs.Pending.{undo_over}
use Rattle.row_store.specs.Tables.{TableRows, apply_all, rows_of_table}
use Rattle.row_store.specs.Undone.{RowsAreInOrder, AreNamedApart}
use Rattle.row_store.proofs.InOrder.{are_in_order, apply_in_order}
use Rattle.row_store.proofs.Lookups.{get_applied}
use Rattle.row_store.proofs.Named.{apply_next, apply_none}
use Rattle.row_store.proofs.PlaceLaws.{same_rows}
use Rattle.row_store.proofs.UndoLaws.{all_both}

-- ---- one change of one table

module _ (table : List ℕ) (rows : List Keyed) (c : Change) (row : Option Row) (is : same_text c.table table ≡ true → row ≡ get rows c.key) where
  abbrev both : List Change
  both = c ∷ (record c { after = row }) ∷ []

  found_if : (q : Value) (hit : Bool) → is_change_of table q c ≡ hit
      → unwrap_or (cond hit (Some row) (cond hit (Some c.after) None)) (get rows q) ≡ get rows q
  found_if q true at =
      let parts = and_parts (same_text c.table table) (same_value c.key q) at in
      is parts.0 ∙ ap (get rows) (equal_from_same c.key q parts.1)
  found_if q false at = refl

  pub row_back : are_in_order rows → apply table rows both ≡ rows
  row_back ordered =
      same_rows (apply table rows both) rows (apply_in_order table rows both ordered) ordered
      (λ q. get_applied table q rows both ∙ found_if q (is_change_of table q c) refl)

-- ---- one change of all tables

-- a change finds the rows of each table of its name
abbrev Finds : List Keyed → Change → List TableRows → Type 0
Finds found c ts = AllByRecursion (λ t. same_text c.table t.table ≡ true → found ≡ t.rows) ts

swapped : (a b : List ℕ) → same_text a b ≡ true → same_text b a ≡ true
swapped a b is = nat_list_eq_equiv.symm b a ∙ is

further : (c : Change) (t : TableRows) (us : List TableRows) (found : List Keyed) → AllByRecursion (λ u. same_text u.table t.table ≡ false) us → Finds found c us
    → Finds (cond (same_text t.table c.table) t.rows found) c us
further c t [] found apart finds = tt
further c t (u ∷ us) found apart finds =
    ((λ is. at_other (same_text t.table c.table) refl is), further c t us found apart.1 finds.1)
  where
    at_other : (hit : Bool) → same_text t.table c.table ≡ hit → same_text c.table u.table ≡ true → cond hit t.rows found ≡ u.rows
    at_other true here is =
        let name : u.table ≡ t.table = sym ((bytes_decides c.table u.table).0 is) ∙ sym ((bytes_decides t.table c.table).0 here) in
        absurd (true≢false (sym ((bytes_decides u.table t.table).1 name) ∙ apart.0))
    at_other false here is = finds.0 is

pub finds_all : (c : Change) (ts : List TableRows) → AreNamedApart ts → Finds (rows_of_table ts c.table) c ts
finds_all c [] apart = tt
finds_all c (t ∷ ts) apart =
    ((λ is. ap (λ h. cond h t.rows (rows_of_table ts c.table)) (swapped c.table t.table is)), further c t ts (rows_of_table ts c.table) apart.0 (finds_all c ts apart.1))

back_by : (c : Change) (found : List Keyed) (ts : List TableRows) → RowsAreInOrder ts → Finds found c ts → apply_all (apply_all ts (c ∷ [])) (before found c ∷ []) ≡ ts
back_by c found [] ordered finds = refl
back_by c found (t ∷ ts) ordered finds =
    let head = row_back t.table t.rows c (get found c.key) (λ is. ap (λ rows. get rows c.key) (finds.0 is)) ordered.0 in
    let rest = back_by c found ts ordered.1 finds.1 in
    (λ i. let x : TableRows = record { table = t.table; rows = head i } in x ∷ rest i)

pub one_back : (c : Change) (ts : List TableRows) → RowsAreInOrder ts → AreNamedApart ts → apply_all (apply_all ts (c ∷ [])) (before (rows_of_table ts c.table) c ∷ []) ≡ ts
one_back c ts ordered apart = back_by c (rows_of_table ts c.table) ts ordered (finds_all c ts apart)

-- ---- all changes

pub still_in_order : (cs : List Change) (ts : List TableRows) → RowsAreInOrder ts → RowsAreInOrder (apply_all ts cs)
still_in_order cs [] ordered = tt
still_in_order cs (t ∷ ts) ordered = (apply_in_order t.table t.rows cs ordered.0, still_in_order cs ts ordered.1)

apart_from : (cs : List Change) (t : TableRows) (ts : List TableRows) → AllByRecursion (λ u. same_text u.table t.table ≡ false) ts
    → AllByRecursion (λ u. same_text u.table t.table ≡ false) (apply_all ts cs)
apart_from cs t [] apart = tt
apart_from cs t (u ∷ us) apart = (apart.0, apart_from cs t us apart.1)

pub still_apart : (cs : List Change) (ts : List TableRows) → AreNamedApart ts → AreNamedApart (apply_all ts cs)
still_apart cs [] apart = tt
still_apart cs (t ∷ ts) apart = (apart_from cs t ts apart.0, still_apart cs ts apart.1)

pub all_back : (rows : List TableRows) (cs : List Change) → RowsAreInOrder rows → AreNamedApart rows → apply_all (apply_all rows cs) (reverse (undo_over rows cs)) ≡ rows
all_back rows [] ordered apart = apply_none (apply_all rows []) ∙ apply_none rows
all_back rows (c ∷ cs) ordered apart =
    let now = apply_all rows (c ∷ []) in
    let u = before (rows_of_table rows c.table) c in
    let rest = undo_over now cs in
    ap (apply_all (apply_all rows (c ∷ cs))) (reverse_onto rest u [])
    ∙ sym (all_both (reverse rest) (u ∷ []) (apply_all rows (c ∷ cs)))
    ∙ ap (λ ts. apply_all (apply_all ts (reverse rest)) (u ∷ [])) (sym (apply_next c cs rows))
    ∙ ap (λ ts. apply_all ts (u ∷ [])) (all_back now cs (still_in_order (c ∷ []) rows ordered) (still_apart (c ∷ []) rows apart))
    ∙ one_back c rows ordered apart
