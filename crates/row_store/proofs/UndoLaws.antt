-- The rows from before changes, one change after the other.
use Rattle.std.proofs.Common.{◌≡◌, ℕ, Bool, true, false, cond, ◌||◌, List, [], ◌∷◌, ◌++◌, None, Option, unwrap_or, refl, sym, ap, ◌∙◌, append_assoc, true≢false}
use Rattle.std.specs.Cmp.Lexicographic.{bytes_decides}
use Rattle.dtx_values.specs.declared.value.Value.{Value}
use Rattle.dtx_values.specs.declared.row.Row.{Row}
use Rattle.dtx_values.specs.declared.row.Change.{Change}
use Rattle.sql_eval.specs.declared.keyed.Keyed.{Keyed}
use Rattle.sql_check.specs.Words.{same_text}
use Rattle.sql_eval.specs.Rows.{get, apply, change_one}
use Rattle.row_store.specs.Own.{last_at, before}
use Rattle.row_store.specs.Pending.{undo_over}
use Rattle.row_store.specs.Tables.{TableRows, apply_all, rows_of_table}
use Rattle.row_store.specs.Store.{has_table}
use Rattle.row_store.proofs.Lookups.{get_applied}
use Rattle.row_store.proofs.Named.{apply_none}

apply_both : (table : List ℕ) (rows : List Keyed) (cs ds : List Change) → apply table (apply table rows cs) ds ≡ apply table rows (cs ++ ds)
apply_both table rows [] ds = refl
apply_both table rows (c ∷ cs) ds = apply_both table (change_one table rows c) cs ds

-- changes and then others are all of them
pub all_both : (cs ds : List Change) (ts : List TableRows) → apply_all (apply_all ts cs) ds ≡ apply_all ts (cs ++ ds)
all_both cs ds [] = refl
all_both cs ds (t ∷ ts) = (λ i. record { table = t.table; rows = apply_both t.table t.rows cs ds i } ∷ all_both cs ds ts i)

module _ (table : List ℕ) (cs : List Change) where
  applied_if : (t : TableRows) (ts : List TableRows) (hit any : Bool) → same_text t.table table ≡ hit → (hit || any) ≡ true
      → (any ≡ true → rows_of_table (apply_all ts cs) table ≡ apply table (rows_of_table ts table) cs)
      → cond hit (apply t.table t.rows cs) (rows_of_table (apply_all ts cs) table) ≡ apply table (cond hit t.rows (rows_of_table ts table)) cs
  applied_if t ts true any is has later = ap (λ name. apply name t.rows cs) ((bytes_decides t.table table).0 is)
  applied_if t ts false any is has later = later has

  -- the rows of a table after changes
  pub rows_applied : (ts : List TableRows) → has_table ts table ≡ true → rows_of_table (apply_all ts cs) table ≡ apply table (rows_of_table ts table) cs
  rows_applied [] has = absurd (true≢false (sym has))
  rows_applied (t ∷ ts) has = applied_if t ts (same_text t.table table) (has_table ts table) refl has (rows_applied ts)

  -- the row at a key: what the last change there leaves, or the row from before
  pub got_after : (ts : List TableRows) (key : Value) → has_table ts table ≡ true
      → unwrap_or (last_at cs table key None) (get (rows_of_table ts table) key) ≡ get (rows_of_table (apply_all ts cs) table) key
  got_after ts key has = sym (ap (λ rows. get rows key) (rows_applied ts has) ∙ get_applied table key (rows_of_table ts table) cs)

-- one change more, and its undo, the row from before it
pub undo_next : (ts : List TableRows) (made us : List Change) (c : Change) (row : Option Row) (rest : List Change) → row ≡ get (rows_of_table (apply_all ts made) c.table) c.key
    → (us ++ (record c { after = row }) ∷ []) ++ undo_over (apply_all ts (made ++ c ∷ [])) rest ≡ us ++ undo_over (apply_all ts made) (c ∷ rest)
undo_next ts made us c row rest is =
    let after : apply_all ts (made ++ c ∷ []) ≡ apply_all (apply_all ts made) (c ∷ []) = sym (all_both made (c ∷ []) ts) in
    (λ i. (us ++ (record c { after = is i }) ∷ []) ++ undo_over (after i) rest)
    ∙ append_assoc us (before (rows_of_table (apply_all ts made) c.table) c ∷ []) (undo_over (apply_all (apply_all ts made) (c ∷ [])) rest)

-- no change yet
pub undo_none : (ts : List TableRows) (made us cs rest : List Change) → made ≡ [] → us ≡ [] → rest ≡ cs → us ++ undo_over (apply_all ts made) rest ≡ undo_over ts cs
undo_none ts made us cs rest none empty all =
    (λ i. empty i ++ undo_over (apply_all ts (none i)) (all i)) ∙ ap (λ rows. undo_over rows cs) (apply_none ts)
