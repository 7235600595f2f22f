-- The undo of changes: it depends on the rows at their keys alone, that of changes and of others behind them is made of both, and that of
-- changes of different keys is the rows that stand at these keys.
use Rattle.std.proofs.Common.{◌≡◌, ℕ, ◌&&◌, ◌||◌, Bool, true, false, if◌then◌else◌, List, [], ◌∷◌, ◌++◌, map, refl, sym, ap, ◌∙◌}
use Rattle.std.specs.List.{AllByRecursion}
use Rattle.row_store.specs.Own.{before}
use Rattle.row_store.specs.Store.{has_table}
use Rattle.stmt_view_laws.proofs.AgreeLemmas.{get_set}
use Rattle.node_rules.specs.Data.{Value, Change, Keyed}
use Rattle.node_rules.specs.Words.{same_text}
use Rattle.node_rules.specs.Rows.{TableRows, same_value, get, set_to, change_one, apply, apply_all, rows_of_table, undo_over}
use Rattle.node_ready_laws.proofs.ListLemmas.{all_weaker}
use Rattle.node_ready_laws.proofs.TableLemmas.{rows_changed}
use Rattle.node_undo_laws.specs.Keys.{are_of_one_key}

-- ---- rows with changes

-- no change
pub apply_none : (rows : List TableRows) → apply_all rows [] ≡ rows
apply_none [] = refl
apply_none (t ∷ ts) = ap (λ (us : List TableRows). t ∷ us) (apply_none ts)

apply_both : (table : List ℕ) (rows : List Keyed) (cs ds : List Change) → apply table (apply table rows cs) ds ≡ apply table rows (cs ++ ds)
apply_both table rows [] ds = refl
apply_both table rows (c ∷ cs) ds = apply_both table (change_one table rows c) cs ds

-- changes, and then others
all_both : (cs ds : List Change) (rows : List TableRows) → apply_all (apply_all rows cs) ds ≡ apply_all rows (cs ++ ds)
all_both cs ds [] = refl
all_both cs ds (t ∷ ts) = λ i. record { table = t.table; rows = apply_both t.table t.rows cs ds i } ∷ all_both cs ds ts i

-- changes add no table
pub table_stays : (table : List ℕ) (cs : List Change) (rows : List TableRows) → has_table (apply_all rows cs) table ≡ has_table rows table
table_stays table cs [] = refl
table_stays table cs (t ∷ ts) = ap (λ there. same_text t.table table || there) (table_stays table cs ts)

module _ (table : List ℕ) (key : Value) where
  -- a change of another key leaves the row at a key
  left_by : (rows : List Keyed) (x : Change) → (same_text x.table table && same_value x.key key) ≡ false → get (change_one table rows x) key ≡ get rows key
  left_by rows x apart = by (same_text x.table table) apart
    where
      by : (here : Bool) → (here && same_value x.key key) ≡ false → get (if here then set_to rows x.key x.after else rows) key ≡ get rows key
      by true apart = get_set x.key key x.after rows ∙ ap (λ here. if here then x.after else get rows key) apart
      by false apart = refl

  -- so do several
  pub left_alone : (cs : List Change) (rows : List Keyed) → AllByRecursion (λ x. (same_text x.table table && same_value x.key key) ≡ false) cs → get (apply table rows cs) key ≡ get rows key
  left_alone [] rows apart = refl
  left_alone (x ∷ cs) rows apart = left_alone cs (change_one table rows x) apart.1 ∙ left_by rows x apart.0

  -- one change makes the same of the same row
  changed_alike : (x : Change) (rows more : List Keyed) → get rows key ≡ get more key → get (change_one table rows x) key ≡ get (change_one table more x) key
  changed_alike x rows more same = by (same_text x.table table)
    where
      by : (here : Bool) → get (if here then set_to rows x.key x.after else rows) key ≡ get (if here then set_to more x.key x.after else more) key
      by true = get_set x.key key x.after rows ∙ ap (λ row. if same_value x.key key then x.after else row) same ∙ sym (get_set x.key key x.after more)
      by false = same

-- changes of other keys leave the row at the key of a change
pub untouched : (cs : List Change) (rows : List TableRows) (c : Change) → has_table rows c.table ≡ true → AllByRecursion (λ x. are_of_one_key x c ≡ false) cs
    → get (rows_of_table (apply_all rows cs) c.table) c.key ≡ get (rows_of_table rows c.table) c.key
untouched cs rows c there apart = ap (λ (rs : List Keyed). get rs c.key) (rows_changed rows cs c.table there) ∙ left_alone c.table c.key cs (rows_of_table rows c.table) apart

-- ---- the undo depends on the rows at the keys of the changes

-- The rows of a change's table have the same row at its key here and there.
pub record StandAlike (rows more : List TableRows) (c : Change) : Type 0 where
  pub here : has_table rows c.table ≡ true
  pub there : has_table more c.table ≡ true
  pub same : get (rows_of_table rows c.table) c.key ≡ get (rows_of_table more c.table) c.key

-- so it is after one more change
alike_after : (x : Change) (rows more : List TableRows) (c : Change) → StandAlike rows more c → StandAlike (apply_all rows (x ∷ [])) (apply_all more (x ∷ [])) c
alike_after x rows more c is = record {
  here = table_stays c.table (x ∷ []) rows ∙ is.here;
  there = table_stays c.table (x ∷ []) more ∙ is.there;
  same = ap (λ (rs : List Keyed). get rs c.key) (rows_changed rows (x ∷ []) c.table is.here)
      ∙ changed_alike c.table c.key x (rows_of_table rows c.table) (rows_of_table more c.table) is.same
      ∙ sym (ap (λ (rs : List Keyed). get rs c.key) (rows_changed more (x ∷ []) c.table is.there));
}

pub undo_alike : (cs : List Change) (rows more : List TableRows) → AllByRecursion (StandAlike rows more) cs → undo_over rows cs ≡ undo_over more cs
undo_alike [] rows more alike = refl
undo_alike (c ∷ cs) rows more alike = λ i.
    record c { after = alike.0.same i }
    ∷ undo_alike cs (apply_all rows (c ∷ [])) (apply_all more (c ∷ []))
    (all_weaker (StandAlike rows more) (StandAlike (apply_all rows (c ∷ [])) (apply_all more (c ∷ []))) (alike_after c rows more) cs alike.1) i

-- ---- the undo of changes and of others behind them

pub undo_both : (cs ds : List Change) (rows : List TableRows) → undo_over rows (cs ++ ds) ≡ undo_over rows cs ++ undo_over (apply_all rows cs) ds
undo_both [] ds rows = ap (λ (rs : List TableRows). undo_over rs ds) (sym (apply_none rows))
undo_both (c ∷ cs) ds rows =
    ap (λ (us : List Change). before (rows_of_table rows c.table) c ∷ us)
    (undo_both cs ds (apply_all rows (c ∷ [])) ∙ ap (λ (rs : List TableRows). undo_over (apply_all rows (c ∷ [])) cs ++ undo_over rs ds) (all_both (c ∷ []) cs rows))

-- ---- the undo of changes of different keys

-- each of these keys is another
abbrev pub AreDifferent : List Value → Type 0
AreDifferent [] = Unit {0}
AreDifferent (k ∷ ks) = AllByRecursion (λ q. same_value k q ≡ false) ks × AreDifferent ks

and_false : (a b : Bool) → b ≡ false → (a && b) ≡ false
and_false true b is = is
and_false false b is = refl

module _ (table : List ℕ) where
  -- the rows from before changes are the same where one change of another key was made
  before_alike : (x : Change) (rows : List Keyed) (cs : List Change) → AllByRecursion (λ q. same_value x.key q ≡ false) (map (λ c. c.key) cs) → map (before (change_one table rows x)) cs ≡ map (before rows) cs
  before_alike x rows [] apart = refl
  before_alike x rows (c ∷ cs) apart = λ i.
      record c { after = left_by table c.key rows x (and_false (same_text x.table table) (same_value x.key c.key) apart.0) i } ∷ before_alike x rows cs apart.1 i

  pub undo_each : (cs : List Change) (rows : List TableRows) → has_table rows table ≡ true → AllByRecursion (λ c. c.table ≡ table) cs → AreDifferent (map (λ c. c.key) cs)
      → undo_over rows cs ≡ map (before (rows_of_table rows table)) cs
  undo_each [] rows there of_table apart = refl
  undo_each (c ∷ cs) rows there of_table apart =
      let later : undo_over (apply_all rows (c ∷ [])) cs ≡ map (before (rows_of_table (apply_all rows (c ∷ [])) table)) cs
      = undo_each cs (apply_all rows (c ∷ [])) (table_stays table (c ∷ []) rows ∙ there) of_table.1 apart.1 in
      let left : map (before (rows_of_table (apply_all rows (c ∷ [])) table)) cs ≡ map (before (rows_of_table rows table)) cs
      = ap (λ (rs : List Keyed). map (before rs) cs) (rows_changed rows (c ∷ []) table there) ∙ before_alike c (rows_of_table rows table) cs apart.0 in
      λ i. before (rows_of_table rows (of_table.0 i)) c ∷ (later ∙ left) i
