-- At each node of a lawful run tables have rows of their own, and changes that are not committed are of these tables.
use Rattle.std.proofs.Common.{◌≡◌, ℕ, ◌||◌, Bool, true, false, if◌then◌else◌, List, [], ◌∷◌, ◌++◌, Option, Some, None, refl, sym, ap, subst, ◌∙◌, true≢false}
use Rattle.std.specs.Option.{option_or}
use Rattle.std.specs.List.{All, AllByRecursion}
use Rattle.std.specs.Cmp.Lexicographic.{bytes_decides}
use Rattle.std.proofs.lemmas.List.Elements.{All-from_recursion}
use Rattle.std.proofs.lemmas.List.Folds.{find-append}
use Rattle.sql_eval.specs.Laws.{has_one_key, IsChangeOf, AreRowsOf}
use Rattle.sql_eval.proofs.RowLaws.{rows_stay}
use Rattle.sql_eval.specs.Rows.{apply}
use Rattle.row_store.specs.Store.{has_table}
use Rattle.node_rules.specs.Data.{Change, Table, BranchId, Decision, RedoRecord, Keyed, Doubt}
use Rattle.node_rules.specs.Data.decisions
use Rattle.node_rules.specs.Data.records
use Rattle.node_rules.specs.Data.params
use Rattle.node_rules.specs.Words.{same_text, item_at, drop_item}
use Rattle.node_rules.specs.Rows.{TableRows, rows_of_table, apply_all, with_table}
use Rattle.node_rules.specs.NodeState.{Stored, doubt_id}
use Rattle.node_rules.specs.Records.{applied, settled, doubt_over}
use Rattle.redo_record.specs.Durable.{durable_after}
use Rattle.run_key_laws.specs.TableLaws.{table_in, IsChangeIn, AreChangesIn, TablesFit, StoredFits}
use Rattle.run_rules.proofs.ListLemmas.{all_weaker, all_append, all_put}
use Rattle.run_base_laws.proofs.OwnLemmas.{all_found, all_without}

-- ---- tables

-- a name that is found is the table's
pub table_is : (ts : List Table) (name : List ℕ) (t : Table) → table_in ts name ≡ Some t → t.name ≡ name
table_is [] name t found = absurd cc
table_is (u ∷ ts) name t found = by (same_text u.name name) refl found (table_is ts name t)
  where
    by : (here : Bool) → same_text u.name name ≡ here → (if here then Some u else table_in ts name) ≡ Some t → (table_in ts name ≡ Some t → t.name ≡ name) → t.name ≡ name
    by true is found later = (let it : Some u ≡ Some t = found in let at : u ≡ t = cc in ap (λ (x : Table). x.name) (sym at)) ∙ (bytes_decides u.name name).0 is
    by false is found later = later found

same_itself : (name : List ℕ) → same_text name name ≡ true
same_itself name = (bytes_decides name name).1 refl

-- what holds of each table holds of the one that is found
pub table_found : (P : Table → Type 0) (ts : List Table) (name : List ℕ) (t : Table) → AllByRecursion P ts → table_in ts name ≡ Some t → P t
table_found P [] name t all found = absurd cc
table_found P (u ∷ ts) name t all found = by (same_text u.name name) found (table_found P ts name t all.1)
  where
    by : (here : Bool) → (if here then Some u else table_in ts name) ≡ Some t → (table_in ts name ≡ Some t → P t) → P t
    by true found later = subst P (let it : Some u ≡ Some t = found in cc) all.0
    by false found later = later found

-- with one more table
module _ (ts : List Table) (u : Table) where
  pub table_more : (name : List ℕ) → table_in (ts ++ u ∷ []) name ≡ option_or (table_in ts name) (if same_text u.name name then Some u else None)
  table_more name = find-append (λ t. same_text t.name name) ts (u ∷ [])

  table_stays : (name : List ℕ) (t : Table) → table_in ts name ≡ Some t → table_in (ts ++ u ∷ []) name ≡ Some t
  table_stays name t found = table_more name ∙ ap (λ o. option_or o (if same_text u.name name then Some u else None)) found

  change_stays : (c : Change) → IsChangeIn ts c → IsChangeIn (ts ++ u ∷ []) c
  change_stays c is = (is.0, table_stays c.table is.0 is.1, is.2)

  pub changes_stay : (cs : List Change) → AreChangesIn ts cs → AreChangesIn (ts ++ u ∷ []) cs
  changes_stay cs all = all_weaker (IsChangeIn ts) (IsChangeIn (ts ++ u ∷ [])) change_stays cs all

-- ---- rows

-- there are no rows where there is no table
pub no_rows : (rows : List TableRows) (name : List ℕ) → has_table rows name ≡ false → rows_of_table rows name ≡ []
no_rows [] name none = refl
no_rows (x ∷ xs) name none = by (same_text x.table name) none (no_rows xs name)
  where
    by : (here : Bool) → (here || has_table xs name) ≡ false → (has_table xs name ≡ false → rows_of_table xs name ≡ []) → (if here then x.rows else rows_of_table xs name) ≡ []
    by true none later = absurd (true≢false none)
    by false none later = later none

either_way : (here : Bool) (rows : List Keyed) → (if here then rows else rows) ≡ rows
either_way true rows = refl
either_way false rows = refl

-- a new table has no rows
pub rows_more : (rows : List TableRows) (table name : List ℕ) → rows_of_table (with_table rows table) name ≡ rows_of_table rows name
rows_more [] table name = either_way (same_text table name) []
rows_more (x ∷ xs) table name = ap (λ rs. if same_text x.table name then x.rows else rs) (rows_more xs table name)

has_more : (rows : List TableRows) (table name : List ℕ) → has_table rows name ≡ false → same_text table name ≡ false → has_table (with_table rows table) name ≡ false
has_more [] table name none other = ap (λ h. h || false) other
has_more (x ∷ xs) table name none other = by (same_text x.table name) none (λ none. has_more xs table name none other)
  where
    by : (here : Bool) → (here || has_table xs name) ≡ false → (has_table xs name ≡ false → has_table (with_table xs table) name ≡ false) → (here || has_table (with_table xs table) name) ≡ false
    by true none later = absurd (true≢false none)
    by false none later = later none

-- changes leave the tables
pub has_applied : (rows : List TableRows) (cs : List Change) (name : List ℕ) → has_table (apply_all rows cs) name ≡ has_table rows name
has_applied [] cs name = refl
has_applied (x ∷ xs) cs name = ap (λ h. same_text x.table name || h) (has_applied xs cs name)

-- the rows of a table with these changes
pub rows_applied : (rows : List TableRows) (cs : List Change) (name : List ℕ) → has_table rows name ≡ true → rows_of_table (apply_all rows cs) name ≡ apply name (rows_of_table rows name) cs
rows_applied [] cs name has = absurd (true≢false (sym has))
rows_applied (x ∷ xs) cs name has = by (same_text x.table name) refl has (rows_applied xs cs name)
  where
    by : (here : Bool) → same_text x.table name ≡ here → (here || has_table xs name) ≡ true → (has_table xs name ≡ true → rows_of_table (apply_all xs cs) name ≡ apply name (rows_of_table xs name) cs)
        → (if here then apply x.table x.rows cs else rows_of_table (apply_all xs cs) name) ≡ apply name (if here then x.rows else rows_of_table xs name) cs
    by true is has later = ap (λ m. apply m x.rows cs) ((bytes_decides x.table name).0 is)
    by false is has later = later has

module _ (ts : List Table) (cs : List Change) (all : AreChangesIn ts cs) where
  -- changes of a table's name are of the table
  of_table : (t : Table) → table_in ts t.name ≡ Some t → (c : Change) → IsChangeIn ts c → same_text c.table t.name ≡ true → IsChangeOf t c
  of_table t found c is same =
      let at : c.table ≡ t.name = (bytes_decides c.table t.name).0 same in
      let both : Some is.0 ≡ Some t = sym is.1 ∙ (ap (table_in ts) at ∙ found) in
      let it : is.0 ≡ t = cc in
      subst (λ (u : Table). IsChangeOf u c) it is.2

  all_of_table : (t : Table) → table_in ts t.name ≡ Some t → All (λ c. same_text c.table t.name ≡ true → IsChangeOf t c) cs
  all_of_table t found = All-from_recursion (λ (c : Change). same_text c.table t.name ≡ true → IsChangeOf t c) cs (all_weaker (IsChangeIn ts) _ (of_table t found) cs all)

  -- so they leave rows of it
  pub apply_rows : (t : Table) (rows : List Keyed) → table_in ts t.name ≡ Some t → AreRowsOf t rows → AreRowsOf t (apply t.name rows cs)
  apply_rows t rows found are = rows_stay t rows cs are (all_of_table t found)

  rows_fit : (rows : List TableRows) (t : Table) → table_in ts t.name ≡ Some t → AreRowsOf t (rows_of_table rows t.name) → AreRowsOf t (rows_of_table (apply_all rows cs) t.name)
  rows_fit [] t found are = tt
  rows_fit (x ∷ xs) t found are = by (same_text x.table t.name) refl are (rows_fit xs t found)
    where
      by : (here : Bool) → same_text x.table t.name ≡ here → AreRowsOf t (if here then x.rows else rows_of_table xs t.name) → (AreRowsOf t (rows_of_table xs t.name) → AreRowsOf t (rows_of_table (apply_all xs cs) t.name))
          → AreRowsOf t (if here then apply x.table x.rows cs else rows_of_table (apply_all xs cs) t.name)
      by true is are later = subst (λ m. AreRowsOf t (apply m x.rows cs)) (sym ((bytes_decides x.table t.name).0 is)) (apply_rows t x.rows found are)
      by false is are later = later are

  -- what is stored fits with these changes
  pub applied_fits : (rows : List TableRows) (ds : List Doubt) → TablesFit ts rows ds → TablesFit ts (apply_all rows cs) ds
  applied_fits rows ds now = record { one_key = now.one_key; known = λ name none. has_applied rows cs name ∙ now.known name none; rows_of = λ name t found. each name t found; doubts = now.doubts }
    where
      each : (name : List ℕ) (t : Table) → table_in ts name ≡ Some t → AreRowsOf t (rows_of_table (apply_all rows cs) name)
      each name t found =
          let at : t.name ≡ name = table_is ts name t found in
          subst (λ m. AreRowsOf t (rows_of_table (apply_all rows cs) m)) at
          (rows_fit rows t (subst (λ m. table_in ts m ≡ Some t) (sym at) found) (subst (λ m. AreRowsOf t (rows_of_table rows m)) (sym at) (now.rows_of name t found)))

-- ---- records

-- what a record needs of the tables that there are
abbrev pub RecordFits : List Table → RedoRecord → Type 0
RecordFits ts (records.Table t) = has_one_key t ≡ true
RecordFits ts (records.Sealed r) = AreChangesIn ts r.changes
RecordFits ts (records.Decided r) = AreChangesIn ts r.changes
RecordFits ts _ = Unit {0}

module _ (ts : List Table) (rows : List TableRows) (ds : List Doubt) (now : TablesFit ts rows ds) where
  table_fits : (u : Table) → has_one_key u ≡ true → TablesFit (ts ++ u ∷ []) (with_table rows u.name) ds
  table_fits u one = record {
    one_key = all_append (λ t. has_one_key t ≡ true) ts (u ∷ []) now.one_key (one, tt);
    known = λ name none. known name (table_in ts name) (same_text u.name name) refl refl (sym (table_more ts u name) ∙ none);
    rows_of = λ name t found. subst (AreRowsOf t) (sym (rows_more rows u.name name)) (each name t (table_in ts name) (same_text u.name name) refl (sym (table_more ts u name) ∙ found));
    doubts = all_weaker _ _ (λ d all. changes_stay ts u d.changes all) ds now.doubts;
  }
    where
      known : (name : List ℕ) (o : Option Table) (here : Bool) → table_in ts name ≡ o → same_text u.name name ≡ here → option_or o (if here then Some u else None) ≡ None → has_table (with_table rows u.name) name ≡ false
      known name None false is other none = has_more rows u.name name (now.known name is) other
      known name None true is other none = absurd cc
      known name (Some t) here is other none = absurd cc

      each : (name : List ℕ) (t : Table) (o : Option Table) (here : Bool) → table_in ts name ≡ o → option_or o (if here then Some u else None) ≡ Some t → AreRowsOf t (rows_of_table rows name)
      each name t (Some x) here is found = now.rows_of name t (is ∙ found)
      each name t None here is found = subst (AreRowsOf t) (sym (no_rows rows name (now.known name is))) tt

  settled_fits : (b : BranchId) (d : Decision) (o : Option Doubt) → item_at doubt_id ds b ≡ o → TablesFit ts (settled rows o d) ds
  settled_fits b (decisions.Commit n) None is = applied_fits ts [] tt rows ds now
  settled_fits b (decisions.Commit n) (Some x) is = applied_fits ts x.changes (all_found (λ d. AreChangesIn ts d.changes) doubt_id ds b x now.doubts is) rows ds now
  settled_fits b decisions.Rollback o is = now

  fewer_doubts : (b : BranchId) (more : List TableRows) → TablesFit ts more ds → TablesFit ts more (drop_item doubt_id ds b)
  fewer_doubts b more fits = record { one_key = fits.one_key; known = fits.known; rows_of = fits.rows_of; doubts = all_without (λ d. AreChangesIn ts d.changes) doubt_id ds b fits.doubts }

-- each record that fits leaves what is stored so
pub stored_fits : (s : Stored) (r : RedoRecord) → RecordFits s.durable.tables r → StoredFits s → StoredFits (applied s r)
unfolding applied durable_after
stored_fits s (records.Boot n) is now = now
stored_fits s (records.Table t) is now = table_fits s.durable.tables s.rows s.doubts now t is
stored_fits s (records.Link l) is now = now
stored_fits s (records.Synonym y) is now = now
stored_fits s (records.Param (params.Recovery on)) is now = now
stored_fits s (records.Param (params.Strength strength)) is now = now
stored_fits s (records.Sealed r) is now =
    record { one_key = now.one_key; known = now.known; rows_of = now.rows_of; doubts = all_put (λ d. AreChangesIn s.durable.tables d.changes) doubt_id s.doubts (doubt_over s.rows r) now.doubts is }
stored_fits s (records.Decided r) is now = applied_fits s.durable.tables r.changes is s.rows s.doubts now
stored_fits s (records.Ended b d) is now =
    fewer_doubts s.durable.tables s.rows s.doubts now b (settled s.rows (item_at doubt_id s.doubts b) d) (settled_fits s.durable.tables s.rows s.doubts now b d (item_at doubt_id s.doubts b) refl)
stored_fits s (records.Forced b d given) is now =
    fewer_doubts s.durable.tables s.rows s.doubts now b (settled s.rows (item_at doubt_id s.doubts b) d) (settled_fits s.durable.tables s.rows s.doubts now b d (item_at doubt_id s.doubts b) refl)
stored_fits s (records.Met b d mixed) is now = now
stored_fits s (records.Forgot b) is now = now
stored_fits s (records.Hidden b) is now = now
stored_fits s (records.Image i) is now = now
