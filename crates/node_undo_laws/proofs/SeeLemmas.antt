-- What a ready node gives its undo: no kept branch and none in doubt is live, what branches changed is of tables that are there, and a
-- statement sees rows of its table.
use Rattle.std.proofs.Common.{◌≡◌, ℕ, ◌||◌, Bool, true, false, if◌then◌else◌, List, [], ◌∷◌, find, Option, Some, None, refl, sym, ap, subst, ◌∙◌}
use Rattle.std.specs.List.{AllByRecursion, list_any}
use Rattle.sql_eval.specs.Laws.{has_one_key, AreRowsOf}
use Rattle.sql_eval.proofs.RowLaws.{rows_stay}
use Rattle.sql_eval.proofs.TableLaws.{whole_tables_have_one_key}
use Rattle.tran_ids.proofs.BranchLemmas.{same_from_equal}
use Rattle.row_store.specs.Store.{AreOfTables, has_table}
use Rattle.node_rules.specs.Data.{Table, Change, BranchId, Live}
use Rattle.node_rules.specs.Words.{same, same_text, item_at}
use Rattle.node_rules.specs.Rows.{rows_of_table, view_of}
use Rattle.node_rules.specs.Names.{table_of}
use Rattle.node_rules.specs.NodeState.{NodeState, kept_row_id, doubt_id, live_at}
use Rattle.node_rules.proofs.SessionLemmas.{seqs}
use Rattle.node_ready_laws.specs.Ids.{IsUnkept, HasOwnIds}
use Rattle.node_ready_laws.specs.Rows.{table_named, IsChangeAt, AreChangesAt, HasRows}
use Rattle.node_ready_laws.proofs.ApartLemmas.{live_free}
use Rattle.node_ready_laws.proofs.ListLemmas.{all_weaker, all_found, found_passes}
use Rattle.node_ready_laws.proofs.RanLemmas.{own_there}
use Rattle.node_ready_laws.proofs.TableLemmas.{one_text, under, named_changes}
use Rattle.node_undo_laws.specs.Changed.{changes_at}
use Rattle.node_undo_laws.proofs.KeyStepLemmas.{SeesRows, Apart}

-- ---- lists

-- each item is found by its branch
module _ {A : Type 0} (id : A → BranchId) where
  none_behind : (x : A) (xs : List A) (b : BranchId) → item_at id (x ∷ xs) b ≡ None → item_at id xs b ≡ None
  none_behind x xs b none = by (same (id x) b) none
    where
      by : (here : Bool) → (if here then Some x else item_at id xs b) ≡ None → item_at id xs b ≡ None
      by true none = absurd cc
      by false none = none

  each_found : (xs : List A) → AllByRecursion (λ x. item_at id xs (id x) ≡ None → ⊥) xs
  each_found [] = tt
  each_found (x ∷ xs) = (
    λ none. (let there : Some x ≡ None = sym (ap (λ here. if here then Some x else item_at id xs (id x)) (same_from_equal (id x) (id x) refl)) ∙ none in absurd cc),
    all_weaker (λ y. item_at id xs (id y) ≡ None → ⊥) (λ y. item_at id (x ∷ xs) (id y) ≡ None → ⊥) (λ y found none. found (none_behind x xs (id y) none)) xs (each_found xs),
  )

-- what is found is there
found_there : {A : Type 0} (p : A → Bool) (xs : List A) (y : A) → find p xs ≡ Some y → list_any p xs ≡ true
found_there p [] y found = absurd cc
found_there p (x ∷ xs) y found = by (p x) found (found_there p xs y)
  where
    by : (here : Bool) → (if here then Some x else find p xs) ≡ Some y → (find p xs ≡ Some y → list_any p xs ≡ true) → (here || list_any p xs) ≡ true
    by true found later = refl
    by false found later = later found

-- ---- live branches

module _ (k : NodeState) (ids : HasOwnIds k) where
  not_live : (b : BranchId) → (IsUnkept k.stored.durable.kept k.stored.doubts b → ⊥) → live_at k b ≡ None
  not_live b kept = by (live_at k b) refl
    where
      by : (o : Option Live) → live_at k b ≡ o → o ≡ None
      by None is = refl
      by (Some l) is = absurd (kept (live_free k.stored.durable.boot (seqs k.sessions) _ k.lives k.stored.durable.kept k.stored.doubts ids b l is))

  pub apart_of : Apart k
  apart_of = record {
    rows = all_weaker _ _ (λ s found. not_live s.me (λ un. found un.0)) k.stored.durable.kept (each_found kept_row_id k.stored.durable.kept);
    doubts = all_weaker _ _ (λ d found. not_live d.branch (λ un. found un.1)) k.stored.doubts (each_found doubt_id k.stored.doubts);
  }

-- ---- tables

module _ (k : NodeState) (now : HasRows k) where
  tables_there : (cs : List Change) → AreChangesAt k.stored.durable.tables cs → AreOfTables k.stored.rows cs
  tables_there cs at =
      all_weaker (IsChangeAt k.stored.durable.tables) (λ c. has_table k.stored.rows c.table ≡ true)
      (λ c is. under k.stored.durable.tables k.stored.rows now.names c.table ∙ found_there (λ t. same_text t.name c.table) k.stored.durable.tables is.0 is.1) cs at

  -- what live branches have changed
  pub own_tables : (b : BranchId) → AreOfTables k.stored.rows (changes_at k.owns b)
  own_tables b = tables_there (changes_at k.owns b) (own_there k now b)

  -- and branches in doubt
  pub doubt_tables : AllByRecursion (λ d. AreOfTables k.stored.rows d.changes) k.stored.doubts
  doubt_tables = all_weaker _ _ (λ d at. tables_there d.changes at) k.stored.doubts now.held_back

  module _ (name : List ℕ) (t : Table) (found : table_of k.stored.durable name ≡ Some t) where
    there : table_named k.stored.durable.tables t.name ≡ Some t
    there = subst (λ q. table_named k.stored.durable.tables q ≡ Some t) (sym (one_text t.name name (found_passes (λ x. same_text x.name name) k.stored.durable.tables t found))) found

    -- rows stand under the name of a table
    pub has_rows : has_table k.stored.rows t.name ≡ true
    has_rows = under k.stored.durable.tables k.stored.rows now.names t.name ∙ found_there (λ x. same_text x.name t.name) k.stored.durable.tables t there

    one_key : has_one_key t ≡ true
    one_key = whole_tables_have_one_key t (all_found _ _ k.stored.durable.tables t now.whole there)

    seen : (b : BranchId) → AreRowsOf t (view_of k.stored.rows (changes_at k.owns b) t.name)
    seen b =
        rows_stay t _ (changes_at k.owns b) (all_found (λ x. AreRowsOf x (rows_of_table k.stored.rows x.name)) _ k.stored.durable.tables t now.fit there)
        (named_changes k.stored.durable.tables t (changes_at k.owns b) there (own_there k now b))

  pub sees_rows : SeesRows k
  sees_rows b name t found = (one_key name t found, seen name t found b)
