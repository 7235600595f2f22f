-- What records make of rows that are of their tables.
use Rattle.std.proofs.Common.{◌≡◌, ℕ, ◌||◌, Bool, true, false, if◌then◌else◌, List, [], ◌∷◌, ◌++◌, Option, Some, None, refl, sym, ap, subst, ◌∙◌}
use Rattle.std.specs.List.{list_any}
use Rattle.node_rules.specs.Data.{Table, Change, BranchId, Decision, RedoRecord, Owned, Doubt}
use Rattle.node_rules.specs.Data.decisions
use Rattle.node_rules.specs.Data.records
use Rattle.node_rules.specs.Data.params
use Rattle.redo_record.specs.Durable.{durable_after}
use Rattle.node_rules.specs.Words.{same_text, item_at, drop_item}
use Rattle.node_rules.specs.Rows.{TableRows, rows_of_table, apply_all, with_table, changes_of}
use Rattle.node_rules.specs.NodeState.{Stored, doubt_id}
use Rattle.node_rules.specs.Records.{held_back, settled, applied}
use Rattle.node_rules.specs.Client.{is_used}
use Rattle.sql_statement.specs.Whole.{IsWholeTable}
use Rattle.sql_eval.specs.Laws.{AreRowsOf}
use Rattle.sql_eval.proofs.RowLaws.{rows_stay}
use Rattle.node_ready_laws.specs.Rows.{table_named, AreChangesAt, AreRows}
use Rattle.node_ready_laws.proofs.ListLemmas.{all_last, all_weaker, all_both, all_found, all_dropped, found_in_more, none_found, all_placed}
use Rattle.node_ready_laws.proofs.TableLemmas.{rows_changed, names_changed, rows_added, rows_new, names_added, tables_named, same_self, under, rows_there, changes_more, named_changes}
use Rattle.read_only_tx.specs.Versions.{Version}

or_left : (a b : Bool) → (a || b) ≡ false → a ≡ false
or_left true b is = absurd cc
or_left false b is = refl

module _ (ts : List Table) (rows : List TableRows) (owns : List Owned) (doubts : List Doubt) (vs : List Version) (now : AreRows ts rows owns doubts vs) where
  -- changes of tables that are there go into the rows
  pub rows_with : (cs : List Change) → AreChangesAt ts cs → AreRows ts (apply_all rows cs) owns doubts vs
  rows_with cs at = record {
    whole = now.whole;
    own_names = now.own_names;
    fit = all_both (λ t. table_named ts t.name ≡ Some t) (λ t. AreRowsOf t (rows_of_table rows t.name) × (list_any (λ r. same_text r.table t.name) rows ≡ true)) (λ t. AreRowsOf t (rows_of_table (apply_all rows cs) t.name))
        (λ t first fits. subst (AreRowsOf t) (sym (rows_changed rows cs t.name fits.1)) (rows_stay t (rows_of_table rows t.name) cs fits.0 (named_changes ts t cs first at)))
        ts now.own_names (all_both (λ t. AreRowsOf t (rows_of_table rows t.name)) (λ t. list_any (λ r. same_text r.table t.name) rows ≡ true) _ (λ t fits there. (fits, there)) ts now.fit (rows_there ts rows now.names));
    names = names_changed rows cs ∙ now.names;
    own = now.own;
    held_back = now.held_back;
    behind = now.behind;
  }

  -- a table of a new name comes behind the others, without rows
  pub table_with : (t : Table) → IsWholeTable t → list_any (λ x. same_text x.name t.name) ts ≡ false → AreRows (ts ++ t ∷ []) (with_table rows t.name) owns doubts vs
  table_with t whole new = record {
    whole = all_last IsWholeTable ts t now.whole whole;
    own_names = all_last _ ts t
        (all_weaker (λ x. table_named ts x.name ≡ Some x) _ (λ x first. found_in_more (λ y. same_text y.name x.name) ts (t ∷ []) x first) ts now.own_names)
        (none_found (λ y. same_text y.name t.name) ts (t ∷ []) new ∙ ap (λ b. if b then Some t else None) (same_self t.name));
    fit = all_last _ ts t
        (all_both (λ x. AreRowsOf x (rows_of_table rows x.name)) (λ x. list_any (λ r. same_text r.table x.name) rows ≡ true) _
        (λ x fits there. subst (AreRowsOf x) (sym (rows_added rows t.name x.name there)) fits) ts now.fit (rows_there ts rows now.names))
        (subst (AreRowsOf t) (sym (rows_new rows t.name t.name (under ts rows now.names t.name ∙ new))) tt);
    names = names_added rows t.name ∙ (ap (λ (names : List (List ℕ)). names ++ t.name ∷ []) now.names ∙ sym (tables_named ts t));
    own = all_weaker _ _ (λ o at. changes_more ts t (changes_of o.sets) at) owns now.own;
    held_back = all_weaker _ _ (λ d at. changes_more ts t d.changes at) doubts now.held_back;
    behind = all_weaker (λ v. AreChangesAt ts v.changes × AreChangesAt ts v.before) _ (λ v at. (changes_more ts t v.changes at.0, changes_more ts t v.before at.1)) vs now.behind;
  }

  pub held_at : (b : BranchId) (o : Option Doubt) → item_at doubt_id doubts b ≡ o → AreChangesAt ts (held_back o)
  held_at b None is = tt
  held_at b (Some d) is = all_found (λ x. AreChangesAt ts x.changes) _ doubts d now.held_back is

  -- a branch in doubt that is settled
  pub doubt_settled : (b : BranchId) (d : Decision) → AreRows ts (settled rows (item_at doubt_id doubts b) d) owns (drop_item doubt_id doubts b) vs
  doubt_settled b (decisions.Commit n) =
      let with = rows_with (held_back (item_at doubt_id doubts b)) (held_at b (item_at doubt_id doubts b) refl) in
      record { whole = with.whole; own_names = with.own_names; fit = with.fit; names = with.names; own = with.own; held_back = all_dropped (λ x. AreChangesAt ts x.changes) doubt_id doubts b now.held_back; behind = now.behind }
  doubt_settled b decisions.Rollback =
      record { whole = now.whole; own_names = now.own_names; fit = now.fit; names = now.names; own = now.own; held_back = all_dropped (λ x. AreChangesAt ts x.changes) doubt_id doubts b now.held_back; behind = now.behind }

-- a record that keeps rows of their tables: a new table is whole, and changes are of tables that are there
abbrev pub KeepsRows : Stored → RedoRecord → Type 0
KeepsRows s (records.Table t) = IsWholeTable t × (is_used s.durable t.name ≡ false)
KeepsRows s (records.Sealed r) = AreChangesAt s.durable.tables r.changes
KeepsRows s (records.Decided r) = AreChangesAt s.durable.tables r.changes
KeepsRows s _ = Unit {0}

-- rows after one more record
pub rows_applied : (s : Stored) (owns : List Owned) (vs : List Version) (r : RedoRecord) → AreRows s.durable.tables s.rows owns s.doubts vs → KeepsRows s r
    → AreRows (applied s r).durable.tables (applied s r).rows owns (applied s r).doubts vs
unfolding applied durable_after
rows_applied s owns vs (records.Table t) now is = table_with s.durable.tables s.rows owns s.doubts vs now t is.0 (or_left _ _ is.1)
rows_applied s owns vs (records.Sealed r) now is =
    record { whole = now.whole; own_names = now.own_names; fit = now.fit; names = now.names; own = now.own; held_back = all_placed _ doubt_id s.doubts _ now.held_back is; behind = now.behind }
rows_applied s owns vs (records.Decided r) now is = rows_with s.durable.tables s.rows owns s.doubts vs now r.changes is
rows_applied s owns vs (records.Ended b d) now is = doubt_settled s.durable.tables s.rows owns s.doubts vs now b d
rows_applied s owns vs (records.Forced b d given) now is = doubt_settled s.durable.tables s.rows owns s.doubts vs now b d
rows_applied s owns vs (records.Boot n) now is = now
rows_applied s owns vs (records.Link l) now is = now
rows_applied s owns vs (records.Synonym y) now is = now
rows_applied s owns vs (records.Param (params.Recovery on)) now is = now
rows_applied s owns vs (records.Param (params.Strength strength)) now is = now
rows_applied s owns vs (records.Met b d mixed) now is = now
rows_applied s owns vs (records.Forgot b) now is = now
rows_applied s owns vs (records.Hidden b) now is = now
rows_applied s owns vs (records.Image i) now is = now
