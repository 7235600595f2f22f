-- A start has the undo of the branches in doubt, by one record after the other: what these leave of nothing.
use Rattle.std.proofs.Common.{◌≡◌, ℕ, true, List, [], ◌∷◌, ◌++◌, Option, refl, ◌∙◌, arith}
use Rattle.std.specs.List.{AllByRecursion, IsDistinct}
use Rattle.row_store.specs.Store.{AreOfTables, has_table}
use Rattle.node_rules.specs.Data.{BranchId, Decision, RedoRecord, Doubt, Place}
use Rattle.node_rules.specs.Data.decisions
use Rattle.node_rules.specs.Data.records
use Rattle.node_rules.specs.Words.{item_at, drop_item}
use Rattle.node_rules.specs.Rows.{TableRows, apply_all, with_table}
use Rattle.node_rules.specs.NodeState.{Stored, doubt_id}
use Rattle.node_rules.specs.Records.{nothing_stored, settled, doubt_over, held_back, applied, stored_by}
use Rattle.node_rules.specs.Turn.{start_of, kept_by}
use Rattle.node_ready_laws.specs.Following.{MayFollow, MayAllFollow}
use Rattle.node_ready_laws.proofs.ListLemmas.{all_weaker, all_placed, all_dropped}
use Rattle.node_undo_laws.specs.Kept.{UndoIsHeld, UndoStands, HasUndo}
use Rattle.node_undo_laws.specs.Fits.{FitsDoubts, AllFitDoubts}
use Rattle.node_undo_laws.specs.Laws.{NoUndoAtFirst, StartsHaveUndo}
use Rattle.node_undo_laws.proofs.ChangedLemmas.{started_fits}
use Rattle.node_undo_laws.proofs.DistinctLemmas.{DoubtsApart, start_holds, start_distinct}
use Rattle.node_undo_laws.proofs.HolderLemmas.{starts_free, held_leaves, apart_without, apart_with, free_leaves}
use Rattle.node_undo_laws.proofs.KeptLemmas.{still_there, rows_changed_beside, table_made, ended}
use Rattle.node_undo_laws.proofs.UndoLemmas.{table_stays}
use Rattle.read_only_tx.specs.Versions.{Versions}

-- What is stored where the node is down: undo of branches in doubt, which changed different keys of tables that are there.
pub record IsLeft (undo : ℕ) (s : Stored) : Type 0 where
  pub stands : UndoStands undo s.rows [] s.doubts
  pub apart : DoubtsApart s.doubts
  pub there : AllByRecursion (λ d. AreOfTables s.rows d.changes) s.doubts

-- tables stay while rows change
there_after : (rows more : List TableRows) → ((table : List ℕ) → has_table rows table ≡ true → has_table more table ≡ true) → (ds : List Doubt) → AllByRecursion (λ d. AreOfTables rows d.changes) ds
    → AllByRecursion (λ d. AreOfTables more d.changes) ds
there_after rows more stay ds all = all_weaker _ _ (λ d there. all_weaker _ _ (λ c is. stay c.table is) d.changes there) ds all

module _ (undo : ℕ) (s : Stored) (now : IsLeft undo s) where
  -- a branch in doubt is settled
  settled_tables : (o : Option Doubt) (d : Decision) (table : List ℕ) → has_table s.rows table ≡ true → has_table (settled s.rows o d) table ≡ true
  settled_tables o (decisions.Commit n) table there = table_stays table (held_back o) s.rows ∙ there
  settled_tables o decisions.Rollback table there = there

  left_ended : (b : BranchId) (d : Decision) → UndoStands undo (settled s.rows (item_at doubt_id s.doubts b) d) [] (drop_item doubt_id s.doubts b)
  left_ended b d = ended undo s.rows [] s.doubts now.stands (λ c. tt) now.there b (λ c. tt) (held_leaves s.doubts b now.apart) d

  left_there : (b : BranchId) (d : Decision) → AllByRecursion (λ e. AreOfTables (settled s.rows (item_at doubt_id s.doubts b) d) e.changes) (drop_item doubt_id s.doubts b)
  left_there b d =
      there_after s.rows (settled s.rows (item_at doubt_id s.doubts b) d) (settled_tables (item_at doubt_id s.doubts b) d) (drop_item doubt_id s.doubts b)
      (all_dropped (λ e. AreOfTables s.rows e.changes) doubt_id s.doubts b now.there)

-- one record more
pub left_with : (undo : ℕ) (s : Stored) (r : RedoRecord) → MayFollow s r → FitsDoubts undo s r → IsLeft undo s → IsLeft undo (applied s r)
unfolding applied
left_with undo s (records.Table t) may fits now = record {
  stands = table_made undo s.rows [] s.doubts now.stands t.name (λ b. tt) now.there;
  apart = now.apart;
  there = there_after s.rows (with_table s.rows t.name) (λ table there. still_there s.rows t.name table there) s.doubts now.there;
}
left_with undo s (records.Sealed r) may fits now = record {
  stands = record {
    ordered = now.stands.ordered;
    own = now.stands.own;
    held_back = all_placed (UndoIsHeld s.rows) doubt_id s.doubts (doubt_over s.rows r) now.stands.held_back refl;
    room = let enough = fits.room in omega (arith, enough);
  };
  apart = apart_with s.doubts (doubt_over s.rows r) fits.free now.apart;
  there = all_placed (λ d. AreOfTables s.rows d.changes) doubt_id s.doubts (doubt_over s.rows r) now.there may.stored.0;
}
left_with undo s (records.Decided r) may fits now = record {
  stands = rows_changed_beside undo s.rows [] s.doubts now.stands r.changes (λ b. tt) now.there (λ b. tt) (free_leaves r.changes s.doubts fits.free);
  apart = now.apart;
  there = there_after s.rows (apply_all s.rows r.changes) (λ table there. table_stays table r.changes s.rows ∙ there) s.doubts now.there;
}
left_with undo s (records.Ended b d) may fits now = record { stands = left_ended undo s now b d; apart = apart_without s.doubts b now.apart; there = left_there undo s now b d }
left_with undo s (records.Forced b d given) may fits now = record { stands = left_ended undo s now b d; apart = apart_without s.doubts b now.apart; there = left_there undo s now b d }
left_with undo s (records.Boot n) may fits now = record { stands = now.stands; apart = now.apart; there = now.there }
left_with undo s (records.Link l) may fits now = record { stands = now.stands; apart = now.apart; there = now.there }
left_with undo s (records.Synonym y) may fits now = record { stands = now.stands; apart = now.apart; there = now.there }
left_with undo s (records.Param setting) may fits now = record { stands = now.stands; apart = now.apart; there = now.there }
left_with undo s (records.Met b d mixed) may fits now = record { stands = now.stands; apart = now.apart; there = now.there }
left_with undo s (records.Forgot b) may fits now = record { stands = now.stands; apart = now.apart; there = now.there }
left_with undo s (records.Hidden b) may fits now = record { stands = now.stands; apart = now.apart; there = now.there }
left_with undo s (records.Image i) may fits now = record { stands = now.stands; apart = now.apart; there = now.there }

-- all records
pub left_by : (undo : ℕ) (s : Stored) (rs : List RedoRecord) → MayAllFollow s rs → AllFitDoubts undo s rs → IsLeft undo s → IsLeft undo (stored_by s rs)
unfolding stored_by MayAllFollow AllFitDoubts
left_by undo s [] may fits now = now
left_by undo s (r ∷ rs) may fits now = left_by undo (applied s r) rs may.1 fits.1 (left_with undo s r may.0 fits.0 now)

-- one more behind them
pub fits_last : (undo : ℕ) (s : Stored) (rs : List RedoRecord) (r : RedoRecord) → AllFitDoubts undo s rs → FitsDoubts undo (stored_by s rs) r → AllFitDoubts undo s (rs ++ r ∷ [])
unfolding stored_by AllFitDoubts
fits_last undo s [] r all fits = (fits, tt)
fits_last undo s (x ∷ rs) r all fits = (all.0, fits_last undo (applied s x) rs r all.1 fits)

pub none_left : (undo : ℕ) → IsLeft undo nothing_stored
none_left undo = record { stands = record { ordered = tt; own = λ b. refl; held_back = tt; room = omega arith }; apart = tt; there = tt }

-- a node that starts from it
pub undo_by : (p : Place) (s : Stored) (vs : Versions) → IsLeft p.undo s → HasUndo p (kept_by s vs)
unfolding IsDistinct
undo_by p s vs now = record {
  lives = started_fits;
  keys = record { apart = start_distinct s.doubts [] tt; own = λ b. tt; doubts = start_holds s.doubts [] now.apart (starts_free s.doubts) };
  stands = now.stands;
  even = λ b. tt;
}

-- the start's own record
booted : (undo : ℕ) (s : Stored) (rs : List RedoRecord) (boot : ℕ) → IsLeft undo (stored_by s rs) → IsLeft undo (stored_by s (rs ++ records.Boot boot ∷ []))
unfolding stored_by applied
booted undo s [] boot now = record { stands = now.stands; apart = now.apart; there = now.there }
booted undo s (r ∷ rs) boot now = booted undo (applied s r) rs boot now

pub starts_have_undo : StartsHaveUndo
unfolding start_of
starts_have_undo p rs boot may fits = undo_by p _ _ (booted p.undo nothing_stored rs boot (left_by p.undo nothing_stored rs may fits (none_left p.undo)))

nothing_by : (undo : ℕ) → IsLeft undo (stored_by nothing_stored [])
unfolding stored_by
nothing_by undo = none_left undo

pub no_undo_at_first : NoUndoAtFirst
unfolding start_of
no_undo_at_first p = undo_by p _ _ (booted p.undo nothing_stored [] 1 (nothing_by p.undo))
