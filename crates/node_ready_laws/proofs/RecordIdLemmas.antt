-- Whose rows and doubts a record leaves.
use Rattle.std.proofs.Common.{◌≡◌, ℕ, true, false, List, refl, sym, subst}
use Rattle.redo_record.specs.Kept.{kept_after, stands_at, ended_commit, forced_state, in_state, met_as, is_done, forgot_as, hidden_as}
use Rattle.redo_record.specs.Durable.{durable_after}
use Rattle.redo_record.specs.Lists.{drop_where}
use Rattle.node_rules.specs.Data.{RedoRecord, Durable, Live, Doubt}
use Rattle.node_rules.specs.Data.decisions
use Rattle.node_rules.specs.Data.records
use Rattle.node_rules.specs.Data.params
use Rattle.node_rules.specs.Rows.{TableRows}
use Rattle.node_rules.specs.NodeState.{Stored, kept_row_id, doubt_id}
use Rattle.node_rules.specs.Records.{doubts_after, applied}
use Rattle.node_ready_laws.specs.Ids.{IdsAreApart}
use Rattle.node_ready_laws.proofs.ListLemmas.{all_dropped, all_filtered, all_changed}
use Rattle.node_ready_laws.proofs.ApartLemmas.{AreAmong, fewer}

-- a record that is of no start, and by which no branch is kept or becomes in doubt
abbrev pub AddsNone : RedoRecord → Type 0
AddsNone (records.Boot n) = ⊥
AddsNone (records.Sealed r) = ⊥
AddsNone (records.Decided r) = ⊥
AddsNone _ = Unit {0}

-- the start stays
pub boot_still : (d : Durable) (r : RedoRecord) → AddsNone r → (durable_after d r).boot ≡ d.boot
unfolding durable_after
boot_still d (records.Boot n) none = absurd none
boot_still d (records.Param (params.Recovery on)) none = refl
boot_still d (records.Param (params.Strength strength)) none = refl
boot_still d (records.Table t) none = refl
boot_still d (records.Link l) none = refl
boot_still d (records.Synonym y) none = refl
boot_still d (records.Sealed r) none = absurd none
boot_still d (records.Decided r) none = absurd none
boot_still d (records.Ended b o) none = refl
boot_still d (records.Forced b o given) none = refl
boot_still d (records.Met b o mixed) none = refl
boot_still d (records.Forgot b) none = refl
boot_still d (records.Hidden b) none = refl
boot_still d (records.Image i) none = refl

-- rows are of branches that were kept
pub rows_among : (d : Durable) (r : RedoRecord) → AddsNone r → AreAmong kept_row_id d.kept (durable_after d r).kept
unfolding durable_after kept_after
rows_among d (records.Boot n) none P all = all
rows_among d (records.Param (params.Recovery on)) none P all = all
rows_among d (records.Param (params.Strength strength)) none P all = all
rows_among d (records.Table t) none P all = all
rows_among d (records.Link l) none P all = all
rows_among d (records.Synonym y) none P all = all
rows_among d (records.Sealed r) none P all = absurd none
rows_among d (records.Decided r) none P all = absurd none
rows_among d (records.Ended b (decisions.Commit n)) none P all = all_changed (λ s. P s.me) (stands_at b) (ended_commit n) (λ s is. is) d.kept all
rows_among d (records.Ended b decisions.Rollback) none P all = all_filtered (λ s. P s.me) _ d.kept all
rows_among d (records.Forced b o given) none P all = all_changed (λ s. P s.me) (stands_at b) (in_state (forced_state o)) (λ s is. is) d.kept all
rows_among d (records.Met b o true) none P all = all_changed (λ s. P s.me) (stands_at b) (met_as o true) (λ s is. is) d.kept all
rows_among d (records.Met b (decisions.Commit n) false) none P all = all_changed (λ s. P s.me) (stands_at b) (met_as (decisions.Commit n) false) (λ s is. is) d.kept all
rows_among d (records.Met b decisions.Rollback false) none P all = all_filtered (λ s. P s.me) _ d.kept all
rows_among d (records.Forgot b) none P all = all_changed (λ s. P s.me) (stands_at b) forgot_as (λ s is. is) (drop_where (is_done b) d.kept) (all_filtered (λ s. P s.me) _ d.kept all)
rows_among d (records.Hidden b) none P all = all_changed (λ s. P s.me) (stands_at b) hidden_as (λ s is. is) d.kept all
rows_among d (records.Image i) none P all = all

-- branches in doubt were so before
pub doubts_among : (rows : List TableRows) (ds : List Doubt) (r : RedoRecord) → AddsNone r → AreAmong doubt_id ds (doubts_after rows ds r)
doubts_among rows ds (records.Ended b o) none P all = all_dropped (λ d. P d.branch) doubt_id ds b all
doubts_among rows ds (records.Forced b o given) none P all = all_dropped (λ d. P d.branch) doubt_id ds b all
doubts_among rows ds (records.Sealed r) none P all = absurd none
doubts_among rows ds _ none P all = all

-- the ids of branches are their own after such a record
pub apart_after : (s : Stored) (seqs : List ℕ) (opened : ℕ) (lives : List Live) (r : RedoRecord) → AddsNone r → IdsAreApart s.durable.boot seqs opened lives s.durable.kept s.doubts
    → IdsAreApart (applied s r).durable.boot seqs opened lives (applied s r).durable.kept (applied s r).doubts
unfolding applied
apart_after s seqs opened lives r none now =
    subst (λ boot. IdsAreApart boot seqs opened lives (durable_after s.durable r).kept (doubts_after s.rows s.doubts r)) (sym (boot_still s.durable r none))
    (fewer s.durable.boot seqs opened lives s.durable.kept s.doubts now (durable_after s.durable r).kept (doubts_after s.rows s.doubts r) (rows_among s.durable r none) (doubts_among s.rows s.doubts r none))
