-- Rows in order stay in order after a record.
use Rattle.std.proofs.Common.{◌≡◌, ℕ, Bool, true, false, not, if◌then◌else◌, List, refl}
use Rattle.redo_record.specs.Data.{BranchId, Decision, RedoRecord, KeptRow}
use Rattle.redo_record.specs.Data.decisions
use Rattle.redo_record.specs.Data.records
use Rattle.redo_record.specs.Kept.{stands_at, keep_decided, ended_commit, ended, forced_state, in_state, met_as, met, forgot_as, is_done, forgotten, hidden_as, kept_after}
use Rattle.redo_record.specs.Lists.{change_where, drop_where}
use Rattle.redo_record.specs.Rows.{sealed_as, decided_as, has_neighbors}
use Rattle.redo_record.specs.Order.{AreInOrder}
use Rattle.redo_record.proofs.InOrder.{put_in_order, map_in_order, filter_in_order}

module _ (ks : List KeptRow) (order : AreInOrder ks) where
  same_if : (f : KeptRow → KeptRow) (s : KeptRow) (hit : Bool) → (f s).me ≡ s.me → (if hit then f s else s).me ≡ s.me
  same_if f s true keeps = keeps
  same_if f s false keeps = refl

  changed : (b : BranchId) (f : KeptRow → KeptRow) → ((s : KeptRow) → (f s).me ≡ s.me) → AreInOrder (change_where (stands_at b) f ks)
  changed b f keeps = map_in_order (λ (s : KeptRow). if stands_at b s then f s else s) (λ s. same_if f s (stands_at b s) (keeps s)) ks order

  dropped : (p : KeptRow → Bool) → AreInOrder (drop_where p ks)
  dropped p = filter_in_order (λ (s : KeptRow). not (p s)) ks order

  decided_if : (x : KeptRow) (kept : Bool) → has_neighbors x ≡ kept → AreInOrder (keep_decided ks x)
  decided_if x true is = rw is (put_in_order ks x order)
  decided_if x false is = rw is order

  after_ended : (b : BranchId) (d : Decision) → AreInOrder (ended ks b d)
  after_ended b (decisions.Commit n) = changed b (ended_commit n) (λ s. refl)
  after_ended b decisions.Rollback = dropped (stands_at b)

  after_met : (b : BranchId) (d : Decision) (mixed : Bool) → AreInOrder (met ks b d mixed)
  after_met b d true = changed b (met_as d true) (λ s. refl)
  after_met b (decisions.Commit n) false = changed b (met_as (decisions.Commit n) false) (λ s. refl)
  after_met b decisions.Rollback false = dropped (stands_at b)

again : (ks : List KeptRow) (b : BranchId) → AreInOrder ks → AreInOrder (forgotten ks b)
again ks b order = changed (drop_where (is_done b) ks) (dropped ks order (is_done b)) b forgot_as (λ s. refl)

pub after_in_order : (ks : List KeptRow) (item : RedoRecord) → AreInOrder ks → AreInOrder (kept_after ks item)
unfolding kept_after
after_in_order ks (records.Boot n) order = order
after_in_order ks (records.Table t) order = order
after_in_order ks (records.Link l) order = order
after_in_order ks (records.Synonym y) order = order
after_in_order ks (records.Param setting) order = order
after_in_order ks (records.Sealed r) order = put_in_order ks (sealed_as r) order
after_in_order ks (records.Decided r) order = decided_if ks order (decided_as r) (has_neighbors (decided_as r)) refl
after_in_order ks (records.Ended b d) order = after_ended ks order b d
after_in_order ks (records.Forced b d given) order = changed ks order b (in_state (forced_state d)) (λ s. refl)
after_in_order ks (records.Met b d mixed) order = after_met ks order b d mixed
after_in_order ks (records.Forgot b) order = again ks b order
after_in_order ks (records.Hidden b) order = changed ks order b hidden_as (λ s. refl)
after_in_order ks (records.Image i) order = order
