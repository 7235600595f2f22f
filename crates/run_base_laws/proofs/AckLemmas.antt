-- What records make of the rows of kept branches does not hang on the Acks that were heard, and an Ack changes nothing else.
use Rattle.std.proofs.Common.{◌≡◌, not, Bool, true, false, if◌then◌else◌, List, [], ◌∷◌, map, refl, ap, ◌∙◌}
use Rattle.std.proofs.lemmas.Bool.{cond_both}
use Rattle.redo_record.specs.Kept.{stands_at, add_kept, keep_decided, ended, ended_commit, forced_state, in_state, met, met_as, forgot_as, is_done, hidden_as, kept_after}
use Rattle.redo_record.specs.Durable.{durable_after, with_kept}
use Rattle.redo_record.specs.Rows.{kid_of, sealed_as, decided_as, has_neighbors}
use Rattle.node_rules.specs.Data.{BranchId, Decision, Kid, Peer, KeptRow, RedoRecord}
use Rattle.node_rules.specs.Data.decisions
use Rattle.node_rules.specs.Data.records
use Rattle.node_rules.specs.Data.params
use Rattle.node_rules.specs.Words.{same, put_item, change_where, drop_where}
use Rattle.node_rules.specs.NodeState.{NodeState, Stored, kept_row_id}
use Rattle.node_rules.specs.Records.{applied, stored_by}
use Rattle.node_rules.specs.Commit.{acks_kid, acked_by}
use Rattle.node_rules.proofs.Steps.{IsKept}
use Rattle.tran_ids.proofs.ListedLemmas.{map_put}
use Rattle.run_base_laws.specs.NodeLaws.{unacked_kid, unacked_row, unacked}
use Rattle.run_rules.proofs.ListLemmas.{map_after, map_same, filter_same, put_same}

-- rows with no Ack heard
abbrev pub unacked_rows : List KeptRow → List KeptRow
unacked_rows ks = map unacked_row ks

-- ---- records

if_same : (g : KeptRow → KeptRow) (x : KeptRow) → unacked_row (g x) ≡ g (unacked_row x) → (here : Bool)
    → unacked_row (if here then g x else x) ≡ (if here then g (unacked_row x) else unacked_row x)
if_same g x same true = same
if_same g x same false = refl

rows_changed : (b : BranchId) (g : KeptRow → KeptRow) → ((x : KeptRow) → unacked_row (g x) ≡ g (unacked_row x)) → (ks : List KeptRow)
    → unacked_rows (change_where (stands_at b) g ks) ≡ change_where (stands_at b) g (unacked_rows ks)
rows_changed b g same ks = map_same unacked_row (λ x. if stands_at b x then g x else x) (λ x. if stands_at b x then g x else x) (λ x. if_same g x (same x) (stands_at b x)) ks

rows_put : (ks : List KeptRow) (x : KeptRow) → unacked_row x ≡ x → unacked_rows (add_kept ks x) ≡ add_kept (unacked_rows ks) x
rows_put ks x fresh = put_same unacked_row (λ y. y.me) ks x ∙ ap (add_kept (unacked_rows ks)) fresh

-- a row that a record makes has heard none
fresh_kids : (ps : List Peer) → map unacked_kid (map kid_of ps) ≡ map kid_of ps
fresh_kids ps = map_after unacked_kid kid_of kid_of (λ q. refl) ps

rows_decided : (ks : List KeptRow) (x : KeptRow) → unacked_row x ≡ x → unacked_rows (keep_decided ks x) ≡ keep_decided (unacked_rows ks) x
rows_decided ks x fresh = by (has_neighbors x)
  where
    by : (kept : Bool) → unacked_rows (if kept then add_kept ks x else ks) ≡ (if kept then add_kept (unacked_rows ks) x else unacked_rows ks)
    by true = rows_put ks x fresh
    by false = refl

rows_ended : (ks : List KeptRow) (b : BranchId) (d : Decision) → unacked_rows (ended ks b d) ≡ ended (unacked_rows ks) b d
rows_ended ks b (decisions.Commit n) = rows_changed b (ended_commit n) (λ x. refl) ks
rows_ended ks b decisions.Rollback = filter_same unacked_row (λ x. not (stands_at b x)) ks

rows_met : (ks : List KeptRow) (b : BranchId) (d : Decision) (mixed : Bool) → unacked_rows (met ks b d mixed) ≡ met (unacked_rows ks) b d mixed
rows_met ks b d true = rows_changed b (met_as d true) (λ x. refl) ks
rows_met ks b (decisions.Commit n) false = rows_changed b (met_as (decisions.Commit n) false) (λ x. refl) ks
rows_met ks b decisions.Rollback false = filter_same unacked_row (λ x. not (stands_at b x)) ks

rows_after : (ks : List KeptRow) (r : RedoRecord) → unacked_rows (kept_after ks r) ≡ kept_after (unacked_rows ks) r
unfolding kept_after
rows_after ks (records.Sealed r) = rows_put ks (sealed_as r) (ap (λ cs. record (sealed_as r) { children = cs }) (fresh_kids r.children))
rows_after ks (records.Decided r) = rows_decided ks (decided_as r) (ap (λ cs. record (decided_as r) { children = cs }) (fresh_kids r.children))
rows_after ks (records.Ended b d) = rows_ended ks b d
rows_after ks (records.Forced b d given) = rows_changed b (in_state (forced_state d)) (λ x. refl) ks
rows_after ks (records.Met b d mixed) = rows_met ks b d mixed
rows_after ks (records.Forgot b) =
    rows_changed b forgot_as (λ x. refl) (drop_where (is_done b) ks) ∙ ap (change_where (stands_at b) forgot_as) (filter_same unacked_row (λ x. not (is_done b x)) ks)
rows_after ks (records.Hidden b) = rows_changed b hidden_as (λ x. refl) ks
rows_after ks _ = refl

-- a record makes the same of what is stored with no Ack heard
pub unacked_applied : (s : Stored) (r : RedoRecord) → unacked (applied s r) ≡ applied (unacked s) r
unfolding applied durable_after
unacked_applied s (records.Boot n) = refl
unacked_applied s (records.Table t) = refl
unacked_applied s (records.Link l) = refl
unacked_applied s (records.Synonym y) = refl
unacked_applied s (records.Param (params.Recovery on)) = refl
unacked_applied s (records.Param (params.Strength strength)) = refl
unacked_applied s r = ap (λ ks. record (applied (unacked s) r) { durable = with_kept s.durable ks }) (rows_after s.durable.kept r)

pub unacked_stored : (s : Stored) (rs : List RedoRecord) → unacked (stored_by s rs) ≡ stored_by (unacked s) rs
unfolding stored_by
unacked_stored s [] = refl
unacked_stored s (r ∷ rs) = unacked_stored (applied s r) rs ∙ ap (λ x. stored_by x rs) (unacked_applied s r)

-- ---- an Ack

kid_acked : (from : BranchId) (c : Kid) → unacked_kid (acks_kid from c) ≡ unacked_kid c
kid_acked from c = cond_both (same c.branch from) _ _ (λ x. unacked_kid x ≡ unacked_kid c) (λ here. refl) (λ other. refl)

pub row_acked : (s : KeptRow) (from : BranchId) → unacked_row (acked_by s from) ≡ unacked_row s
row_acked s from = ap (λ cs. record s { parent_acked = false; children = cs }) (map_after unacked_kid (acks_kid from) unacked_kid (kid_acked from) s.children)

-- a row whose Acks are counted is put in the place of the one that was found
pub rows_acked : (k : NodeState) (s : KeptRow) (from : BranchId) → IsKept k s → unacked_rows (put_item kept_row_id k.stored.durable.kept (acked_by s from)) ≡ unacked_rows k.stored.durable.kept
rows_acked k s from kept = map_put kept_row_id unacked_row k.stored.durable.kept (acked_by s from) s kept (row_acked s from)
