-- The SCN of each row is not above the greatest that is stored, so not above the node's clock.
use Rattle.std.proofs.Common.{◌≡◌, ℕ, ◌≤◌, max, not, Bool, true, false, List, [], ◌∷◌, if◌then◌else◌, refl, sym, subst, arith}
use Rattle.std.specs.List.{AllByRecursion}
use Rattle.std.proofs.lemmas.Bool.{cond_both}
use Rattle.redo_record.specs.Kept.{stands_at, ended_commit, forced_state, in_state, met_as, forgot_as, is_done, hidden_as, kept_after}
use Rattle.redo_record.specs.Durable.{durable_after}
use Rattle.redo_record.specs.Rows.{sealed_as, decided_as, has_neighbors}
use Rattle.node_rules.specs.Data.{BranchId, KeptRow, RedoRecord}
use Rattle.node_rules.specs.Data.decisions
use Rattle.node_rules.specs.Data.params
use Rattle.node_rules.specs.Data.records
use Rattle.node_rules.specs.Words.{change_where, drop_where}
use Rattle.node_rules.specs.NodeState.{NodeState, Stored}
use Rattle.node_rules.specs.Records.{raised_by, forced_scn, scn_after, applied, nothing_stored, stored_by}
use Rattle.run_rules.proofs.ListLemmas.{all_weaker, all_filter, all_map, all_put}
use Rattle.run_base_laws.proofs.AckLemmas.{unacked_rows}
use Rattle.run_base_laws.proofs.StoredLemmas.{StoresOf}

-- no row is above this
abbrev pub Below : ℕ → List KeptRow → Type 0
Below scn ks = AllByRecursion (λ s. s.scn ≤ scn) ks

pub below_further : (scn more : ℕ) → scn ≤ more → (ks : List KeptRow) → Below scn ks → Below more ks
below_further scn more up ks all = all_weaker (λ s. s.scn ≤ scn) (λ s. s.scn ≤ more) (λ s is. omega (arith, is, up)) ks all

below_changed : (scn : ℕ) (b : BranchId) (g : KeptRow → KeptRow) → ((x : KeptRow) → (g x).scn ≡ x.scn) → (ks : List KeptRow) → Below scn ks → Below scn (change_where (stands_at b) g ks)
below_changed scn b g keeps ks all =
    all_map (λ s. s.scn ≤ scn) (λ x. if stands_at b x then g x else x) ks
    (all_weaker (λ s. s.scn ≤ scn) _ (λ x is. cond_both (stands_at b x) (g x) x (λ y. y.scn ≤ scn) (λ here. subst (λ q. q ≤ scn) (sym (keeps x)) is) (λ other. is)) ks all)

below_left : (scn : ℕ) (p : KeptRow → Bool) (ks : List KeptRow) → Below scn ks → Below scn (drop_where p ks)
below_left scn p ks all = all_filter (λ s. s.scn ≤ scn) (λ s. s.scn ≤ scn) (λ x. not (p x)) (λ x passes is. is) ks all

scn_grows : (scn : ℕ) (r : RedoRecord) → scn ≤ scn_after scn r
scn_grows scn (records.Sealed r) = omega arith
scn_grows scn (records.Decided r) = omega arith
scn_grows scn (records.Ended b (decisions.Commit n)) = omega arith
scn_grows scn (records.Ended b decisions.Rollback) = omega arith
scn_grows scn (records.Forced b d true) = omega arith
scn_grows scn (records.Forced b (decisions.Commit n) false) = omega arith
scn_grows scn (records.Forced b decisions.Rollback false) = omega arith
scn_grows scn (records.Met b (decisions.Commit n) mixed) = omega arith
scn_grows scn (records.Met b decisions.Rollback mixed) = omega arith
scn_grows scn _ = omega arith

rows_below : (scn : ℕ) (ks : List KeptRow) (r : RedoRecord) → Below scn ks → Below (scn_after scn r) (kept_after ks r)
unfolding kept_after
rows_below scn ks (records.Sealed r) all = all_put (λ s. s.scn ≤ max scn r.scn) (λ y. y.me) ks (sealed_as r) (below_further scn (max scn r.scn) (omega arith) ks all) (omega arith)
rows_below scn ks (records.Decided r) all =
    let old : Below (max scn r.scn) ks = below_further scn (max scn r.scn) (omega arith) ks all in
    cond_both (has_neighbors (decided_as r)) _ _ (Below (max scn r.scn)) (λ kept. all_put (λ s. s.scn ≤ max scn r.scn) (λ y. y.me) ks (decided_as r) old (omega arith)) (λ alone. old)
rows_below scn ks (records.Ended b (decisions.Commit n)) all =
    below_changed (max scn n) b (ended_commit n) (λ x. refl) ks (below_further scn (max scn n) (omega arith) ks all)
rows_below scn ks (records.Ended b decisions.Rollback) all = below_left scn (stands_at b) ks all
rows_below scn ks (records.Forced b d given) all =
    below_changed (forced_scn scn d given) b (in_state (forced_state d)) (λ x. refl) ks (below_further scn (forced_scn scn d given) (scn_grows scn (records.Forced b d given)) ks all)
rows_below scn ks (records.Met b d true) all =
    below_changed (raised_by scn d) b (met_as d true) (λ x. refl) ks (below_further scn (raised_by scn d) (scn_grows scn (records.Met b d true)) ks all)
rows_below scn ks (records.Met b (decisions.Commit n) false) all =
    below_changed (max scn n) b (met_as (decisions.Commit n) false) (λ x. refl) ks (below_further scn (max scn n) (omega arith) ks all)
rows_below scn ks (records.Met b decisions.Rollback false) all = below_left scn (stands_at b) ks all
rows_below scn ks (records.Forgot b) all = below_changed scn b forgot_as (λ x. refl) (drop_where (is_done b) ks) (below_left scn (is_done b) ks all)
rows_below scn ks (records.Hidden b) all = below_changed scn b hidden_as (λ x. refl) ks all
rows_below scn ks (records.Image i) all = below_further scn (max scn i.clock) (omega arith) ks all
rows_below scn ks _ all = all

applied_below : (s : Stored) (r : RedoRecord) → Below s.scn s.durable.kept → Below (applied s r).scn (applied s r).durable.kept
unfolding applied durable_after
applied_below s (records.Boot n) all = all
applied_below s (records.Table t) all = all
applied_below s (records.Link l) all = all
applied_below s (records.Synonym y) all = all
applied_below s (records.Param (params.Recovery on)) all = all
applied_below s (records.Param (params.Strength strength)) all = all
applied_below s r all = rows_below s.scn s.durable.kept r all

stored_below : (s : Stored) (rs : List RedoRecord) → Below s.scn s.durable.kept → Below (stored_by s rs).scn (stored_by s rs).durable.kept
unfolding stored_by
stored_below s [] all = all
stored_below s (r ∷ rs) all = stored_below (applied s r) rs (applied_below s r all)

acked_below : (scn : ℕ) (ks : List KeptRow) → Below scn (unacked_rows ks) → Below scn ks
acked_below scn [] all = tt
acked_below scn (s ∷ ks) all = (all.0, acked_below scn ks all.1)

-- so it is at a node that is up
pub kept_below : (rs : List RedoRecord) (k : NodeState) → StoresOf rs k → k.stored.scn ≤ k.clock → Below k.clock k.stored.durable.kept
kept_below rs k stored covers =
    acked_below k.clock k.stored.durable.kept
    (below_further k.stored.scn k.clock covers _
    (subst (λ s. Below s.scn s.durable.kept) (sym stored) (stored_below nothing_stored rs tt)))
