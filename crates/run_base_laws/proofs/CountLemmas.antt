-- How many rows of a branch a record makes: one where it is the branch's Sealed or Decided, else no more than there were.
use Rattle.std.proofs.Common.{◌≡◌, ℕ, ◌+◌, ◌≤◌, Bool, true, false, not, if◌then◌else◌, List, refl, arith}
use Rattle.std.proofs.lemmas.Bool.{cond_both}
use Rattle.redo_record.specs.Kept.{stands_at, add_kept, keep_decided, ended_commit, forced_state, in_state, met_as, forgot_as, is_done, hidden_as, kept_after}
use Rattle.redo_record.specs.Durable.{durable_after}
use Rattle.redo_record.specs.Rows.{sealed_as, decided_as, has_neighbors}
use Rattle.node_rules.specs.Data.{BranchId, KeptRow, RedoRecord}
use Rattle.node_rules.specs.Data.decisions
use Rattle.node_rules.specs.Data.params
use Rattle.node_rules.specs.Data.records
use Rattle.node_rules.specs.Words.{same, change_where, drop_where}
use Rattle.node_rules.specs.NodeState.{Stored, kept_row_id}
use Rattle.node_rules.specs.Records.{applied}
use Rattle.run_base_laws.specs.NodeLaws.{count_of, unacked_row}
use Rattle.run_base_laws.proofs.AckLemmas.{unacked_rows}
use Rattle.run_base_laws.proofs.CountingLemmas.{count_map, count_filter, count_put_in}

module _ (b : BranchId) where
  -- the rows of the branch
  abbrev pub rows_of : List KeptRow → ℕ
  rows_of ks = count_of kept_row_id b ks

  -- whether a record makes one
  abbrev pub makes_row : RedoRecord → ℕ
  makes_row (records.Sealed r) = if same r.me b then 1 else 0
  makes_row (records.Decided r) = if same r.me b then 1 else 0
  makes_row _ = 0

  changed : (c : BranchId) (g : KeptRow → KeptRow) → ((x : KeptRow) → (g x).me ≡ x.me) → (ks : List KeptRow) → rows_of (change_where (stands_at c) g ks) ≡ rows_of ks
  changed c g me ks = count_map kept_row_id b (λ x. if stands_at c x then g x else x) (λ x. cond_both (stands_at c x) (g x) x (λ y. y.me ≡ x.me) (λ here. me x) (λ other. refl)) ks

  dropped : (p : KeptRow → Bool) (ks : List KeptRow) → rows_of (drop_where p ks) ≤ rows_of ks
  dropped p ks = count_filter kept_row_id b (λ x. not (p x)) ks

  -- a row that is put in counts
  put_in : (ks : List KeptRow) (x : KeptRow) → rows_of (add_kept ks x) ≤ (if same x.me b then 1 else 0) + rows_of ks
  put_in ks x = by (same x.me b) (count_put_in kept_row_id b ks x)
    where
      by : (here : Bool) → rows_of (add_kept ks x) ≡ (if here then 1 + rows_of ks else rows_of ks) → rows_of (add_kept ks x) ≤ (if here then 1 else 0) + rows_of ks
      by true is = omega (arith, is)
      by false is = omega (arith, is)

  decided : (ks : List KeptRow) (x : KeptRow) → rows_of (keep_decided ks x) ≤ (if same x.me b then 1 else 0) + rows_of ks
  decided ks x = cond_both (has_neighbors x) (add_kept ks x) ks (λ more. rows_of more ≤ (if same x.me b then 1 else 0) + rows_of ks) (λ kept. put_in ks x) (λ alone. omega arith)

  rows_after : (ks : List KeptRow) (r : RedoRecord) → rows_of (kept_after ks r) ≤ makes_row r + rows_of ks
  unfolding kept_after
  rows_after ks (records.Sealed r) = put_in ks (sealed_as r)
  rows_after ks (records.Decided r) = decided ks (decided_as r)
  rows_after ks (records.Ended c (decisions.Commit n)) = omega (arith, changed c (ended_commit n) (λ x. refl) ks)
  rows_after ks (records.Ended c decisions.Rollback) = omega (arith, dropped (stands_at c) ks)
  rows_after ks (records.Forced c d given) = omega (arith, changed c (in_state (forced_state d)) (λ x. refl) ks)
  rows_after ks (records.Met c d true) = omega (arith, changed c (met_as d true) (λ x. refl) ks)
  rows_after ks (records.Met c (decisions.Commit n) false) = omega (arith, changed c (met_as (decisions.Commit n) false) (λ x. refl) ks)
  rows_after ks (records.Met c decisions.Rollback false) = omega (arith, dropped (stands_at c) ks)
  rows_after ks (records.Forgot c) = omega (arith, changed c forgot_as (λ x. refl) (drop_where (is_done c) ks), dropped (is_done c) ks)
  rows_after ks (records.Hidden c) = omega (arith, changed c hidden_as (λ x. refl) ks)
  rows_after ks _ = omega arith

  -- the same of all that is stored
  pub rows_applied : (s : Stored) (r : RedoRecord) → rows_of (applied s r).durable.kept ≤ makes_row r + rows_of s.durable.kept
  unfolding applied durable_after
  rows_applied s (records.Boot n) = omega arith
  rows_applied s (records.Table t) = omega arith
  rows_applied s (records.Link l) = omega arith
  rows_applied s (records.Synonym y) = omega arith
  rows_applied s (records.Param (params.Recovery on)) = omega arith
  rows_applied s (records.Param (params.Strength strength)) = omega arith
  rows_applied s r = rows_after s.durable.kept r

  -- Acks change no number of rows
  pub rows_unacked : (ks : List KeptRow) → rows_of (unacked_rows ks) ≡ rows_of ks
  rows_unacked ks = count_map kept_row_id b unacked_row (λ x. refl) ks
