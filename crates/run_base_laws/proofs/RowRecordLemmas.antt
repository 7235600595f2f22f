-- What is so of each row that a node keeps, after a record and after all records of a disk: a proof says what is so of a new row, and
-- that each change of a row leaves it so.
use Rattle.std.proofs.Common.{ℕ, not, Bool, true, false, if◌then◌else◌, List, [], ◌∷◌, Option, Some, None}
use Rattle.std.specs.Prelude.{IfSome}
use Rattle.std.specs.List.{AllByRecursion}
use Rattle.std.proofs.lemmas.Bool.{cond_both}
use Rattle.redo_record.specs.Kept.{stands_at, ended_commit, forced_state, in_state, met_as, forgot_as, hidden_as, is_done, kept_after}
use Rattle.redo_record.specs.Durable.{durable_after}
use Rattle.redo_record.specs.Lists.{change_where, drop_where}
use Rattle.redo_record.specs.Rows.{sealed_as, decided_as, has_neighbors}
use Rattle.node_rules.specs.Data.{BranchId, Decision, Sealed, Decided, KeptRow, RedoRecord}
use Rattle.node_rules.specs.Data.decisions
use Rattle.node_rules.specs.Data.params
use Rattle.node_rules.specs.Data.records
use Rattle.node_rules.specs.NodeState.{Stored}
use Rattle.node_rules.specs.Records.{applied, stored_by}
use Rattle.run_rules.proofs.ListLemmas.{all_weaker, all_filter, all_map, all_put}

-- How each row is so, by records of which R is known.
pub record RowCases (R : RedoRecord → Type 0) (P : KeptRow → Type 0) : Type 0 where
  pub seals : (r : Sealed) → R (records.Sealed r) → P (sealed_as r)
  pub decides : (r : Decided) → R (records.Decided r) → P (decided_as r)
  pub ends : (n : ℕ) (x : KeptRow) → P x → P (ended_commit n x)
  pub forces : (d : Decision) (x : KeptRow) → P x → P (in_state (forced_state d) x)
  pub meets : (d : Decision) (mixed : Bool) (x : KeptRow) → P x → P (met_as d mixed x)
  pub forgets : (x : KeptRow) → P x → P (forgot_as x)
  pub hides : (x : KeptRow) → P x → P (hidden_as x)

module _ {R : RedoRecord → Type 0} {P : KeptRow → Type 0} (each : RowCases R P) where
  abbrev Rows : List KeptRow → Type 0
  Rows ks = AllByRecursion P ks

  changed : (c : BranchId) (g : KeptRow → KeptRow) → ((x : KeptRow) → P x → P (g x)) → (ks : List KeptRow) → Rows ks → Rows (change_where (stands_at c) g ks)
  changed c g so ks all = all_map P (λ x. if stands_at c x then g x else x) ks (all_weaker P _ (λ x was. cond_both (stands_at c x) (g x) x P (λ here. so x was) (λ other. was)) ks all)

  left : (test : KeptRow → Bool) (ks : List KeptRow) → Rows ks → Rows (drop_where test ks)
  left test ks all = all_filter P P (λ x. not (test x)) (λ x passes so. so) ks all

  -- the rows after a record
  pub rows_kept : (ks : List KeptRow) (r : RedoRecord) → R r → AllByRecursion P ks → AllByRecursion P (kept_after ks r)
  unfolding kept_after
  rows_kept ks (records.Sealed r) is all = all_put P (λ y. y.me) ks (sealed_as r) all (each.seals r is)
  rows_kept ks (records.Decided r) is all = cond_both (has_neighbors (decided_as r)) _ _ Rows (λ kept. all_put P (λ y. y.me) ks (decided_as r) all (each.decides r is)) (λ alone. all)
  rows_kept ks (records.Ended c (decisions.Commit n)) is all = changed c (ended_commit n) (each.ends n) ks all
  rows_kept ks (records.Ended c decisions.Rollback) is all = left (stands_at c) ks all
  rows_kept ks (records.Forced c d given) is all = changed c (in_state (forced_state d)) (each.forces d) ks all
  rows_kept ks (records.Met c d true) is all = changed c (met_as d true) (each.meets d true) ks all
  rows_kept ks (records.Met c (decisions.Commit n) false) is all = changed c (met_as (decisions.Commit n) false) (each.meets (decisions.Commit n) false) ks all
  rows_kept ks (records.Met c decisions.Rollback false) is all = left (stands_at c) ks all
  rows_kept ks (records.Forgot c) is all = changed c forgot_as each.forgets (drop_where (is_done c) ks) (left (is_done c) ks all)
  rows_kept ks (records.Hidden c) is all = changed c hidden_as each.hides ks all
  rows_kept ks _ is all = all

  pub rows_applied : (s : Stored) (r : RedoRecord) → R r → AllByRecursion P s.durable.kept → AllByRecursion P (applied s r).durable.kept
  unfolding applied durable_after
  rows_applied s (records.Boot n) is all = all
  rows_applied s (records.Table t) is all = all
  rows_applied s (records.Link l) is all = all
  rows_applied s (records.Synonym y) is all = all
  rows_applied s (records.Param (params.Recovery on)) is all = all
  rows_applied s (records.Param (params.Strength strength)) is all = all
  rows_applied s r is all = rows_kept s.durable.kept r is all

  -- and after all records of a disk
  pub rows_stored : (s : Stored) (rs : List RedoRecord) → AllByRecursion R rs → AllByRecursion P s.durable.kept → AllByRecursion P (stored_by s rs).durable.kept
  unfolding stored_by
  rows_stored s [] all now = now
  rows_stored s (r ∷ rs) all now = rows_stored (applied s r) rs all.1 (rows_applied s r all.0 now)

-- where nothing has to be known of records
pub any_records : (rs : List RedoRecord) → AllByRecursion (λ r. Unit {0}) rs
any_records [] = tt
any_records (r ∷ rs) = (tt, any_records rs)

pub any_record : (w : Option RedoRecord) → IfSome w (λ r. Unit {0})
any_record None = tt
any_record (Some r) = tt
