-- The set of a statement whose changes are all of one table is the set over what its branch saw of that table.
use Rattle.std.proofs.Common.{◌≡◌, ℕ, List, [], ◌∷◌, map, refl}
use Rattle.std.specs.List.{AllByRecursion}
use Rattle.tran_ids.specs.declared.branch.BranchId.{BranchId}
use Rattle.dtx_values.specs.declared.row.Change.{Change}
use Rattle.row_store.specs.Own.{before}
use Rattle.row_store.specs.Pending.{set_over}
use Rattle.row_store.specs.Store.{Contents, seen_by, set_seen}

module _ (s : Contents) (b : BranchId) (table : List ℕ) where
  each_over : (cs : List Change) → AllByRecursion (λ c. c.table ≡ table) cs → map (λ c. before (seen_by s b c.table) c) cs ≡ map (before (seen_by s b table)) cs
  each_over [] all = refl
  each_over (c ∷ cs) all = (λ i. before (seen_by s b (all.0 i)) c ∷ each_over cs all.1 i)

  pub set_seen_over : (cs : List Change) → AllByRecursion (λ c. c.table ≡ table) cs → set_seen s b cs ≡ set_over (seen_by s b table) cs
  set_seen_over cs all = (λ i. record { changes = cs; undo = each_over cs all i })
