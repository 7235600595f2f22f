-- Items of branches in a map by their branches' ids.
use Rattle.std.specs.Prelude.{◌≡◌, List}
use Rattle.std.specs.List.{AllByRecursion}
use Rattle.tran_ids.specs.declared.branch.BranchId.{BranchId}

-- each key is that of its item's branch, and of each item this holds
abbrev pub KeysAreBranches : {A : Type 0} → (A → BranchId) → (A → Type 0) → List (BranchId × A) → Type 0
KeysAreBranches id P es = AllByRecursion (λ e. (e.0 ≡ id e.1) × P e.1) es
