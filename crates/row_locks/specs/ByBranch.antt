-- The numbers of each branch's locks, kept in a map by the branches' ids.
use Rattle.std.specs.Prelude.{◌≡◌, ℕ, List, [], unwrap_or}
use Rattle.std.specs.Map.{lookup}
use Rattle.tran_ids.specs.declared.branch.BranchId.{BranchId}
use Rattle.tran_ids.specs.Branch.{same}
use Rattle.row_locks.specs.Numbered.{Numbered, HaveOwnNumbers, numbers_of}

-- the numbers that are kept for a branch
abbrev pub numbers_at : List (BranchId × List ℕ) → BranchId → List ℕ
numbers_at es b = unwrap_or (lookup (λ k. same k b) es) []

-- no two locks have the same number, and for each branch the numbers of its locks are kept
pub record AreLinked (es : List Numbered) (bs : List (BranchId × List ℕ)) : Type 0 where
  pub own : HaveOwnNumbers es
  pub linked : (b : BranchId) → numbers_at bs b ≡ numbers_of b es
