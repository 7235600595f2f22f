-- The order in which the rows of kept branches stand.
use Rattle.std.specs.Prelude.{◌≡◌, false, List, [], ◌∷◌}
use Rattle.std.specs.List.{AllByRecursion}
use Rattle.tran_ids.specs.Branch.{branch_below}
use Rattle.tran_ids.specs.declared.branch.BranchId.{BranchId}
use Rattle.redo_record.specs.declared.durable.KeptRow.{KeptRow}

-- no row is of a branch that comes before this one
abbrev pub NoneBefore : BranchId → List KeptRow → Type 0
NoneBefore b ks = AllByRecursion (λ s. branch_below s.me b ≡ false) ks

-- no row stands behind one whose branch comes after its own
abbrev pub AreInOrder : List KeptRow → Type 0
AreInOrder [] = Unit {0}
AreInOrder (s ∷ ks) = NoneBefore s.me ks × AreInOrder ks
