-- Lists with one item for each branch: the item of a branch, an item put in its place, a branch left out. Lists whose
-- items have numbers, from 1.
use Rattle.std.specs.Prelude.{ℕ, zero, suc, Bool, not, if◌then◌else◌, List, [], ◌∷◌, find, filter, slice_get, slice_set, Option, None}
use Rattle.tran_ids.specs.declared.branch.BranchId.{BranchId}
use Rattle.tran_ids.specs.Branch.{same}

-- whether an item is of this branch
abbrev pub is_item_of : {A : Type 0} → (A → BranchId) → BranchId → A → Bool
is_item_of id b x = same (id x) b

-- the first item of a branch
abbrev pub item_at : {A : Type 0} → (A → BranchId) → List A → BranchId → Option A
item_at id xs b = find (is_item_of id b) xs

-- an item in the place of the first of its branch, or after the others where there is none
abbrev pub put_item : {A : Type 0} → (A → BranchId) → List A → A → List A
put_item id [] x = x ∷ []
put_item id (y ∷ ys) x = if same (id y) (id x) then x ∷ ys else y ∷ put_item id ys x

-- without the items of a branch
abbrev pub drop_item : {A : Type 0} → (A → BranchId) → List A → BranchId → List A
drop_item id xs b = filter (λ x. not (same (id x) b)) xs

-- the item of a number, from 1
abbrev pub numbered : {A : Type 0} → List A → ℕ → Option A
numbered xs zero = None
numbered xs (suc i) = slice_get xs i

-- with another item at a number
abbrev pub set_numbered : {A : Type 0} → List A → ℕ → A → List A
set_numbered xs zero y = xs
set_numbered xs (suc i) y = slice_set xs i y
