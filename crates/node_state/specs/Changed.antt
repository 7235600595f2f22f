-- Items of branches that are changed.
use Rattle.std.specs.Prelude.{List, Option, None, Some}
use Rattle.tran_ids.specs.declared.branch.BranchId.{BranchId}
use Rattle.tran_ids.specs.Listed.{item_at, put_item}

-- with this item changed, where there is one
abbrev pub with_item : {A : Type 0} → (A → BranchId) → (A → A) → List A → Option A → List A
with_item id f xs None = xs
with_item id f xs (Some x) = put_item id xs (f x)

-- with the item of a branch changed, where it has one
abbrev pub change_item : {A : Type 0} → (A → BranchId) → (A → A) → List A → BranchId → List A
change_item id f xs b = with_item id f xs (item_at id xs b)
