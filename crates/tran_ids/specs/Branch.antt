-- When two branch ids are the same, which of two comes first, and lists in the order of their branches.
use Rattle.std.specs.Prelude.{◌==◌, ◌&&◌, ◌||◌, Bool, if◌then◌else◌, List, [], ◌∷◌, nat_lt}
use Rattle.tran_ids.specs.declared.branch.BranchId.{BranchId}

-- two branch ids are equal
abbrev pub same : BranchId → BranchId → Bool
same a b = (a.node == b.node) && ((a.boot == b.boot) && ((a.session == b.session) && (a.seq == b.seq)))

-- one comes before the other, in the order of boot, session, seq
abbrev pub branch_below : BranchId → BranchId → Bool
branch_below a b =
    nat_lt a.boot b.boot || ((a.boot == b.boot) && (nat_lt a.session b.session || ((a.session == b.session) && nat_lt a.seq b.seq)))

-- a list in the order of its branches, with one more item at its place
abbrev pub put_by_branch : {A : Type 0} → (A → BranchId) → List A → A → List A
put_by_branch id [] x = x ∷ []
put_by_branch id (y ∷ ys) x = if branch_below (id x) (id y) then x ∷ y ∷ ys else y ∷ put_by_branch id ys x
