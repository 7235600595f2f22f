-- What each change of the locks makes of the locks of one branch.
use Rattle.std.proofs.Common.{◌≡◌, ℕ, Bool, true, false, cond, List, [], ◌∷◌, None, refl, ap, arith}
use Rattle.dtx_values.specs.declared.value.Value.{Value}
use Rattle.tran_ids.specs.declared.branch.BranchId.{BranchId}
use Rattle.tran_ids.specs.Branch.{same}
use Rattle.tran_ids.proofs.BranchLemmas.{equal_from_same, same_from_equal}
use Rattle.row_locks.specs.Locks.{Lock, new_lock, other_holder, taken, in_doubt_from_now, without, without_reads}
use Rattle.row_locks.specs.Held.{held_by, written_of}

same_as : (a b c : BranchId) → same a b ≡ true → same a c ≡ same b c
same_as a b c h = ap (λ x. same x c) (equal_from_same a b h)

-- a branch that takes a key has it behind its own, or has it already
pub held_by_taker : (ls : List Lock) (branch : BranchId) (table : List ℕ) (key : Value) (writes : Bool)
    → other_holder ls branch table key ≡ None → held_by (taken ls branch table key writes) branch ≡ taken (held_by ls branch) branch table key writes
held_by_taker [] branch table key writes none = ap (λ b. cond b (new_lock branch table key writes ∷ []) []) (same_from_equal branch branch refl)
held_by_taker (l ∷ ls) branch table key writes none = grind (arith, held_by_taker ls branch table key writes, none)

-- and another branch has what it had
pub held_by_another : (ls : List Lock) (branch another : BranchId) (table : List ℕ) (key : Value) (writes : Bool)
    → same branch another ≡ false → other_holder ls branch table key ≡ None → held_by (taken ls branch table key writes) another ≡ held_by ls another
held_by_another [] branch another table key writes apart none = ap (λ b. cond b (new_lock branch table key writes ∷ []) []) apart
held_by_another (l ∷ ls) branch another table key writes apart none =
    grind (arith, held_by_another ls branch another table key writes apart, same_as l.branch branch another, apart, none)

-- a branch that gave back all has nothing
pub held_by_released : (ls : List Lock) (branch : BranchId) → held_by (without ls branch) branch ≡ []
held_by_released [] branch = refl
held_by_released (l ∷ ls) branch = grind (arith, held_by_released ls branch)

-- and another branch has what it had
pub held_beside_released : (ls : List Lock) (branch another : BranchId) → same branch another ≡ false → held_by (without ls branch) another ≡ held_by ls another
held_beside_released [] branch another apart = refl
held_beside_released (l ∷ ls) branch another apart =
    grind (arith, held_beside_released ls branch another apart, same_as l.branch branch another, apart)

-- a branch that gave back what it only read has what it writes
pub held_by_writer : (ls : List Lock) (branch : BranchId) → held_by (without_reads ls branch) branch ≡ written_of (held_by ls branch)
held_by_writer [] branch = refl
held_by_writer (l ∷ ls) branch = grind (arith, held_by_writer ls branch)

-- and another branch has what it had
pub held_beside_writer : (ls : List Lock) (branch another : BranchId) → same branch another ≡ false → held_by (without_reads ls branch) another ≡ held_by ls another
held_beside_writer [] branch another apart = refl
held_beside_writer (l ∷ ls) branch another apart =
    grind (arith, held_beside_writer ls branch another apart, same_as l.branch branch another, apart)

-- doubt changes no branch's keys
pub held_in_doubt : (ls : List Lock) (branch another : BranchId) → held_by (in_doubt_from_now ls branch) another ≡ in_doubt_from_now (held_by ls another) branch
held_in_doubt [] branch another = refl
held_in_doubt (l ∷ ls) branch another = grind (arith, held_in_doubt ls branch another)
