-- Sets of changes that are taken back one by one are the last of a branch's.
use Rattle.std.proofs.Common.{◌≡◌, ℕ, ◌+◌, ◌-◌, Bool, true, false, cond, if◌then◌else◌, List, [], ◌∷◌, length, take, Option, Some, None, unwrap_or, refl, sym, ap, ◌∙◌, arith}
use Rattle.std.proofs.Math.Seq.{take-length}
use Rattle.std.proofs.lemmas.List.{take-take, length-take-le}
use Rattle.tran_ids.specs.declared.branch.BranchId.{BranchId}
use Rattle.tran_ids.specs.Branch.{same}
use Rattle.tran_ids.specs.Listed.{item_at, put_item}
use Rattle.tran_ids.proofs.BranchLemmas.{same_from_equal}
use Rattle.tran_ids.proofs.ListedLemmas.{item_is, put_found}
use Rattle.row_store.specs.declared.pending.ChangeSet.{ChangeSet}
use Rattle.row_store.specs.declared.pending.Owned.{Owned}
use Rattle.row_store.specs.Store.{own_id, but_last, less_last, less_sets, without_last, without_sets}

-- ---- an item that is put

same_if : (y x : Owned) (ys : List Owned) (here : Bool) → (if here then Some y else item_at own_id ys x.branch) ≡ Some x → (item_at own_id ys x.branch ≡ Some x → put_item own_id ys x ≡ ys)
    → (if here then x ∷ ys else y ∷ put_item own_id ys x) ≡ y ∷ ys
same_if y x ys true found later = ap (λ (o : Option Owned). unwrap_or o x ∷ ys) (sym found)
same_if y x ys false found later = ap (λ (zs : List Owned). y ∷ zs) (later found)

-- the item that is there
put_same : (owns : List Owned) (x : Owned) → item_at own_id owns x.branch ≡ Some x → put_item own_id owns x ≡ owns
put_same [] x found = absurd cc
put_same (y ∷ ys) x found = same_if y x ys (same y.branch x.branch) found (put_same ys x)

twice_if : (y x z : Owned) (ys : List Owned) (here : Bool) → same y.branch x.branch ≡ here → x.branch ≡ z.branch → put_item own_id (put_item own_id ys x) z ≡ put_item own_id ys z
    → put_item own_id (if here then x ∷ ys else y ∷ put_item own_id ys x) z ≡ (if here then z ∷ ys else y ∷ put_item own_id ys z)
twice_if y x z ys true is alike later = ap (λ hit. cond hit (z ∷ ys) (x ∷ put_item own_id ys z)) (same_from_equal x.branch z.branch alike)
twice_if y x z ys false is alike later =
    let other : same y.branch z.branch ≡ false = ap (same y.branch) (sym alike) ∙ is in
    ap (λ hit. cond hit (z ∷ put_item own_id ys x) (y ∷ put_item own_id (put_item own_id ys x) z)) other ∙ ap (λ (zs : List Owned). y ∷ zs) later

-- one item and then another of its branch
put_twice : (owns : List Owned) (x z : Owned) → x.branch ≡ z.branch → put_item own_id (put_item own_id owns x) z ≡ put_item own_id owns z
put_twice [] x z alike = ap (λ hit. cond hit (z ∷ []) (x ∷ z ∷ [])) (same_from_equal x.branch z.branch alike)
put_twice (y ∷ ys) x z alike =
    twice_if y x z ys (same y.branch x.branch) refl alike (put_twice ys x z alike) ∙ ap (λ hit. if hit then z ∷ ys else y ∷ put_item own_id ys z) (ap (same y.branch) alike)

-- ---- sets that are taken back

-- a branch with these sets
abbrev with_sets : Owned → List ChangeSet → Owned
with_sets o sets = record o { sets = sets }

whole : (sets : List ChangeSet) → take (length sets - 0) sets ≡ sets
whole sets = let all : length sets - 0 ≡ length sets = omega arith in ap (λ n. take n sets) all ∙ take-length sets

one_less : (sets : List ChangeSet) (n : ℕ) → but_last (take (length sets - n) sets) ≡ take (length sets - (n + 1)) sets
one_less sets n =
    let len : length (take (length sets - n) sets) ≡ length sets - n = length-take-le (length sets - n) sets (omega arith) in
    let less : length sets - n - 1 ≡ length sets - (n + 1) = omega arith in
    ap (λ m. take (m - 1) (take (length sets - n) sets)) len ∙ take-take (length sets - n - 1) (length sets - n) sets (omega arith) ∙ ap (λ m. take m sets) less

none_if : (owns : List Owned) (b : BranchId) (o : Option Owned) → item_at own_id owns b ≡ o → less_sets 0 owns o ≡ owns
none_if owns b None is = refl
none_if owns b (Some o) is =
    let me : o.branch ≡ b = item_is own_id owns b o is in
    ap (λ sets. put_item own_id owns (with_sets o sets)) (whole o.sets) ∙ put_same owns o (ap (item_at own_id owns) me ∙ is)

-- none is taken back
pub none_back : (owns : List Owned) (b : BranchId) → without_sets owns b 0 ≡ owns
none_back owns b = none_if owns b (item_at own_id owns b) refl

one_if : (owns : List Owned) (b : BranchId) (n : ℕ) (o : Option Owned) → item_at own_id owns b ≡ o → without_last (less_sets n owns o) b ≡ less_sets (n + 1) owns o
one_if owns b n None is = ap (less_last owns) is
one_if owns b n (Some o) is =
    let me : o.branch ≡ b = item_is own_id owns b o is in
    let now = with_sets o (take (length o.sets - n) o.sets) in
    let found : item_at own_id (put_item own_id owns now) b ≡ Some now = ap (item_at own_id (put_item own_id owns now)) (sym me) ∙ put_found own_id owns now in
    ap (less_last (put_item own_id owns now)) found
    ∙ put_twice owns now (with_sets o (but_last (take (length o.sets - n) o.sets))) refl
    ∙ ap (λ sets. put_item own_id owns (with_sets o sets)) (one_less o.sets n)

-- one more is taken back
pub one_back : (owns : List Owned) (b : BranchId) (n : ℕ) → without_last (without_sets owns b n) b ≡ without_sets owns b (n + 1)
one_back owns b n = one_if owns b n (item_at own_id owns b) refl
