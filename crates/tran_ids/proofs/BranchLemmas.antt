-- Branch ids are the same exactly where they are equal. An item is put in front of the first that it comes before.
use Rattle.std.proofs.Common.{◌≡◌, ℕ, ◌+◌, suc, Bool, true, false, not, if◌then◌else◌, List, [], ◌∷◌, refl, ap, subst, arith}
use Rattle.std.proofs.lemmas.Bool.Decides.{nat_tests}
use Rattle.std.specs.List.{insert, position_or_len}
use Rattle.tran_ids.specs.Branch.{same, branch_below, put_by_branch}
use Rattle.tran_ids.specs.declared.branch.BranchId.{BranchId}

equal_from_parts : (a b : BranchId) → a.node ≡ b.node → a.boot ≡ b.boot → a.session ≡ b.session → a.seq ≡ b.seq → a ≡ b
equal_from_parts a b node boot session seq i = record { node = node i; boot = boot i; session = session i; seq = seq i }

pub equal_from_same : (a b : BranchId) → same a b ≡ true → a ≡ b
equal_from_same a b h =
    equal_from_parts a b (grind (arith, nat_tests, h)) (grind (arith, nat_tests, h)) (grind (arith, nat_tests, h)) (grind (arith, nat_tests, h))

same_itself : (a : BranchId) → same a a ≡ true
same_itself a = grind (arith, nat_tests)

pub same_from_equal : (a b : BranchId) → a ≡ b → same a b ≡ true
same_from_equal a b e = subst (λ x. same a x ≡ true) e (same_itself a)

put_step : {A : Type 0} (before : Bool) (x y : A) (ys put : List A) (n : ℕ) → put ≡ insert ys n x → (if before then x ∷ y ∷ ys else y ∷ put) ≡ insert (y ∷ ys) (if not before then 1 + n else 0) x
put_step true x y ys put n e = refl
put_step false x y ys put n e = let one_more : 1 + n ≡ suc n = omega arith in rw one_more (ap (λ zs. y ∷ zs) e)

pub put_is_insert : {A : Type 0} (id : A → BranchId) (ys : List A) (x : A) → put_by_branch id ys x ≡ insert ys (position_or_len (λ y. branch_below (id x) (id y)) ys) x
put_is_insert id [] x = refl
put_is_insert id (y ∷ ys) x = put_step (branch_below (id x) (id y)) x y ys (put_by_branch id ys x) (position_or_len (λ z. branch_below (id x) (id z)) ys) (put_is_insert id ys x)
