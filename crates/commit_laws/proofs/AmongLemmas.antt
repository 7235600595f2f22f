-- The branches of a transaction: one that began in it is among them, and what is so of all of them is so of it.
use Rattle.std.proofs.Common.{◌≡◌, ◌||◌, Bool, true, false, cond, List, [], ◌∷◌, map, filter, Some, refl, ap, subst, ◌∙◌}
use Rattle.std.specs.List.{AllByRecursion}
use Rattle.std.proofs.lemmas.Bool.{or_right}
use Rattle.tran_ids.proofs.BranchLemmas.{equal_from_same, same_from_equal}
use Rattle.node_rules.specs.Data.{BranchId}
use Rattle.node_rules.specs.Words.{same}
use Rattle.run_rules.specs.Births.{Born, born_id, born_at}
use Rattle.run_rules.specs.Branches.{is_among}
use Rattle.run_claims.specs.Undisturbed.{branches_in}

-- a branch that began in a transaction is among its branches
pub is_in : (bs : List Born) (root m : BranchId) (b : Born) → born_at bs m ≡ Some b → b.root ≡ root → is_among m (branches_in bs root) ≡ true
is_in [] root m b at of = absurd cc
is_in (x ∷ bs) root m b at of = by (same x.me m) (same x.root root) refl refl at (is_in bs root m b)
  where
    by : (q r : Bool) → same x.me m ≡ q → same x.root root ≡ r → (cond q (Some x) (born_at bs m)) ≡ Some b → (born_at bs m ≡ Some b → b.root ≡ root → is_among m (branches_in bs root) ≡ true)
        → is_among m (map born_id (cond r (x ∷ filter (λ (y : Born). same y.root root) bs) (filter (λ (y : Born). same y.root root) bs))) ≡ true
    by true true me its found rest = ap (λ q. q || is_among m (branches_in bs root)) me
    by true false me its found rest =
        let it : x ≡ b = (let both : Some x ≡ Some b = found in cc) in
        let mine : same x.root root ≡ true = same_from_equal x.root root (ap (λ (y : Born). y.root) it ∙ of) in
        absurd (cc (mine, its))
    by false true me its found rest = or_right (same x.me m) (is_among m (branches_in bs root)) (rest found of)
    by false false me its found rest = rest found of

-- what is so of each branch is so of one among them
pub among_all : (P : BranchId → Type 0) (bs : List BranchId) (b : BranchId) → AllByRecursion P bs → is_among b bs ≡ true → P b
among_all P [] b all is = absurd cc
among_all P (c ∷ bs) b all is = by (same c b) refl is (among_all P bs b all.1)
  where
    by : (q : Bool) → same c b ≡ q → (q || is_among b bs) ≡ true → (is_among b bs ≡ true → P b) → P b
    by true here found rest = subst P (equal_from_same c b here) all.0
    by false other found rest = rest found
