-- How many Opens of an edge there are among messages.
use Rattle.std.proofs.Common.{◌≡◌, ℕ, zero, suc, ◌+◌, ◌<◌, ◌≤◌, ◌==◌, ◌&&◌, ◌⊎◌, Bool, true, false, if◌then◌else◌, List, [], ◌∷◌, ◌++◌, Some, inl, inr, refl, sym, ap, subst, ◌∙◌, arith, Option}
use Rattle.std.specs.List.{AllByRecursion}
use Rattle.std.proofs.lemmas.Bool.{and_parts, eqb-true, eq-eqb}
use Rattle.tran_ids.proofs.BranchLemmas.{equal_from_same, same_from_equal}
use Rattle.node_rules.specs.Data.{BranchId, Kind, Post}
use Rattle.node_rules.specs.Data.kinds
use Rattle.node_rules.specs.Words.{same, numbered}
use Rattle.commit_leave_laws.specs.StrayLaws.{is_open_of, count_opens}

-- no Open
abbrev pub IsNoOpen : Kind → Type 0
IsNoOpen (kinds.Open edge root depth read_at) = ⊥
IsNoOpen _ = Unit {0}

pub count_more : (xs ys : List Post) (p : BranchId) (i : ℕ) → count_opens (xs ++ ys) p i ≡ count_opens xs p i + count_opens ys p i
count_more [] ys p i = omega arith
count_more (x ∷ xs) ys p i = by (same x.from p && is_open_of i x.kind) (count_more xs ys p i)
  where
    by : (q : Bool) → count_opens (xs ++ ys) p i ≡ count_opens xs p i + count_opens ys p i
        → (if q then 1 + count_opens (xs ++ ys) p i else count_opens (xs ++ ys) p i) ≡ (if q then 1 + count_opens xs p i else count_opens xs p i) + count_opens ys p i
    by true is = omega (arith, is)
    by false is = omega (arith, is)

open_is : (i : ℕ) (kind : Kind) → is_open_of i kind ≡ true → (edge : ℕ) × (root : BranchId) × (depth : ℕ) × (read_at : Option ℕ) × (kind ≡ kinds.Open edge root depth read_at) × (edge ≡ i)
open_is i (kinds.Open edge root depth read_at) is = (edge, root, depth, read_at, refl, eqb-true edge i is)
open_is i _ is = absurd cc

-- messages of which none is one
pub plain_none : (xs : List Post) (p : BranchId) (i : ℕ) → AllByRecursion (λ (x : Post). IsNoOpen x.kind) xs → count_opens xs p i ≡ 0
plain_none [] p i all = refl
plain_none (x ∷ xs) p i all = by (same x.from p && is_open_of i x.kind) refl (plain_none xs p i all.1)
  where
    never : is_open_of i x.kind ≡ true → ⊥
    never is = (let o = open_is i x.kind is in subst IsNoOpen o.4 all.0)

    by : (q : Bool) → (same x.from p && is_open_of i x.kind) ≡ q → count_opens xs p i ≡ 0 → (if q then 1 + count_opens xs p i else count_opens xs p i) ≡ 0
    by true here rest = absurd (never (and_parts (same x.from p) (is_open_of i x.kind) here).1)
    by false here rest = rest

-- no Open of a branch is of an edge above this number
pub low_none : (xs : List Post) (p : BranchId) (n i : ℕ) → AllByRecursion (λ (x : Post). x.from ≡ p → (edge : ℕ) (root : BranchId) (depth : ℕ) (read_at : Option ℕ) → x.kind ≡ kinds.Open edge root depth read_at → edge ≤ n) xs → n < i → count_opens xs p i ≡ 0
low_none [] p n i all above = refl
low_none (x ∷ xs) p n i all above = by (same x.from p && is_open_of i x.kind) refl (low_none xs p n i all.1 above)
  where
    by : (q : Bool) → (same x.from p && is_open_of i x.kind) ≡ q → count_opens xs p i ≡ 0 → (if q then 1 + count_opens xs p i else count_opens xs p i) ≡ 0
    by true here rest =
        let parts = and_parts (same x.from p) (is_open_of i x.kind) here in
        let o = open_is i x.kind parts.1 in
        let low : o.0 ≤ n = all.0 (equal_from_same x.from p parts.0) o.0 o.1 o.2 o.3 o.4 in
        let is : o.0 ≡ i = o.5 in
        absurd (omega (arith, low, is, above))
    by false here rest = rest

-- nor is there any of a branch that sent none
pub silent_none : (xs : List Post) (p : BranchId) (i : ℕ) → AllByRecursion (λ (x : Post). x.from ≡ p → IsNoOpen x.kind) xs → count_opens xs p i ≡ 0
silent_none [] p i all = refl
silent_none (x ∷ xs) p i all = by (same x.from p && is_open_of i x.kind) refl (silent_none xs p i all.1)
  where
    by : (q : Bool) → (same x.from p && is_open_of i x.kind) ≡ q → count_opens xs p i ≡ 0 → (if q then 1 + count_opens xs p i else count_opens xs p i) ≡ 0
    by true here rest =
        let parts = and_parts (same x.from p) (is_open_of i x.kind) here in
        let o = open_is i x.kind parts.1 in
        absurd (subst IsNoOpen o.4 (all.0 (equal_from_same x.from p parts.0)))
    by false here rest = rest

-- one message counts once at most
pub one_counts : (x : Post) (p : BranchId) (i : ℕ) → count_opens (x ∷ []) p i ≤ 1
one_counts x p i = by (same x.from p && is_open_of i x.kind)
  where
    by : (q : Bool) → (if q then 1 + 0 else 0) ≤ 1
    by true = omega arith
    by false = omega arith

-- the Open of an edge of a branch is of no other
pub one_other : (me to : BranchId) (number : ℕ) (root : BranchId) (depth : ℕ) (read_at : Option ℕ) (p : BranchId) (i : ℕ)
    → (count_opens ((record { from = me; to = to; kind = kinds.Open number root depth read_at }) ∷ []) p i ≡ 0) ⊎ ((me ≡ p) × (number ≡ i))
one_other me to number root depth read_at p i = by (same me p && (number == i)) refl
  where
    by : (q : Bool) → (same me p && (number == i)) ≡ q → ((if q then 1 + 0 else 0) ≡ 0) ⊎ ((me ≡ p) × (number ≡ i))
    by true here = (let parts = and_parts (same me p) (number == i) here in inr (equal_from_same me p parts.0, eqb-true number i parts.1))
    by false here = inl refl

-- an Open that there is counts
pub counts : (xs : List Post) (n : ℕ) (x : Post) (p : BranchId) (i : ℕ) (root : BranchId) (depth : ℕ) (read_at : Option ℕ) → numbered xs n ≡ Some x → x.from ≡ p → x.kind ≡ kinds.Open i root depth read_at → 1 ≤ count_opens xs p i
counts xs zero x p i root depth read_at at from kind = absurd cc
counts [] (suc n) x p i root depth read_at at from kind = absurd cc
counts (y ∷ ys) (suc zero) x p i root depth read_at at from kind =
    let it : Some y ≡ Some x = at in
    let one : y ≡ x = cc in
    let mine : same y.from p ≡ true = same_from_equal y.from p (ap (λ (z : Post). z.from) one ∙ from) in
    let of_i : is_open_of i y.kind ≡ true = ap (is_open_of i) (ap (λ (z : Post). z.kind) one ∙ kind) ∙ eq-eqb i i refl in
    let both : (same y.from p && is_open_of i y.kind) ≡ true = ap (λ q. q && is_open_of i y.kind) mine ∙ of_i in
    let is : count_opens (y ∷ ys) p i ≡ 1 + count_opens ys p i = ap (λ q. if q then 1 + count_opens ys p i else count_opens ys p i) both in
    omega (arith, is)
counts (y ∷ ys) (suc (suc n)) x p i root depth read_at at from kind = by (same y.from p && is_open_of i y.kind) (counts ys (suc n) x p i root depth read_at at from kind)
  where
    by : (q : Bool) → 1 ≤ count_opens ys p i → 1 ≤ (if q then 1 + count_opens ys p i else count_opens ys p i)
    by true some = omega arith
    by false some = some

-- where the first message is an Open of an edge that was opened once, no later one is
later_too : (w : Post) (ws : List Post) (n : ℕ) (u v : Post) (q : BranchId) (j : ℕ) (ru rv : BranchId) (du dv : ℕ) (su sv : Option ℕ) → count_opens (w ∷ ws) q j ≤ 1
    → numbered (w ∷ ws) 1 ≡ Some u → u.from ≡ q → u.kind ≡ kinds.Open j ru du su → numbered ws n ≡ Some v → v.from ≡ q → v.kind ≡ kinds.Open j rv dv sv → ⊥
later_too w ws n u v q j ru rv du dv su sv one here of_u open_u there of_v open_v =
    let it : Some w ≡ Some u = here in
    let same_one : w ≡ u = cc in
    let mine : same w.from q ≡ true = same_from_equal w.from q (ap (λ (k : Post). k.from) same_one ∙ of_u) in
    let of_j : is_open_of j w.kind ≡ true = ap (is_open_of j) (ap (λ (k : Post). k.kind) same_one ∙ open_u) ∙ eq-eqb j j refl in
    let both : (same w.from q && is_open_of j w.kind) ≡ true = ap (λ b. b && is_open_of j w.kind) mine ∙ of_j in
    let is : count_opens (w ∷ ws) q j ≡ 1 + count_opens ws q j = ap (λ b. if b then 1 + count_opens ws q j else count_opens ws q j) both in
    let some : 1 ≤ count_opens ws q j = counts ws n v q j rv dv sv there of_v open_v in
    omega (arith, is, some, one)

-- two Opens of an edge that was opened once are one
pub one_open : (xs : List Post) (n m : ℕ) (x y : Post) (p : BranchId) (i : ℕ) (rx ry : BranchId) (dx dy : ℕ) (sx sy : Option ℕ) → count_opens xs p i ≤ 1
    → numbered xs n ≡ Some x → x.from ≡ p → x.kind ≡ kinds.Open i rx dx sx → numbered xs m ≡ Some y → y.from ≡ p → y.kind ≡ kinds.Open i ry dy sy → x ≡ y
one_open xs zero m x y p i rx ry dx dy sx sy once at from kind at_y from_y kind_y = absurd cc
one_open xs (suc n) zero x y p i rx ry dx dy sx sy once at from kind at_y from_y kind_y = absurd cc
one_open [] (suc n) (suc m) x y p i rx ry dx dy sx sy once at from kind at_y from_y kind_y = absurd cc
one_open (z ∷ zs) (suc zero) (suc zero) x y p i rx ry dx dy sx sy once at from kind at_y from_y kind_y = (let it : Some x ≡ Some y = sym at ∙ at_y in cc)
one_open (z ∷ zs) (suc zero) (suc (suc m)) x y p i rx ry dx dy sx sy once at from kind at_y from_y kind_y =
    absurd (later_too z zs (suc m) x y p i rx ry dx dy sx sy once at from kind at_y from_y kind_y)
one_open (z ∷ zs) (suc (suc n)) (suc zero) x y p i rx ry dx dy sx sy once at from kind at_y from_y kind_y =
    absurd (later_too z zs (suc n) y x p i ry rx dy dx sy sx once at_y from_y kind_y at from kind)
one_open (z ∷ zs) (suc (suc n)) (suc (suc m)) x y p i rx ry dx dy sx sy once at from kind at_y from_y kind_y =
    one_open zs (suc n) (suc m) x y p i rx ry dx dy sx sy (fewer (same z.from p && is_open_of i z.kind) once) at from kind at_y from_y kind_y
  where
    fewer : (q : Bool) → (if q then 1 + count_opens zs p i else count_opens zs p i) ≤ 1 → count_opens zs p i ≤ 1
    fewer true low = omega (arith, low)
    fewer false low = low
