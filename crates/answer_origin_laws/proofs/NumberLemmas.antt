-- Items of lists by their numbers, from 1 and from 0.
use Rattle.std.proofs.Common.{◌≡◌, ℕ, zero, suc, ◌+◌, ◌⊎◌, ◌&&◌, ◌||◌, Bool, true, false, List, [], ◌∷◌, ◌++◌, map, length, slice_get, option_map, Some, inl, inr, refl, ap, subst, ◌∙◌, arith}
use Rattle.std.specs.Prelude.{take}
use Rattle.std.specs.List.{AllByRecursion, list_any}
use Rattle.std.proofs.lemmas.Bool.{and_from}
use Rattle.tran_ids.proofs.BranchLemmas.{equal_from_same, same_from_equal}
use Rattle.node_rules.specs.Data.{BranchId, Post}
use Rattle.node_rules.specs.Words.{same, numbered}
use Rattle.run_rules.specs.Trail.{is_reply}
use Rattle.answer_origin_laws.proofs.TaleLemmas.{NoReply}
use Rattle.tree_laws.proofs.BeyondLemmas.{or_none as or_false}

pub numbered_map : {A B : Type 0} (f : A → B) (xs : List A) (i : ℕ) → numbered (map f xs) i ≡ option_map f (numbered xs i)
numbered_map f xs zero = refl
numbered_map f [] (suc i) = refl
numbered_map f (x ∷ xs) (suc zero) = refl
numbered_map f (x ∷ xs) (suc (suc i)) = numbered_map f xs (suc i)

-- an item is in the first part, or in the second
pub numbered_append : {A : Type 0} (xs ys : List A) (n : ℕ) (x : A) → numbered (xs ++ ys) n ≡ Some x → (numbered xs n ≡ Some x) ⊎ ((j : ℕ) × (n ≡ length xs + j) × (numbered ys j ≡ Some x))
numbered_append [] ys n x is = inr (n, omega arith, is)
numbered_append (y ∷ xs) ys zero x is = absurd cc
numbered_append (y ∷ xs) ys (suc zero) x is = inl is
numbered_append (y ∷ xs) ys (suc (suc n)) x is = elim (numbered_append xs ys (suc n) x is) [
  | inl first ↦ inl first
  | inr second ↦ inr (second.0, (let it : suc (suc n) ≡ length (y ∷ xs) + second.0 = omega (arith, second.1) in it), second.2)
]

pub all_numbered : {A : Type 0} (P : A → Type 0) (xs : List A) (n : ℕ) (x : A) → AllByRecursion P xs → numbered xs n ≡ Some x → P x
all_numbered P xs zero x all is = absurd cc
all_numbered P [] (suc n) x all is = absurd cc
all_numbered P (y ∷ xs) (suc zero) x all is = let it : Some y ≡ Some x = is in let here : y ≡ x = cc in subst P here all.0
all_numbered P (y ∷ xs) (suc (suc n)) x all is = all_numbered P xs (suc n) x all.1 is

-- one item alone
pub alone : {A : Type 0} (y : A) (n : ℕ) (x : A) → numbered (y ∷ []) n ≡ Some x → (n ≡ 1) × (y ≡ x)
alone y zero x is = absurd cc
alone y (suc zero) x is = let it : Some y ≡ Some x = is in let here : y ≡ x = cc in (refl, here)
alone y (suc (suc n)) x is = absurd cc

pub no_reply_there : (b : BranchId) (xs : List Post) (n : ℕ) (x : Post) → NoReply b xs → numbered xs n ≡ Some x → x.from ≡ b → is_reply x.kind ≡ true → ⊥
no_reply_there b xs zero x none is from reply = absurd cc
no_reply_there b [] (suc n) x none is from reply = absurd cc
no_reply_there b (y ∷ xs) (suc zero) x none is from reply =
    let it : Some y ≡ Some x = is in
    let here : y ≡ x = cc in
    let both : (same y.from b && is_reply y.kind) ≡ true = and_from (same y.from b) (is_reply y.kind) (same_from_equal y.from b (ap (λ (z : Post). z.from) here ∙ from)) (ap (λ (z : Post). is_reply z.kind) here ∙ reply) in
    let not_so : (same y.from b && is_reply y.kind) ≡ false = (or_false (same y.from b && is_reply y.kind) _ none).0 in
    absurd (cc (both, not_so))
no_reply_there b (y ∷ xs) (suc (suc n)) x none is from reply = no_reply_there b xs (suc n) x (or_false (same y.from b && is_reply y.kind) _ none).1 is from reply

-- a branch to which nothing came says no Reply
pub unspoken : (P : BranchId → Type 0) (b : BranchId) → (P b → ⊥) → (xs : List Post) → AllByRecursion (λ (x : Post). is_reply x.kind ≡ true → P x.from) xs → NoReply b xs
unspoken P b never [] all = refl
unspoken P b never (x ∷ xs) all = ap (λ q. q || list_any (λ (y : Post). same y.from b && is_reply y.kind) xs) (by (same x.from b) (is_reply x.kind) refl refl) ∙ unspoken P b never xs all.1
  where
    by : (q r : Bool) → same x.from b ≡ q → is_reply x.kind ≡ r → (q && r) ≡ false
    by true true from reply = absurd (never (subst P (equal_from_same x.from b from) (all.0 reply)))
    by true false from reply = refl
    by false r from reply = refl

-- ---- items by their numbers, from 0

pub all_slice : {A : Type 0} (P : A → Type 0) (xs : List A) (i : ℕ) (x : A) → AllByRecursion P xs → slice_get xs i ≡ Some x → P x
all_slice P [] i x all at = absurd cc
all_slice P (y ∷ xs) zero x all at = let it : Some y ≡ Some x = at in let same : y ≡ x = cc in subst P same all.0
all_slice P (y ∷ xs) (suc i) x all at = all_slice P xs i x all.1 at

-- one item more than the first part
pub take_more : {A : Type 0} (xs : List A) (x : A) (rest : List A) → take (length xs + 1) (xs ++ x ∷ rest) ≡ xs ++ x ∷ []
take_more [] x rest = refl
take_more (y ∷ xs) x rest = let one : suc (length xs) + 1 ≡ suc (length xs + 1) = omega arith in ap (λ n. take n (y ∷ (xs ++ x ∷ rest))) one ∙ ap (λ zs. y ∷ zs) (take_more xs x rest)
