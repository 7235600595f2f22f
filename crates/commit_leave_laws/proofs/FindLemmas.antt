-- What is found in lists that grow.
use Rattle.std.proofs.Common.{◌≡◌, ◌⊎◌, if◌then◌else◌, find, inl, inr, None, Bool, true, false, List, [], ◌∷◌, ◌++◌, Some, ap}

pub find_kept : {A : Type 0} (p : A → Bool) (xs ys : List A) (x : A) → find p xs ≡ Some x → find p (xs ++ ys) ≡ Some x
find_kept p [] ys x is = absurd cc
find_kept p (z ∷ xs) ys x is = by (p z) is (find_kept p xs ys x)
  where
    by : (q : Bool) → (if q then Some z else find p xs) ≡ Some x → (find p xs ≡ Some x → find p (xs ++ ys) ≡ Some x) → (if q then Some z else find p (xs ++ ys)) ≡ Some x
    by true here rest = here
    by false here rest = rest here

pub find_either : {A : Type 0} (p : A → Bool) (xs ys : List A) (x : A) → find p (xs ++ ys) ≡ Some x → (find p xs ≡ Some x) ⊎ (find p ys ≡ Some x)
find_either p [] ys x is = inr is
find_either p (z ∷ xs) ys x is = by (p z) is (find_either p xs ys x)
  where
    by : (q : Bool) → (if q then Some z else find p (xs ++ ys)) ≡ Some x → (find p (xs ++ ys) ≡ Some x → (find p xs ≡ Some x) ⊎ (find p ys ≡ Some x)) → ((if q then Some z else find p xs) ≡ Some x) ⊎ (find p ys ≡ Some x)
    by true here rest = inl here
    by false here rest = rest here

pub find_last : {A : Type 0} (p : A → Bool) (xs : List A) (x : A) → find p xs ≡ None → p x ≡ true → find p (xs ++ x ∷ []) ≡ Some x
find_last p [] x none is = ap (λ q. if q then Some x else None) is
find_last p (z ∷ xs) x none is = by (p z) none (λ rest. find_last p xs x rest is)
  where
    by : (q : Bool) → (if q then Some z else find p xs) ≡ None → (find p xs ≡ None → find p (xs ++ x ∷ []) ≡ Some x) → (if q then Some z else find p (xs ++ x ∷ [])) ≡ Some x
    by true here rest = absurd cc
    by false here rest = rest here
