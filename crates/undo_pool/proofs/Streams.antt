-- The streams and counts of owners, of extents put together of others.
use Rattle.std.proofs.Common.{◌≡◌, ◌==◌, ◌+◌, Bool, true, false, if◌then◌else◌, ℕ, List, [], ◌∷◌, ◌++◌, refl, sym, ap, ◌∙◌, arith, append_assoc}
use Rattle.std.proofs.lemmas.List.{append-nil}
use Rattle.std.proofs.lemmas.Bool.{eq-eqb, eqb-true}
use Rattle.undo_pool.specs.Extents.{Held, stream_of, count_of}

-- one extent before others
one_more : (b : Bool) (x s t : List ℕ) → (if b then x ++ (s ++ t) else (s ++ t)) ≡ (if b then x ++ s else s) ++ t
one_more true x s t = sym (append_assoc x s t)
one_more false x s t = refl

pub stream_of-append : (xs ys : List Held) (o : ℕ) → stream_of (xs ++ ys) o ≡ stream_of xs o ++ stream_of ys o
stream_of-append [] ys o = refl
stream_of-append (x ∷ xs) ys o =
    ap (λ (s : List ℕ). if x.owner == o then x.bytes ++ s else s) (stream_of-append xs ys o) ∙ one_more (x.owner == o) x.bytes (stream_of xs o) (stream_of ys o)

one_counted : (b : Bool) (m n : ℕ) → (if b then 1 + (m + n) else (m + n)) ≡ (if b then 1 + m else m) + n
one_counted true m n = omega arith
one_counted false m n = refl

pub count_of-append : (xs ys : List Held) (o : ℕ) → count_of (xs ++ ys) o ≡ count_of xs o + count_of ys o
count_of-append [] ys o = omega arith
count_of-append (x ∷ xs) ys o =
    ap (λ (n : ℕ). if x.owner == o then 1 + n else n) (count_of-append xs ys o) ∙ one_counted (x.owner == o) (count_of xs o) (count_of ys o)

none_before : (b : Bool) (x s : List ℕ) (n : ℕ) → (n ≡ 0 → s ≡ []) → (if b then 1 + n else n) ≡ 0 → (if b then x ++ s else s) ≡ []
none_before true x s n rest some = absurd (omega (arith, some))
none_before false x s n rest none = rest none

-- who has no extent holds nothing
pub holds_nothing : (xs : List Held) (o : ℕ) → count_of xs o ≡ 0 → stream_of xs o ≡ []
holds_nothing [] o none = refl
holds_nothing (x ∷ xs) o none = none_before (x.owner == o) x.bytes (stream_of xs o) (count_of xs o) (holds_nothing xs o) none

pub other_owner : (a o : ℕ) → (a ≡ o → ⊥) → (a == o) ≡ false
other_owner a o is_not = go (a == o) refl where
  go : (q : Bool) → (a == o) ≡ q → q ≡ false
  go true same = absurd (is_not (eqb-true a o same))
  go false differs = refl

-- an extent of the owner, and one of another
pub of_owner : (x : Held) (xs : List Held) (o : ℕ) → x.owner ≡ o → (stream_of (x ∷ xs) o ≡ x.bytes ++ stream_of xs o) × (count_of (x ∷ xs) o ≡ 1 + count_of xs o)
of_owner x xs o is =
    let same = eq-eqb x.owner o is in
    (ap (λ (b : Bool). if b then x.bytes ++ stream_of xs o else stream_of xs o) same, ap (λ (b : Bool). if b then 1 + count_of xs o else count_of xs o) same)

pub of_other : (x : Held) (xs : List Held) (o : ℕ) → (x.owner ≡ o → ⊥) → (stream_of (x ∷ xs) o ≡ stream_of xs o) × (count_of (x ∷ xs) o ≡ count_of xs o)
of_other x xs o is_not =
    let same = other_owner x.owner o is_not in
    (ap (λ (b : Bool). if b then x.bytes ++ stream_of xs o else stream_of xs o) same, ap (λ (b : Bool). if b then 1 + count_of xs o else count_of xs o) same)

-- the extent between others
module _ (front : List Held) (x : Held) (back : List Held) where
  pub between_own : (o : ℕ) → x.owner ≡ o → count_of back o ≡ 0 → (stream_of (front ++ x ∷ back) o ≡ stream_of (front ++ back) o ++ x.bytes) × (count_of (front ++ x ∷ back) o ≡ count_of (front ++ back) o + 1)
  between_own o is last =
      let nothing = holds_nothing back o last in
      let whole : stream_of (front ++ x ∷ back) o ≡ stream_of front o ++ x.bytes =
      stream_of-append front (x ∷ back) o ∙ ap (λ (s : List ℕ). stream_of front o ++ s) ((of_owner x back o is).0 ∙ ap (λ (s : List ℕ). x.bytes ++ s) nothing ∙ append-nil x.bytes) in
      let rest : stream_of (front ++ back) o ≡ stream_of front o =
      stream_of-append front back o ∙ ap (λ (s : List ℕ). stream_of front o ++ s) nothing ∙ append-nil (stream_of front o) in
      (whole ∙ ap (λ (s : List ℕ). s ++ x.bytes) (sym rest), omega (arith, count_of-append front (x ∷ back) o, count_of-append front back o, (of_owner x back o is).1))

  pub between_other : (o : ℕ) → (x.owner ≡ o → ⊥) → (stream_of (front ++ x ∷ back) o ≡ stream_of (front ++ back) o) × (count_of (front ++ x ∷ back) o ≡ count_of (front ++ back) o)
  between_other o is_not = (
    stream_of-append front (x ∷ back) o ∙ ap (λ (s : List ℕ). stream_of front o ++ s) (of_other x back o is_not).0 ∙ sym (stream_of-append front back o),
    omega (arith, count_of-append front (x ∷ back) o, count_of-append front back o, (of_other x back o is_not).1),
  )
