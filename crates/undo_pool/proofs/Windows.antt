-- Parts of streams, as a buffer is filled with them.
use Rattle.std.proofs.Common.{◌≡◌, ◌==◌, ◌+◌, ◌-◌, ◌≤◌, ◌<◌, Bool, true, false, if◌then◌else◌, ℕ, zero, suc, List, [], ◌∷◌, ◌++◌, length, take, drop, refl, sym, ap, ◌∙◌, arith, append_assoc, length-append, length-drop}
use Rattle.std.proofs.lemmas.List.{drop_more, take-take, drop_all, take_all, take_at, length-take}
use lib.ListN.{get_or}
use Rattle.undo_pool.specs.Extents.{Held, part_of, stream_of}

front_of : (xs ys : List ℕ) (m : ℕ) → take (length xs + m) (xs ++ ys) ≡ xs ++ take m ys
front_of [] ys m = ap (λ (n : ℕ). take n ys) (omega arith)
front_of (x ∷ xs) ys m = let next : length (x ∷ xs) + m ≡ suc (length xs + m) = omega arith in
    ap (λ (n : ℕ). take n (x ∷ xs ++ ys)) next ∙ ap (λ (l : List ℕ). x ∷ l) (front_of xs ys m)

-- what is cut off behind a place does not count before it
pub shorter : (xs ys : List ℕ) (k m : ℕ) → k ≤ length xs + m → take k (xs ++ take m ys) ≡ take k (xs ++ ys)
shorter xs ys k m le = ap (λ (l : List ℕ). take k l) (sym (front_of xs ys m)) ∙ take-take k (length xs + m) (xs ++ ys) le

one_of : (b : Bool) (x s : List ℕ) → (if b then x ++ s else s) ≡ (if b then x else []) ++ s
one_of true x s = refl
one_of false x s = refl

-- a stream from a place on
pub stream_step : (xs : List Held) (o i : ℕ) (x : Held) → i < length xs → x ≡ get_or xs i x → stream_of (drop i xs) o ≡ part_of x o ++ stream_of (drop (i + 1) xs) o
stream_step xs o i x within is =
    ap (λ (l : List Held). stream_of l o) (drop_more xs i x within ∙ ap (λ (y : Held). y ∷ drop (i + 1) xs) (sym is)) ∙ one_of (x.owner == o) x.bytes (stream_of (drop (i + 1) xs) o)

drop_both : (xs ys : List ℕ) (n : ℕ) → drop n (xs ++ ys) ≡ drop n xs ++ drop (n - length xs) ys
drop_both [] ys n = let same : n ≡ n - length {A = ℕ} [] = omega arith in
    ap (λ (k : ℕ). drop k ys) same ∙ ap (λ (l : List ℕ). l ++ drop (n - length {A = ℕ} []) ys) (sym (drop_all n [] (omega arith)))
drop_both (x ∷ xs) ys zero = let same : 0 ≡ 0 - length (x ∷ xs) = omega arith in
    ap (λ (k : ℕ). x ∷ xs ++ drop k ys) same
drop_both (x ∷ xs) ys (suc n) = let same : n - length xs ≡ suc n - length (x ∷ xs) = omega arith in
    drop_both xs ys n ∙ ap (λ (k : ℕ). drop n xs ++ drop k ys) same

take_both : (xs ys : List ℕ) (n : ℕ) → take n (xs ++ ys) ≡ take n xs ++ take (n - length xs) ys
take_both [] ys n = let same : n ≡ n - length {A = ℕ} [] = omega arith in
    ap (λ (k : ℕ). take k ys) same ∙ ap (λ (l : List ℕ). l ++ take (n - length {A = ℕ} []) ys) (sym (take_all n [] (omega arith)))
take_both (x ∷ xs) ys zero = let same : 0 ≡ 0 - length (x ∷ xs) = omega arith in
    ap (λ (k : ℕ). take k ys) same
take_both (x ∷ xs) ys (suc n) = let same : n - length xs ≡ suc n - length (x ∷ xs) = omega arith in
    ap (λ (l : List ℕ). x ∷ l) (take_both xs ys n) ∙ ap (λ (k : ℕ). x ∷ take n xs ++ take k ys) same

-- a window on two lists
pub window : (xs ys : List ℕ) (skip most : ℕ) → take most (drop skip xs) ++ take (most - length (take most (drop skip xs))) (drop (skip - length xs) ys) ≡ take most (drop skip (xs ++ ys))
window xs ys skip most =
    let front = drop skip xs in
    let back = drop (skip - length xs) ys in
    let same : most - length (take most front) ≡ most - length front = omega (arith, length-take most front) in
    ap (λ (k : ℕ). take most front ++ take k back) same ∙ sym (take_both front back most) ∙ ap (λ (l : List ℕ). take most l) (sym (drop_both xs ys skip))

length_of_end : (f : ℕ) (out some : List ℕ) → f + length some ≤ length out → length (take f out ++ some) ≡ f + length some
length_of_end f out some fits = omega (arith, length-append (take f out) some, length-take f out)

pub length_written : (f : ℕ) (out some : List ℕ) → f + length some ≤ length out → length (take f out ++ some ++ drop (f + length some) out) ≡ length out
length_written f out some fits = omega (arith, fits, length_of_end f out some fits, length-append (take f out ++ some) (drop (f + length some) out), length-drop (f + length some) out)

-- a buffer with one more part
pub one_part_more : (out new xs ys some : List ℕ) (f skip : ℕ) → f ≤ length out → some ≡ take (length out - f) (drop skip xs) → new ≡ take f out ++ some ++ drop (f + length some) out
    → (length new ≡ length out) × (f + length some ≤ length new)
    × (take (f + length some) new ++ take (length new - (f + length some)) (drop (skip - length xs) ys) ≡ take f out ++ take (length out - f) (drop skip (xs ++ ys)))
one_part_more out new xs ys some f skip within part is =
    let m = length out - f in
    let few : length some ≤ m = omega (arith, ap length part, length-take m (drop skip xs)) in
    let fits : f + length some ≤ length out = omega (arith, few, within) in
    let long : length new ≡ length out = ap length is ∙ length_written f out some fits in
    let tail = drop (f + length some) out in
    let begins : take (f + length some) new ≡ take f out ++ some =
    ap (λ (l : List ℕ). take (f + length some) l) is ∙ take_at (take f out ++ some) tail (f + length some) (length_of_end f out some fits) in
    let left : length new - (f + length some) ≡ m - length some = omega (arith, long) in
    let later = drop (skip - length xs) ys in
    let seen : some ++ take (m - length some) later ≡ take m (drop skip (xs ++ ys)) =
    ap (λ (l : List ℕ). l ++ take (m - length l) later) part ∙ window xs ys skip m in (
      long,
      omega (arith, fits, long),
      ap (λ (l : List ℕ). l ++ take (length new - (f + length some)) later) begins
          ∙ ap (λ (n : ℕ). (take f out ++ some) ++ take n later) left
          ∙ append_assoc (take f out) some (take (m - length some) later)
          ∙ ap (λ (l : List ℕ). take f out ++ l) seen,
    )
