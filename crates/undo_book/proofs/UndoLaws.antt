-- What bytes say as changes, where they are those of changes.
use Rattle.std.proofs.Common.{◌≡◌, ◌+◌, ◌-◌, ◌≤◌, ◌<◌, Bool, true, false, if◌then◌else◌, ℕ, zero, suc, List, [], ◌∷◌, ◌++◌, length, take, refl, sym, ap, subst, ◌∙◌, arith, length-append}
use Rattle.std.specs.Prelude.{nat_lt}
use Rattle.std.specs.List.{AllByRecursion}
use Rattle.std.proofs.lemmas.List.{take_at, append-nil}
use Rattle.std.proofs.lemmas.Bool.{ltb-true, ltb-false}
use Rattle.std.proofs.lemmas.List.Concat.{flat_map-cons, flat_map-append}
use Rattle.dtx_values.specs.declared.row.Change.{Change}
use Rattle.field_codec.specs.Change.{change_format}
use Rattle.field_codec.proofs.FieldLaws.{change_exact}
use Rattle.undo_book.specs.Undo.{undo_text, first_and, changes_at, changes_in, AreBytesOf, IsUndo, whole_in}

-- each change takes at least one byte
pub takes_some : (c : Change) → 0 < length (change_format.text c)
takes_some c = omega arith

pub not_more : (cs : List Change) → length cs ≤ length (undo_text cs)
not_more [] = omega arith
not_more (c ∷ cs) = omega (arith, takes_some c, not_more cs, ap length (flat_map-cons change_format.text c cs), length-append (change_format.text c) (undo_text cs))

nothing_said : (n : ℕ) → changes_at n [] ≡ []
unfolding changes_at
nothing_said zero = refl
nothing_said (suc n) = refl

said_again : (n : ℕ) (cs : List Change) → AllByRecursion change_format.Fits cs → length cs ≤ n → changes_at n (undo_text cs) ≡ cs
unfolding changes_at
said_again n [] fits few = nothing_said n
said_again zero (c ∷ cs) fits few = absurd (omega (arith, few))
said_again (suc n) (c ∷ cs) fits few =
    ap (λ (bytes : List ℕ). first_and (changes_at n) (change_format.read bytes)) (flat_map-cons change_format.text c cs)
    ∙ ap (first_and (changes_at n)) (change_exact.again c (undo_text cs) fits.0)
    ∙ ap (λ (l : List Change). c ∷ l) (said_again n cs fits.1 (omega (arith, few)))

-- the bytes of changes say these
pub say : (bytes : List ℕ) (cs : List Change) → AreBytesOf cs bytes → changes_in bytes ≡ cs
unfolding changes_in
say bytes cs are =
    ap (λ (b : List ℕ). changes_at (length b) b) are.spelled ∙ said_again (length (undo_text cs)) cs are.fits (not_more cs)

-- and are undo
pub is_undo : (bytes : List ℕ) (cs : List Change) → AreBytesOf cs bytes → IsUndo bytes
is_undo bytes cs are = subst (λ (l : List Change). AreBytesOf l bytes) (sym (say bytes cs are)) are

pub nothing : AreBytesOf [] []
nothing = record { fits = tt; spelled = refl }

all_joined : (ds es : List Change) → AllByRecursion change_format.Fits ds → AllByRecursion change_format.Fits es → AllByRecursion change_format.Fits (ds ++ es)
all_joined [] es first next = next
all_joined (a ∷ ds) es first next = (first.0, all_joined ds es first.1 next)

-- undo behind undo
pub joined : (xs ys : List ℕ) (ds es : List Change) → AreBytesOf ds xs → AreBytesOf es ys → AreBytesOf (ds ++ es) (xs ++ ys)
joined xs ys ds es first next = record {
  fits = all_joined ds es first.fits next.fits;
  spelled = ap (λ (l : List ℕ). l ++ ys) first.spelled ∙ ap (λ (l : List ℕ). undo_text ds ++ l) next.spelled ∙ sym (flat_map-append change_format.text ds es);
}

-- the first changes alone
split_in : (b : Bool) (cs more : List Change) (c : Change) (rest : List Change) → cs ≡ more ++ rest → (if b then [] else c ∷ more) ++ (if b then c ∷ cs else rest) ≡ c ∷ cs
split_in true cs more c rest is = refl
split_in false cs more c rest is = ap (λ (l : List Change). c ∷ l) (sym is)

-- those behind them
behind : ℕ → List Change → List Change
behind keep [] = []
behind keep (c ∷ cs) = if nat_lt keep (length (change_format.text c)) then c ∷ cs else behind (keep - length (change_format.text c)) cs

in_two : (keep : ℕ) (cs : List Change) → whole_in keep cs ++ behind keep cs ≡ cs
unfolding behind
in_two keep [] = refl
in_two keep (c ∷ cs) =
    let left = keep - length (change_format.text c) in
    split_in (nat_lt keep (length (change_format.text c))) cs (whole_in left cs) c (behind left cs) (sym (in_two left cs))

all_first : (ds es : List Change) → AllByRecursion change_format.Fits (ds ++ es) → AllByRecursion change_format.Fits ds
all_first [] es all = tt
all_first (a ∷ ds) es all = (all.0, all_first ds es all.1)

module _ (keep : ℕ) (cs : List Change) (bytes : List ℕ) (are : AreBytesOf cs bytes) (whole : length (undo_text (whole_in keep cs)) ≡ keep) where
  split_bytes : bytes ≡ undo_text (whole_in keep cs) ++ undo_text (behind keep cs)
  split_bytes = are.spelled ∙ ap undo_text (sym (in_two keep cs)) ∙ flat_map-append change_format.text (whole_in keep cs) (behind keep cs)

  pub cut_to : AreBytesOf (whole_in keep cs) (take keep bytes)
  cut_to = record {
    fits = all_first (whole_in keep cs) (behind keep cs) (subst (AllByRecursion change_format.Fits) (sym (in_two keep cs)) are.fits);
    spelled = ap (take keep) split_bytes ∙ take_at (undo_text (whole_in keep cs)) (undo_text (behind keep cs)) keep whole;
  }

  pub is_within : keep ≤ length bytes
  is_within = omega (arith, whole, ap length split_bytes, length-append (undo_text (whole_in keep cs)) (undo_text (behind keep cs)))

-- all of the changes in front are within their bytes, and none behind them
one_whole : (keep size : ℕ) (c : Change) (l : List Change) → size ≤ keep → (if nat_lt keep size then [] else c ∷ l) ≡ c ∷ l
one_whole keep size c l fits = go (nat_lt keep size) refl where
  go : (b : Bool) → nat_lt keep size ≡ b → (if b then [] else c ∷ l) ≡ c ∷ l
  go true less = absurd (omega (arith, ltb-true keep size less, fits))
  go false is = refl

pub whole_in_front : (front back : List Change) → whole_in (length (undo_text front)) (front ++ back) ≡ front
whole_in_front [] [] = refl
whole_in_front [] (c ∷ cs) = go (nat_lt 0 (length (change_format.text c))) refl where
  go : (b : Bool) → nat_lt 0 (length (change_format.text c)) ≡ b → (if b then [] else c ∷ whole_in (0 - length (change_format.text c)) cs) ≡ []
  go true less = refl
  go false is = absurd (omega (arith, ltb-false 0 (length (change_format.text c)) is, takes_some c))
whole_in_front (c ∷ front) back =
    let size = length (change_format.text c) in
    let keep = length (undo_text (c ∷ front)) in
    let long : keep ≡ size + length (undo_text front) = ap length (flat_map-cons change_format.text c front) ∙ length-append (change_format.text c) (undo_text front) in
    let left : keep - size ≡ length (undo_text front) = omega (arith, long) in
    one_whole keep size c (whole_in (keep - size) (front ++ back)) (omega (arith, long))
    ∙ ap (λ (n : ℕ). c ∷ whole_in n (front ++ back)) left ∙ ap (λ (l : List Change). c ∷ l) (whole_in_front front back)

-- with one more change
pub pushed : (xs new : List ℕ) (d : Change) → IsUndo xs → change_format.Fits d → new ≡ xs ++ change_format.text d → AreBytesOf (changes_in xs ++ d ∷ []) new
pushed xs new d are fits is =
    subst (AreBytesOf (changes_in xs ++ d ∷ [])) (sym is) (joined xs (change_format.text d) (changes_in xs) (d ∷ []) are (record { fits = (fits, tt); spelled = sym (append-nil (change_format.text d)) }))
