-- Lines get what SHOW DISK has shown one after the other: a line takes what its command has shown, and no other line is of that command.
use Rattle.std.proofs.Common.{◌≡◌, ◌+◌, ◌<◌, ◌==◌, ◌&&◌, ◌||◌, ℕ, zero, suc, Bool, true, false, if◌then◌else◌, List, [], ◌∷◌, ◌++◌, length, get_or, map, take, drop, refl, ap, sym, subst, ◌∙◌, arith}
use Rattle.std.proofs.Math.Seq.{drop-cons, take-suc}
use Rattle.std.proofs.lemmas.List.{take-append-drop}
use Rattle.std.specs.List.{AllByRecursion, list_any}
use Rattle.run_rules.specs.Data.{AnswerLine}
use Rattle.world_parts.specs.Shown.{IsOnce, Shown, disk_reported, is_place, places_in, shown_at, showing}

-- What is left to show once these lines have theirs: for every command that is none of theirs, what was shown.
pub record IsLeftOf (lines : List AnswerLine) (before left : Shown) : Type 0 where
  pub others : (c : ℕ) → list_any (λ d. d == c) (places_in lines) ≡ false → shown_at left c ≡ shown_at before c

apart_of : (c : ℕ) (cs ds : List ℕ) (d : ℕ) → AllByRecursion (λ e. c == e ≡ false) (cs ++ d ∷ ds) → c == d ≡ false
apart_of c [] ds d all = all.0
apart_of c (e ∷ es) ds d all = apart_of c es ds d all.1

any_before : (cs ds : List ℕ) (d : ℕ) → IsOnce (cs ++ d ∷ ds) → list_any (λ c. c == d) cs ≡ false
any_before [] ds d once = refl
any_before (c ∷ cs) ds d once = rw (apart_of c cs ds d once.0) (any_before cs ds d once.1)

pub places_append : (xs ys : List AnswerLine) → places_in (xs ++ ys) ≡ places_in xs ++ places_in ys
places_append [] ys = refl
places_append (x ∷ xs) ys = by (is_place x.said) (places_append xs ys)
  where
    by : (b : Bool) → places_in (xs ++ ys) ≡ places_in xs ++ places_in ys
        → (if b then x.command ∷ places_in (xs ++ ys) else places_in (xs ++ ys)) ≡ (if b then x.command ∷ places_in xs else places_in xs) ++ places_in ys
    by true later = ap (λ (cs : List ℕ). x.command ∷ cs) later
    by false later = later

-- a line is told as if nothing had been taken for the lines before it
pub told_next : (xs : List AnswerLine) (x : AnswerLine) (rest : List AnswerLine) (before left : Shown) → IsOnce (places_in (xs ++ x ∷ rest)) → IsLeftOf xs before left → disk_reported left x ≡ disk_reported before x
told_next xs x rest before left once others = by (is_place x.said) refl
  where
    by : (b : Bool) → is_place x.said ≡ b → (if b then showing x (shown_at left x.command) else x) ≡ (if b then showing x (shown_at before x.command) else x)
    by false is = refl
    by true is =
        let split : places_in (xs ++ x ∷ rest) ≡ places_in xs ++ x.command ∷ places_in rest = places_append xs (x ∷ rest) ∙ ap (λ (b : Bool). places_in xs ++ (if b then x.command ∷ places_in rest else places_in rest)) is in
        ap (showing x) (others.others x.command (any_before (places_in xs) (places_in rest) x.command (subst (λ (cs : List ℕ). IsOnce cs) split once)))

any_append : (p : ℕ → Bool) (xs ys : List ℕ) → list_any p (xs ++ ys) ≡ false → (list_any p xs ≡ false) × (list_any p ys ≡ false)
any_append p [] ys none = (refl, none)
any_append p (x ∷ xs) ys none = by (p x) (λ later. any_append p xs ys later) none
  where
    by : (b : Bool) → (list_any p (xs ++ ys) ≡ false → (list_any p xs ≡ false) × (list_any p ys ≡ false)) → (b || list_any p (xs ++ ys)) ≡ false → ((b || list_any p xs) ≡ false) × (list_any p ys ≡ false)
    by true later is = absurd cc
    by false later is = later is

-- what is left once this line too has its own
pub left_next : (xs : List AnswerLine) (x : AnswerLine) (before left now : Shown) → IsLeftOf xs before left
    → ((c : ℕ) → (is_place x.said && (x.command == c)) ≡ false → shown_at now c ≡ shown_at left c) → IsLeftOf (xs ++ x ∷ []) before now
left_next xs x before left now others step = record {
  others = λ c none.
      let both = any_append (λ d. d == c) (places_in xs) (places_in (x ∷ [])) (ap (list_any (λ d. d == c)) (sym (places_append xs (x ∷ []))) ∙ none) in
      step c (here c (is_place x.said) both.1) ∙ others.others c both.0;
}
  where
    here : (c : ℕ) (b : Bool) → list_any (λ d. d == c) (if b then x.command ∷ [] else []) ≡ false → (b && (x.command == c)) ≡ false
    here c true none = by (x.command == c) none
      where
        by : (b : Bool) → (b || false) ≡ false → b ≡ false
        by true is = absurd cc
        by false is = refl
    here c false none = refl

-- ---- the lines in order

-- a line that has not had its turn is as it was
not_yet : (f : AnswerLine → AnswerLine) (lines : List AnswerLine) (i : ℕ) (x : AnswerLine) → i < length lines → get_or (map f (take i lines) ++ drop i lines) i x ≡ get_or lines i x
not_yet f [] i x less = absurd (omega (arith, less))
not_yet f (l ∷ ls) zero x less = refl
not_yet f (l ∷ ls) (suc i) x less = not_yet f ls i x (omega (arith, less))

module _ (before left : Shown) (lines items : List AnswerLine) (i : ℕ) (x : AnswerLine) (less : i < length lines) (so_far : items ≡ map (disk_reported before) (take i lines) ++ drop i lines) (is : x ≡ get_or items i x)
    (others : IsLeftOf (take i lines) before left) where
  here : get_or lines i x ≡ x
  here = sym (is ∙ (ap (λ (ls : List AnswerLine). get_or ls i x) so_far ∙ not_yet (disk_reported before) lines i x less))

  up_to : take (i + 1) lines ≡ take i lines ++ x ∷ []
  up_to =
      let n : i + 1 ≡ suc i = omega arith in
      ap (λ (k : ℕ). take k lines) n ∙ (take-suc lines i x less ∙ ap (λ (y : AnswerLine). take i lines ++ y ∷ []) here)

  whole : lines ≡ take i lines ++ x ∷ drop (suc i) lines
  whole = sym (take-append-drop i lines) ∙ ap (λ (ls : List AnswerLine). take i lines ++ ls) (drop-cons lines i x less ∙ ap (λ (y : AnswerLine). y ∷ drop (suc i) lines) here)

  pub told_here : IsOnce (places_in lines) → disk_reported left x ≡ disk_reported before x
  told_here once = told_next (take i lines) x (drop (suc i) lines) before left (subst (λ (ls : List AnswerLine). IsOnce (places_in ls)) whole once) others

  pub left_here : (now : Shown) → ((c : ℕ) → (is_place x.said && (x.command == c)) ≡ false → shown_at now c ≡ shown_at left c) → IsLeftOf (take (i + 1) lines) before now
  left_here now step = subst (λ (ls : List AnswerLine). IsLeftOf ls before now) (sym up_to) (left_next (take i lines) x before left now others step)
