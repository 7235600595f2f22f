-- The lines of one command among others, and what they say.
use Rattle.std.proofs.Common.{◌≡◌, ◌≢◌, ℕ, ◌<◌, ◌≤◌, ◌==◌, Bool, true, false, if◌then◌else◌, List, [], ◌∷◌, ◌++◌, map, filter, refl, sym, ap, subst, ◌∙◌, arith, append-nil}
use Rattle.std.specs.Prelude.{nat_lt}
use Rattle.std.specs.List.{AllByRecursion}
use Rattle.std.proofs.lemmas.Bool.{cond_both, eqb-true, eq-eqb}
use Rattle.std.proofs.lemmas.Bool.Decides.{nat_tests}
use Rattle.std.proofs.lemmas.List.{append_assoc, map-append}
use Rattle.std.proofs.lemmas.List.Elements.{filter-append}
use Rattle.node_rules.specs.Data.{Place}
use Rattle.run_rules.specs.Data.{AnswerLine, Command, Said}
use Rattle.run_rules.specs.Lines.{line, put_line}
use Rattle.run_rules.proofs.ListLemmas.{all_append}
use Rattle.answer_once_laws.specs.OnceLaws.{IsNotice, AreNotices, AnswersOnce, At_once, Waits, Ends_later, waiting, said_of}

-- ---- lists

module _ (d : ℕ) where
  pub said_append : (xs ys : List AnswerLine) → said_of d (xs ++ ys) ≡ said_of d xs ++ said_of d ys
  said_append xs ys =
      ap (map (λ (l : AnswerLine). l.said)) (filter-append (λ (l : AnswerLine). l.command == d) xs ys) ∙ map-append (λ (l : AnswerLine). l.said) (filter (λ (l : AnswerLine). l.command == d) xs) (filter (λ (l : AnswerLine). l.command == d) ys)

  -- the first line is of the command, or of another
  pub said_own : (l : AnswerLine) (xs : List AnswerLine) → (l.command == d) ≡ true → said_of d (l ∷ xs) ≡ l.said ∷ said_of d xs
  said_own l xs is = ap (λ q. map (λ (x : AnswerLine). x.said) (if q then l ∷ filter (λ (x : AnswerLine). x.command == d) xs else filter (λ (x : AnswerLine). x.command == d) xs)) is

  pub said_other : (l : AnswerLine) (xs : List AnswerLine) → (l.command == d) ≡ false → said_of d (l ∷ xs) ≡ said_of d xs
  said_other l xs is = ap (λ q. map (λ (x : AnswerLine). x.said) (if q then l ∷ filter (λ (x : AnswerLine). x.command == d) xs else filter (λ (x : AnswerLine). x.command == d) xs)) is

  pub said_none : (xs : List AnswerLine) → AllByRecursion (λ (l : AnswerLine). (l.command == d) ≡ false) xs → said_of d xs ≡ []
  said_none [] all = refl
  said_none (x ∷ xs) all = said_other x xs all.0 ∙ said_none xs all.1

  pub said_lines : (xs : List Said) → said_of d (map (line d) xs) ≡ xs
  said_lines [] = refl
  said_lines (x ∷ xs) = said_own (line d x) (map (line d) xs) (eq-eqb d d refl) ∙ ap (λ ys. x ∷ ys) (said_lines xs)

  pub said_others : (c : ℕ) → (c == d) ≡ false → (xs : List Said) → said_of d (map (line c) xs) ≡ []
  said_others c other [] = refl
  said_others c other (x ∷ xs) = said_other (line c x) (map (line c) xs) other ∙ said_others c other xs

-- lines of commands below a number
abbrev pub AreBelow : ℕ → List AnswerLine → Type 0
AreBelow r xs = AllByRecursion (λ (l : AnswerLine). l.command < r) xs

pub none_below : (r d : ℕ) → r ≤ d → (xs : List AnswerLine) → AreBelow r xs → said_of d xs ≡ []
none_below r d low [] all = refl
none_below r d low (x ∷ xs) all = said_other d x xs (let it : x.command < r = all.0 in grind (arith, nat_tests, it, low)) ∙ none_below r d low xs all.1

-- ---- answers of earlier calls stand by their numbers

-- lines in the order of their commands
abbrev pub AreSorted : List AnswerLine → Type 0
AreSorted [] = Unit {0}
AreSorted (x ∷ xs) = AllByRecursion (λ (l : AnswerLine). x.command ≤ l.command) xs × AreSorted xs

module _ (l : AnswerLine) where
  put_all : (P : AnswerLine → Type 0) (xs : List AnswerLine) → AllByRecursion P xs → P l → AllByRecursion P (put_line xs l)
  put_all P [] all is = (is, tt)
  put_all P (x ∷ xs) all is = cond_both (nat_lt l.command x.command) (l ∷ x ∷ xs) (x ∷ put_line xs l) (AllByRecursion P) (λ first. (is, all)) (λ later. (all.0, put_all P xs all.1 is))

  pub put_below : (r : ℕ) (xs : List AnswerLine) → AreBelow r xs → l.command < r → AreBelow r (put_line xs l)
  put_below r xs all is = put_all (λ (x : AnswerLine). x.command < r) xs all is

  later_all : (n : ℕ) → l.command ≤ n → (xs : List AnswerLine) → AllByRecursion (λ (x : AnswerLine). n ≤ x.command) xs → AllByRecursion (λ (x : AnswerLine). l.command ≤ x.command) xs
  later_all n low [] all = tt
  later_all n low (x ∷ xs) all = (let it : n ≤ x.command = all.0 in omega (arith, it, low), later_all n low xs all.1)

  pub put_sorted : (xs : List AnswerLine) → AreSorted xs → AreSorted (put_line xs l)
  put_sorted [] all = (tt, tt)
  put_sorted (x ∷ xs) all =
      cond_both (nat_lt l.command x.command) (l ∷ x ∷ xs) (x ∷ put_line xs l) AreSorted
      (λ first. (let low : l.command ≤ x.command = (let it : l.command < x.command = grind (arith, nat_tests, first) in omega (arith, it)) in ((low, later_all x.command low xs all.0), all)))
      (λ later. (put_all (λ (y : AnswerLine). x.command ≤ y.command) xs all.0 (grind (arith, nat_tests, later)), put_sorted xs all.1))

  -- a line is put behind those of its command
  pub said_put : (d : ℕ) (xs : List AnswerLine) → AreSorted xs → said_of d (put_line xs l) ≡ said_of d xs ++ said_of d (l ∷ [])
  said_put d [] all = refl
  said_put d (x ∷ xs) all = by (l.command == d) (nat_lt l.command x.command) refl refl (said_put d xs all.1)
    where
      above : (n : ℕ) → d < n → (ys : List AnswerLine) → AllByRecursion (λ (y : AnswerLine). n ≤ y.command) ys → said_of d ys ≡ []
      above n high [] all = refl
      above n high (y ∷ ys) all = said_other d y ys (let it : n ≤ y.command = all.0 in grind (arith, nat_tests, it, high)) ∙ above n high ys all.1

      so : (b : Bool) → (x.command == d) ≡ b → said_of d (put_line xs l) ≡ said_of d xs ++ said_of d (l ∷ []) → said_of d (x ∷ put_line xs l) ≡ said_of d (x ∷ xs) ++ said_of d (l ∷ [])
      so true is rest = said_own d x (put_line xs l) is ∙ (ap (λ ys. x.said ∷ ys) rest ∙ ap (λ ys. ys ++ said_of d (l ∷ [])) (sym (said_own d x xs is)))
      so false is rest = said_other d x (put_line xs l) is ∙ (rest ∙ ap (λ ys. ys ++ said_of d (l ∷ [])) (sym (said_other d x xs is)))

      by : (q w : Bool) → (l.command == d) ≡ q → nat_lt l.command x.command ≡ w → said_of d (put_line xs l) ≡ said_of d xs ++ said_of d (l ∷ [])
          → said_of d (if nat_lt l.command x.command then l ∷ x ∷ xs else x ∷ put_line xs l) ≡ said_of d (x ∷ xs) ++ said_of d (l ∷ [])
      by true true own first rest =
          let here : l.command ≡ d = eqb-true l.command d own in
          let high : d < x.command = (let it : l.command < x.command = grind (arith, nat_tests, first) in subst (λ i. i < x.command) here it) in
          let other : (x.command == d) ≡ false = grind (arith, nat_tests, high) in
          let none : said_of d (x ∷ xs) ≡ [] = said_other d x xs other ∙ above x.command high xs all.0 in
          ap (λ q. said_of d (if q then l ∷ x ∷ xs else x ∷ put_line xs l)) first ∙ (said_own d l (x ∷ xs) own ∙ (ap (λ ys. l.said ∷ ys) none ∙ (sym (said_own d l [] own) ∙ ap (λ ys. ys ++ said_of d (l ∷ [])) (sym none))))
      by false true other first rest =
          ap (λ q. said_of d (if q then l ∷ x ∷ xs else x ∷ put_line xs l)) first ∙ (said_other d l (x ∷ xs) other
          ∙ (sym (append-nil (said_of d (x ∷ xs))) ∙ ap (λ ys. said_of d (x ∷ xs) ++ ys) (sym (said_other d l [] other))))
      by q false any later rest = ap (λ q. said_of d (if q then l ∷ x ∷ xs else x ∷ put_line xs l)) later ∙ so (x.command == d) refl rest

-- ---- answers

module _ (places : List Place) (command : Command) where
  -- notices may follow
  pub notices_more : {b : Bool} {xs : List Said} (ys : List Said) → AreNotices places ys → AnswersOnce places command b xs → AnswersOnce places command b (xs ++ ys)
  notices_more ys more (At_once a beside answer notices) = At_once a (beside ++ ys) answer (all_append (IsNotice places) beside ys notices more)
  notices_more ys more (Waits beside notices) = Waits (beside ++ ys) (all_append (IsNotice places) beside ys notices more)
  notices_more ys more (Ends_later before a after first ends last) =
      subst (λ xs. AnswersOnce places command false (waiting ∷ xs)) (sym (append_assoc before (a ∷ after) ys)) (Ends_later before a (after ++ ys) first ends (all_append (IsNotice places) after ys last more))

  pub some_said : {b : Bool} {xs : List Said} → AnswersOnce places command b xs → xs ≢ []
  some_said (At_once a beside answer notices) = λ is. absurd cc
  some_said (Waits beside notices) = λ is. absurd cc
  some_said (Ends_later before a after first ends last) = λ is. absurd cc
