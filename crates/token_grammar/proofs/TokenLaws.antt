-- One token is read exactly, as long as it can be.
use Rattle.std.proofs.Common.{◌≡◌, ℕ, ◌<◌, ◌^◌, true, false, cond, List, [], ◌∷◌, ◌++◌, length, map, Option, Some, None, refl, sym, ap, subst, ◌∙◌, append_assoc, arith, inl, inr}
use Rattle.std.specs.List.{flat_map, prefix_len}
use Rattle.std.specs.Char.{to_ascii_uppercase}
use Rattle.std.proofs.lemmas.Bool.Decides.{nat_tests}
use Rattle.std.proofs.lemmas.List.{length-append, take-append-drop}
use Rattle.token_grammar.specs.declared.mark.Mark.{Mark}
use Rattle.token_grammar.specs.declared.token.Token.{Token}
use Rattle.token_grammar.specs.declared.token.Token.TheVariants as token
use Rattle.token_grammar.specs.Steps.{◌>>=◌, begins}
use Rattle.token_grammar.specs.Bytes.{is_blank, is_letter, is_digit, is_word_byte, is_quote, value_from, doubled, one_mark, two_marks}
use Rattle.token_grammar.specs.Tokens.{MarkText, TokenText, MarkEnds, Ends}
use Rattle.token_grammar.specs.Lexing.{run, behind, word_at, small, number_at, quoted_at, or_one, mark_at, token_at, any_byte}
use Rattle.token_grammar.proofs.Options.{bind_some, chosen, some_is}
use Rattle.token_grammar.proofs.Digits.{small_is, small-some}
use Rattle.token_grammar.proofs.Runs.{run_passes, behind_stops, run-of, behind-of, begins_run}
use Rattle.token_grammar.proofs.QuoteLaws.{quote_is, quoted_takes, quoted_again, text_long}

pub record TakesToken (bytes : List ℕ) (x : Token × List ℕ) : Type 0 where
  pub text : List ℕ
  pub spelled : TokenText x.0 text
  pub ends : Ends x.0 text x.1
  pub whole : bytes ≡ text ++ x.1

word_takes : (b : ℕ) (bs : List ℕ) (x : Token × List ℕ) → is_letter b ≡ true → word_at (b ∷ bs) ≡ Some x → TakesToken (b ∷ bs) x
unfolding word_at
word_takes b bs x h e =
    let w : is_word_byte b ≡ true = rw h refl in
    subst (TakesToken (b ∷ bs)) (some_is (token.Word (map to_ascii_uppercase (run is_word_byte (b ∷ bs))), behind is_word_byte (b ∷ bs)) x e) (record {
      text = run is_word_byte (b ∷ bs);
      spelled = (begins_run is_word_byte is_letter b bs w h, run_passes is_word_byte (b ∷ bs), refl);
      ends = behind_stops is_word_byte (b ∷ bs);
      whole = sym (take-append-drop (prefix_len is_word_byte (b ∷ bs)) (b ∷ bs));
    })

number_takes : (b : ℕ) (bs : List ℕ) (x : Token × List ℕ) → is_digit b ≡ true → number_at (b ∷ bs) ≡ Some x → TakesToken (b ∷ bs) x
unfolding number_at
number_takes b bs x h e =
    let u = bind_some (small (value_from 0 (run is_digit (b ∷ bs)))) (λ n. Some (token.Number n, behind is_digit (b ∷ bs))) x e in
    let s = small_is (value_from 0 (run is_digit (b ∷ bs))) u.0 u.1 in
    subst (TakesToken (b ∷ bs)) (some_is (token.Number u.0, behind is_digit (b ∷ bs)) x u.2) (record {
      text = run is_digit (b ∷ bs);
      spelled = (begins_run is_digit is_digit b bs h h, run_passes is_digit (b ∷ bs), sym s.0, rw (← s.0) s.1);
      ends = behind_stops is_digit (b ∷ bs);
      whole = sym (take-append-drop (prefix_len is_digit (b ∷ bs)) (b ∷ bs));
    })

-- ---- marks

no_letter : (b : ℕ) (m : Mark) → one_mark b ≡ Some m → is_letter b ≡ false
no_letter b m e = grind (arith, nat_tests)

no_digit : (b : ℕ) (m : Mark) → one_mark b ≡ Some m → is_digit b ≡ false
no_digit b m e = grind (arith, nat_tests)

no_quote : (b : ℕ) (m : Mark) → one_mark b ≡ Some m → is_quote b ≡ false
no_quote b m e = grind (arith, nat_tests)

no_blank : (b : ℕ) (m : Mark) → one_mark b ≡ Some m → is_blank b ≡ false
no_blank b m e = grind (arith, nat_tests)

two_no_letter : (b c : ℕ) (m : Mark) → two_marks b c ≡ Some m → is_letter b ≡ false
two_no_letter b c m e = grind (arith, nat_tests)

two_no_digit : (b c : ℕ) (m : Mark) → two_marks b c ≡ Some m → is_digit b ≡ false
two_no_digit b c m e = grind (arith, nat_tests)

two_no_quote : (b c : ℕ) (m : Mark) → two_marks b c ≡ Some m → is_quote b ≡ false
two_no_quote b c m e = grind (arith, nat_tests)

two_no_blank : (b c : ℕ) (m : Mark) → two_marks b c ≡ Some m → is_blank b ≡ false
two_no_blank b c m e = grind (arith, nat_tests)

digit_no_letter : (b : ℕ) → is_digit b ≡ true → is_letter b ≡ false
digit_no_letter b e = grind (arith, nat_tests)

digit_no_blank : (b : ℕ) → is_digit b ≡ true → is_blank b ≡ false
digit_no_blank b e = grind (arith, nat_tests)

letter_no_blank : (b : ℕ) → is_letter b ≡ true → is_blank b ≡ false
letter_no_blank b e = grind (arith, nat_tests)

two_step : (b c : ℕ) (rest : List ℕ) (x : Token × List ℕ) (o : Option Mark) → two_marks b c ≡ o → or_one o b c rest ≡ Some x → TakesToken (b ∷ c ∷ rest) x
two_step b c rest x (Some m) h e = subst (TakesToken (b ∷ c ∷ rest)) (some_is (token.Mark m, rest) x e) (record { text = b ∷ c ∷ []; spelled = h; ends = tt; whole = refl })
two_step b c rest x None h e =
    let u = bind_some (one_mark b) (λ m. Some (token.Mark m, c ∷ rest)) x e in
    subst (TakesToken (b ∷ c ∷ rest)) (some_is (token.Mark u.0, c ∷ rest) x u.2) (record { text = b ∷ []; spelled = u.1; ends = h; whole = refl })

mark_takes : (bytes : List ℕ) (x : Token × List ℕ) → mark_at bytes ≡ Some x → TakesToken bytes x
unfolding mark_at
mark_takes [] x e = absurd cc
mark_takes (b ∷ []) x e =
    let u = bind_some (one_mark b) (λ m. Some (token.Mark m, [])) x e in
    subst (TakesToken (b ∷ [])) (some_is (token.Mark u.0, []) x u.2) (record { text = b ∷ []; spelled = u.1; ends = tt; whole = refl })
mark_takes (b ∷ c ∷ rest) x e = two_step b c rest x (two_marks b c) refl e

marks_again : (m : Mark) (text rest : List ℕ) → MarkText m text → MarkEnds text rest → mark_at (text ++ rest) ≡ Some (token.Mark m, rest)
unfolding mark_at
marks_again m [] rest s ends = absurd s
marks_again m (b ∷ []) [] s ends = rw s refl
marks_again m (b ∷ []) (c ∷ rest) s ends = rw (ends, s) refl
marks_again m (b ∷ c ∷ []) rest s ends = rw s refl
marks_again m (b ∷ c ∷ d ∷ text) rest s ends = absurd s

-- ---- any token

pub token_takes : (bytes : List ℕ) (x : Token × List ℕ) → token_at bytes ≡ Some x → TakesToken bytes x
unfolding token_at quoted_at
token_takes [] x e = absurd cc
token_takes (b ∷ bs) x e = elim (chosen (is_letter b) (word_at (b ∷ bs)) (cond (is_digit b) (number_at (b ∷ bs)) (cond (is_quote b) (quoted_at bs >>= λ s. Some (token.Quoted s.0, s.1)) (mark_at (b ∷ bs)))) (Some x) e) [
  | inl h ↦ word_takes b bs x h.0 h.1
  | inr h ↦ elim (chosen (is_digit b) (number_at (b ∷ bs)) (cond (is_quote b) (quoted_at bs >>= λ s. Some (token.Quoted s.0, s.1)) (mark_at (b ∷ bs))) (Some x) h.1) [
    | inl k ↦ number_takes b bs x k.0 k.1
    | inr k ↦ elim (chosen (is_quote b) (quoted_at bs >>= λ s. Some (token.Quoted s.0, s.1)) (mark_at (b ∷ bs)) (Some x) k.1) [
      | inl q ↦
          let u = bind_some (quoted_at bs) (λ s. Some (token.Quoted s.0, s.1)) x q.1 in
          let t = quoted_takes (length bs) bs u.0 u.1 in
          subst (TakesToken (b ∷ bs)) (some_is (token.Quoted u.0.0, u.0.1) x u.2) (record {
            text = 39 ∷ flat_map doubled u.0.0 ++ 39 ∷ [];
            spelled = refl;
            ends = t.1;
            whole = rw (quote_is b q.0) (ap (λ (r : List ℕ). 39 ∷ r) (t.0 ∙ sym (append_assoc (flat_map doubled u.0.0) (39 ∷ []) u.0.1)));
          })
      | inr q ↦ mark_takes (b ∷ bs) x q.1
    ]
  ]
]

to_word : (b : ℕ) (bs : List ℕ) → is_letter b ≡ true → token_at (b ∷ bs) ≡ word_at (b ∷ bs)
unfolding token_at
to_word b bs h = rw h refl

to_number : (b : ℕ) (bs : List ℕ) → is_digit b ≡ true → token_at (b ∷ bs) ≡ number_at (b ∷ bs)
unfolding token_at
to_number b bs h = rw (digit_no_letter b h, h) refl

word_again : (w text rest : List ℕ) → TokenText (token.Word w) text → Ends (token.Word w) text rest → token_at (text ++ rest) ≡ Some (token.Word w, rest)
unfolding word_at
word_again w [] rest s ends = absurd cc
word_again w (b ∷ bs) rest s ends = to_word b (bs ++ rest) s.0 ∙ rw (run-of is_word_byte (b ∷ bs) rest s.1 ends, behind-of is_word_byte (b ∷ bs) rest s.1 ends, s.2) refl

number_again : (n : ℕ) (text rest : List ℕ) → TokenText (token.Number n) text → Ends (token.Number n) text rest → token_at (text ++ rest) ≡ Some (token.Number n, rest)
unfolding number_at
number_again n [] rest s ends = absurd cc
number_again n (b ∷ bs) rest s ends =
    let fits : value_from 0 (b ∷ bs) < 2 ^ 64 = rw (← s.2) s.3 in
    to_number b (bs ++ rest) s.0 ∙ rw (run-of is_digit (b ∷ bs) rest s.1 ends, behind-of is_digit (b ∷ bs) rest s.1 ends, small-some (value_from 0 (b ∷ bs)) fits, s.2) refl

mark_again : (m : Mark) (text rest : List ℕ) → MarkText m text → MarkEnds text rest → token_at (text ++ rest) ≡ Some (token.Mark m, rest)
unfolding token_at
mark_again m [] rest s ends = absurd s
mark_again m (b ∷ []) rest s ends = rw (no_letter b m s, no_digit b m s, no_quote b m s) (marks_again m (b ∷ []) rest s ends)
mark_again m (b ∷ c ∷ []) rest s ends = rw (two_no_letter b c m s, two_no_digit b c m s, two_no_quote b c m s) (marks_again m (b ∷ c ∷ []) rest s ends)
mark_again m (b ∷ c ∷ d ∷ text) rest s ends = absurd s

pub token_again : (t : Token) (text rest : List ℕ) → TokenText t text → Ends t text rest → token_at (text ++ rest) ≡ Some (t, rest)
unfolding token_at quoted_at
token_again (token.Word w) text rest s ends = word_again w text rest s ends
token_again (token.Number n) text rest s ends = number_again n text rest s ends
token_again (token.Mark m) text rest s ends = mark_again m text rest s ends
token_again (token.Quoted q) text rest s ends =
    let le : length q < length (flat_map doubled q ++ (39 ∷ rest)) = omega (arith, length-append (flat_map doubled q) (39 ∷ rest), text_long q) in
    rw (s, append_assoc (flat_map doubled q) (39 ∷ []) rest, quoted_again (length (flat_map doubled q ++ (39 ∷ rest))) q rest le ends) refl

-- a token begins with no blank, and has a byte
pub token_begins : (t : Token) (text rest : List ℕ) → TokenText t text → (begins is_blank (text ++ rest) ≡ false) × (begins any_byte (text ++ rest) ≡ true)
token_begins (token.Word w) [] rest s = absurd cc
token_begins (token.Word w) (b ∷ bs) rest s = (letter_no_blank b s.0, refl)
token_begins (token.Number n) [] rest s = absurd cc
token_begins (token.Number n) (b ∷ bs) rest s = (digit_no_blank b s.0, refl)
token_begins (token.Quoted q) text rest s = rw s (refl, refl)
token_begins (token.Mark m) [] rest s = absurd s
token_begins (token.Mark m) (b ∷ []) rest s = (no_blank b m s, refl)
token_begins (token.Mark m) (b ∷ c ∷ []) rest s = (two_no_blank b c m s, refl)
token_begins (token.Mark m) (b ∷ c ∷ d ∷ text) rest s = absurd s
