-- A text between quotes is read exactly.
use Rattle.std.proofs.Common.{◌≡◌, ℕ, zero, suc, ◌<◌, ◌≤◌, true, false, cond, List, [], ◌∷◌, ◌++◌, length, Option, Some, None, refl, sym, ap, subst, ◌∙◌, append_assoc, arith, inl, inr}
use Rattle.std.specs.List.{flat_map}
use Rattle.std.proofs.lemmas.Bool.{cases_Bool, eqb-true}
use Rattle.std.proofs.lemmas.List.{length-append}
use Rattle.std.proofs.lemmas.List.Concat.{flat_map-cons}
use Rattle.token_grammar.specs.Steps.{begins}
use Rattle.token_grammar.specs.Bytes.{is_quote, doubled}
use Rattle.token_grammar.specs.Lexing.{piece_at, or_end, quoted_from}
use Rattle.token_grammar.proofs.Options.{bind_some, chosen, some_is, some_of}

pub quote_is : (b : ℕ) → is_quote b ≡ true → b ≡ 39
quote_is b h = eqb-true b 39 h

abbrev Piece : Type 0
Piece = Option ℕ × List ℕ

abbrev end_at : List ℕ → Piece
end_at rest = (None, rest)

abbrev byte_at : ℕ → List ℕ → Piece
byte_at b rest = (Some b, rest)

not_both : (b : ℕ) (r s : List ℕ) → some_of (byte_at b r) ≡ some_of (end_at s) → ⊥
not_both b r s e = let q : some_of b ≡ None = ap (λ (y : Piece). y.0) (some_is (byte_at b r) (end_at s) e) in absurd cc

same_end : (r s : List ℕ) → some_of (end_at r) ≡ some_of (end_at s) → r ≡ s
same_end r s e = ap (λ (y : Piece). y.1) (some_is (end_at r) (end_at s) e)

same_byte : (b d : ℕ) (r s : List ℕ) → some_of (byte_at b r) ≡ some_of (byte_at d s) → (b ≡ d) × (r ≡ s)
same_byte b d r s e = (some_is b d (ap (λ (y : Piece). y.0) (some_is (byte_at b r) (byte_at d s) e)), ap (λ (y : Piece). y.1) (some_is (byte_at b r) (byte_at d s) e))

piece_ends : (bytes rest : List ℕ) → piece_at bytes ≡ Some (None, rest) → (bytes ≡ 39 ∷ rest) × (begins is_quote rest ≡ false)
piece_ends [] rest e = absurd cc
piece_ends (b ∷ []) rest e = elim (chosen (is_quote b) (some_of (end_at [])) (some_of (byte_at b [])) (some_of (end_at rest)) e) [
  | inl h ↦ (let q = same_end [] rest h.1 in (rw (quote_is b h.0) (ap (λ (r : List ℕ). 39 ∷ r) q), rw (← q) refl))
  | inr h ↦ absurd (not_both b [] rest h.1)
]
piece_ends (b ∷ c ∷ more) rest e = elim (chosen (is_quote b) (cond (is_quote c) (some_of (byte_at 39 more)) (some_of (end_at (c ∷ more)))) (some_of (byte_at b (c ∷ more))) (some_of (end_at rest)) e) [
  | inl h ↦ elim (chosen (is_quote c) (some_of (byte_at 39 more)) (some_of (end_at (c ∷ more))) (some_of (end_at rest)) h.1) [
    | inl k ↦ absurd (not_both 39 more rest k.1)
    | inr k ↦ (let q = same_end (c ∷ more) rest k.1 in (rw (quote_is b h.0) (ap (λ (r : List ℕ). 39 ∷ r) q), rw (← q) k.0))
  ]
  | inr h ↦ absurd (not_both b (c ∷ more) rest h.1)
]

piece_goes_on : (bytes : List ℕ) (d : ℕ) (rest : List ℕ) → piece_at bytes ≡ Some (Some d, rest) → bytes ≡ doubled d ++ rest
piece_goes_on [] d rest e = absurd cc
piece_goes_on (b ∷ []) d rest e = elim (chosen (is_quote b) (some_of (end_at [])) (some_of (byte_at b [])) (some_of (byte_at d rest)) e) [
  | inl h ↦ absurd (not_both d rest [] (sym h.1))
  | inr h ↦ (let q = same_byte b d [] rest h.1 in rw (← q.0, ← q.1, h.0) refl)
]
piece_goes_on (b ∷ c ∷ more) d rest e = elim (chosen (is_quote b) (cond (is_quote c) (some_of (byte_at 39 more)) (some_of (end_at (c ∷ more)))) (some_of (byte_at b (c ∷ more))) (some_of (byte_at d rest)) e) [
  | inl h ↦ elim (chosen (is_quote c) (some_of (byte_at 39 more)) (some_of (end_at (c ∷ more))) (some_of (byte_at d rest)) h.1) [
    | inl k ↦ (let q = same_byte 39 d more rest k.1 in rw (← q.0, ← q.1, quote_is b h.0, quote_is c k.0) refl)
    | inr k ↦ absurd (not_both d rest (c ∷ more) (sym k.1))
  ]
  | inr h ↦ (let q = same_byte b d (c ∷ more) rest h.1 in rw (← q.0, ← q.1, h.0) refl)
]

abbrev pub IsQuotedFront : List ℕ → List ℕ × List ℕ → Type 0
IsQuotedFront bytes x = (bytes ≡ flat_map doubled x.0 ++ (39 ∷ x.1)) × (begins is_quote x.1 ≡ false)

quoted_step : (bytes : List ℕ) (x : List ℕ × List ℕ) (p : Option ℕ) (rest : List ℕ) (others : Option (List ℕ × List ℕ)) → ((y : List ℕ × List ℕ) → others ≡ Some y → IsQuotedFront rest y)
    → piece_at bytes ≡ Some (p, rest) → or_end p rest others ≡ Some x → IsQuotedFront bytes x
quoted_step bytes x None rest others ih h e = subst (IsQuotedFront bytes) (some_is ([], rest) x e) (piece_ends bytes rest h)
quoted_step bytes x (Some d) rest others ih h e =
    let w = bind_some others (λ s. Some (d ∷ s.0, s.1)) x e in
    let t = ih w.0 w.1 in
    subst (IsQuotedFront bytes) (some_is (d ∷ w.0.0, w.0.1) x w.2)
    (piece_goes_on bytes d rest h ∙ ap (λ (r : List ℕ). doubled d ++ r) t.0 ∙ sym (append_assoc (doubled d) (flat_map doubled w.0.0) (39 ∷ w.0.1)) ∙ ap (λ (r : List ℕ). r ++ (39 ∷ w.0.1)) (sym (flat_map-cons doubled d w.0.0)), t.1)

pub quoted_takes : (n : ℕ) (bytes : List ℕ) (x : List ℕ × List ℕ) → quoted_from n bytes ≡ Some x → IsQuotedFront bytes x
unfolding quoted_from
quoted_takes zero bytes x e = absurd cc
quoted_takes (suc n) bytes x e =
    let u = bind_some (piece_at bytes) (λ y. or_end y.0 y.1 (quoted_from n y.1)) x e in
    quoted_step bytes x u.0.0 u.0.1 (quoted_from n u.0.1) (λ y k. quoted_takes n u.0.1 y k) u.1 u.2

piece_plain : (d : ℕ) (rest : List ℕ) → is_quote d ≡ false → piece_at (d ∷ rest) ≡ Some (Some d, rest)
piece_plain d [] h = rw h refl
piece_plain d (c ∷ rest) h = rw h refl

piece_doubled : (d : ℕ) (rest : List ℕ) → piece_at (doubled d ++ rest) ≡ Some (Some d, rest)
piece_doubled d rest = elim (cases_Bool (is_quote d)) [ inl h ↦ rw (quote_is d h) refl | inr h ↦ rw h (piece_plain d rest h) ]

piece_close : (rest : List ℕ) → begins is_quote rest ≡ false → piece_at (39 ∷ rest) ≡ Some (None, rest)
piece_close [] h = refl
piece_close (c ∷ rest) h = rw h refl

pub quoted_again : (n : ℕ) (s rest : List ℕ) → length s < n → begins is_quote rest ≡ false → quoted_from n (flat_map doubled s ++ (39 ∷ rest)) ≡ Some (s, rest)
unfolding quoted_from
quoted_again zero s rest lt ends = absurd (omega arith)
quoted_again (suc n) [] rest lt ends = rw (piece_close rest ends) refl
quoted_again (suc n) (d ∷ s) rest lt ends =
    let le : length s < n = omega arith in
    rw (flat_map-cons doubled d s, append_assoc (doubled d) (flat_map doubled s) (39 ∷ rest), piece_doubled d (flat_map doubled s ++ (39 ∷ rest)), quoted_again n s rest le ends) refl

doubled_long : (d : ℕ) → 1 ≤ length (doubled d)
doubled_long d = elim (cases_Bool (is_quote d)) [ inl h ↦ rw h (omega arith) | inr h ↦ rw h (omega arith) ]

pub text_long : (s : List ℕ) → length s ≤ length (flat_map doubled s)
text_long [] = omega arith
text_long (d ∷ s) = rw flat_map-cons (omega (arith, length-append (doubled d) (flat_map doubled s), doubled_long d, text_long s))
