-- The tokens of a text are read exactly.
use Rattle.std.proofs.Common.{◌≡◌, ℕ, zero, suc, ◌<◌, ◌≤◌, true, eqb, List, [], ◌∷◌, ◌++◌, length, Some, refl, sym, ap, subst, ◌∙◌, append_assoc, arith}
use Rattle.std.specs.List.{list_all, prefix_len}
use Rattle.std.proofs.lemmas.List.{append-nil, length-append, take-append-drop, nil_from_length}
use Rattle.std.proofs.lemmas.Bool.{eqb-true}
use Rattle.token_grammar.specs.declared.token.Token.{Token}
use Rattle.token_grammar.specs.Steps.{◌>>=◌, begins, many_at, whole_of}
use Rattle.token_grammar.specs.Bytes.{is_blank}
use Rattle.std.specs.Prelude.{IfOk, Result, Ok, Err}
use Rattle.token_grammar.specs.declared.read_err.ReadErr.{ReadErr}
use Rattle.token_grammar.specs.declared.read_err.ReadErr.TheVariants as errors
use Rattle.token_grammar.specs.Gives.{Gives}
use Rattle.token_grammar.specs.Tokens.{Tokens}
use Rattle.token_grammar.specs.Lexing.{run, skip, token_at, any_byte, lexeme_at, lexemes_at, tokens_in}
use Rattle.token_grammar.proofs.Options.{bind_some, test_some, some_is}
use Rattle.token_grammar.proofs.Runs.{run_passes, behind-of, list_all-append}
use Rattle.token_grammar.proofs.TokenLaws.{token_takes, token_again, token_begins}

Tokens-blanks : (ts : List Token) (blanks bytes : List ℕ) → list_all is_blank blanks ≡ true → Tokens ts bytes → Tokens ts (blanks ++ bytes)
Tokens-blanks [] blanks bytes h t = list_all-append is_blank blanks bytes h t
Tokens-blanks (t ∷ ts) blanks bytes h s =
    (blanks ++ s.0, s.1, s.2, list_all-append is_blank blanks s.0 h s.3, s.4, s.5, s.6, ap (λ (r : List ℕ). blanks ++ r) s.7 ∙ sym (append_assoc blanks s.0 (s.1 ++ s.2)))

skipped : (ts : List Token) (bytes : List ℕ) → Tokens ts (skip bytes) → Tokens ts bytes
skipped ts bytes h = subst (Tokens ts) (take-append-drop (prefix_len is_blank bytes) bytes) (Tokens-blanks ts (run is_blank bytes) (skip bytes) (run_passes is_blank bytes) h)

lexemes_take : (n : ℕ) (bytes : List ℕ) (ts : List Token) → many_at n any_byte lexeme_at bytes ≡ Some (ts, []) → Tokens ts bytes
lexemes_take zero bytes ts e =
    let q = some_is ([], bytes) (ts, []) e in
    subst (λ (y : List Token × List ℕ). Tokens ts bytes) q (rw (← ap (λ (y : List Token × List ℕ). y.0) q, ap (λ (y : List Token × List ℕ). y.1) q) refl)
lexemes_take (suc n) [] ts e = rw (← ap (λ (y : List Token × List ℕ). y.0) (some_is ([], []) (ts, []) e)) refl
lexemes_take (suc n) (b ∷ bs) ts e =
    let u = bind_some (lexeme_at (b ∷ bs)) (λ first. many_at n any_byte lexeme_at first.1 >>= λ others. Some (first.0 ∷ others.0, others.1)) (ts, []) e in
    let v = bind_some (token_at (b ∷ bs)) (λ t. Some (t.0, skip t.1)) u.0 u.1 in
    let w = bind_some (many_at n any_byte lexeme_at u.0.1) (λ others. Some (u.0.0 ∷ others.0, others.1)) (ts, []) u.2 in
    let one = token_takes (b ∷ bs) v.0 v.1 in
    let lexeme = some_is (v.0.0, skip v.0.1) u.0 v.2 in
    let all = some_is (u.0.0 ∷ w.0.0, w.0.1) (ts, []) w.2 in
    let none : w.0.1 ≡ [] = ap (λ (y : List Token × List ℕ). y.1) all in
    let later : many_at n any_byte lexeme_at u.0.1 ≡ Some (w.0.0, []) = w.1 ∙ ap (λ (r : List ℕ). Some (w.0.0, r)) none in
    let others : Tokens w.0.0 u.0.1 = lexemes_take n u.0.1 w.0.0 later in
    let others' : Tokens w.0.0 (skip v.0.1) = subst (Tokens w.0.0) (sym (ap (λ (y : Token × List ℕ). y.1) lexeme)) others in
    let first : v.0.0 ≡ u.0.0 = ap (λ (y : Token × List ℕ). y.0) lexeme in
    let tokens : Tokens (v.0.0 ∷ w.0.0) (b ∷ bs) = ([], one.text, v.0.1, refl, one.spelled, one.ends, skipped w.0.0 v.0.1 others', one.whole) in
    subst (λ (us : List Token). Tokens us (b ∷ bs)) (ap (λ (t : Token). t ∷ w.0.0) first ∙ ap (λ (y : List Token × List ℕ). y.0) all) tokens

skip_all : (bytes : List ℕ) → list_all is_blank bytes ≡ true → skip bytes ≡ []
skip_all bytes h = ap skip (sym (append-nil bytes)) ∙ behind-of is_blank bytes [] h refl

lexemes_again : (n : ℕ) (ts : List Token) (bytes : List ℕ) → length ts ≤ n → Tokens ts bytes → many_at n any_byte lexeme_at (skip bytes) ≡ Some (ts, [])
lexemes_again zero [] bytes le s = rw (skip_all bytes s) refl
lexemes_again (suc n) [] bytes le s = rw (skip_all bytes s) refl
lexemes_again zero (t ∷ ts) bytes le s = absurd (omega arith)
lexemes_again (suc n) (t ∷ ts) bytes le s =
    let begin = token_begins t s.1 s.2 s.4 in
    let front : skip bytes ≡ s.1 ++ s.2 = ap skip s.7 ∙ behind-of is_blank s.0 (s.1 ++ s.2) s.3 begin.0 in
    let le' : length ts ≤ n = omega arith in
    rw (front, begin.1, token_again t s.1 s.2 s.4 s.5, lexemes_again n ts s.2 le' s.6) refl

tokens_long : (ts : List Token) (bytes : List ℕ) → Tokens ts bytes → length ts ≤ length bytes
tokens_long [] bytes s = omega arith
tokens_long (t ∷ ts) bytes s =
    let some : 0 < length (s.1 ++ []) = has_byte (s.1 ++ []) (token_begins t s.1 [] s.4).1 in
    rw s.7 (omega (arith, length-append s.0 (s.1 ++ s.2), length-append s.1 s.2, length-append s.1 [], some, tokens_long ts s.2 s.6))
  where
    has_byte : (us : List ℕ) → begins any_byte us ≡ true → 0 < length us
    has_byte [] h = absurd cc
    has_byte (u ∷ us) h = omega arith

lex_takes : (bytes : List ℕ) (ts : List Token) → lexemes_at bytes ≡ Some (ts, []) → Tokens ts bytes
lex_takes bytes ts e = skipped ts bytes (lexemes_take (length bytes) (skip bytes) ts e)

lex_again : (ts : List Token) (bytes : List ℕ) → Tokens ts bytes → lexemes_at bytes ≡ Some (ts, [])
lex_again ts bytes s = lexemes_again (length bytes) ts bytes (tokens_long ts bytes s) s

pub tokens_take : (bytes : List ℕ) (ts : List Token) → tokens_in bytes ≡ Some ts → Tokens ts bytes
unfolding tokens_in
tokens_take bytes ts e =
    let u = bind_some (lexemes_at bytes) whole_of ts e in
    let t = test_some (eqb (length u.0.1) 0) u.0.0 ts u.2 in
    let none : u.0.1 ≡ [] = nil_from_length u.0.1 (eqb-true _ _ t.0) in
    subst (λ (us : List Token). Tokens us bytes) t.1 (lex_takes bytes u.0.0 (u.1 ∙ ap (λ (r : List ℕ). Some (u.0.0, r)) none))

pub tokens_again : (ts : List Token) (bytes : List ℕ) → Tokens ts bytes → tokens_in bytes ≡ Some ts
unfolding tokens_in
tokens_again ts bytes s = rw (lex_again ts bytes s) refl

-- no text is two lists of tokens
pub one_list : (text : List ℕ) (a b : List Token) → Tokens a text → Tokens b text → a ≡ b
one_list text a b p q = some_is a b (sym (tokens_again a text p) ∙ tokens_again b text q)

pub tokens_found : (text : List ℕ) (r : Result (List Token) ReadErr) → Gives (λ ts. ts) r (tokens_in text) → IfOk r (λ ts. Tokens ts text)
tokens_found text (Ok ts) h = tokens_take text ts h
tokens_found text (Err e) h = tt

pub tokens_bad : (text : List ℕ) (r : Result (List Token) ReadErr) → Gives (λ ts. ts) r (tokens_in text) → r ≡ Err errors.Bad → (ts : List Token) → Tokens ts text → ⊥
tokens_bad text (Ok us) h e ts s = absurd cc
tokens_bad text (Err errors.NoMemory) h e ts s = absurd cc
tokens_bad text (Err errors.Bad) h e ts s = let k = tokens_again ts text s in absurd cc
