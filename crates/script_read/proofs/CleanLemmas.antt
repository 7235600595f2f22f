-- How far a text is UTF-8, and what may stand in it.
use Rattle.std.proofs.Common.{◌≡◌, ℕ, suc, ◌+◌, ◌-◌, Option, Some, None, true, false, inl, inr, List, [], ◌∷◌, length, take, drop, refl, sym, ap, subst, rules, tests, arith}
use Rattle.std.specs.Prelude.{◌==◌, not, is_some}
use Rattle.std.specs.List.{list_all, prefix_len}
use Rattle.std.proofs.lemmas.List.{take_all, length-drop}
use Rattle.std.proofs.lemmas.Bool.{and_from, and_parts, cases_Bool, false_from_ne_true, true≢false}
use Rattle.std.proofs.lemmas.Bool.Decides.{nat_tests}
use Rattle.memchr.specs.Find.{IsFirstByte, is_byte}
use Rattle.token_grammar.specs.Bytes.{is_blank}
use Rattle.script_read.specs.declared.part.Part.{Part}
use Rattle.script_read.specs.declared.part.Part.TheVariants.{Plain, Quoted, Comment}
use Rattle.script_read.specs.Parts.{is_control, is_comment, part_behind, may_stand, all_may_stand, outside_comments, said}
use Rattle.std.specs.Str.{IsUtf8}
use Rattle.std.specs.Str.Lossy.{utf8_valid_len}
use Rattle.std.proofs.lemmas.Str.{utf8_valid_len-IsUtf8}

pub all_is_valid : (bytes : List ℕ) → IsUtf8 bytes → utf8_valid_len bytes ≡ length bytes
all_is_valid bytes h = utf8_valid_len-IsUtf8 bytes h

-- ---- Texts with no control byte, but for blanks in front.

-- a byte that is no control byte may stand in any part
may_stand_in : (part : Part) (b : ℕ) → not (is_control b) ≡ true → may_stand part b ≡ true
may_stand_in part b h = rw h refl

stands_all : (part : Part) (bs : List ℕ) → list_all (λ b. not (is_control b)) bs ≡ true → all_may_stand part bs ≡ true
stands_all part [] h = refl
stands_all part (b ∷ bs) h =
    let parts = and_parts (not (is_control b)) (list_all (λ c. not (is_control c)) bs) h in
    and_from _ _ (may_stand_in part b parts.0) (stands_all (part_behind part b bs) bs parts.1)

-- a blank may stand outside quotes, and no part begins or ends with it there
blank_stands : (b : ℕ) → is_blank b ≡ true → may_stand Plain b ≡ true
blank_stands b h = grind (arith, nat_tests)

behind_blank : (b : ℕ) (bs : List ℕ) → is_blank b ≡ true → part_behind Plain b bs ≡ Plain
behind_blank b bs h = grind (arith, nat_tests)

pass_blank : (b : ℕ) (bs : List ℕ) → is_blank b ≡ true → drop (prefix_len is_blank (b ∷ bs)) (b ∷ bs) ≡ drop (prefix_len is_blank bs) bs
pass_blank b bs h =
    let next : 1 + prefix_len is_blank bs ≡ suc (prefix_len is_blank bs) = omega arith in
    rw h (ap (λ (n : ℕ). drop n (b ∷ bs)) next)

stay : (b : ℕ) (bs : List ℕ) → is_blank b ≡ false → drop (prefix_len is_blank (b ∷ bs)) (b ∷ bs) ≡ b ∷ bs
stay b bs h = rw h refl

stands_behind_blanks : (bs : List ℕ) → list_all (λ b. not (is_control b)) (drop (prefix_len is_blank bs) bs) ≡ true → all_may_stand Plain bs ≡ true
stands_behind_blanks [] h = refl
stands_behind_blanks (b ∷ bs) h = elim (cases_Bool (is_blank b)) [
  | inl blank ↦
      let rest = subst (λ (l : List ℕ). list_all (λ c. not (is_control c)) l ≡ true) (pass_blank b bs blank) h in
      and_from _ _ (blank_stands b blank) (subst (λ (p : Part). all_may_stand p bs ≡ true) (sym (behind_blank b bs blank)) (stands_behind_blanks bs rest))
  | inr other ↦ stands_all Plain (b ∷ bs) (subst (λ (l : List ℕ). list_all (λ c. not (is_control c)) l ≡ true) (stay b bs other) h)
]

-- the same, of all bytes from the place on at which the blanks end
pub stands_from : (bs : List ℕ) (n : ℕ) → n ≡ prefix_len is_blank bs → list_all (λ b. not (is_control b)) (take (length bs - n) (drop n bs)) ≡ true → all_may_stand Plain bs ≡ true
stands_from bs n blanks h =
    let whole = take_all (length bs - n) (drop n bs) (omega (arith, length-drop n bs)) in
    stands_behind_blanks bs (subst (λ (k : ℕ). list_all (λ b. not (is_control b)) (drop k bs) ≡ true) blanks (subst (λ (l : List ℕ). list_all (λ b. not (is_control b)) l ≡ true) whole h))

-- ---- Texts with no dash.

no_comment : (part : Part) (b : ℕ) (bs : List ℕ) → is_comment part ≡ false → (b == 45) ≡ false → is_comment (part_behind part b bs) ≡ false
no_comment Plain b bs outside h = grind (rules, tests)
no_comment Quoted b bs outside h = grind (rules, tests)
no_comment Comment b bs outside h = absurd (true≢false outside)

-- they have no comments, and say all that they are
without_dashes : (part : Part) (bs : List ℕ) → is_comment part ≡ false → IsFirstByte (is_byte 45) bs None → outside_comments part bs ≡ bs
without_dashes part [] outside h = refl
without_dashes part (b ∷ bs) outside h =
    let here : (b == 45) ≡ false = false_from_ne_true (b == 45) (λ dash. h 0 (omega arith) (omega arith) dash) in
    let next = no_comment part b bs outside here in
    rw next (ap (λ (l : List ℕ). b ∷ l) (without_dashes (part_behind part b bs) bs next (λ k low high dash. h (suc k) (omega arith) (omega arith) dash)))

pub says_all : (piece : List ℕ) (stop : Option ℕ) → IsFirstByte (is_byte 45) piece stop → is_some stop ≡ false → said piece ≡ piece
says_all piece None h none = without_dashes Plain piece refl h
says_all piece (Some k) h none = absurd (true≢false none)
