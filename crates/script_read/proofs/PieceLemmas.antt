-- Commands, cut off from the front.
use Rattle.std.proofs.Common.{◌≡◌, ℕ, zero, suc, inl, inr, ◌+◌, ◌-◌, ◌<◌, ◌≤◌, true, false, length, get_or, take, drop, List, [], ◌∷◌, ◌++◌, Option, Some, None, refl, sym, ap, subst, ◌∙◌, append_assoc, append-nil, add-zero, rules, tests, arith}
use Rattle.std.specs.Prelude.{◌&&◌}
use Rattle.std.proofs.lemmas.Bool.{cases_Bool}
use Rattle.std.proofs.lemmas.List.{take_more, drop_more, get_or-drop, take_all, drop_all, length-drop}
use Rattle.memchr.specs.Find.{IsFirstByte}
use Rattle.script_read.specs.declared.part.Part.{Part}
use Rattle.script_read.specs.declared.part.Part.TheVariants.{Plain, Quoted, Comment}
use Rattle.script_read.specs.Parts.{part_behind, may_end, is_plain, is_semicolon, with_byte, pieces_from, pieces_of}

-- these bytes in front of the first command, or of the rest where no command ends
abbrev pub with_front : List ℕ → List (List ℕ) × List ℕ → List (List ℕ) × List ℕ
with_front front ([], rest) = ([], front ++ rest)
with_front front (piece ∷ pieces, rest) = ((front ++ piece) ∷ pieces, rest)

pub with_front-with_byte : (front : List ℕ) (b : ℕ) (cut : List (List ℕ) × List ℕ) → with_front front (with_byte b cut) ≡ with_front (front ++ b ∷ []) cut
with_front-with_byte front b ([], rest) = ap (λ (r : List ℕ). ([], r)) (simp append_assoc)
with_front-with_byte front b (piece ∷ pieces, rest) = ap (λ (p : List ℕ). (p ∷ pieces, rest)) (simp append_assoc)

-- ---- Cutting off the first command, byte by byte.

-- a byte that ends no command is the next of the first one
pub cut_on : (front : List ℕ) (part : Part) (b : ℕ) (bs : List ℕ) → (is_plain part && is_semicolon b) ≡ false
    → with_front (front ++ b ∷ []) (pieces_from (part_behind part b bs) bs) ≡ with_front front (pieces_from part (b ∷ bs))
cut_on front part b bs h = rw h (sym (with_front-with_byte front b (pieces_from (part_behind part b bs) bs)))

-- a `;` ends it
pub cut_off : (front : List ℕ) (part : Part) (b : ℕ) (bs : List ℕ) → (is_plain part && is_semicolon b) ≡ true
    → with_front front (pieces_from part (b ∷ bs)) ≡ (front ∷ (pieces_from Plain bs).0, (pieces_from Plain bs).1)
cut_off front part b bs h = rw (h, append-nil front) refl

-- the same where the first command goes on from here
pub step_on : (bytes : List ℕ) (i d : ℕ) (part : Part) → i < length bytes → (is_plain part && is_semicolon (get_or bytes i d)) ≡ false
    → with_front (take (i + 1) bytes) (pieces_from (part_behind part (get_or bytes i d) (drop (i + 1) bytes)) (drop (i + 1) bytes)) ≡ with_front (take i bytes) (pieces_from part (drop i bytes))
step_on bytes i d part h e = rw (take_more bytes i d h, drop_more bytes i d h) (cut_on (take i bytes) part (get_or bytes i d) (drop (i + 1) bytes) e)

pub step_off : (bytes : List ℕ) (i d : ℕ) (part : Part) → i < length bytes → (is_plain part && is_semicolon (get_or bytes i d)) ≡ true
    → with_front (take i bytes) (pieces_from part (drop i bytes)) ≡ (take i bytes ∷ (pieces_from Plain (drop (i + 1) bytes)).0, (pieces_from Plain (drop (i + 1) bytes)).1)
step_off bytes i d part h e = rw (drop_more bytes i d h) (cut_off (take i bytes) part (get_or bytes i d) (drop (i + 1) bytes) e)

-- ---- Bytes at which nothing may end.

-- the part goes on
pub goes_on : (part : Part) (b : ℕ) (bs : List ℕ) → may_end part b ≡ false → part_behind part b bs ≡ part
goes_on Plain b bs h = grind (rules, tests)
goes_on Quoted b bs h = grind (rules, tests)
goes_on Comment b bs h = grind (rules, tests)

-- and so does the command
pub no_end : (part : Part) (b : ℕ) → may_end part b ≡ false → (is_plain part && is_semicolon b) ≡ false
no_end Plain b h = grind (rules, tests)
no_end Quoted b h = refl
no_end Comment b h = refl

-- the first command goes on over bytes at which nothing may end
pub walk : (bytes : List ℕ) (part : Part) (i k : ℕ) → i + k ≤ length bytes → ((j : ℕ) → j < k → may_end part (get_or bytes (i + j) 0) ≡ false)
    → with_front (take (i + k) bytes) (pieces_from part (drop (i + k) bytes)) ≡ with_front (take i bytes) (pieces_from part (drop i bytes))
walk bytes part i zero h none = rw (add-zero i) refl
walk bytes part i (suc k) h none =
    let b = get_or bytes (i + k) 0 in
    let next : i + suc k ≡ i + k + 1 = omega arith in
    let nothing : may_end part b ≡ false = none k (omega arith) in
    let step = step_on bytes (i + k) 0 part (omega arith) (no_end part b nothing) in
    let stays = subst (λ (p : Part). with_front (take (i + k + 1) bytes) (pieces_from p (drop (i + k + 1) bytes)) ≡ with_front (take (i + k) bytes) (pieces_from part (drop (i + k) bytes))) (goes_on part b (drop (i + k + 1) bytes) nothing) step in
    rw next (stays ∙ walk bytes part i k (omega arith) (λ j l. none j (omega arith)))

-- ---- The place at which a search from here stops.

-- the search goes over all bytes from here on
pub all_behind : (bytes : List ℕ) (part : Part) (i : ℕ) (stop : Option ℕ) → IsFirstByte (may_end part) (take (length bytes - i) (drop i bytes)) stop → IsFirstByte (may_end part) (drop i bytes) stop
all_behind bytes part i stop h =
    subst (λ (behind : List ℕ). IsFirstByte (may_end part) behind stop) (take_all (length bytes - i) (drop i bytes) (omega (arith, length-drop i bytes))) h

-- nothing may end before it
before_stop : (bytes : List ℕ) (part : Part) (i k j : ℕ) → IsFirstByte (may_end part) (drop i bytes) (Some k) → j < k → may_end part (get_or bytes (i + j) 0) ≡ false
before_stop bytes part i k j h l = elim (cases_Bool (may_end part (get_or bytes (i + j) 0))) [
  | inl ends ↦ absurd (h.0.before j (omega arith) l (rw (get_or-drop i bytes j 0) ends))
  | inr goes ↦ goes
]

pub stop_within : (bytes : List ℕ) (part : Part) (i k : ℕ) → IsFirstByte (may_end part) (drop i bytes) (Some k) → i ≤ length bytes → i + k < length bytes
stop_within bytes part i k h l = omega (arith, h.0.high, length-drop i bytes)

to_stop : (bytes : List ℕ) (part : Part) (i k : ℕ) → IsFirstByte (may_end part) (drop i bytes) (Some k) → i ≤ length bytes
    → with_front (take (i + k) bytes) (pieces_from part (drop (i + k) bytes)) ≡ with_front (take i bytes) (pieces_from part (drop i bytes))
to_stop bytes part i k h l = walk bytes part i k (omega (arith, stop_within bytes part i k h l)) (λ j below. before_stop bytes part i k j h below)

-- where no command ends there, the first one goes on behind it
pub stop_on : (bytes : List ℕ) (part : Part) (i k : ℕ) → IsFirstByte (may_end part) (drop i bytes) (Some k) → i ≤ length bytes
    → (is_plain part && is_semicolon (get_or bytes (i + k) 0)) ≡ false
    → with_front (take i bytes) (pieces_from part (drop i bytes)) ≡ pieces_of bytes
    → with_front (take (i + k + 1) bytes) (pieces_from (part_behind part (get_or bytes (i + k) 0) (drop (i + k + 1) bytes)) (drop (i + k + 1) bytes)) ≡ pieces_of bytes
stop_on bytes part i k h l e so_far = step_on bytes (i + k) 0 part (stop_within bytes part i k h l) e ∙ to_stop bytes part i k h l ∙ so_far

-- a `;` there ends it
pub stop_off : (bytes : List ℕ) (part : Part) (i k : ℕ) → IsFirstByte (may_end part) (drop i bytes) (Some k) → i ≤ length bytes
    → (is_plain part && is_semicolon (get_or bytes (i + k) 0)) ≡ true
    → with_front (take i bytes) (pieces_from part (drop i bytes)) ≡ pieces_of bytes
    → pieces_of bytes ≡ (take (i + k) bytes ∷ (pieces_from Plain (drop (i + k + 1) bytes)).0, (pieces_from Plain (drop (i + k + 1) bytes)).1)
stop_off bytes part i k h l e so_far = sym so_far ∙ sym (to_stop bytes part i k h l) ∙ step_off bytes (i + k) 0 part (stop_within bytes part i k h l) e

never : (bytes : List ℕ) (part : Part) (i j : ℕ) → IsFirstByte (may_end part) (drop i bytes) None → i + j < length bytes → may_end part (get_or bytes (i + j) 0) ≡ false
never bytes part i j h l = elim (cases_Bool (may_end part (get_or bytes (i + j) 0))) [
  | inl ends ↦ absurd (h j (omega arith) (omega (arith, length-drop i bytes)) (rw (get_or-drop i bytes j 0) ends))
  | inr goes ↦ goes
]

-- where it finds nothing, no command ends
pub no_stop : (bytes : List ℕ) (part : Part) (i : ℕ) → IsFirstByte (may_end part) (drop i bytes) None → i ≤ length bytes
    → with_front (take i bytes) (pieces_from part (drop i bytes)) ≡ pieces_of bytes → pieces_of bytes ≡ ([], bytes)
no_stop bytes part i h l so_far =
    let n = length bytes in
    let end : i + (n - i) ≡ n = omega arith in
    let over = walk bytes part i (n - i) (omega arith) (λ j below. never bytes part i j h (omega arith)) in
    let whole : with_front (take (i + (n - i)) bytes) (pieces_from part (drop (i + (n - i)) bytes)) ≡ ([], bytes) =
    rw (end, take_all n bytes (omega arith), drop_all n bytes (omega arith)) (ap (λ (r : List ℕ). ([], r)) (append-nil bytes)) in
    sym so_far ∙ sym over ∙ whole
