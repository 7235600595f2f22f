-- A text between quotes, read one byte after the other.
use Rattle.std.proofs.Common.{◌≡◌, ℕ, zero, suc, ◌-◌, ◌+◌, ◌≤◌, ◌<◌, List, [], ◌∷◌, ◌++◌, length, Option, Some, None, refl, sym, ap, ◌∙◌, append_assoc, arith}
use Rattle.std.proofs.lemmas.List.{append-nil}
use Rattle.token_grammar.specs.Steps.{◌>>=◌}
use Rattle.token_grammar.specs.Lexing.{piece_at, quoted_from, quoted_at}

-- the text so far, and what is still read
abbrev pub with_text : List ℕ → Option (List ℕ × List ℕ) → Option (List ℕ × List ℕ)
with_text front read = read >>= λ x. Some (front ++ x.0, x.1)

same : (read : Option (List ℕ × List ℕ)) → with_text [] read ≡ read
same (Some x) = refl
same None = refl

regroup : (front : List ℕ) (b : ℕ) (read : Option (List ℕ × List ℕ)) → with_text front (read >>= λ x. Some (b ∷ x.0, x.1)) ≡ with_text (front ++ b ∷ []) read
regroup front b (Some x) = ap (λ (s : List ℕ). Some (s, x.1)) (simp append_assoc)
regroup front b None = refl

pub at_first : (front bytes : List ℕ) → front ≡ [] → with_text front (quoted_from (length bytes - 0) bytes) ≡ quoted_at bytes
unfolding quoted_at
at_first front bytes e = let k : length bytes - 0 ≡ length bytes = omega arith in rw (e, k) (same (quoted_from (length bytes) bytes))

pub goes_on : (front : List ℕ) (count i : ℕ) (bytes : List ℕ) (b : ℕ) (after : List ℕ) (total : Option (List ℕ × List ℕ)) → i < count → piece_at bytes ≡ Some (Some b, after)
    → with_text front (quoted_from (count - i) bytes) ≡ total → with_text (front ++ b ∷ []) (quoted_from (count - (i + 1)) after) ≡ total
unfolding quoted_from
goes_on front count i bytes b after total lt h so_far =
    let k : count - i ≡ suc (count - (i + 1)) = omega arith in
    let step : with_text front (quoted_from (count - i) bytes) ≡ with_text (front ++ b ∷ []) (quoted_from (count - (i + 1)) after) = rw (k, h) (regroup front b (quoted_from (count - (i + 1)) after)) in
    sym step ∙ so_far

pub closes : (front : List ℕ) (count i : ℕ) (bytes after : List ℕ) (total : Option (List ℕ × List ℕ)) → i < count → piece_at bytes ≡ Some (None, after)
    → with_text front (quoted_from (count - i) bytes) ≡ total → total ≡ Some (front, after)
unfolding quoted_from
closes front count i bytes after total lt h so_far =
    let k : count - i ≡ suc (count - (i + 1)) = omega arith in
    let step : with_text front (quoted_from (count - i) bytes) ≡ Some (front, after) = rw (k, h) (ap (λ (s : List ℕ). Some (s, after)) (append-nil front)) in
    sym so_far ∙ step

pub breaks : (front : List ℕ) (n : ℕ) (bytes : List ℕ) (total : Option (List ℕ × List ℕ)) → piece_at bytes ≡ None → with_text front (quoted_from n bytes) ≡ total → total ≡ None
unfolding quoted_from
breaks front zero bytes total h so_far = sym so_far
breaks front (suc n) bytes total h so_far = let step : with_text front (quoted_from (suc n) bytes) ≡ None = rw h refl in sym so_far ∙ step

pub runs_out : (front : List ℕ) (count i : ℕ) (bytes : List ℕ) (total : Option (List ℕ × List ℕ)) → count ≤ i → with_text front (quoted_from (count - i) bytes) ≡ total → total ≡ None
unfolding quoted_from
runs_out front count i bytes total le so_far =
    let k : count - i ≡ 0 = omega arith in
    let step : with_text front (quoted_from (count - i) bytes) ≡ None = rw k refl in
    sym so_far ∙ step
