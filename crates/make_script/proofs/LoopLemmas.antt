-- The lines of one transaction more, and the parts of a script.
use Rattle.std.proofs.Common.{◌≡◌, ◌∙◌, ℕ, suc, ◌+◌, List, [], ◌∷◌, ◌++◌, refl, sym, ap, subst, arith, append_assoc}
use Rattle.std.specs.List.{flat_map}
use Rattle.std.proofs.lemmas.List.{append-nil}
use Rattle.std.proofs.lemmas.List.Concat.{flat_map-append}
use Rattle.make_script.specs.declared.transaction.Transaction.{Transaction}
use Rattle.make_script.specs.Draws.{drawn, drawn_after, last_draw, next_draw, transactions}
use Rattle.make_script.specs.Script.{first_lines, last_lines, line_text, lines, lines_of, script_of, text_of, transaction_count}
use Rattle.make_script.proofs.Appends.{two}

texts : (number count : ℕ) → text_of (flat_map lines_of (transactions number (suc count)))
    ≡ text_of (flat_map lines_of (transactions number count)) ++ text_of (lines_of (drawn_after (count + 1) (last_draw number count)))
texts number count =
    let t = drawn_after (count + 1) (last_draw number count) in
    ap text_of (flat_map-append lines_of (transactions number count) (t ∷ []))
    ∙ (flat_map-append line_text (flat_map lines_of (transactions number count)) (lines_of t ++ [])
    ∙ ap (λ ls. text_of (flat_map lines_of (transactions number count)) ++ text_of ls) (append-nil (lines_of t)))

-- one transaction more was added
pub one_more : (number count : ℕ) (old out new : List ℕ) (draw first second third : ℕ) (t : Transaction) → out ≡ old ++ text_of (flat_map lines_of (transactions number count)) → draw ≡ last_draw number count
    → first ≡ next_draw draw → second ≡ next_draw first → third ≡ next_draw second → t ≡ drawn (count + 1) first second third → new ≡ out ++ text_of (lines_of t)
    → (new ≡ old ++ text_of (flat_map lines_of (transactions number (suc count)))) × (third ≡ last_draw number (suc count))
one_more number count old out new draw first second third t was is one two_is three_is drawn_is added =
    let p = one ∙ ap next_draw is in
    let q = two_is ∙ ap next_draw p in
    let r = three_is ∙ ap next_draw q in
    let same : t ≡ drawn_after (count + 1) (last_draw number count) =
    drawn_is ∙ (ap (λ x. drawn (count + 1) x second third) p ∙ (ap (λ x. drawn (count + 1) (next_draw (last_draw number count)) x third) q
    ∙ ap (λ x. drawn (count + 1) (next_draw (last_draw number count)) (next_draw (next_draw (last_draw number count))) x) r)) in
    (two old out new _ _ was (added ∙ ap (λ u. out ++ text_of (lines_of u)) same) ∙ ap (λ x. old ++ x) (sym (texts number count)), r)

-- a script is its first lines, its transactions and its last lines
pub script_parts : (number : ℕ) → script_of number ≡ text_of first_lines ++ (text_of (flat_map lines_of (transactions number transaction_count)) ++ text_of last_lines)
unfolding lines
script_parts number =
    flat_map-append line_text first_lines (flat_map lines_of (transactions number transaction_count) ++ last_lines)
    ∙ ap (λ x. text_of first_lines ++ x) (flat_map-append line_text (flat_map lines_of (transactions number transaction_count)) last_lines)

-- the same, counted on by 1
pub one_on : (number count : ℕ) (old new : List ℕ) (third : ℕ) → (new ≡ old ++ text_of (flat_map lines_of (transactions number (suc count)))) × (third ≡ last_draw number (suc count))
    → (new ≡ old ++ text_of (flat_map lines_of (transactions number (count + 1)))) × (third ≡ last_draw number (count + 1))
one_on number count old new third more =
    let next : suc count ≡ count + 1 = omega arith in
    subst (λ (k : ℕ). (new ≡ old ++ text_of (flat_map lines_of (transactions number k))) × (third ≡ last_draw number k)) next more
