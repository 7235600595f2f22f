use Rattle.std.proofs.Common.{◌≡◌, ℕ, true, false, ◌<◌, ◌≤◌, length, map, List, [], ◌∷◌, ap, sym, ◌∙◌, refl, ◌⊎◌, ⊎_elim, rules, tests, arith}
use Rattle.std.proofs.lemmas.Bool.{and_parts, or_from, false_from_ne_true, leb-true}
use Rattle.std.proofs.lemmas.List.{length-map}
use Rattle.std.proofs.lemmas.Slice.Eq.{bytes_eq-Decides}
use Rattle.std.proofs.lemmas.Iterator.{YieldsList-from_slice}
use Rattle.std.proofs.lemmas.Iterator.Search.{any_from_yields_List}
use Rattle.std.specs.Char.{to_ascii_lowercase}
use Rattle.std.specs.List.{list_all, list_any}
use Rattle.std.specs.Str.{str_eq_ignore_ascii_case}
use Rattle.std.specs.Prelude.{nat_le, ◌&&◌}
use Rattle.dtx_values.specs.Name.{reserved_words}
use Rattle.dtx_values.proofs.identifier.is_reserved.Goals as goal

-- texts that are the same in any case of letters are equally long
same_length : (a b : List ℕ) → str_eq_ignore_ascii_case a b ≡ true → length a ≡ length b
same_length a b h =
    sym (length-map a to_ascii_lowercase) ∙ ap length ((bytes_eq-Decides (map to_ascii_lowercase a) (map to_ascii_lowercase b)).0 h) ∙ length-map b to_ascii_lowercase

-- so a word of another length than reserved words have is none of these
none_of : (word : List ℕ) (words : List (List ℕ)) → length word < 2 ⊎ 2 ≤ length word × 7 < length word → list_all (λ w. nat_le 2 (length w) && nat_le (length w) 7) words ≡ true → list_any (λ w. str_eq_ignore_ascii_case w word) words ≡ false
none_of word [] out fit = refl
none_of word (w ∷ ws) out fit =
    let parts = and_parts (nat_le 2 (length w) && nat_le (length w) 7) (list_all (λ v. nat_le 2 (length v) && nat_le (length v) 7) ws) fit in
    let long = and_parts (nat_le 2 (length w)) (nat_le (length w) 7) parts.0 in
    let differs : str_eq_ignore_ascii_case w word ≡ false =
    false_from_ne_true _ (λ same. ⊎_elim (λ l. omega (arith, same_length w word same, leb-true 2 (length w) long.0)) (λ l. omega (arith, same_length w word same, leb-true (length w) 7 long.1, l.1)) out) in
    or_from _ _ differs (none_of word ws out parts.1)

pub returns : goal.returns
returns c = any_from_yields_List (λ reserved. str_eq_ignore_ascii_case reserved.now c.args.word.now) _ _ _ c.any.ensures.ran (YieldsList-from_slice _ c.iter.ensures.rest) (λ x b q k. search (rules, tests))

pub returns-then-word-lt2 : goal.returns-then-word-lt2
returns-then-word-lt2 c = sym (none_of c.args.word.now reserved_words c.then-word-lt2.either refl)
