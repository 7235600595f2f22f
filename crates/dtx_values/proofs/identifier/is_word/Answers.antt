use Rattle.std.proofs.Common.{◌≡◌, ℕ, ◌-◌, ◌≤◌, Bool, true, List, [], ◌∷◌, length, get_or, take, drop, ap, sym, ◌∙◌, rules, tests, arith}
use Rattle.std.proofs.lemmas.List.{take_all}
use Rattle.std.proofs.lemmas.Iterator.{YieldsList-from_slice}
use Rattle.std.proofs.lemmas.Iterator.Search.{all_from_yields_List}
use Rattle.std.specs.Char.{is_ascii_alphabetic}
use Rattle.std.specs.List.{list_all}
use Rattle.dtx_values.specs.Name.{is_name_byte, is_word}
use Rattle.dtx_values.proofs.identifier.is_word.Goals as goal

-- behind a letter, the bytes of names make a word
behind_letter : (bs : List ℕ) (r : Bool) → 1 ≤ length bs → is_ascii_alphabetic (get_or bs 0 0) ≡ true → r ≡ list_all is_name_byte (take (length bs - 1) (drop 1 bs)) → r ≡ is_word bs
behind_letter [] r some letter rest = absurd (omega arith)
behind_letter (b ∷ bs) r some letter rest = rw letter (rest ∙ ap (list_all is_name_byte) (take_all _ bs (omega arith)))

pub returns-then-is_ascii_alphabetic : goal.returns-then-is_ascii_alphabetic
returns-then-is_ascii_alphabetic c =
    behind_letter c.args.bytes.now c.all.result c.in-len1-up.len_at_least (sym c.if-is_ascii_alphabetic.ensures.value)
    (all_from_yields_List is_name_byte _ _ c.all.result c.all.ensures.ran (YieldsList-from_slice _ c.iter.ensures.rest) (λ x b q k. search (rules, tests)))
