-- The grammar that an example reads: TAKE (COUNT ( * ) | name {, name}) FROM name [LIMIT num].
use Rattle.std.specs.Prelude.{ℕ, Bool, List, Option, Some, None, codes, ◌⊎◌}
use Rattle.std.proofs.Common.{inl, inr}
use Rattle.token_grammar.specs.declared.mark.Mark.TheVariants as marks
use Rattle.token_grammar.specs.declared.token.Token.{Token}
use Rattle.token_grammar.specs.Grammar.{Grammar, is_word, is_mark, begins_two, word, mark, name, number_to, ◌·◌, ◌▹◌, optional, separated, choice, mapped}

-- COUNT ( * )
abbrev pub count : Grammar (Unit {0})
count = word (codes "COUNT") ▹ mark marks.Open ▹ mark marks.Star ▹ mark marks.Close

-- name {, name}
abbrev pub names : Grammar (List (List ℕ))
names = separated (is_mark marks.Comma) (mark marks.Comma) name

-- COUNT and `(`, while COUNT alone may be a name
abbrev pub counts : List Token → Bool
counts = begins_two (is_word (codes "COUNT")) (is_mark marks.Open)

-- names, or none for a count
abbrev pub names_of : Unit {0} ⊎ List (List ℕ) → Option (List (List ℕ))
names_of (inl x) = None
names_of (inr found) = Some found

-- and back
abbrev pub either_of : Option (List (List ℕ)) → Unit {0} ⊎ List (List ℕ)
either_of None = inl tt
either_of (Some found) = inr found

-- COUNT ( * ) | name {, name}
abbrev pub what : Grammar (Option (List (List ℕ)))
what = mapped names_of either_of (choice counts count names)

-- [LIMIT num], up to 2^32 - 1
abbrev pub limit : Grammar (Option ℕ)
limit = optional (is_word (codes "LIMIT")) (word (codes "LIMIT") ▹ number_to 4294967295)

-- TAKE what FROM name [LIMIT num]
abbrev pub query : Grammar (Option (List (List ℕ)) × (List ℕ × Option ℕ))
query = word (codes "TAKE") ▹ (what · (word (codes "FROM") ▹ (name · limit)))
