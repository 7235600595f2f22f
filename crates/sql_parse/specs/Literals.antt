-- Literals, tables, local or remote, and sums (SQL Language Reference, "Literals", "Database Object Names and Qualifiers",
-- "Expressions").
use Rattle.std.specs.Prelude.{ℕ, pos, neg_ℤ, Bool, true, false, ◌&&◌, List, [], ◌∷◌, Option, Some, None, nat_le, codes, if◌then◌else◌}
use Rattle.std.specs.List.{list_all}
use Rattle.std.specs.Str.{bytes_eq}
use Rattle.dtx_values.specs.Str.{is_text}
use Rattle.dtx_values.specs.declared.value.Value.{Value}
use Rattle.dtx_values.specs.declared.value.Value.TheVariants as values
use Rattle.token_grammar.specs.declared.mark.Mark.TheVariants as marks
use Rattle.token_grammar.specs.declared.token.Token.{Token}
use Rattle.token_grammar.specs.declared.token.Token.TheVariants as token
use Rattle.token_grammar.specs.Steps.{begins}
use Rattle.token_grammar.specs.Grammar.{Grammar, is_mark, mark, meant, identifier, name, number_to, ◌·◌, ◌▹◌, optional, many, mapped}
use Rattle.sql_statement.specs.declared.statement.TableRef.{TableRef}
use Rattle.sql_statement.specs.declared.sum.Term.{Term}
use Rattle.sql_statement.specs.declared.sum.Term.TheVariants as terms
use Rattle.sql_statement.specs.declared.sum.Step.{Step}
use Rattle.sql_statement.specs.declared.sum.Sum.{Sum}
use Rattle.sql_parse.specs.Parts.{or_else, built}

-- ---- Literals.

-- an empty text is NULL
abbrev pub text_value : List ℕ → Option Value
text_value [] = Some values.Null
text_value (b ∷ bytes) = if is_text (b ∷ bytes) then Some (values.Text (b ∷ bytes)) else None

-- the largest number
abbrev pub largest : ℕ
largest = 9223372036854775807

-- the size of the smallest number
abbrev pub smallest : ℕ
smallest = 9223372036854775808

-- digits, 'text' or NULL
abbrev pub constant_in : Token → Option Value
constant_in (token.Number n) = if nat_le n largest then Some (values.Number (pos n)) else None
constant_in (token.Quoted text) = text_value text
constant_in (token.Word w) = if bytes_eq w (codes "NULL") then Some values.Null else None
constant_in (token.Mark m) = None

-- - digits
abbrev pub negative : Grammar Value
negative = built (λ n. values.Number (neg_ℤ (pos n))) (mark marks.Minus ▹ number_to smallest)

-- [-] digits | 'text' | NULL
unfoldable pub literal : Grammar Value
literal = or_else (begins (is_mark marks.Minus)) negative (meant constant_in)

-- ---- Tables.

-- id [@ name]
unfoldable pub table_ref : Grammar TableRef
table_ref = mapped (λ x. record { name = x.0; link = x.1 }) (λ r. (r.name, r.link))
    (identifier · optional (is_mark marks.At) (mark marks.At ▹ name))

-- ---- Sums.

-- a word other than NULL
abbrev pub is_naming : Token → Bool
is_naming (token.Word w) = if bytes_eq w (codes "NULL") then false else true
is_naming _ = false

-- id | lit
unfoldable pub term : Grammar Term
term = or_else (begins is_naming) (built terms.Column identifier) (built terms.Literal literal)

-- whether a term is subtracted
abbrev pub minus_in : Token → Option Bool
minus_in (token.Mark marks.Plus) = Some false
minus_in (token.Mark marks.Minus) = Some true
minus_in _ = None

-- + or -
abbrev pub is_step : Token → Bool
is_step (token.Mark marks.Plus) = true
is_step (token.Mark marks.Minus) = true
is_step _ = false

-- (+ | -) term
unfoldable pub step : Grammar Step
step = mapped (λ x. record { minus = x.0; term = x.1 }) (λ s. (s.minus, s.term)) (meant minus_in · term)

-- term {(+ | -) term}
unfoldable pub sum : Grammar Sum
sum = mapped (λ x. record { first = x.0; rest = x.1 }) (λ s. (s.first, s.rest)) (term · many is_step step)

-- no column
abbrev pub is_literal : Term → Bool
is_literal (terms.Column _) = false
is_literal (terms.Literal _) = true

-- a sum of literals
abbrev pub is_constant : Sum → Bool
is_constant s = is_literal s.first && list_all (λ step. is_literal step.term) s.rest
