-- The conditions of a WHERE (SQL Language Reference, "Conditions").
use Rattle.std.specs.Prelude.{List, [], ◌∷◌, Option, Some, None, unwrap_or, codes}
use Rattle.token_grammar.specs.declared.mark.Mark.TheVariants as marks
use Rattle.token_grammar.specs.declared.token.Token.{Token}
use Rattle.token_grammar.specs.declared.token.Token.TheVariants as token
use Rattle.token_grammar.specs.Grammar.{Grammar, is_word, anything, begins_two, word, meant, identifier, ◌·◌, ◌▹◌, ◌◃◌, optional, separated, mapped}
use Rattle.sql_statement.specs.declared.condition.Sign.{Sign}
use Rattle.sql_statement.specs.declared.condition.Sign.TheVariants as signs
use Rattle.sql_statement.specs.declared.condition.Cond.{Cond}
use Rattle.sql_statement.specs.declared.condition.Cond.TheVariants as conds
use Rattle.sql_parse.specs.Parts.{or_else, built, stands}
use Rattle.sql_parse.specs.Literals.{literal}

-- = | <> | < | <= | > | >=
abbrev pub sign_in : Token → Option Sign
sign_in (token.Mark marks.Equal) = Some signs.Eq
sign_in (token.Mark marks.Unequal) = Some signs.Ne
sign_in (token.Mark marks.Below) = Some signs.Lt
sign_in (token.Mark marks.AtMost) = Some signs.Le
sign_in (token.Mark marks.Above) = Some signs.Gt
sign_in (token.Mark marks.AtLeast) = Some signs.Ge
sign_in _ = None

-- id sign lit
abbrev pub compared : Grammar Cond
compared = built (λ x. conds.Compare x.0 x.1.0 x.1.1) (identifier · (meant sign_in · literal))

-- id IS [NOT] NULL
abbrev pub is_null : Grammar Cond
is_null = built (λ x. conds.IsNull x.0 x.1)
    (identifier · (word (codes "IS") ▹ (stands (is_word (codes "NOT")) (word (codes "NOT")) ◃ word (codes "NULL"))))

-- id sign lit | id IS [NOT] NULL
unfoldable pub condition : Grammar Cond
condition = or_else (begins_two anything (is_word (codes "IS"))) is_null compared

-- the conditions of a WHERE that stands
abbrev pub some_conds : List Cond → Option (List Cond)
some_conds [] = None
some_conds (c ∷ cs) = Some (c ∷ cs)

-- WHERE cond {AND cond}
abbrev pub where_part : Grammar (List Cond)
where_part = word (codes "WHERE") ▹ separated (is_word (codes "AND")) (word (codes "AND")) condition

-- [WHERE cond {AND cond}]
unfoldable pub conditions : Grammar (List Cond)
conditions = mapped (λ found. unwrap_or found []) some_conds (optional (is_word (codes "WHERE")) where_part)
