-- Two statements, read and printed by computation.
use Rattle.std.proofs.Common.{◌≡◌, Some, refl}
use Rattle.std.specs.Prelude.{codes, length}
use Rattle.std.specs.Option.{option_map}
use Rattle.token_grammar.specs.Lexing.{word_at, quoted_from, quoted_at, mark_at, token_at, tokens_in}
use Rattle.sql_parse.specs.Literals.{literal, table_ref, term, step, sum}
use Rattle.sql_parse.specs.Conditions.{condition, conditions}
use Rattle.sql_parse.specs.Changes.{assignment, update, delete}
use Rattle.sql_parse.specs.Statement.{statement_grammar, statement_of}
use Rattle.sql_print.specs.Printing.{printed}

-- FROM is put in, signs get blanks, and an empty text is NULL
pub deleted : option_map printed (statement_of (codes "delete t where a!=''and b is null")) ≡ Some (codes "DELETE FROM T WHERE A <> NULL AND B IS NULL")
unfolding statement_of statement_grammar delete table_ref conditions condition literal printed tokens_in token_at word_at mark_at quoted_at quoted_from
deleted = refl

-- each `+''` is printed as ` + NULL`, so that 59 bytes become 119
pub added_up : option_map (λ s. length (printed s)) (statement_of (codes "UPDATE T SET A=''+''+''+''+''+''+''+''+''+''+''+''+''+''+''")) ≡ Some 119
unfolding statement_of statement_grammar update table_ref conditions assignment sum step term literal printed tokens_in token_at word_at mark_at quoted_at quoted_from
added_up = refl
