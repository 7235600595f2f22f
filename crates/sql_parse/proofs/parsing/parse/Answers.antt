use Rattle.std.proofs.Common.{refl}
use Rattle.sql_parse.proofs.StatementLaws.{statement_exact}
use Rattle.sql_parse.proofs.ParseLaws.{spelled_is_found, none_found, text_is_statement, statement_is_text}
use Rattle.sql_parse.proofs.parsing.parse.Goals as goal

pub read_text-requires : goal.read_text-requires
read_text-requires c = statement_exact

pub returns-in-Ok-clause-found : goal.returns-in-Ok-clause-found
returns-in-Ok-clause-found c = text_is_statement c.args.text.now c.in-Ok.statement c.in-Ok.ensures.found

pub returns-in-Ok-clause-is : goal.returns-in-Ok-clause-is
returns-in-Ok-clause-is c = spelled_is_found c.args.text.now c.in-Ok.statement (text_is_statement c.args.text.now c.in-Ok.statement c.in-Ok.ensures.found)

pub returns-in-Err-Bad-clause-bad : goal.returns-in-Err-Bad-clause-bad
returns-in-Err-Bad-clause-bad c = λ e s h. (rw c.in-Err-Bad.field-0-is at c.in-Err-Bad.ensures.bad) refl s (statement_is_text c.args.text.now s h)

pub returns-in-Err-Bad-clause-is_none : goal.returns-in-Err-Bad-clause-is_none
returns-in-Err-Bad-clause-is_none c = λ e. none_found c.args.text.now (λ s h. (rw c.in-Err-Bad.field-0-is at c.in-Err-Bad.ensures.bad) refl s (statement_is_text c.args.text.now s h))
