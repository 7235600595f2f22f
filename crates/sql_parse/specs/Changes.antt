-- INSERT, UPDATE, DELETE and SELECT (SQL Language Reference, the chapters of these names).
use Rattle.std.specs.Prelude.{ℕ, Bool, true, false, List, length, nat_le, not, ◌||◌, codes}
use Rattle.std.specs.List.{list_all}
use Rattle.token_grammar.specs.declared.mark.Mark.TheVariants as marks
use Rattle.token_grammar.specs.declared.token.Token.{Token}
use Rattle.token_grammar.specs.Steps.{begins}
use Rattle.token_grammar.specs.Grammar.{Grammar, is_word, is_mark, begins_two, word, mark, identifier, ◌·◌, ◌▹◌, maybe, optional, commas, mapped, tested}
use Rattle.dtx_values.specs.Limits.{select_limit}
use Rattle.sql_statement.specs.Distinct.{are_distinct}
use Rattle.sql_statement.specs.declared.condition.Cond.{Cond}
use Rattle.sql_statement.specs.declared.query.Picked.{Picked}
use Rattle.sql_statement.specs.declared.query.Picked.TheVariants as picked
use Rattle.sql_statement.specs.declared.statement.Set.{Set}
use Rattle.sql_statement.specs.declared.statement.TableRef.{TableRef}
use Rattle.sql_statement.specs.declared.statement.Stmt.{Stmt}
use Rattle.sql_statement.specs.declared.statement.Stmt.TheVariants as statements
use Rattle.sql_statement.specs.declared.sum.Sum.{Sum}
use Rattle.sql_parse.specs.Parts.{or_else, built, stands, in_brackets, itself}
use Rattle.sql_parse.specs.Literals.{table_ref, sum, is_constant}
use Rattle.sql_parse.specs.Conditions.{conditions}

-- ---- INSERT

-- ( id {, id} ), each of them once
abbrev pub column_names : Grammar (List (List ℕ))
column_names = tested (are_distinct itself) (in_brackets (commas identifier))

-- ( sum {, sum} ), without columns
abbrev pub constants : Grammar (List Sum)
constants = tested (list_all is_constant) (in_brackets (commas sum))

-- INSERT INTO ref [( id {, id} )] VALUES ( sum {, sum} )
unfoldable pub insert : Grammar Stmt
insert = built (λ x. statements.Insert x.0 x.1.0 x.1.1)
    (word (codes "INSERT") ▹ word (codes "INTO") ▹ (table_ref · (optional (is_mark marks.Open) column_names · (word (codes "VALUES") ▹ constants))))

-- ---- UPDATE

-- id = sum
unfoldable pub assignment : Grammar Set
assignment = mapped (λ x. record { column = x.0; to = x.1 }) (λ s. (s.column, s.to)) (identifier · (mark marks.Equal ▹ sum))

-- the column on the left
abbrev pub left_side : Set → List ℕ
left_side s = s.column

-- id = sum {, id = sum}, each column once
abbrev pub assignments : Grammar (List Set)
assignments = tested (are_distinct left_side) (commas assignment)

-- UPDATE ref SET id = sum {, id = sum} [WHERE conds]
unfoldable pub update : Grammar Stmt
update = built (λ x. statements.Update x.0 x.1.0 x.1.1)
    (word (codes "UPDATE") ▹ (table_ref · (word (codes "SET") ▹ (assignments · conditions))))

-- ---- DELETE

-- DELETE [FROM] ref [WHERE conds]
unfoldable pub delete : Grammar Stmt
delete = built (λ x. statements.Delete x.0 x.1) (word (codes "DELETE") ▹ maybe (codes "FROM") ▹ (table_ref · conditions))

-- ---- SELECT

-- COUNT ( * )
abbrev pub count : Grammar Picked
count = built (λ x. picked.Count) (word (codes "COUNT") ▹ in_brackets (mark marks.Star))

-- SUM ( id )
abbrev pub sum_of : Grammar Picked
sum_of = built picked.Sum (word (codes "SUM") ▹ in_brackets identifier)

-- id {, id}
abbrev pub columns : Grammar Picked
columns = built picked.Columns (tested (λ names. nat_le (length names) select_limit) (commas identifier))

-- such a word before a bracket, where the word alone may be a column
abbrev pub opens : List ℕ → List Token → Bool
opens w = begins_two (is_word w) (is_mark marks.Open)

-- * | COUNT ( * ) | SUM ( id ) | id {, id}
unfoldable pub picks : Grammar Picked
picks = or_else (begins (is_mark marks.Star)) (built (λ x. picked.All) (mark marks.Star))
    (or_else (opens (codes "COUNT")) count (or_else (opens (codes "SUM")) sum_of columns))

-- rows, and no number made of them
abbrev pub is_of_rows : Picked → Bool
is_of_rows picked.All = true
is_of_rows (picked.Columns _) = true
is_of_rows _ = false

-- whether a list may stand with FOR UPDATE, where that stands
abbrev pub is_lockable : Picked → Bool → Bool
is_lockable list for_update = not for_update || is_of_rows list

-- FOR UPDATE stands with rows alone
abbrev pub may_lock : Stmt → Bool
may_lock (statements.Select list _ _ for_update) = is_lockable list for_update
may_lock _ = true

-- [FOR UPDATE]
abbrev pub for_update_part : Grammar Bool
for_update_part = stands (is_word (codes "FOR")) (word (codes "FOR") ▹ word (codes "UPDATE"))

-- FROM ref [WHERE conds] [FOR UPDATE]
abbrev pub source : Grammar (TableRef × (List Cond × Bool))
source = word (codes "FROM") ▹ (table_ref · (conditions · for_update_part))

-- SELECT list FROM ref [WHERE conds] [FOR UPDATE]
unfoldable pub select : Grammar Stmt
select = tested may_lock (built (λ x. statements.Select x.0 x.1.0 x.1.1.0 x.1.1.1) (word (codes "SELECT") ▹ (picks · source)))
