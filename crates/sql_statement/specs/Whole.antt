-- What holds of each statement that a text spells.
use Rattle.std.specs.Prelude.{◌≡◌, ◌<◌, ◌≤◌, ℕ, true, List, length, count_by, Some, IfSome, IsTrue, FitsSigned, ⊤}
use Rattle.std.specs.Int.{w64}
use Rattle.std.specs.List.{All}
use Rattle.dtx_values.specs.Name.{name_of}
use Rattle.dtx_values.specs.Str.{is_text, is_text_to}
use Rattle.dtx_values.specs.declared.value.Value.{Value}
use Rattle.dtx_values.specs.declared.value.Value.TheVariants as values
use Rattle.dtx_values.specs.declared.table.Table.{Table}
use Rattle.sql_statement.specs.Distinct.{are_distinct, column_name}
use Rattle.dtx_values.specs.Widths.{HasWidth}
use Rattle.dtx_values.specs.Limits.{column_limit, comment_limit, id_limit, scn_limit, strength_limit}
use Rattle.sql_statement.specs.declared.sum.Term.{Term}
use Rattle.sql_statement.specs.declared.sum.Term.TheVariants as terms
use Rattle.sql_statement.specs.declared.sum.Sum.{Sum}
use Rattle.sql_statement.specs.declared.condition.Cond.{Cond}
use Rattle.sql_statement.specs.declared.condition.Cond.TheVariants as conds
use Rattle.sql_statement.specs.declared.statement.Stmt.{Stmt}
use Rattle.sql_statement.specs.declared.statement.Stmt.TheVariants as statements

-- bytes that spell a name, and are that name: so they are in upper case
abbrev pub IsName : List ℕ → Type 0
IsName bytes = name_of bytes ≡ Some bytes

-- UTF-8 of at most so many bytes
abbrev pub IsTextTo : ℕ → List ℕ → Type 0
IsTextTo most text = IsTrue (is_text_to most text)

-- ---- Tables.

-- a table: some columns and not too many, of different names, and exactly one of them the key
pub record IsWholeTable (t : Table) : Type 0 where
  pub some : 0 < length t.columns
  pub few : length t.columns ≤ column_limit
  pub one_key : count_by (λ c. c.key) t.columns ≡ 1
  pub distinct : are_distinct column_name t.columns ≡ true
  pub widths : All HasWidth t.columns
  pub named : IsName t.name
  pub columns_named : All (λ c. IsName c.name) t.columns

-- ---- Values.

-- a number of 64 bits, or UTF-8 of at least one byte and no more than a text may have
abbrev pub IsWholeValue : Value → Type 0
IsWholeValue values.Null = ⊤
IsWholeValue (values.Number n) = FitsSigned w64 n
IsWholeValue (values.Text text) = IsTrue (is_text text)

-- the literal of a term
abbrev pub IsWholeTerm : Term → Type 0
IsWholeTerm (terms.Column name) = ⊤
IsWholeTerm (terms.Literal v) = IsWholeValue v

-- each literal of a sum
abbrev pub IsWholeSum : Sum → Type 0
IsWholeSum s = IsWholeTerm s.first × All (λ p. IsWholeTerm p.term) s.rest

-- the literal of a condition
abbrev pub IsWholeCond : Cond → Type 0
IsWholeCond (conds.Compare column sign literal) = IsWholeValue literal
IsWholeCond (conds.IsNull column negated) = ⊤

-- ---- Statements.

-- what a node may store of a statement: its table, link or synonym, its literals, and the bytes in its quotes
abbrev pub IsWhole : Stmt → Type 0
IsWhole (statements.CreateTable t) = IsWholeTable t
IsWhole (statements.CreateLink l) = IsName l.name × IsName l.target
IsWhole (statements.CreateSynonym s) = IsName s.name × IsName s.table × IsName s.link
IsWhole (statements.Insert table columns given) = All IsWholeSum given
IsWhole (statements.Update table sets cs) = All (λ s. IsWholeSum s.to) sets × All IsWholeCond cs
IsWhole (statements.Delete table cs) = All IsWholeCond cs
IsWhole (statements.Select list table cs for_update) = All IsWholeCond cs
IsWhole (statements.Commit comment) = IfSome comment (IsTextTo comment_limit)
IsWhole (statements.CommitForce id scn) = IsTextTo id_limit id × IfSome scn (λ n. n ≤ scn_limit)
IsWhole (statements.RollbackForce id) = IsTextTo id_limit id
IsWhole (statements.PurgeMixed id) = IsTextTo id_limit id
IsWhole (statements.PurgeLost id) = IsTextTo id_limit id
IsWhole (statements.SetStrength strength) = strength ≤ strength_limit
IsWhole _ = ⊤
