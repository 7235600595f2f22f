-- What the report tells of statements that write one record, tried on a script of one node: CREATE TABLE is done, and
-- refused the second time; another is done in a transaction, after its COMMIT.
use Rattle.std.specs.Prelude.{◌≡◌, ℕ, codes, List, [], ◌∷◌, filter, replicate, slice_get, Some, None}
use Rattle.node_rules.specs.Data.{Stmt}
use Rattle.node_rules.specs.Data.answers
use Rattle.node_rules.specs.Data.dones
use Rattle.node_rules.specs.Data.records
use Rattle.node_rules.specs.Data.stmts
use Rattle.node_rules.specs.Refusals.{ora}
use Rattle.run_rules.specs.Data.{AnswerLine, Command}
use Rattle.run_rules.specs.Data.commands
use Rattle.run_rules.specs.Due.{runs_on}
use Rattle.run_rules.specs.Facts.{records_at}
use Rattle.run_rules.specs.Lines.{all_lines}
use Rattle.run_claims.specs.Places.{node_line}
use Rattle.run_rules.specs.RunReport.{Past, start}
use Rattle.run_branch_laws.specs.TriedRun.{places, insert, table_of_keys}
use Rattle.run_claims.specs.Recorded.{is_of_statement}

-- what session 1 asks of A
abbrev pub asks : Stmt → Command
asks s = commands.At 1 1 (Some s)

-- CREATE TABLE
abbrev pub creates_table : List ℕ → Stmt
creates_table name = stmts.CreateTable (table_of_keys name)

-- the script
abbrev pub script : List Command
script = asks (creates_table (codes "T")) ∷ asks (creates_table (codes "T")) ∷ asks (insert (record { name = codes "T"; link = None })) ∷ asks (creates_table (codes "S")) ∷ []

-- its whole run
abbrev pub left : Past
left = runs_on places script (replicate 9 0) (start places)

-- its lines
abbrev pub lines : List AnswerLine
lines = all_lines left.facts left.run_report

-- The lines of the three, and the records of A's disk.
pub record TheTriedTold : Type 0 where
  pub first : slice_get lines 0 ≡ Some (node_line 1 (answers.Did dones.TableMade 0))
  pub again : slice_get lines 1 ≡ Some (node_line 2 (answers.Refused (ora 955 [])))
  pub last : slice_get lines 3 ≡ Some (node_line 4 (answers.Did dones.TableMade 0))
  pub stand : filter is_of_statement (records_at left.facts 1) ≡ records.Table (table_of_keys (codes "T")) ∷ records.Table (table_of_keys (codes "S")) ∷ []
