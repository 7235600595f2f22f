-- Short words for the scripts that are played, and the run of a script.
use Rattle.std.proofs.Common.{ℕ, Bool, true, false, List, [], ◌∷◌, map, flat_map, replicate, Option, Some, None, pos}
use Rattle.node_rules.specs.Data.{Value, Column, TableRef, Term, Step, Sum, Set, Cond, Stmt, Place}
use Rattle.node_rules.specs.Data.values
use Rattle.node_rules.specs.Data.terms
use Rattle.node_rules.specs.Data.signs
use Rattle.node_rules.specs.Data.conds
use Rattle.node_rules.specs.Data.picks
use Rattle.node_rules.specs.Data.stmts
use Rattle.run_rules.specs.Data.{AnswerLine, Command, Entry}
use Rattle.run_rules.specs.Data.hows
use Rattle.run_rules.specs.Data.commands
use Rattle.run_rules.specs.RunReport.{Past, start}
use Rattle.run_rules.specs.Lines.{all_lines as reported_of}
use Rattle.run_rules.specs.Due.{runs_on}

-- a node's place, with as many links and extents of undo as a node has where its command says nothing
abbrev pub place : List (List ℕ) → ℕ → ℕ → Place
place names number strength = record { names = names; number = number; strength = strength; links = 4; undo = 64 }

-- a node's place, with its limits
abbrev pub place_within : List (List ℕ) → ℕ → ℕ → ℕ → ℕ → Place
place_within names number strength links undo = record { names = names; number = number; strength = strength; links = links; undo = undo }

-- columns
abbrev pub column : List ℕ → Option ℕ → Bool → Bool → Column
column name text_max not_null key = record { name = name; text_max = text_max; not_null = not_null; key = key }

abbrev pub number_column : List ℕ → Column
number_column name = column name None false false

abbrev pub number_key : List ℕ → Column
number_key name = column name None false true

abbrev pub text_column : List ℕ → ℕ → Column
text_column name most = column name (Some most) false false

abbrev pub text_key : List ℕ → ℕ → Column
text_key name most = column name (Some most) false true

-- what CREATE makes
abbrev pub table : List ℕ → List Column → Stmt
table name columns = stmts.CreateTable (record { name = name; columns = columns })

abbrev pub link : List ℕ → List ℕ → Stmt
link name target = stmts.CreateLink (record { name = name; target = target })

abbrev pub synonym : List ℕ → List ℕ → List ℕ → Stmt
synonym name table_name link_name = stmts.CreateSynonym (record { name = name; table = table_name; link = link_name })

-- a table of the node itself, and a table over a link
abbrev pub here : List ℕ → TableRef
here name = record { name = name; link = None }

abbrev pub over : List ℕ → List ℕ → TableRef
over name link_name = record { name = name; link = Some link_name }

-- values
abbrev pub num : ℕ → Value
num n = values.Number (pos n)

abbrev pub text : List ℕ → Value
text t = values.Text t

-- a text so many times
abbrev pub repeated : ℕ → List ℕ → List ℕ
repeated n t = flat_map (λ part. part) (replicate n t)

-- sums
abbrev pub step : Bool → Term → Step
step takes_away term = record { minus = takes_away; term = term }

abbrev pub sum : Term → List Step → Sum
sum first rest = record { first = first; rest = rest }

abbrev pub literal : Value → Sum
literal value = sum (terms.Literal value) []

abbrev pub minus : List ℕ → ℕ → Sum
minus column_name n = sum (terms.Column column_name) (step true (terms.Literal (num n)) ∷ [])

abbrev pub set : List ℕ → Sum → Set
set column_name to = record { column = column_name; to = to }

abbrev pub equal : List ℕ → Value → Cond
equal column_name value = conds.Compare column_name signs.Eq value

-- statements
abbrev pub insert : TableRef → List Value → Stmt
insert ref row_values = stmts.Insert ref None (map literal row_values)

abbrev pub rows : TableRef → List Cond → Stmt
rows ref where_all = stmts.Select picks.All ref where_all false

abbrev pub count : TableRef → List Cond → Stmt
count ref where_all = stmts.Select picks.Count ref where_all false

abbrev pub commit : Stmt
commit = stmts.Commit None

abbrev pub commit_comment : List ℕ → Stmt
commit_comment comment = stmts.Commit (Some comment)

-- commands
abbrev pub node : List ℕ → ℕ → Command
node name strength = commands.Node name strength 4 64

abbrev pub at : ℕ → ℕ → Stmt → Command
at number session statement = commands.At number session (Some statement)

-- a text that is no statement
abbrev pub no_statement : ℕ → ℕ → Command
no_statement number session = commands.At number session None

abbrev pub crash_keep : ℕ → ℕ → ℕ → Command
crash_keep number write kept = commands.Crash number write (hows.Keep kept)

abbrev pub crash_leave : ℕ → ℕ → List ℕ → Command
crash_leave number write bytes = commands.Crash number write (hows.Leave bytes)

abbrev pub hold : Command
hold = commands.Hold true

abbrev pub let_go : Command
let_go = commands.Hold false

abbrev pub pump : ℕ → Command
pump most = commands.Pump (Some most)

abbrev pub pump_all : Command
pump_all = commands.Pump None

-- a script when it has ended, if it ends within so many happenings
abbrev pub played : ℕ → List Place → List Command → Past
played happenings places script = runs_on places script (replicate happenings 0) (start places)

-- the lines of its report
abbrev pub all_lines : Past → List AnswerLine
all_lines p = reported_of p.facts p.run_report

-- its book
abbrev pub booked : Past → List Entry
booked p = p.facts.book
