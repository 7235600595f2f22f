-- The script of a number, line by line.
use Rattle.std.specs.Prelude.{ℕ, ◌+◌, ◌*◌, ◌%◌, ◌==◌, pos, max, min, Bool, true, false, List, [], ◌∷◌, ◌++◌, map, Option, Some, None, codes, decimal, if◌then◌else◌}
use Rattle.std.specs.List.{flat_map}
use Rattle.dtx_values.specs.Limits.{usual_links, usual_extents}
use Rattle.dtx_values.specs.declared.table.Table.{Table}
use Rattle.dtx_values.specs.declared.value.Value.TheVariants as values
use Rattle.sql_statement.specs.declared.query.Picked.TheVariants as picked
use Rattle.sql_statement.specs.declared.statement.Stmt.{Stmt}
use Rattle.sql_statement.specs.declared.statement.Stmt.TheVariants as statements
use Rattle.sql_statement.specs.declared.sum.Sum.{Sum}
use Rattle.sql_statement.specs.declared.sum.Term.TheVariants as terms
use Rattle.wire_msg.specs.declared.kind.KindName.TheVariants as kinds
use Rattle.script_read.specs.declared.command.Command.{Command}
use Rattle.script_read.specs.declared.command.Command.TheVariants as commands
use Rattle.make_script.specs.declared.transaction.Transaction.{Transaction}
use Rattle.make_script.specs.Draws.{transactions}

-- a line: its text, which `;` ends, and the command that it is
pub record Line : Type 0 where
  pub text : List ℕ
  pub command : Command

-- the number of a node, of one digit
abbrev pub digit : ℕ → List ℕ
digit n = (48 + n) ∷ []

-- the name of a node
abbrev pub node_name : ℕ → List ℕ
node_name n = codes "N" ++ digit n

-- the name of the database link to a node
abbrev pub link_name : ℕ → List ℕ
link_name n = codes "L" ++ digit n

-- ---- The first lines: the nodes, their tables and their links.

-- a node, whose strength is ten times its number
abbrev pub node_line : ℕ → Line
node_line n = record {
  text = codes "NODE N" ++ (digit n ++ (codes " STRENGTH " ++ (digit n ++ codes "0")));
  command = commands.Node (node_name n) (10 * n) usual_links usual_extents;
}

-- a statement in the one session of a node
abbrev pub call_line : ℕ → List ℕ → Stmt → Line
call_line n text statement = record {
  text = codes "AT N" ++ (digit n ++ (codes " SESSION 1: " ++ text));
  command = commands.At n 1 (Some statement);
}

-- a number column
abbrev pub table : Table
table = record {
  name = codes "T";
  columns = record { name = codes "K"; text_max = None; not_null = false; key = true }
      ∷ record { name = codes "V"; text_max = None; not_null = false; key = false } ∷ [];
}

-- the table of a node
abbrev pub table_line : ℕ → Line
table_line n = call_line n (codes "CREATE TABLE T (K NUMBER PRIMARY KEY, V NUMBER)") (statements.CreateTable table)

-- the database link of a node to another one
abbrev pub link_line : ℕ → ℕ → Line
link_line n other = call_line n (codes "CREATE DATABASE LINK L" ++ (digit other ++ (codes " USING 'N" ++ (digit other ++ codes "'"))))
    (statements.CreateLink (record { name = link_name other; target = node_name other }))

-- the lines before the transactions
abbrev pub first_lines : List Line
first_lines =
    node_line 1 ∷ node_line 2 ∷ node_line 3 ∷ node_line 4
    ∷ table_line 1 ∷ table_line 2 ∷ table_line 3 ∷ table_line 4
    ∷ link_line 1 2 ∷ link_line 1 3 ∷ link_line 1 4
    ∷ link_line 2 1 ∷ link_line 2 3 ∷ link_line 2 4
    ∷ link_line 3 1 ∷ link_line 3 2 ∷ link_line 3 4
    ∷ link_line 4 1 ∷ link_line 4 2 ∷ link_line 4 3 ∷ []

-- ---- The lines of a transaction.

-- a number as a value of an INSERT
abbrev pub literal_of : ℕ → Sum
literal_of n = record { first = terms.Literal (values.Number (pos n)); rest = [] }

-- the values of a transaction's row
abbrev pub values_text : ℕ → ℕ → List ℕ
values_text number value = codes " VALUES (" ++ (decimal number ++ (codes ", " ++ (decimal value ++ codes ")")))

-- its row at its own node
abbrev pub own_row : ℕ → ℕ → ℕ → Line
own_row root number value = call_line root (codes "INSERT INTO T" ++ values_text number value)
    (statements.Insert (record { name = codes "T"; link = None }) None (literal_of number ∷ literal_of value ∷ []))

-- its row at the other node
abbrev pub other_row : ℕ → ℕ → ℕ → ℕ → Line
other_row root other number value = call_line root (codes "INSERT INTO T@L" ++ (digit other ++ values_text number value))
    (statements.Insert (record { name = codes "T"; link = Some (link_name other) }) None (literal_of number ∷ literal_of value ∷ []))

-- the next Committed from this node to that one is lost
abbrev pub loss_line : ℕ → ℕ → Line
loss_line from to = record {
  text = codes "LOSE NEXT COMMITTED FROM N" ++ (digit from ++ (codes " TO N" ++ digit to));
  command = commands.LoseNext kinds.Committed from to;
}

-- a node recovers
abbrev pub recovery_line : ℕ → Line
recovery_line n = record { text = codes "RECO N" ++ digit n; command = commands.Reco n }

abbrev pub commit_line : ℕ → Line
commit_line n = call_line n (codes "COMMIT") (statements.Commit None)

-- COMMIT, with a message lost before it and its node recovered after it where that is so
abbrev pub end_lines : Bool → Transaction → List Line
end_lines true t = loss_line (max t.root t.other) (min t.root t.other) ∷ commit_line t.root ∷ recovery_line (min t.root t.other) ∷ []
end_lines false t = commit_line t.root ∷ []

-- every tenth transaction loses a message
abbrev pub loses : Transaction → Bool
loses t = t.number % 10 == 0

-- the lines of a transaction
abbrev pub lines_of : Transaction → List Line
lines_of t = own_row t.root t.number t.value ∷ other_row t.root t.other t.number t.value ∷ end_lines (loses t) t

-- ---- The script.

-- how many rows a node has
abbrev pub count_line : ℕ → Line
count_line n = call_line n (codes "SELECT COUNT(*) FROM T") (statements.Select picked.Count (record { name = codes "T"; link = None }) [] false)

-- the lines behind the transactions
abbrev pub last_lines : List Line
last_lines = count_line 1 ∷ count_line 2 ∷ count_line 3 ∷ count_line 4 ∷ []

-- how many transactions there are
abbrev pub transaction_count : ℕ
transaction_count = 500

-- the lines of the script of a number
unfoldable pub lines : ℕ → List Line
lines number = first_lines ++ (flat_map lines_of (transactions number transaction_count) ++ last_lines)

-- a line as it stands in a script
abbrev pub line_text : Line → List ℕ
line_text l = l.text ++ codes ";\n"

-- lines one below the other
abbrev pub text_of : List Line → List ℕ
text_of ls = flat_map line_text ls

-- the script of a number
abbrev pub script_of : ℕ → List ℕ
script_of number = text_of (lines number)

-- the command of a line
abbrev pub command_of : Line → Command
command_of l = l.command

-- the commands of the script of a number
abbrev pub commands_of : ℕ → List Command
commands_of number = map command_of (lines number)
