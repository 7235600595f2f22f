-- The texts of commands, in the words of a script. A statement is printed as sql_print prints it.
use Rattle.std.specs.Prelude.{ℕ, Bool, if◌then◌else◌, List, [], ◌++◌, codes, length, Option, Some, None}
use Rattle.tran_ids.specs.Numbers.{decimal}
use Rattle.tran_ids.specs.Texts.{name_of}
use Rattle.sql_statement.specs.declared.statement.Stmt.{Stmt}
use Rattle.sql_print.specs.Printing.{printed}
use Rattle.wire_msg.specs.Names.{kind_text}
use Rattle.script_read.specs.declared.command.How.{How}
use Rattle.script_read.specs.declared.command.How.TheVariants as hows
use Rattle.script_read.specs.declared.command.Command.{Command}
use Rattle.script_read.specs.declared.command.Command.TheVariants as commands

-- a statement, or that the text is outside the grammar
abbrev pub statement_text : Option Stmt → List ℕ
statement_text None = codes "(not a statement)"
statement_text (Some s) = printed s

-- words and the name of a node
abbrev pub of_node : List (List ℕ) → List ℕ → ℕ → List ℕ
of_node names words node = words ++ name_of names node

-- words and two names
abbrev pub of_pair : List (List ℕ) → List ℕ → ℕ → ℕ → List ℕ
of_pair names words a b = words ++ name_of names a ++ codes " " ++ name_of names b

-- words and a number
abbrev pub counted : List ℕ → ℕ → List ℕ
counted words n = words ++ decimal n

-- what a write leaves that stops a node
abbrev pub how_text : How → List ℕ
how_text (hows.Keep n) = counted (codes " KEEP ") n
how_text (hows.Leave bytes) = counted (codes " LEAVE, bytes: ") (length bytes)

-- whether messages are held
abbrev pub hold_text : Bool → List ℕ
hold_text on = if on then codes "HOLD ON" else codes "HOLD OFF"

-- how many messages are delivered at most
abbrev pub pump_text : Option ℕ → List ℕ
pump_text None = codes "PUMP"
pump_text (Some most) = counted (codes "PUMP ") most

-- a command about one node, and what it shows
abbrev pub node_text : List (List ℕ) → Command → List ℕ
node_text names (commands.Stop node) = of_node names (codes "STOP ") node
node_text names (commands.Start node) = of_node names (codes "START ") node
node_text names (commands.Fault node call) = of_node names (codes "FAULT ") node ++ counted (codes " CALL ") call
node_text names (commands.Reco node) = of_node names (codes "RECO ") node
node_text names (commands.ShowPending node) = of_node names (codes "SHOW PENDING ") node
node_text names (commands.ShowNeighbors node) = of_node names (codes "SHOW NEIGHBORS ") node
node_text names (commands.ShowDisk node) = of_node names (codes "SHOW DISK ") node
node_text names (commands.ShowUndo node) = of_node names (codes "SHOW UNDO ") node
node_text names commands.ShowBook = codes "SHOW BOOK"
node_text names commands.ShowNet = codes "SHOW NET"
node_text names _ = []

-- a command about messages, or another one
abbrev pub net_text : List (List ℕ) → Command → List ℕ
net_text names (commands.Cut a b) = of_pair names (codes "CUT ") a b
net_text names (commands.Join a b) = of_pair names (codes "JOIN ") a b
net_text names (commands.Lose k) = counted (codes "LOSE ") k
net_text names (commands.LoseNext kind from to) = codes "LOSE NEXT " ++ kind_text kind ++ of_pair names (codes " ") from to
net_text names (commands.Hold on) = hold_text on
net_text names (commands.Deliver k) = counted (codes "DELIVER ") k
net_text names (commands.Again k) = counted (codes "AGAIN ") k
net_text names (commands.Pump most) = pump_text most
net_text names c = node_text names c

-- a command
unfoldable pub command_text : List (List ℕ) → Command → List ℕ
command_text names (commands.Node name strength links undo) =
    codes "NODE " ++ name ++ counted (codes " STRENGTH ") strength ++ counted (codes " LINKS ") links ++ counted (codes " UNDO ") undo
command_text names (commands.At node session s) =
    of_node names (codes "AT ") node ++ counted (codes " SESSION ") session ++ codes ": " ++ statement_text s
command_text names (commands.Crash node write how) = of_node names (codes "CRASH ") node ++ counted (codes " WRITE ") write ++ how_text how
command_text names (commands.GiveUp node session) = of_node names (codes "GIVEUP AT ") node ++ counted (codes " SESSION ") session
command_text names c = net_text names c
