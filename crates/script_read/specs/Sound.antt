-- What is sure of the commands of a script.
use Rattle.std.specs.Prelude.{◌≡◌, ℕ, ◌≤◌, ⊤, List, length, IfSome}
use Rattle.std.specs.List.{AllByRecursion, flat_map}
use Rattle.dtx_values.specs.Limits.{strength_limit, link_limit, extents_limit, session_limit, node_limit}
use Rattle.sql_statement.specs.Whole.{IsWhole}
use Rattle.script_read.specs.declared.command.Command.{Command}
use Rattle.script_read.specs.declared.command.Command.TheVariants as commands
use Rattle.script_read.specs.Asked.{nodes_in, names_made}

-- from the one number to the other
abbrev pub IsBetween : ℕ → ℕ → ℕ → Type 0
IsBetween least most n = (least ≤ n) × (n ≤ most)

-- the numbers of a command are in their ranges, and its statement is one that a text spells
abbrev pub IsInRange : Command → Type 0
IsInRange (commands.Node made strength links undo) = (strength ≤ strength_limit) × IsBetween 1 link_limit links × IsBetween 1 extents_limit undo
IsInRange (commands.At node session statement) = IsBetween 1 session_limit session × IfSome statement IsWhole
IsInRange (commands.Cut a b) = ⊤
IsInRange (commands.Join a b) = ⊤
IsInRange (commands.Lose k) = ⊤
IsInRange (commands.LoseNext kind from to) = ⊤
IsInRange (commands.Stop node) = ⊤
IsInRange (commands.Start node) = ⊤
IsInRange (commands.Crash node write how) = 1 ≤ write
IsInRange (commands.Fault node call) = 1 ≤ call
IsInRange (commands.Hold on) = ⊤
IsInRange (commands.Deliver k) = ⊤
IsInRange (commands.Again k) = ⊤
IsInRange (commands.Pump most) = ⊤
IsInRange (commands.GiveUp node session) = IsBetween 1 session_limit session
IsInRange (commands.Reco node) = ⊤
IsInRange (commands.ShowPending node) = ⊤
IsInRange (commands.ShowNeighbors node) = ⊤
IsInRange commands.ShowBook = ⊤
IsInRange commands.ShowNet = ⊤
IsInRange (commands.ShowDisk node) = ⊤
IsInRange (commands.ShowUndo node) = ⊤

-- the names of all nodes, in the order of their numbers
abbrev pub names_in : List Command → List (List ℕ)
names_in commands = flat_map names_made commands

-- a node of this many
abbrev pub IsNode : ℕ → ℕ → Type 0
IsNode count node = IsBetween 1 count node

-- a command over this many nodes
abbrev pub IsProper : ℕ → Command → Type 0
IsProper count command = AllByRecursion (IsNode count) (nodes_in command) × IsInRange command

-- there are not too many nodes, and each command names nodes that there are, with its numbers in their ranges
pub record IsOfAScript (commands : List Command) : Type 0 where
  pub few : length (names_in commands) ≤ node_limit
  pub proper : AllByRecursion (IsProper (length (names_in commands))) commands
