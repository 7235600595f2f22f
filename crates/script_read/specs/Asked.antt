-- What a script asks for: its commands, or the line of the first that is bad, and why it is.
use Rattle.std.specs.Prelude.{◌≡◌, ℕ, ◌+◌, ◌==◌, ◌&&◌, ◌||◌, Bool, true, false, not, List, [], ◌∷◌, ◌++◌, length, position, take, drop, Option, Some, None, Result, Ok, Err, ⊤, codes, if◌then◌else◌}
use Rattle.std.specs.List.{list_all, list_any}
use Rattle.std.specs.Option.{option_map_or}
use Rattle.std.specs.Str.{bytes_eq}
use Rattle.dtx_values.specs.Limits.{node_limit}
use Rattle.token_grammar.specs.Steps.{◌>>=◌}
use Rattle.token_grammar.specs.FirstWord.{has_first_word}
use Rattle.token_grammar.specs.Text.{value_in}
use Rattle.sql_parse.specs.Statement.{statement_of}
use Rattle.script_read.specs.declared.command.Command.{Command}
use Rattle.script_read.specs.declared.command.Command.TheVariants as commands
use Rattle.script_read.specs.declared.before.Before.{Before}
use Rattle.script_read.specs.declared.why.Why.{Why}
use Rattle.script_read.specs.declared.why.Why.TheVariants as whys
use Rattle.script_read.specs.declared.why.ScriptErr.{ScriptErr}
use Rattle.script_read.specs.declared.why.ScriptErr.TheVariants.{Bad, NoMemory}
use Rattle.script_read.specs.Forms.{at_session, other_command}
use Rattle.script_read.specs.Parts.{pieces_of, said, is_clean, is_empty, line_ends, begins, first_unclean}

-- ---- A command in the grammar.

-- `:`
abbrev pub is_colon : ℕ → Bool
is_colon b = b == 58

-- AT name SESSION num, with this text behind the colon
unfoldable pub call_of : List (List ℕ) → List ℕ → List ℕ → Option Command
call_of names head text = do
  x ← value_in (at_session names) head
  Some (commands.At x.0 x.1 (statement_of text))

-- the command that is said: a call where there is a colon, else one of another form
unfoldable pub command_of : List (List ℕ) → List ℕ → Option Command
command_of names text = option_map_or (λ place. call_of names (take place text) (drop (place + 1) text)) (position is_colon text) (value_in (other_command names) text)

-- ---- A command among others.

-- a NODE command
abbrev pub is_node : Command → Bool
is_node (commands.Node made strength links undo) = true
is_node _ = false

-- the nodes that a command names, but for the one that it makes
abbrev pub nodes_in : Command → List ℕ
nodes_in (commands.Node made strength links undo) = []
nodes_in (commands.At node session statement) = node ∷ []
nodes_in (commands.Cut a b) = a ∷ b ∷ []
nodes_in (commands.Join a b) = a ∷ b ∷ []
nodes_in (commands.Lose k) = []
nodes_in (commands.LoseNext kind from to) = from ∷ to ∷ []
nodes_in (commands.Stop node) = node ∷ []
nodes_in (commands.Start node) = node ∷ []
nodes_in (commands.Crash node write how) = node ∷ []
nodes_in (commands.Fault node call) = node ∷ []
nodes_in (commands.Hold on) = []
nodes_in (commands.Deliver k) = []
nodes_in (commands.Again k) = []
nodes_in (commands.Pump most) = []
nodes_in (commands.GiveUp node session) = node ∷ []
nodes_in (commands.Reco node) = node ∷ []
nodes_in (commands.ShowPending node) = node ∷ []
nodes_in (commands.ShowNeighbors node) = node ∷ []
nodes_in commands.ShowBook = []
nodes_in commands.ShowNet = []
nodes_in (commands.ShowDisk node) = node ∷ []
nodes_in (commands.ShowUndo node) = node ∷ []

-- a node that there is
abbrev pub is_known : ℕ → Bool
is_known node = not (node == 0)

-- the names that a command gives to nodes
abbrev pub names_made : Command → List (List ℕ)
names_made (commands.Node made strength links undo) = made ∷ []
names_made _ = []

-- nothing has come
abbrev pub nothing_before : Before
nothing_before = record { names = []; others = false }

-- this command has come
abbrev pub with_command : Before → Command → Before
with_command b command = record { names = b.names ++ names_made command; others = b.others || not (is_node command) }

-- why a NODE command is bad that is in the grammar
abbrev pub naming_trouble : List (List ℕ) → List ℕ → Option Why
naming_trouble names made =
    if list_any (λ other. bytes_eq other made) names then Some whys.Twice
    else (if length names == node_limit then Some whys.Many else None)

-- why a command is bad that is in the grammar
abbrev pub trouble_of : List (List ℕ) → Command → Option Why
trouble_of names (commands.Node made strength links undo) = naming_trouble names made
trouble_of names command = if list_all is_known (nodes_in command) then None else Some whys.Unknown

-- a command that is in the grammar: itself, or why it is bad
abbrev pub accepted : List (List ℕ) → Command → Result Command Why
accepted names command = option_map_or (λ why. Err why) (trouble_of names command) (Ok command)

-- the command that `;` ends, or the first reason for which it is bad
unfoldable pub judged : Before → List ℕ → Result Command Why
judged before piece =
    if not (is_clean piece) then Err whys.Byte
    else (if before.others && has_first_word (codes "NODE") (said piece) then Err whys.LateNode
    else option_map_or (accepted before.names) (command_of before.names (said piece)) (Err whys.Form))

-- ---- The script.

-- the commands, or the line of the first bad one and why it is bad
abbrev pub Asked : Type 0
Asked = Result (List Command) (ℕ × Why)

-- what stands behind the last `;` on this line and those after it: blanks and comments, or an unended command
unfoldable pub asked_at_end : ℕ → List ℕ → Asked
asked_at_end line rest =
    if is_clean rest then (if is_empty rest then Ok [] else Err (begins line rest, whys.Unended))
    else Err (if is_empty rest then first_unclean line rest else begins line rest, whys.Byte)

-- a command in front of those that are asked for behind it
abbrev pub then_asked : Command → Asked → Asked
then_asked command (Ok others) = Ok (command ∷ others)
then_asked command (Err bad) = Err bad

-- a command and those behind it, or that it is bad, on this line
abbrev pub judged_then : Result Command Why → ℕ → (Command → Asked) → Asked
judged_then (Err why) line behind = Err (line, why)
judged_then (Ok command) line behind = then_asked command (behind command)

-- the commands from this line on, behind those that have come
abbrev pub asked_from : ℕ → Before → List (List ℕ) → List ℕ → Asked
asked_from line before [] rest = asked_at_end line rest
asked_from line before (piece ∷ pieces) rest =
    judged_then (judged before piece) (begins line piece) (λ command. asked_from (line + line_ends piece) (with_command before command) pieces rest)

-- what a script asks for
abbrev pub asked : List ℕ → Asked
asked bytes = asked_from 1 nothing_before (pieces_of bytes).0 (pieces_of bytes).1

-- ---- What the reader gives.

-- the reader failed where this is asked for: at the first bad command, or as memory ran out
abbrev pub FailsOn : ScriptErr → Asked → Type 0
FailsOn (Bad line why) asked_for = asked_for ≡ Err (line, why)
FailsOn NoMemory asked_for = ⊤

-- what a function returned, seen by view, is what is asked for, unless memory ran out
abbrev pub AsksFor : {X : Type 0} → (X → List Command) → Result X ScriptErr → Asked → Type 0
AsksFor view (Ok x) asked_for = asked_for ≡ Ok (view x)
AsksFor view (Err error) asked_for = FailsOn error asked_for

-- a command from this line on was refused: it is bad, and begins on the line that is told, or memory ran out
abbrev pub FailsAt : ℕ → List ℕ → ScriptErr → Result Command Why → Type 0
FailsAt line piece (Bad told why) judgement = (judgement ≡ Err why) × (told ≡ begins line piece)
FailsAt line piece NoMemory judgement = ⊤

-- what a function returned for a command from this line on
abbrev pub JudgesOn : ℕ → List ℕ → Result Command ScriptErr → Result Command Why → Type 0
JudgesOn line piece (Ok command) judgement = judgement ≡ Ok command
JudgesOn line piece (Err error) judgement = FailsAt line piece error judgement
