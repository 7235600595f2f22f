-- What is asked for where a part of a script has been read.
use Rattle.std.specs.Prelude.{◌≡◌, ℕ, List, ◌∷◌, ◌++◌, Result, Ok, Err, ⊤}
use Rattle.script_read.specs.declared.command.Command.{Command}
use Rattle.script_read.specs.declared.reading.Reading.{Reading}
use Rattle.script_read.specs.declared.why.ScriptErr.{ScriptErr}
use Rattle.script_read.specs.Asked.{Asked, asked_from, FailsOn}

-- commands that were read before those asked for
abbrev pub then_all : List Command → Asked → Asked
then_all commands (Ok others) = Ok (commands ++ others)
then_all commands (Err bad) = Err bad

-- what is asked for where this was read, and the script goes on so
abbrev pub goes_on : Reading → List (List ℕ) → List ℕ → Asked
goes_on reading pieces rest = then_all reading.commands (asked_from reading.line reading.before pieces rest)

-- a command was read: however the script goes on, the same is asked for
abbrev pub ReadsOn : Reading → List ℕ → Reading → Type 0
ReadsOn old piece new = (pieces : List (List ℕ)) (rest : List ℕ) → goes_on old (piece ∷ pieces) rest ≡ goes_on new pieces rest

-- a command was refused: however the script goes on, it is bad there
abbrev pub Refuses : Reading → List ℕ → Result (Unit {0}) ScriptErr → Type 0
Refuses old piece (Ok done) = ⊤
Refuses old piece (Err error) = (pieces : List (List ℕ)) (rest : List ℕ) → FailsOn error (goes_on old (piece ∷ pieces) rest)
