-- The captions of commands: the text and the answers of each, in lines that fit beside the lanes.
use Rattle.std.specs.Prelude.{ℕ, ◌+◌, ◌==◌, if◌then◌else◌, List, [], ◌∷◌, flat_map}
use Rattle.book.specs.declared.line.AnswerLine.{AnswerLine}
use Rattle.report.specs.Report.{said_text}
use Rattle.script_read.specs.declared.command.Command.{Command}
use Rattle.chart_marks.specs.declared.mark.Told.{Told}
use Rattle.chart_captions.specs.Commands.{command_text}
use Rattle.chart_captions.specs.Lines.{in_lines}

-- an answer, where it is one of this command
abbrev pub answer_if : ℕ → AnswerLine → List (List ℕ)
answer_if command l = if l.command == command then flat_map in_lines (said_text l.said) else []

-- the caption of a command with this number
abbrev pub reported_of : List (List ℕ) → List AnswerLine → ℕ → Command → Told
reported_of names answers n command = record { text = in_lines (command_text names command); answer = flat_map (answer_if n) answers }

-- the captions of commands, from this number on
abbrev pub tale_from : List (List ℕ) → List AnswerLine → ℕ → List Command → List Told
tale_from names answers n [] = []
tale_from names answers n (command ∷ commands) = reported_of names answers n command ∷ tale_from names answers (n + 1) commands
