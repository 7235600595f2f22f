-- What is all_lines of the run of a script: its lines are those that are due, and SHOW DISK shows bytes that stand for the records
-- of its node.
use Rattle.std.specs.Prelude.{◌≡◌, ℕ, ◌⊎◌, Bool, true, false, List, [], ◌∷◌, ◌++◌, map, Some}
use Rattle.std.specs.List.{AllByRecursion}
use Rattle.redo_log.specs.Cells.{bodies}
use Rattle.redo_codec.specs.Record.{record_format}
use Rattle.node_rules.specs.Data.{RedoRecord}
use Rattle.run_rules.specs.Data.{Command, Said, AnswerLine, Happening}
use Rattle.run_rules.specs.Data.commands
use Rattle.run_rules.specs.Data.said
use Rattle.run_rules.specs.Data.notices
use Rattle.run_rules.specs.Data.happenings
use Rattle.run_rules.specs.Shown.{shown_disk}
use Rattle.run_rules.specs.Facts.{command_at, records_at, facts_of, first_facts}
use Rattle.run_rules.specs.RunReport.{Past, start}
use Rattle.run_rules.specs.Past.{past}
use Rattle.run_rules.specs.Lines.{all_lines}
use Rattle.run_rules.specs.Due.{Due, Begins, Ends, due_of}
use Rattle.run_rules.specs.Lawful.{History}

-- bytes of a disk stand for these records: they are a log whose bodies spell them
abbrev pub StandsFor : List ℕ → List RedoRecord → Type 0
StandsFor bytes rs = (bodies bytes ≡ Some (map record_format.text rs)) × AllByRecursion (λ r. record_format.Fits r) rs

-- whether a line shows a disk
abbrev pub is_shown_disk : Command → Said → Bool
is_shown_disk (commands.ShowDisk n) (said.World (notices.Shown [])) = true
is_shown_disk c s = false

-- the node of SHOW DISK
abbrev pub disk_of : Command → ℕ
disk_of (commands.ShowDisk n) = n
disk_of _ = 0

-- SHOW DISK shows bytes that stand for the records of its node when the command begins
abbrev pub ShowsDisk : History → ℕ → ℕ → Said → Type 0
ShowsDisk t command n s = (bytes : List ℕ) × (s ≡ said.World (notices.Shown (shown_disk bytes)))
    × ((before later : List Happening) → t.trace ≡ before ++ happenings.Begun command ∷ later → StandsFor bytes (records_at (facts_of t.places t.commands (first_facts t.places) before) n))

-- a line is the one that is due; of a disk the bytes are shown
abbrev pub LineIs : History → Bool → AnswerLine → AnswerLine → Type 0
LineIs t true due line = (line.command ≡ due.command) × ShowsDisk t due.command (disk_of (command_at t.commands due.command)) line.said
LineIs t false due line = line ≡ due

-- line by line
abbrev pub LinesAre : History → List AnswerLine → List AnswerLine → Type 0
LinesAre t [] [] = Unit {0}
LinesAre t (due ∷ dues) (line ∷ lines) = LineIs t (is_shown_disk (command_at t.commands due.command) due.said) due line × LinesAre t dues lines
LinesAre t _ _ = ⊥

-- what a whole run leaves
abbrev pub past_of : History → Past
past_of t = past t.places t.commands (start t.places) t.trace

-- How a run ended.
pub data Ending : Type 0 where
  All_run : Ending  -- its script was run to the end
  Out_of_memory : Ending  -- memory ran out

-- no command is under way: the next one is due, or the end
abbrev pub IsBetweenCommands : Due → Type 0
IsBetweenCommands (Begins c) = Unit {0}
IsBetweenCommands Ends = Unit {0}
IsBetweenCommands _ = ⊥

-- what is all_lines of a run that leaves this: all lines, where its script was run; where memory ran out, those of the commands
-- before the one that ran, and that one's too if it was done
abbrev pub IsReportedOf : History → Past → List AnswerLine → Ending → Type 0
IsReportedOf t p answers All_run = (due_of t.commands p ≡ Ends) × LinesAre t (all_lines p.facts p.run_report) answers
IsReportedOf t p answers Out_of_memory = LinesAre t p.run_report.lines answers ⊎ (IsBetweenCommands (due_of t.commands p) × LinesAre t (all_lines p.facts p.run_report) answers)

-- what is all_lines of a run
abbrev pub IsReported : History → List AnswerLine → Ending → Type 0
IsReported t answers ending = IsReportedOf t (past_of t) answers ending
