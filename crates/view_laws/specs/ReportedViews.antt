-- What a view prints stands in the report of its run at that place: the printed lines are its head, its rows and their number, each
-- with the number of the command in front.
use Rattle.std.specs.Prelude.{◌≡◌, ℕ, ◌≤◌, ◌⊎◌, Bool, true, false, List, map, length, slice_get, Some}
use Rattle.report.specs.Report.{numbered, line_text}
use Rattle.run_rules.specs.Data.{AnswerLine, Command}
use Rattle.run_rules.specs.Data.commands
use Rattle.run_rules.specs.Data.happenings
use Rattle.run_rules.specs.Data.notices
use Rattle.run_rules.specs.Data.said
use Rattle.run_rules.specs.Facts.{command_at}
use Rattle.run_rules.specs.Lawful.{History}
use Rattle.run_rules.specs.Lines.{line}
use Rattle.run_rules.specs.Reported.{Ending, All_run, Out_of_memory, IsReported}
use Rattle.view_laws.specs.ViewLaws.{lines_upto, Prints}

-- whether a command shows a view of pending transactions
abbrev pub is_view : Command → Bool
is_view (commands.ShowPending n) = true
is_view (commands.ShowNeighbors n) = true
is_view _ = false

-- an answer stands at this place; where memory ran out there may be fewer
abbrev pub IsAnswerAt : List AnswerLine → Ending → ℕ → AnswerLine → Type 0
IsAnswerAt answers All_run place l = slice_get answers place ≡ Some l
IsAnswerAt answers Out_of_memory place l = (length answers ≤ place) ⊎ (slice_get answers place ≡ Some l)

-- A line is among the answers, behind those of the commands before, and this is its text.
pub record IsInReport (t : History) (answers : List AnswerLine) (ending : Ending) (i c : ℕ) (shows : List (List ℕ)) : Type 0 where
  pub stands : IsAnswerAt answers ending (length (lines_upto t i)) (line c (said.World (notices.Shown shows)))
  pub text : line_text (line c (said.World (notices.Shown shows))) ≡ map (numbered c) shows

-- Whatever a view prints is among the answers.
abbrev pub ViewsAreAmong : History → List AnswerLine → Ending → Type 0
ViewsAreAmong t answers ending = (i c : ℕ) (shows : List (List ℕ)) → slice_get t.trace i ≡ Some (happenings.Begun c) → is_view (command_at t.commands c) ≡ true → Prints t i c shows
    → IsInReport t answers ending i c shows

-- It is so of the report of each run.
abbrev pub ViewsAreReported : Type 0
ViewsAreReported = (t : History) (answers : List AnswerLine) (ending : Ending) → IsReported t answers ending → ViewsAreAmong t answers ending
