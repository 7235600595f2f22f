-- Each command is answered once: its lines in the report are its answer, or `waiting` and later the answer with which its
-- pending call ended, and notices of what happened beside. (Database Administrator's Guide, "Distributed Transactions
-- Concepts": the session that waits for its call.)
use Rattle.std.specs.Prelude.{◌≡◌, ◌≢◌, ◌⊎◌, ℕ, ◌+◌, ◌<◌, ◌≤◌, ◌==◌, Bool, true, false, List, [], ◌∷◌, ◌++◌, map, filter, length, codes}
use Rattle.std.specs.List.{AllByRecursion}
use Rattle.node_rules.specs.Data.{Answer, Place}
use Rattle.node_rules.specs.Words.{one}
use Rattle.node_rules.specs.Ids.{decimal}
use Rattle.node_rules.specs.Refusals.{ora, dtx}
use Rattle.run_rules.specs.Data.{AnswerLine, Command, Said}
use Rattle.run_rules.specs.Data.commands
use Rattle.run_rules.specs.Data.notices
use Rattle.run_rules.specs.Data.said
use Rattle.run_rules.specs.Due.{Ends, due_of}
use Rattle.run_rules.specs.Facts.{Facts, command_at}
use Rattle.run_rules.specs.Lawful.{History}
use Rattle.run_rules.specs.Lines.{all_lines, is_down, refuses_with}
use Rattle.run_rules.specs.Reported.{IsBetweenCommands, past_of}
use Rattle.run_rules.specs.RunReport.{node_name}
use Rattle.run_rules.specs.Scripts.{IsTheRunOf}
use Rattle.run_rules.specs.Shown.{shown}
use Rattle.run_claims.specs.Places.{command_pends, past_upto, reported_of}

-- ---- what a line says

-- What ends a pending call: the answer of a node, or DTX-01 where its node stopped.
pub data EndsPendingCall (places : List Place) : Said → Type 0 where
  By_node : (a : Answer) → EndsPendingCall places (said.Node a)
  Node_is_down : (n : ℕ) → EndsPendingCall places (is_down places n)

-- the commands that show something
abbrev pub is_show : Command → Bool
is_show (commands.ShowPending n) = true
is_show (commands.ShowNeighbors n) = true
is_show commands.ShowBook = true
is_show commands.ShowNet = true
is_show (commands.ShowDisk n) = true
is_show (commands.ShowUndo n) = true
is_show _ = false

-- An answer of a command: what ends its call; `ok`; a refusal of the run itself, by its DTX number, but for DTX-05; what SHOW shows.
pub data IsAnswer (places : List Place) (command : Command) : Said → Type 0 where
  Ends_pending_call : (s : Said) → EndsPendingCall places s → IsAnswer places command s
  Is_fine : IsAnswer places command (said.World notices.Fine)
  Is_refused : (number : ℕ) (words : List (List ℕ)) → number ≢ 5 → IsAnswer places command (refuses_with (dtx number words))
  Is_shown : (f : Facts) → is_show command ≡ true → IsAnswer places command (said.World (notices.Shown (shown places f command)))

-- A notice, which is nobody's answer: a point of the command's comment was reached (ORA-02059); a node stopped in its
-- course; messages are left after as many deliveries as a command may make (DTX-05).
pub data IsNotice (places : List Place) : Said → Type 0 where
  Point_is_reached : (number : ℕ) → IsNotice places (refuses_with (ora 2059 (one (decimal number))))
  Node_stopped : (n : ℕ) → IsNotice places (said.World (notices.Shown (one (codes "node " ++ node_name places n ++ codes " stopped"))))
  Messages_are_left : IsNotice places (refuses_with (dtx 5 []))

abbrev pub AreNotices : List Place → List Said → Type 0
AreNotices places xs = AllByRecursion (IsNotice places) xs

-- waiting
abbrev pub waiting : Said
waiting = said.World notices.Waiting

-- What the lines of a command say that was done, by whether its call is still pending: one answer; or `waiting`, and once the
-- call has ended one answer more. All else are notices.
pub data AnswersOnce (places : List Place) (command : Command) : Bool → List Said → Type 0 where
  At_once : (a : Said) (beside : List Said) → IsAnswer places command a → AreNotices places beside → AnswersOnce places command false (a ∷ beside)
  Waits : (beside : List Said) → AreNotices places beside → AnswersOnce places command true (waiting ∷ beside)
  Ends_later : (before : List Said) (a : Said) (after : List Said) → AreNotices places before → EndsPendingCall places a → AreNotices places after → AnswersOnce places command false (waiting ∷ before ++ a ∷ after)

-- ---- the report

-- the report as it stands after so many happenings
abbrev pub report_upto : History → ℕ → List AnswerLine
report_upto t i = all_lines (past_upto t i).facts (past_upto t i).run_report

-- what the lines with the number of a command say, in their order
abbrev pub said_of : ℕ → List AnswerLine → List Said
said_of command xs = map (λ (l : AnswerLine). l.said) (filter (λ (l : AnswerLine). l.command == command) xs)

-- a command was done: another one runs, or nothing of it is due any more
abbrev pub WasDone : History → ℕ → ℕ → Type 0
WasDone t i command =
    (1 ≤ command) × ((command < (past_upto t i).facts.command) ⊎ ((command ≡ (past_upto t i).facts.command) × IsBetweenCommands (due_of t.commands (past_upto t i))))

-- After each happening each command that was done is answered once.
abbrev pub EachIsAnsweredOnce : History → Type 0
EachIsAnsweredOnce t = (i command : ℕ) → WasDone t i command → AnswersOnce t.places (command_at t.commands command) (command_pends t i command) (said_of command (report_upto t i))

-- So it is of all commands in the whole report, where the script was run to its end.
abbrev pub AllAreAnsweredOnce : History → Type 0
AllAreAnsweredOnce t = due_of t.commands (past_of t) ≡ Ends → (command : ℕ) → 1 ≤ command → command ≤ length t.commands
    → (pending : Bool) × AnswersOnce t.places (command_at t.commands command) pending (said_of command (reported_of t))

-- ---- the later answer

-- the lines of the commands before the one that runs
abbrev pub lines_before : History → ℕ → List AnswerLine
lines_before t i = (past_upto t i).run_report.lines

-- The pending call of an earlier command ended in this happening: the commands before the one that runs told nothing of its
-- answer, which is told in the lines of the command that runs.
pub record EndsInThisCommand (t : History) (i command : ℕ) : Type 0 where
  pub beside : List Said
  pub notices : AreNotices t.places beside
  pub before : said_of command (lines_before t i) ≡ waiting ∷ beside
  pub here : List AnswerLine
  pub page : report_upto t (i + 1) ≡ lines_before t i ++ here
  pub answer : Said
  pub ends : EndsPendingCall t.places answer
  pub after : List Said
  pub after_notices : AreNotices t.places after
  pub says : said_of command here ≡ answer ∷ after

-- So the answer that comes later stands with the command in whose course the call ended.
abbrev pub LaterAnswersStandWhereCallsEnd : History → Type 0
LaterAnswersStandWhereCallsEnd t = (i command : ℕ) → 1 ≤ command → command < (past_upto t i).facts.command → command_pends t i command ≡ true → command_pends t (i + 1) command ≡ false → EndsInThisCommand t i command

-- In the run of a script it is so.
abbrev pub EveryCommandIsAnsweredOnce : Type 0
EveryCommandIsAnsweredOnce = (t : History) → IsTheRunOf t → EachIsAnsweredOnce t × AllAreAnsweredOnce t × LaterAnswersStandWhereCallsEnd t
