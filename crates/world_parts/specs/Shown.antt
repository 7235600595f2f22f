-- What SHOW DISK shows in the course of a run.
use Rattle.std.specs.Prelude.{◌≡◌, ◌==◌, ℕ, Bool, true, false, if◌then◌else◌, List, [], ◌∷◌, ◌++◌, is_some, nat_eq, Option, Some, None}
use Rattle.std.specs.List.{AllByRecursion}
use Rattle.std.specs.Map.{lookup}
use Rattle.run_rules.specs.Data.{Happening, AnswerLine, Said}
use Rattle.run_rules.specs.Data.said
use Rattle.run_rules.specs.Data.notices
use Rattle.run_rules.specs.Data.happenings
use Rattle.run_rules.specs.Data.commands
use Rattle.run_rules.specs.Facts.{command_at, records_at, facts_of, first_facts}
use Rattle.run_rules.specs.Reported.{StandsFor}
use Rattle.run_rules.specs.Lawful.{History, AreOfAScript}
use Rattle.run_rules.specs.Shown.{shown_disk}
use Rattle.run_trace.specs.Recorded.{RunSoFar}

-- a run so far, as the laws of runs have it
abbrev pub history_of : (r : RunSoFar) → AreOfAScript r.places r.asked → History
history_of r script = record { places = r.places; commands = r.asked; of_a_script = script; trace = r.happenings }

-- a command has begun
abbrev pub CommandHasBegun : RunSoFar → ℕ → Type 0
CommandHasBegun r c = (before : List Happening) × (later : List Happening) × (r.happenings ≡ before ++ happenings.Begun c ∷ later)

-- the lines are those of a disk that held its node's records when this command, a SHOW DISK, began
pub record ShowsDiskAt (r : RunSoFar) (command : ℕ) (lines : List (List ℕ)) : Type 0 where
  pub begun : CommandHasBegun r command
  pub node : ℕ
  pub is : command_at r.asked command ≡ commands.ShowDisk node
  pub bytes : List ℕ
  pub lines_are : lines ≡ shown_disk bytes
  pub stands : (before later : List Happening) → r.happenings ≡ before ++ happenings.Begun command ∷ later → StandsFor bytes (records_at (facts_of r.places r.asked (first_facts r.places) before) node)

-- what SHOW DISK has shown, by the numbers of its commands
abbrev pub Shown : Type 0
Shown = List (ℕ × List (List ℕ))

-- what this command has shown
abbrev pub shown_at : Shown → ℕ → Option (List (List ℕ))
shown_at shown command = lookup (nat_eq command) shown

-- What is shown is so, and there is something for each SHOW DISK that has begun.
pub record ShowDisks (r : RunSoFar) (shown : Shown) : Type 0 where
  pub each : (command : ℕ) (lines : List (List ℕ)) → shown_at shown command ≡ Some lines → ShowsDiskAt r command lines
  pub all : (command n : ℕ) → CommandHasBegun r command → command_at r.asked command ≡ commands.ShowDisk n → is_some (shown_at shown command) ≡ true

-- whether a line stands for the bytes of a disk
abbrev pub is_place : Said → Bool
is_place (said.World (notices.Shown [])) = true
is_place s = false

-- the commands of the lines that do
abbrev pub places_in : List AnswerLine → List ℕ
places_in [] = []
places_in (line ∷ lines) = if is_place line.said then line.command ∷ places_in lines else places_in lines

-- each of these numbers stands there once
abbrev pub IsOnce : List ℕ → Type 0
IsOnce [] = Unit {0}
IsOnce (c ∷ cs) = AllByRecursion (λ d. c == d ≡ false) cs × IsOnce cs

-- a line with these lines in the place of what it says, where there are some
abbrev pub showing : AnswerLine → Option (List (List ℕ)) → AnswerLine
showing line None = line
showing line (Some lines) = record line { said = said.World (notices.Shown lines) }

-- a line as it is told: where it stands for the bytes of a disk, with what its command showed
abbrev pub disk_reported : Shown → AnswerLine → AnswerLine
disk_reported shown line = if is_place line.said then showing line (shown_at shown line.command) else line
