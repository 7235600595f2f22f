-- A run so far as its trace has it, and what every trace keeps.
use Rattle.std.specs.Prelude.{◌≡◌, ◌≤◌, ℕ, List, length, take, Some}
use Rattle.node_rules.specs.Data.{Place}
use Rattle.run_rules.specs.Data.{Command, Entry, Happening}
use Rattle.run_rules.specs.Entries.{book_of}
use Rattle.run_rules.specs.RunReport.{Past, start}
use Rattle.run_rules.specs.Past.{past}
use Rattle.run_rules.specs.Due.{IsTheRun, comes_next}

-- The nodes of a run, its script, and what has happened of it.
pub record RunSoFar : Type 0 where
  pub places : List Place
  pub asked : List Command
  pub happenings : List Happening

-- what these happenings leave
abbrev pub past_of : RunSoFar → Past
past_of r = past r.places r.asked (start r.places) r.happenings

-- whether this is due next
abbrev pub IsDueNext : RunSoFar → Happening → Type 0
IsDueNext r h = comes_next r.places r.asked (past_of r) ≡ Some h

-- each happening was the one that was due: a first part of the run of the script, or all of it
abbrev pub IsRunOfScript : RunSoFar → Type 0
IsRunOfScript r = IsTheRun r.places r.asked (start r.places) r.happenings

-- One run so far goes on from another: what had happened has happened, and maybe more.
pub record Extends (before now : RunSoFar) : Type 0 where
  pub places : now.places ≡ before.places
  pub asked : now.asked ≡ before.asked
  pub longer : length before.happenings ≤ length now.happenings
  pub first : take (length before.happenings) now.happenings ≡ before.happenings

-- how many happenings a trace takes at most: 2 ^ 31
abbrev pub happening_limit : ℕ
happening_limit = 2147483648

-- What every trace keeps: each happening was due, they are not too many, and the book has the entries of their records.
pub record IsRecorded (places : List Place) (asked : List Command) (happenings : List Happening) (book : List Entry) : Type 0 where
  pub due : IsTheRun places asked (start places) happenings
  pub few : length happenings ≤ happening_limit
  pub entered : book ≡ book_of happenings
  pub kept : book ≡ (past places asked (start places) happenings).facts.book
