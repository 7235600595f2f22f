-- What the words of the command line ask for, as clap takes them, and how a call ends that was asked for it.
use Rattle.std.specs.Prelude.{◌≡◌, ℕ, Bool, List}
use Rattle.std.specs.Io.KnownBytes.{Keeps}
use Rattle.words.specs.CommandLine.{IsTaken, Means}
use Rattle.words.specs.declared.Words.{Words}
use Rattle.words.specs.declared.Words.TheVariants as words
use Rattle.script_run.specs.declared.outcome.Run.{Run}
use Rattle.script_run.specs.declared.outcome.Status.{Status}
use Rattle.script_run.specs.declared.outcome.Status.TheVariants.{NoMemory}
use Rattle.script_run.specs.Headline.{nothing_done}
use Rattle.script_run.specs.Ending.{Read, Written, IsUnread, EndsUnread, EndsRead}
use Rattle.script_run.specs.Making.{EndsMade}

-- the run of a script from the source, with the book or without
abbrev pub AskRun : Bool → List (List ℕ) → Type 0
AskRun with_book ws = Means ws (words.Run with_book)

-- the run of the script that is made from this number, with the book or without
abbrev pub AskMake : ℕ → Bool → List (List ℕ) → Type 0
AskMake number with_book ws = Means ws (words.Make number with_book)

-- they are not the program's: clap refuses them
abbrev pub AreOther : List (List ℕ) → Type 0
AreOther ws = IsTaken ws → ⊥

-- memory ran out before anything was read, run or written
pub record EndsAtOnce (r : Read) (w : Written) (run : Run) (status : Status) : Type 0 where
  pub unread : IsUnread r
  pub nothing : run ≡ nothing_done
  pub kept : Keeps w.before w.now
  pub spent : status ≡ NoMemory

-- how a call ends that was asked for this
abbrev pub EndsAsked : Words → Read → Written → Run → Status → Type 0
EndsAsked (words.Run book) r w run status = EndsRead book r w run status
EndsAsked (words.Make number book) r w run status = IsUnread r × EndsMade number book w run status
EndsAsked words.Usage r w run status = EndsUnread r w run status
EndsAsked words.NoMemory r w run status = EndsAtOnce r w run status
