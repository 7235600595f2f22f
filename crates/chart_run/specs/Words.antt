-- What the words of the command line ask for, as clap takes them, and how a call ends that was asked for it.
use Rattle.std.specs.Prelude.{ℕ, List}
use Rattle.script_run.specs.declared.outcome.Run.{Run}
use Rattle.script_run.specs.declared.outcome.Status.{Status}
use Rattle.script_run.specs.Ending.{Read, Written}
use Rattle.script_run.specs.Words.{EndsAtOnce}
use Rattle.chart_words.specs.CommandLine.{IsTaken, Means}
use Rattle.chart_words.specs.declared.Choices.{Choices}
use Rattle.chart_words.specs.declared.Words.{Words}
use Rattle.chart_words.specs.declared.Words.TheVariants as words
use Rattle.chart_run.specs.Ending.{EndsDrawn, EndsUnread}

-- the picture of a run, as it is wanted
abbrev pub AskDraw : Choices → List (List ℕ) → Type 0
AskDraw wanted ws = Means ws (words.Draw wanted)

-- they are not the program's: clap refuses them
abbrev pub AreOther : List (List ℕ) → Type 0
AreOther ws = IsTaken ws → ⊥

-- how a call ends that was asked for this
abbrev pub EndsAsked : Words → Read → Written → Run → Status → Type 0
EndsAsked (words.Draw wanted) r w run status = EndsDrawn wanted r w run status
EndsAsked words.Usage r w run status = EndsUnread r w run status
EndsAsked words.NoMemory r w run status = EndsAtOnce r w run status
