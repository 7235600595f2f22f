-- How a call ends. Where the script was run to its end, the picture of the run is written; at each other end is done what dtx
-- does.
use Rattle.std.specs.Prelude.{◌≡◌, ◌⊎◌, ℕ, false, List, IsErr, codes}
use Rattle.std.specs.Io.KnownBytes.{Keeps, Appends}
use Rattle.dtx_values.specs.Limits.{script_limit}
use Rattle.dtx_ports.specs.Whole.{IsAll}
use Rattle.script_read.specs.Asked.{asked}
use Rattle.script_run.specs.declared.outcome.Run.{Run}
use Rattle.script_run.specs.declared.outcome.Status.{Status}
use Rattle.script_run.specs.declared.outcome.Status.TheVariants.{Done, BadScript, Usage, NoMemory, WriteFault}
use Rattle.script_run.specs.Headline.{nothing_done}
use Rattle.script_run.specs.Ending.{Read, Written, IsUnread, IsUnfailed, TextIsCut, IsAskedBy, RunIsWhole, EndsReported, EndsRead, due_of}
use Rattle.chart_words.specs.declared.Choices.{Choices}
use Rattle.chart_run.specs.Drawing.{picture_of}

-- what is written where the words are wrong
abbrev pub usage_line : List ℕ
usage_line = codes "usage: dtx_chart [--text] [--from N] [--to N]\n"

-- how the writing of a line ends in place of a picture, with this status where it is written whole
abbrev pub EndsLined : Status → Written → List ℕ → Status → Type 0
EndsLined due w line WriteFault = TextIsCut w line
EndsLined due w line status = (status ≡ due) × Appends w.before w.now line

-- how a call ends whose words are wrong: nothing is read or run, and the usage line is written, unless memory runs out before
pub record EndsUnread (r : Read) (w : Written) (run : Run) (status : Status) : Type 0 where
  pub unread : IsUnread r
  pub nothing : run ≡ nothing_done
  pub explained : EndsLined Usage w usage_line status ⊎ ((status ≡ NoMemory) × Keeps w.before w.now)

-- What is written where the run of a script ended with this status, and its report was this: the picture where all was run,
-- and the report where it is the line of a bad script. A report for which there is no room in memory has no picture.
abbrev pub EndsShown : Choices → Run → List ℕ → Status → Written → Status → Type 0
EndsShown wanted run report Done w status = EndsReported w (picture_of wanted run) status
EndsShown wanted run report BadScript w status = EndsLined BadScript w report status
EndsShown wanted run report WriteFault w status = (status ≡ NoMemory) × Keeps w.before w.now
EndsShown wanted run report ended w status = (status ≡ ended) × Keeps w.before w.now

-- the source was read to its end, it had these bytes, and its script was run to the end
pub record IsRunOf (r : Read) (bytes : List ℕ) (run : Run) : Type 0 where
  pub all : IsAll script_limit r.before r.now bytes
  pub unfailed : IsUnfailed r
  pub asked : IsAskedBy bytes run
  pub whole : RunIsWhole run

-- the source was read to its end, and its script is bad
pub record ScriptIsBad (r : Read) (bytes : List ℕ) (run : Run) : Type 0 where
  pub all : IsAll script_limit r.before r.now bytes
  pub unfailed : IsUnfailed r
  pub bad : IsErr (asked bytes)
  pub nothing : run ≡ nothing_done

-- How a call ends whose words are right: with the picture of the run, or as dtx ends.
abbrev pub EndsDrawn : Choices → Read → Written → Run → Status → Type 0
EndsDrawn wanted r w run Done = (bytes : List ℕ) × IsRunOf r bytes run × Appends w.before w.now (picture_of wanted run)
EndsDrawn wanted r w run WriteFault =
    (bytes : List ℕ) × (IsRunOf r bytes run × TextIsCut w (picture_of wanted run) ⊎ ScriptIsBad r bytes run × TextIsCut w (due_of (asked bytes) false run))
EndsDrawn wanted r w run status = EndsRead false r w run status
