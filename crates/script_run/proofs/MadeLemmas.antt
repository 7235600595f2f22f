-- How the run of a made script ends.
use Rattle.std.proofs.Common.{◌≡◌, ◌∙◌, ◌⊎◌, ℕ, Bool, List, ap, inl, inr, sym}
use Rattle.std.specs.Io.KnownBytes.{Keeps}
use Rattle.std.proofs.Math.Path.{ap₂}
use Rattle.book.specs.declared.happening.Happening.{Happening}
use Rattle.redo_record.specs.declared.place.Place.{Place}
use Rattle.script_read.specs.declared.command.Command.{Command}
use Rattle.run_rules.specs.Past.{past}
use Rattle.run_rules.specs.RunReport.{start}
use Rattle.run_rules.specs.Scripts.{places_of}
use Rattle.world.specs.Pending.{pending_in}
use Rattle.world.specs.Ran.{IsRan}
use Rattle.world.specs.declared.ran.Ended.TheVariants.{AllRun}
use Rattle.world.specs.declared.ran.EndedRun.{EndedRun}
use Rattle.script_run.specs.declared.outcome.Run.{Run}
use Rattle.script_run.specs.declared.outcome.Status.{Status}
use Rattle.script_run.specs.declared.outcome.Status.TheVariants.{Done, BadScript, Usage, NoMemory, ReadFault, WriteFault, TooLong}
use Rattle.script_run.specs.Headline.{nothing_done}
use Rattle.script_run.specs.Ending.{Written, EndsReported, RunIsWhole}
use Rattle.script_run.specs.Making.{EndsMade, IsOfNumber, made_output, pending_at_end}

-- the summary of a run of all the commands
pub made : (number : ℕ) (with_book : Bool) (w : Written) (run : Run) (status : Status) → IsOfNumber number run → RunIsWhole run → EndsReported w (made_output number with_book run) status → EndsMade number with_book w run status
made number with_book w run Done asks whole ends = (asks, whole, ends)
made number with_book w run WriteFault asks whole ends = (asks, whole, ends)
made number with_book w run NoMemory asks whole ends = (inl asks, ends)
made number with_book w run BadScript asks whole ends = absurd ends
made number with_book w run Usage asks whole ends = absurd ends
made number with_book w run ReadFault asks whole ends = absurd ends
made number with_book w run TooLong asks whole ends = absurd ends

-- memory ran out before the run, or in it
pub unmade : (number : ℕ) (with_book : Bool) (w : Written) (run : Run) → (IsOfNumber number run ⊎ (run ≡ nothing_done)) → Keeps w.before w.now → EndsMade number with_book w run NoMemory
unmade number with_book w run asks kept = (asks, kept)

-- the rows that are counted are those at the end of the run
pub pending_counted : (ran : EndedRun) (run : Run) → IsRan ran → ran.recorded.places ≡ places_of ran.recorded.asked → run.commands ≡ ran.recorded.asked → run.trace ≡ ran.recorded.happenings → ran.ended ≡ AllRun
    → ran.pending ≡ pending_at_end run
pending_counted ran run is places asked trace ended =
    is.pending ended
    ∙ (ap (λ (ps : List Place). pending_in (past ps ran.recorded.asked (start ps) ran.recorded.happenings).facts) places
    ∙ ap₂ (λ (cs : List Command) (hs : List Happening). pending_in (past (places_of cs) cs (start (places_of cs)) hs).facts) (sym asked) (sym trace))

pub ruleset made_ends = (made, unmade, pending_counted)
