-- A run that has ended.
use Rattle.std.specs.Prelude.{◌≡◌}
use Rattle.run_rules.specs.Due.{Ends}
use Rattle.run_rules.specs.Entries.{book_of}
use Rattle.run_rules.specs.Lawful.{AreOfAScript}
use Rattle.run_rules.specs.Reported.{Ending, All_run, Out_of_memory, IsReported}
use Rattle.run_trace.specs.Recorded.{RunSoFar, IsRunOfScript, past_of}
use Rattle.run_trace.specs.declared.trace.RunRecord.{RunRecord}
use Rattle.world.specs.Needs.{due_in}
use Rattle.world.specs.Left.{IsLeft, ReportsBetween}
use Rattle.world.specs.Pending.{pending_in}
use Rattle.world_parts.specs.Shown.{history_of}
use Rattle.world.specs.declared.ran.Ended.{Ended}
use Rattle.world.specs.declared.ran.Ended.TheVariants.{AllRun, OutOfMemory}
use Rattle.world.specs.declared.ran.EndedRun.{EndedRun}
use Rattle.world.specs.declared.world.World.{World}

-- how it ended, as the laws of runs have it
abbrev pub as_ending : Ended → Ending
as_ending AllRun = All_run
as_ending OutOfMemory = Out_of_memory

-- a run that was recorded
abbrev pub run_of : RunRecord → RunSoFar
run_of r = record { places = r.places; asked = r.asked; happenings = r.happenings }

-- The run of a script, or the first part of it where memory ran out, its book, what is told of it, and how many rows
-- DBA_2PC_PENDING has over all nodes where the script was run to the end.
pub record IsRan (ran : EndedRun) : Type 0 where
  pub due : IsRunOfScript (run_of ran.recorded)
  pub booked : ran.recorded.book ≡ book_of ran.recorded.happenings
  pub told : (script : AreOfAScript ran.recorded.places ran.recorded.asked) → IsReported (history_of (run_of ran.recorded) script) ran.answers (as_ending ran.ended)
  pub pending : ran.ended ≡ AllRun → ran.pending ≡ pending_in (past_of (run_of ran.recorded)).facts

-- what a world is left with whose run ended so
abbrev pub IsLeftBy : Ended → World → Type 0
IsLeftBy AllRun w = (due_in w.trace ≡ Ends) × ReportsBetween w
IsLeftBy OutOfMemory w = IsLeft w
