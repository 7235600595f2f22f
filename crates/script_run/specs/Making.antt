-- How a call ends that runs the script of a number.
use Rattle.std.specs.Prelude.{◌≡◌, ◌++◌, ◌⊎◌, ℕ, Bool, List, [], if◌then◌else◌}
use Rattle.std.specs.Io.KnownBytes.{Appends, Keeps}
use Rattle.book.specs.Texts.{book_text}
use Rattle.run_rules.specs.Past.{past}
use Rattle.run_rules.specs.RunReport.{start}
use Rattle.run_rules.specs.Scripts.{names_asked, places_of}
use Rattle.make_script.specs.Script.{script_of}
use Rattle.make_script.specs.Summary.{summary_of}
use Rattle.world.specs.Pending.{pending_in}
use Rattle.script_run.specs.declared.outcome.Run.{Run}
use Rattle.script_run.specs.declared.outcome.Status.{Status}
use Rattle.script_run.specs.declared.outcome.Status.TheVariants.{Done, BadScript, Usage, NoMemory, ReadFault, WriteFault, TooLong}
use Rattle.script_run.specs.Headline.{nothing_done}
use Rattle.script_run.specs.Ending.{Written, IsAskedBy, TextIsCut, RunIsWhole}

-- how many rows of pending transactions all nodes have at the end of a run
abbrev pub pending_at_end : Run → ℕ
pending_at_end run = pending_in (past (places_of run.commands) run.commands (start (places_of run.commands)) run.trace).facts

-- what is printed of a number and its run: the summary, and then the book where that is wanted
abbrev pub made_output : ℕ → Bool → Run → List ℕ
made_output number with_book run =
    summary_of number run.commands run.answers run.book (pending_at_end run) ++ (if with_book then book_text (names_asked run.commands) run.book else [])

-- the commands of the run are those that the script of the number asks for
abbrev pub IsOfNumber : ℕ → Run → Type 0
IsOfNumber number run = IsAskedBy (script_of number) run

-- How a call ends that runs the script of a number, which is never a bad one.
abbrev pub EndsMade : ℕ → Bool → Written → Run → Status → Type 0
EndsMade number with_book w run Done = IsOfNumber number run × RunIsWhole run × Appends w.before w.now (made_output number with_book run)
EndsMade number with_book w run WriteFault = IsOfNumber number run × RunIsWhole run × TextIsCut w (made_output number with_book run)
EndsMade number with_book w run NoMemory = (IsOfNumber number run ⊎ (run ≡ nothing_done)) × Keeps w.before w.now
EndsMade number with_book w run BadScript = ⊥
EndsMade number with_book w run Usage = ⊥
EndsMade number with_book w run ReadFault = ⊥
EndsMade number with_book w run TooLong = ⊥
