-- How a run of the program ends: each status with its cause, and the bytes read and written.
use Rattle.std.specs.Prelude.{◌≡◌, ◌++◌, ◌≤◌, ◌⊎◌, ℕ, Bool, List, Option, Some, Ok, Err, IsOk, IsErr, length, codes}
use Rattle.std.specs.Io.KnownBytes.{Keeps, Appends}
use Rattle.dtx_values.specs.Limits.{script_limit}
use Rattle.dtx_ports.specs.Causes.{Rose}
use Rattle.dtx_ports.specs.Whole.{IsAll, IsTooLong, ReadsWithin, AppendsPrefix}
use Rattle.tran_ids.specs.Numbers.{decimal}
use Rattle.script_read.specs.Asked.{Asked, asked}
use Rattle.script_read.specs.declared.why.Why.{Why}
use Rattle.script_read.specs.declared.why.Why.TheVariants as whys
use Rattle.run_rules.specs.RunReport.{start}
use Rattle.run_rules.specs.Past.{past}
use Rattle.run_rules.specs.Due.{Ends, due_of as next_due}
use Rattle.run_rules.specs.Reported.{Ending, All_run, Out_of_memory}
use Rattle.run_rules.specs.Scripts.{places_of}
use Rattle.script_run.specs.declared.outcome.Run.{Run}
use Rattle.script_run.specs.declared.outcome.Status.{Status}
use Rattle.script_run.specs.declared.outcome.Status.TheVariants.{Done, BadScript, Usage, NoMemory, ReadFault, WriteFault, TooLong}
use Rattle.script_run.specs.Headline.{nothing_done}
use Rattle.script_run.specs.Report.{output_of}

-- the exit status of each end
abbrev pub status_code : Status → ℕ
status_code Done = 0
status_code BadScript = 1
status_code Usage = 2
status_code NoMemory = 3
status_code ReadFault = 4
status_code WriteFault = 5
status_code TooLong = 6

-- what is written where the words are wrong
abbrev pub usage_line : List ℕ
usage_line = codes "usage: dtx [--book] [--make N]\n"

-- how the run ended: memory ran out, or nothing is due any more
abbrev pub ending_of : Status → Ending
ending_of NoMemory = Out_of_memory
ending_of Done = All_run
ending_of BadScript = All_run
ending_of Usage = All_run
ending_of ReadFault = All_run
ending_of WriteFault = All_run
ending_of TooLong = All_run

-- why a command is bad
abbrev pub why_text : Why → List ℕ
why_text whys.Byte = codes "bad byte"
why_text whys.Unended = codes "unended command"
why_text whys.LateNode = codes "node after other commands"
why_text whys.Form = codes "bad command"
why_text whys.Twice = codes "node named twice"
why_text whys.Many = codes "more than 16 nodes"
why_text whys.Unknown = codes "unknown node"

-- what is written of a script whose first bad command is on this line, for this reason
abbrev pub refusal_line : ℕ → Why → List ℕ
refusal_line line why = codes "line " ++ decimal line ++ codes ": " ++ why_text why ++ codes "\n"

-- what is due of a script: what its run prints, or the line of its first bad command and why it is bad
abbrev pub due_of : Asked → Bool → Run → List ℕ
due_of (Ok commands) with_book run = output_of with_book run
due_of (Err bad) with_book run = refusal_line bad.0 bad.1

-- the bytes left in a source and its count of faults, before the call and after
pub record Read : Type 0 where
  pub before : Option (List ℕ)
  pub now : Option (List ℕ)
  pub faults_before : ℕ
  pub faults_now : ℕ

-- the bytes written to a sink and its count of faults, before the call and after
pub record Written : Type 0 where
  pub before : Option (List ℕ)
  pub now : Option (List ℕ)
  pub faults_before : ℕ
  pub faults_now : ℕ

-- no read of the source failed
abbrev pub IsUnfailed : Read → Type 0
IsUnfailed r = r.faults_now ≡ r.faults_before

-- the source was not read
abbrev pub IsUnread : Read → Type 0
IsUnread r = (r.now ≡ r.before) × IsUnfailed r

-- only the first bytes of the text were written, and the sink failed
pub record TextIsCut (w : Written) (text : List ℕ) : Type 0 where
  pub front : AppendsPrefix w.before w.now text
  pub failed : Rose w.faults_before w.faults_now

-- the commands of the run are those that these bytes ask for
abbrev pub IsAskedBy : List ℕ → Run → Type 0
IsAskedBy bytes run = asked bytes ≡ Ok run.commands

-- each command was run, and nothing is due any more
abbrev pub RunIsWhole : Run → Type 0
RunIsWhole run = next_due run.commands (past (places_of run.commands) run.commands (start (places_of run.commands)) run.trace) ≡ Ends

-- how the writing of the usage line ends
abbrev pub EndsExplained : Written → Status → Type 0
EndsExplained w Usage = Appends w.before w.now usage_line
EndsExplained w WriteFault = TextIsCut w usage_line
EndsExplained w Done = ⊥
EndsExplained w BadScript = ⊥
EndsExplained w NoMemory = ⊥
EndsExplained w ReadFault = ⊥
EndsExplained w TooLong = ⊥

-- how a call ends whose words are wrong: nothing is read or run, and the usage line is written, unless memory runs out before
pub record EndsUnread (r : Read) (w : Written) (run : Run) (status : Status) : Type 0 where
  pub unread : IsUnread r
  pub nothing : run ≡ nothing_done
  pub explained : EndsExplained w status ⊎ ((status ≡ NoMemory) × Keeps w.before w.now)

-- how the writing of the line ends that refuses a script which is bad on this line, for this reason; it takes no memory
abbrev pub EndsRefused : Written → ℕ → Why → Status → Type 0
EndsRefused w line why BadScript = Appends w.before w.now (refusal_line line why)
EndsRefused w line why WriteFault = TextIsCut w (refusal_line line why)
EndsRefused w line why NoMemory = ⊥
EndsRefused w line why Done = ⊥
EndsRefused w line why Usage = ⊥
EndsRefused w line why ReadFault = ⊥
EndsRefused w line why TooLong = ⊥

-- how the writing of this output ends
abbrev pub EndsReported : Written → List ℕ → Status → Type 0
EndsReported w output Done = Appends w.before w.now output
EndsReported w output WriteFault = TextIsCut w output
EndsReported w output NoMemory = Keeps w.before w.now
EndsReported w output BadScript = ⊥
EndsReported w output Usage = ⊥
EndsReported w output ReadFault = ⊥
EndsReported w output TooLong = ⊥

-- how a run of the script with these bytes ends
abbrev pub EndsOn : List ℕ → Bool → Written → Run → Status → Type 0
EndsOn bytes with_book w run Done = IsAskedBy bytes run × RunIsWhole run × Appends w.before w.now (output_of with_book run)
EndsOn bytes with_book w run BadScript = IsErr (asked bytes) × (run ≡ nothing_done) × Appends w.before w.now (due_of (asked bytes) with_book run)
EndsOn bytes with_book w run WriteFault = ((IsAskedBy bytes run × RunIsWhole run) ⊎ (IsErr (asked bytes) × (run ≡ nothing_done))) × TextIsCut w (due_of (asked bytes) with_book run)
EndsOn bytes with_book w run NoMemory = (IsAskedBy bytes run ⊎ (run ≡ nothing_done)) × Keeps w.before w.now
EndsOn bytes with_book w run Usage = ⊥
EndsOn bytes with_book w run ReadFault = ⊥
EndsOn bytes with_book w run TooLong = ⊥

-- the source was read to its end, which came within the limit, and the run of these bytes ends so
abbrev pub EndsWithin : Bool → Read → Written → Run → Status → Type 0
EndsWithin with_book r w run status = (bytes : List ℕ) × IsAll script_limit r.before r.now bytes × IsUnfailed r × EndsOn bytes with_book w run status

-- How a call ends whose words are right, with the book or without. One byte past the limit is read exactly where the status
-- is TooLong, and a read failed exactly where it is ReadFault.
abbrev pub EndsRead : Bool → Read → Written → Run → Status → Type 0
EndsRead with_book r w run ReadFault = (run ≡ nothing_done) × Keeps w.before w.now × ReadsWithin script_limit r.before r.now × Rose r.faults_before r.faults_now
EndsRead with_book r w run TooLong = (run ≡ nothing_done) × Keeps w.before w.now × IsTooLong script_limit r.before r.now × IsUnfailed r
EndsRead with_book r w run NoMemory = ((run ≡ nothing_done) × Keeps w.before w.now × ReadsWithin script_limit r.before r.now × IsUnfailed r) ⊎ EndsWithin with_book r w run NoMemory
EndsRead with_book r w run Usage = ⊥
EndsRead with_book r w run Done = EndsWithin with_book r w run Done
EndsRead with_book r w run BadScript = EndsWithin with_book r w run BadScript
EndsRead with_book r w run WriteFault = EndsWithin with_book r w run WriteFault

-- done, or out of memory
abbrev pub EndsWell : Status → Type 0
EndsWell status = (status ≡ Done) ⊎ (status ≡ NoMemory)

-- A source that tells bytes within the limit, a script in the grammar and no fault of either end give the report.
abbrev pub IsComplete : Read → Written → Status → Type 0
IsComplete r w status =
    (bytes : List ℕ) → r.before ≡ Some bytes → length bytes ≤ script_limit → IsOk (asked bytes)
    → (Rose r.faults_before r.faults_now → ⊥) → (Rose w.faults_before w.faults_now → ⊥) → EndsWell status
