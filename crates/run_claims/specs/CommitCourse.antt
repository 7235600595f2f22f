-- The course of a COMMIT in the run of a script: with HOLD off its messages are delivered one after the other, in order of
-- number, until none is in flight; then the call has been answered, and the next command begins. So an administrator sees
-- that a COMMIT that nothing disturbs is complete in its own command. A CREATE in a transaction commits it first: its command
-- goes on the same way, and the CREATE itself comes right after the turn in which its COMMIT is complete. (Database
-- Administrator's Guide, "Distributed Transactions Concepts": two-phase commit mechanism.)
use Rattle.std.specs.Prelude.{◌≡◌, ℕ, ◌∷◌, ◌++◌, true, false, List, [], slice_get, Some, None}
use Rattle.std.specs.List.{AllByRecursion}
use Rattle.node_rules.specs.Data.{Place, Stmt}
use Rattle.node_rules.specs.Data.stmts
use Rattle.node_rules.specs.Inputs.{IsCall}
use Rattle.node_rules.specs.Sessions.{session_at, commit_complete}
use Rattle.net_bag.specs.Net.{first_flying}
use Rattle.run_rules.specs.Commands.{commits_first}
use Rattle.run_rules.specs.Data.{Command, Turn, Happening}
use Rattle.run_rules.specs.Data.commands
use Rattle.run_rules.specs.Data.happenings
use Rattle.run_rules.specs.Due.{next_command, due_of}
use Rattle.run_rules.specs.Facts.{command_at}
use Rattle.run_rules.specs.Reported.{IsBetweenCommands}
use Rattle.run_rules.specs.Scripts.{IsTheRunOf}
use Rattle.run_rules.specs.Lawful.{History}
use Rattle.run_rules.specs.Lines.{spent}
use Rattle.run_rules.specs.Past.{past}
use Rattle.run_claims.specs.Places.{node_line, reported_of}
use Rattle.run_rules.specs.RunReport.{Past, start}
use Rattle.run_claims.specs.Undisturbed.{Commit, Undisturbed, CommitIsComplete, LostNone, HasNotStopped, NoneComesIn, facts_by, branches_by, answers_from, commit_answers_from}

-- what these happenings leave, with what is told of them
abbrev pub past_by : List Place → List Command → List Happening → Past
past_by places asked hs = past places asked (start places) hs

-- a command goes on, and well: it is not the next one that begins, no turn is cut, no message is lost and no node stops
abbrev pub GoesWell : Happening → Type 0
GoesWell (happenings.Begun c) = ⊥
GoesWell (happenings.Turn u) = u.cut ≡ false
GoesWell (happenings.Lost k) = ⊥
GoesWell (happenings.Stopped n) = ⊥
GoesWell _ = Unit {0}

-- A COMMIT at the end of the first part of a run, whose command has gone well so far: the command is COMMIT itself, HOLD is
-- off, and the turn of the call is whole.
pub record CommitIsUnderWay (t : History) (front later : List Happening) (c : Commit t.places t.commands front) : Type 0 where
  pub within : front ++ later ≡ t.trace
  pub own : command_at t.commands (facts_by t.places t.commands c.before).command ≡ commands.At c.call.node c.session (Some (stmts.Commit c.comment))
  pub off : (past_by t.places t.commands c.before).run_report.hold ≡ false
  pub whole : c.call.cut ≡ false
  pub well : AllByRecursion GoesWell c.during

-- The COMMIT of a CREATE at the end of the first part of a run, whose command has gone well so far: the command is that CREATE,
-- HOLD is off, and the turn of the COMMIT's call is whole.
pub record CreateIsUnderWay (t : History) (front later : List Happening) (c : Commit t.places t.commands front) (s : Stmt) : Type 0 where
  pub within : front ++ later ≡ t.trace
  pub creates : commits_first s ≡ true
  pub own : command_at t.commands (facts_by t.places t.commands c.before).command ≡ commands.At c.call.node c.session (Some s)
  pub off : (past_by t.places t.commands c.before).run_report.hold ≡ false
  pub whole : c.call.cut ≡ false
  pub well : AllByRecursion GoesWell c.during

-- The command of a COMMIT goes well: it is COMMIT itself, or a CREATE, which commits first.
pub data IsUnderWay (t : History) (front later : List Happening) (c : Commit t.places t.commands front) : Type 0 where
  Of_commit : CommitIsUnderWay t front later c → IsUnderWay t front later c
  Of_create : (s : Stmt) → CreateIsUnderWay t front later c s → IsUnderWay t front later c

-- ---- what comes next

-- the message of this number is delivered, for the first time, in a turn that is whole
abbrev pub Delivers : ℕ → Happening → Type 0
Delivers k (happenings.Turn u) = (u.cut ≡ false) × (u.took ≡ Some (record { number = k; again = false }))
Delivers k _ = ⊥

-- In the run of a script, while messages are in flight in the command of a COMMIT that goes well, the first of them is
-- delivered next, up to 4,096 in a command.
abbrev pub CommitsFlow : Type 0
CommitsFlow = (t : History) → IsTheRunOf t → (front later : List Happening) (h : Happening) (c : Commit t.places t.commands front) → CommitIsUnderWay t front (h ∷ later) c → GoesWell h
    → (k : ℕ) → first_flying (facts_by t.places t.commands front).net ≡ Some k → spent (past_by t.places t.commands front).run_report.deliveries ≡ false → Delivers k h

-- the answers that the call of a COMMIT has had
abbrev pub CommitIsAnswered : (t : History) (front : List Happening) → Commit t.places t.commands front → Type 0
CommitIsAnswered t front c = answers_from t.places t.commands (facts_by t.places t.commands c.before) c.call.node c.session (happenings.Turn c.call ∷ c.during) ≡ commit_complete ∷ []

-- no loss is to be told, and no message is in flight
abbrev pub IsStill : (t : History) (front : List Happening) → Type 0
IsStill t front = ((facts_by t.places t.commands front).losses_to_report ≡ []) × (first_flying (facts_by t.places t.commands front).net ≡ None)

-- In the run of a script, where such a COMMIT has been answered and nothing is in flight any more, no call is pending, and the
-- next command is due, or the end of the script.
abbrev pub CommitsEnd : Type 0
CommitsEnd = (t : History) → IsTheRunOf t → (front later : List Happening) (c : Commit t.places t.commands front) → CommitIsUnderWay t front later c → CommitIsAnswered t front c → IsStill t front
    → ((past_by t.places t.commands front).run_report.calls ≡ []) × (due_of t.commands (past_by t.places t.commands front) ≡ next_command t.commands (facts_by t.places t.commands front))

-- the report has the line of a COMMIT's command: Commit complete
abbrev pub IsReportedComplete : (t : History) (front : List Happening) → Commit t.places t.commands front → Type 0
IsReportedComplete t front c = (i : ℕ) × (slice_get (reported_of t) i ≡ Some (node_line (facts_by t.places t.commands c.before).command commit_complete))

-- In the run of a script, where such a COMMIT has been answered in its command, the report says so.
abbrev pub AnsweredCommitsAreReported : Type 0
AnsweredCommitsAreReported = (t : History) → IsTheRunOf t → (front later : List Happening) (c : Commit t.places t.commands front) → CommitIsUnderWay t front later c → CommitIsAnswered t front c → IsReportedComplete t front c

-- ---- a quiet COMMIT

-- A COMMIT of the run of a script is quiet, that of a CREATE too: no statement of its transaction asked for a rollback; HOLD is
-- off and nothing is in flight when it is called; until its command is done, so that the next one or the end of the script is due, no turn is
-- cut, no message is lost and no node stops; of its transaction no message was lost before, no node of its branches has
-- stopped since they began, and neither a rollback nor a question of the recoverer came to any of them.
pub record QuietCommit (t : History) (front later : List Happening) (c : Commit t.places t.commands front) : Type 0 where
  pub goes : IsUnderWay t front later c
  pub done : IsBetweenCommands (due_of t.commands (past_by t.places t.commands front))
  pub goes_on : (session_at c.kept.sessions c.session).code ≡ None
  pub still : first_flying (facts_by t.places t.commands c.before).net ≡ None
  pub lost : LostNone (branches_by t.places t.commands front c.root) (facts_by t.places t.commands front).net.packets
  pub stopped : AllByRecursion (HasNotStopped (facts_by t.places t.commands front)) (branches_by t.places t.commands front c.root)
  pub calm : AllByRecursion (NoneComesIn (branches_by t.places t.commands front c.root)) front

-- A CREATE itself comes in a whole turn of its command, after its COMMIT was answered.
pub record CreateHasCome (t : History) (front : List Happening) (c : Commit t.places t.commands front) (s : Stmt) : Type 0 where
  pub before : List Happening
  pub turn : Turn
  pub later : List Happening
  pub is : before ++ happenings.Turn turn ∷ later ≡ c.during
  pub here : turn.node ≡ c.call.node
  pub asks : IsCall turn.input c.session s
  pub whole : turn.cut ≡ false
  pub answered : commit_answers_from t.places t.commands (facts_by t.places t.commands c.before) c.call.node c.session (happenings.Turn c.call ∷ before) ≡ commit_complete ∷ []

-- A COMMIT is undisturbed, and it is complete when its command is done. The report says so where the command is COMMIT; where
-- it is a CREATE, the CREATE itself has come.
pub record IsDone (t : History) (front : List Happening) (c : Commit t.places t.commands front) : Type 0 where
  pub undisturbed : Undisturbed t.places t.commands front c
  pub complete : CommitIsComplete t.places t.commands front c
  pub told : command_at t.commands (facts_by t.places t.commands c.before).command ≡ commands.At c.call.node c.session (Some (stmts.Commit c.comment)) → IsReportedComplete t front c
  pub created : (s : Stmt) → commits_first s ≡ true → command_at t.commands (facts_by t.places t.commands c.before).command ≡ commands.At c.call.node c.session (Some s) → CreateHasCome t front c s

-- Each quiet COMMIT of a run is.
abbrev pub QuietCommitsAreDone : History → Type 0
QuietCommitsAreDone t = (front later : List Happening) (c : Commit t.places t.commands front) → QuietCommit t front later c → IsDone t front c

-- So it is in the run of every script.
abbrev pub QuietCommitsAreComplete : Type 0
QuietCommitsAreComplete = (t : History) → IsTheRunOf t → QuietCommitsAreDone t
