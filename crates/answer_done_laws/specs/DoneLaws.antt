-- Calls that are answered as done have their records: CREATE, ALTER SYSTEM, COMMIT FORCE, ROLLBACK FORCE and the purges.
-- (SQL Language Reference: CREATE TABLE, CREATE DATABASE LINK, CREATE SYNONYM; Database Administrator's Guide, "Managing
-- Distributed Transactions": manually overriding in-doubt transactions, purging pending rows, DBMS_TRANSACTION, disabling
-- and enabling RECO.)
use Rattle.std.specs.Prelude.{◌≡◌, ℕ, ◌==◌, ◌⊎◌, Bool, true, false, if◌then◌else◌, List, [], ◌∷◌, map, filter, IfSome, Option, Some, None}
use Rattle.std.specs.List.{list_any}
use Rattle.node_rules.specs.Data.{Stmt, Done, Answer, Refusal, RedoRecord, Place}
use Rattle.node_rules.specs.Data.answers
use Rattle.node_rules.specs.Inputs.{IsCall}
use Rattle.node_rules.specs.NodeState.{NodeState, TurnOutput}
use Rattle.run_rules.specs.Data.{Finished, Turn, Happening}
use Rattle.run_rules.specs.Data.happenings
use Rattle.run_rules.specs.Facts.{Facts, place_at, node_at, outcome_at}
use Rattle.run_rules.specs.Lawful.{History, IsLawfulRun}
use Rattle.run_base_laws.specs.NodeLaws.{AtEachFact}
use Rattle.run_rules.specs.Runs.{is_accepted}
use Rattle.run_claims.specs.Recorded.{is_recorded, is_of_statement, Records}

-- ---- what is answered

-- what a turn comes to ends these calls
abbrev pub ended_by : Option TurnOutput → List Finished
ended_by None = []
ended_by (Some o) = o.ended

-- the calls that a turn ends: a cut one ends none
abbrev pub ended_in : List Place → Facts → Turn → List Finished
ended_in places f u = if u.cut then [] else ended_by (outcome_at places f u)

-- the answers to the call of a session
abbrev pub answers_to : ℕ → List Finished → List Answer
answers_to n ended = map (λ x. x.answer) (filter (λ x. x.session == n) ended)

-- whether the call of a session is answered, and not by a refusal
abbrev pub is_done : ℕ → List Finished → Bool
is_done n ended = list_any (λ a. is_accepted (Some a)) (answers_to n ended)

-- ---- each way

-- The call of a statement is done: its record is written, and that is answered.
pub record Stands (p : Place) (k : NodeState) (n : ℕ) (s : Stmt) (wrote : Option RedoRecord) (ended : List Finished) : Type 0 where
  pub written : RedoRecord
  pub done : Done
  pub of : Records p k s written done
  pub stands : wrote ≡ Some written
  pub answered : answers_to n ended ≡ answers.Did done 0 ∷ []

-- a call of such a statement that a turn answers as done has its record written there
abbrev pub WritesWhatIsDone : List Place → Facts → Happening → Type 0
WritesWhatIsDone places f (happenings.Turn u) =
    (k : NodeState) → node_at f u.node ≡ Some k → (n : ℕ) (s : Stmt) → IsCall u.input n s → is_recorded s ≡ true → is_done n (ended_in places f u) ≡ true
    → Stands (place_at places u.node) k n s u.wrote (ended_in places f u)
WritesWhatIsDone places f _ = Unit {0}

-- in every lawful run each is so
abbrev pub DoneIsWritten : Type 0
DoneIsWritten = (t : History) → IsLawfulRun t → AtEachFact WritesWhatIsDone t

-- A record is written for the call of its statement, and that is answered unless the turn is cut.
pub record IsAsked (places : List Place) (f : Facts) (u : Turn) (k : NodeState) (r : RedoRecord) : Type 0 where
  pub session : ℕ
  pub statement : Stmt
  pub done : Done
  pub call : IsCall u.input session statement
  pub of : Records (place_at places u.node) k statement r done
  pub answered : u.cut ≡ false → answers_to session (ended_in places f u) ≡ answers.Did done 0 ∷ []

-- the record of such a statement is written in a turn that its call came to, and that answers it as done
abbrev pub DoesWhatIsWritten : List Place → Facts → Happening → Type 0
DoesWhatIsWritten places f (happenings.Turn u) = (k : NodeState) → node_at f u.node ≡ Some k → IfSome u.wrote (λ r. is_of_statement r ≡ true → IsAsked places f u k r)
DoesWhatIsWritten places f _ = Unit {0}

-- in every lawful run each is so
abbrev pub WrittenIsDone : Type 0
WrittenIsDone = (t : History) → IsLawfulRun t → AtEachFact DoesWhatIsWritten t

-- ---- at once

-- a call of such a statement is refused and nothing is written, or it is done, unless its turn is cut
abbrev pub AnswersAtOnce : List Place → Facts → Happening → Type 0
AnswersAtOnce places f (happenings.Turn u) =
    (k : NodeState) → node_at f u.node ≡ Some k → (n : ℕ) (s : Stmt) → IsCall u.input n s → is_recorded s ≡ true → u.cut ≡ false
    → ((u.wrote ≡ None) × (r : Refusal) × (answers_to n (ended_in places f u) ≡ answers.Refused r ∷ [])) ⊎ Stands (place_at places u.node) k n s u.wrote (ended_in places f u)
AnswersAtOnce places f _ = Unit {0}

-- in every lawful run each is so
abbrev pub EachIsAnswered : Type 0
EachIsAnswered = (t : History) → IsLawfulRun t → AtEachFact AnswersAtOnce t
