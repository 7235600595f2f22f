-- What the report answers to COMMIT is true. A line that says that a transaction was rolled back is right for ever: no branch
-- of it is decided in the book, up to the end of the run. A line that says that it is committed has its decision in the book;
-- or the session had no transaction, or none of its session tree had changes, or the transaction was READ ONLY. And each of
-- these lines has its cause: what stood in the book, and what came, in the turn that answered it (CommitCauses). A client is
-- told that its node is down just where it is, or stopped while the call was pending (DownLines). (SQL Language Reference:
-- COMMIT; Error Messages: ORA-02050, ORA-02053, ORA-02054, ORA-02067; Database Administrator's Guide, "Distributed Transactions
-- Concepts".)
use Rattle.std.specs.Prelude.{◌≡◌, ◌⊎◌, ℕ, true, List, slice_get, option_map, Option, Some, None}
use Rattle.node_rules.specs.Data.{Answer, BranchId, Stmt}
use Rattle.node_rules.specs.Data.answers
use Rattle.node_rules.specs.Data.stmts
use Rattle.node_rules.specs.Ids.{decimal}
use Rattle.node_rules.specs.Refusals.{ora}
use Rattle.node_rules.specs.Sessions.{commit_complete, tran_refusal}
use Rattle.node_rules.specs.Words.{one}
use Rattle.run_rules.specs.Branches.{Seen, read_at_at, root_at}
use Rattle.run_rules.specs.Commands.{commits_first}
use Rattle.run_rules.specs.Data.commands
use Rattle.run_rules.specs.Each.{trail_upto}
use Rattle.run_rules.specs.Facts.{command_at}
use Rattle.run_rules.specs.Lawful.{History}
use Rattle.run_rules.specs.Scripts.{IsTheRunOf}
use Rattle.run_claims.specs.Places.{node_line, reported_of}
use Rattle.run_claims.specs.ReportedDone.{CameTo}
use Rattle.commit_answer_laws.specs.CommitCauses.{HasItsCause}
use Rattle.commit_answer_laws.specs.DownLines.{DownLinesAreTrue, StoppedCallsAreTold}
use Rattle.tree_trail_laws.specs.NoSite.{HadNoSite}
use Rattle.commit_answer_laws.specs.UndecidedLaws.{IsDecided, IsUndecided}

-- What the answer of a COMMIT says of the transaction that its session had, if it had one.
pub data IsTrueOf (t : History) (transaction : Option BranchId) (a : Answer) : Type 0 where
  Had_none : transaction ≡ None → a ≡ commit_complete → IsTrueOf t transaction a
  Is_decided : (g : BranchId) → transaction ≡ Some g → a ≡ commit_complete → IsDecided t g → IsTrueOf t transaction a
  Had_no_changes : (g : BranchId) → transaction ≡ Some g → a ≡ commit_complete → HadNoSite t g → IsUndecided t g → IsTrueOf t transaction a
  Was_read_only : (g : BranchId) (moment scn : ℕ) → transaction ≡ Some g → a ≡ commit_complete → read_at_at (trail_upto t moment) g ≡ Some scn → IsUndecided t g → IsTrueOf t transaction a
  Is_rolled_back : (g : BranchId) → transaction ≡ Some g → a ≡ tran_refusal 2050 g → IsUndecided t g → IsTrueOf t transaction a
  Is_committed : (g : BranchId) → transaction ≡ Some g → a ≡ tran_refusal 2053 g → IsDecided t g → IsTrueOf t transaction a
  Is_in_doubt : (g : BranchId) → transaction ≡ Some g → a ≡ tran_refusal 2054 g → IsTrueOf t transaction a
  Must_roll_back : (g : BranchId) (code : ℕ) → transaction ≡ Some g → a ≡ answers.Refused (ora 2067 (one (decimal code))) → IsTrueOf t transaction a  -- nothing ends

-- the transaction that a session had at a moment
abbrev pub transaction_at : History → ℕ → ℕ → ℕ → Option BranchId
transaction_at t moment node session = option_map (λ (s : Seen). s.me) (root_at (trail_upto t moment) node session)

-- The COMMIT of a command came to its node; the answer is true of the transaction that its session had then, and has its cause.
pub record AnswersTruly (t : History) (command node session : ℕ) (comment : Option (List ℕ)) (a : Answer) : Type 0 where
  pub came : CameTo t command node session (stmts.Commit comment)
  pub says : IsTrueOf t (transaction_at t came.moment node session) a
  pub why : HasItsCause t came.moment node (transaction_at t came.moment node session) a

-- each line of the report that answers a COMMIT is true
abbrev pub CommitLinesAreTrue : History → Type 0
CommitLinesAreTrue t = (i command node session : ℕ) (comment : Option (List ℕ)) (a : Answer) → command_at t.commands command ≡ commands.At node session (Some (stmts.Commit comment))
    → slice_get (reported_of t) i ≡ Some (node_line command a) → AnswersTruly t command node session comment a

-- each line that answers a CREATE is of the CREATE itself, which came, or it is true of the COMMIT before it
abbrev pub CreateLinesAreTrue : History → Type 0
CreateLinesAreTrue t = (i command node session : ℕ) (s : Stmt) (a : Answer) → command_at t.commands command ≡ commands.At node session (Some s) → commits_first s ≡ true
    → slice_get (reported_of t) i ≡ Some (node_line command a) → CameTo t command node session s ⊎ AnswersTruly t command node session None a

-- what the report says of COMMITs is true, and so is what it says of clients whose node is down
abbrev pub CommitAnswersAreTrue : History → Type 0
CommitAnswersAreTrue t = CommitLinesAreTrue t × CreateLinesAreTrue t × DownLinesAreTrue t × StoppedCallsAreTold t

-- In the run of a script it is so.
abbrev pub CommitsAnswerTruly : Type 0
CommitsAnswerTruly = (t : History) → IsTheRunOf t → CommitAnswersAreTrue t
