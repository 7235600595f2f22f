-- The columns of a collecting branch's row that neither records nor the branch history have: its advice came with an Exec, its
-- comment with the COMMIT of its transaction. (Database Administrator's Guide, "Managing Distributed Transactions", on viewing
-- information about distributed transactions; SQL Language Reference, ALTER SESSION, COMMIT.)
use Rattle.std.specs.Prelude.{ℕ, ◌==◌, ◌&&◌, if◌then◌else◌, List, [], ◌∷◌, take, is_none, is_some, Option, Some, None}
use Rattle.node_rules.specs.Data.{Advice, BranchId, Kind, Input, Place}
use Rattle.node_rules.specs.Data.kinds
use Rattle.node_rules.specs.Data.inputs
use Rattle.node_rules.specs.Data.stmts
use Rattle.node_rules.specs.Data.tasks
use Rattle.node_rules.specs.Words.{same}
use Rattle.run_rules.specs.Branches.{Trail, no_trail, plan_at}
use Rattle.run_rules.specs.Data.{Command, Turn, Happening}
use Rattle.run_rules.specs.Data.happenings
use Rattle.run_rules.specs.Facts.{Facts, first_facts, facts_after}
use Rattle.run_rules.specs.Lawful.{History}
use Rattle.run_rules.specs.Runs.{asks_by}
use Rattle.run_rules.specs.Trail.{trail_after}

-- What the happenings so far gave for these columns.
pub record Given : Type 0 where
  pub advice : BranchId → Option Advice  -- of a branch
  pub advised : ℕ → ℕ → Option Advice  -- of a session of a node
  pub comment : BranchId → List ℕ  -- of the transaction of a root

-- before anything happened
abbrev pub nothing_given : Given
nothing_given = record { advice = λ b. None; advised = λ n session. None; comment = λ root. [] }

-- ---- advice

-- the advice that an Exec brings which runs a statement
abbrev pub advice_brought : Kind → Option Advice
advice_brought (kinds.Exec call (tasks.Run given advice s)) = advice
advice_brought _ = None

-- a branch has the advice of the last statement that it took, with an Exec whose number comes to it for the first time
abbrev pub advice_after : Trail → BranchId → Option Advice → Input → Option Advice
advice_after tr b now (inputs.Message m) = if same m.to b && is_some (asks_by tr m.to m.kind) then advice_brought m.kind else now
advice_after tr b now _ = now

-- a session has the advice that its last ALTER SESSION ADVISE set
abbrev pub advised_after : ℕ → ℕ → Option Advice → ℕ → Input → Option Advice
advised_after n session now node (inputs.Call k (Some (stmts.Advise a))) = if (node == n) && (k == session) then a else now
advised_after n session now node _ = now

-- ---- comments

-- the comment that a client's COMMIT brings
abbrev pub comment_brought : Input → List ℕ
comment_brought (inputs.Call session (Some (stmts.Commit (Some comment)))) = comment
comment_brought _ = []

-- a transaction has the comment of the COMMIT with which its plan came
abbrev pub comment_after : Trail → Trail → BranchId → List ℕ → Input → List ℕ
comment_after tr after root now input = if is_none (plan_at tr root) && is_some (plan_at after root) then comment_brought input else now

-- ---- each happening

-- a turn
abbrev pub given_turned : Trail → Trail → Turn → Given → Given
given_turned tr after u g = record {
  advice = λ b. advice_after tr b (g.advice b) u.input;
  advised = λ n session. advised_after n session (g.advised n session) u.node u.input;
  comment = λ root. comment_after tr after root (g.comment root) u.input;
}

-- one happening more; when a node starts its sessions begin anew
abbrev pub given_after : List Place → Facts → Trail → Happening → Given → Given
given_after places f tr (happenings.Turn u) g = given_turned tr (trail_after places f tr (happenings.Turn u)) u g
given_after places f tr (happenings.Started n boot) g = record g { advised = λ m session. if m == n then None else g.advised m session }
given_after places f tr _ g = g

-- what these happenings give, oldest first
abbrev pub given_of : List Place → List Command → Facts → Trail → Given → List Happening → Given
given_of places asked f tr g [] = g
given_of places asked f tr g (h ∷ hs) = given_of places asked (facts_after places asked f h) (trail_after places f tr h) (given_after places f tr h g) hs

-- what so many happenings of a run gave
abbrev pub given_upto : History → ℕ → Given
given_upto t i = given_of t.places t.commands (first_facts t.places) no_trail nothing_given (take i t.trace)
