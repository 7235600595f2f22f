-- Why a statement ends that waits at its session's root for another node, and with which answer: the Reply comes to what the root
-- sent down last, or the statement is given up. So does ROLLBACK TO, whose children go back one after the other. Nothing else that
-- comes to the root's node ends it, and each of these ends it in that very turn; so it ends with the first of them, unless its node
-- stops before. (Database Administrator's Guide, "Distributed Transactions Concepts": session trees, local and global coordinators.)
use Rattle.std.specs.Prelude.{◌≡◌, ℕ, ◌+◌, ◌&&◌, Bool, true, false, if◌then◌else◌, List, [], ◌∷◌, slice_get, Option, Some, None}
use Rattle.node_rules.specs.Calls.{is_gone}
use Rattle.node_rules.specs.Client.{waited_link}
use Rattle.node_rules.specs.Data.{Answer, BranchId, Input, Kind, Place, Post, Task}
use Rattle.node_rules.specs.Data.answers
use Rattle.node_rules.specs.Data.inputs
use Rattle.node_rules.specs.Data.kinds
use Rattle.node_rules.specs.Data.tasks
use Rattle.node_rules.specs.declared.work.Errand.{Errand}
use Rattle.node_rules.specs.declared.work.Errand.TheVariants as errands
use Rattle.node_rules.specs.declared.work.Going.{Going}
use Rattle.node_rules.specs.declared.work.Waits.{Waits}
use Rattle.node_rules.specs.declared.work.Waits.TheVariants as waiting
use Rattle.node_rules.specs.declared.work.Work.{Work}
use Rattle.node_rules.specs.Marks.{next_back}
use Rattle.node_rules.specs.declared.session.PendingCall.TheVariants as pending
use Rattle.node_rules.specs.Inputs.{Came}
use Rattle.node_rules.specs.NodeState.{NodeState, Branch, branch_at}
use Rattle.node_rules.specs.Refusals.{dtx}
use Rattle.node_rules.specs.Sessions.{session_at}
use Rattle.node_rules.specs.Turn.{turn_of}
use Rattle.node_rules.specs.Words.{one, same}
use Rattle.run_rules.specs.Branches.{Trail}
use Rattle.run_rules.specs.Data.{Happening}
use Rattle.run_rules.specs.Data.happenings
use Rattle.run_rules.specs.Each.{AtEach}
use Rattle.run_rules.specs.Facts.{Facts, node_at, place_at}
use Rattle.run_rules.specs.Lawful.{History, IsLawfulRun}
use Rattle.run_rules.specs.Runs.{is_accepted}
use Rattle.run_base_laws.specs.InTurnLaws.{said_in}
use Rattle.answer_origin_laws.specs.ReplyLaws.{went_back}

-- ---- what a branch sent down the session tree

-- whether a message takes a statement or a BACK to a child: an Exec, or the Open before the first
abbrev pub calls_below : Kind → Bool
calls_below (kinds.Open edge root depth read_at) = true
calls_below (kinds.Exec call task) = true
calls_below _ = false

-- whether it is such a message of this branch
abbrev pub is_sent_down : BranchId → Post → Bool
is_sent_down b m = same m.from b && calls_below m.kind

-- the last such message among these, or else this one from before them
abbrev pub last_sent_down : BranchId → Option Post → List Post → Option Post
last_sent_down b before [] = before
last_sent_down b before (m ∷ ms) = last_sent_down b (if is_sent_down b m then Some m else before) ms

-- The Reply came to what a branch sent down last: to its Exec, from the child that it called, under the number of that call.
pub record IsLastReply (said : List Post) (b : BranchId) (input : Input) (a : Answer) : Type 0 where
  pub child : BranchId
  pub call : ℕ
  pub task : Task
  pub sent : last_sent_down b None said ≡ Some (record { from = b; to = child; kind = kinds.Exec call task })
  pub weight : Option ℕ
  pub count : ℕ
  pub came : Came input child b (kinds.Reply call weight count a)

-- whether a task takes its branch back to a savepoint
abbrev pub is_back : Task → Bool
is_back (tasks.Run given advice s) = false
is_back (tasks.GoBack keep) = true

-- ---- a statement that waits

-- The statement of a session waits at the root g of its transaction, or its ROLLBACK TO.
pub record StatementPends (k : NodeState) (g : BranchId) : Type 0 where
  pub root : (session_at k.sessions g.session).root ≡ Some g
  pub call : (session_at k.sessions g.session).call ≡ pending.Statement

-- the link of the branch that it waits for
abbrev pub link_waited : Option Branch → List ℕ
link_waited None = []
link_waited (Some x) = waited_link x.live x.work.going

-- the child that is to go back next, once that has done so which a branch waits for
abbrev pub next_by : Work → Errand → Waits → Option ℕ
next_by w (errands.GoBack step) (waiting.ForReply i) = next_back w step (i + 1)
next_by w _ waits = None

abbrev pub next_after : Work → Option Going → Option ℕ
next_after w None = None
next_after w (Some g) = next_by w g.errand g.waits

abbrev pub goes_next : Option Branch → Option ℕ
goes_next None = None
goes_next (Some x) = next_after x.work x.work.going

-- Why it ends in a turn with this answer: by what was sent so far, the link that it waits for, the child that is to go back next, and
-- what came. A child that went back ends ROLLBACK TO only where no other is to go back; any other answer of a child is the answer.
pub data StatementCause (said : List Post) (link : List ℕ) (next : Option ℕ) (g : BranchId) (input : Input) (a : Answer) : Type 0 where
  Is_answered : (last : IsLastReply said g input a) → (is_back last.task && is_accepted (Some a)) ≡ false → is_gone a ≡ false → StatementCause said link next g input a
  Branch_is_gone : (refused : Answer) → IsLastReply said g input refused → is_gone refused ≡ true → a ≡ answers.Refused (dtx 8 (one link)) → StatementCause said link next g input a
  Is_back : (told : Answer) → (last : IsLastReply said g input told) → (is_back last.task && is_accepted (Some told)) ≡ true → next ≡ None → a ≡ went_back → StatementCause said link next g input a
  Is_given_up : input ≡ inputs.GiveUp g.session → a ≡ answers.Refused (dtx 3 (one link)) → StatementCause said link next g input a

-- ---- the laws

-- the cause by the facts and by what the node of g keeps
abbrev pub CauseNow : Facts → NodeState → BranchId → Input → Answer → Type 0
CauseNow f k g input a = StatementCause (said_in f) (link_waited (branch_at k g)) (goes_next (branch_at k g)) g input a

-- a statement that waits and is among the calls that a turn ends is so for a cause
abbrev pub StatementsEnd : List Place → Facts → Trail → Happening → Type 0
StatementsEnd places f tr (happenings.Turn u) = (k : NodeState) → node_at f u.node ≡ Some k → (g : BranchId) → StatementPends k g
    → (number : ℕ) (a : Answer) → slice_get (turn_of (place_at places u.node) k u.input).ended number ≡ Some (record { session = g.session; answer = a }) → CauseNow f k g u.input a
StatementsEnd places f tr _ = Unit {0}

-- In every lawful run it is so of each turn.
abbrev pub StatementsEndForCause : Type 0
StatementsEndForCause = (t : History) → IsLawfulRun t → AtEach StatementsEnd t

-- each cause ends a statement that waits, with its answer, and ends no other call
abbrev pub CauseEndsStatement : List Place → Facts → Trail → Happening → Type 0
CauseEndsStatement places f tr (happenings.Turn u) = (k : NodeState) → node_at f u.node ≡ Some k → (g : BranchId) → StatementPends k g
    → (a : Answer) → CauseNow f k g u.input a → (turn_of (place_at places u.node) k u.input).ended ≡ (record { session = g.session; answer = a }) ∷ []
CauseEndsStatement places f tr _ = Unit {0}

-- In every lawful run it is so of each turn.
abbrev pub CausesEndStatements : Type 0
CausesEndStatements = (t : History) → IsLawfulRun t → AtEach CauseEndsStatement t
