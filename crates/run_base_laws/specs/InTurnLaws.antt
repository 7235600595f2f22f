-- Calls between a live branch and its children: how many were made over each edge, taken and answered. A child gets its next
-- call after its Reply to the last, and waits for nothing once it has answered.
use Rattle.std.specs.Prelude.{◌≡◌, ◌≢◌, ℕ, ◌+◌, ◌≤◌, ◌&&◌, ◌⊎◌, Bool, if◌then◌else◌, List, [], ◌∷◌, map, length, max, unwrap_or, Option, Some, None}
use Rattle.node_rules.specs.Data.{BranchId, Kind, Live, Msg, Post}
use Rattle.node_rules.specs.Data.kinds
use Rattle.node_rules.specs.declared.work.Waits.TheVariants as waiting
use Rattle.node_rules.specs.declared.work.Going.{Going}
use Rattle.node_rules.specs.declared.work.Work.{Work}
use Rattle.node_rules.specs.Words.{same, numbered}
use Rattle.session_tree.specs.Live.{children_of}
use Rattle.node_rules.specs.NodeState.{NodeState, Branch, branch_at}
use Rattle.node_rules.specs.Sessions.{session_at}
use Rattle.run_rules.specs.Data.{Packet}
use Rattle.run_rules.specs.Facts.{Facts, node_at}
use Rattle.run_rules.specs.Lawful.{History, IsLawfulRun, facts_at}

-- ---- messages

-- a message without its SCN
abbrev pub post_of : Msg → Post
post_of m = record { from = m.from; to = m.to; kind = m.kind }

-- of one with its fate
abbrev pub packet_post : Packet → Post
packet_post x = post_of x.msg

-- all messages that were sent so far
abbrev pub said_in : Facts → List Post
said_in f = map packet_post f.net.packets

-- the call number of an Exec, and 0 of any other message
abbrev pub exec_number : Kind → ℕ
exec_number (kinds.Exec call task) = call
exec_number _ = 0

-- the call number of a Reply, and 0 of any other message
abbrev pub reply_number : Kind → ℕ
reply_number (kinds.Reply call weight count a) = call
reply_number _ = 0

-- the greatest number of these messages
abbrev pub newest : (Post → Bool) → (Kind → ℕ) → List Post → ℕ
newest test number [] = 0
newest test number (m ∷ ms) = if test m then max (number m.kind) (newest test number ms) else newest test number ms

-- the newest call that a branch made to another
abbrev pub newest_exec : List Post → BranchId → BranchId → ℕ
newest_exec said a b = newest (λ m. same m.from a && same m.to b) exec_number said

-- the newest call that a branch answered
abbrev pub newest_reply : List Post → BranchId → ℕ
newest_reply said b = newest (λ m. same m.from b) reply_number said

-- ---- branches

-- a branch waits for the Reply over this edge
abbrev pub WaitsFor : ℕ → Option Going → Type 0
WaitsFor i None = ⊥
WaitsFor i (Some g) = g.waits ≡ waiting.ForReply i

-- the last call that a branch made over an edge
abbrev pub call_at : Work → ℕ → ℕ
call_at w i = unwrap_or (numbered w.calls i) 0

-- A branch takes the calls that its parent made, and answers those that it took. Once it answered the last it waits for nothing.
pub record TakesInTurn (said : List Post) (me : BranchId) (parent : Option BranchId) (w : Work) : Type 0 where
  pub taken : (p : BranchId) → parent ≡ Some p → w.came.last_call ≤ newest_exec said p me
  pub told : newest_reply said me ≤ w.came.last_call
  pub rests : parent ≢ None → newest_reply said me ≡ w.came.last_call → w.going ≡ None

-- A branch makes its calls to its children alone, with the numbers that it keeps. Unless it can only roll back, each child whose
-- Reply it does not wait for answered the last call.
pub record MakesInTurn (said : List Post) (goes_on : Type 0) (me : BranchId) (peers : List BranchId) (w : Work) : Type 0 where
  pub numbers : length w.calls ≡ length peers
  pub made : (i : ℕ) (c : BranchId) → numbered peers i ≡ Some c → newest_exec said me c ≡ call_at w i
  pub no_other : (c : BranchId) → ((i : ℕ) → numbered peers i ≢ Some c) → newest_exec said me c ≡ 0
  pub heard : goes_on → (i : ℕ) (c : BranchId) → numbered peers i ≡ Some c → WaitsFor i w.going ⊎ (call_at w i ≤ newest_reply said c)

-- a root's transaction needs no rollback
abbrev pub NeedsNoRollback : NodeState → Live → Type 0
NeedsNoRollback k l = l.parent ≡ None → (session_at k.sessions l.me.session).code ≡ None

-- ---- laws of every lawful run

-- A branch makes the next call to a child only after the child's Reply to the last.
abbrev pub CallsAreAnswered : Type 0
CallsAreAnswered = (t : History) → IsLawfulRun t → (a b : BranchId) → newest_exec (said_in (facts_at t)) a b ≤ newest_reply (said_in (facts_at t)) b + 1

-- Each live branch takes and answers its parent's calls, and makes its own, in turn.
abbrev pub BranchesCallInTurn : Type 0
BranchesCallInTurn = (t : History) → IsLawfulRun t → (n : ℕ) (k : NodeState) → node_at (facts_at t) n ≡ Some k → (x : Branch) → branch_at k x.live.me ≡ Some x
    → TakesInTurn (said_in (facts_at t)) x.live.me x.live.parent x.work × MakesInTurn (said_in (facts_at t)) (NeedsNoRollback k x.live) x.live.me (children_of x.live) x.work

-- Between a live branch and its live child: the child took the last call, or is about to and waits for nothing. Where the
-- branch does not wait for its Reply it took the last, and waits for nothing.
pub record EdgeFits (goes_on : Type 0) (x : Work) (i : ℕ) (y : Work) : Type 0 where
  pub taken : (y.came.last_call ≡ call_at x i) ⊎ ((y.came.last_call + 1 ≡ call_at x i) × (y.going ≡ None))
  pub rests : goes_on → WaitsFor i x.going ⊎ ((y.came.last_call ≡ call_at x i) × (y.going ≡ None))

-- In every lawful run this is so of each live branch and each live child.
abbrev pub EdgesFit : Type 0
EdgesFit = (t : History) → IsLawfulRun t → (n : ℕ) (k : NodeState) → node_at (facts_at t) n ≡ Some k → (x : Branch) → branch_at k x.live.me ≡ Some x
    → (i : ℕ) (c : BranchId) → numbered (children_of x.live) i ≡ Some c → (m : ℕ) (j : NodeState) → node_at (facts_at t) m ≡ Some j → (y : Branch) → branch_at j y.live.me ≡ Some y → y.live.me ≡ c
    → EdgeFits (NeedsNoRollback k x.live) x.work i y.work
