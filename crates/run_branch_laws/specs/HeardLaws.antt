-- What was heard of neighbours is true: an answer that a branch holds of its child, an Ack that a row holds of a neighbour, and
-- an answer without changes that is under way.
use Rattle.std.specs.Prelude.{◌≡◌, ℕ, ◌≤◌, Bool, true, List, Option, Some}
use Rattle.std.specs.List.{AllByRecursion}
use Rattle.node_rules.specs.Data.{BranchId, Kind, Edge, Vote, Live, Kid, KeptRow}
use Rattle.node_rules.specs.Data.votes
use Rattle.node_rules.specs.Data.kinds
use Rattle.node_rules.specs.NodeState.{NodeState}
use Rattle.agreement.specs.Events.{Quiet, Event, Send_vote, Send_ack, exit, Has}
use Rattle.run_rules.specs.Facts.{node_at}
use Rattle.run_rules.specs.Lawful.{History, IsLawfulRun, facts_at}
use Rattle.run_base_laws.specs.RunEvents.{events_of}

-- a child that answered Prepared sent its vote with a clock that was met, one that answered ReadOnly is gone without changes
abbrev pub VoteIs : List Event → ℕ → BranchId → Vote → Type 0
VoteIs t clock b votes.Prepared = (j : ℕ) × Has (Send_vote b j) t × (j ≤ clock)
VoteIs t clock b votes.ReadOnly = exit t b ≡ Some Quiet
VoteIs t clock b _ = Unit {0}

-- of a child
abbrev pub EdgeIs : List Event → ℕ → Edge → Type 0
EdgeIs t clock e = VoteIs t clock e.peer e.vote

-- each answer that a live branch holds is so
abbrev pub AnswersAre : List Event → ℕ → Live → Type 0
AnswersAre t clock l = AllByRecursion (EdgeIs t clock) l.edges

-- Each Ack that a row holds tells this of the neighbour and the branch.
pub record HasAcks (Q : BranchId → BranchId → Type 0) (me : BranchId) (parent : Option BranchId) (parent_acked : Bool) (children : List Kid) : Type 0 where
  pub above : parent_acked ≡ true → (b : BranchId) → parent ≡ Some b → Q b me
  pub below : AllByRecursion (λ c. c.acked ≡ true → Q c.branch me) children

-- of a kept branch
abbrev pub RowHasAcks : (BranchId → BranchId → Type 0) → KeptRow → Type 0
RowHasAcks Q s = HasAcks Q s.me s.parent s.parent_acked s.children

-- each Ack that it holds was sent
abbrev pub AcksAre : List Event → KeptRow → Type 0
AcksAre t s = RowHasAcks (λ b me. Has (Send_ack b me) t) s

-- an answer without changes comes from a branch that is gone so
abbrev pub QuietIs : List Event → BranchId → Kind → Type 0
QuietIs t from kinds.ReadOnly = exit t from ≡ Some Quiet
QuietIs t from _ = Unit {0}

-- In every lawful run what live branches hold of their children's answers is true.
abbrev pub AnswersAreTrue : Type 0
AnswersAreTrue = (t : History) → IsLawfulRun t → (n : ℕ) (k : NodeState) → node_at (facts_at t) n ≡ Some k → AllByRecursion (AnswersAre (events_of t) k.clock) k.lives

-- In every lawful run the Acks that rows hold were sent.
abbrev pub AcksAreTrue : Type 0
AcksAreTrue = (t : History) → IsLawfulRun t → (n : ℕ) (k : NodeState) → node_at (facts_at t) n ≡ Some k → AllByRecursion (AcksAre (events_of t)) k.stored.durable.kept

-- In every lawful run a branch that says ReadOnly is gone without changes.
abbrev pub QuietsAreGone : Type 0
QuietsAreGone = (t : History) → IsLawfulRun t → AllByRecursion (λ x. QuietIs (events_of t) x.msg.from x.msg.kind) (facts_at t).net.packets
