-- What the row of a branch tells of its neighbours beyond, and of what it has said: those beyond are sealed; once all of
-- them acknowledged the commit, the branch acknowledged it toward the site; and the row of a branch that was not forced
-- goes when the branch forgets. (Database Administrator's Guide, "Distributed Transactions Concepts": commit phase and
-- forget phase.)
use Rattle.std.specs.Prelude.{◌≡◌, ℕ, ◌⊎◌, Bool, true, false, List, Some}
use Rattle.std.specs.List.{AllByRecursion}
use Rattle.commit_forget.specs.Beyond.{beyond, all_acked}
use Rattle.commit_forget.specs.Next.{knows_commit}
use Rattle.agreement.specs.Events.{Event, Sealed, Forget, exit, Has}
use Rattle.node_rules.specs.Data.{BranchId, Kind, Post, KeptRow, State}
use Rattle.node_rules.specs.Data.kinds
use Rattle.node_rules.specs.Data.states
use Rattle.node_rules.specs.NodeState.{NodeState}
use Rattle.run_rules.specs.Facts.{node_at}
use Rattle.run_base_laws.specs.InTurnLaws.{said_in}
use Rattle.run_rules.specs.Lawful.{History, IsLawfulRun, facts_at}
use Rattle.run_base_laws.specs.RunEvents.{events_of}
use Rattle.run_branch_laws.specs.WalkLaws.{was_sent}
use Rattle.commit_laws.specs.WaitLaws.{NodeHasStopped}

-- whether a message is an Ack
abbrev pub is_ack : Kind → Bool
is_ack kinds.Ack = true
is_ack _ = false

-- whether an administrator forced the branch
abbrev pub is_forced : State → Bool
is_forced (states.ForcedCommit n) = true
is_forced states.ForcedRollback = true
is_forced _ = false

-- a branch is sealed
abbrev pub IsSealed : List Event → BranchId → Type 0
IsSealed t b = (m : ℕ) × (exit t b ≡ Some (Sealed m))

-- a branch said Ack to the neighbour that its row has as toward
abbrev pub SaidAck : List Post → KeptRow → Type 0
SaidAck said s = (q : BranchId) × (s.toward ≡ Some q) × (was_sent is_ack said s.me q ≡ true)

-- Those beyond are sealed. Where the branch knows the commit, has not forgotten, and all beyond acknowledged, it said Ack;
-- the site, which has none to say it to, has no such row. A branch that forgot is one that was forced.
pub record RowTells (said : List Post) (t : List Event) (s : KeptRow) : Type 0 where
  pub sealed : AllByRecursion (λ y. IsSealed t y.branch) (beyond s)
  pub acks : knows_commit s.decision ≡ true → s.forgot ≡ false → all_acked s ≡ true → SaidAck said s
  pub plain : is_forced s.state ≡ false → s.forgot ≡ false
  pub forgets : Has (Forget s.me) t → s.forgot ≡ true

-- In every lawful run it is so of each row, unless the node has stopped since its branch began.
abbrev pub RowsTell : Type 0
RowsTell = (t : History) → IsLawfulRun t → (n : ℕ) (k : NodeState) → node_at (facts_at t) n ≡ Some k
    → AllByRecursion (λ s. RowTells (said_in (facts_at t)) (events_of t) s ⊎ NodeHasStopped (facts_at t) s.me) k.stored.durable.kept
