-- What each row of a node tells, whatever stops its node had: of the Acks that it holds, of Forgot, of its neighbours.
-- (Database Administrator's Guide, "Distributed Transactions Concepts": commit phase and forget phase.)
use Rattle.std.specs.Prelude.{◌≡◌, ℕ, ◌⊎◌, true, false, List, Some, None}
use Rattle.std.specs.List.{AllByRecursion}
use Rattle.commit_forget.specs.Beyond.{beyond, all_acked, is_neighbor}
use Rattle.commit_forget.specs.Next.{knows_commit}
use Rattle.agreement.specs.Events.{Event, Forget, Has}
use Rattle.node_rules.specs.Data.{BranchId, Live, KeptRow}
use Rattle.node_rules.specs.Data.states
use Rattle.node_rules.specs.NodeState.{NodeState, live_at}
use Rattle.run_rules.specs.Facts.{node_at}
use Rattle.run_rules.specs.Lawful.{History, IsLawfulRun, facts_at}
use Rattle.run_base_laws.specs.RunEvents.{events_of}
use Rattle.commit_forget_laws.specs.RowLaws.{is_forced, IsSealed}

-- A row without a decision holds no Ack. A row that was not forced is not mixed and has not forgotten, so a committed one
-- has not. A row has forgotten just where Forgot of its branch stands. The neighbours beyond are sealed. The site's row,
-- which has nobody as toward, is never one that knows the commit, has not forgotten and holds all Acks.
pub record RowHolds (t : List Event) (s : KeptRow) : Type 0 where
  pub unheard : s.decision ≡ None → AllByRecursion (λ y. y.acked ≡ false) (beyond s)
  pub plain : is_forced s.state ≡ false → (s.mixed ≡ false) × (s.forgot ≡ false)
  pub committed : s.state ≡ states.Committed → s.forgot ≡ false
  pub forgot : s.forgot ≡ true → Has (Forget s.me) t
  pub forgets : Has (Forget s.me) t → s.forgot ≡ true
  pub sealed : AllByRecursion (λ y. IsSealed t y.branch) (beyond s)
  pub site : s.toward ≡ None → knows_commit s.decision ≡ true → s.forgot ≡ false → all_acked s ≡ false

-- In every lawful run each row of a node that is up holds so.
abbrev pub RowsHold : Type 0
RowsHold = (t : History) → IsLawfulRun t → (n : ℕ) (k : NodeState) → node_at (facts_at t) n ≡ Some k → AllByRecursion (RowHolds (events_of t)) k.stored.durable.kept

-- a neighbour of a row is sealed, or is toward
abbrev pub NamesSo : List Event → KeptRow → Type 0
NamesSo t s = (z : BranchId) → is_neighbor s z ≡ true → IsSealed t z ⊎ (s.toward ≡ Some z)

-- In every lawful run each neighbour that a row names is sealed, or is toward.
abbrev pub NamedOffAreSealed : Type 0
NamedOffAreSealed = (t : History) → IsLawfulRun t → (n : ℕ) (k : NodeState) → node_at (facts_at t) n ≡ Some k → AllByRecursion (NamesSo (events_of t)) k.stored.durable.kept

-- In every lawful run a row that names a live branch, of any node, has it as toward.
abbrev pub NamedLiveAreToward : Type 0
NamedLiveAreToward = (t : History) → IsLawfulRun t → (n : ℕ) (k : NodeState) → node_at (facts_at t) n ≡ Some k → (m : ℕ) (j : NodeState) → node_at (facts_at t) m ≡ Some j
    → (z : BranchId) (l : Live) → live_at j z ≡ Some l → AllByRecursion (λ s. is_neighbor s z ≡ true → s.toward ≡ Some z) k.stored.durable.kept
