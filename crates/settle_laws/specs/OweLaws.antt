-- What is so of rows that know a commit, of nodes that have recovered in a stretch in which nothing is lost: the commit goes outwards
-- to those whose Ack is missing, and Acks come back until the branch may forget. (Database Administrator's Guide, "Distributed
-- Transactions Concepts": forget phase, the recoverer process RECO.)
use Rattle.std.specs.Prelude.{◌≡◌, ℕ, ◌⊎◌, ◌&&◌, Bool, true, false, Some}
use Rattle.std.specs.List.{list_any, AllByRecursion}
use Rattle.commit_forget.specs.Beyond.{beyond, all_acked}
use Rattle.commit_forget.specs.Next.{knows_commit}
use Rattle.node_rules.specs.Data.{BranchId, Kind, KeptRow, Msg}
use Rattle.node_rules.specs.Data.inputs
use Rattle.node_rules.specs.Data.kinds
use Rattle.node_rules.specs.NodeState.{NodeState, kept_row_at}
use Rattle.node_rules.specs.Words.{same}
use Rattle.run_rules.specs.Data.{Turn}
use Rattle.run_rules.specs.Facts.{Facts, node_at}
use Rattle.run_rules.specs.Lawful.{MayTurn, History, IsLawfulRun, facts_at}
use Rattle.commit_forget_laws.specs.RowLaws.{is_ack}
use Rattle.settle_laws.specs.Interval.{IsCalm, Flies}
use Rattle.settle_laws.specs.ObligeLaws.{after_turn}
use Rattle.settle_laws.specs.EndLaws.{NothingFlies}

-- ---- messages

abbrev pub is_committed : Kind → Bool
is_committed (kinds.Committed n) = true
is_committed _ = false

abbrev pub is_forgotten : Kind → Bool
is_forgotten kinds.Forgotten = true
is_forgotten _ = false

-- ---- rows

-- a row knows the commit, and has not forgotten
abbrev pub IsToForget : KeptRow → Type 0
IsToForget s = (knows_commit s.decision ≡ true) × (s.forgot ≡ false)

-- whether a row holds the Ack of a neighbour beyond
abbrev pub holds_ack : KeptRow → BranchId → Bool
holds_ack s b = list_any (λ y. y.acked && same y.branch b) (beyond s)

-- The node of a branch keeps such a row of it.
pub record RowIsToForget (f : Facts) (b : BranchId) : Type 0 where
  pub node : NodeState
  pub up : node_at f b.node ≡ Some node
  pub row : KeptRow
  pub found : kept_row_at node b ≡ Some row
  pub waits : IsToForget row

-- The Ack of x, beyond b, is missing: the commit flies there, or the Ack flies back; or x is to forget too, and misses an Ack itself.
pub data Awaited (f : Facts) (b x : BranchId) : Type 0 where
  Is_sent : Flies is_committed f b x → Awaited f b x
  Is_acked : Flies is_ack f x b → Awaited f b x
  Waits_too : (r : RowIsToForget f x) → all_acked r.row ≡ false → Awaited f b x

-- b holds all its Acks, and d is toward: its own flies there, or Forgotten flies back; or d is to forget, and holds it.
pub data Reported (f : Facts) (b d : BranchId) : Type 0 where
  Acks : Flies is_ack f b d → Reported f b d
  Is_released : Flies is_forgotten f d b → Reported f b d
  Is_noted : (r : RowIsToForget f d) → holds_ack r.row b ≡ true → Reported f b d

-- the Acks that a row misses
abbrev pub AwaitsAll : Facts → KeptRow → Type 0
AwaitsAll f s = IsToForget s → AllByRecursion (λ y. y.acked ≡ false → Awaited f s.me y.branch) (beyond s)

-- and the one that it gives
abbrev pub ReportsSo : Facts → KeptRow → Type 0
ReportsSo f s = IsToForget s → all_acked s ≡ true → (d : BranchId) → s.toward ≡ Some d → Reported f s.me d

-- So it is of all rows that know a commit, of these nodes.
pub record Owed (R : ℕ → Type 0) (f : Facts) : Type 0 where
  pub waits : (n : ℕ) → R n → (k : NodeState) → node_at f n ≡ Some k → AllByRecursion (AwaitsAll f) k.stored.durable.kept
  pub reports : (n : ℕ) → R n → (k : NodeState) → node_at f n ≡ Some k → AllByRecursion (ReportsSo f) k.stored.durable.kept

-- ---- laws

-- of no node it is so at once
abbrev pub NoneIsOwed : Type 0
NoneIsOwed = (t : History) → IsLawfulRun t → Owed (λ n. ⊥) (facts_at t)

-- After a calm turn of RECO it is so of the same nodes, and of that node.
abbrev pub RecoOwes : Type 0
RecoOwes = (t : History) → IsLawfulRun t → (u : Turn) (k : NodeState) → MayTurn t.places (facts_at t) u k → IsCalm (facts_at t) u → u.input ≡ inputs.Reco → (R : ℕ → Bool) → Owed (λ n. R n ≡ true) (facts_at t)
    → Owed (λ n. (R n ≡ true) ⊎ (u.node ≡ n)) (after_turn t u)

-- After a calm turn in which a message comes other than Committed, Ack and Forgotten it is so of the same nodes.
abbrev pub OthersOwe : Type 0
OthersOwe = (t : History) → IsLawfulRun t → (u : Turn) (k : NodeState) → MayTurn t.places (facts_at t) u k → IsCalm (facts_at t) u → (m : Msg) → u.input ≡ inputs.Message m → is_committed m.kind ≡ false → is_ack m.kind ≡ false → is_forgotten m.kind ≡ false
    → (R : ℕ → Bool) → Owed (λ n. R n ≡ true) (facts_at t) → Owed (λ n. R n ≡ true) (after_turn t u)

-- After a calm turn in which Forgotten comes it is so of the same nodes.
abbrev pub ReleasesOwe : Type 0
ReleasesOwe = (t : History) → IsLawfulRun t → (u : Turn) (k : NodeState) → MayTurn t.places (facts_at t) u k → IsCalm (facts_at t) u → (m : Msg) → u.input ≡ inputs.Message m → m.kind ≡ kinds.Forgotten → (R : ℕ → Bool) → Owed (λ n. R n ≡ true) (facts_at t)
    → Owed (λ n. R n ≡ true) (after_turn t u)

-- each row that knows a commit has forgotten
abbrev pub NothingToForget : Facts → Type 0
NothingToForget f = (n : ℕ) (k : NodeState) → node_at f n ≡ Some k → AllByRecursion (λ s. knows_commit s.decision ≡ true → s.forgot ≡ true) k.stored.durable.kept

-- After a lawful run at whose end it is so of all nodes, and nothing flies.
abbrev pub OwedAreForgotten : Type 0
OwedAreForgotten = (t : History) → IsLawfulRun t → Owed (λ n. Unit {0}) (facts_at t) → NothingFlies (facts_at t) → NothingToForget (facts_at t)
