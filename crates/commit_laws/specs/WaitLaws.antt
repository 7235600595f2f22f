-- For whom a branch waits that collects: each child whose answer it awaits has not got the question, collects in its turn,
-- has answered, or takes no part any more. So where all messages came, and no branch was dropped or stopped, no branch
-- collects. (Database Administrator's Guide, "Distributed Transactions Concepts": prepare phase.)
use Rattle.std.specs.Prelude.{◌≡◌, ◌≢◌, ℕ, ◌<◌, ◌⊎◌, Bool, true, Some, None}
use Rattle.std.specs.List.{AllByRecursion}
use Rattle.agreement.specs.Events.{Exit, Dropped, exit}
use Rattle.node_rules.specs.Data.{BranchId, Kind, Live}
use Rattle.node_rules.specs.Data.phases
use Rattle.node_rules.specs.NodeState.{NodeState, live_at}
use Rattle.node_rules.specs.Prepare.{is_awaited}
use Rattle.net_bag.specs.Net.{packet_at}
use Rattle.run_rules.specs.Births.{Born, births_of}
use Rattle.run_base_laws.specs.BirthLaws.{Began}
use Rattle.run_rules.specs.Data.{Packet}
use Rattle.run_rules.specs.Data.fates
use Rattle.run_rules.specs.Facts.{Facts, node_at, records_at}
use Rattle.run_base_laws.specs.InTurnLaws.{said_in}
use Rattle.run_rules.specs.Lawful.{History, IsLawfulRun, facts_at, boots}
use Rattle.run_base_laws.specs.RunEvents.{events_of}
use Rattle.run_rules.specs.Trail.{is_prepare}
use Rattle.run_branch_laws.specs.WalkLaws.{was_sent}
use Rattle.commit_laws.specs.DeliveryLaws.{is_answer}

-- ---- who has answered

-- In every lawful run a live branch that is Ready has said so to its parent.
abbrev pub ReadyHaveAnswered : Type 0
ReadyHaveAnswered = (t : History) → IsLawfulRun t → (n : ℕ) (k : NodeState) → node_at (facts_at t) n ≡ Some k → (l : Live) → live_at k l.me ≡ Some l → l.phase ≡ phases.Ready
    → (q : BranchId) → l.parent ≡ Some q → was_sent is_answer (said_in (facts_at t)) l.me q ≡ true

-- a branch's node is down, or has been started again since the branch began
abbrev pub NodeHasStopped : Facts → BranchId → Type 0
NodeHasStopped f b = (k : NodeState) → node_at f b.node ≡ Some k → b.boot < boots (records_at f b.node)

-- In every lawful run a branch below another that has left, and was not dropped, has answered it, or its node has stopped since.
abbrev pub LeftHaveAnswered : Type 0
LeftHaveAnswered = (t : History) → IsLawfulRun t → (x : Born) → Began (births_of t) x → (q : BranchId) → x.parent ≡ Some q → (z : Exit) → exit (events_of t) x.me ≡ Some z → z ≢ Dropped
    → (was_sent is_answer (said_in (facts_at t)) x.me q ≡ true) ⊎ NodeHasStopped (facts_at t) x.me

-- ---- who waits

-- A message of this kind from a branch to another was sent, and has not come: it is in flight, or was lost.
pub record HasNotCome (t : History) (kind : Kind → Bool) (from to : BranchId) : Type 0 where
  pub number : ℕ
  pub packet : Packet
  pub sent : packet_at (facts_at t).net number ≡ Some packet
  pub is_from : packet.msg.from ≡ from
  pub is_to : packet.msg.to ≡ to
  pub is_kind : kind packet.msg.kind ≡ true
  pub waits : packet.fate ≢ fates.Delivered

-- Why a branch has no answer of its child: Prepare has not come there, the child collects, its answer has not come, it was
-- dropped, or its node has stopped.
pub data Awaits (t : History) (p c : BranchId) : Type 0 where
  Not_asked : HasNotCome t is_prepare p c → Awaits t p c
  Collects_too : (k : NodeState) (l : Live) (below : Bool) → node_at (facts_at t) c.node ≡ Some k → live_at k c ≡ Some l → l.phase ≡ phases.Collecting below → Awaits t p c
  Not_answered : HasNotCome t is_answer c p → Awaits t p c
  Was_dropped : exit (events_of t) c ≡ Some Dropped → Awaits t p c
  Has_stopped : NodeHasStopped (facts_at t) c → Awaits t p c

-- In every lawful run it is so of each child whose answer a live branch awaits.
abbrev pub CollectorsWait : Type 0
CollectorsWait = (t : History) → IsLawfulRun t → (n : ℕ) (k : NodeState) → node_at (facts_at t) n ≡ Some k → (l : Live) → live_at k l.me ≡ Some l
    → AllByRecursion (λ e. is_awaited e.vote ≡ true → Awaits t l.me e.peer) l.edges

-- ---- when nobody does

-- Of the branches of a transaction's tree none was dropped and no node has stopped, and all their messages came.
pub record AllCame (t : History) (root : BranchId) : Type 0 where
  pub messages : AllByRecursion (λ x. (b : Born) → Began (births_of t) b → b.me ≡ x.msg.from → b.root ≡ root → x.fate ≡ fates.Delivered) (facts_at t).net.packets
  pub below : (b : Born) → Began (births_of t) b → b.root ≡ root → b.parent ≢ None → exit (events_of t) b.me ≢ Some Dropped
  pub up : (b : Born) → Began (births_of t) b → b.root ≡ root → NodeHasStopped (facts_at t) b.me → ⊥

-- In every lawful run no branch of such a transaction collects any more.
abbrev pub CollectsAreOver : Type 0
CollectsAreOver = (t : History) → IsLawfulRun t → (root : BranchId) → AllCame t root → (n : ℕ) (k : NodeState) → node_at (facts_at t) n ≡ Some k → (l : Live) → live_at k l.me ≡ Some l → l.root ≡ root
    → (below : Bool) → l.phase ≢ phases.Collecting below
