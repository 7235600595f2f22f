-- Who got Prepare of its parent: a live branch below a root that is not working, and one that has left without being dropped.
-- When COMMIT comes to a root no branch of its transaction has asked another. (Database Administrator's Guide, "Distributed
-- Transactions Concepts": prepare phase.)
use Rattle.std.specs.Prelude.{◌≡◌, ◌≢◌, ℕ, true, false, List, Some}
use Rattle.agreement.specs.Events.{Exit, Dropped, exit}
use Rattle.node_rules.specs.Data.{BranchId, Live, Msg}
use Rattle.node_rules.specs.Data.phases
use Rattle.node_rules.specs.NodeState.{NodeState, live_at}
use Rattle.run_rules.specs.Births.{Born, births_of}
use Rattle.run_base_laws.specs.BirthLaws.{Began}
use Rattle.run_rules.specs.Data.{Happening}
use Rattle.run_rules.specs.Facts.{node_at}
use Rattle.run_base_laws.specs.FreezeLaws.{was_asked}
use Rattle.run_base_laws.specs.InTurnLaws.{said_in}
use Rattle.run_rules.specs.Lawful.{History, IsLawfulRun, facts_at}
use Rattle.run_base_laws.specs.RunEvents.{events_of}
use Rattle.run_rules.specs.Trail.{is_prepare}
use Rattle.commit_laws.specs.DeliveryLaws.{CameInTurn}
use Rattle.run_claims.specs.Undisturbed.{Commit, facts_by}

-- Prepare of a branch came to another in one of these turns.
pub record GotPrepare (trace : List Happening) (from to : BranchId) : Type 0 where
  pub message : Msg
  pub is_from : message.from ≡ from
  pub is_to : message.to ≡ to
  pub asks : is_prepare message.kind ≡ true
  pub came : CameInTurn trace message

-- In every lawful run a live branch below a root that is not working got Prepare of its parent.
abbrev pub CollectorsGotPrepare : Type 0
CollectorsGotPrepare = (t : History) → IsLawfulRun t → (n : ℕ) (k : NodeState) → node_at (facts_at t) n ≡ Some k → (l : Live) → live_at k l.me ≡ Some l → l.phase ≢ phases.Working
    → (q : BranchId) → l.parent ≡ Some q → GotPrepare t.trace q l.me

-- And so did a branch below a root that has left, and was not dropped.
abbrev pub LeaversGotPrepare : Type 0
LeaversGotPrepare = (t : History) → IsLawfulRun t → (x : Born) → Began (births_of t) x → (q : BranchId) → x.parent ≡ Some q → (z : Exit) → exit (events_of t) x.me ≡ Some z → z ≢ Dropped → GotPrepare t.trace q x.me

-- In every lawful run no branch of a transaction has asked another to prepare, when its COMMIT comes to its live root.
abbrev pub CommitsComeFirst : Type 0
CommitsComeFirst = (t : History) → IsLawfulRun t → (c : Commit t.places t.commands t.trace) → (x : Born) → Began (births_of t) x → x.root ≡ c.root
    → (q : BranchId) → was_asked (said_in (facts_by t.places t.commands c.before)) x.me q ≡ false
