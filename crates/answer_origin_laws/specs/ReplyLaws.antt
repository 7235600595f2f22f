-- Where the answer in a Reply comes from: the run that the happenings tell of it stands in a turn of the run, which answered
-- so; or its branch went back to a savepoint, on a BACK of its number. (Database Administrator's Guide, "Distributed Transactions
-- Concepts": session trees; SQL Language Reference: ROLLBACK.)
use Rattle.std.specs.Prelude.{◌≡◌, ◌≢◌, ℕ, ◌⊎◌, true, slice_get, Option, Some, None}
use Rattle.node_rules.specs.Data.{Answer, BranchId, Live}
use Rattle.node_rules.specs.Data.answers
use Rattle.node_rules.specs.Data.dones
use Rattle.node_rules.specs.Data.kinds
use Rattle.node_rules.specs.Data.tasks
use Rattle.node_rules.specs.declared.work.Work.{Work}
use Rattle.node_rules.specs.Data.{ReplyFields}
use Rattle.node_rules.specs.Inputs.{Came}
use Rattle.node_rules.specs.NodeState.{NodeState, live_at, work_at}
use Rattle.net_bag.specs.Net.{packet_at}
use Rattle.run_rules.specs.Branches.{Run, Seen, seen_at, origin_at}
use Rattle.run_rules.specs.Data.{Packet, Turn}
use Rattle.run_rules.specs.Data.happenings
use Rattle.run_rules.specs.Facts.{node_at}
use Rattle.run_rules.specs.Lawful.{History, IsLawfulRun, facts_at}
use Rattle.run_claims.specs.Places.{RanAt}
use Rattle.run_rules.specs.Runs.{is_accepted}
use Rattle.tree_trail_laws.specs.ChildLaws.{trail_at}

-- what a branch answers that went back to a savepoint
abbrev pub went_back : Answer
went_back = answers.Did dones.RolledBack 0

-- A BACK of this number came to the branch.
pub record CalledBack (t : History) (b : BranchId) (call : ℕ) : Type 0 where
  pub moment : ℕ
  pub turn : Turn
  pub there : slice_get t.trace moment ≡ Some (happenings.Turn turn)
  pub from : BranchId
  pub keep : ℕ
  pub came : Came turn.input from b (kinds.Exec call (tasks.GoBack keep))

-- and this answer says that it went back
abbrev pub WentBack : History → BranchId → ℕ → Answer → Type 0
WentBack t b call a = (a ≡ went_back) × CalledBack t b call

-- In every lawful run each Reply that is no refusal comes from the run of a statement, which answered what the Reply says; or it
-- says that its branch went back, on the BACK of its number.
abbrev pub RepliesComeFromRuns : Type 0
RepliesComeFromRuns = (t : History) → IsLawfulRun t → (number : ℕ) (x : Packet) → packet_at (facts_at t).net number ≡ Some x → (call : ℕ) (weight : Option ℕ) (count : ℕ) (a : Answer)
    → x.msg.kind ≡ kinds.Reply call weight count a → is_accepted (Some a) ≡ true → ((r : Run) × (origin_at (trail_at t) number ≡ Some r) × RanAt t r a) ⊎ WentBack t x.msg.from call a

-- The branch history of the calls of a live branch below a root agrees with what its node keeps: the last one that it took, and
-- the run that gave the answer which it keeps for a call that comes again, unless it went back on that call.
pub record CallsAreTraced (t : History) (w : Work) (s : Seen) : Type 0 where
  pub taken : s.taken ≡ w.came.last_call
  pub kept : (rf : ReplyFields) → w.came.reply ≡ Some rf → is_accepted (Some rf.result) ≡ true → ((r : Run) × (s.answer ≡ Some r) × RanAt t r rf.result) ⊎ WentBack t s.me w.came.last_call rf.result

-- In every lawful run it is so of each live branch below a root.
abbrev pub LowerCallsAreTraced : Type 0
LowerCallsAreTraced = (t : History) → IsLawfulRun t → (n : ℕ) (k : NodeState) → node_at (facts_at t) n ≡ Some k → (l : Live) → live_at k l.me ≡ Some l → l.parent ≢ None
    → (s : Seen) × (seen_at (trail_at t) l.me ≡ Some s) × CallsAreTraced t (work_at k l.me) s
