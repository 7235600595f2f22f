-- A node that can take a turn meets the conditions of each handler, also once it has heard the message that comes, and is ready
-- again and keeps its undo after the turn.
use Rattle.std.proofs.Common.{◌≡◌, ℕ, ◌+◌, ◌<◌, ◌≤◌, ◌^◌, List, length, is_some, Option, None, Some, IfSome, refl, ap, subst, sym, arith}
use Rattle.tran_ids.specs.declared.branch.BranchId.{BranchId}
use Rattle.tran_ids.specs.Listed.{item_at}
use Rattle.node_rules.specs.Data.{Stmt, RedoRecord, Live, Msg, Place, Input}
use Rattle.node_rules.specs.declared.session.Finished.{Finished}
use Rattle.node_rules.specs.Data.inputs
use Rattle.node_rules.specs.NodeState.{NodeState, live_id, live_at}
use Rattle.node_rules.specs.Inputs.{IsSession}
use Rattle.node_rules.specs.Sessions.{session_at}
use Rattle.node_rules.specs.Calls.{next_child}
use Rattle.node_rules.specs.Client.{new_root}
use Rattle.node_rules.specs.Turn.{clock_raised_by, turn_of}
use Rattle.node_ready_laws.specs.Shapes.{count_limit}
use Rattle.node_ready_laws.specs.Ids.{LivesAreFree}
use Rattle.node_ready_laws.specs.Ready.{IsReady, TurnsStayReady}
use Rattle.node_ready_laws.specs.Sound.{IsNext}
use Rattle.node_undo_laws.specs.Kept.{HasUndo}
use Rattle.node_undo_laws.specs.Fits.{FitsDoubts}
use Rattle.node_undo_laws.specs.Laws.{TurnsKeepUndo, RecordsFitDoubts}
use Rattle.node_memory.specs.declared.memory.Memory.{Memory}
use Rattle.node_memory.specs.Parts.{stored_in, kept_in}
use Rattle.node_commit.specs.Branches.{MayCommit, MayCommitWhereLive}
use Rattle.node_calls.specs.Handled.{HasFewWith, EdgesHaveNumbers, BranchHasRoom, TakesStatement}
use Rattle.node_calls.specs.Ready.{IsReadyUpTo, BranchesMayOpen, OpenedMayCome, RepliesMayCome, StatementsMayCome, TransactionsMayBegin}
use Rattle.node_core.specs.declared.served.StampedTurn.{StampedTurn}
use Rattle.node_core.specs.Able.{given_limit, IsAble, MayTake}
use Rattle.node_core.specs.Refused.{LeavesAll, IsRefused, RefusedCallsLeaveAll}
use Rattle.node_core.specs.Serves.{Serves}

-- ---- what handlers need

-- the same node with its clock at 0: the conditions of calls are none of its clock
abbrev unclocked : Memory → Memory
unclocked m = record m { clock = 0 }

usable : (m : Memory) → IsAble m.place (kept_in m) → IsReadyUpTo given_limit (unclocked m)
usable m able = record {
  ready = record { rows = able.ready.rows; names = able.ready.names; shape = able.ready.shape; ids = able.ready.ids };
  within = record { clock = omega arith; opens = able.opens; seqs = able.seqs; calls = able.calls };
  low = omega arith;
  links = able.links;
  nodes = able.nodes;
}

pub statements_come : StatementsMayCome → (m : Memory) → IsAble m.place (kept_in m) → (b : BranchId) (s : Stmt) → TakesStatement m b s
statements_come law m able b s =
    let takes : TakesStatement (unclocked m) b s = law given_limit (unclocked m) (usable m able) b s in
    record { few = takes.few; numbers = takes.numbers; nodes = takes.nodes; nameless = takes.nameless; rows = takes.rows }

pub seq_left : TransactionsMayBegin → (m : Memory) → IsAble m.place (kept_in m) → (n : ℕ) → IsSession n → (session_at m.sessions n).seq + 1 < 2 ^ 32
seq_left law m able n fit = (law given_limit (unclocked m) (usable m able) n fit).0

pub root_is_new : TransactionsMayBegin → (m : Memory) → IsAble m.place (kept_in m) → (n : ℕ) → IsSession n → item_at live_id m.lives (new_root m.place (kept_in m) n) ≡ None
root_is_new law m able n fit = (law given_limit (unclocked m) (usable m able) n fit).1

pub session_left : BranchesMayOpen → (m : Memory) → IsAble m.place (kept_in m) → 65 + length m.opens < 2 ^ 32
session_left law m able = (law given_limit (unclocked m) (usable m able)).0

pub child_is_new : BranchesMayOpen → (m : Memory) → IsAble m.place (kept_in m) → item_at live_id m.lives (next_child m.place (kept_in m)) ≡ None
child_is_new law m able = (law given_limit (unclocked m) (usable m able)).1

pub has_room : OpenedMayCome → (m : Memory) → IsAble m.place (kept_in m) → (b : BranchId) → BranchHasRoom m b
has_room law m able b = (law given_limit (unclocked m) (usable m able) b).0

pub has_numbers : OpenedMayCome → (m : Memory) → IsAble m.place (kept_in m) → (b : BranchId) → EdgesHaveNumbers m b
has_numbers law m able b = (law given_limit (unclocked m) (usable m able) b).1

pub has_few_with : RepliesMayCome → (m : Memory) → IsAble m.place (kept_in m) → (b : BranchId) (weight : Option ℕ) (told : ℕ) → told ≤ count_limit → HasFewWith m b weight told
has_few_with law m able b weight told few = law given_limit (unclocked m) (usable m able) b weight told few

may_commit_by : LivesAreFree → (m : Memory) → IsAble m.place (kept_in m) → (b : BranchId) (found : Option Live) → live_at (kept_in m) b ≡ found → IfSome found (λ l. MayCommit m b)
may_commit_by law m able b None at = tt
may_commit_by law m able b (Some l) at = record { clock = able.clock; apart = ap is_some (law (kept_in m) b l able.ready.ids at).1; undo = able.undo.stands.own b }

pub may_commit : LivesAreFree → (m : Memory) → IsAble m.place (kept_in m) → (b : BranchId) → MayCommitWhereLive m b
may_commit law m able b = may_commit_by law m able b (live_at (kept_in m) b) refl

-- ---- turns

-- a node that has heard a message
raised_able : (p : Place) (k : NodeState) (m : Msg) → MayTake p k (inputs.Message m) → IsAble p (clock_raised_by k m)
raised_able p k m may =
    let scns = may.scns in
    let clock = may.able.clock in
    record {
      ready = record { rows = may.able.ready.rows; names = may.able.ready.names; shape = may.able.ready.shape; ids = may.able.ready.ids };
      undo = record { lives = may.able.undo.lives; keys = may.able.undo.keys; stands = may.able.undo.stands; even = may.able.undo.even };
      nodes = may.able.nodes;
      links = may.able.links;
      opens = may.able.opens;
      seqs = may.able.seqs;
      calls = may.able.calls;
      clock = omega (arith, scns, clock);
    }

pub able_heard : (m n : Memory) (msg : Msg) → MayTake m.place (kept_in m) (inputs.Message msg) → kept_in n ≡ clock_raised_by (kept_in m) msg → n.place ≡ m.place → IsAble n.place (kept_in n)
able_heard m n msg may kept place =
    subst (λ (p : Place). IsAble p (kept_in n)) (sym place) (subst (λ (k : NodeState). IsAble m.place k) (sym kept) (raised_able m.place (kept_in m) msg may))

pub ready_again : TurnsStayReady → (m n : Memory) (input : Input) (served : StampedTurn) → MayTake m.place (kept_in m) input → Serves (turn_of m.place (kept_in m) input) (kept_in n) served → n.place ≡ m.place
    → IsReady n.place (kept_in n)
ready_again law m n input served may serves place =
    subst (λ (p : Place). IsReady p (kept_in n)) (sym place)
    (subst (λ (k : NodeState). IsReady m.place k) (sym serves.after) (law m.place (kept_in m) input may.expected may.able.ready).0)

pub may_follow : TurnsStayReady → (m n : Memory) (input : Input) (served : StampedTurn) → MayTake m.place (kept_in m) input → Serves (turn_of m.place (kept_in m) input) (kept_in n) served
    → IfSome served.wrote (IsNext (stored_in m))
may_follow law m n input served may serves =
    subst (λ (wrote : Option RedoRecord). IfSome wrote (IsNext (stored_in m))) (sym serves.wrote) (law m.place (kept_in m) input may.expected may.able.ready).1

-- the node keeps its undo, and its record fits beside the branches in doubt
pub undo_kept : TurnsKeepUndo → (m n : Memory) (input : Input) (served : StampedTurn) → MayTake m.place (kept_in m) input → Serves (turn_of m.place (kept_in m) input) (kept_in n) served → n.place ≡ m.place
    → HasUndo n.place (kept_in n)
undo_kept law m n input served may serves place =
    subst (λ (p : Place). HasUndo p (kept_in n)) (sym place)
    (subst (λ (k : NodeState). HasUndo m.place k) (sym serves.after) (law m.place (kept_in m) input may.expected.fit may.able.ready.rows may.able.ready.ids may.able.undo))

pub fits_doubts : RecordsFitDoubts → (m n : Memory) (input : Input) (served : StampedTurn) → MayTake m.place (kept_in m) input → Serves (turn_of m.place (kept_in m) input) (kept_in n) served
    → IfSome served.wrote (FitsDoubts m.place.undo (stored_in m))
fits_doubts law m n input served may serves =
    subst (λ (wrote : Option RedoRecord). IfSome wrote (FitsDoubts m.place.undo (stored_in m))) (sym serves.wrote) (law m.place (kept_in m) input may.expected.fit may.able.ready.ids may.able.undo)

-- a call that is refused
pub refused_so : RefusedCallsLeaveAll → (p : Place) (k new : NodeState) (input : Input) (served : StampedTurn) → Serves (turn_of p k input) new served → IsRefused input served.ended → LeavesAll k (turn_of p k input)
refused_so law p k new input served serves refused = law p k input (subst (λ (ended : List Finished). IsRefused input ended) serves.ended refused)
