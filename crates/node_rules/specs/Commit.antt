-- The commit and forget phases, at a branch that the node keeps a row of: decisions come from toward and go to those
-- beyond, acknowledgements come back, and the branch forgets. (Database Administrator's Guide, "Distributed Transactions
-- Concepts": commit phase and forget phase.)
unfoldable pub use Rattle.commit_forget.specs.Beyond.{beyond}
unfoldable pub use Rattle.commit_forget.specs.Next.{next_on_decision, next_on_ack, next_on_forgotten}
pub use Rattle.commit_forget.specs.Beyond.{parent_beyond, kid_beyond, all_acked, is_beyond, is_neighbor}
pub use Rattle.commit_forget.specs.Next.{is_mixed, first_decision, known_decision, decision_at, knows_commit, ack_counts, acks_kid, acked_by, is_asked_again}
use Rattle.std.specs.Prelude.{ℕ, if◌then◌else◌, List, [], ◌∷◌, map, Option, Some, None}
use Rattle.node_rules.specs.Data.{BranchId, Decision, RedoRecord, KeptRow, Kind, Beyond, Next, Session, Finished, Post}
use Rattle.node_rules.specs.Data.decisions
use Rattle.node_rules.specs.Data.kinds
use Rattle.node_rules.specs.Data.records
use Rattle.node_rules.specs.Data.nexts
use Rattle.node_rules.specs.Records.{with_record}
use Rattle.node_rules.specs.Sessions.{commit_ended, commit_answer, commit_complete, tran_refusal}
use Rattle.node_rules.specs.NodeState.{NodeState, TurnDraft, nothing, saying, post, post_one, to_each, to_one, with_kept_row}

-- the same message to everybody beyond
abbrev pub to_beyond : KeptRow → Kind → List Post
to_beyond s kind = to_each s.me kind (map (λ b. b.branch) (beyond s))

-- ---- decisions

-- the decision goes to those beyond; where there is nobody, the commit is acknowledged at once
abbrev pub passes_commit : KeptRow → ℕ → List Beyond → List Post
passes_commit s n [] = to_one s.me kinds.Ack s.toward
passes_commit s n (b ∷ bs) = to_each s.me (kinds.Committed n) (map (λ c. c.branch) (b ∷ bs))

-- the parent is told RolledBack, a child Rollback
abbrev pub rollback_to : BranchId → Beyond → Post
rollback_to me b = post_one me (if b.is_parent then kinds.RolledBack else kinds.Rollback) b.branch

-- the decision goes on to those beyond
abbrev pub passes : KeptRow → Decision → List Post
passes s (decisions.Commit n) = passes_commit s n (beyond s)
passes s decisions.Rollback = map (rollback_to s.me) (beyond s)

-- RolledBack at the sealed root ends its COMMIT
abbrev pub decided_sessions : List Session → BranchId → Decision → List Session
decided_sessions ss b (decisions.Commit n) = ss
decided_sessions ss b decisions.Rollback = commit_ended ss b

-- with ORA-02050
abbrev pub decision_answers : List Session → BranchId → Decision → List Finished
decision_answers ss b (decisions.Commit n) = []
decision_answers ss b decisions.Rollback = commit_answer ss b (tran_refusal 2050 b)

-- the decision's record stands, and the decision goes on
abbrev pub learns : NodeState → KeptRow → Decision → RedoRecord → TurnDraft
learns k s d r = record {
  after = record (with_record k r) { sessions = decided_sessions k.sessions s.me d };
  wrote = Some r;
  says = passes s d;
  ended = decision_answers k.sessions s.me d;
}

-- Forgot stands, those beyond are told, and the COMMIT of a root is complete
abbrev pub forgets : NodeState → KeptRow → TurnDraft
forgets k s = record {
  after = record (with_record k (records.Forgot s.me)) { sessions = commit_ended k.sessions s.me };
  wrote = Some (records.Forgot s.me);
  says = to_beyond s kinds.Forgotten;
  ended = commit_answer k.sessions s.me commit_complete;
}

-- what a kept branch does next, as a turn
abbrev pub next_turn : NodeState → KeptRow → BranchId → Next → TurnDraft
next_turn k s from nexts.Rest = nothing k
next_turn k s from (nexts.End d) = learns k s d (records.Ended s.me d)
next_turn k s from (nexts.Meet d mixed) = learns k s d (records.Met s.me d mixed)
next_turn k s from nexts.AckToward = saying k (to_one s.me kinds.Ack s.toward)
next_turn k s from nexts.Forget = forgets k s
next_turn k s from nexts.SayForgotten = saying k (post s.me from kinds.Forgotten)
next_turn k s from nexts.SayAck = saying k (post s.me from kinds.Ack)

-- Committed, RolledBack or Rollback at a kept branch
abbrev pub on_decision : NodeState → KeptRow → BranchId → Decision → TurnDraft
on_decision k s from d = next_turn k s from (next_on_decision s from d)

-- ---- acknowledgements

-- an Ack that counts is noted in memory alone
abbrev pub counts_ack : NodeState → KeptRow → BranchId → TurnDraft
counts_ack k s from = next_turn (with_kept_row k s) s from (next_on_ack s)

-- a message Ack at a kept branch
abbrev pub on_ack : NodeState → KeptRow → BranchId → TurnDraft
on_ack k s from = if ack_counts s from then counts_ack k (acked_by s from) from else nothing k

-- a message Forgotten at a kept branch
abbrev pub on_forgotten : NodeState → KeptRow → BranchId → TurnDraft
on_forgotten k s from = next_turn k s from (next_on_forgotten s from)

-- ---- questions of a parent

-- CommitPoint at a kept branch that knows this decision
abbrev pub commit_point_known : NodeState → KeptRow → BranchId → Option Decision → TurnDraft
commit_point_known k s from None = nothing k
commit_point_known k s from (Some (decisions.Commit n)) = saying k (post s.me from (kinds.Committed n))
commit_point_known k s from (Some decisions.Rollback) = saying k (post s.me from kinds.RolledBack)

-- a message CommitPoint at a kept branch: the decision, where it is known
abbrev pub on_commit_point_kept : NodeState → KeptRow → BranchId → TurnDraft
on_commit_point_kept k s from = commit_point_known k s from s.decision

-- a message Prepare at a kept branch: Prepared again
abbrev pub on_prepare_kept : NodeState → KeptRow → BranchId → TurnDraft
on_prepare_kept k s from = if is_asked_again s from then saying k (post s.me from kinds.Prepared) else nothing k
