-- What is done at a branch that may be live, or that a node may keep a row of; and what a node needs where a branch becomes
-- sealed or decides.
use Rattle.std.specs.Prelude.{◌≡◌, ◌<◌, ◌-◌, ◌^◌, ℕ, if◌then◌else◌, Bool, false, List, [], ◌∷◌, Option, None, Some, IfSome}
use Rattle.std.specs.Option.{option_map}
use Rattle.row_store.specs.Store.{is_in_doubt}
use Rattle.prepare_phase.specs.Acts.{after_answer}
use Rattle.node_state.specs.Changed.{change_item}
use Rattle.node_state.specs.Lives.{prepared}
use Rattle.node_rules.specs.Data.{BranchId, Live, Vote, Phase, KeptRow, Decision, RedoRecord}
use Rattle.node_rules.specs.declared.session.Session.{Session}
use Rattle.node_rules.specs.Data.answers
use Rattle.node_rules.specs.Data.dones
use Rattle.node_rules.specs.Data.records
use Rattle.node_rules.specs.Words.{one}
use Rattle.node_rules.specs.Refusals.{dtx}
use Rattle.node_rules.specs.Records.{with_record}
use Rattle.node_rules.specs.Sessions.{commit_ended}
use Rattle.node_rules.specs.NodeState.{NodeState, TurnDraft, nothing, ending, live_id, live_at, kept_row_at, without_branch}
use Rattle.node_rules.specs.Prepare.{without_read_keys}
use Rattle.node_memory.specs.declared.memory.Memory.{Memory}
use Rattle.node_memory.specs.Leaving.{HasItsUndo}
use Rattle.node_memory.specs.Parts.{kept_in}

-- nothing where the branch is not live
abbrev pub where_live : NodeState → (Live → TurnDraft) → Option Live → TurnDraft
where_live k f None = nothing k
where_live k f (Some l) = f l

-- what is done at a branch where it is live
abbrev pub at_live : NodeState → BranchId → (Live → TurnDraft) → TurnDraft
at_live k b f = where_live k f (live_at k b)

-- how far a live branch is in its transaction
abbrev pub phase_of : NodeState → BranchId → Option Phase
phase_of k b = option_map (λ l. l.phase) (live_at k b)

-- a branch after COMMIT or Prepare, with the comment of the COMMIT: keys that it only read are given back
abbrev pub begun : NodeState → BranchId → Bool → List ℕ → NodeState
begun k b site_below comment = record (without_read_keys k b) { lives = change_item live_id (prepared site_below comment) k.lives b }

-- a branch after a child's answer
abbrev pub answered : NodeState → BranchId → BranchId → Vote → NodeState
answered k b from vote = record k { lives = change_item live_id (λ l. after_answer l from vote) k.lives b }

-- nothing where the node keeps no row of the branch
abbrev pub where_kept : NodeState → (KeptRow → TurnDraft) → Option KeptRow → TurnDraft
where_kept k f None = nothing k
where_kept k f (Some s) = f s

-- what is done at a branch where the node keeps a row of it
abbrev pub at_kept : NodeState → BranchId → (KeptRow → TurnDraft) → TurnDraft
at_kept k b f = where_kept k f (kept_row_at k b)

-- the record of a decision that a kept branch learns: Met where it was forced, with whether the two differ
abbrev pub learned : BranchId → Decision → Option Bool → RedoRecord
learned b d None = records.Ended b d
learned b d (Some mixed) = records.Met b d mixed

-- what a node keeps after a turn that wrote this
abbrev pub with_wrote : NodeState → Option RedoRecord → NodeState
with_wrote k None = k
with_wrote k (Some r) = with_record k r

-- what a node keeps after a live branch left with this record
abbrev pub left_by : NodeState → BranchId → Option RedoRecord → NodeState
left_by k b None = k
left_by k b (Some r) = with_record (without_branch k b) r

-- A branch may become sealed or decide: it is not in doubt yet, it has the undo of its changes, and the clock has a number left.
pub record MayCommit (m : Memory) (b : BranchId) : Type 0 where
  pub clock : m.clock < 2 ^ 48 - 1
  pub apart : is_in_doubt m.store.doubts b ≡ false
  pub undo : HasItsUndo (kept_in m) b

-- a branch may do so, where it is live
abbrev pub MayCommitWhereLive : Memory → BranchId → Type 0
MayCommitWhereLive m b = IfSome (live_at (kept_in m) b) (λ l. MayCommit m b)

-- the COMMIT of a branch without a parent ends
abbrev pub ended_where : List Session → BranchId → Option BranchId → List Session
ended_where ss b None = commit_ended ss b
ended_where ss b (Some parent) = ss

-- the COMMIT of a site without neighbours ends
abbrev pub ended_if : Bool → List Session → BranchId → List Session
ended_if alone ss b = if alone then commit_ended ss b else ss

-- the row of this branch is hidden, or there is none that may be purged: DTX-06
abbrev pub hides_named : NodeState → ℕ → List ℕ → Option BranchId → TurnDraft
hides_named k session id None = ending k session (answers.Refused (dtx 6 (one id)))
hides_named k session id (Some b) = record {
  after = with_record k (records.Hidden b);
  wrote = Some (records.Hidden b);
  says = [];
  ended = (record { session = session; answer = answers.Did dones.Purged 0 }) ∷ [];
}
