-- The prepare phase: COMMIT and Prepare start a branch's collect, its children answer, and the branch answers, becomes
-- sealed or decides. (Database Administrator's Guide, "Distributed Transactions Concepts": prepare phase, commit point
-- site, read-only optimization.)
pub use Rattle.prepare_phase.specs.Acts.{root_act, collected_act, first_act_by, first_act, is_awaited, all_answered, next_act, answer_act, with_prepare_sent, collecting, ready, answers_first, has_voted, voted}
pub use Rattle.prepare_phase.specs.Records.{path_of, is_place, is_prepared, peer_record, named_children, prepared_before, toward_in, sealed_of, decided_of, site_neighbors, is_alone}
pub use Rattle.commit_forget.specs.Next.{commit_point_act}
use Rattle.prepare_phase.specs.declared.asked.Asked.{Asked}
use Rattle.prepare_phase.specs.Acts.{is_first_answer}
use Rattle.prepare_phase.specs.Records.{asked_from}
use Rattle.std.specs.Prelude.{ℕ, ◌+◌, Bool, true, if◌then◌else◌, List, [], ◌++◌, map, Option, Some, None}
use Rattle.node_rules.specs.Data.{Answer, Change, BranchId, RedoRecord, Edge, Vote, Phase, Live, Kind, Act, Session, Finished, Post}
use Rattle.node_rules.specs.Data.kinds
use Rattle.node_rules.specs.Data.records
use Rattle.node_rules.specs.Data.phases
use Rattle.node_rules.specs.Data.acts
use Rattle.session_tree.specs.Live.{children_of, peer_of}
use Rattle.row_locks.specs.Locks.{without_reads}
use Rattle.node_rules.specs.Rows.{changes_of}
use Rattle.node_rules.specs.Records.{with_record}
use Rattle.session_tree.specs.Tree.{step}
use Rattle.node_rules.specs.Sessions.{commit_ended, commit_answer, commit_complete, tran_refusal}
use Rattle.node_rules.specs.NodeState.{NodeState, TurnDraft, nothing, saying, to_each, to_one, sets_at, with_live, without_branch}

-- ---- what goes to the children

-- Prepare to a child, telling whether the walk goes there
abbrev pub prepare_to : BranchId → List ℕ → Asked → Post
prepare_to me comment a = record { from = me; to = a.child; kind = kinds.Prepare a.site_below comment }

-- Prepare to each child
abbrev pub prepares : BranchId → List ℕ → Option ℕ → ℕ → List Edge → List Post
prepares me comment path i es = map (prepare_to me comment) (asked_from path i es)

-- one message to each child
abbrev pub to_children : Live → Kind → List Post
to_children l kind = to_each l.me kind (children_of l)

-- the changes of a live branch
abbrev pub own_changes : NodeState → BranchId → List Change
own_changes k b = changes_of (sets_at k.owns b)

-- a branch becomes sealed at the node's clock
abbrev pub sealed_record : NodeState → Live → Option ℕ → RedoRecord
sealed_record k l path = records.Sealed (sealed_of k.clock l (own_changes k l.me) path)

-- the commit SCN is one more than the site's clock
abbrev pub decided_record : NodeState → Live → RedoRecord
decided_record k l = records.Decided (decided_of (k.clock + 1) l (own_changes k l.me))

-- ---- turns

-- a branch rolls back; these messages go first
abbrev pub drops : NodeState → Live → List Post → TurnDraft
drops k l first = saying (without_branch k l.me) (first ++ to_children l kinds.Rollback)

-- a root rolls back and its COMMIT is answered
abbrev pub root_drops : NodeState → Live → Answer → TurnDraft
root_drops k l a = record {
  after = record (without_branch k l.me) { sessions = commit_ended k.sessions l.me };
  wrote = None;
  says = to_children l kinds.Rollback;
  ended = commit_answer k.sessions l.me a;
}

-- at a root the COMMIT ends
abbrev pub abandoned_sessions : List Session → Live → Option BranchId → List Session
abandoned_sessions ss l None = commit_ended ss l.me
abandoned_sessions ss l (Some parent) = ss

-- with ORA-02050
abbrev pub abandon_ends : List Session → Live → Option BranchId → List Finished
abandon_ends ss l None = commit_answer ss l.me (tran_refusal 2050 l.me)
abandon_ends ss l (Some parent) = []

-- a child's Abort: the branch rolls back, and tells its parent Abort
abbrev pub abandons : NodeState → Live → TurnDraft
abandons k l = record {
  after = record (without_branch k l.me) { sessions = abandoned_sessions k.sessions l l.parent };
  wrote = None;
  says = to_one l.me kinds.Abort l.parent ++ to_children l kinds.Rollback;
  ended = abandon_ends k.sessions l l.parent;
}

-- a branch becomes sealed: its record stands and it is live no more
abbrev pub seals : NodeState → Live → Option ℕ → List Post → TurnDraft
seals k l path says = record { after = with_record (without_branch k l.me) (sealed_record k l path); wrote = Some (sealed_record k l path); says = says; ended = [] }

-- the site's node after the decision
abbrev pub decided_kept : NodeState → Live → NodeState
decided_kept k l = with_record (without_branch (record k { clock = k.clock + 1 }) l.me) (decided_record k l)

-- the site decides: its changes are committed, and its neighbours are told; without neighbours the COMMIT is complete
abbrev pub decides : NodeState → Live → TurnDraft
decides k l = record {
  after = record (decided_kept k l) { sessions = if is_alone l then commit_ended k.sessions l.me else k.sessions };
  wrote = Some (decided_record k l);
  says = to_each l.me (kinds.Committed (k.clock + 1)) (site_neighbors l);
  ended = if is_alone l then commit_answer k.sessions l.me commit_complete else [];
}

-- a root without a site: nothing was changed, and the COMMIT is complete
abbrev pub finishes : NodeState → Live → TurnDraft
finishes k l = record {
  after = record (without_branch k l.me) { sessions = commit_ended k.sessions l.me };
  wrote = None;
  says = [];
  ended = commit_answer k.sessions l.me commit_complete;
}

-- what a branch does next, as a turn
abbrev pub act_turn : NodeState → Live → Bool → Act → TurnDraft
act_turn k l site_below acts.Rest = saying (with_live k l) []
act_turn k l site_below acts.AskDown = saying (with_live k l) (prepares l.me l.comment (path_of site_below (step l)) 1 l.edges)
act_turn k l site_below acts.SayReadOnly = saying (without_branch k l.me) (to_one l.me kinds.ReadOnly l.parent)
act_turn k l site_below acts.SayReady = saying (with_live k (ready l)) (to_one l.me kinds.Ready l.parent)
act_turn k l site_below acts.Seal = seals k l None (to_one l.me kinds.Prepared l.parent)
act_turn k l site_below (acts.SealAndPass i) = seals k l (Some i) (to_one l.me kinds.CommitPoint (peer_of l i))
act_turn k l site_below acts.Decide = decides k l
act_turn k l site_below acts.Finish = finishes k l
act_turn k l site_below acts.Abandon = abandons k l

-- keys that FOR UPDATE alone holds are released
abbrev pub without_read_keys : NodeState → BranchId → NodeState
without_read_keys k b = record k { locks = without_reads k.locks b }

-- COMMIT at a root, Prepare at any other branch
abbrev pub collects : NodeState → Live → Bool → TurnDraft
collects k l site_below = act_turn (without_read_keys k l.me) (collecting l site_below) site_below (first_act (collecting l site_below) site_below)

-- with the comment of the COMMIT
abbrev pub with_comment : Live → List ℕ → Live
with_comment l comment = record l { comment = comment }

-- a Prepare that comes again is ignored
abbrev pub prepare_in : NodeState → Live → Bool → List ℕ → Phase → TurnDraft
prepare_in k l site_below comment phases.Working = collects k (with_comment l comment) site_below
prepare_in k l site_below comment _ = nothing k

-- a message Prepare at a live branch
abbrev pub on_prepare : NodeState → Live → Bool → List ℕ → TurnDraft
on_prepare k l site_below comment = prepare_in k l site_below comment l.phase

-- only a collecting branch hears answers, and only each child's first
abbrev pub answer_in : NodeState → Live → BranchId → Vote → Phase → TurnDraft
answer_in k l from v (phases.Collecting site_below) =
    if is_first_answer l from then act_turn k (voted l from v) site_below (answer_act (voted l from v) site_below v) else nothing k
answer_in k l from v _ = nothing k

-- a child's answer to Prepare, at a live branch
abbrev pub on_answer : NodeState → Live → BranchId → Vote → TurnDraft
on_answer k l from v = answer_in k l from v l.phase

-- CommitPoint, which a parent alone sends, at a live branch that answered Ready
abbrev pub commit_point_in : NodeState → Live → Phase → TurnDraft
commit_point_in k l phases.Ready = act_turn k l true (commit_point_act (step l))
commit_point_in k l _ = nothing k

-- a message CommitPoint at a live branch
abbrev pub on_commit_point : NodeState → Live → TurnDraft
on_commit_point k l = commit_point_in k l l.phase
