-- What a branch does about CommitPoint, a decision, an Ack and Forgotten.
-- (Database Administrator's Guide, "Distributed Transactions Concepts": commit phase and forget phase.)
use Rattle.std.specs.Prelude.{ℕ, ◌&&◌, ◌||◌, not, Bool, true, false, if◌then◌else◌, map, is_none, Option, Some, None}
use Rattle.tran_ids.specs.declared.branch.BranchId.{BranchId}
use Rattle.tran_ids.specs.Branch.{same}
use Rattle.redo_record.specs.declared.decision.Decision.{Decision}
use Rattle.redo_record.specs.declared.decision.Decision.TheVariants as decisions
use Rattle.redo_record.specs.declared.durable.State.{State}
use Rattle.redo_record.specs.declared.durable.State.TheVariants as states
use Rattle.redo_record.specs.declared.durable.Kid.{Kid}
use Rattle.redo_record.specs.declared.durable.KeptRow.{KeptRow}
use Rattle.session_tree.specs.declared.live.Live.{Live}
use Rattle.session_tree.specs.declared.live.Phase.{Phase}
use Rattle.session_tree.specs.declared.live.Phase.TheVariants as phases
use Rattle.session_tree.specs.declared.act.Walk.{Walk}
use Rattle.session_tree.specs.declared.act.Walk.TheVariants as walks
use Rattle.session_tree.specs.declared.act.Act.{Act}
use Rattle.session_tree.specs.declared.act.Act.TheVariants as acts
use Rattle.session_tree.specs.Live.{is_branch}
use Rattle.session_tree.specs.Tree.{step}
use Rattle.commit_forget.specs.declared.next.Next.{Next}
use Rattle.commit_forget.specs.declared.next.Next.TheVariants as nexts
use Rattle.commit_forget.specs.Beyond.{all_acked, is_beyond}

-- ---- the commit point

-- CommitPoint at a branch that answered Ready
abbrev pub commit_point_act : Walk → Act
commit_point_act walks.Here = acts.Decide
commit_point_act (walks.Down i) = acts.SealAndPass i
commit_point_act walks.Nowhere = acts.Rest

-- only a branch that answered Ready hears CommitPoint
abbrev pub commit_point_in : Live → Phase → Act
commit_point_in l phases.Ready = commit_point_act (step l)
commit_point_in l _ = acts.Rest

-- what a live branch does about CommitPoint
unfoldable pub pointed_act : Live → Act
pointed_act l = commit_point_in l l.phase

-- ---- decisions

-- the forced outcome and the decision differ
abbrev pub is_mixed : State → Decision → Bool
is_mixed (states.ForcedCommit n) decisions.Rollback = true
is_mixed states.ForcedRollback (decisions.Commit n) = true
is_mixed _ _ = false

-- the first decision from toward ends a sealed branch, and is noted by a forced one
abbrev pub first_decision : State → Decision → Next
first_decision states.Sealed d = nexts.End d
first_decision states.Committed d = nexts.Rest
first_decision (states.ForcedCommit n) d = nexts.Meet d (is_mixed (states.ForcedCommit n) d)
first_decision states.ForcedRollback d = nexts.Meet d (is_mixed states.ForcedRollback d)

-- a decision that is known: Committed again is acknowledged, once all beyond have acknowledged
abbrev pub known_decision : KeptRow → Decision → Decision → Next
known_decision s (decisions.Commit m) (decisions.Commit n) = if all_acked s then nexts.SayAck else nexts.Rest
known_decision s _ _ = nexts.Rest

-- by what the branch knows
abbrev pub decision_at : KeptRow → Decision → Option Decision → Next
decision_at s d None = first_decision s.state d
decision_at s d (Some known) = known_decision s known d

-- what a kept branch does about a decision: only toward is heard
unfoldable pub next_on_decision : KeptRow → BranchId → Decision → Next
next_on_decision s from d = if is_branch from s.toward then decision_at s d s.decision else nexts.Rest

-- ---- acknowledgements

-- whether the decision is known and is commit
abbrev pub knows_commit : Option Decision → Bool
knows_commit None = false
knows_commit (Some decisions.Rollback) = false
knows_commit (Some (decisions.Commit n)) = true

-- whether an Ack counts: at a branch that knows the commit, from one beyond
abbrev pub ack_counts : KeptRow → BranchId → Bool
ack_counts s from = knows_commit s.decision && is_beyond s from

-- the child with its Ack counted
abbrev pub acks_kid : BranchId → Kid → Kid
acks_kid from c = if same c.branch from then record c { acked = true } else c

-- with this neighbour's acknowledgement
abbrev pub acked_by : KeptRow → BranchId → KeptRow
acked_by s from = record s { parent_acked = s.parent_acked || is_branch from s.parent; children = map (acks_kid from) s.children }

-- when all beyond have acknowledged the site forgets, and another branch acknowledges; one that forgot says so
unfoldable pub next_on_ack : KeptRow → Next
next_on_ack s = if s.forgot then nexts.SayForgotten else (if all_acked s then (if is_none s.toward then nexts.Forget else nexts.AckToward) else nexts.Rest)

-- what a kept branch does about an Ack: one that does not count is ignored
abbrev pub acked_next : KeptRow → BranchId → Next
acked_next s from = if ack_counts s from then next_on_ack (acked_by s from) else nexts.Rest

-- the row from then on: an Ack that counts is noted
abbrev pub after_ack : KeptRow → BranchId → KeptRow
after_ack s from = if ack_counts s from then acked_by s from else s

-- a branch that knows the commit forgets when toward has forgotten, once
unfoldable pub next_on_forgotten : KeptRow → BranchId → Next
next_on_forgotten s from = if knows_commit s.decision && (is_branch from s.toward && not s.forgot) then nexts.Forget else nexts.Rest

-- ---- a Prepare that comes again

-- whether a Prepare comes again to a sealed branch from a parent that is toward
abbrev pub is_asked_again : KeptRow → BranchId → Bool
is_asked_again s from = is_none s.decision && (is_branch from s.parent && is_branch from s.toward)
