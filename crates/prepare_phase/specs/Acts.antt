-- The prepare phase: what a live branch does next when COMMIT or Prepare comes, and when its children answer.
-- (Database Administrator's Guide, "Distributed Transactions Concepts": prepare phase, commit point site, read-only
-- optimization.)
use Rattle.std.specs.Prelude.{◌&&◌, not, Bool, true, false, if◌then◌else◌, List, [], ◌∷◌, map, is_none}
use Rattle.std.specs.List.{list_any}
use Rattle.tran_ids.specs.declared.branch.BranchId.{BranchId}
use Rattle.tran_ids.specs.Branch.{same}
use Rattle.session_tree.specs.declared.edge.Edge.{Edge}
use Rattle.session_tree.specs.declared.edge.Vote.{Vote}
use Rattle.session_tree.specs.declared.edge.Vote.TheVariants as votes
use Rattle.session_tree.specs.declared.live.Live.{Live}
use Rattle.session_tree.specs.declared.live.Phase.{Phase}
use Rattle.session_tree.specs.declared.live.Phase.TheVariants as phases
use Rattle.session_tree.specs.declared.act.Walk.{Walk}
use Rattle.session_tree.specs.declared.act.Walk.TheVariants as walks
use Rattle.session_tree.specs.declared.act.Act.{Act}
use Rattle.session_tree.specs.declared.act.Act.TheVariants as acts
use Rattle.session_tree.specs.Tree.{weight, step}

-- ---- all children have answered

-- at a root whose children have all answered
abbrev pub root_act : Walk → Act
root_act walks.Here = acts.Decide
root_act (walks.Down i) = acts.SealAndPass i
root_act walks.Nowhere = acts.Finish

-- all children have answered: at a root what the walk says; elsewhere Ready where the walk comes here, else Prepared or ReadOnly
abbrev pub collected_act : Live → Bool → Act
collected_act l true = if is_none l.parent then root_act (step l) else acts.SayReady
collected_act l false = if is_none (weight l) then acts.SayReadOnly else acts.Seal

-- a branch that waits for CommitPoint
abbrev pub ready : Live → Live
ready l = record l { phase = phases.Ready }

-- a branch that says Ready waits for CommitPoint from then on
abbrev pub after_act : Live → Act → Live
after_act l acts.SayReady = ready l
after_act l _ = l

-- ---- COMMIT or Prepare comes

-- a child is sent Prepare
abbrev pub with_prepare_sent : Edge → Edge
with_prepare_sent e = record e { vote = votes.Asked }

-- the collect begins
abbrev pub collecting : Live → Bool → Live
collecting l site_below = record l { phase = phases.Collecting site_below; edges = map with_prepare_sent l.edges }

-- the collect begins: a branch without children has all answers
abbrev pub first_act_by : Live → Bool → List Edge → Act
first_act_by l site_below [] = collected_act l site_below
first_act_by l site_below (e ∷ es) = acts.AskDown

-- COMMIT or Prepare at a working branch, whose collect has begun
abbrev pub first_act : Live → Bool → Act
first_act l site_below = first_act_by l site_below l.edges

-- only a working branch hears COMMIT or Prepare
abbrev pub prepare_act_in : Live → Bool → Phase → Act
prepare_act_in l site_below phases.Working = first_act (collecting l site_below) site_below
prepare_act_in l site_below _ = acts.Rest

-- what a live branch does about COMMIT at a root, and Prepare elsewhere
unfoldable pub prepare_act : Live → Bool → Act
prepare_act l site_below = prepare_act_in l site_below l.phase

-- in another phase it stays as it is
abbrev pub after_prepare_in : Live → Bool → Phase → Live
after_prepare_in l site_below phases.Working = after_act (collecting l site_below) (first_act (collecting l site_below) site_below)
after_prepare_in l site_below _ = l

-- the branch from then on
unfoldable pub after_prepare : Live → Bool → Live
after_prepare l site_below = after_prepare_in l site_below l.phase

-- ---- a child answers

-- whether Prepare was sent to a child that has not answered
abbrev pub is_awaited : Vote → Bool
is_awaited votes.Asked = true
is_awaited _ = false

-- whether every child has answered
abbrev pub all_answered : Live → Bool
all_answered l = not (list_any (λ e. is_awaited e.vote) l.edges)

-- the last answer completes the collect
abbrev pub next_act : Live → Bool → Act
next_act l site_below = if all_answered l then collected_act l site_below else acts.Rest

-- an Abort ends it at once
abbrev pub answer_act : Live → Bool → Vote → Act
answer_act l site_below votes.Abort = acts.Abandon
answer_act l site_below _ = next_act l site_below

-- whether this is the first answer of this child
abbrev pub answers_first : BranchId → Edge → Bool
answers_first from e = same e.peer from && is_awaited e.vote

-- whether a branch waits for this child's answer
abbrev pub is_first_answer : Live → BranchId → Bool
is_first_answer l from = list_any (answers_first from) l.edges

-- the child with its answer
abbrev pub has_voted : BranchId → Vote → Edge → Edge
has_voted from v e = if answers_first from e then record e { vote = v } else e

-- the branch with a child's answer
abbrev pub voted : Live → BranchId → Vote → Live
voted l from v = record l { edges = map (has_voted from v) l.edges }

-- only a collecting branch hears answers, and only each child's first
abbrev pub heard_act_in : Live → BranchId → Vote → Phase → Act
heard_act_in l from v (phases.Collecting site_below) = if is_first_answer l from then answer_act (voted l from v) site_below v else acts.Rest
heard_act_in l from v _ = acts.Rest

-- what a live branch does about a child's answer
unfoldable pub heard_act : Live → BranchId → Vote → Act
heard_act l from v = heard_act_in l from v l.phase

-- any other leaves it as it is
abbrev pub after_answer_in : Live → BranchId → Vote → Phase → Live
after_answer_in l from v (phases.Collecting site_below) =
    if is_first_answer l from then after_act (voted l from v) (answer_act (voted l from v) site_below v) else l
after_answer_in l from v _ = l

-- the branch from then on
unfoldable pub after_answer : Live → BranchId → Vote → Live
after_answer l from v = after_answer_in l from v l.phase
