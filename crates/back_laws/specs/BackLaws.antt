-- The runs of a branch over time. A run has the step of the call in which it came, which is greater than those of all calls before; so
-- what a branch has up to a step stays, unless it goes back to a lower one. A savepoint of a live root is of the turn that set it, and
-- the runs up to its step are those of that turn. (SQL Language Reference: SAVEPOINT, ROLLBACK.)
use Rattle.std.specs.Prelude.{◌≡◌, ℕ, ◌+◌, ◌<◌, ◌≤◌, false, List, filter, nat_le, length, slice_get, unwrap_or, [], Option, Some, None}
use Rattle.node_rules.specs.Data.{BranchId, Savepoint}
use Rattle.node_rules.specs.Data.inputs
use Rattle.node_rules.specs.Data.stmts
use Rattle.run_rules.specs.Branches.{Ran, Seen, seen_at, root_at}
use Rattle.run_rules.specs.Data.{Turn}
use Rattle.run_rules.specs.Data.happenings
use Rattle.run_rules.specs.Each.{facts_upto, trail_upto}
use Rattle.run_rules.specs.Facts.{node_at, outcome_at}
use Rattle.run_rules.specs.Lawful.{History, IsLawfulRun, facts_at}
use Rattle.run_rules.specs.Runs.{answered_by, is_refused}
use Rattle.run_rules.specs.Trail.{with_begun, back_in, step_back}
use Rattle.back_laws.specs.Returns.{LastSavepoint, HasAgain}
use Rattle.tree_trail_laws.specs.ChildLaws.{trail_at}
use Rattle.node_rules.specs.declared.work.Work.{Work}
use Rattle.node_rules.specs.Words.{numbered}
use Rattle.node_rules.specs.Marks.{kept_call, step_of}
use Rattle.node_rules.specs.NodeState.{NodeState, Branch, branch_at}
use Rattle.savepoints.specs.Marks.{calls_in}
use Rattle.run_base_laws.specs.InTurnLaws.{NeedsNoRollback}
use Rattle.run_base_laws.specs.NodeLaws.{OfEachNode}
use Rattle.session_tree.specs.Live.{children_of}

-- the runs up to a step
abbrev pub runs_until : ℕ → List Ran → List Ran
runs_until step rs = filter (λ r. nat_le r.step step) rs

-- the step that a branch goes back to in a turn that came after so many happenings, where it does
abbrev pub goes_back_to : History → ℕ → Turn → BranchId → Option ℕ
goes_back_to t i u b =
    step_back b (back_in (with_begun (facts_upto t i) (trail_upto t i) u) u (answered_by (outcome_at t.places (facts_upto t i) u)))

-- no turn from this moment up to that one takes a branch back to a lower step
abbrev pub StaysAbove : History → ℕ → ℕ → BranchId → ℕ → Type 0
StaysAbove t moment now b step = (i : ℕ) (u : Turn) → moment ≤ i → i < now → slice_get t.trace i ≡ Some (happenings.Turn u) → (k : ℕ) → goes_back_to t i u b ≡ Some k → step ≤ k

-- In every lawful run the runs that a branch had at a moment are those that it has later up to the step of that moment, unless it went back to
-- a lower one meanwhile.
abbrev pub RunsStay : Type 0
RunsStay = (t : History) → IsLawfulRun t → (moment now : ℕ) → moment ≤ now → now ≤ length t.trace → (b : BranchId) (old : Seen) → seen_at (trail_upto t moment) b ≡ Some old → StaysAbove t moment now b old.taken
    → (s : Seen) × (seen_at (trail_upto t now) b ≡ Some s) × (old.taken ≤ s.taken) × (runs_until old.taken s.runs ≡ old.runs)

-- So a branch that goes back to the step of a moment, and did not go below it since, has again what it had then, unless its COMMIT or Prepare
-- came.
abbrev pub BranchesReturn : Type 0
BranchesReturn = (t : History) → IsLawfulRun t → (moment i : ℕ) → moment ≤ i → (u : Turn) → slice_get t.trace i ≡ Some (happenings.Turn u) → (b : BranchId) (old : Seen) → seen_at (trail_upto t moment) b ≡ Some old
    → StaysAbove t moment i b old.taken → goes_back_to t i u b ≡ Some old.taken
    → (s : Seen) × (seen_at (trail_upto t (i + 1)) b ≡ Some s) × (s.collects ≡ false → HasAgain s (Some old))

-- A savepoint of a live root was set last in this turn, at its step, the root did not go back below it since, and its runs up to that step are
-- those of then.
pub record StandsSince (t : History) (s : Seen) (v : Savepoint) : Type 0 where
  pub last : LastSavepoint t s.me v.name (length t.trace)
  pub step : last.began.taken ≡ v.step
  pub runs : runs_until v.step s.runs ≡ last.began.runs
  pub above : StaysAbove t (last.moment + 1) (length t.trace) s.me v.step

-- In every lawful run it is so of each savepoint of each branch that is live by the branch history.
abbrev pub SavepointsStand : Type 0
SavepointsStand = (t : History) → IsLawfulRun t → (b : BranchId) (s : Seen) → seen_at (trail_at t) b ≡ Some s → s.exit ≡ None
    → (i : ℕ) (v : Savepoint) → slice_get s.savepoints i ≡ Some v → StandsSince t s v

-- In every lawful run a turn of a ROLLBACK TO in which the root of the session goes back leaves the root what it had at the SAVEPOINT.
abbrev pub RootsReturn : Type 0
RootsReturn = (t : History) → IsLawfulRun t → (i : ℕ) (u : Turn) → slice_get t.trace i ≡ Some (happenings.Turn u) → (session : ℕ) (name : List ℕ) → u.input ≡ inputs.Call session (Some (stmts.RollbackTo name))
    → (root : Seen) → root_at (trail_upto t i) u.node session ≡ Some root → (step : ℕ) → goes_back_to t i u root.me ≡ Some step
    → (x : LastSavepoint t root.me name i) × (s : Seen) × (seen_at (trail_upto t (i + 1)) root.me ≡ Some s) × HasAgain s (Some x.began)

-- And a ROLLBACK TO that is not refused, in a turn that is not cut, takes the root of its session back.
abbrev pub RollbacksGoBack : Type 0
RollbacksGoBack = (t : History) → IsLawfulRun t → (i : ℕ) (u : Turn) → slice_get t.trace i ≡ Some (happenings.Turn u) → u.cut ≡ false → (session : ℕ) (name : List ℕ) → u.input ≡ inputs.Call session (Some (stmts.RollbackTo name))
    → is_refused (answered_by (outcome_at t.places (facts_upto t i) u)) ≡ false → (root : Seen) × (root_at (trail_upto t i) u.node session ≡ Some root) × (step : ℕ) × (goes_back_to t i u root.me ≡ Some step)

-- ---- what a branch notes of its calls

-- the number of calls over an edge, 0 where there is none
abbrev pub call_in : List ℕ → ℕ → ℕ
call_in calls i = unwrap_or (numbered calls i) 0

-- The last call of an edge up to a step is no later than that up to a later step, or than the last that was made; and the last note has
-- the last calls.
pub record NotesAreOfCalls (w : Work) : Type 0 where
  pub rises : (c d i : ℕ) → c ≤ d → kept_call w.marks c i ≤ kept_call w.marks d i
  pub most : (c i : ℕ) → kept_call w.marks c i ≤ call_in w.calls i
  pub last : (i : ℕ) → call_in (calls_in [] w.marks.notes) i ≡ call_in w.calls i

-- In every lawful run it is so of each live branch.
abbrev pub CallsAreNoted : Type 0
CallsAreNoted = OfEachNode (λ p rs k. (b : BranchId) (x : Branch) → branch_at k b ≡ Some x → NotesAreOfCalls x.work)

-- In every lawful run a live branch has noted its calls up to its step: the last call that came to it, or at a root the last call of its client.
abbrev pub StepsAreTaken : Type 0
StepsAreTaken = OfEachNode (λ p rs k. (b : BranchId) (x : Branch) → branch_at k b ≡ Some x → (i : ℕ) → kept_call x.work.marks (step_of k.sessions x) i ≡ call_in x.work.calls i)

-- In every lawful run, where a live branch waits for nothing, and is no root that can only roll back, each live child waits for nothing,
-- and has taken the last call that its parent noted.
abbrev pub RestIsNoted : Type 0
RestIsNoted = (t : History) → IsLawfulRun t → (n : ℕ) (k : NodeState) → node_at (facts_at t) n ≡ Some k → (x : Branch) → branch_at k x.live.me ≡ Some x → x.work.going ≡ None → NeedsNoRollback k x.live
    → (i : ℕ) (c : BranchId) → numbered (children_of x.live) i ≡ Some c → (m : ℕ) (j : NodeState) → node_at (facts_at t) m ≡ Some j → (y : Branch) → branch_at j y.live.me ≡ Some y → y.live.me ≡ c
    → (y.work.came.last_call ≡ call_in (calls_in [] x.work.marks.notes) i) × (y.work.going ≡ None)
