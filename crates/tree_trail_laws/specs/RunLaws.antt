-- What the happenings tell of the runs of a live branch is what its node keeps of them: the sets of changes at the node are those
-- of the runs that changed rows, the notes of the branch count a set for each of these at its step, and the savepoints are alike. A
-- branch that goes back to a savepoint loses the runs of later steps, and the node the sets of these. (SQL Language Reference:
-- SAVEPOINT, ROLLBACK.)
use Rattle.std.specs.Prelude.{◌≡◌, ℕ, zero, suc, ◌≤◌, false, List, [], ◌∷◌, flat_map, filter, map, Some}
use Rattle.std.specs.List.{AllByRecursion}
use Rattle.node_rules.specs.Data.{ChangeSet, Note, Live}
use Rattle.node_rules.specs.Marks.{step_of}
use Rattle.node_rules.specs.NodeState.{NodeState, live_at, sets_at, work_at}
use Rattle.run_rules.specs.Branches.{Ran, Seen, Trail, seen_at}
use Rattle.run_rules.specs.Facts.{Facts, node_at}
use Rattle.run_rules.specs.Lawful.{History, IsLawfulRun, facts_at}
use Rattle.tree_trail_laws.specs.ChildLaws.{trail_at}

-- the runs that changed rows
abbrev pub writing : List Ran → List Ran
writing rs = filter (λ r. r.writes) rs

-- a number so many times
abbrev pub times : ℕ → ℕ → List ℕ
times zero x = []
times (suc n) x = x ∷ times n x

-- the step of each set that notes count
abbrev pub steps_of_sets : List Note → List ℕ
steps_of_sets ns = flat_map (λ n. times n.sets n.step) ns

-- the steps of runs rise, up to this one
abbrev pub RisesTo : ℕ → List Ran → Type 0
RisesTo top [] = Unit {0}
RisesTo top (r ∷ rs) = AllByRecursion (λ q. r.step ≤ q.step) rs × (r.step ≤ top) × RisesTo top rs

-- Sets of changes and notes are those of these runs, of which those that change no rows have no changes.
pub record RunsAre (rs : List Ran) (top : ℕ) (sets : List ChangeSet) (notes : List Note) : Type 0 where
  pub changes : map (λ s. s.changes) sets ≡ map (λ r. r.changes) (writing rs)
  pub reads : AllByRecursion (λ r. r.writes ≡ false → r.changes ≡ []) rs
  pub steps : steps_of_sets notes ≡ map (λ r. r.step) (writing rs)
  pub rises : RisesTo top rs

-- The runs, the savepoints and the step of a live branch by the branch history are those that its node keeps.
pub record IsTracedWork (k : NodeState) (s : Seen) (l : Live) : Type 0 where
  pub runs : RunsAre s.runs s.taken (sets_at k.owns l.me) (work_at k l.me).marks.notes
  pub savepoints : s.savepoints ≡ (work_at k l.me).marks.savepoints
  pub taken : s.taken ≡ step_of k.sessions (record { live = l; work = work_at k l.me })

-- of each live branch
abbrev pub TracesWorks : Facts → Trail → Type 0
TracesWorks f tr = (n : ℕ) (k : NodeState) → node_at f n ≡ Some k → (l : Live) → live_at k l.me ≡ Some l → (s : Seen) × (seen_at tr l.me ≡ Some s) × IsTracedWork k s l

-- In every lawful run it is so.
abbrev pub WorksAreTraced : Type 0
WorksAreTraced = (t : History) → IsLawfulRun t → TracesWorks (facts_at t) (trail_at t)
