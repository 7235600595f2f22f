-- The changes of branches, tried on the run of two nodes: before the COMMIT each branch has changed, by the branch history,
-- the row that its node keeps as changed, and the INSERT at A is a run that means its answer.
use Rattle.std.specs.Prelude.{◌≡◌, ℕ, List, [], take, slice_get, option_map, Option, Some, None}
use Rattle.node_rules.specs.Data.{Change, Answer, BranchId}
use Rattle.node_rules.specs.Data.answers
use Rattle.node_rules.specs.Data.dones
use Rattle.node_rules.specs.NodeState.{NodeState}
use Rattle.node_rules.specs.Meaning.{Changes}
use Rattle.node_rules.specs.Prepare.{own_changes}
use Rattle.run_rules.specs.Branches.{Run, Trail, no_trail, own_at}
use Rattle.run_rules.specs.Data.{Happening}
use Rattle.run_rules.specs.Data.happenings
use Rattle.run_rules.specs.Facts.{Facts, first_facts, node_at, outcome_at, facts_of}
use Rattle.run_rules.specs.Runs.{run_in, answered_by, meaning}
use Rattle.run_rules.specs.Trail.{with_begun, trail_of}
use Rattle.run_branch_laws.specs.TriedRun as tried

-- the facts after so many happenings
abbrev pub facts_after_so_many : ℕ → Facts
facts_after_so_many i = facts_of tried.places [] (first_facts tried.places) (take i tried.trace)

-- and the trail
abbrev pub trail_after_so_many : ℕ → Trail
trail_after_so_many i = trail_of tried.places [] (first_facts tried.places) no_trail (take i tried.trace)

-- the changes that a node keeps of a branch
abbrev pub kept_in : Option NodeState → BranchId → List Change
kept_in None b = []
kept_in (Some k) b = own_changes k b

-- the run of a happening, by the facts and the trail before it
abbrev pub run_of : Facts → Trail → Option Happening → Option Run
run_of f tr (Some (happenings.Turn u)) = run_in f (with_begun f tr u) u
run_of f tr _ = None

-- and its answer
abbrev pub answer_of : Facts → Option Happening → Option Answer
answer_of f (Some (happenings.Turn u)) = answered_by (outcome_at tried.places f u)
answer_of f _ = None

-- the ninth happening is the INSERT at A
abbrev pub ninth : Option Happening
ninth = slice_get tried.trace 8

-- The changes of the branches, and what the run of the INSERT at A means.
pub record TheTriedOwns : Type 0 where
  pub traced_at_a : own_at (trail_after_so_many 9) tried.a ≡ tried.changes
  pub kept_at_a : kept_in (node_at (facts_after_so_many 9) 1) tried.a ≡ tried.changes
  pub traced_at_b : own_at (trail_after_so_many 9) tried.b ≡ tried.changes
  pub kept_at_b : kept_in (node_at (facts_after_so_many 9) 2) tried.b ≡ tried.changes
  pub runs : option_map (λ r. r.branch) (run_of (facts_after_so_many 8) (trail_after_so_many 8) ninth) ≡ Some tried.a
  pub means : option_map (λ r. meaning (facts_after_so_many 8).book None (own_at (trail_after_so_many 8) r.branch) r) (run_of (facts_after_so_many 8) (trail_after_so_many 8) ninth) ≡ Some (Changes dones.Created 1 tried.changes)
  pub answers : answer_of (facts_after_so_many 8) ninth ≡ Some (answers.Did dones.Created 1)
