-- The rows of the views, tried on the run of two nodes. A has asked B to prepare, and then decides. B is prepared; an administrator
-- forces it to roll back, it meets the commit as mixed, and its row is purged.
use Rattle.std.specs.Prelude.{◌≡◌, ℕ, true, List, [], ◌∷◌, ◌++◌, map, take, drop, codes, Some, None}
use Rattle.pending_view.specs.Views.{Pending}
use Rattle.node_rules.specs.Data.{BranchId}
use Rattle.node_rules.specs.Data.advices
use Rattle.node_rules.specs.Data.stmts
use Rattle.node_rules.specs.Ids.{local_text}
use Rattle.run_rules.specs.Branches.{Trail, no_trail}
use Rattle.run_rules.specs.Data.{Turn}
use Rattle.run_rules.specs.Facts.{Facts, first_facts, facts_of}
use Rattle.run_rules.specs.Trail.{trail_of}
use Rattle.run_branch_laws.specs.TriedRun.{names, places, calls, takes, played, coming, a, b}
use Rattle.view_laws.specs.GivenColumns.{Given, nothing_given, given_of}
use Rattle.view_laws.specs.BranchRows.{pending_at, neighbors_at}

-- the facts when these have come
abbrev pub facts_when : List (Facts → Turn) → Facts
facts_when comes = facts_of places [] (first_facts places) (played (first_facts places) comes)

-- and the branch history
abbrev pub trail_when : List (Facts → Turn) → Trail
trail_when comes = trail_of places [] (first_facts places) no_trail (played (first_facts places) comes)

-- and what came for the rows of branches that collect
abbrev pub given_when : List (Facts → Turn) → Given
given_when comes = given_of places [] (first_facts places) no_trail nothing_given (played (first_facts places) comes)

-- the rows of a branch
abbrev pub rows_when : List (Facts → Turn) → ℕ → BranchId → List Pending
rows_when comes n g = pending_at (facts_when comes) (trail_when comes) (given_when comes) n g

-- and their states
abbrev pub states_when : List (Facts → Turn) → ℕ → BranchId → List (List ℕ)
states_when comes n g = map (λ r. r.state) (rows_when comes n g)

-- B was prepared, and A has decided
abbrev pub prepared : List (Facts → Turn)
prepared = take 11 coming

-- B was forced to roll back
abbrev pub forced_back : List (Facts → Turn)
forced_back = take 12 coming ++ calls 2 (stmts.RollbackForce (local_text b)) ∷ []

-- and met the commit
abbrev pub met : List (Facts → Turn)
met = forced_back ++ takes 7 ∷ []

-- and its row was purged
abbrev pub purged : List (Facts → Turn)
purged = met ++ calls 2 (stmts.PurgeMixed (local_text b)) ∷ []

-- the same with a comment on COMMIT
abbrev pub commented : List (Facts → Turn)
commented = take 9 coming ++ calls 1 (stmts.Commit (Some (codes "x"))) ∷ []

-- and with an advice, as the Exec has come to B
abbrev pub advised : List (Facts → Turn)
advised = take 3 coming ++ calls 1 (stmts.Advise (Some advices.Commit)) ∷ take 4 (drop 3 coming)

-- The states of the rows of A and B, whether B's row of its parent points to the commit point site, the
-- transaction, the comment and the advice of A's row while it collects, and the advice that came to B.
pub record TheTriedViews : Type 0 where
  pub working : states_when (take 9 coming) 1 a ≡ []
  pub collecting : states_when (take 10 coming) 1 a ≡ codes "collecting" ∷ []
  pub sealed : states_when prepared 2 b ≡ codes "prepared" ∷ []
  pub decided : states_when (take 12 coming) 1 a ≡ codes "committed" ∷ []
  pub forced : states_when forced_back 2 b ≡ codes "forced rollback" ∷ []
  pub mixed : map (λ r. r.mixed) (rows_when met 2 b) ≡ true ∷ []
  pub hidden : states_when purged 2 b ≡ []
  pub forgotten : states_when coming 1 a ≡ []
  pub root : map (λ r. r.root) (rows_when (take 10 coming) 1 a) ≡ a ∷ []
  pub comment : map (λ r. r.comment) (rows_when commented 1 a) ≡ codes "x" ∷ []
  pub none : map (λ r. r.advice) (rows_when commented 1 a) ≡ None ∷ []
  pub advice : (given_when advised).advice b ≡ Some advices.Commit
  pub toward : map (λ r. r.to_site) (neighbors_at names (facts_when prepared) 2 b) ≡ true ∷ []
