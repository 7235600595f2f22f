-- What the views of pending transactions show is what the records and the branch history say: each branch that has a row is
-- shown, no other, and they stand in the order of their local ids; and what is shown stands in the report. (Database
-- Administrator's Guide, "Managing Distributed Transactions", on viewing information about distributed transactions.)
use Rattle.std.specs.Prelude.{◌≡◌, ◌≢◌, ℕ, ◌<◌, true, List, [], ◌∷◌, ◌++◌, map, flat_map, slice_get, codes, Some}
use Rattle.std.specs.List.{AllByRecursion}
use Rattle.tran_ids.specs.Branch.{branch_below}
use Rattle.report.specs.Rows.{view_lines}
use Rattle.pending_view.specs.Views.{Pending, Neighbor, pending_text, neighbor_text}
use Rattle.node_rules.specs.Data.{BranchId}
use Rattle.run_rules.specs.Branches.{is_among}
use Rattle.run_rules.specs.Data.{AnswerLine, Command}
use Rattle.run_rules.specs.Data.commands
use Rattle.run_rules.specs.Data.happenings
use Rattle.run_rules.specs.Data.notices
use Rattle.run_rules.specs.Data.said
use Rattle.run_rules.specs.Each.{facts_upto, trail_upto}
use Rattle.run_rules.specs.Facts.{names_in, is_up, command_at}
use Rattle.run_rules.specs.Lawful.{History, IsLawfulRun}
use Rattle.run_rules.specs.Lines.{line, all_lines}
use Rattle.run_rules.specs.Scripts.{IsTheRunOf}
use Rattle.run_claims.specs.Places.{past_upto}
use Rattle.view_laws.specs.AdviceLaws.{AdviceGoesOn}
use Rattle.view_laws.specs.GivenColumns.{given_upto}
use Rattle.view_laws.specs.BranchRows.{pending_at, neighbors_at}

-- each branch comes before all behind it, in the order of boot, session, seq
abbrev pub AreAscending : List BranchId → Type 0
AreAscending [] = Unit {0}
AreAscending (b ∷ bs) = AllByRecursion (λ c. branch_below b c ≡ true) bs × AreAscending bs

-- These are the rows of all branches that have any, and each branch's stand together, in the order of the branches.
pub record AreRowsOf {A : Type 0} (of : BranchId → List A) (rows : List A) : Type 0 where
  pub branches : List BranchId
  pub order : AreAscending branches
  pub all : (b : BranchId) → of b ≢ [] → is_among b branches ≡ true
  pub are : rows ≡ flat_map of branches

-- the lines of DBA_2PC_PENDING
abbrev pub pending_lines : List (List ℕ) → List Pending → List (List ℕ)
pending_lines names rows = view_lines (codes "LOCAL_TRAN_ID|GLOBAL_TRAN_ID|STATE|MIXED|ADVICE|TRAN_COMMENT|COMMIT#") (map (pending_text names) rows)

-- the lines of DBA_2PC_NEIGHBORS
abbrev pub neighbor_lines : List Neighbor → List (List ℕ)
neighbor_lines rows = view_lines (codes "LOCAL_TRAN_ID|IN_OUT|DATABASE|DBUSER_OWNER|INTERFACE") (map neighbor_text rows)

-- the lines of the report after so many happenings
abbrev pub lines_upto : History → ℕ → List AnswerLine
lines_upto t i = all_lines (past_upto t i).facts (past_upto t i).run_report

-- The command that begins after so many happenings prints this, each line with the command's number in front: from then on it
-- stands in the report, right behind the lines of the commands before.
abbrev pub Prints : History → ℕ → ℕ → List (List ℕ) → Type 0
Prints t i c shows = (j : ℕ) → i < j → (more : List AnswerLine) × (lines_upto t j ≡ lines_upto t i ++ line c (said.World (notices.Shown shows)) ∷ more)

-- SHOW PENDING prints the rows of the branches.
pub record ShowsPending (t : History) (i c n : ℕ) : Type 0 where
  pub rows : List Pending
  pub are : AreRowsOf (pending_at (facts_upto t i) (trail_upto t i) (given_upto t i) n) rows
  pub prints : Prints t i c (pending_lines (names_in t.places) rows)

-- SHOW NEIGHBORS prints the rows of their neighbours.
pub record ShowsNeighbors (t : History) (i c n : ℕ) : Type 0 where
  pub rows : List Neighbor
  pub are : AreRowsOf (neighbors_at (names_in t.places) (facts_upto t i) n) rows
  pub prints : Prints t i c (neighbor_lines rows)

-- each does so where its node is up
abbrev pub ViewIsRight : History → ℕ → ℕ → Command → Type 0
ViewIsRight t i c (commands.ShowPending n) = is_up (facts_upto t i) n ≡ true → ShowsPending t i c n
ViewIsRight t i c (commands.ShowNeighbors n) = is_up (facts_upto t i) n ≡ true → ShowsNeighbors t i c n
ViewIsRight t i c _ = Unit {0}

-- It is so wherever a command begins in a run, and the advice that branches have is that of their clients' sessions.
pub record ViewsOf (t : History) : Type 0 where
  pub shown : (i c : ℕ) → slice_get t.trace i ≡ Some (happenings.Begun c) → ViewIsRight t i c (command_at t.commands c)
  pub advised : AdviceGoesOn t

-- In the run of a script, which is a lawful one, it is so.
abbrev pub ViewsAreOfBranches : Type 0
ViewsAreOfBranches = (t : History) → IsTheRunOf t → IsLawfulRun t → ViewsOf t
