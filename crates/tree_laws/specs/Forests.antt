-- The forest of a run by its Prepares: who was asked is in the tree, and the walk, that Prepares told, leads to the site.
use Rattle.std.specs.Prelude.{ℕ, zero, suc, ◌+◌, ◌-◌, ◌&&◌, Bool, true, false, if◌then◌else◌, List, [], ◌∷◌, max, unwrap_or, Option, Some, None}
use Rattle.node_rules.specs.Data.{BranchId, Post}
use Rattle.node_rules.specs.Words.{same}
use Rattle.agreement.specs.Events.{Forest, IsForest}
use Rattle.run_rules.specs.Lawful.{History, IsLawfulRun, facts_at}
use Rattle.run_rules.specs.Births.{Born, births_of, born_at}
use Rattle.run_base_laws.specs.InTurnLaws.{said_in}
use Rattle.run_base_laws.specs.FreezeLaws.{was_asked}
use Rattle.run_branch_laws.specs.WalkLaws.{is_below, was_sent}

-- ---- of a branch as it began

-- its parent
abbrev pub parent_in : Option Born → Option BranchId
parent_in None = None
parent_in (Some x) = x.parent

-- its root, and its own id where it did not begin
abbrev pub root_in : BranchId → Option Born → BranchId
root_in b None = b
root_in b (Some x) = x.root

-- its depth
abbrev pub depth_in : Option Born → ℕ
depth_in None = 0
depth_in (Some x) = x.depth

-- how deep a branch stands
abbrev pub depth_at : List Born → BranchId → ℕ
depth_at bs b = depth_in (born_at bs b)

-- the greatest depth
abbrev pub deepest : List Born → ℕ
deepest [] = 0
deepest (x ∷ xs) = max x.depth (deepest xs)

-- ---- the walk

-- the child that a branch told that the walk comes there
abbrev pub told_below : List Post → BranchId → Option BranchId
told_below [] b = None
told_below (m ∷ ms) b = if same m.from b && is_below m.kind then Some m.to else told_below ms b

-- where the walk goes from a branch: to that child, or no further
abbrev pub next_on : List Post → BranchId → BranchId
next_on said b = unwrap_or (told_below said b) b

-- the branch after so many steps
abbrev pub walk_from : List Post → ℕ → BranchId → BranchId
walk_from said zero b = b
walk_from said (suc n) b = walk_from said n (next_on said b)

-- whether the walk comes to a branch with this parent
abbrev pub comes_to : List Post → BranchId → Option BranchId → Bool
comes_to said b None = true
comes_to said b (Some q) = was_sent is_below said q b

-- ---- the forest

-- whether the parent asked
abbrev pub asked_by : List Post → BranchId → Option BranchId → Bool
asked_by said b None = true
asked_by said b (Some q) = was_asked said q b

-- whether a branch began, and was asked
abbrev pub is_member : List Post → BranchId → Option Born → Bool
is_member said b None = false
is_member said b (Some x) = asked_by said b x.parent

-- off the walk to the parent, and on it to the next branch
abbrev pub toward_by : List Post → BranchId → Option BranchId → BranchId
toward_by said b None = next_on said b
toward_by said b (Some q) = if was_sent is_below said q b then next_on said b else q

-- How far a branch at a depth is from a site at another: on the walk the steps that are left, and off it more than any of those.
abbrev pub far_by : Bool → ℕ → ℕ → ℕ
far_by true site depth = site - depth
far_by false site depth = site + depth + 1

-- the site of a root's transaction
abbrev pub site_from : List Born → List Post → BranchId → BranchId
site_from bs said root = walk_from said (deepest bs) root

-- the forest of these branches, by these messages
abbrev pub forest_by : List Born → List Post → Forest
forest_by bs said = record {
  root = λ b. root_in b (born_at bs b);
  site = λ r. site_from bs said r;
  member = λ b. is_member said b (born_at bs b);
  toward = λ b. toward_by said b (parent_in (born_at bs b));
  far = λ b. far_by (comes_to said b (parent_in (born_at bs b))) (depth_at bs (site_from bs said (root_in b (born_at bs b)))) (depth_at bs b);
}

-- of all branches and messages of a run
abbrev pub forest_of : History → Forest
forest_of t = forest_by (births_of t) (said_in (facts_at t))

-- In every lawful run each branch of a tree but its site has a neighbour of the same tree that is nearer to the site.
abbrev pub RunsHaveForests : Type 0
RunsHaveForests = (t : History) → IsLawfulRun t → IsForest (forest_of t)
