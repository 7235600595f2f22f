-- The Opens that a node answered: one parent and edge has one child.
use Rattle.std.specs.Prelude.{ℕ, ◌==◌, ◌&&◌, Bool, List, [], ◌∷◌, ◌++◌, find, Option}
use Rattle.std.specs.List.{IsDistinct}
use Rattle.tran_ids.specs.declared.branch.BranchId.{BranchId}
use Rattle.tran_ids.specs.Branch.{same}
use Rattle.link_session.specs.declared.opening.Opening.{Opening}

-- whether an Open of this parent and edge was answered so
abbrev pub is_opening : BranchId → ℕ → Opening → Bool
is_opening parent edge o = same o.parent parent && (o.edge == edge)

-- the answer to an Open of this parent and edge, where there was one
abbrev pub opening_of : List Opening → BranchId → ℕ → Option Opening
opening_of os parent edge = find (is_opening parent edge) os

-- with one more that was answered
abbrev pub with_opening : List Opening → Opening → List Opening
with_opening os o = os ++ o ∷ []

-- whether two are of one parent and edge
abbrev pub are_of_one_edge : Opening → Opening → Bool
are_of_one_edge a b = is_opening b.parent b.edge a

-- No two are of one parent and edge.
abbrev pub AreOfDistinctEdges : List Opening → Type 0
AreOfDistinctEdges os = IsDistinct are_of_one_edge os
