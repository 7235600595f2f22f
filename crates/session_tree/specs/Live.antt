-- A live branch and its children, the session tree of the Database Administrator's Guide, "Distributed Transactions
-- Concepts".
use Rattle.std.specs.Prelude.{ℕ, ◌+◌, Bool, false, List, [], ◌∷◌, ◌++◌, map, length, position, option_map, Option, Some, None}
use Rattle.std.specs.Str.{bytes_eq}
use Rattle.tran_ids.specs.Listed.{numbered}
use Rattle.tran_ids.specs.declared.branch.BranchId.{BranchId}
use Rattle.tran_ids.specs.Branch.{same}
use Rattle.session_tree.specs.declared.edge.Edge.{Edge}
use Rattle.session_tree.specs.declared.edge.Vote.TheVariants as votes
use Rattle.session_tree.specs.declared.live.Live.{Live}
use Rattle.session_tree.specs.declared.live.Phase.TheVariants as phases

-- whether a branch is there and is this one
abbrev pub is_branch : BranchId → Option BranchId → Bool
is_branch b None = false
is_branch b (Some c) = same c b

-- a live branch that has just begun, and the SCN at which it reads where its transaction is READ ONLY
abbrev pub fresh_live : BranchId → BranchId → Option BranchId → ℕ → ℕ → Option ℕ → Live
fresh_live me root parent depth strength read_at = record {
  me = me;
  root = root;
  parent = parent;
  depth = depth;
  changed = false;
  strength = strength;
  edges = [];
  phase = phases.Working;
  advice = None;
  comment = [];
  read_at = read_at;
}

-- a new child: only its strength is known
abbrev pub new_edge : BranchId → List ℕ → ℕ → Edge
new_edge peer link strength = record { peer = peer; link = link; strength = strength; weight = None; count = 1; vote = votes.Unasked }

-- the children of a live branch, in order of reference
abbrev pub children_of : Live → List BranchId
children_of l = map (λ e. e.peer) l.edges

-- with one more child, behind the others
abbrev pub add_edge : Live → Edge → Live
add_edge l e = record l { edges = l.edges ++ e ∷ [] }

-- the number of the next child
abbrev pub next_edge : Live → ℕ
next_edge l = length l.edges + 1

-- the child of a number, from 1
abbrev pub edge_at : Live → ℕ → Option Edge
edge_at l i = numbered l.edges i

-- the number of the child that a link leads to, where it was used before
abbrev pub edge_by_link : Live → List ℕ → Option ℕ
edge_by_link l link = option_map (λ place. place + 1) (position (λ e. bytes_eq e.link link) l.edges)

-- the child of a number
abbrev pub peer_of : Live → ℕ → Option BranchId
peer_of l i = option_map (λ e. e.peer) (edge_at l i)
