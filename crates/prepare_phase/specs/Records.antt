-- What a branch tells its children in the prepare phase, and what its record names.
-- (Database Administrator's Guide, "Distributed Transactions Concepts": prepare phase, commit point site.)
use Rattle.std.specs.Prelude.{ℕ, ◌+◌, ◌-◌, ◌==◌, ◌||◌, Bool, true, false, if◌then◌else◌, List, [], ◌∷◌, ◌++◌, map, filter, length, take, slice_get, is_none, option_to_list, Option, Some, None}
use Rattle.dtx_values.specs.declared.row.Change.{Change}
use Rattle.tran_ids.specs.declared.branch.BranchId.{BranchId}
use Rattle.redo_record.specs.declared.record.Peer.{Peer}
use Rattle.redo_record.specs.declared.record.Toward.{Toward}
use Rattle.redo_record.specs.declared.record.Toward.TheVariants as towards
use Rattle.redo_record.specs.declared.record.Sealed.{Sealed}
use Rattle.redo_record.specs.declared.record.Decided.{Decided}
use Rattle.session_tree.specs.declared.edge.Edge.{Edge}
use Rattle.session_tree.specs.declared.edge.Vote.{Vote}
use Rattle.session_tree.specs.declared.edge.Vote.TheVariants as votes
use Rattle.session_tree.specs.declared.live.Live.{Live}
use Rattle.session_tree.specs.declared.act.Walk.{Walk}
use Rattle.session_tree.specs.declared.act.Walk.TheVariants as walks
use Rattle.session_tree.specs.Tree.{step}
use Rattle.prepare_phase.specs.declared.asked.Asked.{Asked}

-- the number of the child that the walk goes to, where it comes to this branch
abbrev pub path_of : Bool → Walk → Option ℕ
path_of false w = None
path_of true walks.Here = None
path_of true (walks.Down i) = Some i
path_of true walks.Nowhere = None

-- whether this is the number
abbrev pub is_place : ℕ → Option ℕ → Bool
is_place i None = false
is_place i (Some j) = i == j

-- the children that are asked, from this number on, and whether the walk goes there
abbrev pub asked_from : Option ℕ → ℕ → List Edge → List Asked
asked_from path i [] = []
asked_from path i (e ∷ es) = (record { child = e.peer; site_below = is_place i path }) ∷ asked_from path (i + 1) es

-- the children of a branch, and whether the walk goes there
unfoldable pub asked_by : Live → Bool → List Asked
asked_by l site_below = asked_from (path_of site_below (step l)) 1 l.edges

-- whether an answer is Prepared
abbrev pub is_prepared_answer : Vote → Bool
is_prepared_answer votes.Prepared = true
is_prepared_answer _ = false

-- whether a child answered Prepared
abbrev pub is_prepared : Edge → Bool
is_prepared e = is_prepared_answer e.vote

-- a child as a record names it
abbrev pub peer_record : Edge → Peer
peer_record e = record { branch = e.peer; link = e.link }

-- the children that a record names: those that answered Prepared, and the child that the walk goes to
abbrev pub named_children : Option ℕ → ℕ → List Edge → List Peer
named_children path i [] = []
named_children path i (e ∷ es) = if is_prepared e || is_place i path then peer_record e ∷ named_children path (i + 1) es else named_children path (i + 1) es

-- how many children before this one answered Prepared
abbrev pub prepared_before : ℕ → List Edge → ℕ
prepared_before path es = length (filter is_prepared (take (path - 1) es))

-- the parent, or the child that the walk goes to
abbrev pub toward_in : Option ℕ → List Edge → Toward
toward_in None es = towards.Parent
toward_in (Some path) es = towards.Child (prepared_before path es)

-- the record of a branch that becomes sealed, at this SCN
abbrev pub sealed_of : ℕ → Live → List Change → Option ℕ → Sealed
sealed_of scn l changes path = record {
  me = l.me;
  root = l.root;
  scn = scn;
  toward = toward_in path l.edges;
  parent = l.parent;
  children = named_children path 1 l.edges;
  advice = l.advice;
  comment = l.comment;
  changes = changes;
}

-- the record of a site that decides, at this commit SCN
abbrev pub decided_of : ℕ → Live → List Change → Decided
decided_of scn l changes = record {
  me = l.me;
  root = l.root;
  scn = scn;
  parent = l.parent;
  children = named_children None 1 l.edges;
  advice = l.advice;
  comment = l.comment;
  changes = changes;
}

-- the neighbours of the site: its parent, then the children that answered Prepared
abbrev pub site_neighbors : Live → List BranchId
site_neighbors l = option_to_list l.parent ++ map (λ e. e.peer) (filter is_prepared l.edges)

-- whether the site has no neighbours
abbrev pub is_alone : Live → Bool
is_alone l = is_none (slice_get (site_neighbors l) 0)
