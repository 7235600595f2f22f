-- The row that a branch has when its first record stands.
use Rattle.std.specs.Prelude.{Bool, false, ◌||◌, map, slice_get, is_some, option_map, Option, Some, None}
use Rattle.redo_record.specs.Data.{BranchId, Peer, Toward, Sealed, Decided, Kid, KeptRow}
use Rattle.redo_record.specs.Data.decisions
use Rattle.redo_record.specs.Data.towards
use Rattle.redo_record.specs.Data.states

-- a child, not yet acknowledged
abbrev pub kid_of : Peer → Kid
kid_of p = record { branch = p.branch; link = p.link; acked = false }

-- the neighbour on the way to the site
abbrev pub toward_of : Sealed → Toward → Option BranchId
toward_of r towards.Parent = r.parent
toward_of r (towards.Child i) = option_map (λ p. p.branch) (slice_get r.children i)

-- a branch that is prepared
abbrev pub sealed_as : Sealed → KeptRow
sealed_as r = record {
  me = r.me;
  root = r.root;
  scn = r.scn;
  parent = r.parent;
  parent_acked = false;
  children = map kid_of r.children;
  toward = toward_of r r.toward;
  advice = r.advice;
  comment = r.comment;
  state = states.Sealed;
  decision = None;
  mixed = false;
  forgot = false;
  hidden = false;
}

-- the commit point site: no neighbour of it is on the way to it
abbrev pub decided_as : Decided → KeptRow
decided_as r = record {
  me = r.me;
  root = r.root;
  scn = r.scn;
  parent = r.parent;
  parent_acked = false;
  children = map kid_of r.children;
  toward = None;
  advice = r.advice;
  comment = r.comment;
  state = states.Committed;
  decision = Some (decisions.Commit r.scn);
  mixed = false;
  forgot = false;
  hidden = false;
}

-- whether there is a parent or a child
abbrev pub has_neighbors : KeptRow → Bool
has_neighbors s = is_some s.parent || is_some (slice_get s.children 0)
