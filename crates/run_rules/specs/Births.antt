-- Which branches began in a run so far, and where each stands in its session tree. A root begins where a session that has no
-- transaction calls a statement that begins one, another branch with the first Open of its parent's edge. (Database
-- Administrator's Guide, "Distributed Transactions Concepts": session trees.)
use Rattle.std.specs.Prelude.{ℕ, if◌then◌else◌, List, [], ◌∷◌, ◌++◌, find, Option, Some, None}
use Rattle.node_rules.specs.Data.{Stmt, BranchId, Kind, Place, Input, Opening}
use Rattle.node_rules.specs.Data.kinds
use Rattle.node_rules.specs.Data.stmts
use Rattle.node_rules.specs.Data.inputs
use Rattle.node_rules.specs.Words.{item_at}
use Rattle.node_rules.specs.NodeState.{NodeState}
use Rattle.node_rules.specs.Sessions.{session_at}
use Rattle.node_rules.specs.Calls.{is_opening, next_child, strength_of}
use Rattle.node_rules.specs.Client.{new_root}
use Rattle.run_rules.specs.Data.{Happening, Command}
use Rattle.run_rules.specs.Data.happenings
use Rattle.run_rules.specs.Runs.{begins_transaction}
use Rattle.run_rules.specs.Facts.{Facts, first_facts, place_at, node_at, facts_after}
use Rattle.run_rules.specs.Lawful.{History}

-- A branch as it began. Nothing of this ever changes.
pub record Born : Type 0 where
  pub me : BranchId
  pub root : BranchId
  pub parent : Option BranchId  -- none at a root
  pub edge : ℕ  -- the number of its parent's edge to it, 0 at a root
  pub depth : ℕ  -- 1 at a root
  pub strength : ℕ  -- the commit point strength of its node
  pub read_at : Option ℕ  -- the SCN at which a READ ONLY transaction reads

-- a root that begins
abbrev pub root_born : BranchId → ℕ → Option ℕ → Born
root_born b strength read_at = record { me = b; root = b; parent = None; edge = 0; depth = 1; strength = strength; read_at = read_at }

-- a branch that begins below another
abbrev pub child_born : BranchId → BranchId → ℕ → BranchId → ℕ → ℕ → Option ℕ → Born
child_born me parent edge root depth strength read_at = record { me = me; root = root; parent = Some parent; edge = edge; depth = depth; strength = strength; read_at = read_at }

-- a session that has no transaction begins one
abbrev pub roots_by : Place → NodeState → ℕ → Option ℕ → Option BranchId → List Born
roots_by p k n read_at None = root_born (new_root p k n) (strength_of p k) read_at ∷ []
roots_by p k n read_at (Some root) = []

-- SET TRANSACTION READ ONLY begins one that reads at the node's clock
abbrev pub read_at_by : ℕ → Stmt → Option ℕ
read_at_by clock stmts.SetReadOnly = Some clock
read_at_by clock _ = None

-- with a statement that begins one
abbrev pub births_by_call : Place → NodeState → ℕ → Stmt → List Born
births_by_call p k n s = if begins_transaction s then roots_by p k n (read_at_by k.clock s) (session_at k.sessions n).root else []

-- the first Open of an edge begins a branch
abbrev pub births_by_open : Place → NodeState → BranchId → ℕ → BranchId → ℕ → Option ℕ → Option Opening → List Born
births_by_open p k parent edge root depth read_at None = child_born (next_child p k) parent edge root depth (strength_of p k) read_at ∷ []
births_by_open p k parent edge root depth read_at (Some o) = []

-- no other message does
abbrev pub births_by_kind : Place → NodeState → BranchId → Kind → List Born
births_by_kind p k from (kinds.Open edge root depth read_at) = births_by_open p k from edge root depth read_at (find (is_opening from edge) k.opens)
births_by_kind p k from _ = []

-- the branches that begin with an input
abbrev pub births_by : Place → NodeState → Input → List Born
births_by p k (inputs.Call n (Some s)) = births_by_call p k n s
births_by p k (inputs.Message m) = births_by_kind p k m.from m.kind
births_by p k _ = []

-- at a node that is up
abbrev pub births_at : Place → Input → Option NodeState → List Born
births_at p input None = []
births_at p input (Some k) = births_by p k input

-- one happening more; a cut turn begins none
abbrev pub births_after : List Place → Facts → Happening → List Born → List Born
births_after places f (happenings.Turn u) bs = if u.cut then bs else bs ++ births_at (place_at places u.node) u.input (node_at f u.node)
births_after places f _ bs = bs

-- the branches that began in these happenings, after those before them
unfoldable pub births_from : List Place → List Command → Facts → List Happening → List Born → List Born
births_from places asked f [] bs = bs
births_from places asked f (h ∷ hs) bs = births_from places asked (facts_after places asked f h) hs (births_after places f h bs)

-- the branches that began in a run, in order
abbrev pub births_of : History → List Born
births_of t = births_from t.places t.commands (first_facts t.places) t.trace []

-- the branch that began
abbrev pub born_id : Born → BranchId
born_id x = x.me

-- a branch as it began, where it did
abbrev pub born_at : List Born → BranchId → Option Born
born_at bs b = item_at born_id bs b
