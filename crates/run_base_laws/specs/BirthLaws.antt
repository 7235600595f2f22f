-- Laws of the session trees of a run: no id begins twice, each branch but a root has one parent, which began before it, and
-- what nodes keep and say of a branch's neighbours is as they began.
use Rattle.std.specs.Prelude.{◌≡◌, ◌≢◌, ℕ, ◌+◌, ◌≤◌, ◌⊎◌, true, List, [], ◌∷◌, Option, Some, None}
use Rattle.std.specs.List.{AllByRecursion}
use Rattle.node_rules.specs.Data.{BranchId, Kind, Edge, Live, Kid, KeptRow, Opening, RedoRecord}
use Rattle.node_rules.specs.Data.kinds
use Rattle.node_rules.specs.Data.records
use Rattle.redo_record.specs.Rows.{sealed_as, decided_as}
use Rattle.node_rules.specs.NodeState.{NodeState}
use Rattle.agreement.specs.Events.{exit}
use Rattle.run_rules.specs.Branches.{is_among}
use Rattle.run_rules.specs.Facts.{node_at, records_at}
use Rattle.run_base_laws.specs.RunEvents.{lives_at, events_of}
use Rattle.run_rules.specs.Lawful.{History, IsLawfulRun, facts_at}
use Rattle.run_base_laws.specs.NodeLaws.{count_of}
use Rattle.run_rules.specs.Births.{Born, births_of, born_id, born_at}

-- a branch began so
abbrev pub Began : List Born → Born → Type 0
Began bs x = born_at bs x.me ≡ Some x

-- ---- neighbours, by the branches of which it is known that they began

-- a branch began
abbrev pub HasBegun : (Born → Type 0) → BranchId → Type 0
HasBegun B b = (x : Born) × B x × (x.me ≡ b)

-- a branch began below another
abbrev pub IsChild : (Born → Type 0) → BranchId → BranchId → Type 0
IsChild B c p = (x : Born) × B x × (x.me ≡ c) × (x.parent ≡ Some p)

-- over its edge of this number
abbrev pub IsChildAt : (Born → Type 0) → BranchId → BranchId → ℕ → Type 0
IsChildAt B c p i = (x : Born) × B x × (x.me ≡ c) × (x.parent ≡ Some p) × (x.edge ≡ i)

-- one of two branches began below the other
abbrev pub AreNeighbors : (Born → Type 0) → BranchId → BranchId → Type 0
AreNeighbors B a b = IsChild B a b ⊎ IsChild B b a

-- a root is its own, at depth 1; any other has the root of its parent, one deeper
abbrev pub StandsBelow : (Born → Type 0) → Born → Option BranchId → Type 0
StandsBelow B x None = (x.root ≡ x.me) × (x.depth ≡ 1)
StandsBelow B x (Some p) = (y : Born) × B y × (y.me ≡ p) × (y.root ≡ x.root) × (y.depth + 1 ≡ x.depth)

-- ---- what nodes keep

-- the children of a branch, from the edge of a number on, began below it over these edges
abbrev pub ChildrenAre : (Born → Type 0) → BranchId → ℕ → List Edge → Type 0
ChildrenAre B me i [] = Unit {0}
ChildrenAre B me i (e ∷ es) = IsChildAt B e.peer me i × ChildrenAre B me (i + 1) es

-- What a live branch says of its place in the tree is as it began.
pub record IsPlaced (B : Born → Type 0) (me root : BranchId) (parent : Option BranchId) (depth : ℕ) (edges : List Edge) : Type 0 where
  pub born : Born
  pub began : B born
  pub is_me : born.me ≡ me
  pub is_root : born.root ≡ root
  pub is_parent : born.parent ≡ parent
  pub is_depth : born.depth ≡ depth
  pub children : ChildrenAre B me 1 edges

-- of a live branch
abbrev pub LiveIs : (Born → Type 0) → Live → Type 0
LiveIs B l = IsPlaced B l.me l.root l.parent l.depth l.edges

-- toward is a neighbour
abbrev pub TowardIs : (Born → Type 0) → BranchId → Option BranchId → Type 0
TowardIs B me None = Unit {0}
TowardIs B me (Some b) = AreNeighbors B me b

-- What a row says of a branch's place in the tree is as it began.
pub record IsRowOf (B : Born → Type 0) (me root : BranchId) (parent : Option BranchId) (children : List Kid) (toward : Option BranchId) : Type 0 where
  pub born : Born
  pub began : B born
  pub is_me : born.me ≡ me
  pub is_root : born.root ≡ root
  pub is_parent : born.parent ≡ parent
  pub kids : AllByRecursion (λ c. IsChild B c.branch me) children
  pub site_way : TowardIs B me toward

-- of a kept branch
abbrev pub KeptIs : (Born → Type 0) → KeptRow → Type 0
KeptIs B s = IsRowOf B s.me s.root s.parent s.children s.toward

-- an Opening tells a branch that began so
abbrev pub OpeningIs : (Born → Type 0) → Opening → Type 0
OpeningIs B o = IsChildAt B o.child o.parent o.edge

-- what a node keeps
abbrev pub NamesAre : (Born → Type 0) → NodeState → Type 0
NamesAre B k = AllByRecursion (LiveIs B) k.lives × AllByRecursion (KeptIs B) k.stored.durable.kept × AllByRecursion (OpeningIs B) k.opens

-- the branches that a record names
abbrev pub RecordNames : (Born → Type 0) → RedoRecord → Type 0
RecordNames B (records.Sealed r) = KeptIs B (sealed_as r)
RecordNames B (records.Decided r) = KeptIs B (decided_as r)
RecordNames B _ = Unit {0}

-- ---- messages

-- An Open tells its sender's root and the depth below it. Opened comes from the child that began over that edge. Exec, Prepare,
-- CommitPoint and Rollback go to a child, Reply and answers to Prepare to the parent, all others between neighbours.
abbrev pub GoesSo : (Born → Type 0) → BranchId → BranchId → Kind → Type 0
GoesSo B from to (kinds.Open edge root depth read_at) = (x : Born) × B x × (x.me ≡ from) × (x.root ≡ root) × (x.depth + 1 ≡ depth)
GoesSo B from to (kinds.Opened edge strength) = IsChildAt B from to edge
GoesSo B from to (kinds.Exec call task) = IsChild B to from
GoesSo B from to (kinds.Reply call weight count a) = IsChild B from to
GoesSo B from to (kinds.Prepare site_below comment) = IsChild B to from
GoesSo B from to kinds.Prepared = IsChild B from to
GoesSo B from to kinds.ReadOnly = IsChild B from to
GoesSo B from to kinds.Ready = IsChild B from to
GoesSo B from to kinds.Abort = IsChild B from to
GoesSo B from to kinds.CommitPoint = IsChild B to from
GoesSo B from to (kinds.Committed n) = AreNeighbors B from to
GoesSo B from to kinds.RolledBack = AreNeighbors B from to
GoesSo B from to kinds.InDoubt = AreNeighbors B from to
GoesSo B from to kinds.Ack = AreNeighbors B from to
GoesSo B from to kinds.Forgotten = AreNeighbors B from to
GoesSo B from to kinds.Rollback = IsChild B to from
GoesSo B from to kinds.Ask = AreNeighbors B from to

-- ---- laws of every lawful run

-- No id begins twice.
abbrev pub NoIdBeginsTwice : Type 0
NoIdBeginsTwice = (t : History) → IsLawfulRun t → (b : BranchId) → count_of born_id b (births_of t) ≤ 1

-- Each branch but a root began below one that began, with the same root, one deeper: a run's branches are trees.
abbrev pub BirthsAreTrees : Type 0
BirthsAreTrees = (t : History) → IsLawfulRun t → AllByRecursion (λ x. StandsBelow (Began (births_of t)) x x.parent) (births_of t)

-- The live branches of a node, its rows and the branches that were opened there are as they began, with the parent, the root
-- and the children that they say.
abbrev pub NodesNameTheBorn : Type 0
NodesNameTheBorn = (t : History) → IsLawfulRun t → (n : ℕ) (k : NodeState) → node_at (facts_at t) n ≡ Some k → NamesAre (Began (births_of t)) k

-- So are the rows that its records make.
abbrev pub RecordsNameTheBorn : Type 0
RecordsNameTheBorn = (t : History) → IsLawfulRun t → (n : ℕ) → AllByRecursion (RecordNames (Began (births_of t))) (records_at (facts_at t) n)

-- Each message goes between a branch that began and its parent or its child.
abbrev pub MessagesAreOfNeighbors : Type 0
MessagesAreOfNeighbors = (t : History) → IsLawfulRun t → AllByRecursion (λ x. GoesSo (Began (births_of t)) x.msg.from x.msg.to x.msg.kind) (facts_at t).net.packets

-- A branch that began is live at its node, or has an exit.
abbrev pub BornAreLiveOrLeft : Type 0
BornAreLiveOrLeft = (t : History) → IsLawfulRun t → (b : BranchId) → born_at (births_of t) b ≢ None
    → (exit (events_of t) b ≢ None) ⊎ (is_among b (lives_at (node_at (facts_at t) b.node)) ≡ true)
