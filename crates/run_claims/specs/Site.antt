-- What every decision has: its branch is the commit point site of the session tree as it stood at the COMMIT, each other
-- branch with changes on it or below it is sealed, and what a record commits or holds back are its branch's own changes.
-- (Database Administrator's Guide, "Distributed Transactions Concepts": commit point site.)
use Rattle.std.specs.Prelude.{◌≡◌, ◌≢◌, ℕ, List, IfSome, slice_get, Some, None}
use Rattle.std.specs.List.{AllByRecursion}
use Rattle.node_rules.specs.Data.{BranchId, Place, RedoRecord, Decided}
use Rattle.node_rules.specs.Data.records
use Rattle.run_rules.specs.Data.{Happening}
use Rattle.run_rules.specs.Data.happenings
use Rattle.run_rules.specs.Facts.{Facts}
use Rattle.redo_record.specs.Rows.{toward_of}
use Rattle.run_rules.specs.Branches.{Sealed, Trail, CommitPlan, PlannedBranch, exit_at, own_at, plan_at}
use Rattle.run_rules.specs.Trail.{trail_after}
use Rattle.run_rules.specs.Each.{AtEach}
use Rattle.run_rules.specs.Lawful.{History}

-- The COMMIT of the transaction was accepted, and the branch that decides is its site.
pub record IsSite (tr : Trail) (r : Decided) : Type 0 where
  pub plan : CommitPlan
  pub planned : plan_at tr r.root ≡ Some plan
  pub here : plan.site ≡ Some r.me

-- a branch of the tree other than the site that has changes on it or below it is sealed
abbrev pub IsCovered : Trail → BranchId → PlannedBranch → Type 0
IsCovered tr site x = x.me ≢ site → x.weight ≢ None → (scn : ℕ) × (exit_at tr x.me ≡ Some (Sealed scn))

-- every branch of the tree of a decision is covered
abbrev pub Covers : Trail → Decided → Type 0
Covers tr r = IfSome (plan_at tr r.root) (λ p. AllByRecursion (IsCovered tr r.me) p.tree)

-- a decision is made by the site
abbrev pub DecidedBySite : Trail → RedoRecord → Type 0
DecidedBySite tr (records.Decided r) = IsSite tr r
DecidedBySite tr _ = Unit {0}

-- a decision covers its tree
abbrev pub DecisionCovers : Trail → RedoRecord → Type 0
DecisionCovers tr (records.Decided r) = Covers tr r
DecisionCovers tr _ = Unit {0}

-- a record has the branch's own changes
abbrev pub HasOwn : Trail → RedoRecord → Type 0
HasOwn tr (records.Sealed r) = r.changes ≡ own_at tr r.me
HasOwn tr (records.Decided r) = r.changes ≡ own_at tr r.me
HasOwn tr _ = Unit {0}

-- A branch of a plan's tree.
pub record IsPlanned (tr : Trail) (root : BranchId) (x : PlannedBranch) : Type 0 where
  pub plan : CommitPlan
  pub planned : plan_at tr root ≡ Some plan
  pub place : ℕ
  pub listed : slice_get plan.tree place ≡ Some x

-- a seal is of a branch of the tree, and names its parent and its neighbour on the way to the site
abbrev pub NamesToward : Trail → RedoRecord → Type 0
NamesToward tr (records.Sealed r) = (x : PlannedBranch) × IsPlanned tr r.root x × (x.me ≡ r.me) × (r.parent ≡ x.parent) × (toward_of r r.toward ≡ x.toward)
NamesToward tr _ = Unit {0}

-- each record of a turn is so, once the turn stands
abbrev pub RecordIsSo : (Trail → RedoRecord → Type 0) → List Place → Facts → Trail → Happening → Type 0
RecordIsSo So places f tr (happenings.Turn u) = IfSome u.wrote (So (trail_after places f tr (happenings.Turn u)))
RecordIsSo So places f tr _ = Unit {0}

-- each decision of a run is made by the commit point site of its tree
abbrev pub SiteDecides : History → Type 0
SiteDecides t = AtEach (RecordIsSo DecidedBySite) t

-- before it each other branch of the tree with changes on it or below it is sealed; records have their branches' own changes,
-- and seals name their branches' neighbours
pub record Coverage (t : History) : Type 0 where
  pub covered : AtEach (RecordIsSo DecisionCovers) t
  pub own : AtEach (RecordIsSo HasOwn) t
  pub neighbors : AtEach (RecordIsSo NamesToward) t
