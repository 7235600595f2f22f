-- What holds of the children of live branches between turns: there are no more than LINKS allows, and one call number for
-- each.
use Rattle.std.specs.Prelude.{◌≡◌, ℕ, ◌+◌, ◌≤◌, length, Option, Some, None}
use Rattle.std.specs.List.{AllByRecursion}
use Rattle.node_rules.specs.Data.{Live, Kind, Place, Input}
use Rattle.node_rules.specs.Data.kinds
use Rattle.node_rules.specs.Data.inputs
use Rattle.node_rules.specs.declared.work.Waits.{Waits}
use Rattle.node_rules.specs.declared.work.Waits.TheVariants as waiting
use Rattle.node_rules.specs.declared.work.Going.{Going}
use Rattle.node_rules.specs.declared.work.Work.{Work}
use Rattle.node_rules.specs.NodeState.{NodeState}
use Rattle.node_rules.specs.LiveBranches.{EachLive}
use Rattle.node_rules.specs.Inputs.{IsFit}
use Rattle.node_rules.specs.Turn.{turn_of}

-- how many branches a Reply may tell of
abbrev pub count_limit : ℕ
count_limit = 256

-- with room for the child that is waited for
abbrev pub HasRoomFor : ℕ → ℕ → Waits → Type 0
HasRoomFor links children (waiting.ForOpened link) = children + 1 ≤ links
HasRoomFor links children (waiting.ForReply i) = children ≤ links

-- no more children than LINKS allows
abbrev pub LinksAllow : ℕ → ℕ → Option Going → Type 0
LinksAllow links children None = children ≤ links
LinksAllow links children (Some g) = HasRoomFor links children g.waits

-- A branch whose children and calls are so.
pub record IsShaped (links : ℕ) (l : Live) (w : Work) : Type 0 where
  pub room : LinksAllow links (length l.edges) w.going
  pub counts : AllByRecursion (λ e. e.count ≤ count_limit) l.edges
  pub numbers : length w.calls ≡ length l.edges

-- a node whose live branches are so
abbrev pub HasShape : Place → NodeState → Type 0
HasShape p k = EachLive (IsShaped p.links) k.lives k.works

-- a Reply tells of no more branches
abbrev pub TellsFew : Kind → Type 0
TellsFew (kinds.Reply call weight count result) = count ≤ count_limit
TellsFew _ = Unit {0}

-- so does an input that brings one
abbrev pub BringsFew : Input → Type 0
BringsFew (inputs.Message m) = TellsFew m.kind
BringsFew _ = Unit {0}

-- each turn leaves it so
abbrev pub ShapesStay : Type 0
ShapesStay = (p : Place) (k : NodeState) (input : Input) → IsFit input → BringsFew input → HasShape p k → HasShape p (turn_of p k input).after
