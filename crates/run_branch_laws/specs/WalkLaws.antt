-- The walk to the commit point site by the Prepares: each branch sends it to one child at most, and tells each child once.
use Rattle.std.specs.Prelude.{◌≡◌, ◌&&◌, not, Bool, true, false, List}
use Rattle.std.specs.List.{list_any}
use Rattle.node_rules.specs.Data.{BranchId, Kind, Post}
use Rattle.node_rules.specs.Data.kinds
use Rattle.node_rules.specs.Words.{same}
use Rattle.run_rules.specs.Lawful.{History, IsLawfulRun, facts_at}
use Rattle.run_base_laws.specs.InTurnLaws.{said_in}

-- whether a message is a Prepare that tells that the walk comes here
abbrev pub is_below : Kind → Bool
is_below (kinds.Prepare site_below comment) = site_below
is_below _ = false

-- or that it does not
abbrev pub is_above : Kind → Bool
is_above (kinds.Prepare site_below comment) = not site_below
is_above _ = false

-- whether a branch sent such a message to another
abbrev pub was_sent : (Kind → Bool) → List Post → BranchId → BranchId → Bool
was_sent kind said p c = list_any (λ m. (same m.from p && same m.to c) && kind m.kind) said

-- A branch that told a child that the walk comes there told it nothing else, and told so no other child.
abbrev pub OneWay : List Post → Type 0
OneWay said = (p c : BranchId) → was_sent is_below said p c ≡ true → (was_sent is_above said p c ≡ false) × ((d : BranchId) → was_sent is_below said p d ≡ true → c ≡ d)

-- In every lawful run this is so.
abbrev pub WalksAreOne : Type 0
WalksAreOne = (t : History) → IsLawfulRun t → OneWay (said_in (facts_at t))
