-- What messages do by the forest that the Prepares of the whole run make: branches decide at its sites alone, and acknowledge once all
-- beyond did.
use Rattle.std.specs.Prelude.{◌≡◌, ℕ, List, Some}
use Rattle.std.specs.List.{AllByRecursion}
use Rattle.node_rules.specs.Data.{BranchId, Kind}
use Rattle.node_rules.specs.Data.kinds
use Rattle.agreement.specs.Events.{Forest, Event, Decided, Send_ack, Send_rollback, exit, site_of}
use Rattle.run_rules.specs.Data.{Happening}
use Rattle.run_rules.specs.Data.happenings
use Rattle.run_rules.specs.Facts.{Facts, facts_after}
use Rattle.run_rules.specs.Lawful.{History, IsLawfulRun}
use Rattle.run_base_laws.specs.RunEvents.{with_exits}
use Rattle.run_base_laws.specs.EventLaws.{AtEachEvent}
use Rattle.run_branch_laws.specs.TreeJust.{TreeAllows}
use Rattle.tree_laws.specs.Forests.{forest_of}

-- each branch that decided is the site of its transaction
abbrev pub DecidedAtSite : Forest → List Event → Type 0
DecidedAtSite p t = (b : BranchId) (n : ℕ) → exit t b ≡ Some (Decided n) → b ≡ site_of p b

-- In every lawful run, before each happening.
abbrev pub SitesDecide : Type 0
SitesDecide = (t : History) → IsLawfulRun t → AtEachEvent (λ f e h. DecidedAtSite (forest_of t) e) t

-- the forest allows an Ack
abbrev pub AckByForest : Forest → List Event → BranchId → BranchId → Kind → Type 0
AckByForest p r from to kinds.Ack = TreeAllows p r (Send_ack from to)
AckByForest p r from to _ = Unit {0}

-- each one of a turn, by the events with its record and exits
abbrev pub AcksByForest : History → Facts → List Event → Happening → Type 0
AcksByForest t f e (happenings.Turn u) = AllByRecursion (λ m. AckByForest (forest_of t) (with_exits f (facts_after t.places t.commands f (happenings.Turn u)) u e) m.from m.to m.kind) u.sent
AcksByForest t f e _ = Unit {0}

-- In every lawful run the forest allows each Ack.
abbrev pub AcksGoByForest : Type 0
AcksGoByForest = (t : History) → IsLawfulRun t → AtEachEvent (AcksByForest t) t

-- the forest allows a rollback
abbrev pub RollByForest : Forest → List Event → BranchId → BranchId → Kind → Type 0
RollByForest p r from to kinds.Rollback = TreeAllows p r (Send_rollback from to)
RollByForest p r from to kinds.RolledBack = TreeAllows p r (Send_rollback from to)
RollByForest p r from to _ = Unit {0}

-- each one of a turn
abbrev pub RollsByForest : History → Facts → List Event → Happening → Type 0
RollsByForest t f e (happenings.Turn u) = AllByRecursion (λ m. RollByForest (forest_of t) (with_exits f (facts_after t.places t.commands f (happenings.Turn u)) u e) m.from m.to m.kind) u.sent
RollsByForest t f e _ = Unit {0}

-- In every lawful run the forest allows each rollback that is told.
abbrev pub RollsGoByForest : Type 0
RollsGoByForest = (t : History) → IsLawfulRun t → AtEachEvent (RollsByForest t) t
