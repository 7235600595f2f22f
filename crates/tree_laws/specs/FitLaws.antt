-- Seals and decisions fit the forest that the Prepares of the whole run make.
use Rattle.std.specs.Prelude.{◌≡◌, ◌≢◌, IfSome, true, List, Some}
use Rattle.redo_record.specs.Rows.{toward_of}
use Rattle.node_rules.specs.Data.{RedoRecord, Place}
use Rattle.node_rules.specs.Data.records
use Rattle.agreement.specs.Events.{Forest, site_of}
use Rattle.run_rules.specs.Data.{Happening}
use Rattle.run_rules.specs.Data.happenings
use Rattle.run_rules.specs.Facts.{Facts}
use Rattle.run_rules.specs.Lawful.{History, IsLawfulRun}
use Rattle.run_base_laws.specs.NodeLaws.{AtEachFact}
use Rattle.tree_laws.specs.Forests.{forest_of}

-- A sealed branch is in the tree of the root that its record names, is not the site, and has as toward the neighbour that its record
-- names. A branch that decides is the site of that tree.
abbrev pub FitsForest : Forest → RedoRecord → Type 0
FitsForest p (records.Sealed r) = (p.member r.me ≡ true) × (r.me ≢ site_of p r.me) × (p.root r.me ≡ r.root) × (toward_of r r.toward ≡ Some (p.toward r.me))
FitsForest p (records.Decided r) = (r.me ≡ site_of p r.me) × (p.root r.me ≡ r.root)
FitsForest p _ = Unit {0}

-- the record of a turn does
abbrev pub WritesInForest : Forest → List Place → Facts → Happening → Type 0
WritesInForest p places f (happenings.Turn u) = IfSome u.wrote (FitsForest p)
WritesInForest p places f _ = Unit {0}

-- In every lawful run each seal and each decision fits the forest of the run.
abbrev pub RecordsFitForest : Type 0
RecordsFitForest = (t : History) → IsLawfulRun t → AtEachFact (WritesInForest (forest_of t)) t
