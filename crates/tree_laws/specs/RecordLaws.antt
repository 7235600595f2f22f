-- What records name as the neighbour on the way to the site is what Prepares told.
use Rattle.std.specs.Prelude.{◌≡◌, ◌⊎◌, IfSome, true, false, List, Option, Some, None}
use Rattle.redo_record.specs.Rows.{toward_of}
use Rattle.node_rules.specs.Data.{BranchId, Post, RedoRecord, Place}
use Rattle.node_rules.specs.Data.records
use Rattle.run_rules.specs.Data.{Happening}
use Rattle.run_rules.specs.Data.happenings
use Rattle.run_rules.specs.Facts.{Facts}
use Rattle.run_rules.specs.Lawful.{History, IsLawfulRun}
use Rattle.run_base_laws.specs.NodeLaws.{AtEachFact}
use Rattle.run_base_laws.specs.InTurnLaws.{said_in}
use Rattle.run_branch_laws.specs.WalkLaws.{is_below, is_above, was_sent}
use Rattle.tree_laws.specs.Forests.{comes_to}

-- A neighbour is on the way to the site where it is the parent and told that the walk does not come here, or where the walk comes
-- here and this child was told that it comes there. None is, where the walk comes here and no child was told so.
abbrev pub LeadsToward : List Post → BranchId → Option BranchId → Option BranchId → Type 0
LeadsToward said me parent None = (comes_to said me parent ≡ true) × ((c : BranchId) → was_sent is_below said me c ≡ false)
LeadsToward said me parent (Some q) = ((parent ≡ Some q) × (was_sent is_above said q me ≡ true)) ⊎ ((comes_to said me parent ≡ true) × (was_sent is_below said me q ≡ true))

-- a seal names such a neighbour, and a decision is of a branch that has none
abbrev pub RecordLeads : List Post → RedoRecord → Type 0
RecordLeads said (records.Sealed r) = (q : BranchId) × (toward_of r r.toward ≡ Some q) × LeadsToward said r.me r.parent (Some q)
RecordLeads said (records.Decided r) = LeadsToward said r.me r.parent None
RecordLeads said _ = Unit {0}

-- the record of a turn does so, by the messages before it
abbrev pub WritesAsTold : List Place → Facts → Happening → Type 0
WritesAsTold places f (happenings.Turn u) = IfSome u.wrote (RecordLeads (said_in f))
WritesAsTold places f _ = Unit {0}

-- In every lawful run seals and decisions are written as Prepares told.
abbrev pub RecordsAreAsTold : Type 0
RecordsAreAsTold = (t : History) → IsLawfulRun t → AtEachFact WritesAsTold t
