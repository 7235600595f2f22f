-- What a start needs of the records of a disk, beside that each may follow those before it; and that a ready node writes such.
use Rattle.std.specs.Prelude.{◌<◌, ◌≤◌, List, [], ◌∷◌, IfSome}
use Rattle.node_rules.specs.Data.{RedoRecord, KeptRow, Place, Input}
use Rattle.node_rules.specs.Data.records
use Rattle.node_rules.specs.NodeState.{Stored, NodeState}
use Rattle.node_rules.specs.Records.{applied}
use Rattle.node_rules.specs.Inputs.{IsFit}
use Rattle.node_rules.specs.Turn.{turn_of}
use Rattle.sql_statement.specs.Whole.{IsWholeTable}
use Rattle.node_ready_laws.specs.Rows.{AreChangesAt, HasRows, BringsWhole}
use Rattle.node_ready_laws.specs.Ids.{HasOwnIds}
use Rattle.node_ready_laws.specs.Names.{IsNamedLink, IsNamedSynonym, BringsNamed}
use Rattle.node_ready_laws.specs.Following.{MayFollow}

-- a start has a number above those before it, a table is whole, links and synonyms have names, and a branch that becomes sealed
-- or decides is of a start so far and has changed rows of its tables
abbrev pub IsSound : Stored → RedoRecord → Type 0
IsSound s (records.Boot boot) = s.durable.boot < boot
IsSound s (records.Table t) = IsWholeTable t
IsSound s (records.Link l) = IsNamedLink l
IsSound s (records.Synonym y) = IsNamedSynonym y
IsSound s (records.Sealed r) = AreChangesAt s.durable.tables r.changes × (r.me.boot ≤ s.durable.boot)
IsSound s (records.Decided r) = AreChangesAt s.durable.tables r.changes × (r.me.boot ≤ s.durable.boot)
IsSound s _ = Unit {0}

-- records, one after the other
unfoldable pub AreSound : Stored → List RedoRecord → Type 0
AreSound s [] = Unit {0}
AreSound s (r ∷ rs) = IsSound s r × AreSound (applied s r) rs

-- a record that may stand next
abbrev pub IsNext : Stored → RedoRecord → Type 0
IsNext s r = MayFollow s r × IsSound s r

-- the record of each turn may
abbrev pub RecordsFollow : Type 0
RecordsFollow = (p : Place) (k : NodeState) (input : Input) → IsFit input → BringsWhole input → BringsNamed input → HasRows k → HasOwnIds k → IfSome (turn_of p k input).wrote (IsNext k.stored)

-- with other rows of kept branches
abbrev pub with_rows : Stored → List KeptRow → Stored
with_rows s kept = record s { durable = record s.durable { kept = kept } }

-- whether a record may does not hang on the rows of kept branches, where Acks are noted that no record has
abbrev pub RowsDoNotMatter : Type 0
RowsDoNotMatter = (s : Stored) (kept : List KeptRow) (r : RedoRecord) → IsNext s r → IsNext (with_rows s kept) r
