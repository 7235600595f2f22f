-- What the record of a turn has: changes, a comment, an SCN and a way that have a spelling.
use Rattle.std.specs.Prelude.{ℕ, ◌-◌, ◌<◌, ◌≤◌, ◌^◌, List, [], length, IfSome}
use Rattle.std.specs.List.{AllByRecursion}
use Rattle.dtx_values.specs.Limits.{link_limit}
use Rattle.sql_statement.specs.Whole.{IsWholeTable}
use Rattle.field_codec.specs.Text.{comment_format}
use Rattle.node_rules.specs.Data.{Change, RedoRecord, Live, Place, Input}
use Rattle.node_rules.specs.Data.records
use Rattle.node_rules.specs.declared.work.Work.{Work}
use Rattle.node_rules.specs.NodeState.{Stored, NodeState}
use Rattle.node_rules.specs.LiveBranches.{EachLive}
use Rattle.node_rules.specs.Inputs.{IsFit}
use Rattle.node_rules.specs.Turn.{heard, turn_of}
use Rattle.node_ready_laws.specs.Sound.{IsSound}
use Rattle.node_ready_laws.specs.Ready.{IsReady, IsExpected}
use Rattle.node_spell_laws.specs.Bytes.{BringsBytes, AsksChild, KeepsBytes}
use Rattle.node_spell_laws.specs.Record.{ChangeFits, IsScn, DecisionFits, WayFits, ParamFits, RecordHasBytes}

-- the changes that a record has
abbrev pub changes_in : RedoRecord → List Change
changes_in (records.Sealed r) = r.changes
changes_in (records.Decided r) = r.changes
changes_in _ = []

-- its comment, where it has one
abbrev pub comment_in : RedoRecord → List ℕ
comment_in (records.Sealed r) = r.comment
comment_in (records.Decided r) = r.comment
comment_in _ = []

-- the changes of a sound record are such, where tables are whole
abbrev pub ChangesFit : Type 0
ChangesFit = (s : Stored) (r : RedoRecord) → AllByRecursion IsWholeTable s.durable.tables → IsSound s r → AllByRecursion ChangeFits (changes_in r)

-- the comment of each turn's record is one
abbrev pub CommentsFit : Type 0
CommentsFit = (p : Place) (k : NodeState) (input : Input) → IsFit input → BringsBytes input → AsksChild k input → KeepsBytes k → IfSome (turn_of p k input).wrote (λ r. comment_format.Fits (comment_in r))

-- the way of a prepared branch leads to a parent, or to a child that its record names
abbrev pub HasWay : RedoRecord → Type 0
HasWay (records.Sealed r) = WayFits r.toward r.parent (length r.children)
HasWay _ = Unit {0}

-- a live branch has no more children than a node may have links
abbrev pub HasFewChildren : Live → Work → Type 0
HasFewChildren l w = length l.edges ≤ link_limit

-- so does that of each turn's record
abbrev pub WaysLead : Type 0
WaysLead = (p : Place) (k : NodeState) (input : Input) → IsFit input → BringsBytes input → AsksChild k input → EachLive HasFewChildren k.lives k.works → KeepsBytes k
    → IfSome (turn_of p k input).wrote HasWay

-- the SCN of a record is one that six bytes tell, and a strength one that one byte tells
abbrev pub HasNumbers : RedoRecord → Type 0
HasNumbers (records.Param p) = ParamFits p
HasNumbers (records.Sealed r) = IsScn r.scn
HasNumbers (records.Decided r) = IsScn r.scn
HasNumbers (records.Ended me decision) = DecisionFits decision
HasNumbers (records.Forced me decision given) = DecisionFits decision
HasNumbers (records.Met me decision mixed) = DecisionFits decision
HasNumbers _ = Unit {0}

-- the clock of a node that has received what came leaves room for one more SCN
abbrev pub HasRoomForScn : NodeState → Input → Type 0
HasRoomForScn k input = (heard k input).clock < 2 ^ 48 - 1

-- so is that of each turn's record, where the clock leaves room for it
abbrev pub NumbersFit : Type 0
NumbersFit = (p : Place) (k : NodeState) (input : Input) → IsFit input → BringsBytes input → HasRoomForScn k input → IfSome (turn_of p k input).wrote HasNumbers

-- the record that a ready node writes in a turn has bytes, as far as no size is asked of it
abbrev pub RecordsHaveBytes : Type 0
RecordsHaveBytes = (p : Place) (k : NodeState) (input : Input) → IsReady p k → IsExpected input → p.links ≤ link_limit → HasRoomForScn k input → BringsBytes input → AsksChild k input → KeepsBytes k
    → IfSome (turn_of p k input).wrote RecordHasBytes
