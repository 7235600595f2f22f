-- What a record needs, beside its type, to have a spelling.
use Rattle.std.specs.Prelude.{ℕ, ◌+◌, ◌<◌, ◌^◌, List, length, is_some, IsTrue, IfSome, Option}
use Rattle.std.specs.List.{All}
use Rattle.dtx_values.specs.declared.row.Change.{Change}
use Rattle.redo_record.specs.declared.decision.Decision.{Decision}
use Rattle.redo_record.specs.declared.decision.Decision.TheVariants as decisions
use Rattle.redo_record.specs.declared.record.Param.{Param}
use Rattle.redo_record.specs.declared.record.Param.TheVariants as params
use Rattle.redo_record.specs.declared.record.Toward.{Toward}
use Rattle.redo_record.specs.declared.record.Toward.TheVariants as towards
use Rattle.redo_record.specs.declared.record.RedoRecord.{RedoRecord}
use Rattle.redo_record.specs.declared.record.RedoRecord.TheVariants as records
use Rattle.tran_ids.specs.declared.branch.BranchId.{BranchId}
use Rattle.sql_statement.specs.Whole.{IsWholeTable}
use Rattle.field_codec.specs.Change.{is_key}
use Rattle.field_codec.specs.Fits.{HasCount}
use Rattle.field_codec.specs.Text.{comment_format}

-- a change has a key, and one byte is enough to count the cells of its row
abbrev pub ChangeFits : Change → Type 0
ChangeFits c = IsTrue (is_key c.key) × IfSome c.after HasCount

-- six bytes are enough for the SCN
abbrev pub IsScn : ℕ → Type 0
IsScn scn = scn < 2 ^ 48

-- the SCN of a commit
abbrev pub DecisionFits : Decision → Type 0
DecisionFits (decisions.Commit scn) = IsScn scn
DecisionFits decisions.Rollback = Unit {0}

-- a way leads to a parent, or to one of so many children, whose place one byte tells
abbrev pub WayFits : Toward → Option BranchId → ℕ → Type 0
WayFits towards.Parent parent children = IsTrue (is_some parent)
WayFits (towards.Child child) parent children = (child < children) × (child + 1 < 2 ^ 8)

-- one byte is enough for the commit point strength
abbrev pub ParamFits : Param → Type 0
ParamFits (params.Recovery enabled) = Unit {0}
ParamFits (params.Strength strength) = strength < 2 ^ 8

-- What a record of a prepared or a decided branch needs: a comment, changes and an SCN.
pub record WorkFits (scn : ℕ) (comment : List ℕ) (changes : List Change) : Type 0 where
  pub numbered : IsScn scn
  pub commented : comment_format.Fits comment
  pub changed : All ChangeFits changes

-- what a record needs beside its type, and beside the counts of its children and changes
abbrev pub RecordHasBytes : RedoRecord → Type 0
RecordHasBytes (records.Table t) = IsWholeTable t
RecordHasBytes (records.Param p) = ParamFits p
RecordHasBytes (records.Sealed r) = WorkFits r.scn r.comment r.changes × WayFits r.toward r.parent (length r.children)
RecordHasBytes (records.Decided r) = WorkFits r.scn r.comment r.changes
RecordHasBytes (records.Ended me decision) = DecisionFits decision
RecordHasBytes (records.Forced me decision given) = DecisionFits decision
RecordHasBytes (records.Met me decision mixed) = DecisionFits decision
RecordHasBytes _ = Unit {0}

-- four bytes are enough to count these
abbrev pub AreFew : {A : Type 0} → List A → Type 0
AreFew xs = length xs < 2 ^ 32

-- and the children and changes of a record; an image has no spelling yet
abbrev pub HasFew : RedoRecord → Type 0
HasFew (records.Sealed r) = AreFew r.children × AreFew r.changes
HasFew (records.Decided r) = AreFew r.children × AreFew r.changes
HasFew (records.Image i) = ⊥
HasFew _ = Unit {0}
