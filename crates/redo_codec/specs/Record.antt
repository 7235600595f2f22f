-- Redo records as bytes.
--
--   record = 1, a byte that names the kind, and the fields of that kind
use Rattle.std.specs.Prelude.{ℕ, Bool, [], ◌∷◌, Option, Some, None}
use Rattle.dtx_values.specs.declared.table.Table.{Table}
use Rattle.dtx_values.specs.declared.table.Link.{Link}
use Rattle.dtx_values.specs.declared.table.Synonym.{Synonym}
use Rattle.redo_record.specs.declared.decision.Decision.{Decision}
use Rattle.redo_record.specs.declared.record.Param.{Param}
use Rattle.redo_record.specs.declared.record.Param.TheVariants as params
use Rattle.redo_record.specs.declared.record.Sealed.{Sealed}
use Rattle.redo_record.specs.declared.record.Decided.{Decided}
use Rattle.redo_record.specs.declared.record.RedoRecord.{RedoRecord}
use Rattle.redo_record.specs.declared.record.RedoRecord.TheVariants as records
use Rattle.tran_ids.specs.declared.branch.BranchId.{BranchId}
use Rattle.byte_format.specs.Format.{Format}
use Rattle.byte_format.specs.Number.{number8, number32, flag, constant}
use Rattle.byte_format.specs.Part.{pair, mapped}
use Rattle.byte_format.specs.Choice.{choice, kind, no_kind}
use Rattle.field_codec.specs.Branch.{branch_format}
use Rattle.redo_codec.specs.Decision.{decision_format}
use Rattle.field_codec.specs.Table.{table_format, link_format, synonym_format}
use Rattle.redo_codec.specs.Sealed.{sealed_format, decided_format}

-- which byte names the setting
abbrev pub param_kind : Param → ℕ
param_kind (params.Recovery enabled) = 1
param_kind (params.Strength strength) = 2

-- whether recovery is enabled, where the setting is that
abbrev pub recovery_of : Param → Option Bool
recovery_of (params.Recovery enabled) = Some enabled
recovery_of (params.Strength strength) = None

-- a switch: a number of four bytes that is 0 for off and 1 for on, so that its last byte is a flag
abbrev pub switch_format : Format Bool
switch_format = mapped (λ x. x.1) (λ on. (tt, on)) (pair (constant (0 ∷ 0 ∷ 0 ∷ [])) flag)

-- the commit point strength, where the setting is that
abbrev pub strength_of : Param → Option ℕ
strength_of (params.Recovery enabled) = None
strength_of (params.Strength strength) = Some strength

-- a strength: a number of four bytes that is at most 255, so that its last byte is the strength
abbrev pub strength_format : Format ℕ
strength_format = mapped (λ x. x.1) (λ strength. (tt, strength)) (pair (constant (0 ∷ 0 ∷ 0 ∷ [])) number8)

-- the fields of each setting
abbrev pub param_kinds : ℕ → Format Param
param_kinds = kind 1 params.Recovery recovery_of switch_format (kind 2 params.Strength strength_of strength_format no_kind)

-- a setting: 1 and a switch for recovery, or 2 and the commit point strength
abbrev pub param_format : Format Param
param_format = choice param_kind param_kinds

-- a branch that ended, and how
abbrev pub ended_format : Format (BranchId × Decision)
ended_format = pair branch_format decision_format

-- a branch, a decision, and a flag
abbrev pub outcome_format : Format (BranchId × (Decision × Bool))
outcome_format = pair branch_format (pair decision_format flag)

-- which byte names the record
abbrev pub record_kind : RedoRecord → ℕ
record_kind (records.Boot number) = 1
record_kind (records.Table table) = 2
record_kind (records.Link link) = 3
record_kind (records.Synonym synonym) = 4
record_kind (records.Param param) = 5
record_kind (records.Sealed sealed) = 6
record_kind (records.Decided decided) = 7
record_kind (records.Ended me decision) = 8
record_kind (records.Forced me decision given) = 9
record_kind (records.Met me decision mixed) = 10
record_kind (records.Forgot me) = 11
record_kind (records.Hidden me) = 12
record_kind (records.Image image) = 13

-- the number of the start, where the record is of one
abbrev pub boot_of : RedoRecord → Option ℕ
boot_of (records.Boot number) = Some number
boot_of _ = None

-- the table that was made, where the record is of one
abbrev pub table_of : RedoRecord → Option Table
table_of (records.Table table) = Some table
table_of _ = None

-- the link that was made, where the record is of one
abbrev pub link_of : RedoRecord → Option Link
link_of (records.Link link) = Some link
link_of _ = None

-- the synonym that was made, where the record is of one
abbrev pub synonym_of : RedoRecord → Option Synonym
synonym_of (records.Synonym synonym) = Some synonym
synonym_of _ = None

-- the setting, where the record is of one
abbrev pub param_of : RedoRecord → Option Param
param_of (records.Param param) = Some param
param_of _ = None

-- the prepared branch, where the record is of one
abbrev pub sealed_of : RedoRecord → Option Sealed
sealed_of (records.Sealed sealed) = Some sealed
sealed_of _ = None

-- the decided branch, where the record is of one
abbrev pub decided_of : RedoRecord → Option Decided
decided_of (records.Decided decided) = Some decided
decided_of _ = None

-- the branch that ended, and how
abbrev pub ended_of : RedoRecord → Option (BranchId × Decision)
ended_of (records.Ended me decision) = Some (me, decision)
ended_of _ = None

-- the branch that was forced, how, and whether the SCN was given
abbrev pub forced_of : RedoRecord → Option (BranchId × (Decision × Bool))
forced_of (records.Forced me decision given) = Some (me, (decision, given))
forced_of _ = None

-- the forced branch that met its decision, which it was, and whether the outcomes differ
abbrev pub met_of : RedoRecord → Option (BranchId × (Decision × Bool))
met_of (records.Met me decision mixed) = Some (me, (decision, mixed))
met_of _ = None

-- the branch that was forgotten
abbrev pub forgot_of : RedoRecord → Option BranchId
forgot_of (records.Forgot me) = Some me
forgot_of _ = None

-- the branch that was hidden
abbrev pub hidden_of : RedoRecord → Option BranchId
hidden_of (records.Hidden me) = Some me
hidden_of _ = None

-- the fields of each kind of record; an image has no spelling yet
abbrev pub record_fields : ℕ → Format RedoRecord
record_fields =
    kind 1 records.Boot boot_of number32
    (kind 2 records.Table table_of table_format
    (kind 3 records.Link link_of link_format
    (kind 4 records.Synonym synonym_of synonym_format
    (kind 5 records.Param param_of param_format
    (kind 6 records.Sealed sealed_of sealed_format
    (kind 7 records.Decided decided_of decided_format
    (kind 8 (λ x. records.Ended x.0 x.1) ended_of ended_format
    (kind 9 (λ x. records.Forced x.0 x.1.0 x.1.1) forced_of outcome_format
    (kind 10 (λ x. records.Met x.0 x.1.0 x.1.1) met_of outcome_format
    (kind 11 records.Forgot forgot_of branch_format
    (kind 12 records.Hidden hidden_of branch_format no_kind)))))))))))

-- a byte that names the kind, and the kind's fields
abbrev pub body_format : Format RedoRecord
body_format = choice record_kind record_fields

-- a record: a byte 1, and the record's kind and fields
abbrev pub record_format : Format RedoRecord
record_format = mapped (λ x. x.1) (λ r. (tt, r)) (pair (constant (1 ∷ [])) body_format)
