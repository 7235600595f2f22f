-- The formats of redo records are exact, by the laws of their parts. What is read is shown kind by kind, and what is
-- spelled is read again by the cases of the record: a line for each kind in both.
use Rattle.std.proofs.Common.{[], ◌∷◌, refl}
use Rattle.redo_record.specs.declared.record.Param.{Param}
use Rattle.redo_record.specs.declared.record.Param.TheVariants as params
use Rattle.redo_record.specs.declared.record.RedoRecord.{RedoRecord}
use Rattle.redo_record.specs.declared.record.RedoRecord.TheVariants as records
use Rattle.byte_format.specs.Format.{IsExact, ReadsAgain}
use Rattle.byte_format.specs.Choice.{IsChoice}
use Rattle.byte_format.specs.Number.{number8, number32, flag, constant}
use Rattle.byte_format.specs.Part.{pair}
use Rattle.byte_format.proofs.NumberLaws.{number8_exact, number32_exact, flag_exact, constant_exact}
use Rattle.byte_format.proofs.PartLaws.{pair_exact, mapped_exact}
use Rattle.byte_format.proofs.ChoiceLaws.{kind_is, no_kind_is, reads_made, choice_exact}
use Rattle.field_codec.specs.Branch.{branch_format}
use Rattle.field_codec.specs.Table.{table_format, link_format, synonym_format}
use Rattle.field_codec.proofs.FieldLaws.{branch_exact}
use Rattle.field_codec.proofs.TableLaws.{table_exact, link_exact, synonym_exact}
use Rattle.redo_codec.specs.Sealed.{sealed_format, decided_format}
use Rattle.redo_codec.specs.Record.{recovery_of, strength_of, param_kind, switch_format, strength_format, param_kinds, param_format, ended_format, outcome_format, record_kind, boot_of, table_of, link_of, synonym_of, param_of, sealed_of, decided_of, ended_of, forced_of, met_of, forgot_of, hidden_of, record_fields, body_format, record_format}
use Rattle.redo_codec.proofs.PartLaws.{decision_exact, sealed_exact, decided_exact}

switch_exact : IsExact switch_format
switch_exact = mapped_exact (λ x. x.1) (λ on. (tt, on)) (pair (constant (0 ∷ 0 ∷ 0 ∷ [])) flag) (pair_exact _ _ (constant_exact (0 ∷ 0 ∷ 0 ∷ [])) flag_exact) (λ x. refl) (λ b. refl)

strength_exact : IsExact strength_format
strength_exact = mapped_exact (λ x. x.1) (λ strength. (tt, strength)) (pair (constant (0 ∷ 0 ∷ 0 ∷ [])) number8) (pair_exact _ _ (constant_exact (0 ∷ 0 ∷ 0 ∷ [])) number8_exact) (λ x. refl) (λ n. refl)

param_again : (v : Param) → ReadsAgain (param_kinds (param_kind v)) v
param_again (params.Recovery enabled) = reads_made params.Recovery recovery_of switch_format switch_exact (λ b. refl) enabled
param_again (params.Strength strength) = reads_made params.Strength strength_of strength_format strength_exact (λ n. refl) strength

param_exact : IsExact param_format
param_exact = choice_exact param_kind param_kinds
    (kind_is params.Recovery recovery_of switch_format switch_exact (λ b. refl) 1 param_kind _ (λ b. refl)
    (kind_is params.Strength strength_of strength_format strength_exact (λ n. refl) 2 param_kind _ (λ n. refl)
    (no_kind_is param_kind)))
    param_again

ended_exact : IsExact ended_format
ended_exact = pair_exact _ _ branch_exact decision_exact

outcome_exact : IsExact outcome_format
outcome_exact = pair_exact _ _ branch_exact (pair_exact _ _ decision_exact flag_exact)

record_again : (v : RedoRecord) → ReadsAgain (record_fields (record_kind v)) v
record_again (records.Boot number) = reads_made records.Boot boot_of number32 number32_exact (λ x. refl) number
record_again (records.Table table) = reads_made records.Table table_of table_format table_exact (λ x. refl) table
record_again (records.Link link) = reads_made records.Link link_of link_format link_exact (λ x. refl) link
record_again (records.Synonym synonym) = reads_made records.Synonym synonym_of synonym_format synonym_exact (λ x. refl) synonym
record_again (records.Param param) = reads_made records.Param param_of param_format param_exact (λ x. refl) param
record_again (records.Sealed sealed) = reads_made records.Sealed sealed_of sealed_format sealed_exact (λ x. refl) sealed
record_again (records.Decided decided) = reads_made records.Decided decided_of decided_format decided_exact (λ x. refl) decided
record_again (records.Ended me decision) = reads_made (λ x. records.Ended x.0 x.1) ended_of ended_format ended_exact (λ x. refl) (me, decision)
record_again (records.Forced me decision given) = reads_made (λ x. records.Forced x.0 x.1.0 x.1.1) forced_of outcome_format outcome_exact (λ x. refl) (me, (decision, given))
record_again (records.Met me decision mixed) = reads_made (λ x. records.Met x.0 x.1.0 x.1.1) met_of outcome_format outcome_exact (λ x. refl) (me, (decision, mixed))
record_again (records.Forgot me) = reads_made records.Forgot forgot_of branch_format branch_exact (λ x. refl) me
record_again (records.Hidden me) = reads_made records.Hidden hidden_of branch_format branch_exact (λ x. refl) me
record_again (records.Image image) = λ rest fits. absurd fits

record_choice : IsChoice record_kind record_fields
record_choice =
    kind_is records.Boot boot_of number32 number32_exact (λ x. refl) 1 record_kind _ (λ x. refl)
    (kind_is records.Table table_of table_format table_exact (λ x. refl) 2 record_kind _ (λ x. refl)
    (kind_is records.Link link_of link_format link_exact (λ x. refl) 3 record_kind _ (λ x. refl)
    (kind_is records.Synonym synonym_of synonym_format synonym_exact (λ x. refl) 4 record_kind _ (λ x. refl)
    (kind_is records.Param param_of param_format param_exact (λ x. refl) 5 record_kind _ (λ x. refl)
    (kind_is records.Sealed sealed_of sealed_format sealed_exact (λ x. refl) 6 record_kind _ (λ x. refl)
    (kind_is records.Decided decided_of decided_format decided_exact (λ x. refl) 7 record_kind _ (λ x. refl)
    (kind_is (λ x. records.Ended x.0 x.1) ended_of ended_format ended_exact (λ x. refl) 8 record_kind _ (λ x. refl)
    (kind_is (λ x. records.Forced x.0 x.1.0 x.1.1) forced_of outcome_format outcome_exact (λ x. refl) 9 record_kind _ (λ x. refl)
    (kind_is (λ x. records.Met x.0 x.1.0 x.1.1) met_of outcome_format outcome_exact (λ x. refl) 10 record_kind _ (λ x. refl)
    (kind_is records.Forgot forgot_of branch_format branch_exact (λ x. refl) 11 record_kind _ (λ x. refl)
    (kind_is records.Hidden hidden_of branch_format branch_exact (λ x. refl) 12 record_kind _ (λ x. refl)
    (no_kind_is record_kind))))))))))))

pub record_exact : IsExact record_format
record_exact = mapped_exact (λ x. x.1) (λ r. (tt, r)) (pair (constant (1 ∷ [])) body_format)
    (pair_exact _ _ (constant_exact (1 ∷ [])) (choice_exact record_kind record_fields record_choice record_again))
    (λ x. refl) (λ r. refl)
