-- The formats of branches, names, texts, values, rows, changes and advice are exact, by the laws of their parts.
use Rattle.std.proofs.Common.{Option, Some, None, refl}
use Rattle.std.specs.Str.{is_utf8}
use Rattle.dtx_values.specs.Limits.{comment_limit}
use Rattle.dtx_values.specs.Str.{is_text, is_text_to}
use Rattle.dtx_values.specs.declared.advice.Advice.{Advice}
use Rattle.dtx_values.specs.declared.advice.Advice.TheVariants as advices
use Rattle.dtx_values.specs.declared.value.Value.{Value}
use Rattle.dtx_values.specs.declared.value.Value.TheVariants as cell
use Rattle.byte_format.specs.Format.{IsExact, ReadsAgain}
use Rattle.byte_format.specs.Number.{empty, number8, number16, signed64}
use Rattle.byte_format.specs.Part.{run}
use Rattle.byte_format.proofs.NumberLaws.{empty_exact, number8_exact, number16_exact, number32_exact, signed64_exact}
use Rattle.byte_format.proofs.PartLaws.{pair_exact, run_exact, optional_exact, mapped_exact, tested_exact}
use Rattle.byte_format.proofs.SeveralLaws.{counted_exact}
use Rattle.byte_format.proofs.ChoiceLaws.{kind_is, no_kind_is, reads_made, choice_exact}
use Rattle.field_codec.specs.Branch.{branch_format}
use Rattle.field_codec.specs.Name.{is_own_name, name_format}
use Rattle.field_codec.specs.Text.{text_format, utf8_format, comment_format}
use Rattle.field_codec.specs.Value.{value_kind, null_of, number_of, text_of, value_kinds, value_format, row_format}
use Rattle.field_codec.specs.Change.{is_key, change_format}
use Rattle.field_codec.specs.Advice.{advice_kind, no_advice_of, commit_advice_of, rollback_advice_of, advice_kinds, advice_format}

pub branch_exact : IsExact branch_format
branch_exact = mapped_exact _ _ _
    (pair_exact _ _ number8_exact (pair_exact _ _ number32_exact (pair_exact _ _ number32_exact number32_exact)))
    (λ x. refl) (λ b. refl)

pub name_exact : IsExact name_format
name_exact = tested_exact is_own_name (run number8) (run_exact number8 number8_exact)

-- ---- texts

pub text_exact : IsExact text_format
text_exact = tested_exact is_text (run number16) (run_exact number16 number16_exact)

pub utf8_exact : IsExact utf8_format
utf8_exact = tested_exact is_utf8 (run number16) (run_exact number16 number16_exact)

pub comment_exact : IsExact comment_format
comment_exact = tested_exact (is_text_to comment_limit) (run number16) (run_exact number16 number16_exact)

-- ---- values, rows and changes

value_again : (v : Value) → ReadsAgain (value_kinds (value_kind v)) v
value_again cell.Null = reads_made (λ u. cell.Null) null_of empty empty_exact (λ u. refl) tt
value_again (cell.Number number) = reads_made cell.Number number_of signed64 signed64_exact (λ n. refl) number
value_again (cell.Text text) = reads_made cell.Text text_of text_format text_exact (λ t. refl) text

pub value_exact : IsExact value_format
value_exact = choice_exact value_kind value_kinds
    (kind_is (λ u. cell.Null) null_of empty empty_exact (λ u. refl) 0 value_kind _ (λ u. refl)
    (kind_is cell.Number number_of signed64 signed64_exact (λ n. refl) 1 value_kind _ (λ n. refl)
    (kind_is cell.Text text_of text_format text_exact (λ t. refl) 2 value_kind _ (λ t. refl)
    (no_kind_is value_kind))))
    value_again

pub row_exact : IsExact row_format
row_exact = mapped_exact _ _ _ (counted_exact value_format value_exact number8 number8_exact) (λ x. refl) (λ r. refl)

pub change_exact : IsExact change_format
change_exact = mapped_exact _ _ _
    (pair_exact _ _ name_exact (pair_exact _ _ (tested_exact is_key value_format value_exact) (optional_exact row_format row_exact)))
    (λ x. refl) (λ c. refl)

-- ---- advice

advice_again : (v : Option Advice) → ReadsAgain (advice_kinds (advice_kind v)) v
advice_again None = reads_made (λ u. None) no_advice_of empty empty_exact (λ u. refl) tt
advice_again (Some advices.Commit) = reads_made (λ u. Some advices.Commit) commit_advice_of empty empty_exact (λ u. refl) tt
advice_again (Some advices.Rollback) = reads_made (λ u. Some advices.Rollback) rollback_advice_of empty empty_exact (λ u. refl) tt

pub advice_exact : IsExact advice_format
advice_exact = choice_exact advice_kind advice_kinds
    (kind_is (λ u. None) no_advice_of empty empty_exact (λ u. refl) 0 advice_kind _ (λ u. refl)
    (kind_is (λ u. Some advices.Commit) commit_advice_of empty empty_exact (λ u. refl) 1 advice_kind _ (λ u. refl)
    (kind_is (λ u. Some advices.Rollback) rollback_advice_of empty empty_exact (λ u. refl) 2 advice_kind _ (λ u. refl)
    (no_kind_is advice_kind))))
    advice_again
