-- The format of answers is exact, by the laws of its parts.
use Rattle.std.proofs.Common.{refl}
use Rattle.dtx_values.specs.declared.answer.Done.{Done}
use Rattle.dtx_values.specs.declared.answer.Done.TheVariants as dones
use Rattle.dtx_values.specs.declared.answer.Answer.{Answer}
use Rattle.dtx_values.specs.declared.answer.Answer.TheVariants as answers
use Rattle.byte_format.specs.Format.{IsExact, ReadsAgain}
use Rattle.byte_format.specs.Number.{empty, number32}
use Rattle.byte_format.specs.Part.{pair}
use Rattle.byte_format.proofs.NumberLaws.{empty_exact, number16_exact, number32_exact}
use Rattle.byte_format.proofs.PartLaws.{pair_exact, mapped_exact, tested_exact}
use Rattle.byte_format.proofs.SeveralLaws.{counted_exact}
use Rattle.byte_format.proofs.ChoiceLaws.{kind_is, no_kind_is, reads_made, choice_exact}
use Rattle.field_codec.specs.Text.{utf8_format}
use Rattle.field_codec.specs.Value.{row_format}
use Rattle.field_codec.proofs.FieldLaws.{utf8_exact, row_exact}
use Rattle.msg_codec.specs.Answer.{done_kind, created_of, updated_of, deleted_of, went_back_of, done_kinds, done_format, counts_rows, texts_format, did_format, found_format, refusal_format, answer_kind, did_of, found_of, refusal_of, answer_kinds, answer_format}

done_again : (v : Done) → ReadsAgain (done_kinds (done_kind v)) v
done_again dones.Created = reads_made (λ u. dones.Created) created_of empty empty_exact (λ u. refl) tt
done_again dones.Updated = reads_made (λ u. dones.Updated) updated_of empty empty_exact (λ u. refl) tt
done_again dones.Deleted = reads_made (λ u. dones.Deleted) deleted_of empty empty_exact (λ u. refl) tt
done_again dones.RolledBack = reads_made (λ u. dones.RolledBack) went_back_of empty empty_exact (λ u. refl) tt
done_again _ = λ rest fits. absurd fits

done_exact : IsExact done_format
done_exact = choice_exact done_kind done_kinds
    (kind_is (λ u. dones.Created) created_of empty empty_exact (λ u. refl) 1 done_kind _ (λ u. refl)
    (kind_is (λ u. dones.Updated) updated_of empty empty_exact (λ u. refl) 2 done_kind _ (λ u. refl)
    (kind_is (λ u. dones.Deleted) deleted_of empty empty_exact (λ u. refl) 3 done_kind _ (λ u. refl)
    (kind_is (λ u. dones.RolledBack) went_back_of empty empty_exact (λ u. refl) 4 done_kind _ (λ u. refl)
    (no_kind_is done_kind)))))
    done_again

texts_exact : IsExact texts_format
texts_exact = counted_exact utf8_format utf8_exact number32 number32_exact

did_exact : IsExact did_format
did_exact = tested_exact counts_rows (pair done_format number32) (pair_exact _ _ done_exact number32_exact)

found_exact : IsExact found_format
found_exact = mapped_exact _ _ _ (pair_exact _ _ texts_exact (counted_exact row_format row_exact number32 number32_exact)) (λ x. refl) (λ f. refl)

refusal_exact : IsExact refusal_format
refusal_exact = mapped_exact _ _ _ (pair_exact _ _ number16_exact texts_exact) (λ x. refl) (λ r. refl)

answer_again : (v : Answer) → ReadsAgain (answer_kinds (answer_kind v)) v
answer_again (answers.Did done count) = reads_made (λ x. answers.Did x.0 x.1) did_of did_format did_exact (λ x. refl) (done, count)
answer_again (answers.Found found) = reads_made answers.Found found_of found_format found_exact (λ x. refl) found
answer_again (answers.Refused refusal) = reads_made answers.Refused refusal_of refusal_format refusal_exact (λ x. refl) refusal

pub answer_exact : IsExact answer_format
answer_exact = choice_exact answer_kind answer_kinds
    (kind_is (λ x. answers.Did x.0 x.1) did_of did_format did_exact (λ x. refl) 1 answer_kind _ (λ x. refl)
    (kind_is answers.Found found_of found_format found_exact (λ x. refl) 2 answer_kind _ (λ x. refl)
    (kind_is answers.Refused refusal_of refusal_format refusal_exact (λ x. refl) 3 answer_kind _ (λ x. refl)
    (no_kind_is answer_kind))))
    answer_again
