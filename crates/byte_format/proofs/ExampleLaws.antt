-- The example's format is exact, by the laws of its parts alone.
use Rattle.std.proofs.Common.{refl}
use Rattle.byte_format.specs.declared.example.label.Contents.{Contents}
use Rattle.byte_format.specs.declared.example.label.Contents.TheVariants as holds
use Rattle.byte_format.specs.Format.{IsExact, ReadsAgain}
use Rattle.byte_format.specs.Number.{number8, number16, number64}
use Rattle.byte_format.specs.Part.{run}
use Rattle.byte_format.specs.Example.{is_weight, kind_of, letters_of, thing_of, contents_kinds, contents_format, label_format}
use Rattle.byte_format.proofs.NumberLaws.{number8_exact, number16_exact, number64_exact}
use Rattle.byte_format.proofs.PartLaws.{pair_exact, run_exact, optional_exact, mapped_exact, tested_exact}
use Rattle.byte_format.proofs.SeveralLaws.{counted_exact}
use Rattle.byte_format.proofs.ChoiceLaws.{kind_is, no_kind_is, reads_made, choice_exact}

-- the contents are read again, whichever they are
contents_again : (v : Contents) → ReadsAgain (contents_kinds (kind_of v)) v
contents_again (holds.Letters count) = reads_made holds.Letters letters_of number16 number16_exact (λ a. refl) count
contents_again (holds.Thing name) = reads_made holds.Thing thing_of (run number8) (run_exact number8 number8_exact) (λ a. refl) name

contents_exact : IsExact contents_format
contents_exact = choice_exact kind_of contents_kinds
    (kind_is holds.Letters letters_of number16 number16_exact (λ a. refl) 1 kind_of _ (λ a. refl)
    (kind_is holds.Thing thing_of (run number8) (run_exact number8 number8_exact) (λ a. refl) 2 kind_of _ (λ a. refl)
    (no_kind_is kind_of)))
    contents_again

pub label_exact : IsExact label_format
label_exact = mapped_exact _ _ _
    (pair_exact _ _ (tested_exact is_weight number16 number16_exact)
    (pair_exact _ _ (optional_exact number64 number64_exact)
    (pair_exact _ _ (counted_exact number16 number16_exact number8 number8_exact) contents_exact)))
    (λ x. refl) (λ l. refl)
