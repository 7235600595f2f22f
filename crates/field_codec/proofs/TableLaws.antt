-- The formats of tables, links and synonyms are exact, by the laws of their parts.
use Rattle.std.proofs.Common.{ℕ, [], ◌∷◌, Option, Some, None, refl}
use Rattle.byte_format.specs.Format.{IsExact, ReadsAgain}
use Rattle.byte_format.specs.Number.{number8, number16, constant}
use Rattle.byte_format.specs.Part.{tested}
use Rattle.byte_format.specs.Several.{counted}
use Rattle.byte_format.proofs.NumberLaws.{number8_exact, number16_exact, flag_exact, constant_exact}
use Rattle.byte_format.proofs.PartLaws.{pair_exact, mapped_exact, tested_exact}
use Rattle.byte_format.proofs.SeveralLaws.{counted_exact}
use Rattle.byte_format.proofs.ChoiceLaws.{kind_is, no_kind_is, reads_made, choice_exact}
use Rattle.dtx_values.specs.Widths.{is_width}
use Rattle.field_codec.specs.Table.{type_kind, number_type_of, text_type_of, type_kinds, type_format, column_format, is_columns, table_format, link_format, synonym_format}
use Rattle.field_codec.proofs.FieldLaws.{name_exact}

width_exact : IsExact (tested is_width number16)
width_exact = tested_exact is_width number16 number16_exact

type_again : (v : Option ℕ) → ReadsAgain (type_kinds (type_kind v)) v
type_again None = reads_made (λ u. None) number_type_of (constant (0 ∷ 0 ∷ [])) (constant_exact (0 ∷ 0 ∷ [])) (λ u. refl) tt
type_again (Some width) = reads_made Some text_type_of (tested is_width number16) width_exact (λ w. refl) width

type_exact : IsExact type_format
type_exact = choice_exact type_kind type_kinds
    (kind_is (λ u. None) number_type_of (constant (0 ∷ 0 ∷ [])) (constant_exact (0 ∷ 0 ∷ [])) (λ u. refl) 1 type_kind _ (λ u. refl)
    (kind_is Some text_type_of (tested is_width number16) width_exact (λ w. refl) 2 type_kind _ (λ w. refl)
    (no_kind_is type_kind)))
    type_again

pub column_exact : IsExact column_format
column_exact = mapped_exact _ _ _
    (pair_exact _ _ name_exact (pair_exact _ _ type_exact (pair_exact _ _ flag_exact flag_exact)))
    (λ x. refl) (λ c. refl)

pub table_exact : IsExact table_format
table_exact = mapped_exact _ _ _
    (pair_exact _ _ name_exact (tested_exact is_columns (counted number8 column_format) (counted_exact column_format column_exact number8 number8_exact)))
    (λ x. refl) (λ t. refl)

pub link_exact : IsExact link_format
link_exact = mapped_exact _ _ _ (pair_exact _ _ name_exact name_exact) (λ x. refl) (λ l. refl)

pub synonym_exact : IsExact synonym_format
synonym_exact = mapped_exact _ _ _ (pair_exact _ _ name_exact (pair_exact _ _ name_exact name_exact)) (λ x. refl) (λ s. refl)
