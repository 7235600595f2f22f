-- Tables, links and synonyms as bytes.
use Rattle.std.specs.Prelude.{ℕ, Bool, ◌&&◌, ◌==◌, nat_le, List, [], ◌∷◌, length, count_by, Option, Some, None, ⊤}
use Rattle.dtx_values.specs.Limits.{column_limit}
use Rattle.dtx_values.specs.Widths.{is_width}
use Rattle.dtx_values.specs.declared.table.Column.{Column}
use Rattle.dtx_values.specs.declared.table.Table.{Table}
use Rattle.dtx_values.specs.declared.table.Link.{Link}
use Rattle.dtx_values.specs.declared.table.Synonym.{Synonym}
use Rattle.byte_format.specs.Format.{Format}
use Rattle.byte_format.specs.Number.{number8, number16, flag, constant}
use Rattle.byte_format.specs.Part.{pair, mapped, tested}
use Rattle.byte_format.specs.Several.{counted}
use Rattle.byte_format.specs.Choice.{choice, kind, no_kind}
use Rattle.field_codec.specs.Name.{name_format}

-- which byte names the type of a column, from the most bytes of its texts
abbrev pub type_kind : Option ℕ → ℕ
type_kind None = 1
type_kind (Some width) = 2

-- whether the column is of numbers
abbrev pub number_type_of : Option ℕ → Option ⊤
number_type_of None = Some tt
number_type_of (Some width) = None

-- the most bytes of the column's texts
abbrev pub text_type_of : Option ℕ → Option ℕ
text_type_of width = width

-- the fields of each kind of types
abbrev pub type_kinds : ℕ → Format (Option ℕ)
type_kinds =
    kind 1 (λ u. None) number_type_of (constant (0 ∷ 0 ∷ []))
    (kind 2 Some text_type_of (tested is_width number16) no_kind)

-- the type of a column: 1 and a width of 0 for numbers, 2 and the width for texts
abbrev pub type_format : Format (Option ℕ)
type_format = choice type_kind type_kinds

-- a column: its name, its type, whether it is not null, and whether it is the key
abbrev pub column_format : Format Column
column_format = mapped
    (λ x. record { name = x.0; text_max = x.1.0; not_null = x.1.1.0; key = x.1.1.1 })
    (λ c. (c.name, (c.text_max, (c.not_null, c.key))))
    (pair name_format (pair type_format (pair flag flag)))

-- at least one column, no more than a table may have, and exactly one is the key
abbrev pub is_columns : List Column → Bool
is_columns columns = nat_le 1 (length columns) && (nat_le (length columns) column_limit && (count_by (λ c. c.key) columns == 1))

-- a table: its name, and its columns after their count of one byte
abbrev pub table_format : Format Table
table_format = mapped
    (λ x. record { name = x.0; columns = x.1 })
    (λ t. (t.name, t.columns))
    (pair name_format (tested is_columns (counted number8 column_format)))

-- a link: its name, and the node that it leads to
abbrev pub link_format : Format Link
link_format = mapped (λ x. record { name = x.0; target = x.1 }) (λ l. (l.name, l.target)) (pair name_format name_format)

-- a synonym: its name, the table, and the link
abbrev pub synonym_format : Format Synonym
synonym_format = mapped
    (λ x. record { name = x.0; table = x.1.0; link = x.1.1 })
    (λ s. (s.name, (s.table, s.link)))
    (pair name_format (pair name_format name_format))
