-- Values and rows as bytes.
use Rattle.std.specs.Prelude.{ℕ, ℤ, List, Option, Some, None, ⊤}
use Rattle.dtx_values.specs.declared.value.Value.{Value}
use Rattle.dtx_values.specs.declared.value.Value.TheVariants as cell
use Rattle.dtx_values.specs.declared.row.Row.{Row}
use Rattle.byte_format.specs.Format.{Format}
use Rattle.byte_format.specs.Number.{empty, number8, signed64}
use Rattle.byte_format.specs.Part.{mapped}
use Rattle.byte_format.specs.Several.{counted}
use Rattle.byte_format.specs.Choice.{choice, kind, no_kind}
use Rattle.field_codec.specs.Text.{text_format}

-- which byte names the value
abbrev pub value_kind : Value → ℕ
value_kind cell.Null = 0
value_kind (cell.Number number) = 1
value_kind (cell.Text text) = 2

-- whether the value is NULL
abbrev pub null_of : Value → Option ⊤
null_of cell.Null = Some tt
null_of _ = None

-- which number, where the value is one
abbrev pub number_of : Value → Option ℤ
number_of (cell.Number number) = Some number
number_of _ = None

-- which text, where the value is one
abbrev pub text_of : Value → Option (List ℕ)
text_of (cell.Text text) = Some text
text_of _ = None

-- the fields of each kind of values
abbrev pub value_kinds : ℕ → Format Value
value_kinds =
    kind 0 (λ u. cell.Null) null_of empty
    (kind 1 cell.Number number_of signed64
    (kind 2 cell.Text text_of text_format no_kind))

-- a value: 0; or 1 and a number in two's complement; or 2 and a text
abbrev pub value_format : Format Value
value_format = choice value_kind value_kinds

-- a row: how many values, as one byte, and each
abbrev pub row_format : Format Row
row_format = mapped (λ cells. record { cells = cells }) (λ r. r.cells) (counted number8 value_format)
