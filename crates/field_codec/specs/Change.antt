-- Changes as bytes.
use Rattle.std.specs.Prelude.{Bool, true, false}
use Rattle.dtx_values.specs.declared.value.Value.{Value}
use Rattle.dtx_values.specs.declared.value.Value.TheVariants as cell
use Rattle.dtx_values.specs.declared.row.Change.{Change}
use Rattle.byte_format.specs.Format.{Format}
use Rattle.byte_format.specs.Part.{pair, optional, mapped, tested}
use Rattle.field_codec.specs.Name.{name_format}
use Rattle.field_codec.specs.Value.{value_format, row_format}

-- a key is not NULL
abbrev pub is_key : Value → Bool
is_key cell.Null = false
is_key (cell.Number number) = true
is_key (cell.Text text) = true

-- a change: the table, the key, and the row that is there afterwards, if one is
abbrev pub change_format : Format Change
change_format = mapped
    (λ x. record { table = x.0; key = x.1.0; after = x.1.1 })
    (λ c. (c.table, (c.key, c.after)))
    (pair name_format (pair (tested is_key value_format) (optional row_format)))
