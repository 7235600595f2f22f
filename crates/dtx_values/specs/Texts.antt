-- How values are written.
use Rattle.std.specs.Prelude.{ℕ, ◌==◌, if◌then◌else◌, List, [], ◌∷◌, ◌++◌, codes}
use Rattle.std.specs.Fmt.{signed_decimal}
use Rattle.std.specs.List.{flat_map}
use Rattle.dtx_values.specs.declared.value.Value.{Value}
use Rattle.dtx_values.specs.declared.value.Value.TheVariants.{Null, Number, Text}

-- a byte within quotes: a quote is written twice
abbrev pub quoted_byte : ℕ → List ℕ
quoted_byte b = if b == 39 then codes "''" else b ∷ []

-- a value as it stands in a statement
abbrev pub text_of_value : Value → List ℕ
text_of_value Null = codes "NULL"
text_of_value (Number n) = signed_decimal n
text_of_value (Text text) = codes "'" ++ flat_map quoted_byte text ++ codes "'"
