-- How values are ordered and compared, and how values and rows are stored in a map.
use Rattle.std.specs.Prelude.{◌≡◌, ℕ, ℤ, Bool, true, false, List, Option, None, Some, refl}
use Rattle.std.specs.declared.cmp.Ordering.{Ordering}
use Rattle.std.specs.declared.cmp.Ordering.TheVariants.{Less, Equal, Greater}
use Rattle.std.specs.Ordering.{is_eq, is_lt, nat_cmp, int_cmp}
use Rattle.std.specs.Cmp.Lexicographic.{slice_cmp}
use Rattle.std.specs.Coded.{Coded, code_by, coded×, coded_option, coded_ℕ, coded_ℤ, coded_list}
use Rattle.dtx_values.specs.declared.value.Value.{Value}
use Rattle.dtx_values.specs.declared.value.Value.TheVariants.{Null, Number, Text}
use Rattle.dtx_values.specs.declared.row.Row.{Row}

-- Null first, then the numbers by value, and then the texts by their bytes
abbrev pub value_cmp : Value → Value → Ordering
value_cmp Null Null = Equal
value_cmp Null (Number b) = Less
value_cmp Null (Text b) = Less
value_cmp (Number a) Null = Greater
value_cmp (Number a) (Number b) = int_cmp a b
value_cmp (Number a) (Text b) = Less
value_cmp (Text a) Null = Greater
value_cmp (Text a) (Number b) = Greater
value_cmp (Text a) (Text b) = slice_cmp nat_cmp a b

-- whether a value is NULL
abbrev pub is_null : Value → Bool
is_null Null = true
is_null (Number n) = false
is_null (Text t) = false

-- whether a value comes before another
abbrev pub value_below : Value → Value → Bool
value_below a b = is_lt (value_cmp a b)

-- whether two values are equal
abbrev pub same_value : Value → Value → Bool
same_value a b = is_eq (value_cmp a b)

-- a value as the number that it is and the text that it is, where it is one
abbrev pub parts_of : Value → Option ℤ × Option (List ℕ)
parts_of Null = (None, None)
parts_of (Number n) = (Some n, None)
parts_of (Text text) = (None, Some text)

-- and back
abbrev pub value_from : Option ℤ × Option (List ℕ) → Value
value_from (Some n, text) = Number n
value_from (None, Some text) = Text text
value_from (None, None) = Null

-- there and back is the same value
pub value_from-parts_of : (v : Value) → value_from (parts_of v) ≡ v
value_from-parts_of Null = refl
value_from-parts_of (Number n) = refl
value_from-parts_of (Text text) = refl

-- values are stored by their parts
abbrev pub coded_value : Coded Value
coded_value = code_by (Option ℤ × Option (List ℕ)) (coded× (coded_option coded_ℤ) (coded_option (coded_list coded_ℕ))) parts_of value_from value_from-parts_of

-- and rows by their cells
abbrev pub coded_row : Coded Row
coded_row = code_by (List Value) (coded_list coded_value) (λ r. r.cells) (λ cells. record { cells = cells }) (λ _. refl)
