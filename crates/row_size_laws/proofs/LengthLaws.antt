-- The lengths that are computed from values are those of the bytes that spell them.
use Rattle.std.proofs.Common.{◌≡◌, ℕ, ◌+◌, List, [], ◌∷◌, ◌++◌, length, Option, Some, None, refl, sym, ap, ◌∙◌, arith}
use Rattle.std.specs.List.{fold, sum_by, flat_map}
use Rattle.std.proofs.lemmas.List.{length-append}
use Rattle.std.proofs.lemmas.List.Concat.{length-flat_map}
use Rattle.dtx_values.specs.declared.value.Value.{Value}
use Rattle.dtx_values.specs.declared.value.Value.TheVariants as cell
use Rattle.dtx_values.specs.declared.row.Row.{Row}
use Rattle.dtx_values.specs.declared.row.Change.{Change}
use Rattle.byte_format.specs.Part.{optional}
use Rattle.field_codec.specs.Value.{value_format, row_format}
use Rattle.field_codec.specs.Name.{name_format}
use Rattle.field_codec.specs.Change.{change_format}
use Rattle.sql_eval.specs.Rows.{value_length, row_length, change_length}

pub value_length_is : (v : Value) → value_length v ≡ length (value_format.text v)
value_length_is cell.Null = refl
value_length_is (cell.Number n) = refl
value_length_is (cell.Text t) = omega arith

-- added up from any number on
added : (total : ℕ) (cells : List Value) → fold (λ sum v. sum + value_length v) total cells ≡ fold (λ sum v. sum + length (value_format.text v)) total cells
added total [] = refl
added total (v ∷ vs) =
    ap (λ (n : ℕ). fold (λ sum x. sum + value_length x) (total + n) vs) (value_length_is v) ∙ added (total + length (value_format.text v)) vs

cells_length_is : (cells : List Value) → sum_by value_length cells ≡ sum_by (λ v. length (value_format.text v)) cells
cells_length_is cells = added 0 cells

pub row_length_is : (row : Option Row) → row_length row ≡ length ((optional row_format).text row)
row_length_is None = refl
row_length_is (Some r) =
    let same = cells_length_is r.cells ∙ sym (length-flat_map value_format.text r.cells) in
    omega (arith, same)

pub change_length_is : (c : Change) → change_length c ≡ length (change_format.text c)
change_length_is c =
    let key = value_length_is c.key in
    let after = row_length_is c.after in
    let whole = length-append (name_format.text c.table) (value_format.text c.key ++ (optional row_format).text c.after) in
    let rest = length-append (value_format.text c.key) ((optional row_format).text c.after) in
    omega (arith, key, after, whole, rest)

-- added up from any number on
added_changes : (total : ℕ) (cs : List Change) → fold (λ sum c. sum + change_length c) total cs ≡ fold (λ sum c. sum + length (change_format.text c)) total cs
added_changes total [] = refl
added_changes total (c ∷ cs) =
    ap (λ (n : ℕ). fold (λ sum x. sum + change_length x) (total + n) cs) (change_length_is c) ∙ added_changes (total + length (change_format.text c)) cs

pub changes_length_is : (cs : List Change) → sum_by change_length cs ≡ length (flat_map change_format.text cs)
changes_length_is cs = added_changes 0 cs ∙ sym (length-flat_map change_format.text cs)
