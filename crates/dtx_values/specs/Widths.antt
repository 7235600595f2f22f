-- The widths of columns of texts, in bytes.
use Rattle.std.specs.Prelude.{ℕ, Bool, ◌&&◌, IfSome, IsTrue, nat_le}
use Rattle.dtx_values.specs.declared.table.Column.{Column}
use Rattle.dtx_values.specs.Limits.{text_limit}

-- from 1 byte to the most bytes of a text
abbrev pub is_width : ℕ → Bool
is_width bytes = nat_le 1 bytes && nat_le bytes text_limit

-- a column of texts has such a width
abbrev pub HasWidth : Column → Type 0
HasWidth c = IfSome c.text_max (λ width. IsTrue (is_width width))
