-- What rows need beside their type to have a spelling.
use Rattle.std.specs.Prelude.{◌<◌, ◌^◌, length}
use Rattle.dtx_values.specs.declared.row.Row.{Row}

-- one byte is enough to count the row's cells
abbrev pub HasCount : Row → Type 0
HasCount row = length row.cells < 2 ^ 8
