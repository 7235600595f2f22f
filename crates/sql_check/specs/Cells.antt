-- Cells that are not there.
use Rattle.std.specs.Prelude.{Option, unwrap_or}
use Rattle.sql_check.specs.Data.{Value}
use Rattle.sql_check.specs.Data.values

-- what a cell has, where no cell is NULL
abbrev pub or_null : Option Value → Value
or_null cell = unwrap_or cell values.Null
