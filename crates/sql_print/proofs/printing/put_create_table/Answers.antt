use Rattle.sql_print.proofs.Appends.{three}
use Rattle.sql_print.proofs.printing.put_create_table.Goals as goal

pub returns : goal.returns
returns c = rw (← c.as_bytes.ensures.bytes, ← c.as_slice.ensures) (three _ _ _ _ _ _ _ c.in_ok-extend_from_slice.ensures.items c.in_ok-extend_from_slice-2.ensures.items c.in_ok-put_columns.ensures)
