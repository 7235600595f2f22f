use Rattle.sql_print.proofs.Appends.{four}
use Rattle.sql_print.proofs.printing.put_insert.Goals as goal

pub returns : goal.returns
returns c = rw (← c.as_slice.ensures) (four _ _ _ _ _ _ _ _ _ c.in_ok-extend_from_slice.ensures.items c.in_ok-put_table.ensures c.in_ok-put_names.ensures c.in_ok-put_values.ensures)
