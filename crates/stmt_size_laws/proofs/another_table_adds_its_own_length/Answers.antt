use Rattle.stmt_size_laws.proofs.TableLengths.{insert_differs, update_differs, delete_differs, select_differs}
use Rattle.stmt_size_laws.proofs.another_table_adds_its_own_length.Goals as goal

pub returns : goal.returns
returns c = record { insert = insert_differs; update = update_differs; delete = delete_differs; select = select_differs }
