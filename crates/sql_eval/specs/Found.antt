-- What a statement other than INSERT comes to by the rows that it finds.
use Rattle.std.specs.Prelude.{List, [], true, Ok}
use Rattle.sql_check.specs.Refusals.{ora}
use Rattle.sql_eval.specs.Data.{Value, Table, Stmt, Keyed, Meant}
use Rattle.sql_eval.specs.Data.stmts
use Rattle.sql_eval.specs.Data.dones
use Rattle.sql_eval.specs.Data.meants
use Rattle.sql_eval.specs.Rows.{keys_of}
use Rattle.sql_eval.specs.Meaning.{changing, updated, deleted, picked}

-- the keys that it writes
abbrev pub written_found : Stmt → List Keyed → List Value
written_found (stmts.Update table sets cs) found = keys_of found
written_found (stmts.Delete table cs) found = keys_of found
written_found (stmts.Select list table cs true) found = keys_of found
written_found _ found = []

-- what it means
abbrev pub meant_found : Stmt → Table → List Keyed → Meant
meant_found (stmts.Update table sets cs) t found = changing dones.Updated (updated t sets found)
meant_found (stmts.Delete table cs) t found = changing dones.Deleted (Ok (deleted t found))
meant_found (stmts.Select list table cs for_update) t found = picked list t found
meant_found _ t found = meants.Refused (ora 900 [])
