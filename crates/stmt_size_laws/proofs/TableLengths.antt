-- Where another table is put into a statement, its printed text changes by the length of the table alone.
use Rattle.std.proofs.Common.{◌≡◌, ℕ, ◌+◌, Bool, List, ◌++◌, length, Option, arith}
use Rattle.std.specs.Prelude.{codes}
use Rattle.std.proofs.lemmas.List.{length-append}
use Rattle.sql_statement.specs.declared.condition.Cond.{Cond}
use Rattle.sql_statement.specs.declared.query.Picked.{Picked}
use Rattle.sql_statement.specs.declared.statement.Set.{Set}
use Rattle.sql_statement.specs.declared.statement.Stmt.TheVariants as statements
use Rattle.sql_statement.specs.declared.statement.TableRef.{TableRef}
use Rattle.sql_statement.specs.declared.sum.Sum.{Sum}
use Rattle.sql_print.specs.Printing.{separated_text, table_text, set_text, where_text, if_text, names_text, picked_text, values_text, printed}

-- between the same bytes
between : (x a b rest : List ℕ) → length (x ++ (a ++ rest)) + length b ≡ length (x ++ (b ++ rest)) + length a
between x a b rest =
    let first = length-append x (a ++ rest) in
    let second = length-append x (b ++ rest) in
    let one = length-append a rest in
    let other = length-append b rest in
    omega (arith, first, second, one, other)

pub insert_differs : (t u : TableRef) (columns : Option (List (List ℕ))) (values : List Sum)
    → length (printed (statements.Insert t columns values)) + length (table_text u) ≡ length (printed (statements.Insert u columns values)) + length (table_text t)
unfolding printed
insert_differs t u columns values = between (codes "INSERT INTO ") (table_text t) (table_text u) (names_text columns ++ values_text values)

pub update_differs : (t u : TableRef) (sets : List Set) (conds : List Cond)
    → length (printed (statements.Update t sets conds)) + length (table_text u) ≡ length (printed (statements.Update u sets conds)) + length (table_text t)
unfolding printed
update_differs t u sets conds = between (codes "UPDATE ") (table_text t) (table_text u) (codes " SET " ++ (separated_text (codes ", ") set_text sets ++ where_text conds))

pub delete_differs : (t u : TableRef) (conds : List Cond)
    → length (printed (statements.Delete t conds)) + length (table_text u) ≡ length (printed (statements.Delete u conds)) + length (table_text t)
unfolding printed
delete_differs t u conds = between (codes "DELETE FROM ") (table_text t) (table_text u) (where_text conds)

pub select_differs : (list : Picked) (t u : TableRef) (conds : List Cond) (for_update : Bool)
    → length (printed (statements.Select list t conds for_update)) + length (table_text u) ≡ length (printed (statements.Select list u conds for_update)) + length (table_text t)
unfolding printed
select_differs list t u conds for_update =
    let rest = where_text conds ++ if_text for_update (codes " FOR UPDATE") in
    let source = between (codes " FROM ") (table_text t) (table_text u) rest in
    let first = length-append (picked_text list) (codes " FROM " ++ (table_text t ++ rest)) in
    let second = length-append (picked_text list) (codes " FROM " ++ (table_text u ++ rest)) in
    let one = length-append (codes "SELECT ") (picked_text list ++ (codes " FROM " ++ (table_text t ++ rest))) in
    let other = length-append (codes "SELECT ") (picked_text list ++ (codes " FROM " ++ (table_text u ++ rest))) in
    omega (arith, source, first, second, one, other)
