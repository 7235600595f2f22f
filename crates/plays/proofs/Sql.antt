-- Plays of the topic sql.
use Rattle.std.proofs.Common.{◌≡◌, ℕ, true, false, List, [], ◌∷◌, Some, None, codes, refl}
use Rattle.run_rules.specs.Report.{report}
use Rattle.node_rules.specs.Data.{Place}
use Rattle.node_rules.specs.Data.values
use Rattle.node_rules.specs.Data.terms
use Rattle.node_rules.specs.Data.picks
use Rattle.node_rules.specs.Data.stmts
use Rattle.run_rules.specs.Data.commands
use Rattle.plays.proofs.Script.{place, place_within, column, number_key, text_column, table, here, num, text, repeated, literal, step, sum, set, equal, insert, rows, commit, node, at, no_statement, played, all_lines}
use Rattle.plays.proofs.Playing.{playing}

abbrev names_1 : List (List ℕ)
names_1 = codes "X" ∷ []

abbrev places_1 : List Place
places_1 = place names_1 1 1 ∷ []

abbrev places_2 : List Place
places_2 = place_within names_1 1 1 4 1 ∷ []

-- the refusals of one table's statements; a refused CREATE has committed
refusals_at_one_table :
    report (all_lines (played 262 places_1 (
    node (codes "X") 1
    ∷ at 1 1 (table (codes "T") (number_key (codes "K") ∷ column (codes "V") (Some 3) true false ∷ []))
    ∷ at 1 1 (insert (here (codes "T")) (num 1 ∷ text (codes "abc") ∷ []))
    ∷ at 1 1 (insert (here (codes "T")) (num 1 ∷ text (codes "d") ∷ []))
    ∷ at 1 1 (insert (here (codes "T")) (num 2 ∷ values.Null ∷ []))
    ∷ at 1 1 (insert (here (codes "T")) (num 2 ∷ text (codes "abcd") ∷ []))
    ∷ at 1 1 (insert (here (codes "T")) (num 2 ∷ []))
    ∷ at 1 1 (stmts.Select (picks.Columns (codes "Z" ∷ [])) (here (codes "T")) [] false)
    ∷ at 1 1 (stmts.Update (here (codes "T")) (set (codes "V") (literal values.Null) ∷ []) [])
    ∷ no_statement 1 1
    ∷ at 1 1 (table (codes "T") (number_key (codes "K") ∷ []))
    ∷ at 1 1 stmts.Rollback
    ∷ at 1 1 (rows (here (codes "T")) [])
    ∷ [])))
    ≡
    codes "1 ok"
    ∷ codes "2 Table created."
    ∷ codes "3 1 row created."
    ∷ codes "4 ORA-00001: unique constraint (APP.T_PK) violated"
    ∷ codes "5 ORA-01400: cannot insert NULL into (\"APP\".\"T\".\"V\")"
    ∷ codes "6 ORA-12899: value too large for column \"APP\".\"T\".\"V\" (actual: 4, maximum: 3)"
    ∷ codes "7 ORA-00947: not enough values"
    ∷ codes "8 ORA-00904: \"Z\": invalid identifier"
    ∷ codes "9 ORA-01407: cannot update (\"APP\".\"T\".\"V\") to NULL"
    ∷ codes "10 ORA-00900: invalid SQL statement"
    ∷ codes "11 ORA-00955: name is already used by an existing object"
    ∷ codes "12 Rollback complete."
    ∷ codes "13 K|V"
    ∷ codes "13 1|'abc'"
    ∷ codes "13 1 row selected."
    ∷ []
unfolding playing
refusals_at_one_table = refl

-- the third update needs an undo extent that is not there
undo_space_runs_out :
    report (all_lines (played 220 places_2 (
    commands.Node (codes "X") 1 4 1
    ∷ at 1 1 (table (codes "T") (number_key (codes "K") ∷ text_column (codes "V") 1500 ∷ []))
    ∷ at 1 1 (insert (here (codes "T")) (num 1 ∷ text (repeated 1500 (codes "x")) ∷ []))
    ∷ at 1 1 (insert (here (codes "T")) (num 2 ∷ text (repeated 1500 (codes "x")) ∷ []))
    ∷ at 1 1 (insert (here (codes "T")) (num 3 ∷ text (repeated 1500 (codes "x")) ∷ []))
    ∷ at 1 1 commit
    ∷ at 1 1 (stmts.Update (here (codes "T")) (set (codes "V") (literal (text (codes "y"))) ∷ []) (equal (codes "K") (num 1) ∷ []))
    ∷ at 1 1 (stmts.Update (here (codes "T")) (set (codes "V") (literal (text (codes "y"))) ∷ []) (equal (codes "K") (num 2) ∷ []))
    ∷ at 1 1 (stmts.Update (here (codes "T")) (set (codes "V") (literal (text (codes "y"))) ∷ []) (equal (codes "K") (num 3) ∷ []))
    ∷ at 1 1 stmts.Rollback
    ∷ [])))
    ≡
    codes "1 ok"
    ∷ codes "2 Table created."
    ∷ codes "3 1 row created."
    ∷ codes "4 1 row created."
    ∷ codes "5 1 row created."
    ∷ codes "6 Commit complete."
    ∷ codes "7 1 row updated."
    ∷ codes "8 1 row updated."
    ∷ codes "9 ORA-30036: unable to extend segment by 1 in undo tablespace 'UNDOTBS1'"
    ∷ codes "10 Rollback complete."
    ∷ []
unfolding playing
undo_space_runs_out = refl

-- too many values, an unknown table, the key column, a wrong type, a sum out of range
values_names_types_and_range :
    report (all_lines (played 192 places_1 (
    node (codes "X") 1
    ∷ at 1 1 (table (codes "T") (number_key (codes "K") ∷ text_column (codes "V") 3 ∷ []))
    ∷ at 1 1 (insert (here (codes "T")) (num 1 ∷ text (codes "a") ∷ num 2 ∷ []))
    ∷ at 1 1 (rows (here (codes "U")) [])
    ∷ at 1 1 (stmts.Update (here (codes "T")) (set (codes "K") (literal (num 2)) ∷ []) [])
    ∷ at 1 1 (insert (here (codes "T")) (text (codes "a") ∷ text (codes "a") ∷ []))
    ∷ at 1 1 (stmts.Insert (here (codes "T")) None (sum (terms.Literal (num 9223372036854775807)) (step false (terms.Literal (num 1)) ∷ []) ∷ literal (text (codes "a")) ∷ []))
    ∷ at 1 1 (rows (here (codes "T")) [])
    ∷ [])))
    ≡
    codes "1 ok"
    ∷ codes "2 Table created."
    ∷ codes "3 ORA-00913: too many values"
    ∷ codes "4 ORA-00942: table or view does not exist"
    ∷ codes "5 DTX-15: key column cannot be changed"
    ∷ codes "6 DTX-10: value of the wrong type"
    ∷ codes "7 DTX-09: number out of range"
    ∷ codes "8 no rows selected"
    ∷ []
unfolding playing
values_names_types_and_range = refl
