-- Plays of the topic one node.
use Rattle.std.proofs.Common.{◌≡◌, ℕ, List, [], ◌∷◌, codes, refl}
use Rattle.run_rules.specs.Report.{report}
use Rattle.node_rules.specs.Data.{Place}
use Rattle.node_rules.specs.Data.stmts
use Rattle.run_rules.specs.Data.commands
use Rattle.plays.proofs.Script.{place, number_column, number_key, text_column, table, here, num, text, literal, set, equal, insert, rows, commit, node, at, played, all_lines}
use Rattle.plays.proofs.Playing.{playing}

abbrev names_1 : List (List ℕ)
names_1 = codes "SALES" ∷ []

abbrev names_2 : List (List ℕ)
names_2 = codes "A" ∷ []

abbrev names_3 : List (List ℕ)
names_3 = codes "X" ∷ []

abbrev places_1 : List Place
places_1 = place names_1 1 1 ∷ []

abbrev places_2 : List Place
places_2 = place names_2 1 1 ∷ []

abbrev places_3 : List Place
places_3 = place names_3 1 1 ∷ []

-- one node: a table, a row, COMMIT, and the row is found
insert_commit_and_query :
    report (all_lines (played 150 places_1 (
    node (codes "SALES") 1
    ∷ at 1 1 (table (codes "ORDERS") (number_key (codes "ID") ∷ number_column (codes "QTY") ∷ []))
    ∷ at 1 1 (insert (here (codes "ORDERS")) (num 1 ∷ num 10 ∷ []))
    ∷ at 1 1 commit
    ∷ at 1 1 (rows (here (codes "ORDERS")) (equal (codes "ID") (num 1) ∷ []))
    ∷ [])))
    ≡
    codes "1 ok"
    ∷ codes "2 Table created."
    ∷ codes "3 1 row created."
    ∷ codes "4 Commit complete."
    ∷ codes "5 ID|QTY"
    ∷ codes "5 1|10"
    ∷ codes "5 1 row selected."
    ∷ []
unfolding playing
insert_commit_and_query = refl

-- what a running node and a stopped node refuse
stopped_and_running_nodes :
    report (all_lines (played 234 places_2 (
    node (codes "A") 1
    ∷ commands.Start 1
    ∷ commands.Stop 1
    ∷ commands.Stop 1
    ∷ at 1 1 commit
    ∷ commands.ShowPending 1
    ∷ commands.ShowNeighbors 1
    ∷ commands.Reco 1
    ∷ commands.ShowBook
    ∷ commands.ShowNet
    ∷ commands.Start 1
    ∷ [])))
    ≡
    codes "1 ok"
    ∷ codes "2 DTX-13: node A is running"
    ∷ codes "3 ok"
    ∷ codes "4 DTX-01: node A is stopped"
    ∷ codes "5 DTX-01: node A is stopped"
    ∷ codes "6 DTX-01: node A is stopped"
    ∷ codes "7 DTX-01: node A is stopped"
    ∷ codes "8 DTX-01: node A is stopped"
    ∷ codes "9 no entries"
    ∷ codes "10 no messages in flight"
    ∷ codes "11 ok"
    ∷ []
unfolding playing
stopped_and_running_nodes = refl

-- a stop loses the row that was not committed; a stopped node refuses COMMIT
uncommitted_row_is_lost_at_stop :
    report (all_lines (played 178 places_1 (
    node (codes "SALES") 1
    ∷ at 1 1 (table (codes "ORDERS") (number_key (codes "ID") ∷ number_column (codes "QTY") ∷ []))
    ∷ at 1 1 (insert (here (codes "ORDERS")) (num 1 ∷ num 10 ∷ []))
    ∷ commands.Stop 1
    ∷ at 1 1 commit
    ∷ commands.Start 1
    ∷ at 1 1 (rows (here (codes "ORDERS")) (equal (codes "ID") (num 1) ∷ []))
    ∷ [])))
    ≡
    codes "1 ok"
    ∷ codes "2 Table created."
    ∷ codes "3 1 row created."
    ∷ codes "4 ok"
    ∷ codes "5 DTX-01: node SALES is stopped"
    ∷ codes "6 ok"
    ∷ codes "7 no rows selected"
    ∷ []
unfolding playing
uncommitted_row_is_lost_at_stop = refl

-- the undo of an INSERT is its key, that of an UPDATE has the row from before it
undo_of_live_branches_is_shown :
    report (all_lines (played 178 places_3 (
    node (codes "X") 1
    ∷ at 1 1 (table (codes "T") (number_key (codes "K") ∷ text_column (codes "V") 5 ∷ []))
    ∷ at 1 1 (insert (here (codes "T")) (num 1 ∷ text (codes "a") ∷ []))
    ∷ commands.ShowUndo 1
    ∷ at 1 1 commit
    ∷ at 1 1 (stmts.Update (here (codes "T")) (set (codes "V") (literal (text (codes "b"))) ∷ []) [])
    ∷ commands.ShowUndo 1
    ∷ [])))
    ≡
    codes "1 ok"
    ∷ codes "2 Table created."
    ∷ codes "3 1 row created."
    ∷ codes "4 1.1.1 1"
    ∷ codes "4 00000000 015401000000000000000100"
    ∷ codes "5 Commit complete."
    ∷ codes "6 1 row updated."
    ∷ codes "7 1.1.2 1"
    ∷ codes "7 00000000 0154010000000000000001010201000000000000000102000161"
    ∷ []
unfolding playing
undo_of_live_branches_is_shown = refl
