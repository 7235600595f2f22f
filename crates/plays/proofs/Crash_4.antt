-- Plays of the topic crash.
use Rattle.std.proofs.Common.{◌≡◌, [], ◌∷◌, ◌++◌, codes, refl}
use Rattle.run_rules.specs.Report.{report}
use Rattle.run_rules.specs.Data.commands
use Rattle.plays.proofs.Script.{number_column, number_key, table, link, here, over, num, equal, insert, rows, commit, node, at, crash_keep, crash_leave, hold, played, all_lines}
use Rattle.plays.proofs.Playing.{playing}
use Rattle.plays.proofs.Crash_shared.{places_1, places_2, places_3, opening_1, opening_1_lines, ending_1, ending_1_lines_2}

-- WAREHOUSE makes fewer than 5 writes in a commit, so it does not stop
any_write_warehouse_5_keep_1 :
    report (all_lines (played 430 places_1 (opening_1 ++
    crash_keep 2 5 1
    ∷ at 1 1 commit
    ∷ commands.Start 2
    ∷ ending_1)))
    ≡ opening_1_lines ++
    codes "14 ok"
    ∷ codes "15 Commit complete."
    ∷ codes "16 DTX-13: node WAREHOUSE is running"
    ∷ ending_1_lines_2
unfolding playing
any_write_warehouse_5_keep_1 = refl

-- WAREHOUSE makes fewer than 5 writes in a commit, so it does not stop
any_write_warehouse_5_leave_01 :
    report (all_lines (played 430 places_1 (opening_1 ++
    crash_leave 2 5 (1 ∷ [])
    ∷ at 1 1 commit
    ∷ commands.Start 2
    ∷ ending_1)))
    ≡ opening_1_lines ++
    codes "14 ok"
    ∷ codes "15 Commit complete."
    ∷ codes "16 DTX-13: node WAREHOUSE is running"
    ∷ ending_1_lines_2
unfolding playing
any_write_warehouse_5_leave_01 = refl

-- WAREHOUSE makes fewer than 6 writes in a commit, so it does not stop
any_write_warehouse_6_keep_0 :
    report (all_lines (played 430 places_1 (opening_1 ++
    crash_keep 2 6 0
    ∷ at 1 1 commit
    ∷ commands.Start 2
    ∷ ending_1)))
    ≡ opening_1_lines ++
    codes "14 ok"
    ∷ codes "15 Commit complete."
    ∷ codes "16 DTX-13: node WAREHOUSE is running"
    ∷ ending_1_lines_2
unfolding playing
any_write_warehouse_6_keep_0 = refl

-- WAREHOUSE makes fewer than 6 writes in a commit, so it does not stop
any_write_warehouse_6_keep_1 :
    report (all_lines (played 430 places_1 (opening_1 ++
    crash_keep 2 6 1
    ∷ at 1 1 commit
    ∷ commands.Start 2
    ∷ ending_1)))
    ≡ opening_1_lines ++
    codes "14 ok"
    ∷ codes "15 Commit complete."
    ∷ codes "16 DTX-13: node WAREHOUSE is running"
    ∷ ending_1_lines_2
unfolding playing
any_write_warehouse_6_keep_1 = refl

-- WAREHOUSE makes fewer than 6 writes in a commit, so it does not stop
any_write_warehouse_6_leave_01 :
    report (all_lines (played 430 places_1 (opening_1 ++
    crash_leave 2 6 (1 ∷ [])
    ∷ at 1 1 commit
    ∷ commands.Start 2
    ∷ ending_1)))
    ≡ opening_1_lines ++
    codes "14 ok"
    ∷ codes "15 Commit complete."
    ∷ codes "16 DTX-13: node WAREHOUSE is running"
    ∷ ending_1_lines_2
unfolding playing
any_write_warehouse_6_leave_01 = refl

-- WAREHOUSE makes fewer than 7 writes in a commit, so it does not stop
any_write_warehouse_7_keep_0 :
    report (all_lines (played 430 places_1 (opening_1 ++
    crash_keep 2 7 0
    ∷ at 1 1 commit
    ∷ commands.Start 2
    ∷ ending_1)))
    ≡ opening_1_lines ++
    codes "14 ok"
    ∷ codes "15 Commit complete."
    ∷ codes "16 DTX-13: node WAREHOUSE is running"
    ∷ ending_1_lines_2
unfolding playing
any_write_warehouse_7_keep_0 = refl

-- WAREHOUSE makes fewer than 7 writes in a commit, so it does not stop
any_write_warehouse_7_keep_1 :
    report (all_lines (played 430 places_1 (opening_1 ++
    crash_keep 2 7 1
    ∷ at 1 1 commit
    ∷ commands.Start 2
    ∷ ending_1)))
    ≡ opening_1_lines ++
    codes "14 ok"
    ∷ codes "15 Commit complete."
    ∷ codes "16 DTX-13: node WAREHOUSE is running"
    ∷ ending_1_lines_2
unfolding playing
any_write_warehouse_7_keep_1 = refl

-- WAREHOUSE makes fewer than 7 writes in a commit, so it does not stop
any_write_warehouse_7_leave_01 :
    report (all_lines (played 430 places_1 (opening_1 ++
    crash_leave 2 7 (1 ∷ [])
    ∷ at 1 1 commit
    ∷ commands.Start 2
    ∷ ending_1)))
    ≡ opening_1_lines ++
    codes "14 ok"
    ∷ codes "15 Commit complete."
    ∷ codes "16 DTX-13: node WAREHOUSE is running"
    ∷ ending_1_lines_2
unfolding playing
any_write_warehouse_7_leave_01 = refl

-- WAREHOUSE makes fewer than 8 writes in a commit, so it does not stop
any_write_warehouse_8_keep_0 :
    report (all_lines (played 430 places_1 (opening_1 ++
    crash_keep 2 8 0
    ∷ at 1 1 commit
    ∷ commands.Start 2
    ∷ ending_1)))
    ≡ opening_1_lines ++
    codes "14 ok"
    ∷ codes "15 Commit complete."
    ∷ codes "16 DTX-13: node WAREHOUSE is running"
    ∷ ending_1_lines_2
unfolding playing
any_write_warehouse_8_keep_0 = refl

-- WAREHOUSE makes fewer than 8 writes in a commit, so it does not stop
any_write_warehouse_8_keep_1 :
    report (all_lines (played 430 places_1 (opening_1 ++
    crash_keep 2 8 1
    ∷ at 1 1 commit
    ∷ commands.Start 2
    ∷ ending_1)))
    ≡ opening_1_lines ++
    codes "14 ok"
    ∷ codes "15 Commit complete."
    ∷ codes "16 DTX-13: node WAREHOUSE is running"
    ∷ ending_1_lines_2
unfolding playing
any_write_warehouse_8_keep_1 = refl

-- WAREHOUSE makes fewer than 8 writes in a commit, so it does not stop
any_write_warehouse_8_leave_01 :
    report (all_lines (played 430 places_1 (opening_1 ++
    crash_leave 2 8 (1 ∷ [])
    ∷ at 1 1 commit
    ∷ commands.Start 2
    ∷ ending_1)))
    ≡ opening_1_lines ++
    codes "14 ok"
    ∷ codes "15 Commit complete."
    ∷ codes "16 DTX-13: node WAREHOUSE is running"
    ∷ ending_1_lines_2
unfolding playing
any_write_warehouse_8_leave_01 = refl

-- disk call 1 of a commit at one node fails: the row is not there after the restart
disk_call_1_of_a_commit_fails :
    report (all_lines (played 178 places_2 (
    node (codes "SALES") 1
    ∷ at 1 1 (table (codes "ORDERS") (number_key (codes "ID") ∷ number_column (codes "QTY") ∷ []))
    ∷ at 1 1 (insert (here (codes "ORDERS")) (num 1 ∷ num 10 ∷ []))
    ∷ commands.Fault 1 1
    ∷ at 1 1 commit
    ∷ commands.Start 1
    ∷ at 1 1 (rows (here (codes "ORDERS")) (equal (codes "ID") (num 1) ∷ []))
    ∷ [])))
    ≡
    codes "1 ok"
    ∷ codes "2 Table created."
    ∷ codes "3 1 row created."
    ∷ codes "4 ok"
    ∷ codes "5 DTX-01: node SALES is stopped"
    ∷ codes "5 node SALES stopped"
    ∷ codes "6 ok"
    ∷ codes "7 no rows selected"
    ∷ []
unfolding playing
disk_call_1_of_a_commit_fails = refl

-- disk call 1 of the prepared record fails: the node stops, and the branch is not prepared
disk_call_1_of_a_prepare_fails :
    report (all_lines (played 318 places_1 (opening_1 ++
    commands.Fault 3 1
    ∷ at 1 1 commit
    ∷ commands.Start 3
    ∷ commands.ShowPending 3
    ∷ [])))
    ≡ opening_1_lines ++
    codes "14 ok"
    ∷ codes "15 ORA-02050: transaction 1.1.1 rolled back, some remote DBs may be in-doubt"
    ∷ codes "15 node HQ stopped"
    ∷ codes "16 ok"
    ∷ codes "17 no rows selected"
    ∷ []
unfolding playing
disk_call_1_of_a_prepare_fails = refl

-- disk call 2 of the prepared record fails: the node stops, and the branch is not prepared
disk_call_2_of_a_prepare_fails :
    report (all_lines (played 318 places_1 (opening_1 ++
    commands.Fault 3 2
    ∷ at 1 1 commit
    ∷ commands.Start 3
    ∷ commands.ShowPending 3
    ∷ [])))
    ≡ opening_1_lines ++
    codes "14 ok"
    ∷ codes "15 ORA-02050: transaction 1.1.1 rolled back, some remote DBs may be in-doubt"
    ∷ codes "15 node HQ stopped"
    ∷ codes "16 ok"
    ∷ codes "17 no rows selected"
    ∷ []
unfolding playing
disk_call_2_of_a_prepare_fails = refl

-- disk call 3 of the prepared record fails: the node stops, and the branch is not prepared
disk_call_3_of_a_prepare_fails :
    report (all_lines (played 318 places_1 (opening_1 ++
    commands.Fault 3 3
    ∷ at 1 1 commit
    ∷ commands.Start 3
    ∷ commands.ShowPending 3
    ∷ [])))
    ≡ opening_1_lines ++
    codes "14 ok"
    ∷ codes "15 ORA-02050: transaction 1.1.1 rolled back, some remote DBs may be in-doubt"
    ∷ codes "15 node HQ stopped"
    ∷ codes "16 ok"
    ∷ codes "17 no rows selected"
    ∷ []
unfolding playing
disk_call_3_of_a_prepare_fails = refl

-- disk call 4 of a commit at one node fails: the row is there after the restart
disk_call_4_of_a_commit_fails :
    report (all_lines (played 178 places_2 (
    node (codes "SALES") 1
    ∷ at 1 1 (table (codes "ORDERS") (number_key (codes "ID") ∷ number_column (codes "QTY") ∷ []))
    ∷ at 1 1 (insert (here (codes "ORDERS")) (num 1 ∷ num 10 ∷ []))
    ∷ commands.Fault 1 4
    ∷ at 1 1 commit
    ∷ commands.Start 1
    ∷ at 1 1 (rows (here (codes "ORDERS")) (equal (codes "ID") (num 1) ∷ []))
    ∷ [])))
    ≡
    codes "1 ok"
    ∷ codes "2 Table created."
    ∷ codes "3 1 row created."
    ∷ codes "4 ok"
    ∷ codes "5 DTX-01: node SALES is stopped"
    ∷ codes "5 node SALES stopped"
    ∷ codes "6 ok"
    ∷ codes "7 ID|QTY"
    ∷ codes "7 1|10"
    ∷ codes "7 1 row selected."
    ∷ []
unfolding playing
disk_call_4_of_a_commit_fails = refl

-- disk call 4 of the prepared record fails: the node stops, and the branch is prepared
disk_call_4_of_a_prepare_fails :
    report (all_lines (played 318 places_1 (opening_1 ++
    commands.Fault 3 4
    ∷ at 1 1 commit
    ∷ commands.Start 3
    ∷ commands.ShowPending 3
    ∷ [])))
    ≡ opening_1_lines ++
    codes "14 ok"
    ∷ codes "15 ORA-02050: transaction 1.1.1 rolled back, some remote DBs may be in-doubt"
    ∷ codes "15 node HQ stopped"
    ∷ codes "16 ok"
    ∷ codes "17 LOCAL_TRAN_ID|GLOBAL_TRAN_ID|STATE|MIXED|ADVICE|TRAN_COMMENT|COMMIT#"
    ∷ codes "17 1.65.1|SALES.00000001.1.1.1|prepared|no|||"
    ∷ codes "17 1 row selected."
    ∷ []
unfolding playing
disk_call_4_of_a_prepare_fails = refl

-- the answers of earlier calls stand before the nodes that stopped
earlier_calls_are_answered_before_the_stop_is_told :
    report (all_lines (played 164 places_3 (
    node (codes "A") 1
    ∷ at 1 1 (link (codes "L") (codes "A"))
    ∷ hold
    ∷ at 1 1 (rows (over (codes "T") (codes "L")) [])
    ∷ crash_keep 1 1 0
    ∷ at 1 2 (table (codes "T") (number_key (codes "K") ∷ []))
    ∷ [])))
    ≡
    codes "1 ok"
    ∷ codes "2 Database link created."
    ∷ codes "3 ok"
    ∷ codes "4 waiting"
    ∷ codes "5 ok"
    ∷ codes "6 DTX-01: node A is stopped"
    ∷ codes "4 DTX-01: node A is stopped"
    ∷ codes "6 node A stopped"
    ∷ []
unfolding playing
earlier_calls_are_answered_before_the_stop_is_told = refl
