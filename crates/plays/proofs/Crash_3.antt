-- Plays of the topic crash.
use Rattle.std.proofs.Common.{◌≡◌, [], ◌∷◌, ◌++◌, codes, refl}
use Rattle.run_rules.specs.Report.{report}
use Rattle.run_rules.specs.Data.commands
use Rattle.plays.proofs.Script.{commit, at, crash_keep, crash_leave, played, all_lines}
use Rattle.plays.proofs.Playing.{playing}
use Rattle.plays.proofs.Crash_shared.{places_1, opening_1, opening_1_lines, ending_1, ending_1_lines_1, ending_1_lines_2}

-- SALES stops in write 6 of a commit, which keeps 1 of its bytes: all rows are those after
any_write_sales_6_keep_1 :
    report (all_lines (played 430 places_1 (opening_1 ++
    crash_keep 1 6 1
    ∷ at 1 1 commit
    ∷ commands.Start 1
    ∷ ending_1)))
    ≡ opening_1_lines ++
    codes "14 ok"
    ∷ codes "15 DTX-01: node SALES is stopped"
    ∷ codes "15 node SALES stopped"
    ∷ codes "16 ok"
    ∷ ending_1_lines_2
unfolding playing
any_write_sales_6_keep_1 = refl

-- SALES stops in write 6 of a commit, which leaves '01': all rows are those after
any_write_sales_6_leave_01 :
    report (all_lines (played 430 places_1 (opening_1 ++
    crash_leave 1 6 (1 ∷ [])
    ∷ at 1 1 commit
    ∷ commands.Start 1
    ∷ ending_1)))
    ≡ opening_1_lines ++
    codes "14 ok"
    ∷ codes "15 DTX-01: node SALES is stopped"
    ∷ codes "15 node SALES stopped"
    ∷ codes "16 ok"
    ∷ ending_1_lines_2
unfolding playing
any_write_sales_6_leave_01 = refl

-- SALES makes fewer than 7 writes in a commit, so it does not stop
any_write_sales_7_keep_0 :
    report (all_lines (played 430 places_1 (opening_1 ++
    crash_keep 1 7 0
    ∷ at 1 1 commit
    ∷ commands.Start 1
    ∷ ending_1)))
    ≡ opening_1_lines ++
    codes "14 ok"
    ∷ codes "15 Commit complete."
    ∷ codes "16 DTX-13: node SALES is running"
    ∷ ending_1_lines_2
unfolding playing
any_write_sales_7_keep_0 = refl

-- SALES makes fewer than 7 writes in a commit, so it does not stop
any_write_sales_7_keep_1 :
    report (all_lines (played 430 places_1 (opening_1 ++
    crash_keep 1 7 1
    ∷ at 1 1 commit
    ∷ commands.Start 1
    ∷ ending_1)))
    ≡ opening_1_lines ++
    codes "14 ok"
    ∷ codes "15 Commit complete."
    ∷ codes "16 DTX-13: node SALES is running"
    ∷ ending_1_lines_2
unfolding playing
any_write_sales_7_keep_1 = refl

-- SALES makes fewer than 7 writes in a commit, so it does not stop
any_write_sales_7_leave_01 :
    report (all_lines (played 430 places_1 (opening_1 ++
    crash_leave 1 7 (1 ∷ [])
    ∷ at 1 1 commit
    ∷ commands.Start 1
    ∷ ending_1)))
    ≡ opening_1_lines ++
    codes "14 ok"
    ∷ codes "15 Commit complete."
    ∷ codes "16 DTX-13: node SALES is running"
    ∷ ending_1_lines_2
unfolding playing
any_write_sales_7_leave_01 = refl

-- SALES makes fewer than 8 writes in a commit, so it does not stop
any_write_sales_8_keep_0 :
    report (all_lines (played 430 places_1 (opening_1 ++
    crash_keep 1 8 0
    ∷ at 1 1 commit
    ∷ commands.Start 1
    ∷ ending_1)))
    ≡ opening_1_lines ++
    codes "14 ok"
    ∷ codes "15 Commit complete."
    ∷ codes "16 DTX-13: node SALES is running"
    ∷ ending_1_lines_2
unfolding playing
any_write_sales_8_keep_0 = refl

-- SALES makes fewer than 8 writes in a commit, so it does not stop
any_write_sales_8_keep_1 :
    report (all_lines (played 430 places_1 (opening_1 ++
    crash_keep 1 8 1
    ∷ at 1 1 commit
    ∷ commands.Start 1
    ∷ ending_1)))
    ≡ opening_1_lines ++
    codes "14 ok"
    ∷ codes "15 Commit complete."
    ∷ codes "16 DTX-13: node SALES is running"
    ∷ ending_1_lines_2
unfolding playing
any_write_sales_8_keep_1 = refl

-- SALES makes fewer than 8 writes in a commit, so it does not stop
any_write_sales_8_leave_01 :
    report (all_lines (played 430 places_1 (opening_1 ++
    crash_leave 1 8 (1 ∷ [])
    ∷ at 1 1 commit
    ∷ commands.Start 1
    ∷ ending_1)))
    ≡ opening_1_lines ++
    codes "14 ok"
    ∷ codes "15 Commit complete."
    ∷ codes "16 DTX-13: node SALES is running"
    ∷ ending_1_lines_2
unfolding playing
any_write_sales_8_leave_01 = refl

-- WAREHOUSE stops in write 1 of a commit, which keeps 0 of its bytes: all rows are those before
any_write_warehouse_1_keep_0 :
    report (all_lines (played 430 places_1 (opening_1 ++
    crash_keep 2 1 0
    ∷ at 1 1 commit
    ∷ commands.Start 2
    ∷ ending_1)))
    ≡ opening_1_lines ++
    codes "14 ok"
    ∷ codes "15 ORA-02054: transaction 1.1.1 in-doubt"
    ∷ codes "15 node WAREHOUSE stopped"
    ∷ codes "16 ok"
    ∷ ending_1_lines_1
unfolding playing
any_write_warehouse_1_keep_0 = refl

-- WAREHOUSE stops in write 1 of a commit, which keeps 1 of its bytes: all rows are those before
any_write_warehouse_1_keep_1 :
    report (all_lines (played 430 places_1 (opening_1 ++
    crash_keep 2 1 1
    ∷ at 1 1 commit
    ∷ commands.Start 2
    ∷ ending_1)))
    ≡ opening_1_lines ++
    codes "14 ok"
    ∷ codes "15 ORA-02054: transaction 1.1.1 in-doubt"
    ∷ codes "15 node WAREHOUSE stopped"
    ∷ codes "16 ok"
    ∷ ending_1_lines_1
unfolding playing
any_write_warehouse_1_keep_1 = refl

-- WAREHOUSE stops in write 1 of a commit, which leaves '01': all rows are those before
any_write_warehouse_1_leave_01 :
    report (all_lines (played 430 places_1 (opening_1 ++
    crash_leave 2 1 (1 ∷ [])
    ∷ at 1 1 commit
    ∷ commands.Start 2
    ∷ ending_1)))
    ≡ opening_1_lines ++
    codes "14 ok"
    ∷ codes "15 ORA-02054: transaction 1.1.1 in-doubt"
    ∷ codes "15 node WAREHOUSE stopped"
    ∷ codes "16 ok"
    ∷ ending_1_lines_1
unfolding playing
any_write_warehouse_1_leave_01 = refl

-- WAREHOUSE stops in write 2 of a commit, which keeps 0 of its bytes: all rows are those before
any_write_warehouse_2_keep_0 :
    report (all_lines (played 430 places_1 (opening_1 ++
    crash_keep 2 2 0
    ∷ at 1 1 commit
    ∷ commands.Start 2
    ∷ ending_1)))
    ≡ opening_1_lines ++
    codes "14 ok"
    ∷ codes "15 ORA-02054: transaction 1.1.1 in-doubt"
    ∷ codes "15 node WAREHOUSE stopped"
    ∷ codes "16 ok"
    ∷ ending_1_lines_1
unfolding playing
any_write_warehouse_2_keep_0 = refl

-- WAREHOUSE stops in write 2 of a commit, which keeps 1 of its bytes: all rows are those after
any_write_warehouse_2_keep_1 :
    report (all_lines (played 430 places_1 (opening_1 ++
    crash_keep 2 2 1
    ∷ at 1 1 commit
    ∷ commands.Start 2
    ∷ ending_1)))
    ≡ opening_1_lines ++
    codes "14 ok"
    ∷ codes "15 ORA-02054: transaction 1.1.1 in-doubt"
    ∷ codes "15 node WAREHOUSE stopped"
    ∷ codes "16 ok"
    ∷ ending_1_lines_2
unfolding playing
any_write_warehouse_2_keep_1 = refl

-- WAREHOUSE stops in write 2 of a commit, which leaves '01': all rows are those after
any_write_warehouse_2_leave_01 :
    report (all_lines (played 430 places_1 (opening_1 ++
    crash_leave 2 2 (1 ∷ [])
    ∷ at 1 1 commit
    ∷ commands.Start 2
    ∷ ending_1)))
    ≡ opening_1_lines ++
    codes "14 ok"
    ∷ codes "15 ORA-02054: transaction 1.1.1 in-doubt"
    ∷ codes "15 node WAREHOUSE stopped"
    ∷ codes "16 ok"
    ∷ ending_1_lines_2
unfolding playing
any_write_warehouse_2_leave_01 = refl

-- WAREHOUSE stops in write 3 of a commit, which keeps 0 of its bytes: all rows are those after
any_write_warehouse_3_keep_0 :
    report (all_lines (played 430 places_1 (opening_1 ++
    crash_keep 2 3 0
    ∷ at 1 1 commit
    ∷ commands.Start 2
    ∷ ending_1)))
    ≡ opening_1_lines ++
    codes "14 ok"
    ∷ codes "15 ORA-02053: transaction 1.1.1 committed, some remote DBs may be in-doubt"
    ∷ codes "15 node WAREHOUSE stopped"
    ∷ codes "16 ok"
    ∷ ending_1_lines_2
unfolding playing
any_write_warehouse_3_keep_0 = refl

-- WAREHOUSE stops in write 3 of a commit, which keeps 1 of its bytes: all rows are those after
any_write_warehouse_3_keep_1 :
    report (all_lines (played 430 places_1 (opening_1 ++
    crash_keep 2 3 1
    ∷ at 1 1 commit
    ∷ commands.Start 2
    ∷ ending_1)))
    ≡ opening_1_lines ++
    codes "14 ok"
    ∷ codes "15 ORA-02053: transaction 1.1.1 committed, some remote DBs may be in-doubt"
    ∷ codes "15 node WAREHOUSE stopped"
    ∷ codes "16 ok"
    ∷ ending_1_lines_2
unfolding playing
any_write_warehouse_3_keep_1 = refl

-- WAREHOUSE stops in write 3 of a commit, which leaves '01': all rows are those after
any_write_warehouse_3_leave_01 :
    report (all_lines (played 430 places_1 (opening_1 ++
    crash_leave 2 3 (1 ∷ [])
    ∷ at 1 1 commit
    ∷ commands.Start 2
    ∷ ending_1)))
    ≡ opening_1_lines ++
    codes "14 ok"
    ∷ codes "15 ORA-02053: transaction 1.1.1 committed, some remote DBs may be in-doubt"
    ∷ codes "15 node WAREHOUSE stopped"
    ∷ codes "16 ok"
    ∷ ending_1_lines_2
unfolding playing
any_write_warehouse_3_leave_01 = refl

-- WAREHOUSE stops in write 4 of a commit, which keeps 0 of its bytes: all rows are those after
any_write_warehouse_4_keep_0 :
    report (all_lines (played 430 places_1 (opening_1 ++
    crash_keep 2 4 0
    ∷ at 1 1 commit
    ∷ commands.Start 2
    ∷ ending_1)))
    ≡ opening_1_lines ++
    codes "14 ok"
    ∷ codes "15 ORA-02053: transaction 1.1.1 committed, some remote DBs may be in-doubt"
    ∷ codes "15 node WAREHOUSE stopped"
    ∷ codes "16 ok"
    ∷ ending_1_lines_2
unfolding playing
any_write_warehouse_4_keep_0 = refl

-- WAREHOUSE stops in write 4 of a commit, which keeps 1 of its bytes: all rows are those after
any_write_warehouse_4_keep_1 :
    report (all_lines (played 430 places_1 (opening_1 ++
    crash_keep 2 4 1
    ∷ at 1 1 commit
    ∷ commands.Start 2
    ∷ ending_1)))
    ≡ opening_1_lines ++
    codes "14 ok"
    ∷ codes "15 ORA-02053: transaction 1.1.1 committed, some remote DBs may be in-doubt"
    ∷ codes "15 node WAREHOUSE stopped"
    ∷ codes "16 ok"
    ∷ ending_1_lines_2
unfolding playing
any_write_warehouse_4_keep_1 = refl

-- WAREHOUSE stops in write 4 of a commit, which leaves '01': all rows are those after
any_write_warehouse_4_leave_01 :
    report (all_lines (played 430 places_1 (opening_1 ++
    crash_leave 2 4 (1 ∷ [])
    ∷ at 1 1 commit
    ∷ commands.Start 2
    ∷ ending_1)))
    ≡ opening_1_lines ++
    codes "14 ok"
    ∷ codes "15 ORA-02053: transaction 1.1.1 committed, some remote DBs may be in-doubt"
    ∷ codes "15 node WAREHOUSE stopped"
    ∷ codes "16 ok"
    ∷ ending_1_lines_2
unfolding playing
any_write_warehouse_4_leave_01 = refl

-- WAREHOUSE makes fewer than 5 writes in a commit, so it does not stop
any_write_warehouse_5_keep_0 :
    report (all_lines (played 430 places_1 (opening_1 ++
    crash_keep 2 5 0
    ∷ at 1 1 commit
    ∷ commands.Start 2
    ∷ ending_1)))
    ≡ opening_1_lines ++
    codes "14 ok"
    ∷ codes "15 Commit complete."
    ∷ codes "16 DTX-13: node WAREHOUSE is running"
    ∷ ending_1_lines_2
unfolding playing
any_write_warehouse_5_keep_0 = refl
