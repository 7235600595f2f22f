-- Plays of the topic crash.
use Rattle.std.proofs.Common.{◌≡◌, [], ◌∷◌, ◌++◌, codes, refl}
use Rattle.run_rules.specs.Report.{report}
use Rattle.run_rules.specs.Data.commands
use Rattle.plays.proofs.Script.{commit, at, crash_keep, crash_leave, played, all_lines}
use Rattle.plays.proofs.Playing.{playing}
use Rattle.plays.proofs.Crash_shared.{places_1, opening_1, opening_1_lines, ending_1, ending_1_lines_1, ending_1_lines_2}

-- HQ makes fewer than 7 writes in a commit, so it does not stop
any_write_hq_7_leave_01 :
    report (all_lines (played 430 places_1 (opening_1 ++
    crash_leave 3 7 (1 ∷ [])
    ∷ at 1 1 commit
    ∷ commands.Start 3
    ∷ ending_1)))
    ≡ opening_1_lines ++
    codes "14 ok"
    ∷ codes "15 Commit complete."
    ∷ codes "16 DTX-13: node HQ is running"
    ∷ ending_1_lines_2
unfolding playing
any_write_hq_7_leave_01 = refl

-- HQ makes fewer than 8 writes in a commit, so it does not stop
any_write_hq_8_keep_0 :
    report (all_lines (played 430 places_1 (opening_1 ++
    crash_keep 3 8 0
    ∷ at 1 1 commit
    ∷ commands.Start 3
    ∷ ending_1)))
    ≡ opening_1_lines ++
    codes "14 ok"
    ∷ codes "15 Commit complete."
    ∷ codes "16 DTX-13: node HQ is running"
    ∷ ending_1_lines_2
unfolding playing
any_write_hq_8_keep_0 = refl

-- HQ makes fewer than 8 writes in a commit, so it does not stop
any_write_hq_8_keep_1 :
    report (all_lines (played 430 places_1 (opening_1 ++
    crash_keep 3 8 1
    ∷ at 1 1 commit
    ∷ commands.Start 3
    ∷ ending_1)))
    ≡ opening_1_lines ++
    codes "14 ok"
    ∷ codes "15 Commit complete."
    ∷ codes "16 DTX-13: node HQ is running"
    ∷ ending_1_lines_2
unfolding playing
any_write_hq_8_keep_1 = refl

-- HQ makes fewer than 8 writes in a commit, so it does not stop
any_write_hq_8_leave_01 :
    report (all_lines (played 430 places_1 (opening_1 ++
    crash_leave 3 8 (1 ∷ [])
    ∷ at 1 1 commit
    ∷ commands.Start 3
    ∷ ending_1)))
    ≡ opening_1_lines ++
    codes "14 ok"
    ∷ codes "15 Commit complete."
    ∷ codes "16 DTX-13: node HQ is running"
    ∷ ending_1_lines_2
unfolding playing
any_write_hq_8_leave_01 = refl

-- SALES stops in write 1 of a commit, which keeps 0 of its bytes: all rows are those before
any_write_sales_1_keep_0 :
    report (all_lines (played 430 places_1 (opening_1 ++
    crash_keep 1 1 0
    ∷ at 1 1 commit
    ∷ commands.Start 1
    ∷ ending_1)))
    ≡ opening_1_lines ++
    codes "14 ok"
    ∷ codes "15 DTX-01: node SALES is stopped"
    ∷ codes "15 node SALES stopped"
    ∷ codes "16 ok"
    ∷ ending_1_lines_1
unfolding playing
any_write_sales_1_keep_0 = refl

-- SALES stops in write 1 of a commit, which keeps 1 of its bytes: all rows are those before
any_write_sales_1_keep_1 :
    report (all_lines (played 430 places_1 (opening_1 ++
    crash_keep 1 1 1
    ∷ at 1 1 commit
    ∷ commands.Start 1
    ∷ ending_1)))
    ≡ opening_1_lines ++
    codes "14 ok"
    ∷ codes "15 DTX-01: node SALES is stopped"
    ∷ codes "15 node SALES stopped"
    ∷ codes "16 ok"
    ∷ ending_1_lines_1
unfolding playing
any_write_sales_1_keep_1 = refl

-- SALES stops in write 1 of a commit, which leaves '01': all rows are those before
any_write_sales_1_leave_01 :
    report (all_lines (played 430 places_1 (opening_1 ++
    crash_leave 1 1 (1 ∷ [])
    ∷ at 1 1 commit
    ∷ commands.Start 1
    ∷ ending_1)))
    ≡ opening_1_lines ++
    codes "14 ok"
    ∷ codes "15 DTX-01: node SALES is stopped"
    ∷ codes "15 node SALES stopped"
    ∷ codes "16 ok"
    ∷ ending_1_lines_1
unfolding playing
any_write_sales_1_leave_01 = refl

-- SALES stops in write 2 of a commit, which keeps 0 of its bytes: all rows are those before
any_write_sales_2_keep_0 :
    report (all_lines (played 430 places_1 (opening_1 ++
    crash_keep 1 2 0
    ∷ at 1 1 commit
    ∷ commands.Start 1
    ∷ ending_1)))
    ≡ opening_1_lines ++
    codes "14 ok"
    ∷ codes "15 DTX-01: node SALES is stopped"
    ∷ codes "15 node SALES stopped"
    ∷ codes "16 ok"
    ∷ ending_1_lines_1
unfolding playing
any_write_sales_2_keep_0 = refl

-- SALES stops in write 2 of a commit, which keeps 1 of its bytes: all rows are those before
any_write_sales_2_keep_1 :
    report (all_lines (played 430 places_1 (opening_1 ++
    crash_keep 1 2 1
    ∷ at 1 1 commit
    ∷ commands.Start 1
    ∷ ending_1)))
    ≡ opening_1_lines ++
    codes "14 ok"
    ∷ codes "15 DTX-01: node SALES is stopped"
    ∷ codes "15 node SALES stopped"
    ∷ codes "16 ok"
    ∷ ending_1_lines_1
unfolding playing
any_write_sales_2_keep_1 = refl

-- SALES stops in write 2 of a commit, which leaves '01': all rows are those before
any_write_sales_2_leave_01 :
    report (all_lines (played 430 places_1 (opening_1 ++
    crash_leave 1 2 (1 ∷ [])
    ∷ at 1 1 commit
    ∷ commands.Start 1
    ∷ ending_1)))
    ≡ opening_1_lines ++
    codes "14 ok"
    ∷ codes "15 DTX-01: node SALES is stopped"
    ∷ codes "15 node SALES stopped"
    ∷ codes "16 ok"
    ∷ ending_1_lines_1
unfolding playing
any_write_sales_2_leave_01 = refl

-- SALES stops in write 3 of a commit, which keeps 0 of its bytes: all rows are those after
any_write_sales_3_keep_0 :
    report (all_lines (played 430 places_1 (opening_1 ++
    crash_keep 1 3 0
    ∷ at 1 1 commit
    ∷ commands.Start 1
    ∷ ending_1)))
    ≡ opening_1_lines ++
    codes "14 ok"
    ∷ codes "15 DTX-01: node SALES is stopped"
    ∷ codes "15 node SALES stopped"
    ∷ codes "16 ok"
    ∷ ending_1_lines_2
unfolding playing
any_write_sales_3_keep_0 = refl

-- SALES stops in write 3 of a commit, which keeps 1 of its bytes: all rows are those after
any_write_sales_3_keep_1 :
    report (all_lines (played 430 places_1 (opening_1 ++
    crash_keep 1 3 1
    ∷ at 1 1 commit
    ∷ commands.Start 1
    ∷ ending_1)))
    ≡ opening_1_lines ++
    codes "14 ok"
    ∷ codes "15 DTX-01: node SALES is stopped"
    ∷ codes "15 node SALES stopped"
    ∷ codes "16 ok"
    ∷ ending_1_lines_2
unfolding playing
any_write_sales_3_keep_1 = refl

-- SALES stops in write 3 of a commit, which leaves '01': all rows are those after
any_write_sales_3_leave_01 :
    report (all_lines (played 430 places_1 (opening_1 ++
    crash_leave 1 3 (1 ∷ [])
    ∷ at 1 1 commit
    ∷ commands.Start 1
    ∷ ending_1)))
    ≡ opening_1_lines ++
    codes "14 ok"
    ∷ codes "15 DTX-01: node SALES is stopped"
    ∷ codes "15 node SALES stopped"
    ∷ codes "16 ok"
    ∷ ending_1_lines_2
unfolding playing
any_write_sales_3_leave_01 = refl

-- SALES stops in write 4 of a commit, which keeps 0 of its bytes: all rows are those after
any_write_sales_4_keep_0 :
    report (all_lines (played 430 places_1 (opening_1 ++
    crash_keep 1 4 0
    ∷ at 1 1 commit
    ∷ commands.Start 1
    ∷ ending_1)))
    ≡ opening_1_lines ++
    codes "14 ok"
    ∷ codes "15 DTX-01: node SALES is stopped"
    ∷ codes "15 node SALES stopped"
    ∷ codes "16 ok"
    ∷ ending_1_lines_2
unfolding playing
any_write_sales_4_keep_0 = refl

-- SALES stops in write 4 of a commit, which keeps 1 of its bytes: all rows are those after
any_write_sales_4_keep_1 :
    report (all_lines (played 430 places_1 (opening_1 ++
    crash_keep 1 4 1
    ∷ at 1 1 commit
    ∷ commands.Start 1
    ∷ ending_1)))
    ≡ opening_1_lines ++
    codes "14 ok"
    ∷ codes "15 DTX-01: node SALES is stopped"
    ∷ codes "15 node SALES stopped"
    ∷ codes "16 ok"
    ∷ ending_1_lines_2
unfolding playing
any_write_sales_4_keep_1 = refl

-- SALES stops in write 4 of a commit, which leaves '01': all rows are those after
any_write_sales_4_leave_01 :
    report (all_lines (played 430 places_1 (opening_1 ++
    crash_leave 1 4 (1 ∷ [])
    ∷ at 1 1 commit
    ∷ commands.Start 1
    ∷ ending_1)))
    ≡ opening_1_lines ++
    codes "14 ok"
    ∷ codes "15 DTX-01: node SALES is stopped"
    ∷ codes "15 node SALES stopped"
    ∷ codes "16 ok"
    ∷ ending_1_lines_2
unfolding playing
any_write_sales_4_leave_01 = refl

-- SALES stops in write 5 of a commit, which keeps 0 of its bytes: all rows are those after
any_write_sales_5_keep_0 :
    report (all_lines (played 430 places_1 (opening_1 ++
    crash_keep 1 5 0
    ∷ at 1 1 commit
    ∷ commands.Start 1
    ∷ ending_1)))
    ≡ opening_1_lines ++
    codes "14 ok"
    ∷ codes "15 DTX-01: node SALES is stopped"
    ∷ codes "15 node SALES stopped"
    ∷ codes "16 ok"
    ∷ ending_1_lines_2
unfolding playing
any_write_sales_5_keep_0 = refl

-- SALES stops in write 5 of a commit, which keeps 1 of its bytes: all rows are those after
any_write_sales_5_keep_1 :
    report (all_lines (played 430 places_1 (opening_1 ++
    crash_keep 1 5 1
    ∷ at 1 1 commit
    ∷ commands.Start 1
    ∷ ending_1)))
    ≡ opening_1_lines ++
    codes "14 ok"
    ∷ codes "15 DTX-01: node SALES is stopped"
    ∷ codes "15 node SALES stopped"
    ∷ codes "16 ok"
    ∷ ending_1_lines_2
unfolding playing
any_write_sales_5_keep_1 = refl

-- SALES stops in write 5 of a commit, which leaves '01': all rows are those after
any_write_sales_5_leave_01 :
    report (all_lines (played 430 places_1 (opening_1 ++
    crash_leave 1 5 (1 ∷ [])
    ∷ at 1 1 commit
    ∷ commands.Start 1
    ∷ ending_1)))
    ≡ opening_1_lines ++
    codes "14 ok"
    ∷ codes "15 DTX-01: node SALES is stopped"
    ∷ codes "15 node SALES stopped"
    ∷ codes "16 ok"
    ∷ ending_1_lines_2
unfolding playing
any_write_sales_5_leave_01 = refl

-- SALES stops in write 6 of a commit, which keeps 0 of its bytes: all rows are those after
any_write_sales_6_keep_0 :
    report (all_lines (played 430 places_1 (opening_1 ++
    crash_keep 1 6 0
    ∷ at 1 1 commit
    ∷ commands.Start 1
    ∷ ending_1)))
    ≡ opening_1_lines ++
    codes "14 ok"
    ∷ codes "15 DTX-01: node SALES is stopped"
    ∷ codes "15 node SALES stopped"
    ∷ codes "16 ok"
    ∷ ending_1_lines_2
unfolding playing
any_write_sales_6_keep_0 = refl
