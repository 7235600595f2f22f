-- Plays of the topic crash.
use Rattle.std.proofs.Common.{◌≡◌, [], ◌∷◌, ◌++◌, codes, refl}
use Rattle.run_rules.specs.Report.{report}
use Rattle.run_rules.specs.Data.commands
use Rattle.plays.proofs.Script.{number_key, table, here, num, insert, count, commit, commit_comment, node, at, crash_keep, crash_leave, played, all_lines}
use Rattle.plays.proofs.Playing.{playing}
use Rattle.plays.proofs.Crash_shared.{places_1, places_2, places_3, opening_1, opening_1_lines, ending_2, ending_2_lines_1, ending_2_lines_2}

-- a gate byte that is neither shut nor open counts as shut: the branch is not prepared
prepared_record_behind_an_odd_gate :
    report (all_lines (played 332 places_1 (opening_1 ++
    crash_leave 3 2 (255 ∷ 1 ∷ [])
    ∷ at 1 1 commit
    ∷ commands.Start 3
    ∷ commands.ShowPending 3
    ∷ at 1 1 (count (here (codes "ORDERS")) [])
    ∷ [])))
    ≡ opening_1_lines ++
    codes "14 ok"
    ∷ codes "15 ORA-02050: transaction 1.1.1 rolled back, some remote DBs may be in-doubt"
    ∷ codes "15 node HQ stopped"
    ∷ codes "16 ok"
    ∷ codes "17 no rows selected"
    ∷ codes "18 COUNT(*)"
    ∷ codes "18 0"
    ∷ codes "18 1 row selected."
    ∷ []
unfolding playing
prepared_record_behind_an_odd_gate = refl

-- a record whose gate a stop still opened stands, and is in the book
record_of_a_cut_turn_stands_in_the_book :
    report (all_lines (played 136 places_2 (
    node (codes "SALES") 1
    ∷ crash_keep 1 2 1
    ∷ at 1 1 (table (codes "ORDERS") (number_key (codes "ID") ∷ []))
    ∷ commands.ShowBook
    ∷ [])))
    ≡
    codes "1 ok"
    ∷ codes "2 ok"
    ∷ codes "3 DTX-01: node SALES is stopped"
    ∷ codes "3 node SALES stopped"
    ∷ codes "4 made SALES ORDERS"
    ∷ []
unfolding playing
record_of_a_cut_turn_stands_in_the_book = refl

-- the site stops with its record whole but the gate shut: the transaction is rolled back everywhere
site_record_behind_a_shut_gate :
    report (all_lines (played 360 places_1 (opening_1 ++
    crash_leave 2 2 (0 ∷ [])
    ∷ ending_2)))
    ≡ opening_1_lines ++
    codes "14 ok"
    ∷ ending_2_lines_1
unfolding playing
site_record_behind_a_shut_gate = refl

-- the site stops with its record's gate open: the transaction is committed everywhere
site_record_behind_an_open_gate :
    report (all_lines (played 360 places_1 (opening_1 ++
    crash_keep 2 2 1
    ∷ ending_2)))
    ≡ opening_1_lines ++
    codes "14 ok"
    ∷ ending_2_lines_2
unfolding playing
site_record_behind_an_open_gate = refl

-- the site stops before it writes a byte of its record: the transaction is rolled back everywhere
site_record_not_begun :
    report (all_lines (played 360 places_1 (opening_1 ++
    crash_keep 2 1 0
    ∷ ending_2)))
    ≡ opening_1_lines ++
    codes "14 ok"
    ∷ ending_2_lines_1
unfolding playing
site_record_not_begun = refl

-- a START in whose writes the node stops is refused; where its Boot stands it counts among the starts
start_that_is_struck :
    report (all_lines (played 262 places_3 (
    node (codes "A") 1
    ∷ at 1 1 (table (codes "T") (number_key (codes "K") ∷ []))
    ∷ commands.Stop 1
    ∷ crash_keep 1 1 0
    ∷ commands.Start 1
    ∷ crash_keep 1 2 1
    ∷ commands.Start 1
    ∷ commands.Fault 1 7
    ∷ commands.Start 1
    ∷ commands.Start 1
    ∷ at 1 1 (insert (here (codes "T")) (num 1 ∷ []))
    ∷ at 1 1 commit
    ∷ commands.ShowBook
    ∷ [])))
    ≡
    codes "1 ok"
    ∷ codes "2 Table created."
    ∷ codes "3 ok"
    ∷ codes "4 ok"
    ∷ codes "5 DTX-01: node A is stopped"
    ∷ codes "5 node A stopped"
    ∷ codes "6 ok"
    ∷ codes "7 DTX-01: node A is stopped"
    ∷ codes "7 node A stopped"
    ∷ codes "8 ok"
    ∷ codes "9 DTX-01: node A is stopped"
    ∷ codes "9 node A stopped"
    ∷ codes "10 ok"
    ∷ codes "11 1 row created."
    ∷ codes "12 Commit complete."
    ∷ codes "13 made A T"
    ∷ codes "13 decided A 4.1.1 A.00000001.4.1.1 scn 1 changes 1"
    ∷ []
unfolding playing
start_that_is_struck = refl

-- the crash-test comment 1: the site stops before it says ready
test_comment_01 :
    report (all_lines (played 318 places_1 (opening_1 ++
    at 1 1 (commit_comment (codes "ORA-2PC-CRASH-TEST-1"))
    ∷ commands.Start 2
    ∷ commands.Reco 1
    ∷ at 1 1 (count (here (codes "ORDERS")) [])
    ∷ [])))
    ≡ opening_1_lines ++
    codes "14 ORA-02050: transaction 1.1.1 rolled back, some remote DBs may be in-doubt"
    ∷ codes "14 ORA-02059: ORA-2PC-CRASH-TEST-1 in commit comment"
    ∷ codes "14 node WAREHOUSE stopped"
    ∷ codes "15 ok"
    ∷ codes "16 ok"
    ∷ codes "17 COUNT(*)"
    ∷ codes "17 0"
    ∷ codes "17 1 row selected."
    ∷ []
unfolding playing
test_comment_01 = refl

-- the crash-test comment 2: another branch stops when its collect is complete
test_comment_02 :
    report (all_lines (played 318 places_1 (opening_1 ++
    at 1 1 (commit_comment (codes "ORA-2PC-CRASH-TEST-2"))
    ∷ commands.Start 3
    ∷ commands.Reco 1
    ∷ at 1 1 (count (here (codes "ORDERS")) [])
    ∷ [])))
    ≡ opening_1_lines ++
    codes "14 ORA-02050: transaction 1.1.1 rolled back, some remote DBs may be in-doubt"
    ∷ codes "14 ORA-02059: ORA-2PC-CRASH-TEST-2 in commit comment"
    ∷ codes "14 node HQ stopped"
    ∷ codes "15 ok"
    ∷ codes "16 ok"
    ∷ codes "17 COUNT(*)"
    ∷ codes "17 0"
    ∷ codes "17 1 row selected."
    ∷ []
unfolding playing
test_comment_02 = refl

-- the crash-test comment 3: another branch stops before its prepared record
test_comment_03 :
    report (all_lines (played 318 places_1 (opening_1 ++
    at 1 1 (commit_comment (codes "ORA-2PC-CRASH-TEST-3"))
    ∷ commands.Start 3
    ∷ commands.Reco 1
    ∷ at 1 1 (count (here (codes "ORDERS")) [])
    ∷ [])))
    ≡ opening_1_lines ++
    codes "14 ORA-02050: transaction 1.1.1 rolled back, some remote DBs may be in-doubt"
    ∷ codes "14 ORA-02059: ORA-2PC-CRASH-TEST-3 in commit comment"
    ∷ codes "14 node HQ stopped"
    ∷ codes "15 ok"
    ∷ codes "16 ok"
    ∷ codes "17 COUNT(*)"
    ∷ codes "17 0"
    ∷ codes "17 1 row selected."
    ∷ []
unfolding playing
test_comment_03 = refl

-- the crash-test comment 4: another branch stops after its prepared record
test_comment_04 :
    report (all_lines (played 318 places_1 (opening_1 ++
    at 1 1 (commit_comment (codes "ORA-2PC-CRASH-TEST-4"))
    ∷ commands.Start 3
    ∷ commands.Reco 1
    ∷ at 1 1 (count (here (codes "ORDERS")) [])
    ∷ [])))
    ≡ opening_1_lines ++
    codes "14 ORA-02050: transaction 1.1.1 rolled back, some remote DBs may be in-doubt"
    ∷ codes "14 ORA-02059: ORA-2PC-CRASH-TEST-4 in commit comment"
    ∷ codes "14 node HQ stopped"
    ∷ codes "15 ok"
    ∷ codes "16 ok"
    ∷ codes "17 COUNT(*)"
    ∷ codes "17 0"
    ∷ codes "17 1 row selected."
    ∷ []
unfolding playing
test_comment_04 = refl

-- the crash-test comment 5: the site stops before it decides
test_comment_05 :
    report (all_lines (played 318 places_1 (opening_1 ++
    at 1 1 (commit_comment (codes "ORA-2PC-CRASH-TEST-5"))
    ∷ commands.Start 2
    ∷ commands.Reco 1
    ∷ at 1 1 (count (here (codes "ORDERS")) [])
    ∷ [])))
    ≡ opening_1_lines ++
    codes "14 ORA-02054: transaction 1.1.1 in-doubt"
    ∷ codes "14 ORA-02059: ORA-2PC-CRASH-TEST-5 in commit comment"
    ∷ codes "14 node WAREHOUSE stopped"
    ∷ codes "15 ok"
    ∷ codes "16 ok"
    ∷ codes "17 COUNT(*)"
    ∷ codes "17 0"
    ∷ codes "17 1 row selected."
    ∷ []
unfolding playing
test_comment_05 = refl

-- the crash-test comment 6: the site stops after it decided
test_comment_06 :
    report (all_lines (played 318 places_1 (opening_1 ++
    at 1 1 (commit_comment (codes "ORA-2PC-CRASH-TEST-6"))
    ∷ commands.Start 2
    ∷ commands.Reco 1
    ∷ at 1 1 (count (here (codes "ORDERS")) [])
    ∷ [])))
    ≡ opening_1_lines ++
    codes "14 ORA-02054: transaction 1.1.1 in-doubt"
    ∷ codes "14 ORA-02059: ORA-2PC-CRASH-TEST-6 in commit comment"
    ∷ codes "14 node WAREHOUSE stopped"
    ∷ codes "15 ok"
    ∷ codes "16 ok"
    ∷ codes "17 COUNT(*)"
    ∷ codes "17 1"
    ∷ codes "17 1 row selected."
    ∷ []
unfolding playing
test_comment_06 = refl

-- the crash-test comment 7: another branch stops before its committed record
test_comment_07 :
    report (all_lines (played 318 places_1 (opening_1 ++
    at 1 1 (commit_comment (codes "ORA-2PC-CRASH-TEST-7"))
    ∷ commands.Start 1
    ∷ commands.Reco 1
    ∷ at 1 1 (count (here (codes "ORDERS")) [])
    ∷ [])))
    ≡ opening_1_lines ++
    codes "14 DTX-01: node SALES is stopped"
    ∷ codes "14 ORA-02059: ORA-2PC-CRASH-TEST-7 in commit comment"
    ∷ codes "14 node SALES stopped"
    ∷ codes "15 ok"
    ∷ codes "16 ok"
    ∷ codes "17 COUNT(*)"
    ∷ codes "17 1"
    ∷ codes "17 1 row selected."
    ∷ []
unfolding playing
test_comment_07 = refl

-- the crash-test comment 8: another branch stops after its committed record
test_comment_08 :
    report (all_lines (played 318 places_1 (opening_1 ++
    at 1 1 (commit_comment (codes "ORA-2PC-CRASH-TEST-8"))
    ∷ commands.Start 1
    ∷ commands.Reco 1
    ∷ at 1 1 (count (here (codes "ORDERS")) [])
    ∷ [])))
    ≡ opening_1_lines ++
    codes "14 DTX-01: node SALES is stopped"
    ∷ codes "14 ORA-02059: ORA-2PC-CRASH-TEST-8 in commit comment"
    ∷ codes "14 node SALES stopped"
    ∷ codes "15 ok"
    ∷ codes "16 ok"
    ∷ codes "17 COUNT(*)"
    ∷ codes "17 1"
    ∷ codes "17 1 row selected."
    ∷ []
unfolding playing
test_comment_08 = refl

-- the crash-test comment 9: the site stops before it forgets
test_comment_09 :
    report (all_lines (played 318 places_1 (opening_1 ++
    at 1 1 (commit_comment (codes "ORA-2PC-CRASH-TEST-9"))
    ∷ commands.Start 2
    ∷ commands.Reco 1
    ∷ at 1 1 (count (here (codes "ORDERS")) [])
    ∷ [])))
    ≡ opening_1_lines ++
    codes "14 ORA-02053: transaction 1.1.1 committed, some remote DBs may be in-doubt"
    ∷ codes "14 ORA-02059: ORA-2PC-CRASH-TEST-9 in commit comment"
    ∷ codes "14 node WAREHOUSE stopped"
    ∷ codes "15 ok"
    ∷ codes "16 ok"
    ∷ codes "17 COUNT(*)"
    ∷ codes "17 1"
    ∷ codes "17 1 row selected."
    ∷ []
unfolding playing
test_comment_09 = refl

-- the crash-test comment 10: another branch stops before it forgets
test_comment_10 :
    report (all_lines (played 318 places_1 (opening_1 ++
    at 1 1 (commit_comment (codes "ORA-2PC-CRASH-TEST-10"))
    ∷ commands.Start 1
    ∷ commands.Reco 1
    ∷ at 1 1 (count (here (codes "ORDERS")) [])
    ∷ [])))
    ≡ opening_1_lines ++
    codes "14 DTX-01: node SALES is stopped"
    ∷ codes "14 ORA-02059: ORA-2PC-CRASH-TEST-10 in commit comment"
    ∷ codes "14 node SALES stopped"
    ∷ codes "15 ok"
    ∷ codes "16 ok"
    ∷ codes "17 COUNT(*)"
    ∷ codes "17 1"
    ∷ codes "17 1 row selected."
    ∷ []
unfolding playing
test_comment_10 = refl
