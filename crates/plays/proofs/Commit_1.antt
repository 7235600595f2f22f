-- Plays of the topic commit.
use Rattle.std.proofs.Common.{◌≡◌, true, [], ◌∷◌, ◌++◌, codes, refl}
use Rattle.run_rules.specs.Report.{report}
use Rattle.node_rules.specs.Data.picks
use Rattle.node_rules.specs.Data.stmts
use Rattle.run_rules.specs.Data.kind_names
use Rattle.run_rules.specs.Data.commands
use Rattle.plays.proofs.Script.{number_key, table, link, synonym, here, over, num, text, literal, minus, set, equal, insert, rows, count, commit, node, at, hold, let_go, pump, pump_all, played, all_lines}
use Rattle.plays.proofs.Playing.{playing}
use Rattle.plays.proofs.Commit_shared.{places_1, places_2, places_3, places_4, places_5, opening_1, opening_1_lines, opening_2, opening_2_lines}

-- of two children of equal strength the one that was used first is the site
equal_strengths_first_referenced_is_the_site :
    report (all_lines (played 290 places_1 (
    node (codes "R") 1
    ∷ node (codes "A") 100
    ∷ node (codes "B") 100
    ∷ node (codes "C") 200
    ∷ at 2 1 (table (codes "T") (number_key (codes "K") ∷ []))
    ∷ at 3 1 (table (codes "T") (number_key (codes "K") ∷ []))
    ∷ at 4 1 (table (codes "T") (number_key (codes "K") ∷ []))
    ∷ at 3 1 (link (codes "LC") (codes "C"))
    ∷ at 3 1 (synonym (codes "TC") (codes "T") (codes "LC"))
    ∷ at 1 1 (link (codes "LA") (codes "A"))
    ∷ at 1 1 (link (codes "LB") (codes "B"))
    ∷ at 1 1 (insert (over (codes "T") (codes "LB")) (num 1 ∷ []))
    ∷ at 1 1 (insert (over (codes "T") (codes "LA")) (num 1 ∷ []))
    ∷ at 1 1 commit
    ∷ commands.ShowBook
    ∷ [])))
    ≡
    codes "1 ok"
    ∷ codes "2 ok"
    ∷ codes "3 ok"
    ∷ codes "4 ok"
    ∷ codes "5 Table created."
    ∷ codes "6 Table created."
    ∷ codes "7 Table created."
    ∷ codes "8 Database link created."
    ∷ codes "9 Synonym created."
    ∷ codes "10 Database link created."
    ∷ codes "11 Database link created."
    ∷ codes "12 1 row created."
    ∷ codes "13 1 row created."
    ∷ codes "14 Commit complete."
    ∷ codes "15 made A T"
    ∷ codes "15 made B T"
    ∷ codes "15 made C T"
    ∷ codes "15 sealed A 1.65.1 R.00000001.1.1.1 scn 0 changes 1"
    ∷ codes "15 sealed R 1.1.1 R.00000001.1.1.1 scn 0 changes 0"
    ∷ codes "15 decided B 1.65.1 R.00000001.1.1.1 scn 1 changes 1"
    ∷ codes "15 ended R 1.1.1 commit scn 1"
    ∷ codes "15 ended A 1.65.1 commit scn 1"
    ∷ []
unfolding playing
equal_strengths_first_referenced_is_the_site = refl

-- two sessions update one remote row with delivery held; the second waits for the first commit
held_commits_one_after_the_other :
    report (all_lines (played 388 places_2 (opening_1 ++
    hold
    ∷ at 1 1 (stmts.Update (over (codes "STOCK") (codes "WH")) (set (codes "N") (literal (num 45)) ∷ []) (equal (codes "ITEM") (text (codes "BOLT")) ∷ []))
    ∷ pump_all
    ∷ at 1 2 (stmts.Update (over (codes "STOCK") (codes "WH")) (set (codes "N") (literal (num 44)) ∷ []) (equal (codes "ITEM") (text (codes "BOLT")) ∷ []))
    ∷ pump_all
    ∷ at 1 1 commit
    ∷ pump_all
    ∷ at 1 2 (stmts.Update (over (codes "STOCK") (codes "WH")) (set (codes "N") (literal (num 44)) ∷ []) (equal (codes "ITEM") (text (codes "BOLT")) ∷ []))
    ∷ pump_all
    ∷ at 1 2 commit
    ∷ pump_all
    ∷ commands.ShowBook
    ∷ [])))
    ≡ opening_1_lines ++
    codes "11 ok"
    ∷ codes "12 waiting"
    ∷ codes "13 ok"
    ∷ codes "12 1 row updated."
    ∷ codes "14 waiting"
    ∷ codes "15 ok"
    ∷ codes "14 ORA-02049: timeout: distributed transaction waiting for lock"
    ∷ codes "16 waiting"
    ∷ codes "17 ok"
    ∷ codes "16 Commit complete."
    ∷ codes "18 waiting"
    ∷ codes "19 ok"
    ∷ codes "18 1 row updated."
    ∷ codes "20 waiting"
    ∷ codes "21 ok"
    ∷ codes "20 Commit complete."
    ∷ codes "22 made SALES ORDERS"
    ∷ codes "22 made WAREHOUSE STOCK"
    ∷ codes "22 decided WAREHOUSE 1.1.1 WAREHOUSE.00000002.1.1.1 scn 1 changes 1"
    ∷ codes "22 made HQ LEDGER"
    ∷ codes "22 sealed SALES 1.1.1 SALES.00000001.1.1.1 scn 1 changes 0"
    ∷ codes "22 decided WAREHOUSE 1.65.1 SALES.00000001.1.1.1 scn 2 changes 1"
    ∷ codes "22 ended SALES 1.1.1 commit scn 2"
    ∷ codes "22 sealed SALES 1.2.1 SALES.00000001.1.2.1 scn 2 changes 0"
    ∷ codes "22 decided WAREHOUSE 1.66.1 SALES.00000001.1.2.1 scn 3 changes 1"
    ∷ codes "22 ended SALES 1.2.1 commit scn 3"
    ∷ []
unfolding playing
held_commits_one_after_the_other = refl

-- keys that FOR UPDATE alone holds are free as soon as their branch is asked to prepare, at the root and at the site
keys_only_read_are_released_at_prepare :
    report (all_lines (played 416 places_2 (opening_1 ++
    at 1 1 (insert (here (codes "ORDERS")) (num 1 ∷ num 10 ∷ []))
    ∷ at 1 1 commit
    ∷ at 1 1 (stmts.Select picks.All (here (codes "ORDERS")) (equal (codes "ID") (num 1) ∷ []) true)
    ∷ at 1 1 (stmts.Select (picks.Columns (codes "N" ∷ [])) (over (codes "STOCK") (codes "WH")) (equal (codes "ITEM") (text (codes "BOLT")) ∷ []) true)
    ∷ at 1 1 (insert (over (codes "STOCK") (codes "WH")) (text (codes "NUT") ∷ num 5 ∷ []))
    ∷ at 1 2 (stmts.Update (here (codes "ORDERS")) (set (codes "QTY") (literal (num 20)) ∷ []) (equal (codes "ID") (num 1) ∷ []))
    ∷ at 2 2 (stmts.Update (here (codes "STOCK")) (set (codes "N") (literal (num 40)) ∷ []) (equal (codes "ITEM") (text (codes "BOLT")) ∷ []))
    ∷ hold
    ∷ at 1 1 commit
    ∷ pump 1
    ∷ at 1 2 (stmts.Update (here (codes "ORDERS")) (set (codes "QTY") (literal (num 20)) ∷ []) (equal (codes "ID") (num 1) ∷ []))
    ∷ at 2 2 (stmts.Update (here (codes "STOCK")) (set (codes "N") (literal (num 40)) ∷ []) (equal (codes "ITEM") (text (codes "BOLT")) ∷ []))
    ∷ at 2 2 (insert (here (codes "STOCK")) (text (codes "NUT") ∷ num 7 ∷ []))
    ∷ let_go
    ∷ [])))
    ≡ opening_1_lines ++
    codes "11 1 row created."
    ∷ codes "12 Commit complete."
    ∷ codes "13 ID|QTY"
    ∷ codes "13 1|10"
    ∷ codes "13 1 row selected."
    ∷ codes "14 N"
    ∷ codes "14 50"
    ∷ codes "14 1 row selected."
    ∷ codes "15 1 row created."
    ∷ codes "16 ORA-02049: timeout: distributed transaction waiting for lock"
    ∷ codes "17 ORA-02049: timeout: distributed transaction waiting for lock"
    ∷ codes "18 ok"
    ∷ codes "19 waiting"
    ∷ codes "20 ok"
    ∷ codes "21 1 row updated."
    ∷ codes "22 1 row updated."
    ∷ codes "23 ORA-02049: timeout: distributed transaction waiting for lock"
    ∷ codes "24 ok"
    ∷ codes "19 Commit complete."
    ∷ []
unfolding playing
keys_only_read_are_released_at_prepare = refl

-- an old question reaches a root that has committed meanwhile; the branch between it and the site does not listen to the answer
late_question_after_the_commit :
    report (all_lines (played 318 places_3 (
    node (codes "R") 1
    ∷ node (codes "B") 50
    ∷ node (codes "C") 200
    ∷ at 3 1 (table (codes "T") (number_key (codes "K") ∷ []))
    ∷ at 2 1 (link (codes "LC") (codes "C"))
    ∷ at 2 1 (synonym (codes "TC") (codes "T") (codes "LC"))
    ∷ at 1 1 (link (codes "LB") (codes "B"))
    ∷ at 1 1 (insert (over (codes "TC") (codes "LB")) (num 1 ∷ []))
    ∷ commands.Reco 2
    ∷ hold
    ∷ at 1 1 commit
    ∷ pump 9
    ∷ commands.ShowNet
    ∷ commands.Again 9
    ∷ commands.Deliver 21
    ∷ commands.ShowNet
    ∷ let_go
    ∷ [])))
    ≡
    codes "1 ok"
    ∷ codes "2 ok"
    ∷ codes "3 ok"
    ∷ codes "4 Table created."
    ∷ codes "5 Database link created."
    ∷ codes "6 Synonym created."
    ∷ codes "7 Database link created."
    ∷ codes "8 1 row created."
    ∷ codes "9 ok"
    ∷ codes "10 ok"
    ∷ codes "11 waiting"
    ∷ codes "12 ok"
    ∷ codes "13 20 ACK B C"
    ∷ codes "14 ok"
    ∷ codes "15 ok"
    ∷ codes "16 20 ACK B C"
    ∷ codes "17 ok"
    ∷ codes "11 Commit complete."
    ∷ []
unfolding playing
late_question_after_the_commit = refl

-- a transaction that only queried is rolled back where its prepare is lost
lost_prepare_of_a_query_alone_rolls_back :
    report (all_lines (played 276 places_4 (opening_2 ++
    at 1 1 (rows (over (codes "T") (codes "LA")) [])
    ∷ commands.LoseNext kind_names.Prepare 1 2
    ∷ at 1 1 commit
    ∷ [])))
    ≡ opening_2_lines ++
    codes "12 no rows selected"
    ∷ codes "13 ok"
    ∷ codes "14 ORA-02050: transaction 1.1.1 rolled back, some remote DBs may be in-doubt"
    ∷ []
unfolding playing
lost_prepare_of_a_query_alone_rolls_back = refl

-- a lost answer to prepare: the commit is given up and every branch is rolled back
lost_prepared_rolls_back :
    report (all_lines (played 318 places_2 (opening_1 ++
    at 1 1 (insert (here (codes "ORDERS")) (num 1 ∷ num 10 ∷ []))
    ∷ at 1 1 (stmts.Update (over (codes "STOCK") (codes "WH")) (set (codes "N") (minus (codes "N") 10) ∷ []) (equal (codes "ITEM") (text (codes "BOLT")) ∷ []))
    ∷ at 1 1 (insert (over (codes "LEDGER") (codes "HQ")) (num 1 ∷ num 250 ∷ []))
    ∷ commands.LoseNext kind_names.Prepared 3 1
    ∷ at 1 1 commit
    ∷ at 1 1 (count (here (codes "ORDERS")) [])
    ∷ at 3 2 (rows (here (codes "LEDGER")) [])
    ∷ [])))
    ≡ opening_1_lines ++
    codes "11 1 row created."
    ∷ codes "12 1 row updated."
    ∷ codes "13 1 row created."
    ∷ codes "14 ok"
    ∷ codes "15 ORA-02050: transaction 1.1.1 rolled back, some remote DBs may be in-doubt"
    ∷ codes "16 COUNT(*)"
    ∷ codes "16 0"
    ∷ codes "16 1 row selected."
    ∷ codes "17 no rows selected"
    ∷ []
unfolding playing
lost_prepared_rolls_back = refl

-- the eleven messages of a commit over three nodes, one after the other
messages_of_a_commit_in_order :
    report (all_lines (played 570 places_2 (opening_1 ++
    at 1 1 (insert (here (codes "ORDERS")) (num 1 ∷ num 10 ∷ []))
    ∷ at 1 1 (stmts.Update (over (codes "STOCK") (codes "WH")) (set (codes "N") (minus (codes "N") 10) ∷ []) (equal (codes "ITEM") (text (codes "BOLT")) ∷ []))
    ∷ at 1 1 (insert (over (codes "LEDGER") (codes "HQ")) (num 1 ∷ num 250 ∷ []))
    ∷ hold
    ∷ at 1 1 commit
    ∷ commands.ShowNet
    ∷ pump 1
    ∷ pump 1
    ∷ commands.ShowNet
    ∷ pump 2
    ∷ commands.ShowNet
    ∷ pump 1
    ∷ commands.ShowNet
    ∷ pump 1
    ∷ commands.ShowNet
    ∷ pump 1
    ∷ commands.ShowNet
    ∷ pump 1
    ∷ commands.ShowNet
    ∷ pump 1
    ∷ commands.ShowNet
    ∷ pump 1
    ∷ commands.ShowNet
    ∷ pump_all
    ∷ commands.ShowNet
    ∷ [])))
    ≡ opening_1_lines ++
    codes "11 1 row created."
    ∷ codes "12 1 row updated."
    ∷ codes "13 1 row created."
    ∷ codes "14 ok"
    ∷ codes "15 waiting"
    ∷ codes "16 9 PREPARE SALES WAREHOUSE"
    ∷ codes "16 10 PREPARE SALES HQ"
    ∷ codes "17 ok"
    ∷ codes "18 ok"
    ∷ codes "19 11 READY WAREHOUSE SALES"
    ∷ codes "19 12 PREPARED HQ SALES"
    ∷ codes "20 ok"
    ∷ codes "21 13 COMMITPOINT SALES WAREHOUSE"
    ∷ codes "22 ok"
    ∷ codes "23 14 COMMITTED WAREHOUSE SALES"
    ∷ codes "24 ok"
    ∷ codes "25 15 COMMITTED SALES HQ"
    ∷ codes "26 ok"
    ∷ codes "27 16 ACK HQ SALES"
    ∷ codes "28 ok"
    ∷ codes "29 17 ACK SALES WAREHOUSE"
    ∷ codes "30 ok"
    ∷ codes "31 18 FORGOTTEN WAREHOUSE SALES"
    ∷ codes "32 ok"
    ∷ codes "15 Commit complete."
    ∷ codes "33 19 FORGOTTEN SALES HQ"
    ∷ codes "34 ok"
    ∷ codes "35 no messages in flight"
    ∷ []
unfolding playing
messages_of_a_commit_in_order = refl

-- a branch acknowledges once everybody beyond has: one of two does not hear of the commit
one_of_two_beyond_has_not_acknowledged :
    report (all_lines (played 234 places_5 (
    node (codes "R") 1
    ∷ node (codes "B") 1
    ∷ at 2 1 (table (codes "T") (number_key (codes "K") ∷ []))
    ∷ at 1 1 (link (codes "L1") (codes "B"))
    ∷ at 1 1 (link (codes "L2") (codes "B"))
    ∷ at 1 1 (link (codes "L3") (codes "B"))
    ∷ at 1 1 (insert (over (codes "T") (codes "L1")) (num 1 ∷ []))
    ∷ at 1 1 (insert (over (codes "T") (codes "L2")) (num 2 ∷ []))
    ∷ at 1 1 (insert (over (codes "T") (codes "L3")) (num 3 ∷ []))
    ∷ commands.LoseNext kind_names.Committed 1 2
    ∷ at 1 1 commit
    ∷ [])))
    ≡
    codes "1 ok"
    ∷ codes "2 ok"
    ∷ codes "3 Table created."
    ∷ codes "4 Database link created."
    ∷ codes "5 Database link created."
    ∷ codes "6 Database link created."
    ∷ codes "7 1 row created."
    ∷ codes "8 1 row created."
    ∷ codes "9 1 row created."
    ∷ codes "10 ok"
    ∷ codes "11 ORA-02053: transaction 1.1.1 committed, some remote DBs may be in-doubt"
    ∷ []
unfolding playing
one_of_two_beyond_has_not_acknowledged = refl

-- a transaction that only queried commits without a site and leaves no pending row
query_alone_leaves_no_row_behind :
    report (all_lines (played 276 places_4 (opening_2 ++
    at 1 1 (rows (over (codes "T") (codes "LA")) [])
    ∷ at 1 1 commit
    ∷ commands.ShowPending 1
    ∷ [])))
    ≡ opening_2_lines ++
    codes "12 no rows selected"
    ∷ codes "13 Commit complete."
    ∷ codes "14 no rows selected"
    ∷ []
unfolding playing
query_alone_leaves_no_row_behind = refl
