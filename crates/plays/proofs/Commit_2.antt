-- Plays of the topic commit.
use Rattle.std.proofs.Common.{◌≡◌, List, [], ◌∷◌, ◌++◌, codes, refl}
use Rattle.run_rules.specs.Report.{report}
use Rattle.book.specs.Texts.{book_lines}
use Rattle.node_rules.specs.Data.stmts
use Rattle.run_rules.specs.Data.{Command}
use Rattle.run_rules.specs.Data.kind_names
use Rattle.run_rules.specs.Data.commands
use Rattle.plays.proofs.Script.{number_key, table, link, here, over, num, text, literal, minus, set, equal, insert, rows, commit, node, at, hold, pump_all, played, all_lines, booked}
use Rattle.plays.proofs.Playing.{playing}
use Rattle.plays.proofs.Commit_shared.{names_2, places_2, places_4, places_6, opening_1, opening_1_lines, opening_2, opening_2_lines}

-- a transaction that only queried over a link commits without a site
query_alone_needs_no_site :
    report (all_lines (played 262 places_4 (opening_2 ++
    at 1 1 (rows (over (codes "T") (codes "LA")) [])
    ∷ at 1 1 commit
    ∷ [])))
    ≡ opening_2_lines ++
    codes "12 no rows selected"
    ∷ codes "13 Commit complete."
    ∷ []
unfolding playing
query_alone_needs_no_site = refl

-- a repeated word to commit after all is forgotten changes nothing; a message never sent is refused
repeated_messages_after_the_end :
    report (all_lines (played 332 places_2 (opening_1 ++
    at 1 1 (insert (here (codes "ORDERS")) (num 1 ∷ num 10 ∷ []))
    ∷ at 1 1 (stmts.Update (over (codes "STOCK") (codes "WH")) (set (codes "N") (minus (codes "N") 10) ∷ []) (equal (codes "ITEM") (text (codes "BOLT")) ∷ []))
    ∷ at 1 1 (insert (over (codes "LEDGER") (codes "HQ")) (num 1 ∷ num 250 ∷ []))
    ∷ at 1 1 commit
    ∷ commands.Again 13
    ∷ at 2 2 (rows (here (codes "STOCK")) [])
    ∷ commands.ShowPending 2
    ∷ commands.Again 99
    ∷ [])))
    ≡ opening_1_lines ++
    codes "11 1 row created."
    ∷ codes "12 1 row updated."
    ∷ codes "13 1 row created."
    ∷ codes "14 Commit complete."
    ∷ codes "15 ok"
    ∷ codes "16 ITEM|N"
    ∷ codes "16 'BOLT'|40"
    ∷ codes "16 1 row selected."
    ∷ codes "17 no rows selected"
    ∷ codes "18 DTX-11: message 99 cannot be delivered"
    ∷ []
unfolding playing
repeated_messages_after_the_end = refl

-- a child that its node's restart has lost answers Abort to Prepare, and the COMMIT is rolled back
restarted_child_rolls_the_commit_back :
    report (all_lines (played 206 places_6 (
    node (codes "A") 1
    ∷ node (codes "B") 1
    ∷ at 1 1 (table (codes "T") (number_key (codes "K") ∷ []))
    ∷ at 1 1 (link (codes "B") (codes "B"))
    ∷ at 1 1 (insert (here (codes "T")) (num 1 ∷ []))
    ∷ at 1 1 (rows (over (codes "T") (codes "B")) [])
    ∷ commands.Stop 2
    ∷ commands.Start 2
    ∷ at 1 1 commit
    ∷ [])))
    ≡
    codes "1 ok"
    ∷ codes "2 ok"
    ∷ codes "3 Table created."
    ∷ codes "4 Database link created."
    ∷ codes "5 1 row created."
    ∷ codes "6 ORA-00942: table or view does not exist"
    ∷ codes "7 ok"
    ∷ codes "8 ok"
    ∷ codes "9 ORA-02050: transaction 1.1.1 rolled back, some remote DBs may be in-doubt"
    ∷ []
unfolding playing
restarted_child_rolls_the_commit_back = refl

-- the root is the site: it collects while the other branch is prepared, then commits
root_is_the_site :
    report (all_lines (played 346 places_2 (opening_1 ++
    at 2 2 (link (codes "SALES") (codes "SALES"))
    ∷ at 2 2 (stmts.Update (here (codes "STOCK")) (set (codes "N") (literal (num 40)) ∷ []) (equal (codes "ITEM") (text (codes "BOLT")) ∷ []))
    ∷ at 2 2 (insert (over (codes "ORDERS") (codes "SALES")) (num 1 ∷ num 10 ∷ []))
    ∷ hold
    ∷ at 2 2 commit
    ∷ commands.Deliver 5
    ∷ commands.ShowPending 2
    ∷ commands.ShowPending 1
    ∷ pump_all
    ∷ [])))
    ≡ opening_1_lines ++
    codes "11 Database link created."
    ∷ codes "12 1 row updated."
    ∷ codes "13 1 row created."
    ∷ codes "14 ok"
    ∷ codes "15 waiting"
    ∷ codes "16 ok"
    ∷ codes "17 LOCAL_TRAN_ID|GLOBAL_TRAN_ID|STATE|MIXED|ADVICE|TRAN_COMMENT|COMMIT#"
    ∷ codes "17 1.2.1|WAREHOUSE.00000002.1.2.1|collecting|no|||"
    ∷ codes "17 1 row selected."
    ∷ codes "18 LOCAL_TRAN_ID|GLOBAL_TRAN_ID|STATE|MIXED|ADVICE|TRAN_COMMENT|COMMIT#"
    ∷ codes "18 1.65.1|WAREHOUSE.00000002.1.2.1|prepared|no|||"
    ∷ codes "18 1 row selected."
    ∷ codes "19 ok"
    ∷ codes "15 Commit complete."
    ∷ []
unfolding playing
root_is_the_site = refl

-- a site with two neighbours keeps its row until both have acknowledged the commit
site_forgets_after_the_last_acknowledgement :
    report (all_lines (played 416 places_2 (opening_1 ++
    at 2 2 (link (codes "SALES") (codes "SALES"))
    ∷ at 2 2 (link (codes "HQ") (codes "HQ"))
    ∷ at 2 2 (stmts.Update (here (codes "STOCK")) (set (codes "N") (literal (num 40)) ∷ []) (equal (codes "ITEM") (text (codes "BOLT")) ∷ []))
    ∷ at 2 2 (insert (over (codes "ORDERS") (codes "SALES")) (num 1 ∷ num 10 ∷ []))
    ∷ at 2 2 (insert (over (codes "LEDGER") (codes "HQ")) (num 1 ∷ num 250 ∷ []))
    ∷ commands.LoseNext kind_names.Committed 2 3
    ∷ at 2 2 commit
    ∷ commands.ShowPending 2
    ∷ commands.ShowPending 1
    ∷ commands.ShowPending 3
    ∷ commands.Reco 2
    ∷ commands.ShowPending 2
    ∷ commands.ShowPending 1
    ∷ commands.ShowPending 3
    ∷ [])))
    ≡ opening_1_lines ++
    codes "11 Database link created."
    ∷ codes "12 Database link created."
    ∷ codes "13 1 row updated."
    ∷ codes "14 1 row created."
    ∷ codes "15 1 row created."
    ∷ codes "16 ok"
    ∷ codes "17 ORA-02053: transaction 1.2.1 committed, some remote DBs may be in-doubt"
    ∷ codes "18 LOCAL_TRAN_ID|GLOBAL_TRAN_ID|STATE|MIXED|ADVICE|TRAN_COMMENT|COMMIT#"
    ∷ codes "18 1.2.1|WAREHOUSE.00000002.1.2.1|committed|no|||2"
    ∷ codes "18 1 row selected."
    ∷ codes "19 LOCAL_TRAN_ID|GLOBAL_TRAN_ID|STATE|MIXED|ADVICE|TRAN_COMMENT|COMMIT#"
    ∷ codes "19 1.65.1|WAREHOUSE.00000002.1.2.1|committed|no|||2"
    ∷ codes "19 1 row selected."
    ∷ codes "20 LOCAL_TRAN_ID|GLOBAL_TRAN_ID|STATE|MIXED|ADVICE|TRAN_COMMENT|COMMIT#"
    ∷ codes "20 1.65.1|WAREHOUSE.00000002.1.2.1|prepared|no|||"
    ∷ codes "20 1 row selected."
    ∷ codes "21 ok"
    ∷ codes "22 no rows selected"
    ∷ codes "23 no rows selected"
    ∷ codes "24 no rows selected"
    ∷ []
unfolding playing
site_forgets_after_the_last_acknowledgement = refl

-- the site is the root's strongest child, though a node further down is stronger
site_is_strongest_child_not_strongest_node :
    report (all_lines (played 304 places_4 (opening_2 ++
    at 1 1 (insert (over (codes "T") (codes "LA")) (num 1 ∷ []))
    ∷ at 1 1 (insert (over (codes "T") (codes "LB")) (num 1 ∷ []))
    ∷ at 1 1 (insert (over (codes "TC") (codes "LB")) (num 1 ∷ []))
    ∷ at 1 1 commit
    ∷ commands.ShowBook
    ∷ [])))
    ≡ opening_2_lines ++
    codes "12 1 row created."
    ∷ codes "13 1 row created."
    ∷ codes "14 1 row created."
    ∷ codes "15 Commit complete."
    ∷ codes "16 made A T"
    ∷ codes "16 made B T"
    ∷ codes "16 made C T"
    ∷ codes "16 sealed C 1.65.1 R.00000001.1.1.1 scn 0 changes 1"
    ∷ codes "16 sealed B 1.65.1 R.00000001.1.1.1 scn 0 changes 1"
    ∷ codes "16 sealed R 1.1.1 R.00000001.1.1.1 scn 0 changes 0"
    ∷ codes "16 decided A 1.65.1 R.00000001.1.1.1 scn 1 changes 1"
    ∷ codes "16 ended R 1.1.1 commit scn 1"
    ∷ codes "16 ended B 1.65.1 commit scn 1"
    ∷ codes "16 ended C 1.65.1 commit scn 1"
    ∷ []
unfolding playing
site_is_strongest_child_not_strongest_node = refl

-- the strongest child was only queried, so the site is the one with changes
site_is_strongest_with_changes :
    report (all_lines (played 290 places_4 (opening_2 ++
    at 1 1 (rows (over (codes "T") (codes "LA")) [])
    ∷ at 1 1 (insert (over (codes "T") (codes "LB")) (num 1 ∷ []))
    ∷ at 1 1 commit
    ∷ commands.ShowBook
    ∷ [])))
    ≡ opening_2_lines ++
    codes "12 no rows selected"
    ∷ codes "13 1 row created."
    ∷ codes "14 Commit complete."
    ∷ codes "15 made A T"
    ∷ codes "15 made B T"
    ∷ codes "15 made C T"
    ∷ codes "15 sealed R 1.1.1 R.00000001.1.1.1 scn 0 changes 0"
    ∷ codes "15 decided B 1.65.1 R.00000001.1.1.1 scn 1 changes 1"
    ∷ codes "15 ended R 1.1.1 commit scn 1"
    ∷ []
unfolding playing
site_is_strongest_with_changes = refl

abbrev three_nodes_with_the_book_script : List Command
three_nodes_with_the_book_script = opening_1 ++
    at 1 1 (insert (here (codes "ORDERS")) (num 1 ∷ num 10 ∷ []))
    ∷ at 1 1 (stmts.Update (over (codes "STOCK") (codes "WH")) (set (codes "N") (minus (codes "N") 10) ∷ []) (equal (codes "ITEM") (text (codes "BOLT")) ∷ []))
    ∷ at 1 1 (insert (over (codes "LEDGER") (codes "HQ")) (num 1 ∷ num 250 ∷ []))
    ∷ at 1 1 commit
    ∷ []

-- a commit over three nodes, with the book of its records
three_nodes_with_the_book :
    report (all_lines (played 276 places_2 three_nodes_with_the_book_script))
    ≡ opening_1_lines ++
    codes "11 1 row created."
    ∷ codes "12 1 row updated."
    ∷ codes "13 1 row created."
    ∷ codes "14 Commit complete."
    ∷ []
unfolding playing
three_nodes_with_the_book = refl

-- and its book
book_of_three_nodes_with_the_book :
    book_lines names_2 (booked (played 276 places_2 three_nodes_with_the_book_script))
    ≡
    codes "made SALES ORDERS"
    ∷ codes "made WAREHOUSE STOCK"
    ∷ codes "decided WAREHOUSE 1.1.1 WAREHOUSE.00000002.1.1.1 scn 1 changes 1"
    ∷ codes "made HQ LEDGER"
    ∷ codes "sealed HQ 1.65.1 SALES.00000001.1.1.1 scn 1 changes 1"
    ∷ codes "sealed SALES 1.1.1 SALES.00000001.1.1.1 scn 1 changes 1"
    ∷ codes "decided WAREHOUSE 1.65.1 SALES.00000001.1.1.1 scn 2 changes 1"
    ∷ codes "ended SALES 1.1.1 commit scn 2"
    ∷ codes "ended HQ 1.65.1 commit scn 2"
    ∷ []
unfolding playing
book_of_three_nodes_with_the_book = refl
