-- Plays of the topic in doubt.
use Rattle.std.proofs.Common.{◌≡◌, ℕ, List, [], ◌∷◌, ◌++◌, codes, refl}
use Rattle.run_rules.specs.Report.{report}
use Rattle.node_rules.specs.Data.{Place}
use Rattle.node_rules.specs.Data.stmts
use Rattle.run_rules.specs.Data.{Command}
use Rattle.run_rules.specs.Data.kind_names
use Rattle.run_rules.specs.Data.commands
use Rattle.plays.proofs.Script.{place, place_within, number_column, number_key, text_column, text_key, table, link, here, over, num, text, literal, minus, set, equal, insert, rows, commit, node, at, hold, let_go, pump, pump_all, played, all_lines}
use Rattle.plays.proofs.Playing.{playing}

abbrev names_1 : List (List ℕ)
names_1 = codes "SALES" ∷ codes "WAREHOUSE" ∷ codes "HQ" ∷ []

abbrev names_2 : List (List ℕ)
names_2 = codes "R" ∷ codes "A" ∷ []

abbrev places_1 : List Place
places_1 = place names_1 1 100 ∷ place names_1 2 140 ∷ place names_1 3 75 ∷ []

abbrev places_2 : List Place
places_2 = place names_2 1 100 ∷ place_within names_2 2 50 4 1 ∷ []

abbrev opening_1 : List Command
opening_1 =
    node (codes "SALES") 100
    ∷ node (codes "WAREHOUSE") 140
    ∷ node (codes "HQ") 75
    ∷ at 1 1 (table (codes "ORDERS") (number_key (codes "ID") ∷ number_column (codes "QTY") ∷ []))
    ∷ at 1 1 (link (codes "WH") (codes "WAREHOUSE"))
    ∷ at 1 1 (link (codes "HQ") (codes "HQ"))
    ∷ at 2 1 (table (codes "STOCK") (text_key (codes "ITEM") 20 ∷ number_column (codes "N") ∷ []))
    ∷ at 2 1 (insert (here (codes "STOCK")) (text (codes "BOLT") ∷ num 50 ∷ []))
    ∷ at 2 1 commit
    ∷ at 3 1 (table (codes "LEDGER") (number_key (codes "ID") ∷ number_column (codes "AMOUNT") ∷ []))
    ∷ at 1 1 (insert (here (codes "ORDERS")) (num 1 ∷ num 10 ∷ []))
    ∷ at 1 1 (stmts.Update (over (codes "STOCK") (codes "WH")) (set (codes "N") (minus (codes "N") 10) ∷ []) (equal (codes "ITEM") (text (codes "BOLT")) ∷ []))
    ∷ at 1 1 (insert (over (codes "LEDGER") (codes "HQ")) (num 1 ∷ num 250 ∷ []))
    ∷ []

abbrev opening_1_lines : List (List ℕ)
opening_1_lines =
    codes "1 ok"
    ∷ codes "2 ok"
    ∷ codes "3 ok"
    ∷ codes "4 Table created."
    ∷ codes "5 Database link created."
    ∷ codes "6 Database link created."
    ∷ codes "7 Table created."
    ∷ codes "8 1 row created."
    ∷ codes "9 Commit complete."
    ∷ codes "10 Table created."
    ∷ codes "11 1 row created."
    ∷ codes "12 1 row updated."
    ∷ codes "13 1 row created."
    ∷ []

-- a prepared branch that is cut off refuses readers of its row until recovery tells it the commit
cut_before_the_decision_arrives :
    report (all_lines (played 472 places_1 (opening_1 ++
    hold
    ∷ at 1 1 commit
    ∷ pump 5
    ∷ commands.Cut 1 3
    ∷ pump_all
    ∷ commands.GiveUp 1 1
    ∷ let_go
    ∷ commands.ShowPending 3
    ∷ at 3 2 (rows (here (codes "LEDGER")) (equal (codes "ID") (num 1) ∷ []))
    ∷ at 3 2 (rows (here (codes "LEDGER")) [])
    ∷ at 3 2 (rows (here (codes "LEDGER")) (equal (codes "ID") (num 2) ∷ []))
    ∷ commands.Join 1 3
    ∷ commands.Reco 3
    ∷ at 3 2 (rows (here (codes "LEDGER")) [])
    ∷ commands.ShowPending 1
    ∷ [])))
    ≡ opening_1_lines ++
    codes "14 ok"
    ∷ codes "15 waiting"
    ∷ codes "16 ok"
    ∷ codes "17 ok"
    ∷ codes "18 ok"
    ∷ codes "19 ok"
    ∷ codes "15 ORA-02053: transaction 1.1.1 committed, some remote DBs may be in-doubt"
    ∷ codes "20 ok"
    ∷ codes "21 LOCAL_TRAN_ID|GLOBAL_TRAN_ID|STATE|MIXED|ADVICE|TRAN_COMMENT|COMMIT#"
    ∷ codes "21 1.65.1|SALES.00000001.1.1.1|prepared|no|||"
    ∷ codes "21 1 row selected."
    ∷ codes "22 ORA-01591: lock held by in-doubt distributed transaction 1.65.1"
    ∷ codes "23 ORA-01591: lock held by in-doubt distributed transaction 1.65.1"
    ∷ codes "24 no rows selected"
    ∷ codes "25 ok"
    ∷ codes "26 ok"
    ∷ codes "27 ID|AMOUNT"
    ∷ codes "27 1|250"
    ∷ codes "27 1 row selected."
    ∷ codes "28 no rows selected"
    ∷ []
unfolding playing
cut_before_the_decision_arrives = refl

-- the acknowledgement of a commit is lost: recovery at the branch that sent it sends it again, and all forget
lost_acknowledgement_is_sent_again :
    report (all_lines (played 360 places_1 (opening_1 ++
    commands.LoseNext kind_names.Ack 3 1
    ∷ at 1 1 commit
    ∷ commands.ShowPending 3
    ∷ commands.Reco 3
    ∷ commands.ShowPending 3
    ∷ commands.ShowPending 1
    ∷ commands.ShowPending 2
    ∷ [])))
    ≡ opening_1_lines ++
    codes "14 ok"
    ∷ codes "15 ORA-02053: transaction 1.1.1 committed, some remote DBs may be in-doubt"
    ∷ codes "16 LOCAL_TRAN_ID|GLOBAL_TRAN_ID|STATE|MIXED|ADVICE|TRAN_COMMENT|COMMIT#"
    ∷ codes "16 1.65.1|SALES.00000001.1.1.1|committed|no|||2"
    ∷ codes "16 1 row selected."
    ∷ codes "17 ok"
    ∷ codes "18 no rows selected"
    ∷ codes "19 no rows selected"
    ∷ codes "20 no rows selected"
    ∷ []
unfolding playing
lost_acknowledgement_is_sent_again = refl

-- the word of the commit is lost: the root is in doubt until recovery asks the site
lost_committed_message :
    report (all_lines (played 332 places_1 (opening_1 ++
    commands.LoseNext kind_names.Committed 2 1
    ∷ at 1 1 commit
    ∷ commands.ShowNeighbors 1
    ∷ commands.Reco 1
    ∷ at 1 1 (rows (here (codes "ORDERS")) [])
    ∷ [])))
    ≡ opening_1_lines ++
    codes "14 ok"
    ∷ codes "15 ORA-02054: transaction 1.1.1 in-doubt"
    ∷ codes "16 LOCAL_TRAN_ID|IN_OUT|DATABASE|DBUSER_OWNER|INTERFACE"
    ∷ codes "16 1.1.1|out|WH|APP|C"
    ∷ codes "16 1.1.1|out|HQ|APP|N"
    ∷ codes "16 2 rows selected."
    ∷ codes "17 ok"
    ∷ codes "18 ID|QTY"
    ∷ codes "18 1|10"
    ∷ codes "18 1 row selected."
    ∷ []
unfolding playing
lost_committed_message = refl

-- the lost word of the commit comes after all: the COMMIT was not complete in its command, and its row is free now
lost_message_of_a_commit_comes_again :
    report (all_lines (played 332 places_1 (opening_1 ++
    commands.LoseNext kind_names.Committed 2 1
    ∷ at 1 1 commit
    ∷ commands.Again 14
    ∷ at 1 2 (rows (here (codes "ORDERS")) [])
    ∷ commands.ShowPending 1
    ∷ [])))
    ≡ opening_1_lines ++
    codes "14 ok"
    ∷ codes "15 ORA-02054: transaction 1.1.1 in-doubt"
    ∷ codes "16 ok"
    ∷ codes "17 ID|QTY"
    ∷ codes "17 1|10"
    ∷ codes "17 1 row selected."
    ∷ codes "18 no rows selected"
    ∷ []
unfolding playing
lost_message_of_a_commit_comes_again = refl

-- a branch in doubt holds its undo extents over a restart, until the commit has come
undo_in_doubt_outlasts_a_restart :
    report (all_lines (played 318 places_2 (
    node (codes "R") 100
    ∷ commands.Node (codes "A") 50 4 1
    ∷ at 2 1 (table (codes "T") (number_key (codes "K") ∷ text_column (codes "V") 1500 ∷ []))
    ∷ at 2 1 (insert (here (codes "T")) (num 1 ∷ text (codes "old") ∷ []))
    ∷ at 2 1 (insert (here (codes "T")) (num 2 ∷ text (codes "old") ∷ []))
    ∷ at 2 1 commit
    ∷ at 1 1 (table (codes "T") (number_key (codes "K") ∷ []))
    ∷ at 1 1 (link (codes "LA") (codes "A"))
    ∷ at 1 1 (insert (here (codes "T")) (num 1 ∷ []))
    ∷ at 1 1 (stmts.Update (over (codes "T") (codes "LA")) (set (codes "V") (literal (text (codes "new"))) ∷ []) (equal (codes "K") (num 1) ∷ []))
    ∷ commands.LoseNext kind_names.Committed 1 2
    ∷ at 1 1 commit
    ∷ commands.Stop 2
    ∷ commands.Start 2
    ∷ at 2 1 (stmts.Update (here (codes "T")) (set (codes "V") (literal (text (codes "new"))) ∷ []) (equal (codes "K") (num 2) ∷ []))
    ∷ commands.Reco 2
    ∷ at 2 1 (stmts.Update (here (codes "T")) (set (codes "V") (literal (text (codes "new"))) ∷ []) (equal (codes "K") (num 2) ∷ []))
    ∷ [])))
    ≡
    codes "1 ok"
    ∷ codes "2 ok"
    ∷ codes "3 Table created."
    ∷ codes "4 1 row created."
    ∷ codes "5 1 row created."
    ∷ codes "6 Commit complete."
    ∷ codes "7 Table created."
    ∷ codes "8 Database link created."
    ∷ codes "9 1 row created."
    ∷ codes "10 1 row updated."
    ∷ codes "11 ok"
    ∷ codes "12 ORA-02053: transaction 1.1.1 committed, some remote DBs may be in-doubt"
    ∷ codes "13 ok"
    ∷ codes "14 ok"
    ∷ codes "15 ORA-30036: unable to extend segment by 1 in undo tablespace 'UNDOTBS1'"
    ∷ codes "16 ok"
    ∷ codes "17 1 row updated."
    ∷ []
unfolding playing
undo_in_doubt_outlasts_a_restart = refl
