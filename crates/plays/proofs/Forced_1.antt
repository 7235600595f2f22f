-- Plays of the topic forced.
use Rattle.std.proofs.Common.{◌≡◌, [], ◌∷◌, ◌++◌, Some, None, codes, refl}
use Rattle.run_rules.specs.Report.{report}
use Rattle.node_rules.specs.Data.stmts
use Rattle.node_rules.specs.Data.advices
use Rattle.run_rules.specs.Data.kind_names
use Rattle.run_rules.specs.Data.commands
use Rattle.plays.proofs.Script.{link, here, over, num, text, literal, minus, set, equal, insert, rows, commit, commit_comment, at, played, all_lines}
use Rattle.plays.proofs.Playing.{playing}
use Rattle.plays.proofs.Forced_shared.{places_1, places_2, opening_1, opening_1_lines, opening_2, opening_2_lines}

-- the session's advice and the comment of COMMIT stand in the row of a prepared branch
advice_and_comment_in_the_view :
    report (all_lines (played 318 places_1 (opening_1 ++
    at 1 1 (stmts.Advise (Some advices.Commit))
    ∷ at 1 1 (insert (here (codes "ORDERS")) (num 1 ∷ num 10 ∷ []))
    ∷ at 1 1 (stmts.Update (over (codes "STOCK") (codes "WH")) (set (codes "N") (minus (codes "N") 10) ∷ []) (equal (codes "ITEM") (text (codes "BOLT")) ∷ []))
    ∷ at 1 1 (insert (over (codes "LEDGER") (codes "HQ")) (num 1 ∷ num 250 ∷ []))
    ∷ commands.LoseNext kind_names.Committed 1 3
    ∷ at 1 1 (commit_comment (codes "order 1"))
    ∷ commands.ShowPending 3
    ∷ [])))
    ≡ opening_1_lines ++
    codes "11 Session altered."
    ∷ codes "12 1 row created."
    ∷ codes "13 1 row updated."
    ∷ codes "14 1 row created."
    ∷ codes "15 ok"
    ∷ codes "16 ORA-02053: transaction 1.1.1 committed, some remote DBs may be in-doubt"
    ∷ codes "17 LOCAL_TRAN_ID|GLOBAL_TRAN_ID|STATE|MIXED|ADVICE|TRAN_COMMENT|COMMIT#"
    ∷ codes "17 1.65.1|SALES.00000001.1.1.1|prepared|no|C|order 1|"
    ∷ codes "17 1 row selected."
    ∷ []
unfolding playing
advice_and_comment_in_the_view = refl

-- a prepared branch is forced to commit by its global id; it meets the commit and its row goes
commit_with_the_commit_is_not_mixed :
    report (all_lines (played 360 places_1 (opening_1 ++
    at 1 1 (insert (here (codes "ORDERS")) (num 1 ∷ num 10 ∷ []))
    ∷ at 1 1 (stmts.Update (over (codes "STOCK") (codes "WH")) (set (codes "N") (minus (codes "N") 10) ∷ []) (equal (codes "ITEM") (text (codes "BOLT")) ∷ []))
    ∷ at 1 1 (insert (over (codes "LEDGER") (codes "HQ")) (num 1 ∷ num 250 ∷ []))
    ∷ commands.LoseNext kind_names.Committed 1 3
    ∷ at 1 1 commit
    ∷ at 3 2 (stmts.CommitForce (codes "9.9.9") None)
    ∷ at 3 2 (stmts.CommitForce (codes "SALES.00000001.1.1.1") None)
    ∷ at 3 2 (stmts.CommitForce (codes "1.65.1") None)
    ∷ commands.Reco 3
    ∷ commands.ShowPending 3
    ∷ [])))
    ≡ opening_1_lines ++
    codes "11 1 row created."
    ∷ codes "12 1 row updated."
    ∷ codes "13 1 row created."
    ∷ codes "14 ok"
    ∷ codes "15 ORA-02053: transaction 1.1.1 committed, some remote DBs may be in-doubt"
    ∷ codes "16 ORA-02058: no prepared transaction found with ID 9.9.9"
    ∷ codes "17 Commit complete."
    ∷ codes "18 ORA-02058: no prepared transaction found with ID 1.65.1"
    ∷ codes "19 ok"
    ∷ codes "20 no rows selected"
    ∷ []
unfolding playing
commit_with_the_commit_is_not_mixed = refl

-- a branch that was forced to commit knows no decision: the branch beyond it stays in doubt, until the commit has come
forced_outcome_is_not_told_to_others :
    report (all_lines (played 458 places_2 (opening_2 ++
    commands.Cut 1 3
    ∷ at 3 2 (stmts.CommitForce (codes "1.65.1") None)
    ∷ commands.Reco 4
    ∷ commands.ShowPending 4
    ∷ commands.Reco 3
    ∷ commands.ShowPending 4
    ∷ commands.ShowPending 3
    ∷ commands.Join 1 3
    ∷ commands.Reco 3
    ∷ commands.ShowPending 4
    ∷ commands.ShowPending 3
    ∷ [])))
    ≡ opening_2_lines ++
    codes "17 ok"
    ∷ codes "18 Commit complete."
    ∷ codes "19 ok"
    ∷ codes "20 LOCAL_TRAN_ID|GLOBAL_TRAN_ID|STATE|MIXED|ADVICE|TRAN_COMMENT|COMMIT#"
    ∷ codes "20 1.65.1|R.00000001.1.1.1|prepared|no|||"
    ∷ codes "20 1 row selected."
    ∷ codes "21 ok"
    ∷ codes "22 LOCAL_TRAN_ID|GLOBAL_TRAN_ID|STATE|MIXED|ADVICE|TRAN_COMMENT|COMMIT#"
    ∷ codes "22 1.65.1|R.00000001.1.1.1|prepared|no|||"
    ∷ codes "22 1 row selected."
    ∷ codes "23 LOCAL_TRAN_ID|GLOBAL_TRAN_ID|STATE|MIXED|ADVICE|TRAN_COMMENT|COMMIT#"
    ∷ codes "23 1.65.1|R.00000001.1.1.1|forced commit|no|||1"
    ∷ codes "23 1 row selected."
    ∷ codes "24 ok"
    ∷ codes "25 ok"
    ∷ codes "26 no rows selected"
    ∷ codes "27 no rows selected"
    ∷ []
unfolding playing
forced_outcome_is_not_told_to_others = refl

-- two prepared branches of one transaction at one node cannot be forced by the global id
global_id_names_several_branches :
    report (all_lines (played 318 places_1 (opening_1 ++
    at 1 1 (link (codes "HQ2") (codes "HQ"))
    ∷ at 1 1 (insert (over (codes "LEDGER") (codes "HQ")) (num 1 ∷ num 1 ∷ []))
    ∷ at 1 1 (insert (over (codes "LEDGER") (codes "HQ2")) (num 2 ∷ num 2 ∷ []))
    ∷ at 1 1 (stmts.Update (over (codes "STOCK") (codes "WH")) (set (codes "N") (literal (num 1)) ∷ []) [])
    ∷ commands.LoseNext kind_names.Committed 2 1
    ∷ at 1 1 commit
    ∷ at 3 1 (stmts.CommitForce (codes "SALES.00000001.1.1.1") None)
    ∷ [])))
    ≡ opening_1_lines ++
    codes "11 Database link created."
    ∷ codes "12 1 row created."
    ∷ codes "13 1 row created."
    ∷ codes "14 1 row updated."
    ∷ codes "15 ok"
    ∷ codes "16 ORA-02054: transaction 1.1.1 in-doubt"
    ∷ codes "17 DTX-07: ID SALES.00000001.1.1.1 names several branches"
    ∷ []
unfolding playing
global_id_names_several_branches = refl

-- a row of a commit that a lost node never acknowledges is purged; the branch still answers, and a prepared row is not purged
lost_entry_is_purged :
    report (all_lines (played 472 places_1 (opening_1 ++
    at 1 1 (insert (here (codes "ORDERS")) (num 1 ∷ num 10 ∷ []))
    ∷ at 1 1 (stmts.Update (over (codes "STOCK") (codes "WH")) (set (codes "N") (minus (codes "N") 10) ∷ []) (equal (codes "ITEM") (text (codes "BOLT")) ∷ []))
    ∷ at 1 1 (insert (over (codes "LEDGER") (codes "HQ")) (num 1 ∷ num 250 ∷ []))
    ∷ commands.LoseNext kind_names.Committed 1 3
    ∷ at 1 1 commit
    ∷ commands.Stop 3
    ∷ commands.ShowPending 1
    ∷ at 1 1 (stmts.PurgeMixed (codes "1.1.1"))
    ∷ at 1 1 (stmts.PurgeLost (codes "1.1.1"))
    ∷ commands.ShowPending 1
    ∷ commands.ShowNeighbors 1
    ∷ at 1 1 (stmts.PurgeLost (codes "1.1.1"))
    ∷ commands.Start 3
    ∷ commands.ShowPending 3
    ∷ at 3 1 (stmts.PurgeLost (codes "1.65.1"))
    ∷ commands.Reco 3
    ∷ commands.ShowPending 3
    ∷ at 3 2 (rows (here (codes "LEDGER")) [])
    ∷ [])))
    ≡ opening_1_lines ++
    codes "11 1 row created."
    ∷ codes "12 1 row updated."
    ∷ codes "13 1 row created."
    ∷ codes "14 ok"
    ∷ codes "15 ORA-02053: transaction 1.1.1 committed, some remote DBs may be in-doubt"
    ∷ codes "16 ok"
    ∷ codes "17 LOCAL_TRAN_ID|GLOBAL_TRAN_ID|STATE|MIXED|ADVICE|TRAN_COMMENT|COMMIT#"
    ∷ codes "17 1.1.1|SALES.00000001.1.1.1|committed|no|||2"
    ∷ codes "17 1 row selected."
    ∷ codes "18 DTX-06: purge of 1.1.1 refused"
    ∷ codes "19 PL/SQL procedure successfully completed."
    ∷ codes "20 no rows selected"
    ∷ codes "21 no rows selected"
    ∷ codes "22 DTX-06: purge of 1.1.1 refused"
    ∷ codes "23 ok"
    ∷ codes "24 LOCAL_TRAN_ID|GLOBAL_TRAN_ID|STATE|MIXED|ADVICE|TRAN_COMMENT|COMMIT#"
    ∷ codes "24 1.65.1|SALES.00000001.1.1.1|prepared|no|||"
    ∷ codes "24 1 row selected."
    ∷ codes "25 DTX-06: purge of 1.65.1 refused"
    ∷ codes "26 ok"
    ∷ codes "27 no rows selected"
    ∷ codes "28 ID|AMOUNT"
    ∷ codes "28 1|250"
    ∷ codes "28 1 row selected."
    ∷ []
unfolding playing
lost_entry_is_purged = refl

-- a mixed branch that has forgotten keeps its row and still tells the branch beyond it to forget
mixed_branch_that_forgot_answers_those_beyond :
    report (all_lines (played 388 places_2 (opening_2 ++
    at 3 2 (stmts.RollbackForce (codes "1.65.1"))
    ∷ commands.LoseNext kind_names.Forgotten 3 4
    ∷ commands.Reco 3
    ∷ commands.ShowPending 4
    ∷ commands.Reco 4
    ∷ commands.ShowPending 4
    ∷ [])))
    ≡ opening_2_lines ++
    codes "17 Rollback complete."
    ∷ codes "18 ok"
    ∷ codes "19 ok"
    ∷ codes "20 LOCAL_TRAN_ID|GLOBAL_TRAN_ID|STATE|MIXED|ADVICE|TRAN_COMMENT|COMMIT#"
    ∷ codes "20 1.65.1|R.00000001.1.1.1|committed|no|||1"
    ∷ codes "20 1 row selected."
    ∷ codes "21 ok"
    ∷ codes "22 no rows selected"
    ∷ []
unfolding playing
mixed_branch_that_forgot_answers_those_beyond = refl

-- a query between a forced rollback and the decision sees the rows of the rollback, and so does one after it
query_between_a_forced_rollback_and_the_decision :
    report (all_lines (played 360 places_1 (opening_1 ++
    at 1 1 (insert (here (codes "ORDERS")) (num 1 ∷ num 10 ∷ []))
    ∷ at 1 1 (stmts.Update (over (codes "STOCK") (codes "WH")) (set (codes "N") (minus (codes "N") 10) ∷ []) (equal (codes "ITEM") (text (codes "BOLT")) ∷ []))
    ∷ at 1 1 (insert (over (codes "LEDGER") (codes "HQ")) (num 1 ∷ num 250 ∷ []))
    ∷ commands.LoseNext kind_names.Committed 1 3
    ∷ at 1 1 commit
    ∷ at 3 2 (stmts.RollbackForce (codes "1.65.1"))
    ∷ at 3 2 (rows (here (codes "LEDGER")) [])
    ∷ commands.Reco 3
    ∷ at 3 2 (rows (here (codes "LEDGER")) [])
    ∷ at 1 1 (rows (here (codes "ORDERS")) [])
    ∷ [])))
    ≡ opening_1_lines ++
    codes "11 1 row created."
    ∷ codes "12 1 row updated."
    ∷ codes "13 1 row created."
    ∷ codes "14 ok"
    ∷ codes "15 ORA-02053: transaction 1.1.1 committed, some remote DBs may be in-doubt"
    ∷ codes "16 Rollback complete."
    ∷ codes "17 no rows selected"
    ∷ codes "18 ok"
    ∷ codes "19 no rows selected"
    ∷ codes "20 ID|QTY"
    ∷ codes "20 1|10"
    ∷ codes "20 1 row selected."
    ∷ []
unfolding playing
query_between_a_forced_rollback_and_the_decision = refl

-- a prepared branch is forced to roll back; it meets the commit, is mixed, and is purged once
rollback_against_the_commit_is_mixed :
    report (all_lines (played 416 places_1 (opening_1 ++
    at 1 1 (insert (here (codes "ORDERS")) (num 1 ∷ num 10 ∷ []))
    ∷ at 1 1 (stmts.Update (over (codes "STOCK") (codes "WH")) (set (codes "N") (minus (codes "N") 10) ∷ []) (equal (codes "ITEM") (text (codes "BOLT")) ∷ []))
    ∷ at 1 1 (insert (over (codes "LEDGER") (codes "HQ")) (num 1 ∷ num 250 ∷ []))
    ∷ commands.LoseNext kind_names.Committed 1 3
    ∷ at 1 1 commit
    ∷ at 3 2 (stmts.RollbackForce (codes "1.65.1"))
    ∷ commands.ShowPending 3
    ∷ commands.Reco 3
    ∷ commands.ShowPending 3
    ∷ at 3 2 (rows (here (codes "LEDGER")) [])
    ∷ at 1 1 (rows (here (codes "ORDERS")) [])
    ∷ at 3 2 (stmts.PurgeMixed (codes "1.65.1"))
    ∷ commands.ShowPending 3
    ∷ at 3 2 (stmts.PurgeMixed (codes "1.65.1"))
    ∷ [])))
    ≡ opening_1_lines ++
    codes "11 1 row created."
    ∷ codes "12 1 row updated."
    ∷ codes "13 1 row created."
    ∷ codes "14 ok"
    ∷ codes "15 ORA-02053: transaction 1.1.1 committed, some remote DBs may be in-doubt"
    ∷ codes "16 Rollback complete."
    ∷ codes "17 LOCAL_TRAN_ID|GLOBAL_TRAN_ID|STATE|MIXED|ADVICE|TRAN_COMMENT|COMMIT#"
    ∷ codes "17 1.65.1|SALES.00000001.1.1.1|forced rollback|no|||"
    ∷ codes "17 1 row selected."
    ∷ codes "18 ok"
    ∷ codes "19 LOCAL_TRAN_ID|GLOBAL_TRAN_ID|STATE|MIXED|ADVICE|TRAN_COMMENT|COMMIT#"
    ∷ codes "19 1.65.1|SALES.00000001.1.1.1|forced rollback|yes|||"
    ∷ codes "19 1 row selected."
    ∷ codes "20 no rows selected"
    ∷ codes "21 ID|QTY"
    ∷ codes "21 1|10"
    ∷ codes "21 1 row selected."
    ∷ codes "22 PL/SQL procedure successfully completed."
    ∷ codes "23 no rows selected"
    ∷ codes "24 DTX-06: purge of 1.65.1 refused"
    ∷ []
unfolding playing
rollback_against_the_commit_is_mixed = refl
