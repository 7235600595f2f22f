-- Plays of the topic links.
use Rattle.std.proofs.Common.{◌≡◌, [], ◌∷◌, codes, refl}
use Rattle.run_rules.specs.Report.{report}
use Rattle.node_rules.specs.Data.stmts
use Rattle.run_rules.specs.Data.commands
use Rattle.plays.proofs.Script.{number_column, number_key, table, link, synonym, over, num, minus, set, insert, rows, commit, node, at, hold, let_go, pump, pump_all, played, all_lines}
use Rattle.plays.proofs.Playing.{playing}
use Rattle.plays.proofs.Links_shared.{places_4, places_5}

-- a branch at a restarted node is gone; the transaction takes a rollback alone; a cut link gives no answer
restarted_node_has_lost_the_branch :
    report (all_lines (played 346 places_4 (
    node (codes "R") 1
    ∷ node (codes "A") 100
    ∷ node (codes "B") 50
    ∷ node (codes "C") 200
    ∷ at 2 1 (table (codes "T") (number_key (codes "K") ∷ []))
    ∷ at 3 1 (table (codes "T") (number_key (codes "K") ∷ []))
    ∷ at 4 1 (table (codes "T") (number_key (codes "K") ∷ []))
    ∷ at 3 1 (link (codes "LC") (codes "C"))
    ∷ at 3 1 (synonym (codes "TC") (codes "T") (codes "LC"))
    ∷ at 1 1 (link (codes "LA") (codes "A"))
    ∷ at 1 1 (link (codes "LB") (codes "B"))
    ∷ at 1 1 (insert (over (codes "T") (codes "LA")) (num 1 ∷ []))
    ∷ commands.Stop 2
    ∷ commands.Start 2
    ∷ at 1 1 (insert (over (codes "T") (codes "LA")) (num 2 ∷ []))
    ∷ at 1 1 commit
    ∷ at 1 1 stmts.Rollback
    ∷ commands.Cut 1 2
    ∷ at 1 1 (insert (over (codes "T") (codes "LA")) (num 3 ∷ []))
    ∷ [])))
    ≡
    codes "1 ok"
    ∷ codes "2 ok"
    ∷ codes "3 ok"
    ∷ codes "4 ok"
    ∷ codes "5 Table created."
    ∷ codes "6 Table created."
    ∷ codes "7 Table created."
    ∷ codes "8 Database link created."
    ∷ codes "9 Synonym created."
    ∷ codes "10 Database link created."
    ∷ codes "11 Database link created."
    ∷ codes "12 1 row created."
    ∷ codes "13 ok"
    ∷ codes "14 ok"
    ∷ codes "15 DTX-08: branch at link LA is gone"
    ∷ codes "16 ORA-02067: transaction or savepoint rollback required"
    ∷ codes "17 Rollback complete."
    ∷ codes "18 ok"
    ∷ codes "19 DTX-03: no answer from link LA"
    ∷ []
unfolding playing
restarted_node_has_lost_the_branch = refl

-- a local coordinator ignores the statement that it is working on and any before it, and answers the last one again
statement_under_way_comes_again :
    report (all_lines (played 360 places_5 (
    node (codes "R") 1
    ∷ node (codes "B") 1
    ∷ node (codes "C") 1
    ∷ at 3 1 (table (codes "T") (number_key (codes "K") ∷ number_column (codes "N") ∷ []))
    ∷ at 2 1 (link (codes "LC") (codes "C"))
    ∷ at 2 1 (synonym (codes "TC") (codes "T") (codes "LC"))
    ∷ at 1 1 (link (codes "LB") (codes "B"))
    ∷ at 1 1 (insert (over (codes "TC") (codes "LB")) (num 1 ∷ num 10 ∷ []))
    ∷ hold
    ∷ at 1 1 (stmts.Update (over (codes "TC") (codes "LB")) (set (codes "N") (minus (codes "N") 1) ∷ []) [])
    ∷ pump 1
    ∷ commands.Again 9
    ∷ commands.ShowNet
    ∷ pump_all
    ∷ commands.Again 3
    ∷ commands.ShowNet
    ∷ commands.Again 9
    ∷ commands.ShowNet
    ∷ let_go
    ∷ at 1 1 (rows (over (codes "TC") (codes "LB")) [])
    ∷ [])))
    ≡
    codes "1 ok"
    ∷ codes "2 ok"
    ∷ codes "3 ok"
    ∷ codes "4 Table created."
    ∷ codes "5 Database link created."
    ∷ codes "6 Synonym created."
    ∷ codes "7 Database link created."
    ∷ codes "8 1 row created."
    ∷ codes "9 ok"
    ∷ codes "10 waiting"
    ∷ codes "11 ok"
    ∷ codes "12 ok"
    ∷ codes "13 10 EXEC B C"
    ∷ codes "14 ok"
    ∷ codes "10 1 row updated."
    ∷ codes "15 ok"
    ∷ codes "16 no messages in flight"
    ∷ codes "17 ok"
    ∷ codes "18 13 REPLY B R"
    ∷ codes "19 ok"
    ∷ codes "20 K|N"
    ∷ codes "20 1|9"
    ∷ codes "20 1 row selected."
    ∷ []
unfolding playing
statement_under_way_comes_again = refl
