-- Plays of the topic links.
use Rattle.std.proofs.Common.{◌≡◌, [], ◌∷◌, ◌++◌, codes, refl}
use Rattle.run_rules.specs.Report.{report}
use Rattle.node_rules.specs.Data.stmts
use Rattle.run_rules.specs.Data.kind_names
use Rattle.run_rules.specs.Data.commands
use Rattle.plays.proofs.Script.{number_column, number_key, table, link, here, over, num, text, literal, minus, set, equal, insert, rows, count, commit, node, at, hold, let_go, pump, pump_all, played, all_lines}
use Rattle.plays.proofs.Playing.{playing}
use Rattle.plays.proofs.Links_shared.{places_1, places_2, places_3, opening_1, opening_1_lines, opening_2, opening_2_lines, opening_3, opening_3_lines}

-- two calls that one PUMP ends are answered in the order of their commands, though the later call ends first
answers_of_earlier_calls_stand_by_number :
    report (all_lines (played 234 places_1 (opening_1 ++
    at 1 1 (count (over (codes "T") (codes "LA")) [])
    ∷ at 1 2 (rows (over (codes "T") (codes "LA")) [])
    ∷ commands.Deliver 2
    ∷ commands.Deliver 3
    ∷ commands.Deliver 4
    ∷ pump_all
    ∷ [])))
    ≡ opening_1_lines ++
    codes "6 waiting"
    ∷ codes "7 waiting"
    ∷ codes "8 ok"
    ∷ codes "9 ok"
    ∷ codes "10 ok"
    ∷ codes "11 ok"
    ∷ codes "6 COUNT(*)"
    ∷ codes "6 0"
    ∷ codes "6 1 row selected."
    ∷ codes "7 no rows selected"
    ∷ []
unfolding playing
answers_of_earlier_calls_stand_by_number = refl

-- a call that is out makes the session busy; its message is lost; it is given up once
held_call_given_up :
    report (all_lines (played 304 places_1 (
    node (codes "R") 1
    ∷ node (codes "A") 1
    ∷ at 2 1 (table (codes "T") (number_key (codes "K") ∷ []))
    ∷ at 1 1 (link (codes "LA") (codes "A"))
    ∷ hold
    ∷ at 1 1 (insert (over (codes "T") (codes "LA")) (num 1 ∷ []))
    ∷ at 1 1 commit
    ∷ commands.ShowNet
    ∷ commands.Lose 1
    ∷ commands.Lose 1
    ∷ commands.Deliver 1
    ∷ commands.Deliver 2
    ∷ commands.GiveUp 1 1
    ∷ commands.GiveUp 1 1
    ∷ at 1 1 stmts.Rollback
    ∷ let_go
    ∷ [])))
    ≡
    codes "1 ok"
    ∷ codes "2 ok"
    ∷ codes "3 Table created."
    ∷ codes "4 Database link created."
    ∷ codes "5 ok"
    ∷ codes "6 waiting"
    ∷ codes "7 DTX-04: session busy"
    ∷ codes "8 1 OPEN R A"
    ∷ codes "9 ok"
    ∷ codes "10 DTX-11: message 1 cannot be delivered"
    ∷ codes "11 DTX-11: message 1 cannot be delivered"
    ∷ codes "12 DTX-11: message 2 cannot be delivered"
    ∷ codes "13 ok"
    ∷ codes "6 DTX-03: no answer from link LA"
    ∷ codes "14 DTX-14: no call to give up"
    ∷ codes "15 Rollback complete."
    ∷ codes "16 ok"
    ∷ []
unfolding playing
held_call_given_up = refl

-- with delivery held two sessions update one remote row; the second meets the lock
held_updates_of_one_row :
    report (all_lines (played 290 places_2 (opening_2 ++
    hold
    ∷ at 1 1 (stmts.Update (over (codes "STOCK") (codes "WH")) (set (codes "N") (literal (num 45)) ∷ []) (equal (codes "ITEM") (text (codes "BOLT")) ∷ []))
    ∷ pump_all
    ∷ at 1 2 (stmts.Update (over (codes "STOCK") (codes "WH")) (set (codes "N") (literal (num 44)) ∷ []) (equal (codes "ITEM") (text (codes "BOLT")) ∷ []))
    ∷ pump_all
    ∷ [])))
    ≡ opening_2_lines ++
    codes "11 ok"
    ∷ codes "12 waiting"
    ∷ codes "13 ok"
    ∷ codes "12 1 row updated."
    ∷ codes "14 waiting"
    ∷ codes "15 ok"
    ∷ codes "14 ORA-02049: timeout: distributed transaction waiting for lock"
    ∷ []
unfolding playing
held_updates_of_one_row = refl

-- a link is opened, but the word of it is lost; the Open comes again, and the statement goes on at the branch that is there
lost_opened_and_open_comes_again :
    report (all_lines (played 262 places_1 (opening_1 ++
    at 1 1 (insert (over (codes "T") (codes "LA")) (num 1 ∷ num 10 ∷ []))
    ∷ pump 1
    ∷ commands.Lose 2
    ∷ commands.Again 1
    ∷ commands.ShowNet
    ∷ let_go
    ∷ at 1 1 commit
    ∷ commands.ShowBook
    ∷ [])))
    ≡ opening_1_lines ++
    codes "6 waiting"
    ∷ codes "7 ok"
    ∷ codes "8 ok"
    ∷ codes "9 ok"
    ∷ codes "10 3 OPENED A R"
    ∷ codes "11 ok"
    ∷ codes "6 1 row created."
    ∷ codes "12 Commit complete."
    ∷ codes "13 made A T"
    ∷ codes "13 sealed R 1.1.1 R.00000001.1.1.1 scn 0 changes 0"
    ∷ codes "13 decided A 1.65.1 R.00000001.1.1.1 scn 1 changes 1"
    ∷ codes "13 ended R 1.1.1 commit scn 1"
    ∷ []
unfolding playing
lost_opened_and_open_comes_again = refl

-- a statement whose reply is lost has run; its lock stays until the rollback
lost_reply_leaves_a_lock :
    report (all_lines (played 290 places_2 (opening_2 ++
    commands.LoseNext kind_names.Reply 2 1
    ∷ at 1 1 (stmts.Update (over (codes "STOCK") (codes "WH")) (set (codes "N") (literal (num 1)) ∷ []) [])
    ∷ at 2 2 (stmts.Update (here (codes "STOCK")) (set (codes "N") (literal (num 2)) ∷ []) [])
    ∷ at 1 1 stmts.Rollback
    ∷ at 2 2 (stmts.Update (here (codes "STOCK")) (set (codes "N") (literal (num 2)) ∷ []) [])
    ∷ [])))
    ≡ opening_2_lines ++
    codes "11 ok"
    ∷ codes "12 DTX-03: no answer from link WH"
    ∷ codes "13 ORA-02049: timeout: distributed transaction waiting for lock"
    ∷ codes "14 Rollback complete."
    ∷ codes "15 1 row updated."
    ∷ []
unfolding playing
lost_reply_leaves_a_lock = refl

-- a link made twice, a link that is not there, a link to no node, more links than the node allows
missing_and_too_many_links :
    report (all_lines (played 304 places_3 (
    commands.Node (codes "R") 1 1 64
    ∷ node (codes "A") 1
    ∷ node (codes "B") 1
    ∷ at 2 1 (table (codes "T") (number_key (codes "K") ∷ []))
    ∷ at 3 1 (table (codes "T") (number_key (codes "K") ∷ []))
    ∷ at 1 1 (link (codes "LA") (codes "A"))
    ∷ at 1 1 (link (codes "LA") (codes "B"))
    ∷ at 1 1 (link (codes "LB") (codes "B"))
    ∷ at 1 1 (link (codes "LX") (codes "NOWHERE"))
    ∷ at 1 1 (insert (over (codes "T") (codes "LA")) (num 1 ∷ []))
    ∷ at 1 1 (insert (over (codes "T") (codes "LB")) (num 1 ∷ []))
    ∷ at 1 1 (rows (over (codes "T") (codes "LC")) [])
    ∷ at 1 1 (rows (over (codes "T") (codes "LX")) [])
    ∷ at 1 1 (rows (over (codes "U") (codes "LA")) [])
    ∷ at 1 1 (rows (over (codes "T") (codes "LA")) [])
    ∷ at 1 1 stmts.Rollback
    ∷ [])))
    ≡
    codes "1 ok"
    ∷ codes "2 ok"
    ∷ codes "3 ok"
    ∷ codes "4 Table created."
    ∷ codes "5 Table created."
    ∷ codes "6 Database link created."
    ∷ codes "7 ORA-02011: duplicate database link name"
    ∷ codes "8 Database link created."
    ∷ codes "9 Database link created."
    ∷ codes "10 1 row created."
    ∷ codes "11 ORA-02020: too many database links in use"
    ∷ codes "12 ORA-02019: connection description for remote database not found"
    ∷ codes "13 ORA-02019: connection description for remote database not found"
    ∷ codes "14 ORA-00942: table or view does not exist"
    ∷ codes "15 K"
    ∷ codes "15 1"
    ∷ codes "15 1 row selected."
    ∷ codes "16 Rollback complete."
    ∷ []
unfolding playing
missing_and_too_many_links = refl

-- an order to lose the next Open is not used up by one that a cut loses, but by the first that would pass
order_to_lose_outlasts_a_cut :
    report (all_lines (played 248 places_1 (
    node (codes "R") 1
    ∷ node (codes "A") 1
    ∷ at 2 1 (table (codes "T") (number_key (codes "K") ∷ number_column (codes "N") ∷ []))
    ∷ at 1 1 (link (codes "LA") (codes "A"))
    ∷ commands.LoseNext kind_names.Open 1 2
    ∷ commands.Cut 1 2
    ∷ at 1 1 (insert (over (codes "T") (codes "LA")) (num 1 ∷ num 10 ∷ []))
    ∷ at 1 1 stmts.Rollback
    ∷ commands.Join 1 2
    ∷ at 1 1 (insert (over (codes "T") (codes "LA")) (num 1 ∷ num 10 ∷ []))
    ∷ at 1 1 stmts.Rollback
    ∷ at 1 1 (insert (over (codes "T") (codes "LA")) (num 1 ∷ num 10 ∷ []))
    ∷ [])))
    ≡
    codes "1 ok"
    ∷ codes "2 ok"
    ∷ codes "3 Table created."
    ∷ codes "4 Database link created."
    ∷ codes "5 ok"
    ∷ codes "6 ok"
    ∷ codes "7 DTX-03: no answer from link LA"
    ∷ codes "8 Rollback complete."
    ∷ codes "9 ok"
    ∷ codes "10 DTX-03: no answer from link LA"
    ∷ codes "11 Rollback complete."
    ∷ codes "12 1 row created."
    ∷ []
unfolding playing
order_to_lose_outlasts_a_cut = refl

-- a repeated statement message adds no second row; a cut link gives no answer and asks for a rollback
repeated_message_adds_no_row :
    report (all_lines (played 234 places_1 (
    node (codes "R") 1
    ∷ node (codes "A") 1
    ∷ at 2 1 (table (codes "T") (number_key (codes "K") ∷ []))
    ∷ at 1 1 (link (codes "LA") (codes "A"))
    ∷ at 1 1 (insert (over (codes "T") (codes "LA")) (num 1 ∷ []))
    ∷ commands.Again 3
    ∷ at 1 1 (count (over (codes "T") (codes "LA")) [])
    ∷ commands.Cut 1 2
    ∷ at 1 1 (rows (over (codes "T") (codes "LA")) [])
    ∷ at 1 1 (insert (over (codes "T") (codes "LA")) (num 2 ∷ []))
    ∷ at 1 1 stmts.Rollback
    ∷ [])))
    ≡
    codes "1 ok"
    ∷ codes "2 ok"
    ∷ codes "3 Table created."
    ∷ codes "4 Database link created."
    ∷ codes "5 1 row created."
    ∷ codes "6 ok"
    ∷ codes "7 COUNT(*)"
    ∷ codes "7 1"
    ∷ codes "7 1 row selected."
    ∷ codes "8 ok"
    ∷ codes "9 DTX-03: no answer from link LA"
    ∷ codes "10 ORA-02067: transaction or savepoint rollback required"
    ∷ codes "11 Rollback complete."
    ∷ []
unfolding playing
repeated_message_adds_no_row = refl

-- a repeated Exec of an UPDATE is answered again and not run again
repeated_update_runs_once :
    report (all_lines (played 192 places_1 (opening_3 ++
    at 1 1 (stmts.Update (over (codes "T") (codes "LA")) (set (codes "N") (minus (codes "N") 1) ∷ []) [])
    ∷ commands.Again 5
    ∷ at 1 1 (rows (over (codes "T") (codes "LA")) [])
    ∷ [])))
    ≡ opening_3_lines ++
    codes "6 1 row updated."
    ∷ codes "7 ok"
    ∷ codes "8 K|N"
    ∷ codes "8 1|9"
    ∷ codes "8 1 row selected."
    ∷ []
unfolding playing
repeated_update_runs_once = refl

-- while a statement waits for its Reply, that of the statement before comes again and is ignored
reply_of_an_earlier_call_comes_again :
    report (all_lines (played 220 places_1 (opening_3 ++
    hold
    ∷ at 1 1 (rows (over (codes "T") (codes "LA")) [])
    ∷ commands.Again 4
    ∷ commands.ShowNet
    ∷ pump_all
    ∷ [])))
    ≡ opening_3_lines ++
    codes "6 ok"
    ∷ codes "7 waiting"
    ∷ codes "8 ok"
    ∷ codes "9 5 EXEC R A"
    ∷ codes "10 ok"
    ∷ codes "7 K|N"
    ∷ codes "7 1|10"
    ∷ codes "7 1 row selected."
    ∷ []
unfolding playing
reply_of_an_earlier_call_comes_again = refl
