-- Plays of the topic recovery.
use Rattle.std.proofs.Common.{◌≡◌, ℕ, true, false, List, [], ◌∷◌, codes, refl}
use Rattle.run_rules.specs.Report.{report}
use Rattle.node_rules.specs.Data.{Place}
use Rattle.node_rules.specs.Data.stmts
use Rattle.run_rules.specs.Data.kind_names
use Rattle.run_rules.specs.Data.commands
use Rattle.plays.proofs.Script.{place, place_within, number_column, number_key, text_key, table, link, here, over, num, text, minus, set, equal, insert, commit, node, at, played, all_lines}
use Rattle.plays.proofs.Playing.{playing}

abbrev names_1 : List (List ℕ)
names_1 = codes "A" ∷ []

abbrev names_2 : List (List ℕ)
names_2 = codes "SALES" ∷ codes "WAREHOUSE" ∷ codes "HQ" ∷ []

abbrev places_1 : List Place
places_1 = place names_1 1 1 ∷ []

abbrev places_2 : List Place
places_2 = place names_2 1 100 ∷ place names_2 2 140 ∷ place_within names_2 3 75 4 1 ∷ []

-- recovery that is switched off stays off over a restart, until it is switched on
switched_off_recovery_survives_a_restart :
    report (all_lines (played 192 places_1 (
    node (codes "A") 1
    ∷ at 1 1 (stmts.Recovery false)
    ∷ commands.Reco 1
    ∷ commands.Stop 1
    ∷ commands.Start 1
    ∷ commands.Reco 1
    ∷ at 1 1 (stmts.Recovery true)
    ∷ commands.Reco 1
    ∷ [])))
    ≡
    codes "1 ok"
    ∷ codes "2 System altered."
    ∷ codes "3 DTX-12: distributed recovery is disabled"
    ∷ codes "4 ok"
    ∷ codes "5 ok"
    ∷ codes "6 DTX-12: distributed recovery is disabled"
    ∷ codes "7 System altered."
    ∷ codes "8 ok"
    ∷ []
unfolding playing
switched_off_recovery_survives_a_restart = refl

-- a start makes the undo of a prepared branch again, which holds the only extent until recovery
undo_of_a_branch_in_doubt_survives_a_restart :
    report (all_lines (played 374 places_2 (
    node (codes "SALES") 100
    ∷ node (codes "WAREHOUSE") 140
    ∷ commands.Node (codes "HQ") 75 4 1
    ∷ at 1 1 (table (codes "ORDERS") (number_key (codes "ID") ∷ number_column (codes "QTY") ∷ []))
    ∷ at 1 1 (link (codes "WH") (codes "WAREHOUSE"))
    ∷ at 1 1 (link (codes "HQ") (codes "HQ"))
    ∷ at 2 1 (table (codes "STOCK") (text_key (codes "ITEM") 20 ∷ number_column (codes "N") ∷ []))
    ∷ at 2 1 (insert (here (codes "STOCK")) (text (codes "BOLT") ∷ num 50 ∷ []))
    ∷ at 2 1 commit
    ∷ at 3 1 (table (codes "LEDGER") (number_key (codes "ID") ∷ number_column (codes "AMOUNT") ∷ []))
    ∷ at 1 1 (insert (here (codes "ORDERS")) (num 1 ∷ num 10 ∷ []))
    ∷ at 1 1 (stmts.Update (over (codes "STOCK") (codes "WH")) (set (codes "N") (minus (codes "N") 10) ∷ []) (equal (codes "ITEM") (text (codes "BOLT")) ∷ []))
    ∷ at 1 1 (insert (over (codes "LEDGER") (codes "HQ")) (num 1 ∷ num 250 ∷ []))
    ∷ commands.LoseNext kind_names.Committed 1 3
    ∷ at 1 1 commit
    ∷ commands.Stop 3
    ∷ commands.Start 3
    ∷ commands.ShowUndo 3
    ∷ at 3 2 (insert (here (codes "LEDGER")) (num 2 ∷ num 1 ∷ []))
    ∷ commands.Reco 3
    ∷ at 3 2 (insert (here (codes "LEDGER")) (num 2 ∷ num 1 ∷ []))
    ∷ [])))
    ≡
    codes "1 ok"
    ∷ codes "2 ok"
    ∷ codes "3 ok"
    ∷ codes "4 Table created."
    ∷ codes "5 Database link created."
    ∷ codes "6 Database link created."
    ∷ codes "7 Table created."
    ∷ codes "8 1 row created."
    ∷ codes "9 Commit complete."
    ∷ codes "10 Table created."
    ∷ codes "11 1 row created."
    ∷ codes "12 1 row updated."
    ∷ codes "13 1 row created."
    ∷ codes "14 ok"
    ∷ codes "15 ORA-02053: transaction 1.1.1 committed, some remote DBs may be in-doubt"
    ∷ codes "16 ok"
    ∷ codes "17 ok"
    ∷ codes "18 1.65.1 1"
    ∷ codes "18 00000000 064c454447455201000000000000000100"
    ∷ codes "19 ORA-30036: unable to extend segment by 1 in undo tablespace 'UNDOTBS1'"
    ∷ codes "20 ok"
    ∷ codes "21 1 row created."
    ∷ []
unfolding playing
undo_of_a_branch_in_doubt_survives_a_restart = refl
