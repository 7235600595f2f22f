-- What plays of the topic crash share.
use Rattle.std.proofs.Common.{ℕ, List, [], ◌∷◌, codes}
use Rattle.node_rules.specs.Data.{Place}
use Rattle.node_rules.specs.Data.stmts
use Rattle.run_rules.specs.Data.{Command}
use Rattle.run_rules.specs.Data.commands
use Rattle.plays.proofs.Script.{place, number_column, number_key, text_key, table, link, here, over, num, text, minus, set, equal, insert, rows, commit, node, at}

abbrev pub names_1 : List (List ℕ)
names_1 = codes "SALES" ∷ codes "WAREHOUSE" ∷ codes "HQ" ∷ []

abbrev pub names_2 : List (List ℕ)
names_2 = codes "SALES" ∷ []

abbrev pub names_3 : List (List ℕ)
names_3 = codes "A" ∷ []

abbrev pub places_1 : List Place
places_1 = place names_1 1 100 ∷ place names_1 2 140 ∷ place names_1 3 75 ∷ []

abbrev pub places_2 : List Place
places_2 = place names_2 1 1 ∷ []

abbrev pub places_3 : List Place
places_3 = place names_3 1 1 ∷ []

abbrev pub opening_1 : List Command
opening_1 =
    node (codes "SALES") 100
    ∷ node (codes "WAREHOUSE") 140
    ∷ node (codes "HQ") 75
    ∷ at 1 1 (table (codes "ORDERS") (number_key (codes "ID") ∷ number_column (codes "QTY") ∷ []))
    ∷ at 1 1 (link (codes "WH") (codes "WAREHOUSE"))
    ∷ at 1 1 (link (codes "HQ") (codes "HQ"))
    ∷ at 2 1 (table (codes "STOCK") (text_key (codes "ITEM") 20 ∷ number_column (codes "N") ∷ []))
    ∷ at 2 1 (insert (here (codes "STOCK")) (text (codes "BOLT") ∷ num 50 ∷ []))
    ∷ at 2 1 commit
    ∷ at 3 1 (table (codes "LEDGER") (number_key (codes "ID") ∷ number_column (codes "AMOUNT") ∷ []))
    ∷ at 1 1 (insert (here (codes "ORDERS")) (num 1 ∷ num 10 ∷ []))
    ∷ at 1 1 (stmts.Update (over (codes "STOCK") (codes "WH")) (set (codes "N") (minus (codes "N") 10) ∷ []) (equal (codes "ITEM") (text (codes "BOLT")) ∷ []))
    ∷ at 1 1 (insert (over (codes "LEDGER") (codes "HQ")) (num 1 ∷ num 250 ∷ []))
    ∷ []

abbrev pub opening_1_lines : List (List ℕ)
opening_1_lines =
    codes "1 ok"
    ∷ codes "2 ok"
    ∷ codes "3 ok"
    ∷ codes "4 Table created."
    ∷ codes "5 Database link created."
    ∷ codes "6 Database link created."
    ∷ codes "7 Table created."
    ∷ codes "8 1 row created."
    ∷ codes "9 Commit complete."
    ∷ codes "10 Table created."
    ∷ codes "11 1 row created."
    ∷ codes "12 1 row updated."
    ∷ codes "13 1 row created."
    ∷ []

abbrev pub ending_1 : List Command
ending_1 =
    commands.Reco 1
    ∷ commands.Reco 2
    ∷ commands.Reco 3
    ∷ commands.Reco 1
    ∷ commands.Reco 2
    ∷ commands.Reco 3
    ∷ at 1 2 (rows (here (codes "ORDERS")) [])
    ∷ at 2 2 (rows (here (codes "STOCK")) [])
    ∷ at 3 2 (rows (here (codes "LEDGER")) [])
    ∷ []

abbrev pub ending_1_lines_1 : List (List ℕ)
ending_1_lines_1 =
    codes "17 ok"
    ∷ codes "18 ok"
    ∷ codes "19 ok"
    ∷ codes "20 ok"
    ∷ codes "21 ok"
    ∷ codes "22 ok"
    ∷ codes "23 no rows selected"
    ∷ codes "24 ITEM|N"
    ∷ codes "24 'BOLT'|50"
    ∷ codes "24 1 row selected."
    ∷ codes "25 no rows selected"
    ∷ []

abbrev pub ending_1_lines_2 : List (List ℕ)
ending_1_lines_2 =
    codes "17 ok"
    ∷ codes "18 ok"
    ∷ codes "19 ok"
    ∷ codes "20 ok"
    ∷ codes "21 ok"
    ∷ codes "22 ok"
    ∷ codes "23 ID|QTY"
    ∷ codes "23 1|10"
    ∷ codes "23 1 row selected."
    ∷ codes "24 ITEM|N"
    ∷ codes "24 'BOLT'|40"
    ∷ codes "24 1 row selected."
    ∷ codes "25 ID|AMOUNT"
    ∷ codes "25 1|250"
    ∷ codes "25 1 row selected."
    ∷ []

abbrev pub ending_2 : List Command
ending_2 =
    at 1 1 commit
    ∷ commands.Start 2
    ∷ commands.Reco 1
    ∷ at 1 1 (rows (here (codes "ORDERS")) [])
    ∷ at 3 2 (rows (here (codes "LEDGER")) [])
    ∷ at 2 1 (rows (here (codes "STOCK")) [])
    ∷ []

abbrev pub ending_2_lines_1 : List (List ℕ)
ending_2_lines_1 =
    codes "15 ORA-02054: transaction 1.1.1 in-doubt"
    ∷ codes "15 node WAREHOUSE stopped"
    ∷ codes "16 ok"
    ∷ codes "17 ok"
    ∷ codes "18 no rows selected"
    ∷ codes "19 no rows selected"
    ∷ codes "20 ITEM|N"
    ∷ codes "20 'BOLT'|50"
    ∷ codes "20 1 row selected."
    ∷ []

abbrev pub ending_2_lines_2 : List (List ℕ)
ending_2_lines_2 =
    codes "15 ORA-02054: transaction 1.1.1 in-doubt"
    ∷ codes "15 node WAREHOUSE stopped"
    ∷ codes "16 ok"
    ∷ codes "17 ok"
    ∷ codes "18 ID|QTY"
    ∷ codes "18 1|10"
    ∷ codes "18 1 row selected."
    ∷ codes "19 ID|AMOUNT"
    ∷ codes "19 1|250"
    ∷ codes "19 1 row selected."
    ∷ codes "20 ITEM|N"
    ∷ codes "20 'BOLT'|40"
    ∷ codes "20 1 row selected."
    ∷ []
