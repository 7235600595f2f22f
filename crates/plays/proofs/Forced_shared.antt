-- What plays of the topic forced share.
use Rattle.std.proofs.Common.{ℕ, List, [], ◌∷◌, codes}
use Rattle.node_rules.specs.Data.{Place}
use Rattle.run_rules.specs.Data.{Command}
use Rattle.run_rules.specs.Data.kind_names
use Rattle.run_rules.specs.Data.commands
use Rattle.plays.proofs.Script.{place, number_column, number_key, text_key, table, link, synonym, here, over, num, text, insert, commit, node, at}

abbrev pub names_1 : List (List ℕ)
names_1 = codes "SALES" ∷ codes "WAREHOUSE" ∷ codes "HQ" ∷ []

abbrev pub names_2 : List (List ℕ)
names_2 = codes "R" ∷ codes "A" ∷ codes "B" ∷ codes "C" ∷ []

abbrev pub places_1 : List Place
places_1 = place names_1 1 100 ∷ place names_1 2 140 ∷ place names_1 3 75 ∷ []

abbrev pub places_2 : List Place
places_2 = place names_2 1 1 ∷ place names_2 2 100 ∷ place names_2 3 50 ∷ place names_2 4 200 ∷ []

abbrev pub opening_1 : List Command
opening_1 =
    node (codes "SALES") 100
    ∷ node (codes "WAREHOUSE") 140
    ∷ node (codes "HQ") 75
    ∷ at 1 1 (table (codes "ORDERS") (number_key (codes "ID") ∷ number_column (codes "QTY") ∷ []))
    ∷ at 1 1 (link (codes "WH") (codes "WAREHOUSE"))
    ∷ at 1 1 (link (codes "HQ") (codes "HQ"))
    ∷ at 2 1 (table (codes "STOCK") (text_key (codes "ITEM") 20 ∷ number_column (codes "N") ∷ []))
    ∷ at 2 1 (insert (here (codes "STOCK")) (text (codes "BOLT") ∷ num 50 ∷ []))
    ∷ at 2 1 commit
    ∷ at 3 1 (table (codes "LEDGER") (number_key (codes "ID") ∷ number_column (codes "AMOUNT") ∷ []))
    ∷ []

abbrev pub opening_1_lines : List (List ℕ)
opening_1_lines =
    codes "1 ok"
    ∷ codes "2 ok"
    ∷ codes "3 ok"
    ∷ codes "4 Table created."
    ∷ codes "5 Database link created."
    ∷ codes "6 Database link created."
    ∷ codes "7 Table created."
    ∷ codes "8 1 row created."
    ∷ codes "9 Commit complete."
    ∷ codes "10 Table created."
    ∷ []

abbrev pub opening_2 : List Command
opening_2 =
    node (codes "R") 1
    ∷ node (codes "A") 100
    ∷ node (codes "B") 50
    ∷ node (codes "C") 200
    ∷ at 2 1 (table (codes "T") (number_key (codes "K") ∷ []))
    ∷ at 3 1 (table (codes "T") (number_key (codes "K") ∷ []))
    ∷ at 4 1 (table (codes "T") (number_key (codes "K") ∷ []))
    ∷ at 3 1 (link (codes "LC") (codes "C"))
    ∷ at 3 1 (synonym (codes "TC") (codes "T") (codes "LC"))
    ∷ at 1 1 (link (codes "LA") (codes "A"))
    ∷ at 1 1 (link (codes "LB") (codes "B"))
    ∷ at 1 1 (insert (over (codes "T") (codes "LA")) (num 1 ∷ []))
    ∷ at 1 1 (insert (over (codes "T") (codes "LB")) (num 1 ∷ []))
    ∷ at 1 1 (insert (over (codes "TC") (codes "LB")) (num 1 ∷ []))
    ∷ commands.LoseNext kind_names.Committed 1 3
    ∷ at 1 1 commit
    ∷ []

abbrev pub opening_2_lines : List (List ℕ)
opening_2_lines =
    codes "1 ok"
    ∷ codes "2 ok"
    ∷ codes "3 ok"
    ∷ codes "4 ok"
    ∷ codes "5 Table created."
    ∷ codes "6 Table created."
    ∷ codes "7 Table created."
    ∷ codes "8 Database link created."
    ∷ codes "9 Synonym created."
    ∷ codes "10 Database link created."
    ∷ codes "11 Database link created."
    ∷ codes "12 1 row created."
    ∷ codes "13 1 row created."
    ∷ codes "14 1 row created."
    ∷ codes "15 ok"
    ∷ codes "16 ORA-02053: transaction 1.1.1 committed, some remote DBs may be in-doubt"
    ∷ []
