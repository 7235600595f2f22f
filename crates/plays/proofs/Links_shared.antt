-- What plays of the topic links share.
use Rattle.std.proofs.Common.{ℕ, List, [], ◌∷◌, codes}
use Rattle.node_rules.specs.Data.{Place}
use Rattle.run_rules.specs.Data.{Command}
use Rattle.plays.proofs.Script.{place, place_within, number_column, number_key, text_key, table, link, here, over, num, text, insert, commit, node, at, hold}

abbrev pub names_1 : List (List ℕ)
names_1 = codes "R" ∷ codes "A" ∷ []

abbrev pub names_2 : List (List ℕ)
names_2 = codes "SALES" ∷ codes "WAREHOUSE" ∷ codes "HQ" ∷ []

abbrev pub names_3 : List (List ℕ)
names_3 = codes "R" ∷ codes "A" ∷ codes "B" ∷ []

abbrev pub names_4 : List (List ℕ)
names_4 = codes "R" ∷ codes "A" ∷ codes "B" ∷ codes "C" ∷ []

abbrev pub names_5 : List (List ℕ)
names_5 = codes "R" ∷ codes "B" ∷ codes "C" ∷ []

abbrev pub places_1 : List Place
places_1 = place names_1 1 1 ∷ place names_1 2 1 ∷ []

abbrev pub places_2 : List Place
places_2 = place names_2 1 100 ∷ place names_2 2 140 ∷ place names_2 3 75 ∷ []

abbrev pub places_3 : List Place
places_3 = place_within names_3 1 1 1 64 ∷ place names_3 2 1 ∷ place names_3 3 1 ∷ []

abbrev pub places_4 : List Place
places_4 = place names_4 1 1 ∷ place names_4 2 100 ∷ place names_4 3 50 ∷ place names_4 4 200 ∷ []

abbrev pub places_5 : List Place
places_5 = place names_5 1 1 ∷ place names_5 2 1 ∷ place names_5 3 1 ∷ []

abbrev pub opening_1 : List Command
opening_1 =
    node (codes "R") 1
    ∷ node (codes "A") 1
    ∷ at 2 1 (table (codes "T") (number_key (codes "K") ∷ number_column (codes "N") ∷ []))
    ∷ at 1 1 (link (codes "LA") (codes "A"))
    ∷ hold
    ∷ []

abbrev pub opening_1_lines : List (List ℕ)
opening_1_lines =
    codes "1 ok"
    ∷ codes "2 ok"
    ∷ codes "3 Table created."
    ∷ codes "4 Database link created."
    ∷ codes "5 ok"
    ∷ []

abbrev pub opening_2 : List Command
opening_2 =
    node (codes "SALES") 100
    ∷ node (codes "WAREHOUSE") 140
    ∷ node (codes "HQ") 75
    ∷ at 1 1 (table (codes "ORDERS") (number_key (codes "ID") ∷ number_column (codes "QTY") ∷ []))
    ∷ at 1 1 (link (codes "WH") (codes "WAREHOUSE"))
    ∷ at 1 1 (link (codes "HQ") (codes "HQ"))
    ∷ at 2 1 (table (codes "STOCK") (text_key (codes "ITEM") 20 ∷ number_column (codes "N") ∷ []))
    ∷ at 2 1 (insert (here (codes "STOCK")) (text (codes "BOLT") ∷ num 50 ∷ []))
    ∷ at 2 1 commit
    ∷ at 3 1 (table (codes "LEDGER") (number_key (codes "ID") ∷ number_column (codes "AMOUNT") ∷ []))
    ∷ []

abbrev pub opening_2_lines : List (List ℕ)
opening_2_lines =
    codes "1 ok"
    ∷ codes "2 ok"
    ∷ codes "3 ok"
    ∷ codes "4 Table created."
    ∷ codes "5 Database link created."
    ∷ codes "6 Database link created."
    ∷ codes "7 Table created."
    ∷ codes "8 1 row created."
    ∷ codes "9 Commit complete."
    ∷ codes "10 Table created."
    ∷ []

abbrev pub opening_3 : List Command
opening_3 =
    node (codes "R") 1
    ∷ node (codes "A") 1
    ∷ at 2 1 (table (codes "T") (number_key (codes "K") ∷ number_column (codes "N") ∷ []))
    ∷ at 1 1 (link (codes "LA") (codes "A"))
    ∷ at 1 1 (insert (over (codes "T") (codes "LA")) (num 1 ∷ num 10 ∷ []))
    ∷ []

abbrev pub opening_3_lines : List (List ℕ)
opening_3_lines =
    codes "1 ok"
    ∷ codes "2 ok"
    ∷ codes "3 Table created."
    ∷ codes "4 Database link created."
    ∷ codes "5 1 row created."
    ∷ []
