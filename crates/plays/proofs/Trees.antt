-- Plays of the topic trees.
use Rattle.std.proofs.Common.{◌≡◌, ℕ, List, [], ◌∷◌, ◌++◌, codes, refl}
use Rattle.run_rules.specs.Report.{report}
use Rattle.node_rules.specs.Data.{Place}
use Rattle.run_rules.specs.Data.{Command}
use Rattle.plays.proofs.Script.{place, number_key, table, link, synonym, here, num, insert, node, at, played, all_lines}
use Rattle.plays.proofs.Playing.{playing}

abbrev names_1 : List (List ℕ)
names_1 = codes "N1" ∷ codes "N2" ∷ codes "N3" ∷ codes "N4" ∷ codes "N5" ∷ codes "N6" ∷ codes "N7" ∷ codes "N8" ∷ codes "N9" ∷ []

abbrev names_2 : List (List ℕ)
names_2 = codes "N" ∷ []

abbrev places_1 : List Place
places_1 = place names_1 1 1 ∷ place names_1 2 1 ∷ place names_1 3 1 ∷ place names_1 4 1 ∷ place names_1 5 1 ∷ place names_1 6 1 ∷ place names_1 7 1 ∷ place names_1 8 1 ∷ place names_1 9 1 ∷ []

abbrev places_2 : List Place
places_2 = place names_2 1 1 ∷ []

abbrev opening_1 : List Command
opening_1 =
    node (codes "N1") 1
    ∷ node (codes "N2") 1
    ∷ node (codes "N3") 1
    ∷ node (codes "N4") 1
    ∷ node (codes "N5") 1
    ∷ node (codes "N6") 1
    ∷ node (codes "N7") 1
    ∷ node (codes "N8") 1
    ∷ node (codes "N9") 1
    ∷ at 1 1 (link (codes "L") (codes "N2"))
    ∷ at 1 1 (synonym (codes "T") (codes "T") (codes "L"))
    ∷ at 2 1 (link (codes "L") (codes "N3"))
    ∷ at 2 1 (synonym (codes "T") (codes "T") (codes "L"))
    ∷ at 3 1 (link (codes "L") (codes "N4"))
    ∷ at 3 1 (synonym (codes "T") (codes "T") (codes "L"))
    ∷ at 4 1 (link (codes "L") (codes "N5"))
    ∷ at 4 1 (synonym (codes "T") (codes "T") (codes "L"))
    ∷ at 5 1 (link (codes "L") (codes "N6"))
    ∷ at 5 1 (synonym (codes "T") (codes "T") (codes "L"))
    ∷ at 6 1 (link (codes "L") (codes "N7"))
    ∷ at 6 1 (synonym (codes "T") (codes "T") (codes "L"))
    ∷ at 7 1 (link (codes "L") (codes "N8"))
    ∷ at 7 1 (synonym (codes "T") (codes "T") (codes "L"))
    ∷ []

abbrev opening_1_lines : List (List ℕ)
opening_1_lines =
    codes "1 ok"
    ∷ codes "2 ok"
    ∷ codes "3 ok"
    ∷ codes "4 ok"
    ∷ codes "5 ok"
    ∷ codes "6 ok"
    ∷ codes "7 ok"
    ∷ codes "8 ok"
    ∷ codes "9 ok"
    ∷ codes "10 Database link created."
    ∷ codes "11 Synonym created."
    ∷ codes "12 Database link created."
    ∷ codes "13 Synonym created."
    ∷ codes "14 Database link created."
    ∷ codes "15 Synonym created."
    ∷ codes "16 Database link created."
    ∷ codes "17 Synonym created."
    ∷ codes "18 Database link created."
    ∷ codes "19 Synonym created."
    ∷ codes "20 Database link created."
    ∷ codes "21 Synonym created."
    ∷ codes "22 Database link created."
    ∷ codes "23 Synonym created."
    ∷ []

-- a row is inserted through seven links at the eighth node
eight_nodes_deep :
    report (all_lines (played 430 places_1 (opening_1 ++
    at 8 1 (table (codes "T") (number_key (codes "K") ∷ []))
    ∷ at 1 1 (insert (here (codes "T")) (num 1 ∷ []))
    ∷ [])))
    ≡ opening_1_lines ++
    codes "24 Table created."
    ∷ codes "25 1 row created."
    ∷ []
unfolding playing
eight_nodes_deep = refl

-- a synonym over a link to its own node goes round until it is too deep
link_to_its_own_node_too_deep :
    report (all_lines (played 136 places_2 (
    node (codes "N") 1
    ∷ at 1 1 (link (codes "L") (codes "N"))
    ∷ at 1 1 (synonym (codes "T") (codes "T") (codes "L"))
    ∷ at 1 1 (insert (here (codes "T")) (num 1 ∷ []))
    ∷ [])))
    ≡
    codes "1 ok"
    ∷ codes "2 Database link created."
    ∷ codes "3 Synonym created."
    ∷ codes "4 DTX-02: session tree too deep or too wide"
    ∷ []
unfolding playing
link_to_its_own_node_too_deep = refl

-- a ninth node on the way is too deep
nine_nodes_too_deep :
    report (all_lines (played 458 places_1 (opening_1 ++
    at 8 1 (link (codes "L") (codes "N9"))
    ∷ at 8 1 (synonym (codes "T") (codes "T") (codes "L"))
    ∷ at 9 1 (table (codes "T") (number_key (codes "K") ∷ []))
    ∷ at 1 1 (insert (here (codes "T")) (num 1 ∷ []))
    ∷ [])))
    ≡ opening_1_lines ++
    codes "24 Database link created."
    ∷ codes "25 Synonym created."
    ∷ codes "26 Table created."
    ∷ codes "27 DTX-02: session tree too deep or too wide"
    ∷ []
unfolding playing
nine_nodes_too_deep = refl
