-- An order over three nodes, looked at with the definitions of the laws: before its COMMIT the session tree and the
-- commit point site, after it how each branch stopped being live, the rows that the book leaves, who is in doubt, and
-- agreement.
use Rattle.std.proofs.Common.{◌≡◌, ℕ, List, [], ◌∷◌, ◌++◌, Option, Some, None, codes, refl, false, option_map, replicate, map, length}
use Rattle.node_rules.specs.Data.{BranchId, Keyed, Value}
use Rattle.node_rules.specs.Data.stmts
use Rattle.node_rules.specs.Data.decisions
use Rattle.node_rules.specs.Meaning.{Meant, Gives, meant}
use Rattle.run_rules.specs.Data.{Command, Happening}
use Rattle.run_rules.specs.Data.kind_names
use Rattle.run_rules.specs.Data.commands
use Rattle.run_rules.specs.Data.happenings
use Rattle.run_rules.specs.Facts.{Facts, first_facts, facts_of}
use Rattle.run_rules.specs.RunReport.{start}
use Rattle.run_rules.specs.Due.{Delivers, happened, comes_next, due_of}
use Rattle.run_rules.specs.Branches.{Sealed, Decided, Kept, Gone, Trail, no_trail, exit_at, life_at, own_at, plan_at, read_at_at}
use Rattle.run_rules.specs.Tree.{site, tree, weight, step, walk, plan}
use Rattle.run_rules.specs.Trail.{trail_after, trail_of, with_begun}
use Rattle.run_rules.specs.Runs.{meaning, run_in, view_by}
use Rattle.run_rules.specs.Book.{rows_of, rows_by_book, in_doubt, decided, Agreement, MixedIsMarked}
use Rattle.plays.proofs.Script.{over, here, num, text, minus, set, equal, insert, rows, commit, at, played}
use Rattle.plays.proofs.Playing.{playing}
use Rattle.plays.proofs.Commit_shared.{places_2, opening_1}
use Rattle.std.specs.Prelude.{⊤}

-- what is unfolded to compute what is known of branches
unfoldable knowing : ⊤
unfolding playing facts_of trail_after trail_of happened tree weight step walk plan life_at run_in view_by meant rows_of rows_by_book in_doubt
knowing = tt

-- the order: a row at SALES, less stock at WAREHOUSE, and an entry at HQ
abbrev order : List Command
order =
    at 1 1 (insert (here (codes "ORDERS")) (num 1 ∷ num 10 ∷ []))
    ∷ at 1 1 (stmts.Update (over (codes "STOCK") (codes "WH")) (set (codes "N") (minus (codes "N") 10) ∷ []) (equal (codes "ITEM") (text (codes "BOLT")) ∷ []))
    ∷ at 1 1 (insert (over (codes "LEDGER") (codes "HQ")) (num 1 ∷ num 250 ∷ []))
    ∷ []

-- its branches
abbrev sales : BranchId
sales = record { node = 1; boot = 1; session = 1; seq = 1 }

abbrev warehouse : BranchId
warehouse = record { node = 2; boot = 1; session = 65; seq = 1 }

abbrev hq : BranchId
hq = record { node = 3; boot = 1; session = 65; seq = 1 }

-- the order that is committed; one of which HQ does not hear the end; and that one forced to roll back there, before it meets the commit
abbrev committed : List Command
committed = opening_1 ++ order ++ at 1 1 commit ∷ []

abbrev unheard : List Command
unheard = opening_1 ++ order ++ commands.LoseNext kind_names.Committed 1 3 ∷ at 1 1 commit ∷ []

abbrev forced : List Command
forced = unheard ++ at 3 2 (stmts.RollbackForce (codes "1.65.1")) ∷ commands.Reco 3 ∷ []

-- so many happenings of a script, and what they leave and tell
abbrev trace : ℕ → List Command → List Happening
trace happenings script = happened places_2 script (replicate happenings 0) (start places_2)

abbrev facts : ℕ → List Command → Facts
facts happenings script = facts_of places_2 script (first_facts places_2) (trace happenings script)

abbrev trail : ℕ → List Command → Trail
trail happenings script = trail_of places_2 script (first_facts places_2) no_trail (trace happenings script)

-- a row under its key
abbrev row : Value → Value → Keyed
row key value = record { key = key; row = record { cells = key ∷ value ∷ [] } }

-- the root, and its children in order of reference
the_session_tree : tree (trail 200 (opening_1 ++ order)) sales ≡ sales ∷ warehouse ∷ hq ∷ []
unfolding knowing
the_session_tree = refl

-- each branch has one change
the_changes : map (λ b. length (own_at (trail 200 (opening_1 ++ order)) b)) (sales ∷ warehouse ∷ hq ∷ []) ≡ 1 ∷ 1 ∷ 1 ∷ []
unfolding knowing
the_changes = refl

-- HQ weighs less than the others, and WAREHOUSE is the site
the_weights : map (weight places_2 (trail 200 (opening_1 ++ order))) (sales ∷ warehouse ∷ hq ∷ []) ≡ Some 100 ∷ Some 140 ∷ Some 75 ∷ []
unfolding knowing
the_weights = refl

the_commit_point_site : site places_2 (trail 200 (opening_1 ++ order)) sales ≡ Some warehouse
unfolding knowing
the_commit_point_site = refl

-- the plan of the COMMIT: SALES is on the way to the site, and HQ's way leads over SALES
the_plan : option_map (λ p. map (λ x. x.toward) p.tree) (plan_at (trail 276 committed) sales) ≡ Some (Some warehouse ∷ None ∷ Some sales ∷ [])
unfolding knowing
the_plan = refl

-- the site decides, and the others were sealed before
the_exits : map (exit_at (trail 276 committed)) (sales ∷ warehouse ∷ hq ∷ []) ≡ Some (Sealed 1) ∷ Some (Decided 2) ∷ Some (Sealed 1) ∷ []
unfolding knowing
the_exits = refl

-- all of them have forgotten at the end, and HQ keeps its row where it has not heard
nothing_is_kept : map (life_at (facts 276 committed) (trail 276 committed)) (sales ∷ warehouse ∷ hq ∷ []) ≡ Gone ∷ Gone ∷ Gone ∷ []
unfolding knowing
nothing_is_kept = refl

hq_is_kept : life_at (facts 290 unheard) (trail 290 unheard) hq ≡ Kept
unfolding knowing
hq_is_kept = refl

-- the rows that the book leaves, and that were committed one after the other
the_stock : rows_of (facts 276 committed).book 2 (codes "STOCK") ≡ row (text (codes "BOLT")) (num 40) ∷ []
unfolding knowing
the_stock = refl

the_ledger : rows_by_book (facts 276 committed).book 3 (codes "LEDGER") ≡ row (num 1) (num 250) ∷ []
unfolding knowing
the_ledger = refl

-- nobody is in doubt at the end, and HQ is where it has not heard
nobody_in_doubt : in_doubt (facts 276 committed).book 3 ≡ []
unfolding knowing
nobody_in_doubt = refl

hq_in_doubt : in_doubt (facts 290 unheard).book 3 ≡ hq ∷ []
unfolding knowing
hq_in_doubt = refl

-- the rows of a branch that was forced to roll back are not there
no_ledger : rows_of (facts 350 forced).book 3 (codes "LEDGER") ≡ []
unfolding knowing
no_ledger = refl

-- agreement, entry by entry
the_book_agrees : Agreement (facts 276 committed).book
unfolding knowing
the_book_agrees = (tt, (tt, ((refl, refl, refl, refl), (tt, ((refl, refl, refl), ((refl, refl, refl), ((refl, refl, refl, refl), ((refl, refl, refl), ((refl, refl, refl), tt)))))))))

-- the forced rollback against the commit is marked mixed
the_met_is_marked : MixedIsMarked (facts 350 forced).book
unfolding knowing
the_met_is_marked = (tt, (tt, (tt, (tt, (tt, (tt, (tt, (tt, (tt, ((decisions.Rollback, (refl, refl)), tt))))))))))

-- the transaction is decided at the SCN that HQ and SALES commit at
the_decision : decided (facts 276 committed).book sales ≡ Some 2
unfolding knowing
the_decision = refl

-- CommitPoint comes to WAREHOUSE next, which decides in that turn
the_commit_point_is_due : due_of committed (played 37 places_2 committed) ≡ Delivers 13 false
unfolding knowing
the_commit_point_is_due = refl

-- a query at HQ after the COMMIT, right before its turn
abbrev query_script : List Command
query_script = committed ++ at 3 2 (rows (here (codes "LEDGER")) []) ∷ []

-- the run of a statement in a happening, with what it means for its branch
abbrev meant_in : Facts → Trail → Happening → Option Meant
meant_in f tr (happenings.Turn u) = option_map (λ r. meaning f.book (read_at_at (with_begun f tr u) r.branch) (own_at (with_begun f tr u) r.branch) r) (run_in f (with_begun f tr u) u)
meant_in f tr _ = None

-- the query runs where it is asked, and its rows are its meaning
the_query_is_meant : option_map (meant_in (facts 45 query_script) (trail 45 query_script)) (comes_next places_2 query_script (played 45 places_2 query_script))
    ≡ Some (Some (Gives (record { heads = codes "ID" ∷ codes "AMOUNT" ∷ []; rows = (record { cells = num 1 ∷ num 250 ∷ [] }) ∷ [] })))
unfolding knowing
the_query_is_meant = refl
