-- The course of a COMMIT, tried on a script of two nodes: a transaction of A changes a row at A and, over a link, one at B, and
-- commits. Its five messages are delivered one after the other, and the script ends with Commit complete. In a second script
-- the message that tells B the commit is lost: then the call is given up.
use Rattle.std.specs.Prelude.{◌≡◌, ℕ, false, codes, List, [], ◌∷◌, ◌++◌, replicate, slice_get, Some, None}
use Rattle.node_rules.specs.Data.{Stmt}
use Rattle.node_rules.specs.Data.stmts
use Rattle.node_rules.specs.Sessions.{commit_complete}
use Rattle.net_bag.specs.Net.{first_flying}
use Rattle.run_rules.specs.Data.{Command}
use Rattle.run_rules.specs.Data.commands
use Rattle.run_rules.specs.Data.kind_names
use Rattle.run_rules.specs.Due.{Due, Delivers, Ends, Gives_up, Tells, due_of, runs_on}
use Rattle.run_rules.specs.Lines.{spent, all_lines}
use Rattle.run_claims.specs.Places.{node_line}
use Rattle.run_rules.specs.RunReport.{Past, start}
use Rattle.run_branch_laws.specs.TriedRun as tried

-- what session 1 of a node asks
abbrev pub asks : ℕ → Stmt → Command
asks n s = commands.At n 1 (Some s)

-- a table at each node, a link, and a row in each table
abbrev pub changes : List Command
changes =
    asks 1 (stmts.CreateTable (tried.table_of_keys (codes "T")))
    ∷ asks 2 (stmts.CreateTable (tried.table_of_keys (codes "T")))
    ∷ asks 1 (stmts.CreateLink (record { name = codes "B"; target = codes "B" }))
    ∷ asks 1 (tried.insert (record { name = codes "T"; link = Some (codes "B") }))
    ∷ asks 1 (tried.insert (record { name = codes "T"; link = None }))
    ∷ []

-- and COMMIT
abbrev pub script : List Command
script = changes ++ asks 1 (stmts.Commit None) ∷ []

-- its run so far, after so many happenings
abbrev pub after : ℕ → Past
after n = runs_on tried.places script (replicate n 0) (start tried.places)

-- what is due then
abbrev pub due_after : ℕ → Due
due_after n = due_of script (after n)

-- the second script
abbrev pub lossy : List Command
lossy = changes ++ commands.LoseNext kind_names.Committed 1 2 ∷ asks 1 (stmts.Commit None) ∷ []

-- what is due in its run
abbrev pub lossy_due : ℕ → Due
lossy_due n = due_of lossy (runs_on tried.places lossy (replicate n 0) (start tried.places))

-- When the COMMIT is called HOLD is off and nothing is in flight. Its messages are delivered, and the report says Commit
-- complete. In the second script a loss is all_lines, and then the call is given up.
pub record TheTriedCourse : Type 0 where
  pub off : (after 15).run_report.hold ≡ false
  pub still : first_flying (after 15).facts.net ≡ None
  pub prepare : due_after 16 ≡ Delivers 5 false
  pub prepared : due_after 17 ≡ Delivers 6 false
  pub committed : due_after 18 ≡ Delivers 7 false
  pub ack : due_after 19 ≡ Delivers 8 false
  pub forgotten : due_after 20 ≡ Delivers 9 false
  pub done : due_after 21 ≡ Ends
  pub few : spent (after 21).run_report.deliveries ≡ false
  pub calls : (after 21).run_report.calls ≡ []
  pub complete : slice_get (all_lines (after 21).facts (after 21).run_report) 5 ≡ Some (node_line 6 commit_complete)
  pub lossy_tells : lossy_due 19 ≡ Tells 7
  pub lossy_gives_up : lossy_due 20 ≡ Gives_up 1 1
