-- What the report answers to COMMIT, tried on a script of two nodes: A's COMMIT of a row at B is complete, and so is the next
-- one, of a session without a transaction; the third one, with HOLD on, is given up while B has not answered it.
use Rattle.std.specs.Prelude.{◌≡◌, ℕ, true, false, codes, List, [], ◌∷◌, replicate, slice_get, Some, None}
use Rattle.node_rules.specs.Data.{BranchId, Stmt}
use Rattle.node_rules.specs.Data.stmts
use Rattle.node_rules.specs.Sessions.{commit_complete, tran_refusal}
use Rattle.run_rules.specs.Book.{is_decision_on, stands}
use Rattle.run_rules.specs.Data.{AnswerLine, Command}
use Rattle.run_rules.specs.Data.commands
use Rattle.run_rules.specs.Due.{runs_on}
use Rattle.run_rules.specs.Lines.{all_lines}
use Rattle.run_rules.specs.RunReport.{Past, start}
use Rattle.run_claims.specs.Places.{node_line}
use Rattle.run_branch_laws.specs.TriedRun.{places, insert, table_of_keys, a}

-- a call of session 1
abbrev pub asks : ℕ → Stmt → Command
asks node s = commands.At node 1 (Some s)

-- INSERT over the link
abbrev pub inserts : Command
inserts = asks 1 (insert (record { name = codes "T"; link = Some (codes "B") }))

-- COMMIT
abbrev pub commits : Command
commits = asks 1 (stmts.Commit None)

-- the script
abbrev pub script : List Command
script =
    asks 2 (stmts.CreateTable (table_of_keys (codes "T")))
    ∷ asks 1 (stmts.CreateLink (record { name = codes "B"; target = codes "B" }))
    ∷ inserts
    ∷ commits
    ∷ commits
    ∷ inserts
    ∷ commands.Hold true
    ∷ commits
    ∷ commands.GiveUp 1 1
    ∷ []

-- its whole run
abbrev pub left : Past
left = runs_on places script (replicate 60 0) (start places)

-- its lines
abbrev pub lines : List AnswerLine
lines = all_lines left.facts left.run_report

-- the second transaction of the session
abbrev pub second : BranchId
second = record { node = 1; boot = 1; session = 1; seq = 2 }

-- Each line, and whether the book has the decision of its transaction.
pub record TheTriedLines : Type 0 where
  pub complete : slice_get lines 3 ≡ Some (node_line 4 commit_complete)
  pub decided : stands (is_decision_on a) left.facts.book ≡ true
  pub without : slice_get lines 4 ≡ Some (node_line 5 commit_complete)
  pub refused : slice_get lines 9 ≡ Some (node_line 8 (tran_refusal 2050 second))
  pub undecided : stands (is_decision_on second) left.facts.book ≡ false
