-- Each command answered once, tried on a script of two nodes: A's COMMIT of a row at B waits, with HOLD on, and is given up by the
-- next command, which answers for itself; and a START of B is refused, since B is up.
use Rattle.std.specs.Prelude.{◌≡◌, ℕ, true, codes, List, [], ◌∷◌, replicate, Some, None}
use Rattle.node_rules.specs.Data.{BranchId, Stmt}
use Rattle.node_rules.specs.Data.stmts
use Rattle.node_rules.specs.Refusals.{dtx}
use Rattle.node_rules.specs.Sessions.{tran_refusal}
use Rattle.node_rules.specs.Words.{one}
use Rattle.run_rules.specs.Data.{AnswerLine, Command}
use Rattle.run_rules.specs.Data.commands
use Rattle.run_rules.specs.Data.notices
use Rattle.run_rules.specs.Data.said
use Rattle.run_rules.specs.Due.{runs_on}
use Rattle.run_rules.specs.Lines.{all_lines, refuses_with}
use Rattle.run_rules.specs.RunReport.{Past, start}
use Rattle.run_branch_laws.specs.TriedRun.{places, insert, table_of_keys}
use Rattle.answer_once_laws.specs.OnceLaws.{said_of, waiting}

-- a call of session 1
abbrev pub asks : ℕ → Stmt → Command
asks node s = commands.At node 1 (Some s)

-- COMMIT
abbrev pub commits : Command
commits = asks 1 (stmts.Commit None)

-- the script
abbrev pub script : List Command
script =
    asks 2 (stmts.CreateTable (table_of_keys (codes "T")))
    ∷ asks 1 (stmts.CreateLink (record { name = codes "B"; target = codes "B" }))
    ∷ asks 1 (insert (record { name = codes "T"; link = Some (codes "B") }))
    ∷ commands.Hold true
    ∷ commits
    ∷ commands.GiveUp 1 1
    ∷ commands.Start 2
    ∷ []

-- its run, up to this many happenings
abbrev pub after : List ℕ → Past
after steps = runs_on places script steps (start places)

-- its lines
abbrev pub lines : Past → List AnswerLine
lines p = all_lines p.facts p.run_report

-- the whole run
abbrev pub whole : Past
whole = after (replicate 40 0)

-- A's transaction
abbrev pub transaction : BranchId
transaction = record { node = 1; boot = 1; session = 1; seq = 1 }

-- The lines of the commands.
pub record TheTriedOnce : Type 0 where
  pub waits : said_of 5 (lines whole) ≡ waiting ∷ said.Node (tran_refusal 2050 transaction) ∷ []  -- and ends in the course of the next command
  pub gives_up : said_of 6 (lines whole) ≡ said.World notices.Fine ∷ []
  pub holds : said_of 4 (lines whole) ≡ said.World notices.Fine ∷ []
  pub starts : said_of 7 (lines whole) ≡ refuses_with (dtx 13 (one (codes "B"))) ∷ []
