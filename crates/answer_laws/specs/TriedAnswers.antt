-- Where answers come from, tried on a script: R's synonym S is for A's synonym U, which is for B's table T. A row goes in
-- through S, and while a count of S waits, the Reply to the INSERT comes once more.
use Rattle.std.specs.Prelude.{◌≡◌, ℕ, true, false, List, [], ◌∷◌, codes, pos, replicate, slice_get, option_map, Some, None}
use Rattle.node_rules.specs.Data.{Answer, BranchId, Place, Stmt, Table, TableRef}
use Rattle.node_rules.specs.Data.answers
use Rattle.node_rules.specs.Data.dones
use Rattle.node_rules.specs.Data.picks
use Rattle.node_rules.specs.Data.stmts
use Rattle.node_rules.specs.Data.terms
use Rattle.node_rules.specs.Data.values
use Rattle.run_rules.specs.Branches.{Run, Trail, no_trail, root_at}
use Rattle.run_rules.specs.Data.{AnswerLine, Command}
use Rattle.run_rules.specs.Data.commands
use Rattle.run_rules.specs.Due.{runs_on, happened}
use Rattle.run_rules.specs.Facts.{first_facts}
use Rattle.run_rules.specs.Scripts.{places_of}
use Rattle.run_rules.specs.Lines.{all_lines}
use Rattle.run_claims.specs.Places.{node_line}
use Rattle.run_rules.specs.RunReport.{Past, start}
use Rattle.run_rules.specs.Trail.{trail_of}

-- a bare name
abbrev pub here : List ℕ → TableRef
here name = record { name = name; link = None }

-- T, with a key alone
abbrev pub table : Table
table = record { name = codes "T"; columns = (record { name = codes "K"; text_max = None; not_null = false; key = true }) ∷ [] }

-- INSERT of the row 1
abbrev pub insert : List ℕ → Stmt
insert name = stmts.Insert (here name) None ((record { first = terms.Literal (values.Number (pos 1)); rest = [] }) ∷ [])

-- SELECT COUNT(*)
abbrev pub count : List ℕ → Stmt
count name = stmts.Select picks.Count (here name) [] false

-- a call of session 1
abbrev pub at : ℕ → Stmt → Command
at node s = commands.At node 1 (Some s)

-- the script
abbrev pub asked : List Command
asked =
    commands.Node (codes "R") 1 4 64
    ∷ commands.Node (codes "A") 1 4 64
    ∷ commands.Node (codes "B") 1 4 64
    ∷ at 3 (stmts.CreateTable table)
    ∷ at 2 (stmts.CreateLink (record { name = codes "LB"; target = codes "B" }))
    ∷ at 2 (stmts.CreateSynonym (record { name = codes "U"; table = codes "T"; link = codes "LB" }))
    ∷ at 1 (stmts.CreateLink (record { name = codes "LA"; target = codes "A" }))
    ∷ at 1 (stmts.CreateSynonym (record { name = codes "S"; table = codes "U"; link = codes "LA" }))
    ∷ at 1 (insert (codes "S"))
    ∷ commands.Hold true
    ∷ at 1 (count (codes "S"))
    ∷ commands.Again 8
    ∷ commands.Hold false
    ∷ []

-- its nodes
abbrev pub places : List Place
places = places_of asked

-- more happenings than it has
abbrev pub enough : List ℕ
enough = replicate 60 0

-- what it leaves
abbrev pub past : Past
past = runs_on places asked enough (start places)

-- what is all_lines of it
abbrev pub lines : List AnswerLine
lines = all_lines past.facts past.run_report

-- and of its branches
abbrev pub trail : Trail
trail = trail_of places asked (first_facts places) no_trail (happened places asked enough (start places))

-- the branch at B
abbrev pub b : BranchId
b = record { node = 3; boot = 1; session = 65; seq = 1 }

-- the run of the count
abbrev pub counts : Run
counts = record { moment = 30; branch = b; statement = count (codes "T"); table = table }

-- the row and the count
abbrev pub counted : Answer
counted = answers.Found (record { heads = codes "COUNT(*)" ∷ []; rows = (record { cells = values.Number (pos 1) ∷ [] }) ∷ [] })

-- The row is in, and the count is 1: it comes from the run at B of the statement that went through both synonyms.
pub record TheTriedAnswers : Type 0 where
  pub inserted : slice_get lines 8 ≡ Some (node_line 9 (answers.Did dones.Created 1))
  pub count_is : slice_get lines 13 ≡ Some (node_line 11 counted)
  pub from : option_map (λ s. s.answer) (root_at trail 1 1) ≡ Some (Some counts)
