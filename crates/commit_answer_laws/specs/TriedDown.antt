-- DTX-01, tried on a script of two nodes: A's COMMIT of a row at B is pending, with HOLD on, as A stops; and the next COMMIT is
-- called while A is down.
use Rattle.std.specs.Prelude.{◌≡◌, true, codes, List, [], ◌∷◌, replicate, slice_get, Some}
use Rattle.node_rules.specs.Data.stmts
use Rattle.run_rules.specs.Data.{AnswerLine, Command}
use Rattle.run_rules.specs.Data.commands
use Rattle.run_rules.specs.Data.notices
use Rattle.run_rules.specs.Data.said
use Rattle.run_rules.specs.Due.{runs_on}
use Rattle.run_rules.specs.Lines.{all_lines, is_down, line}
use Rattle.run_rules.specs.RunReport.{Past, start}
use Rattle.run_branch_laws.specs.TriedRun.{places, table_of_keys}
use Rattle.commit_answer_laws.specs.TriedLines.{asks, commits, inserts}

-- the script
abbrev pub script : List Command
script =
    asks 2 (stmts.CreateTable (table_of_keys (codes "T")))
    ∷ asks 1 (stmts.CreateLink (record { name = codes "B"; target = codes "B" }))
    ∷ inserts
    ∷ commands.Hold true
    ∷ commits
    ∷ commands.Stop 1
    ∷ commits
    ∷ []

-- its whole run
abbrev pub left : Past
left = runs_on places script (replicate 20 0) (start places)

-- its lines
abbrev pub lines : List AnswerLine
lines = all_lines left.facts left.run_report

-- The lines of both COMMITs.
pub record TheTriedDown : Type 0 where
  pub waits : slice_get lines 4 ≡ Some (line 5 (said.World notices.Waiting))
  pub ends : slice_get lines 6 ≡ Some (line 5 (is_down places 1))
  pub down : slice_get lines 7 ≡ Some (line 7 (is_down places 1))
