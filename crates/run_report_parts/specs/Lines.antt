-- What the run says in a node's place, and the lines of a command.
use Rattle.std.specs.Prelude.{ℕ, List, ◌++◌, map, codes}
use Rattle.node_rules.specs.Words.{one}
use Rattle.node_rules.specs.Refusals.{dtx}
use Rattle.run_rules.specs.Data.{Said, AnswerLine}
use Rattle.run_rules.specs.Data.notices
use Rattle.run_rules.specs.Data.said
use Rattle.run_rules.specs.RunReport.{CommandOutput}
use Rattle.run_rules.specs.Lines.{refuses_with, line}

-- DTX-01 for a node of this name
abbrev pub down_said : List ℕ → Said
down_said name = refuses_with (dtx 1 (one name))

-- `node X stopped`
abbrev pub stop_said : List ℕ → Said
stop_said name = said.World (notices.Shown (one (codes "node " ++ name ++ codes " stopped")))

-- the lines of a page, and those that say that it is over
abbrev pub page_by : ℕ → CommandOutput → List Said → List AnswerLine
page_by running page over = map (line running) page.own ++ page.others ++ map (line running) (page.stops ++ over)
