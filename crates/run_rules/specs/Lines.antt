-- The answer lines: those of the command that runs, those of earlier calls that it ended, and all that was all_lines.
use Rattle.std.specs.Prelude.{ℕ, ◌==◌, ◌&&◌, Bool, if◌then◌else◌, List, [], ◌∷◌, ◌++◌, map, find, nat_lt, nat_le, is_some, codes, Option, Some, None}
use Rattle.node_rules.specs.Data.{Refusal, Place}
use Rattle.node_rules.specs.Words.{one}
use Rattle.node_rules.specs.Ids.{decimal}
use Rattle.node_rules.specs.Refusals.{ora, dtx}
use Rattle.node_rules.specs.Points.{Point}
use Rattle.run_rules.specs.Data.{Said, AnswerLine, Finished}
use Rattle.run_rules.specs.Data.notices
use Rattle.run_rules.specs.Data.said
use Rattle.net_bag.specs.Net.{first_flying}
use Rattle.run_rules.specs.Facts.{Facts}
use Rattle.run_rules.specs.RunReport.{RunReport, node_name}

-- the answer of a node
abbrev pub says_node : Finished → Said
says_node f = said.Node f.answer

-- ok
abbrev pub fine : List Said
fine = one (said.World notices.Fine)

-- a refusal that no node says
abbrev pub refuses_with : Refusal → Said
refuses_with refusal = said.World (notices.Refused refusal)

-- DTX-01
abbrev pub is_down : List Place → ℕ → Said
is_down places n = refuses_with (dtx 1 (one (node_name places n)))

-- a line of a command
abbrev pub line : ℕ → Said → AnswerLine
line command s = record { command = command; said = s }

-- with these lines as the command's own
abbrev pub with_own : RunReport → List Said → RunReport
with_own t own = record t { page = record t.page { own = own } }

-- answers of earlier calls stand by their numbers
abbrev pub put_line : List AnswerLine → AnswerLine → List AnswerLine
put_line [] l = l ∷ []
put_line (x ∷ xs) l = if nat_lt l.command x.command then l ∷ x ∷ xs else x ∷ put_line xs l

-- with a line for an earlier call
abbrev pub with_other : RunReport → AnswerLine → RunReport
with_other t l = record t { page = record t.page { others = put_line t.page.others l } }

-- the answer of a call stands with its command while that runs, and else among those that a command ended
abbrev pub call_line_of : ℕ → RunReport → ℕ → Said → RunReport
call_line_of running t command s = if running == command then with_own t (t.page.own ++ one s) else with_other t (line command s)

-- whether a point of the command's comment was reached
abbrev pub is_reached : ℕ → Point → Bool
is_reached command x = (x.command == command) && x.reached

-- ORA-02059, where the point was reached
abbrev pub reached_line : ℕ → RunReport → ℕ → Option Point → RunReport
reached_line running t command None = t
reached_line running t command (Some x) = call_line_of running t command (refuses_with (ora 2059 (one (decimal x.number))))

-- the answer of a call, and ORA-02059 right after it
abbrev pub call_line : ℕ → RunReport → ℕ → Said → RunReport
call_line running t command s = reached_line running (call_line_of running t command s) command (find (is_reached command) t.points)

-- with `node X stopped`
abbrev pub with_stop : List Place → RunReport → ℕ → RunReport
with_stop places t n = record t { page = record t.page { stops = t.page.stops ++ one (said.World (notices.Shown (one (codes "node " ++ node_name places n ++ codes " stopped")))) } }

-- whether a command has made all its deliveries
abbrev pub spent : ℕ → Bool
spent deliveries = nat_le 4096 deliveries

-- DTX-05, where messages remain
abbrev pub over_line : Facts → RunReport → List Said
over_line f t = if spent t.deliveries && is_some (first_flying f.net) then one (refuses_with (dtx 5 [])) else []

-- the lines of the command that runs, in order
abbrev pub page_lines : Facts → RunReport → List AnswerLine
page_lines f t = map (line f.command) t.page.own ++ t.page.others ++ map (line f.command) (t.page.stops ++ over_line f t)

-- all lines, those of the command that runs among them
abbrev pub all_lines : Facts → RunReport → List AnswerLine
all_lines f t = t.lines ++ page_lines f t
