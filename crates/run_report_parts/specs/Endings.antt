-- How a pending call ends, decided before anything is told of it; the calls of a node.
use Rattle.std.specs.Prelude.{ℕ, ◌==◌, Bool, false, if◌then◌else◌, List, [], ◌∷◌, Option, Some, None}
use Rattle.node_rules.specs.Data.{Stmt}
use Rattle.run_rules.specs.Data.{Finished}
use Rattle.run_rules.specs.RunReport.{Call}
use Rattle.run_rules.specs.Calls.{is_complete, second_of}
use Rattle.run_report_parts.specs.declared.calls.CallKey.{CallKey}
use Rattle.run_report_parts.specs.declared.ending.Ending.{Ending}
use Rattle.run_report_parts.specs.declared.ending.Ending.TheVariants as endings

-- the end of a call, or the statement that follows it
abbrev pub ending_by : Finished → Call → Option Stmt → Ending
ending_by f c None = endings.Ends c.node c.session c.command
ending_by f c (Some s) = if is_complete f.answer then endings.Follows (second_of c s) else endings.Ends c.node c.session c.command

-- the end of a pending call, where there is one
abbrev pub ending_of : Finished → Option Call → Ending
ending_of f None = endings.NoCall
ending_of f (Some c) = ending_by f c c.follows

-- whether a pending call is of the command that runs
abbrev pub is_running : ℕ → Option Call → Bool
is_running running None = false
is_running running (Some c) = c.command == running

-- the command and the session of a call
abbrev pub key_of : Call → CallKey
key_of c = record { command = c.command; session = c.session }

-- the calls of a node, in order
abbrev pub keys_of : ℕ → List Call → List CallKey
keys_of n [] = []
keys_of n (c ∷ cs) = if c.node == n then key_of c ∷ keys_of n cs else keys_of n cs
