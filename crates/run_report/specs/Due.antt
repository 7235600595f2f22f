-- What is due next, by what is known of the facts of a run.
use Rattle.std.specs.Prelude.{ℕ, ◌+◌, ◌&&◌, not, Bool, true, false, if◌then◌else◌, List, [], ◌∷◌, nat_lt, is_some, Option, Some, None}
use Rattle.net_bag.specs.Net.{may_deliver, may_repeat}
use Rattle.run_rules.specs.Data.{Command}
use Rattle.run_rules.specs.Data.commands
use Rattle.run_rules.specs.Facts.{Facts, is_up, node_at}
use Rattle.run_rules.specs.RunReport.{Call, RunReport}
use Rattle.run_rules.specs.Calls.{call_at}
use Rattle.run_rules.specs.Commands.{is_enabled}
use Rattle.run_rules.specs.Lines.{spent}
use Rattle.run_rules.specs.Due.{Due as DueByRules, Tells, Falls, Pends, Gives_up, Delivers, Recovers, Cuts, Joins, Loses, Stops, Starts, Begins, Ends, if_due, call_due, most_of, acts_first, follows_first, falls_first}
use Rattle.run_report.specs.declared.due.Due.{Due}
use Rattle.run_report.specs.declared.due.Due.TheVariants as dues
use Rattle.run_report.specs.declared.due.DueFacts.{DueFacts}

-- what is due, as the definitions have it
abbrev pub due_as : Due → DueByRules
due_as (dues.Tells k) = Tells k
due_as (dues.Falls n) = Falls n
due_as (dues.Pends c) = Pends c
due_as (dues.GivesUp n session) = Gives_up n session
due_as (dues.Delivers k again) = Delivers k again
due_as (dues.Recovers n) = Recovers n
due_as (dues.Cuts a b) = Cuts a b
due_as (dues.Joins a b) = Joins a b
due_as (dues.Loses k) = Loses k
due_as (dues.Stops n) = Stops n
due_as (dues.Starts n) = Starts n
due_as (dues.Begins c) = Begins c
due_as dues.Ends = Ends

-- whether a command may act: its message is in flight or may be repeated, its node is up, or distributed recovery is
-- enabled there; START may where this is false
abbrev pub may_act : Facts → Command → Bool
may_act f (commands.Lose k) = may_deliver f.net k
may_act f (commands.Stop n) = is_up f n
may_act f (commands.Start n) = is_up f n
may_act f (commands.Deliver k) = may_deliver f.net k
may_act f (commands.Again k) = may_repeat f.net k
may_act f (commands.GiveUp n session) = is_up f n
may_act f (commands.Reco n) = is_enabled (node_at f n)
may_act f _ = true

-- the happening that a command makes by itself
abbrev pub act_by : DueFacts → RunReport → Command → Option DueByRules
act_by facts t (commands.At node session statement) = call_due facts.running (call_at t node session)
act_by facts t (commands.Cut a b) = Some (Cuts a b)
act_by facts t (commands.Join a b) = Some (Joins a b)
act_by facts t (commands.Lose k) = if_due facts.may_act (Loses k)
act_by facts t (commands.Stop n) = if_due facts.may_act (Stops n)
act_by facts t (commands.Start n) = if_due (not facts.may_act) (Starts n)
act_by facts t (commands.Deliver k) = if_due facts.may_act (Delivers k false)
act_by facts t (commands.Again k) = if_due facts.may_act (Delivers k true)
act_by facts t (commands.GiveUp n session) = if_due (facts.may_act && is_some (call_at t n session)) (Gives_up n session)
act_by facts t (commands.Reco n) = if_due facts.may_act (Recovers n)
act_by facts t _ = None

-- the next command, or the end of the script
abbrev pub next_command_by : DueFacts → DueByRules
next_command_by facts = if nat_lt facts.running facts.asked then Begins (facts.running + 1) else Ends

-- the first pending call is given up
abbrev pub next_give_up_by : DueFacts → List Call → DueByRules
next_give_up_by facts [] = next_command_by facts
next_give_up_by facts (c ∷ cs) = Gives_up c.node c.session

-- the next message in flight, or else a call is given up
abbrev pub next_delivery_by : DueFacts → RunReport → Option ℕ → DueByRules
next_delivery_by facts t None = next_give_up_by facts t.calls
next_delivery_by facts t (Some k) = if spent t.deliveries then next_give_up_by facts t.calls else Delivers k false

-- the next message in flight, while PUMP delivers
abbrev pub next_pumped_by : DueFacts → RunReport → ℕ → Option ℕ → DueByRules
next_pumped_by facts t most None = next_command_by facts
next_pumped_by facts t most (Some k) = if nat_lt t.deliveries most then Delivers k false else next_command_by facts

-- what comes by itself
abbrev pub flows_by : DueFacts → RunReport → Command → DueByRules
flows_by facts t command = if t.hold then next_pumped_by facts t (most_of command) facts.flying else next_delivery_by facts t facts.flying

-- the command's own act comes first, and once
abbrev pub acts_once_by : DueFacts → RunReport → Command → DueByRules
acts_once_by facts t command = if t.acted then flows_by facts t command else acts_first (flows_by facts t command) (act_by facts t command)

-- a loss that is to be told comes before all
abbrev pub loss_first : DueByRules → Option ℕ → DueByRules
loss_first later None = later
loss_first later (Some k) = Tells k

-- what is due next
abbrev pub due_by : DueFacts → RunReport → Command → DueByRules
due_by facts t command =
    loss_first (falls_first (falls_first (follows_first (acts_once_by facts t command) t.next_call) t.start_to_stop) facts.to_stop) facts.loss
