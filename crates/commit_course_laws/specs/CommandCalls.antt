-- The pending calls of a script's commands: with HOLD off each command ends with no call pending and nothing in flight, so
-- that nothing but its own call is pending in the next. HOLD, which keeps messages and calls from going on by themselves, is
-- dtx's own.
use Rattle.std.specs.Prelude.{◌≡◌, ℕ, ◌+◌, ◌⊎◌, Bool, true, false, List, [], slice_get, Some, None}
use Rattle.std.specs.List.{AllByRecursion}
use Rattle.net_bag.specs.Net.{first_flying}
use Rattle.run_rules.specs.Commands.{hold_after}
use Rattle.run_rules.specs.Data.{Command, Happening}
use Rattle.run_rules.specs.Data.commands
use Rattle.run_rules.specs.Data.happenings
use Rattle.run_rules.specs.Facts.{command_at}
use Rattle.run_rules.specs.Scripts.{IsTheRunOf}
use Rattle.run_rules.specs.Lawful.{History}
use Rattle.run_rules.specs.Lines.{spent}
use Rattle.run_claims.specs.Places.{past_upto}
use Rattle.run_rules.specs.RunReport.{Past}

-- whether a command is HOLD ON or HOLD OFF
abbrev pub is_hold : Command → Bool
is_hold (commands.Hold on) = true
is_hold _ = false

-- HOLD after a happening: only where HOLD ON or HOLD OFF begins does it change
abbrev pub hold_by : List Command → Bool → Happening → Bool
hold_by asked hold (happenings.Begun c) = hold_after hold (command_at asked c)
hold_by asked hold _ = hold

-- In every run HOLD is what each happening leaves it.
abbrev pub HoldIsKept : Type 0
HoldIsKept = (t : History) → (i : ℕ) (h : Happening) → slice_get t.trace i ≡ Some h → (past_upto t (i + 1)).run_report.hold ≡ hold_by t.commands (past_upto t i).run_report.hold h

-- In the run of a script no call is pending as a command begins, where HOLD is off.
abbrev pub CommandsFindNoCall : Type 0
CommandsFindNoCall = (t : History) → IsTheRunOf t → (i c : ℕ) → slice_get t.trace i ≡ Some (happenings.Begun c) → (past_upto t i).run_report.hold ≡ false → (past_upto t i).run_report.calls ≡ []

-- And nothing is in flight then, unless the command before has had its 4,096 deliveries.
abbrev pub CommandsFindNothingInFlight : Type 0
CommandsFindNothingInFlight = (t : History) → IsTheRunOf t → (i c : ℕ) → slice_get t.trace i ≡ Some (happenings.Begun c) → (past_upto t i).run_report.hold ≡ false
    → (first_flying (past_upto t i).facts.net ≡ None) ⊎ (spent (past_upto t i).run_report.deliveries ≡ true)

-- each pending call is that of the command that runs
abbrev pub HasItsCallAlone : Past → Type 0
HasItsCallAlone p = AllByRecursion (λ c. c.command ≡ p.facts.command) p.run_report.calls

-- So while HOLD is off nothing is pending but the call of the command that runs. HOLD OFF itself may find calls that were held.
abbrev pub CommandsHoldTheirCall : Type 0
CommandsHoldTheirCall = (t : History) → IsTheRunOf t → (i : ℕ) → (past_upto t i).run_report.hold ≡ false → is_hold (command_at t.commands (past_upto t i).facts.command) ≡ false → HasItsCallAlone (past_upto t i)
