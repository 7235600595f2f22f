-- The end of a pending call, decided first.
use Rattle.std.proofs.Common.{◌≡◌, ℕ, Bool, true, false, if◌then◌else◌, Option, Some, None, refl}
use Rattle.node_rules.specs.Data.{Stmt}
use Rattle.run_rules.specs.Data.{Finished}
use Rattle.run_rules.specs.RunReport.{Call, RunReport}
use Rattle.run_rules.specs.Calls.{ends_or_follows, finished_call, is_complete, waits, waits_if_pending}
use Rattle.run_report_parts.specs.Endings.{ending_by, ending_of, is_running}
use Rattle.run_report.specs.Turned.{ended_by}

complete_as : (running : ℕ) (t : RunReport) (f : Finished) (c : Call) (s : Stmt) (b : Bool) → is_complete f.answer ≡ b → ended_by running t f (ending_by f c (Some s)) ≡ ends_or_follows running t c f (Some s)
complete_as running t f c s true is = rw is refl
complete_as running t f c s false is = rw is refl

follows_as : (running : ℕ) (t : RunReport) (f : Finished) (c : Call) (s : Option Stmt) → ended_by running t f (ending_by f c s) ≡ ends_or_follows running t c f s
follows_as running t f c None = refl
follows_as running t f c (Some s) = complete_as running t f c s (is_complete f.answer) refl

-- what is decided is what ends
pub ends_as : (running : ℕ) (t : RunReport) (f : Finished) (c : Option Call) → ended_by running t f (ending_of f c) ≡ finished_call running t f c
ends_as running t f None = refl
ends_as running t f (Some c) = follows_as running t f c c.follows

-- a call of the command that runs is waiting where it is still pending
pub waits_as : (running : ℕ) (t : RunReport) (c : Option Call) → (if is_running running c then waits t else t) ≡ waits_if_pending running t c
waits_as running t None = refl
waits_as running t (Some c) = refl
