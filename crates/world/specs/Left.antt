-- What is left of a world where memory ran out: the lines that are all_lines then.
use Rattle.std.specs.Prelude.{◌≡◌, ◌⊎◌, map}
use Rattle.run_rules.specs.Reported.{IsBetweenCommands}
use Rattle.run_rules.specs.Lines.{all_lines}
use Rattle.run_trace.specs.Recorded.{past_of}
use Rattle.world.specs.Needs.{due_in}
use Rattle.world_parts.specs.Shown.{ShowDisks, Shown, disk_reported}
use Rattle.world.specs.declared.world.World.{World}

-- It has the lines of the commands before the one that runs, and what SHOW DISK has shown.
pub record StillReports (w : World) : Type 0 where
  pub lines : w.run_report.lines ≡ (past_of w.trace).run_report.lines
  pub shown : ShowDisks w.trace w.shown

-- No command is under way, and it has all lines. SHOW DISK has shown this before, and what it has now tells these lines alike.
pub record ReportsBetween (w : World) : Type 0 where
  pub between : IsBetweenCommands (due_in w.trace)
  pub lines : w.run_report.lines ≡ all_lines (past_of w.trace).facts (past_of w.trace).run_report
  pub before : Shown
  pub shown : ShowDisks w.trace before
  pub alike : map (disk_reported w.shown) w.run_report.lines ≡ map (disk_reported before) w.run_report.lines

-- what is left can be all_lines
abbrev pub IsLeft : World → Type 0
IsLeft w = StillReports w ⊎ ReportsBetween w

-- the lines stay, and nothing has happened
pub record LinesStay (before after : World) : Type 0 where
  pub trace : after.trace ≡ before.trace
  pub lines : after.run_report.lines ≡ before.run_report.lines
  pub shown : after.shown ≡ before.shown
