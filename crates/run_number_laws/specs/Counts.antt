-- How many deliveries are counted.
use Rattle.std.specs.Prelude.{◌≤◌, length}
use Rattle.run_rules.specs.Lawful.{History}
use Rattle.run_rules.specs.Reported.{past_of}

-- The deliveries of the command that runs are no more than the happenings so far.
abbrev pub DeliveriesAreWithin : Type 0
DeliveriesAreWithin = (t : History) → (past_of t).run_report.deliveries ≤ length t.trace
