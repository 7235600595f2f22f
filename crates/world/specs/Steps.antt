-- What a step makes of the world.
use Rattle.std.specs.Prelude.{◌≡◌, ◌<◌, ◌≤◌, Bool, true, false, length}
use Rattle.run_rules.specs.Due.{Ends}
use Rattle.run_trace.specs.Recorded.{happening_limit}
use Rattle.world.specs.Needs.{due_in}
use Rattle.world.specs.Linked.{HoldsRun, IsLinked}
use Rattle.world.specs.declared.world.World.{World}

-- One happening more, or two, and the world is that of the longer run.
pub record StepsOn (before after : World) : Type 0 where
  pub linked : IsLinked after
  pub longer : length before.trace.happenings < length after.trace.happenings
  pub few : length after.trace.happenings ≤ happening_limit

-- the same, where a stop follows
pub record StepsTo (before after : World) : Type 0 where
  pub held : HoldsRun after
  pub longer : length before.trace.happenings < length after.trace.happenings
  pub few : length after.trace.happenings ≤ happening_limit

-- what was due has happened, or nothing is due and nothing has changed
abbrev pub Steps : World → World → Bool → Type 0
Steps before after true = StepsOn before after
Steps before after false = (after ≡ before) × (due_in before.trace ≡ Ends)
