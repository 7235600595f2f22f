-- What a stop of a node leaves of the world: of its sites, and of the run so far.
use Rattle.std.specs.Prelude.{◌≡◌, ℕ}
use Rattle.run_rules.specs.Data.happenings
use Rattle.run_rules.specs.Past.{next}
use Rattle.run_trace.specs.Recorded.{past_of}
use Rattle.world.specs.declared.world.World.{World}
use Rattle.world.specs.Stops.{StopsAt}

-- A node has stopped.
pub record HasHalted (n : ℕ) (before after : World) : Type 0 where
  pub slots : StopsAt n before.slots.items after.slots.items
  pub past : past_of after.trace ≡ next before.trace.places before.trace.asked (past_of before.trace) (happenings.Stopped n)
