-- A port: what it stands before, and how often that has failed.
use Rattle.std.specs.Prelude.{ℕ}

-- a reader or a writer, and the count of its faults
pub record PortState (R : Type 0) : Type 0 where
  pub device : R
  pub faults : ℕ
