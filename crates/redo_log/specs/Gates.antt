-- What a reader finds at the first gate of a log.
use Rattle.std.specs.Prelude.{◌≡◌, ◌<◌, ◌^◌, ℕ, List, ◌++◌, length, None}
use Rattle.redo_log.specs.Cells.{cell_of, bodies, IsClosed}
use Rattle.redo_log.specs.declared.gate.Gate.{Gate}
use Rattle.redo_log.specs.declared.gate.Gate.TheVariants.{Open, Closed, CutOff}

-- an open cell and what follows it, a gate that ends the log, or bytes that are no log
abbrev pub IsGateOf : List ℕ → Gate → Type 0
IsGateOf bytes (Open body behind) = (bytes ≡ cell_of body.now ++ behind.now) × (length body.now < 2 ^ 32)
IsGateOf bytes Closed = IsClosed bytes
IsGateOf bytes CutOff = bodies bytes ≡ None
