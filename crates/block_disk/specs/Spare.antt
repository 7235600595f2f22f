-- What may still be written on a disk without more memory.
use Rattle.std.specs.Prelude.{ℕ, ◌≤◌, ◌-◌, List, [], ◌∷◌, length, max}

-- So much may be written.
pub record Spare : Type 0 where
  pub bytes : ℕ  -- how many bytes
  pub writes : ℕ  -- in how many writes

-- nothing at all
abbrev pub no_spare : Spare
no_spare = record { bytes = 0; writes = 0 }

-- so many bytes may be written, in so many writes
abbrev pub HasRoom : ℕ → ℕ → Spare → Type 0
HasRoom bytes writes spare = (bytes ≤ spare.bytes) × (writes ≤ spare.writes)

-- once there is room for so many bytes in so many writes
abbrev pub with_room : ℕ → ℕ → Spare → Spare
with_room bytes writes spare = record { bytes = max spare.bytes bytes; writes = max spare.writes writes }

-- after a write of so many bytes
abbrev pub spent : ℕ → Spare → Spare
spent bytes spare = record { bytes = spare.bytes - bytes; writes = spare.writes - 1 }

-- after a write that left these bytes, or none
abbrev pub spent_on : List ℕ → Spare → Spare
spent_on [] spare = spare
spent_on (byte ∷ bytes) spare = spent (length (byte ∷ bytes)) spare
