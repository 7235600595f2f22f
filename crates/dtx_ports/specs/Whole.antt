-- Reading a source to its end and writing a text whole, where source and sink tell their bytes.
use Rattle.std.specs.Prelude.{◌≡◌, ℕ, ◌+◌, ◌≤◌, List, length, take, Option, Result, Ok, Err}
use Rattle.std.specs.Io.KnownBytes.{Consumes, IsAtEnd, Appends}
use Rattle.dtx_ports.specs.Causes.{Rose}
use Rattle.dtx_ports.specs.declared.read_err.ReadErr.{ReadErr}
use Rattle.dtx_ports.specs.declared.read_err.ReadErr.TheVariants.{Fault, TooLong, NoMemory}

-- these bytes were read, no more than the limit, and none is left
pub record IsAll (limit : ℕ) (old new : Option (List ℕ)) (bytes : List ℕ) : Type 0 where
  pub consumed : Consumes old new bytes
  pub ended : IsAtEnd new
  pub within : length bytes ≤ limit

-- one byte more than the limit was read, and no further one
abbrev pub IsTooLong : ℕ → Option (List ℕ) → Option (List ℕ) → Type 0
IsTooLong limit old new = (bytes : List ℕ) × Consumes old new bytes × (length bytes ≡ limit + 1)

-- some bytes were read, no more than the limit
abbrev pub ReadsWithin : ℕ → Option (List ℕ) → Option (List ℕ) → Type 0
ReadsWithin limit old new = (bytes : List ℕ) × Consumes old new bytes × (length bytes ≤ limit)

-- the first of these bytes were written
abbrev pub AppendsPrefix : Option (List ℕ) → Option (List ℕ) → List ℕ → Type 0
AppendsPrefix old new bytes = (n : ℕ) × (n ≤ length bytes) × Appends old new (take n bytes)

-- the source's count of faults over a whole reading: it has risen where a read failed, and is the same at each other end
abbrev pub TellsFaults : {T : Type 0} → ℕ → ℕ → Result T ReadErr → Type 0
TellsFaults before now (Ok bytes) = now ≡ before
TellsFaults before now (Err Fault) = Rose before now
TellsFaults before now (Err TooLong) = now ≡ before
TellsFaults before now (Err NoMemory) = now ≡ before
