-- What a log keeps on its disk, and what a crash may leave of it.
use Rattle.std.specs.Prelude.{◌≡◌, ◌⊎◌, ◌+◌, ◌≤◌, ℕ, true, false, List, [], ◌∷◌, ◌++◌, length, take, drop, Some, Result, Ok, Err, ⊤}
use Rattle.std.specs.Int.{to_be_bytes, w32}
use Rattle.block_disk.specs.Images.{IsOnly}
use Rattle.redo_log.specs.Cells.{bodies, held, IsLogTo}
use Rattle.redo_log.specs.declared.log.Log.{Log}
use Rattle.redo_log.specs.declared.err.LogErr.{LogErr}
use Rattle.redo_log.specs.declared.err.LogErr.TheVariants.{Fault, NoMemory, TooLong}

-- the disk that a log stands on
abbrev pub disk_of : {D : Type 0} → Log D → D
disk_of log = log.disk

-- an append has answered Fault
abbrev pub IsBroken : {D : Type 0} → Log D → Type 0
IsBroken log = log.broken ≡ true

-- no append has answered Fault
abbrev pub IsIntact : {D : Type 0} → Log D → Type 0
IsIntact log = log.broken ≡ false

-- The disk holds the cells of the log's bodies, then a closed gate at the log's end, then anything; and a crash leaves that.
pub record IsSettled {D : Type 0} (content : D → List ℕ) (images : D → List ℕ → Type 0) (log : Log D) : Type 0 where
  pub cells : IsLogTo log.end (held (content log.disk)) (content log.disk)
  pub durable : IsOnly (content log.disk) (images log.disk)

-- where no append has answered Fault, the log is settled
abbrev pub IsUsable : {D : Type 0} → (D → List ℕ) → (D → List ℕ → Type 0) → Log D → Type 0
IsUsable content images log = IsIntact log → IsSettled content images log

-- these bytes hold the bodies, with one more or without it
abbrev pub HoldsWithOrWithout : List (List ℕ) → List ℕ → List ℕ → Type 0
HoldsWithOrWithout list body image = (bodies image ≡ Some list) ⊎ (bodies image ≡ Some (list ++ body ∷ []))

-- for a call that was refused before the disk did anything
abbrev pub OnRefused : {T : Type 0} → Result T LogErr → Type 0 → Type 0
OnRefused (Ok value) P = ⊤
OnRefused (Err Fault) P = ⊤
OnRefused (Err NoMemory) P = P
OnRefused (Err TooLong) P = P

-- what is written after a closed gate: the body's length, the body, and the next gate, closed
abbrev pub staged : List ℕ → List ℕ
staged body = to_be_bytes w32 (length body) ++ body ++ 0 ∷ []

-- these bytes after a gate of this byte, and all else as before
abbrev pub with_gate : ℕ → ℕ → List ℕ → List ℕ → List ℕ
with_gate byte gate behind before = take gate before ++ byte ∷ behind ++ drop (gate + 1 + length behind) before

-- An image while bytes are written after a gate that is then opened: all is as before up to the gate, or the bytes are there whole.
abbrev pub MayBeImage : ℕ → List ℕ → List ℕ → List ℕ → Type 0
MayBeImage gate behind before image = (take (gate + 1) image ≡ take (gate + 1) before) ⊎ ((byte : ℕ) × (image ≡ with_gate byte gate behind before))

-- an image while a log is begun: at most one byte, and it is no log or one of no body
pub record MayBeBegun (image : List ℕ) : Type 0 where
  pub short : length image ≤ 1
  pub empty : held image ≡ []
