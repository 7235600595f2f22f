-- What bytes hold as a log: cells, each with an open gate, up to the first gate that is not open.
use Rattle.std.specs.Prelude.{◌==◌, ◌≡◌, ◌≢◌, ◌+◌, ◌<◌, ◌^◌, ℕ, zero, suc, List, [], ◌∷◌, ◌++◌, length, take, drop, Option, Some, None, if◌then◌else◌, nat_le}
use Rattle.std.specs.Int.{from_be_bytes, to_be_bytes, w32}
use Rattle.std.specs.List.{flat_map, AllByRecursion, slice_get}
use Rattle.std.specs.Option.{option_map, unwrap_or}

-- the longest body, in bytes
abbrev pub body_limit : ℕ
body_limit = 16777216

-- a cell: an open gate, the body's length in four bytes, the most significant first, and the body
abbrev pub cell_of : List ℕ → List ℕ
cell_of body = 1 ∷ to_be_bytes w32 (length body) ++ body

-- the cells of these bodies, in their order
abbrev pub cells_of : List (List ℕ) → List ℕ
cells_of bodies = flat_map cell_of bodies

-- the log of these bodies and nothing after it: their cells, and then one closed gate
abbrev pub log_of : List (List ℕ) → List ℕ
log_of list = cells_of list ++ 0 ∷ []

-- the length that follows a gate
unfoldable pub stated_length : List ℕ → ℕ
stated_length behind = from_be_bytes w32 (take 4 behind)

-- the body that follows an open gate and its length
abbrev pub stated_body : List ℕ → List ℕ
stated_body behind = take (stated_length behind) (drop 4 behind)

-- the bodies up to the first gate that is not open, where that is one of the first so many gates
unfoldable pub bodies_within : ℕ → List ℕ → Option (List (List ℕ))
bodies_within zero bytes = None
bodies_within (suc gates) [] = None
bodies_within (suc gates) (gate ∷ behind) =
    if gate == 1 then
    (if nat_le (4 + stated_length behind) (length behind) then option_map (λ others. stated_body behind ∷ others) (bodies_within gates (drop (4 + stated_length behind) behind))
    else None)
    else Some []

-- The bodies of all cells up to the first gate that is not open; none where the bytes end before such a gate.
unfoldable pub bodies : List ℕ → Option (List (List ℕ))
bodies bytes = bodies_within (length bytes) bytes

-- the bodies, or none at all where the bytes are no log
abbrev pub held : List ℕ → List (List ℕ)
held bytes = unwrap_or (bodies bytes) []

-- the body of this number, counted from 1
abbrev pub numbered : ℕ → List (List ℕ) → Option (List ℕ)
numbered zero list = None
numbered (suc i) list = slice_get list i

-- the body of this number, where there are bodies at all
abbrev pub numbered_in : Option (List (List ℕ)) → ℕ → Option (List ℕ)
numbered_in None i = None
numbered_in (Some list) i = numbered i list

-- a gate that is not open stands first
abbrev pub IsClosed : List ℕ → Type 0
IsClosed [] = ⊥
IsClosed (gate ∷ behind) = gate ≢ 1

-- each body's length fits four bytes
abbrev pub AllFit : List (List ℕ) → Type 0
AllFit list = AllByRecursion (λ body. length body < 2 ^ 32) list

-- bytes that were the log of some bodies and nothing else are now that of the same bodies and this one
abbrev pub GrowsBy : List ℕ → List ℕ → List ℕ → Type 0
GrowsBy body before now = (list : List (List ℕ)) → AllFit list → before ≡ log_of list → now ≡ log_of (list ++ body ∷ [])

-- the log of any bodies holds these bodies
abbrev pub LogsAreRead : Type 0
LogsAreRead = (list : List (List ℕ)) → AllFit list → bodies (log_of list) ≡ Some list

-- bodies that fit and one more that fits all fit
abbrev pub FitsOneMore : Type 0
FitsOneMore = (list : List (List ℕ)) (body : List ℕ) → AllFit list → length body < 2 ^ 32 → AllFit (list ++ body ∷ [])

-- These bytes are the cells of these bodies, then a closed gate at the end that is told, then anything.
pub record IsLogTo (end : ℕ) (list : List (List ℕ)) (bytes : List ℕ) : Type 0 where
  pub cells : take end bytes ≡ cells_of list
  pub within : end < length bytes
  pub closed : IsClosed (drop end bytes)
  pub fit : AllFit list
