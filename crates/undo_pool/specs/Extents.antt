-- The extents of an undo pool that are in use: whose each is, and what it holds.
use Rattle.std.specs.Prelude.{ℕ, suc, ◌≡◌, ◌==◌, ◌+◌, ◌-◌, ◌*◌, ◌<◌, ◌≤◌, List, [], ◌∷◌, ◌++◌, if◌then◌else◌, length, take, drop, slice_index_or}
use Rattle.std.specs.List.{All}

-- An extent in use: its owner, and the bytes that it holds.
pub record Held : Type 0 where
  pub owner : ℕ
  pub bytes : List ℕ

-- the bytes of an extent
abbrev pub extent_size : ℕ
extent_size = 4096

-- the bytes of an owner in an extent
abbrev pub part_of : Held → ℕ → List ℕ
part_of x owner = if x.owner == owner then x.bytes else []

-- the bytes of an owner: those of its extents, oldest first
abbrev pub stream_of : List Held → ℕ → List ℕ
stream_of [] owner = []
stream_of (x ∷ xs) owner = if x.owner == owner then x.bytes ++ stream_of xs owner else stream_of xs owner

-- how many extents an owner has
abbrev pub count_of : List Held → ℕ → ℕ
count_of [] owner = 0
count_of (x ∷ xs) owner = if x.owner == owner then 1 + count_of xs owner else count_of xs owner

-- the owners, each once, in the order of their last extents
abbrev pub owners_of : List Held → List ℕ
owners_of [] = []
owners_of (x ∷ xs) = if count_of xs x.owner == 0 then x.owner ∷ owners_of xs else owners_of xs

-- the bytes that an owner's last extent still takes
abbrev pub room_of : List Held → ℕ → ℕ
room_of [] owner = 0
room_of (x ∷ xs) owner = if x.owner == owner then (if count_of xs owner == 0 then extent_size - length x.bytes else room_of xs owner) else room_of xs owner

-- no extent holds more bytes than it has
abbrev pub AllFit : List Held → Type 0
AllFit used = All (λ x. length x.bytes ≤ extent_size) used

-- each extent of an owner is full but for its last, and that one is not empty
abbrev pub ArePacked : List Held → Type 0
ArePacked used = (owner : ℕ) → (length (stream_of used owner) + room_of used owner ≡ extent_size * count_of used owner) × (room_of used owner < extent_size)

-- the last extent of its owner stands at this place
pub record IsLast (used : List Held) (place : ℕ) : Type 0 where
  pub it : Held
  pub within : place < length used
  pub at : (x : Held) → slice_index_or used place x ≡ it
  pub stands : used ≡ take place used ++ it ∷ drop (suc place) used
  pub last : count_of (drop (suc place) used) it.owner ≡ 0

-- the last extent of this owner stands there
pub record IsLastOf (used : List Held) (owner place : ℕ) : Type 0 where
  pub here : IsLast used place
  pub owned : here.it.owner ≡ owner

-- all owners but one have the extents that they had
abbrev pub OthersKeep : List Held → List Held → ℕ → Type 0
OthersKeep before after owner = (other : ℕ) → (other ≡ owner → ⊥)
    → (stream_of after other ≡ stream_of before other) × (count_of after other ≡ count_of before other) × (room_of after other ≡ room_of before other)
