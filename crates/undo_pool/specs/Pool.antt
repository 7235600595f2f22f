-- An undo pool as callers see it: the bytes of each owner, and the extents that they take.
use Rattle.std.specs.Prelude.{ℕ, ◌≡◌, ◌+◌, ◌-◌, List, length}
use Rattle.std.specs.Int.{div_ceil}
use Rattle.undo_pool.specs.Extents.{Held, extent_size, stream_of}

-- A pool: its extents in use, oldest first, and the number of the free ones.
pub record PoolState : Type 0 where
  pub used : List Held
  pub free : ℕ

-- the number of all extents
abbrev pub all_extents : PoolState → ℕ
all_extents p = length p.used + p.free

-- the bytes of an owner
abbrev pub bytes_of : PoolState → ℕ → List ℕ
bytes_of p owner = stream_of p.used owner

-- the extents that so many bytes take: each is full but for the last
abbrev pub extents : ℕ → ℕ
extents bytes = div_ceil bytes extent_size

-- the extents of an owner
abbrev pub extents_of : PoolState → ℕ → ℕ
extents_of p owner = extents (length (bytes_of p owner))

-- the extents that so many more bytes of an owner need beside those that it has
abbrev pub needed : PoolState → ℕ → ℕ → ℕ
needed p owner more = extents (length (bytes_of p owner) + more) - extents_of p owner

-- all owners but one have the bytes that they had
abbrev pub OthersStay : PoolState → PoolState → ℕ → Type 0
OthersStay before after owner = (other : ℕ) → (other ≡ owner → ⊥) → bytes_of after other ≡ bytes_of before other
