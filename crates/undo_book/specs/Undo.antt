-- The undo of changes as bytes, and what the bytes of an owner in a pool say as changes.
use Rattle.std.specs.Prelude.{◌≡◌, ℕ, zero, suc, ◌-◌, List, [], ◌∷◌, length, flat_map, nat_lt, if◌then◌else◌, Option, Some, None}
use Rattle.std.specs.List.{AllByRecursion}
use Rattle.dtx_values.specs.declared.row.Row.{Row}
use Rattle.dtx_values.specs.declared.row.Change.{Change}
use Rattle.field_codec.specs.Change.{change_format}
use Rattle.undo_pool.specs.Pool.{PoolState, bytes_of, extents}

-- a change with this row in the place of the one that it leaves, or with none
abbrev pub with_row : Change → Option Row → Change
with_row c row = record c { after = row }

-- the bytes of changes, one after the other
abbrev pub undo_text : List Change → List ℕ
undo_text cs = flat_map change_format.text cs

-- the change that stands in front, and those that the bytes behind it say
abbrev pub first_and : (List ℕ → List Change) → Option (Change × List ℕ) → List Change
first_and others None = []
first_and others (Some x) = x.0 ∷ others x.1

-- the first changes that bytes say, at most so many
unfoldable pub changes_at : ℕ → List ℕ → List Change
changes_at zero bytes = []
changes_at (suc n) bytes = first_and (changes_at n) (change_format.read bytes)

-- the changes that bytes say: no more than they are, since each change takes some
unfoldable pub changes_in : List ℕ → List Change
changes_in bytes = changes_at (length bytes) bytes

-- the bytes are those of these changes, each of which has a spelling
pub record AreBytesOf (cs : List Change) (bytes : List ℕ) : Type 0 where
  pub fits : AllByRecursion change_format.Fits cs
  pub spelled : bytes ≡ undo_text cs

-- the bytes are those of the changes that they say
abbrev pub IsUndo : List ℕ → Type 0
IsUndo bytes = AreBytesOf (changes_in bytes) bytes

-- the undo of an owner
abbrev pub undo_of : PoolState → ℕ → List Change
undo_of p owner = changes_in (bytes_of p owner)

-- what owners have in the pool is undo
abbrev pub HoldUndo : PoolState → Type 0
HoldUndo p = (owner : ℕ) → IsUndo (bytes_of p owner)

-- the extents that the undo of changes takes
abbrev pub undo_extents : List Change → ℕ
undo_extents cs = extents (length (undo_text cs))

-- the first changes, whose bytes end within so many
abbrev pub whole_in : ℕ → List Change → List Change
whole_in keep [] = []
whole_in keep (c ∷ cs) = if nat_lt keep (length (change_format.text c)) then [] else c ∷ whole_in (keep - length (change_format.text c)) cs

-- all owners but one have the undo that they had
abbrev pub OthersStay : PoolState → PoolState → ℕ → Type 0
OthersStay before after owner = (other : ℕ) → (other ≡ owner → ⊥) → undo_of after other ≡ undo_of before other
