-- What the kept writes and syncs of a disk in memory stand for.
use Rattle.std.specs.Prelude.{ℕ, ◌-◌, List, [], ◌∷◌, length, take, drop}
use Rattle.block_disk.specs.Happenings.{Happening, Wrote, Synced}
use Rattle.block_disk.specs.Spare.{Spare}
use Rattle.block_disk.specs.declared.past.Event.{Event}
use Rattle.block_disk.specs.declared.past.Event.TheVariants.{Write, Sync}

-- The past of a disk in memory.
pub record PastState : Type 0 where
  pub happenings : List Happening  -- its writes and syncs, newest first
  pub spare : Spare  -- what may still be written without more memory

-- the writes and syncs of these events, newest first: the bytes of the last write are the last of all bytes
abbrev pub happenings_of : List Event → List ℕ → List Happening
happenings_of [] written = []
happenings_of (Write at count ∷ events) written =
    Wrote at (drop (length written - count) written) ∷ happenings_of events (take (length written - count) written)
happenings_of (Sync ∷ events) written = Synced ∷ happenings_of events written
