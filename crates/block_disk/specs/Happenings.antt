-- The writes and syncs of a disk in memory, newest first, and what a crash may have left at each moment.
use Rattle.std.specs.Prelude.{◌≡◌, ◌⊎◌, ◌+◌, ◌≤◌, ℕ, List, [], ◌∷◌, ◌++◌, length, take, drop, Bool, true, false, if◌then◌else◌}
use Rattle.block_disk.specs.Images.{MayBeTorn}

-- a write of these bytes at a place, or a sync
pub data Happening : Type 0 where
  Wrote : ℕ → List ℕ → Happening
  Synced : Happening

-- what a read gives after these, which began with an empty disk
abbrev pub content_of : List Happening → List ℕ
content_of [] = []
content_of (Wrote at bytes ∷ earlier) = take at (content_of earlier) ++ bytes ++ drop (at + length bytes) (content_of earlier)
content_of (Synced ∷ earlier) = content_of earlier

-- a crash may leave this: the last write stands whole, or is torn over an image from before it; after a sync only the
-- content
abbrev pub IsImage : List Happening → List ℕ → Type 0
IsImage [] image = image ≡ []
IsImage (Wrote at bytes ∷ earlier) image =
    (image ≡ content_of (Wrote at bytes ∷ earlier)) ⊎ ((before : List ℕ) × IsImage earlier before × MayBeTorn at (length bytes) before image)
IsImage (Synced ∷ earlier) image = image ≡ content_of earlier

-- a crash at this moment or a later one might have left this, where a moment is the number of writes and syncs before
-- it
abbrev pub IsImageSince : List Happening → ℕ → List ℕ → Type 0
IsImageSince [] moment image = IsImage [] image
IsImageSince (happening ∷ earlier) moment image =
    IsImage (happening ∷ earlier) image ⊎ ((moment ≤ length earlier) × IsImageSince earlier moment image)

-- nothing was written since the last sync
abbrev pub is_settled : List Happening → Bool
is_settled [] = true
is_settled (Wrote at bytes ∷ earlier) = false
is_settled (Synced ∷ earlier) = true

-- after a sync, which counts where something was written since the last
abbrev pub synced : List Happening → List Happening
synced happenings = if is_settled happenings then happenings else Synced ∷ happenings

-- after a write that left these bytes at a place, or none
abbrev pub wrote : ℕ → List ℕ → List Happening → List Happening
wrote at [] happenings = happenings
wrote at (byte ∷ bytes) happenings = Wrote at (byte ∷ bytes) ∷ happenings
