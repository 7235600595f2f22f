-- The laws of the trait `Disk`, for a disk in memory.
use Rattle.std.specs.Prelude.{ℕ, List, [], ◌∷◌, length, refl}
use mathlib.Core.Logic.{inl, inr}
use Rattle.std.proofs.Math.Nat.{not-suc-le_self}
use Rattle.block_disk.specs.Happenings.{Happening, Wrote, Synced, content_of, IsImage, IsImageSince}

-- what a read gives is an image
pub IsImage-content_of : (happenings : List Happening) → IsImage happenings (content_of happenings)
IsImage-content_of [] = refl
IsImage-content_of (Wrote at bytes ∷ earlier) = inl refl
IsImage-content_of (Synced ∷ earlier) = refl

-- an image of now is one since each moment
pub IsImageSince-now : (happenings : List Happening) (moment : ℕ) (image : List ℕ) → IsImage happenings image → IsImageSince happenings moment image
IsImageSince-now [] moment image now = now
IsImageSince-now (happening ∷ earlier) moment image now = inl now

-- an image since this moment is one of now
pub IsImageSince-length : (happenings : List Happening) (image : List ℕ) → IsImageSince happenings (length happenings) image → IsImage happenings image
IsImageSince-length [] image since = since
IsImageSince-length (happening ∷ earlier) image (inl now) = now
IsImageSince-length (happening ∷ earlier) image (inr past) = absurd (not-suc-le_self (length earlier) past.0)
