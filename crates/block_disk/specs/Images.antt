-- What a disk holds, what a crash may leave of it, and how time passes. An image is a content that a crash may leave.
use Rattle.std.specs.Prelude.{◌≡◌, ◌⊎◌, ◌+◌, ◌≤◌, ℕ, List, ◌++◌, length, max, take, drop}

-- these bytes stand at the place, and all else is as before
abbrev pub IsWritten : List ℕ → ℕ → List ℕ → List ℕ → Type 0
IsWritten before at bytes after = after ≡ take at before ++ bytes ++ drop (at + length bytes) before

-- A write of `count` bytes that a crash cuts short: its range, and what lies past the old end, may hold anything.
pub record MayBeTorn (at count : ℕ) (before image : List ℕ) : Type 0 where
  pub front : take at image ≡ take at before
  pub back : drop (at + count) image ≡ drop (at + count) before
  pub no_shorter : length before ≤ length image
  pub no_longer : length image ≤ max (length before) (at + count)

-- each image after a write comes of one before it, torn within the write's range
abbrev pub TearsOnly : ℕ → ℕ → (List ℕ → Type 0) → (List ℕ → Type 0) → Type 0
TearsOnly at count images_before images_after = (image : List ℕ) → images_after image → (before : List ℕ) × images_before before × MayBeTorn at count before image

-- no image is new
abbrev pub AddsNone : (List ℕ → Type 0) → (List ℕ → Type 0) → Type 0
AddsNone images_before images_after = (image : List ℕ) → images_after image → images_before image

-- the only image is this content
abbrev pub IsOnly : List ℕ → (List ℕ → Type 0) → Type 0
IsOnly content images = (image : List ℕ) → images image → image ≡ content

-- Time passes over a call: an image since some moment was one before the call, or is one now, and none is forgotten.
pub record GoesOn (before now : ℕ) (since_before since_now : ℕ → List ℕ → Type 0) (images : List ℕ → Type 0) : Type 0 where
  pub later : before ≤ now
  pub seen : (moment : ℕ) (image : List ℕ) → moment ≤ before → since_now moment image → since_before moment image ⊎ images image
  pub kept : (moment : ℕ) (image : List ℕ) → moment ≤ before → since_before moment image → since_now moment image

-- At each moment from one state of a disk to a later one, P holds of every image.
pub record AtEachMoment {D : Type 0} (moment : D → ℕ) (images_since : D → ℕ → List ℕ → Type 0) (before now : D) (P : List ℕ → Type 0) : Type 0 where
  pub later : moment before ≤ moment now
  pub each : (image : List ℕ) → images_since now (moment before) image → P image
  -- and of those since an earlier moment
  pub earlier : (m : ℕ) (image : List ℕ) → m ≤ moment before → images_since now m image → images_since before m image ⊎ P image
