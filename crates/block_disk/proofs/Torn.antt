-- A write that stands whole is one that a crash may leave, so each image after a write comes of one before it.
use Rattle.std.proofs.Common.{◌≡◌, ◌+◌, ◌≤◌, inl, inr, ℕ, List, ◌∷◌, ◌++◌, length, take, drop, sym, ◌∙◌, ap, subst, arith, append_assoc, length-append, length-drop}
use Rattle.std.proofs.lemmas.List.{take_at, drop_at, length-take}
use Rattle.block_disk.specs.Images.{MayBeTorn, TearsOnly}
use Rattle.block_disk.specs.Happenings.{Happening, Wrote, content_of, IsImage}
use Rattle.block_disk.specs.ImageLaws.{IsImage-content_of}

module _ (before bytes : List ℕ) (at : ℕ) (within : at ≤ length before) where
  length-front : length (take at before) ≡ at
  length-front = omega (arith, length-take at before)

  -- what stands before the write's end
  length-written : length (take at before ++ bytes) ≡ at + length bytes
  length-written = omega (arith, length-front, length-append (take at before) bytes)

  -- the write that stands whole is one of its tears
  pub whole_may_be_torn : MayBeTorn at (length bytes) before (take at before ++ bytes ++ drop (at + length bytes) before)
  whole_may_be_torn = record {
    front = ap (λ (l : List ℕ). take at l) (append_assoc (take at before) bytes (drop (at + length bytes) before)) ∙ take_at (take at before) (bytes ++ drop (at + length bytes) before) at length-front;
    back = drop_at (take at before ++ bytes) (drop (at + length bytes) before) (at + length bytes) length-written;
    no_shorter = omega (arith, length-written, length-append (take at before ++ bytes) (drop (at + length bytes) before), length-drop (at + length bytes) before);
    no_longer = omega (arith, length-written, length-append (take at before ++ bytes) (drop (at + length bytes) before), length-drop (at + length bytes) before);
  }

-- each image after a write comes of one before it
pub tears_only : (happenings : List Happening) (at : ℕ) (bytes : List ℕ) → at ≤ length (content_of happenings) → TearsOnly at (length bytes) (IsImage happenings) (IsImage (Wrote at bytes ∷ happenings))
tears_only happenings at bytes within image (inl is) =
    let before = content_of happenings in
    (before, IsImage-content_of happenings, subst (λ (l : List ℕ). MayBeTorn at (length bytes) before l) (sym is) (whole_may_be_torn before bytes at within))
tears_only happenings at bytes within image (inr torn) = torn
