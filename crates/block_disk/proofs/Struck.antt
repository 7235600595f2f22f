-- A write that an order strikes leaves no more bytes than it has, so each image after it comes of one before it.
use Rattle.std.proofs.Common.{◌≡◌, ◌+◌, ◌-◌, ◌≤◌, inl, inr, ℕ, List, [], ◌∷◌, length, drop, refl, sym, ◌∙◌, ap, arith}
use Rattle.std.proofs.lemmas.List.{drop-drop, length-take}
use Rattle.block_disk.specs.Images.{MayBeTorn, TearsOnly, GoesOn}
use Rattle.block_disk.specs.Happenings.{Happening, content_of, wrote, IsImage, IsImageSince}
use Rattle.block_disk.specs.Orders.{left_by}
use Rattle.block_disk.specs.declared.fault.How.TheVariants.{Keep, Leave}
use Rattle.block_disk.specs.declared.faults.Strike.{Strike}
use Rattle.block_disk.specs.declared.faults.Strike.TheVariants.{Spares, Fails, Stops}
use Rattle.block_disk.proofs.Torn.{tears_only}

-- what is left of a write is no longer than the write
pub left_fits : (strike : Strike) (bytes : List ℕ) → length (left_by strike bytes) ≤ length bytes
left_fits Spares bytes = omega arith
left_fits Fails bytes = omega arith
left_fits (Stops (Keep count)) bytes = omega (arith, length-take count bytes)
left_fits (Stops (Leave others)) bytes = omega (arith, length-take (length bytes) others.items)

-- an image is one of its own tears
untouched : (at count : ℕ) (image : List ℕ) → MayBeTorn at count image image
untouched at count image = record { front = refl; back = refl; no_shorter = omega arith; no_longer = omega arith }

module _ (at small large : ℕ) (fits : small ≤ large) where
  -- what lies behind the large range lies behind the small one
  behind : (image : List ℕ) → drop (at + large) image ≡ drop (large - small) (drop (at + small) image)
  behind image =
      let same : at + large ≡ at + small + (large - small) = omega (arith, fits) in
      ap (λ n. drop n image) same ∙ sym (drop-drop (large - small) (at + small) image)

  -- a tear within a small range is one within a larger range
  wider : (before image : List ℕ) → MayBeTorn at small before image → MayBeTorn at large before image
  wider before image torn = record {
    front = torn.front;
    back = behind image ∙ ap (λ (l : List ℕ). drop (large - small) l) torn.back ∙ sym (behind before);
    no_shorter = torn.no_shorter;
    no_longer = omega (arith, fits, torn.no_longer);
  }

-- each image after a write that left a part comes of one before it
pub part_tears_only : (happenings : List Happening) (at count : ℕ) (part : List ℕ) → at ≤ length (content_of happenings) → length part ≤ count → TearsOnly at count (IsImage happenings) (IsImage (wrote at part happenings))
part_tears_only happenings at count [] within fits image is = (image, is, untouched at count image)
part_tears_only happenings at count (byte ∷ bytes) within fits image is =
    let torn = tears_only happenings at (byte ∷ bytes) within image is in
    (torn.0, torn.1, wider at (length (byte ∷ bytes)) count fits torn.0 image torn.2)

-- time goes on over a write that left a part
pub part_goes_on : (happenings : List Happening) (at : ℕ) (part : List ℕ) → GoesOn (length happenings) (length (wrote at part happenings)) (IsImageSince happenings) (IsImageSince (wrote at part happenings)) (IsImage (wrote at part happenings))
part_goes_on happenings at [] = record {
  later = omega arith;
  seen = λ moment image early since. inl since;
  kept = λ moment image early since. since;
}
part_goes_on happenings at (byte ∷ bytes) = record {
  later = omega arith;
  seen = λ moment image early since. elim since [ inl now ↦ inr now | inr past ↦ inl past.1 ];
  kept = λ moment image early since. inr (early, since);
}
