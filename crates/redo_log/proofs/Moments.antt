-- How the moments of a run of disk calls follow one another.
use Rattle.std.proofs.Common.{inl, inr, ⊎_elim, ℕ, List, arith}
use Rattle.block_disk.specs.Images.{GoesOn, AtEachMoment}

module _ {D : Type 0} (moment : D → ℕ) (images_since : D → ℕ → List ℕ → Type 0) where
  -- before the first call
  pub started : (old : D) (P : List ℕ → Type 0) → ((image : List ℕ) → images_since old (moment old) image → P image) → AtEachMoment moment images_since old old P
  started old P here = record { later = omega arith; each = here; earlier = λ m image le was. inl was }

  -- one call more, after which each image has P
  pub goes_on : (old mid new : D) (P images : List ℕ → Type 0) → AtEachMoment moment images_since old mid P
      → GoesOn (moment mid) (moment new) (images_since mid) (images_since new) images → ((image : List ℕ) → images image → P image)
      → AtEachMoment moment images_since old new P
  goes_on old mid new P images so_far time here = record {
    later = omega (arith, so_far.later, time.later);
    each = λ image is. ⊎_elim (so_far.each image) (here image) (time.seen (moment old) image so_far.later is);
    earlier = λ m image le is. ⊎_elim (so_far.earlier m image le) (λ now. inr (here image now)) (time.seen m image (omega (arith, le, so_far.later)) is);
  }

  -- several calls more, at each of whose moments each image has P
  pub followed_by : (old mid new : D) (P Q : List ℕ → Type 0) → AtEachMoment moment images_since old mid P → AtEachMoment moment images_since mid new Q
      → ((image : List ℕ) → Q image → P image) → AtEachMoment moment images_since old new P
  followed_by old mid new P Q so_far more here = record {
    later = omega (arith, so_far.later, more.later);
    each = λ image is. ⊎_elim (so_far.each image) (here image) (more.earlier (moment old) image so_far.later is);
    earlier = λ m image le is. ⊎_elim (so_far.earlier m image le) (λ now. inr (here image now)) (more.earlier m image (omega (arith, le, so_far.later)) is);
  }
