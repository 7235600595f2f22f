-- What a crash leaves while the first gate is written.
use Rattle.std.proofs.Common.{◌≡◌, inl, inr, ℕ, ◌≤◌, List, [], ◌∷◌, length, Option, refl, ap, subst, arith}
use Rattle.std.specs.Option.{unwrap_or}
use Rattle.std.proofs.lemmas.Bool.{cases_eq}
use Rattle.block_disk.specs.Images.{MayBeTorn, TearsOnly, AddsNone, IsOnly, GoesOn, AtEachMoment}
use Rattle.redo_log.specs.Log.{MayBeBegun}
use Rattle.redo_log.proofs.Cells.{closed, none_of_nothing, cut_off_at}
use Rattle.redo_log.proofs.Moments.{started, goes_on}

-- one byte holds no body
begun : (image : List ℕ) → length image ≤ 1 → MayBeBegun image
begun [] short = record { short = short; empty = ap (λ (o : Option (List (List ℕ))). unwrap_or o []) none_of_nothing }
begun (byte ∷ []) short = elim (cases_eq byte 1) [
  | inl is_one ↦ record { short = short; empty = ap (λ (o : Option (List (List ℕ))). unwrap_or o []) (cut_off_at (byte ∷ []) byte [] refl is_one (omega arith)) }
  | inr not_one ↦ record { short = short; empty = ap (λ (o : Option (List (List ℕ))). unwrap_or o []) (closed (byte ∷ []) not_one) }
]
begun (byte ∷ more ∷ bytes) short = absurd (omega arith)

pub nothing_begun : (image : List ℕ) → image ≡ [] → MayBeBegun image
nothing_begun image is = begun image (omega (arith, ap (λ (l : List ℕ). length l) is))

gate_torn : (images images' : List ℕ → Type 0) → IsOnly [] images → TearsOnly 0 1 images images' → (image : List ℕ) → images' image → MayBeBegun image
gate_torn images images' only tears image now =
    let from = tears image now in
    let torn = subst (λ (l : List ℕ). MayBeTorn 0 1 l image) (only from.0 from.1) from.2 in
    begun image (omega (arith, torn.no_longer))

-- an empty disk makes room, takes the gate's byte, and is synced: at most one byte at each moment
module _ {D : Type 0} (images : D → List ℕ → Type 0) (moment : D → ℕ) (images_since : D → ℕ → List ℕ → Type 0) (old roomy : D)
    (only_now : (image : List ℕ) → images_since old (moment old) image → images old image) (only : IsOnly [] (images old))
    (none : AddsNone (images old) (images roomy)) (time : GoesOn (moment old) (moment roomy) (images_since old) (images_since roomy) (images roomy)) where
  still_empty : IsOnly [] (images roomy)
  still_empty image now = only image (none image now)

  pub with_room : AtEachMoment moment images_since old roomy MayBeBegun
  with_room =
      let at_start = started moment images_since old MayBeBegun (λ image was. nothing_begun image (only image (only_now image was))) in
      goes_on moment images_since old old roomy MayBeBegun (images roomy) at_start time (λ image now. nothing_begun image (still_empty image now))

  module _ (written : D) (tears : TearsOnly 0 1 (images roomy) (images written)) (then : GoesOn (moment roomy) (moment written) (images_since roomy) (images_since written) (images written)) where
    torn : (image : List ℕ) → images written image → MayBeBegun image
    torn = gate_torn (images roomy) (images written) still_empty tears

    pub while_written : AtEachMoment moment images_since old written MayBeBegun
    while_written = goes_on moment images_since old roomy written MayBeBegun (images written) with_room then torn

    pub until_synced : (synced : D) → AddsNone (images written) (images synced) → GoesOn (moment written) (moment synced) (images_since written) (images_since synced) (images synced)
        → AtEachMoment moment images_since old synced MayBeBegun
    until_synced synced none' after = goes_on moment images_since old written synced MayBeBegun (images synced) while_written after (λ image now. torn image (none' image now))
