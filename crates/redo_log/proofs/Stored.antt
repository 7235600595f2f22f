-- What a crash leaves while bytes are written behind a gate, and while the gate is opened.
use Rattle.std.proofs.Common.{◌≡◌, inl, inr, ℕ, ◌+◌, ◌<◌, List, ◌∷◌, ◌++◌, length, get_or, take, drop, sym, ◌∙◌, ap, subst, arith, append_assoc, length-append, take-append-drop}
use Rattle.std.proofs.lemmas.List.{drop_at, drop_more, take-take, take-append-le, length-take-le}
use Rattle.block_disk.specs.Images.{IsWritten, MayBeTorn, TearsOnly, AddsNone, IsOnly, GoesOn, AtEachMoment}
use Rattle.redo_log.specs.Log.{MayBeImage}
use Rattle.redo_log.proofs.Moments.{started, goes_on}

-- the closed gate stands in each image of the first write
first_torn : (gate count : ℕ) (behind before : List ℕ) (images images' : List ℕ → Type 0) → IsOnly before images → TearsOnly (gate + 1) count images images'
    → (image : List ℕ) → images' image → MayBeImage gate behind before image
first_torn gate count behind before images images' only tears image is =
    let from = tears image is in
    inl (from.2.front ∙ ap (λ (l : List ℕ). take (gate + 1) l) (only from.0 from.1))

module _ (gate : ℕ) (behind before : List ℕ) (within : gate < length before) where
  abbrev rest : List ℕ
  rest = drop (gate + 1 + length behind) before

  abbrev written : List ℕ
  written = take (gate + 1) before ++ behind ++ rest

  length-front : length (take (gate + 1) before) ≡ gate + 1
  length-front = length-take-le (gate + 1) before (omega arith)

  split : written ≡ take (gate + 1) before ++ (behind ++ rest)
  split = append_assoc (take (gate + 1) before) behind rest

  pub front : take gate written ≡ take gate before
  front = ap (λ (l : List ℕ). take gate l) split ∙ take-append-le gate (take (gate + 1) before) (behind ++ rest) (omega (arith, length-front)) ∙ take-take gate (gate + 1) before (omega arith)

  pub back : drop (gate + 1) written ≡ behind ++ rest
  back = ap (λ (l : List ℕ). drop (gate + 1) l) split ∙ drop_at (take (gate + 1) before) (behind ++ rest) (gate + 1) length-front

  long : gate < length written
  long = omega (arith, ap (λ (l : List ℕ). length l) split, length-front, length-append (take (gate + 1) before) (behind ++ rest))

  -- the bytes stand whole in each image of the second
  torn_gate : (image : List ℕ) → MayBeTorn gate 1 written image → MayBeImage gate behind before image
  torn_gate image torn =
      let byte = get_or image gate 0 in
      let rest_is : drop gate image ≡ byte ∷ (behind ++ rest) =
      drop_more image gate 0 (omega (arith, torn.no_shorter, long)) ∙ ap (λ (l : List ℕ). byte ∷ l) (torn.back ∙ back) in
      let whole : image ≡ take gate before ++ (byte ∷ (behind ++ rest)) =
      sym (take-append-drop gate image) ∙ ap (λ (l : List ℕ). l ++ drop gate image) (torn.front ∙ front) ∙ ap (λ (l : List ℕ). take gate before ++ l) rest_is in
      inr (byte, whole ∙ sym (append_assoc (take gate before) (byte ∷ behind) rest))

  second_torn : (one : List ℕ) (images images' : List ℕ → Type 0) → IsWritten before (gate + 1) behind one → IsOnly one images → TearsOnly gate 1 images images'
      → (image : List ℕ) → images' image → MayBeImage gate behind before image
  second_torn one images images' is only tears image now =
      let from = tears image now in
      torn_gate image (subst (λ (l : List ℕ). MayBeTorn gate 1 l image) (only from.0 from.1 ∙ is) from.2)

-- the bytes are written after the gate and synced, and then the gate is opened and synced
module _ {D : Type 0} (images : D → List ℕ → Type 0) (moment : D → ℕ) (images_since : D → ℕ → List ℕ → Type 0) (gate : ℕ) (behind before one : List ℕ) (inside : gate < length before) (old first kept second : D)
    (only_now : (image : List ℕ) → images_since old (moment old) image → images old image) (durable : IsOnly before (images old))
    (tears : TearsOnly (gate + 1) (length behind) (images old) (images first)) (writes : GoesOn (moment old) (moment first) (images_since old) (images_since first) (images first))
    (none : AddsNone (images first) (images kept)) (syncs : GoesOn (moment first) (moment kept) (images_since first) (images_since kept) (images kept))
    (is : IsWritten before (gate + 1) behind one) (only : IsOnly one (images kept))
    (tears' : TearsOnly gate 1 (images kept) (images second)) (opens : GoesOn (moment kept) (moment second) (images_since kept) (images_since second) (images second)) where
  abbrev P : List ℕ → Type 0
  P = MayBeImage gate behind before

  at_gate : (image : List ℕ) → images first image → P image
  at_gate = first_torn gate (length behind) behind before (images old) (images first) durable tears

  open_gate : (image : List ℕ) → images second image → P image
  open_gate = second_torn gate behind before inside one (images kept) (images second) is only tears'

  pub while_opened : AtEachMoment moment images_since old second P
  while_opened =
      let at_start = started moment images_since old P (λ image was. inl (ap (λ (l : List ℕ). take (gate + 1) l) (durable image (only_now image was)))) in
      let written = goes_on moment images_since old old first P (images first) at_start writes at_gate in
      let synced = goes_on moment images_since old first kept P (images kept) written syncs (λ image now. at_gate image (none image now)) in
      goes_on moment images_since old kept second P (images second) synced opens open_gate

  pub until_synced : (last : D) → AddsNone (images second) (images last) → GoesOn (moment second) (moment last) (images_since second) (images_since last) (images last)
      → AtEachMoment moment images_since old last P
  until_synced last none' syncs' = goes_on moment images_since old second last P (images last) while_opened syncs' (λ image now. open_gate image (none' image now))
