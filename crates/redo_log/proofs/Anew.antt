-- What a settled log holds at each moment of a restart, and at its end.
use Rattle.std.proofs.Common.{◌≡◌, inl, inr, ℕ, ◌+◌, ◌<◌, ◌^◌, Bool, true, false, List, [], ◌∷◌, ◌++◌, length, drop, Option, Some, None, sym, refl, ◌∙◌, ap, subst, arith, append_assoc, length-append}
use Rattle.std.specs.Int.{to_be_bytes, w32}
use Rattle.std.proofs.lemmas.List.{append-nil}
use Rattle.block_disk.specs.Images.{IsOnly, AddsNone, GoesOn, AtEachMoment}
use Rattle.block_disk.specs.Plan.{FaultPlan}
use Rattle.redo_log.specs.Cells.{cell_of, cells_of, bodies, held, IsLogTo}
use Rattle.redo_log.specs.Log.{IsSettled, staged, with_gate}
use Rattle.redo_log.specs.Restart.{MayBeReplaced, HoldsOldOrNew, shut_calls, shuts_gate, IsReplacedIf, IsReplacedByPlan, replaced_if, replaced_by_plan, HoldsReplaced}
use Rattle.redo_log.specs.Stands.{stands_by, stands_after}
use Rattle.redo_log.specs.declared.log.Log.{Log}
use Rattle.redo_log.proofs.Cells.{closed}
use Rattle.redo_log.proofs.Moments.{started, goes_on, followed_by}
use Rattle.redo_log.proofs.Settled.{settled, is_log, log_holds}

-- the body's cell, a closed gate, and anything
module _ (body before : List ℕ) (fits : length body < 2 ^ 32) where
  abbrev rest : List ℕ
  rest = 0 ∷ drop (0 + 1 + length (staged body)) before

  cell_first : with_gate 1 0 (staged body) before ≡ cells_of (body ∷ []) ++ rest
  cell_first =
      let tail = drop (0 + 1 + length (staged body)) before in
      ap (λ (l : List ℕ). 1 ∷ (to_be_bytes w32 (length body) ++ l)) (append_assoc body (0 ∷ []) tail) ∙ ap (λ (l : List ℕ). l ++ rest) (sym (append-nil (cell_of body)))

  pub anew : IsLogTo (length body + 5) (body ∷ []) (with_gate 1 0 (staged body) before)
  anew = is_log (length body + 5) (body ∷ []) rest (with_gate 1 0 (staged body) before) cell_first (omega arith) (fits, tt) (omega (arith, length-append (cell_of body) []))

  pub anew_holds : bodies (with_gate 1 0 (staged body) before) ≡ Some (body ∷ [])
  anew_holds = log_holds (length body + 5) (body ∷ []) (with_gate 1 0 (staged body) before) anew

module _ {D : Type 0} (content : D → List ℕ) (images : D → List ℕ → Type 0) (log : Log D) (is : IsSettled content images log) (body : List ℕ) where
  abbrev list : List (List ℕ)
  list = held (content log.disk)

  abbrev P : List ℕ → Type 0
  P = HoldsOldOrNew list body

  here : (image : List ℕ) → images log.disk image → P image
  here image now = inl (ap bodies (is.durable image now) ∙ log_holds log.end list (content log.disk) is.cells)

  replaced : length body < 2 ^ 32 → (image : List ℕ) → MayBeReplaced (staged body) (content log.disk) image → P image
  replaced fits image (inl (inl same)) = inl (ap bodies same ∙ log_holds log.end list (content log.disk) is.cells)
  replaced fits image (inl (inr shut)) = inr (inl (closed image shut))
  replaced fits image (inr stands) = inr (inr (ap bodies stands ∙ anew_holds body (content log.disk) fits))

  module _ (moment : D → ℕ) (images_since : D → ℕ → List ℕ → Type 0) (only_now : (image : List ℕ) → images_since log.disk (moment log.disk) image → images log.disk image) where
    pub at_start : AtEachMoment moment images_since log.disk log.disk P
    at_start = started moment images_since log.disk P (λ image was. here image (only_now image was))

    pub with_room : (mid : D) → AddsNone (images log.disk) (images mid) → GoesOn (moment log.disk) (moment mid) (images_since log.disk) (images_since mid) (images mid)
        → AtEachMoment moment images_since log.disk mid P
    with_room mid none time = goes_on moment images_since log.disk log.disk mid P (images mid) at_start time (λ image now. here image (none image now))

    pub while_replaced : (mid new : D) (behind : List ℕ) → AddsNone (images log.disk) (images mid) → GoesOn (moment log.disk) (moment mid) (images_since log.disk) (images_since mid) (images mid)
        → content mid ≡ content log.disk → behind ≡ staged body → length body < 2 ^ 32
        → AtEachMoment moment images_since mid new (MayBeReplaced behind (content mid)) → AtEachMoment moment images_since log.disk new P
    while_replaced mid new behind none time same is_staged fits more =
        followed_by moment images_since log.disk mid new P (MayBeReplaced behind (content mid)) (with_room mid none time) more
        (λ image may. replaced fits image
        (subst (λ (l : List ℕ). MayBeReplaced (staged body) l image) same (subst (λ (b : List ℕ). MayBeReplaced b (content mid) image) is_staged may)))

  module _ (before behind after : List ℕ) (same : before ≡ content log.disk) (is_staged : behind ≡ staged body) (fits : length body < 2 ^ 32) (stores : after ≡ with_gate 1 0 behind before) where
    is_after : after ≡ with_gate 1 0 (staged body) (content log.disk)
    is_after = stores ∙ ap (λ (b : List ℕ). with_gate 1 0 b before) is_staged ∙ ap (λ (l : List ℕ). with_gate 1 0 (staged body) l) same

    pub stored : bodies after ≡ Some (body ∷ [])
    stored = ap bodies is_after ∙ anew_holds body (content log.disk) fits

    pub settled_anew : (new : Log D) → content new.disk ≡ after → new.end ≡ length body + 5 → IsOnly (content new.disk) (images new.disk) → IsSettled content images new
    settled_anew new now ends only =
        settled content images new (body ∷ [])
        (subst (λ (n : ℕ). IsLogTo n (body ∷ []) (content new.disk)) (sym ends) (subst (λ (l : List ℕ). IsLogTo (length body + 5) (body ∷ []) l) (sym (now ∙ is_after)) (anew body (content log.disk) fits))) only

  -- by whether the list was shut, and whether the body stands
  left_if : (stands shut : Bool) (image : List ℕ) → length body < 2 ^ 32 → IsReplacedIf stands shut (staged body) (content log.disk) image → bodies image ≡ Some (replaced_if stands shut list body)
  left_if true shut image fits is_left = ap bodies is_left ∙ anew_holds body (content log.disk) fits
  left_if false true image fits is_left = closed image is_left
  left_if false false image fits is_left = ap bodies is_left ∙ log_holds log.end list (content log.disk) is.cells

  left_by : (plan : FaultPlan) (others : List (List ℕ)) (image : List ℕ) → others ≡ list → length body < 2 ^ 32 → IsReplacedByPlan (Some plan) others (staged body) (content log.disk) image
      → bodies image ≡ Some (replaced_by_plan plan others body)
  left_by plan [] image same fits is_left = left_if (stands_by plan) true image fits is_left ∙ ap (λ (l : List (List ℕ)). Some (replaced_if (stands_by plan) true l body)) (sym same)
  left_by plan (first ∷ others) image same fits is_left =
      left_if (stands_after shut_calls plan) (shuts_gate plan) image fits is_left ∙ ap (λ (l : List (List ℕ)). Some (replaced_if (stands_after shut_calls plan) (shuts_gate plan) l body)) (sym same)

  -- after a failed call the log holds what the plan says
  pub left : (plan now : Option FaultPlan) (mid behind after : List ℕ) → now ≡ plan → mid ≡ content log.disk → behind ≡ staged body → length body < 2 ^ 32 → IsReplacedByPlan now (held mid) behind mid after → HoldsReplaced plan list body after
  left None now mid behind after same_plan same is_staged fits is_left = tt
  left (Some plan) now mid behind after same_plan same is_staged fits is_left =
      left_by plan list after refl fits
      (subst (λ (l : List ℕ). IsReplacedByPlan (Some plan) (held l) (staged body) l after) same
      (subst (λ (b : List ℕ). IsReplacedByPlan (Some plan) (held mid) b mid after) is_staged (subst (λ (p : Option FaultPlan). IsReplacedByPlan p (held mid) behind mid after) same_plan is_left)))
