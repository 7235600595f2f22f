-- What an append makes of a settled log, at each moment and at its end.
use Rattle.std.proofs.Common.{◌≡◌, ℕ, ◌+◌, ◌<◌, ◌^◌, List, [], ◌∷◌, ◌++◌, length, drop, Option, Some, None, sym, ◌∙◌, ap, subst, arith, inl}
use Rattle.block_disk.specs.Images.{IsOnly, AddsNone, GoesOn, AtEachMoment}
use Rattle.redo_log.specs.Cells.{bodies, held, GrowsBy}
use Rattle.redo_log.specs.Log.{IsSettled, HoldsWithOrWithout, staged, with_gate, MayBeImage}
use Rattle.block_disk.specs.Plan.{FaultPlan}
use Rattle.redo_log.specs.Stands.{stands_by, IsStoredIf, IsStoredByPlan, HoldsByPlan}
use Rattle.redo_log.specs.declared.log.Log.{Log}
use Rattle.redo_log.proofs.Logs.{grows}
use Rattle.redo_log.proofs.Moments.{started, goes_on, followed_by}
use Rattle.redo_log.proofs.Settled.{settled, log_holds, is_log, is_open, length-open, opened_holds, with_or_without, fits_push, stored_if}

module _ {D : Type 0} (content : D → List ℕ) (images : D → List ℕ → Type 0) (log : Log D) (is : IsSettled content images log) (body : List ℕ) where
  abbrev list : List (List ℕ)
  list = held (content log.disk)

  abbrev P : List ℕ → Type 0
  P = HoldsWithOrWithout list body

  here : (image : List ℕ) → images log.disk image → P image
  here image now = inl (ap bodies (is.durable image now) ∙ log_holds log.end list (content log.disk) is.cells)

  module _ (moment : D → ℕ) (images_since : D → ℕ → List ℕ → Type 0) (only_now : (image : List ℕ) → images_since log.disk (moment log.disk) image → images log.disk image) where
    pub at_start : AtEachMoment moment images_since log.disk log.disk P
    at_start = started moment images_since log.disk P (λ image was. here image (only_now image was))

    pub with_room : (mid : D) → AddsNone (images log.disk) (images mid) → GoesOn (moment log.disk) (moment mid) (images_since log.disk) (images_since mid) (images mid)
        → AtEachMoment moment images_since log.disk mid P
    with_room mid none time = goes_on moment images_since log.disk log.disk mid P (images mid) at_start time (λ image now. here image (none image now))

    pub while_stored : (mid new : D) (behind : List ℕ) → AddsNone (images log.disk) (images mid) → GoesOn (moment log.disk) (moment mid) (images_since log.disk) (images_since mid) (images mid)
        → content mid ≡ content log.disk → behind ≡ staged body → length body < 2 ^ 32
        → AtEachMoment moment images_since mid new (MayBeImage log.end behind (content mid)) → AtEachMoment moment images_since log.disk new P
    while_stored mid new behind none time same is_staged fits more =
        followed_by moment images_since log.disk mid new P (MayBeImage log.end behind (content mid)) (with_room mid none time) more
        (λ image may. with_or_without log.end list (content log.disk) is.cells body fits image
        (subst (λ (l : List ℕ). MayBeImage log.end (staged body) l image) same (subst (λ (b : List ℕ). MayBeImage log.end b (content mid) image) is_staged may)))

  module _ (before behind after : List ℕ) (same : before ≡ content log.disk) (is_staged : behind ≡ staged body) (fits : length body < 2 ^ 32) (stores : after ≡ with_gate 1 log.end behind before) where
    is_after : after ≡ with_gate 1 log.end (staged body) (content log.disk)
    is_after = stores ∙ ap (λ (b : List ℕ). with_gate 1 log.end b before) is_staged ∙ ap (λ (l : List ℕ). with_gate 1 log.end (staged body) l) same

    pub stored : bodies after ≡ Some (list ++ body ∷ [])
    stored = ap bodies is_after ∙ opened_holds log.end list (content log.disk) is.cells body fits

    pub exact : GrowsBy body (content log.disk) after
    exact prior fit was = is_after ∙ grows log.end (content log.disk) is.cells body fits prior fit was

    pub settled_again : (new : Log D) → content new.disk ≡ after → new.end ≡ log.end + (length body + 5) → IsOnly (content new.disk) (images new.disk) → IsSettled content images new
    settled_again new now ends only =
        settled content images new (list ++ body ∷ [])
        (is_log new.end (list ++ body ∷ []) (0 ∷ drop (log.end + 1 + length (staged body)) (content log.disk)) (content new.disk)
        (now ∙ is_after ∙ is_open log.end list (content log.disk) is.cells body fits) (omega arith) (fits_push list body is.cells.fit fits)
        (ends ∙ sym (length-open log.end list (content log.disk) is.cells body fits))) only

  -- after a failed call the log holds the body where that stands by the plan
  pub left : (plan now : Option FaultPlan) (mid behind after : List ℕ) → now ≡ plan → mid ≡ content log.disk → behind ≡ staged body → length body < 2 ^ 32 → IsStoredByPlan now log.end behind mid after → HoldsByPlan plan list body after
  left None now mid behind after same_plan same is_staged fits stored_by = tt
  left (Some plan) now mid behind after same_plan same is_staged fits stored_by =
      let by_plan : IsStoredByPlan (Some plan) log.end behind mid after = subst (λ (p : Option FaultPlan). IsStoredByPlan p log.end behind mid after) same_plan stored_by in
      stored_if log.end list (content log.disk) is.cells body fits (stands_by plan) after
      (subst (λ (l : List ℕ). IsStoredIf (stands_by plan) log.end (staged body) l after) same (subst (λ (b : List ℕ). IsStoredIf (stands_by plan) log.end b mid after) is_staged by_plan))
