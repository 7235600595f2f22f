-- What a load gives of two disks while one of them is written on, and while nothing is done to it.
use Rattle.std.proofs.Common.{◌≡◌, inl, inr, ⊎_elim, ◌+◌, ℕ, Bool, true, false, not, unwrap_or, List, [], ◌∷◌, ◌++◌, Option, Some, refl, sym, ◌∙◌, ap, subst, arith}
use Rattle.std.proofs.lemmas.Bool.Decides.{nat_tests}
use Rattle.block_disk.specs.Images.{IsOnly, AtEachMoment}
use Rattle.redo_log.specs.Cells.{bodies, held}
use Rattle.redo_log.specs.Log.{disk_of, HoldsWithOrWithout, MayBeBegun}
use Rattle.redo_log.specs.Restart.{HoldsOldOrNew}
use Rattle.redo_log.proofs.Begun.{nothing_begun}
use Rattle.redo_log.proofs.Moments.{started}
use Rattle.redo_log.proofs.Settled.{log_holds}
use Rattle.checkpoint.specs.Active.{stated_generation, generation_of, second_leads, picked, active_of_two, active_list}
use Rattle.checkpoint.specs.Pair.{active_disk, spare_disk, IsPaired, LoadsWithOrWithout, LoadsOldOrNew}
use Rattle.checkpoint.specs.declared.two_logs.TwoLogs.{TwoLogs}

-- ---- which list is active

-- one more body leaves the active list active
grown_second : (first second : List (List ℕ)) (body : List ℕ) → second_leads first second ≡ true → second_leads first (second ++ body ∷ []) ≡ true
grown_second [] [] body leads = absurd cc
grown_second (a ∷ first) [] body leads = absurd cc
grown_second [] (b ∷ second) body leads = leads
grown_second (a ∷ first) (b ∷ second) body leads = leads

grown_first : (first second : List (List ℕ)) (body : List ℕ) → second_leads first second ≡ false → second_leads (first ++ body ∷ []) second ≡ false
grown_first [] [] body leads = refl
grown_first [] (b ∷ second) body leads = absurd cc
grown_first (a ∷ first) [] body leads = leads
grown_first (a ∷ first) (b ∷ second) body leads = leads

-- while the other one is empty, it stays active
empty_first : (first second : List (List ℕ)) → second_leads first second ≡ true → second_leads [] second ≡ true
empty_first [] second leads = leads
empty_first (a ∷ first) [] leads = absurd cc
empty_first (a ∷ first) (b ∷ second) leads = refl

empty_second : (first : List (List ℕ)) → second_leads first [] ≡ false
empty_second [] = refl
empty_second (a ∷ first) = refl

-- an image of the next generation is the active list
newer_first : (second : List (List ℕ)) (image : List ℕ) → stated_generation image ≡ unwrap_or (generation_of second) 0 + 1 → second_leads (image ∷ []) second ≡ false
newer_first [] image next = refl
newer_first (b ∷ second) image next = grind (arith, nat_tests)

newer_second : (first : List (List ℕ)) (image : List ℕ) → stated_generation image ≡ unwrap_or (generation_of first) 0 + 1 → second_leads first (image ∷ []) ≡ true
newer_second [] image next = refl
newer_second (a ∷ first) image next = grind (arith, nat_tests)

-- the active list of two disks that hold these lists
gives_second : (one two : List ℕ) (first second : List (List ℕ)) → bodies one ≡ Some first → bodies two ≡ Some second → second_leads first second ≡ true → active_list one two ≡ Some second
gives_second one two first second holds holds_too leads =
    ap (λ (o : Option (List (List ℕ))). active_of_two o (bodies two)) holds ∙ ap (λ (o : Option (List (List ℕ))). active_of_two (Some first) o) holds_too ∙ ap (λ (b : Bool). Some (picked b first second)) leads

gives_first : (one two : List ℕ) (first second : List (List ℕ)) → bodies one ≡ Some first → bodies two ≡ Some second → second_leads first second ≡ false → active_list one two ≡ Some first
gives_first one two first second holds holds_too leads =
    ap (λ (o : Option (List (List ℕ))). active_of_two o (bodies two)) holds ∙ ap (λ (o : Option (List (List ℕ))). active_of_two (Some first) o) holds_too ∙ ap (λ (b : Bool). Some (picked b first second)) leads

-- ---- at each moment

module _ {D : Type 0} (moment : D → ℕ) (images_since : D → ℕ → List ℕ → Type 0) where
  weaker : (before now : D) (P Q : List ℕ → Type 0) → AtEachMoment moment images_since before now P → ((image : List ℕ) → P image → Q image) → AtEachMoment moment images_since before now Q
  weaker before now P Q was here = record {
    later = was.later;
    each = λ image is. here image (was.each image is);
    earlier = λ m image le is. ⊎_elim (λ past. inl past) (λ holds. inr (here image holds)) (was.earlier m image le is);
  }

  -- an empty disk to which nothing is done
  pub untouched : (images : D → List ℕ → Type 0) (disk : D) → ((image : List ℕ) → images_since disk (moment disk) image → images disk image) → IsOnly [] (images disk) → AtEachMoment moment images_since disk disk MayBeBegun
  untouched images disk only_now only = started moment images_since disk MayBeBegun (λ image was. nothing_begun image (only image (only_now image was)))

  module _ (content : D → List ℕ) (images : D → List ℕ → Type 0) (logs : TwoLogs D) (is : IsPaired content images logs) (new : D) (body : List ℕ) where
    abbrev one : D
    one = disk_of logs.first

    abbrev two : D
    two = disk_of logs.second

    abbrev first : List (List ℕ)
    first = held (content one)

    abbrev second : List (List ℕ)
    second = held (content two)

    first_holds : bodies (content one) ≡ Some first
    first_holds = log_holds logs.first.end first (content one) is.first.cells

    second_holds : bodies (content two) ≡ Some second
    second_holds = log_holds logs.second.end second (content two) is.second.cells

    -- a body is appended to the second log
    pub append_second : logs.second_is_active ≡ true → AtEachMoment moment images_since two new (HoldsWithOrWithout second body)
        → AtEachMoment moment images_since (active_disk logs) (picked logs.second_is_active one new) (LoadsWithOrWithout logs.second_is_active (content (spare_disk logs)) (held (content (active_disk logs))) body)
    append_second active more =
        subst (λ (s : Bool). AtEachMoment moment images_since (picked s one two) (picked s one new) (LoadsWithOrWithout s (content (picked (not s) one two)) (held (content (picked s one two))) body)) (sym active)
        (weaker two new (HoldsWithOrWithout second body) (LoadsWithOrWithout true (content one) second body) more (λ image holds. ⊎_elim
        (λ old. inl (gives_second (content one) image first second first_holds old (is.leads ∙ active)))
        (λ grown. inr (gives_second (content one) image first (second ++ body ∷ []) first_holds grown (grown_second first second body (is.leads ∙ active)))) holds))

    -- or to the first
    pub append_first : logs.second_is_active ≡ false → AtEachMoment moment images_since one new (HoldsWithOrWithout first body)
        → AtEachMoment moment images_since (active_disk logs) (picked logs.second_is_active new two) (LoadsWithOrWithout logs.second_is_active (content (spare_disk logs)) (held (content (active_disk logs))) body)
    append_first active more =
        subst (λ (s : Bool). AtEachMoment moment images_since (picked s one two) (picked s new two) (LoadsWithOrWithout s (content (picked (not s) one two)) (held (content (picked s one two))) body)) (sym active)
        (weaker one new (HoldsWithOrWithout first body) (LoadsWithOrWithout false (content two) first body) more (λ image holds. ⊎_elim
        (λ old. inl (gives_first image (content two) first second old second_holds (is.leads ∙ active)))
        (λ grown. inr (gives_first image (content two) (first ++ body ∷ []) second grown second_holds (grown_first first second body (is.leads ∙ active)))) holds))

    module _ (next : stated_generation body ≡ unwrap_or (generation_of (held (content (active_disk logs)))) 0 + 1) where
      next_of : (s : Bool) → logs.second_is_active ≡ s → stated_generation body ≡ unwrap_or (generation_of (held (content (picked s one two)))) 0 + 1
      next_of s active = subst (λ (s : Bool). stated_generation body ≡ unwrap_or (generation_of (held (content (picked s one two)))) 0 + 1) active next

      -- the first log begins anew
      pub swap_first : logs.second_is_active ≡ true → AtEachMoment moment images_since one new (HoldsOldOrNew first body)
          → AtEachMoment moment images_since (spare_disk logs) (picked (not logs.second_is_active) new two) (LoadsOldOrNew (not logs.second_is_active) (content (active_disk logs)) (held (content (active_disk logs))) body)
      swap_first active more =
          subst (λ (s : Bool). AtEachMoment moment images_since (picked (not s) one two) (picked (not s) new two) (LoadsOldOrNew (not s) (content (picked s one two)) (held (content (picked s one two))) body)) (sym active)
          (weaker one new (HoldsOldOrNew first body) (LoadsOldOrNew false (content two) second body) more (λ image holds. ⊎_elim
          (λ old. inl (gives_second image (content two) first second old second_holds (is.leads ∙ active)))
          (λ others. ⊎_elim
          (λ none. inl (gives_second image (content two) [] second none second_holds (empty_first first second (is.leads ∙ active))))
          (λ anew. inr (gives_first image (content two) (body ∷ []) second anew second_holds (newer_first second body (next_of true active)))) others) holds))

      -- or the second
      pub swap_second : logs.second_is_active ≡ false → AtEachMoment moment images_since two new (HoldsOldOrNew second body)
          → AtEachMoment moment images_since (spare_disk logs) (picked (not logs.second_is_active) one new) (LoadsOldOrNew (not logs.second_is_active) (content (active_disk logs)) (held (content (active_disk logs))) body)
      swap_second active more =
          subst (λ (s : Bool). AtEachMoment moment images_since (picked (not s) one two) (picked (not s) one new) (LoadsOldOrNew (not s) (content (picked s one two)) (held (content (picked s one two))) body)) (sym active)
          (weaker two new (HoldsOldOrNew second body) (LoadsOldOrNew true (content one) first body) more (λ image holds. ⊎_elim
          (λ old. inl (gives_first (content one) image first second first_holds old (is.leads ∙ active)))
          (λ others. ⊎_elim
          (λ none. inl (gives_first (content one) image first [] first_holds none (empty_second first)))
          (λ anew. inr (gives_second (content one) image first (body ∷ []) first_holds anew (newer_second first body (next_of false active)))) others) holds))

      -- and is the active one at the end
      pub swapped_second : logs.second_is_active ≡ false → bodies (content new) ≡ Some (body ∷ []) → active_list (content one) (content new) ≡ Some (body ∷ [])
      swapped_second active stored = gives_second (content one) (content new) first (body ∷ []) first_holds stored (newer_second first body (next_of false active))
