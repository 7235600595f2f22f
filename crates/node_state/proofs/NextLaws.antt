-- The next child that has to go back, child by child.
use Rattle.std.proofs.Common.{◌≡◌, ℕ, ◌+◌, ◌-◌, ◌<◌, ◌≤◌, true, false, if◌then◌else◌, List, [], length, drop, slice_get, slice_index_or, Option, None, Some, ◌⊎◌, inl, inr, refl, sym, ap, ◌∙◌, arith}
use Rattle.std.proofs.lemmas.List.{drop_more, drop_all}
use Rattle.std.proofs.lemmas.Option.{slice_get_within, get_or_from_slice_get, slice_get_cases}
use Rattle.std.proofs.lemmas.Bool.Decides.{nat_tests}
use Rattle.std.specs.Prelude.{◌==◌}
use Rattle.node_rules.specs.declared.work.Work.{Work}
use Rattle.node_rules.specs.NodeState.{no_work}
use Rattle.tran_ids.specs.declared.branch.BranchId.{BranchId}
use Rattle.node_rules.specs.Marks.{kept_call, next_back, went_on}

module _ (w : Work) (step : ℕ) (calls : List ℕ) (are : calls ≡ w.calls) where
  -- the same from the place of the first on
  abbrev from : ℕ → Option ℕ
  from place = went_on w.marks step (place + 1) (drop place calls)

  from_is : (place : ℕ) → next_back w step (place + 1) ≡ from place
  from_is place =
      let back : (place + 1) - 1 ≡ place = omega arith in
      ap (λ j. went_on w.marks step (place + 1) (drop j w.calls)) back ∙ ap (λ cs. went_on w.marks step (place + 1) (drop place cs)) (sym are)

  here : (place call : ℕ) → slice_get calls place ≡ Some call → from place ≡ (if call == kept_call w.marks step (place + 1) then from (place + 1) else Some (place + 1))
  here place call is =
      ap (went_on w.marks step (place + 1)) (drop_more calls place 0 (slice_get_within calls place call is))
      ∙ ap (λ n. if n == kept_call w.marks step (place + 1) then from (place + 1) else Some (place + 1)) (get_or_from_slice_get calls place call 0 is)

  -- no call was made over this edge since
  pub passed : (place call : ℕ) → slice_get calls place ≡ Some call → call ≡ kept_call w.marks step (place + 1) → next_back w step (place + 1) ≡ next_back w step (place + 1 + 1)
  passed place call is kept =
      let same : (call == kept_call w.marks step (place + 1)) ≡ true = grind (arith, nat_tests, kept) in
      from_is place ∙ here place call is ∙ ap (λ t. if t then from (place + 1) else Some (place + 1)) same ∙ sym (from_is (place + 1))

  -- some were
  pub goes_next : (place call : ℕ) → slice_get calls place ≡ Some call → (call ≡ kept_call w.marks step (place + 1) → ⊥) → next_back w step (place + 1) ≡ Some (place + 1)
  goes_next place call is on =
      let other : (call == kept_call w.marks step (place + 1)) ≡ false = grind (arith, nat_tests, on) in
      from_is place ∙ here place call is ∙ ap (λ t. if t then from (place + 1) else Some (place + 1)) other

  -- there is no such edge
  pub none_far : (place : ℕ) → length calls ≤ place → next_back w step (place + 1) ≡ None
  none_far place long = from_is place ∙ ap (went_on w.marks step (place + 1)) (drop_all place calls long)

  none_by : (place : ℕ) → slice_get calls place ≡ None
      → ((x : ℕ) × (place < length calls) × (slice_get calls place ≡ Some x) × (slice_index_or calls place x ≡ x)) ⊎ ((length calls ≤ place) × (slice_get calls place ≡ None))
      → next_back w step (place + 1) ≡ None
  none_by place none (inl found) = let there : slice_get calls place ≡ Some found.0 = found.2 in absurd cc
  none_by place none (inr far) = none_far place far.0

  pub none_next : (place : ℕ) → slice_get calls place ≡ None → next_back w step (place + 1) ≡ None
  none_next place none = none_by place none (slice_get_cases calls place).1

-- a branch that made no call
pub never_called : (b : BranchId) (step last : ℕ) → next_back (no_work b) step (last + 1) ≡ None
never_called b step last = none_far (no_work b) step [] refl last (omega arith)
