-- A branch of the live tree of a savepoint that goes back to its step of then has again what it had then: it did not go below it before, in the run
-- up to its turn.
use Rattle.std.proofs.Common.{◌≡◌, ◌≤◌, ◌<◌, ◌+◌, ℕ, zero, suc, true, false, List, [], ◌∷◌, length, slice_get, take, drop, Some, refl, sym, ap, subst, ◌∙◌, arith}
use Rattle.node_rules.specs.Data.{BranchId, Savepoint}
use Rattle.run_rules.specs.Branches.{Seen, seen_at, is_among}
use Rattle.run_rules.specs.Data.{Turn, Happening}
use Rattle.run_rules.specs.Data.happenings
use Rattle.run_rules.specs.Each.{facts_upto, trail_upto}
use Rattle.run_rules.specs.Facts.{outcome_at}
use Rattle.run_rules.specs.Lawful.{History, IsLawfulRun}
use Rattle.run_rules.specs.Runs.{answered_by}
use Rattle.run_rules.specs.Trail.{back_in, step_back, with_begun}
use Rattle.tree_laws.proofs.PrefixLemmas.{f_at}
use Rattle.tree_laws.proofs.TimeLemmas.{Part, part_lawful}
use Rattle.tree_trail_laws.proofs.MomentLemmas.{tr_at}
use Rattle.back_laws.specs.BackLaws.{goes_back_to, StaysAbove, StandsSince}
use Rattle.back_laws.specs.LiveTree.{HasStill, live_tree, run_upto, TreeBranchesReturn}
use Rattle.back_laws.proofs.HoldLemmas.{savepoints_hold}
use Rattle.back_laws.proofs.ReturnLemmas.{branches_return}
use Rattle.back_laws.proofs.StayLemmas.{take_parts}

take_take : {A : Type 0} (m n : ℕ) (xs : List A) → m ≤ n → take m (take n xs) ≡ take m xs
take_take zero zero [] low = refl
take_take zero (suc n) [] low = refl
take_take (suc m) zero [] low = refl
take_take (suc m) (suc n) [] low = refl
take_take zero zero (x ∷ xs) low = refl
take_take zero (suc n) (x ∷ xs) low = refl
take_take (suc m) zero (x ∷ xs) low = absurd (omega (arith, low))
take_take (suc m) (suc n) (x ∷ xs) low = ap (λ ys. x ∷ ys) (take_take m n xs (omega (arith, low)))

taken_low : {A : Type 0} (n : ℕ) (xs : List A) → length (take n xs) ≤ n
taken_low zero [] = omega arith
taken_low (suc n) [] = omega arith
taken_low zero (x ∷ xs) = omega arith
taken_low (suc n) (x ∷ xs) = let low = taken_low n xs in omega (arith, low)

slice_taken : {A : Type 0} (n : ℕ) (xs : List A) (j : ℕ) (x : A) → j < n → slice_get xs j ≡ Some x → (slice_get (take n xs) j ≡ Some x) × (j < length (take n xs))
slice_taken n [] j x low at = absurd cc
slice_taken zero (y ∷ ys) j x low at = absurd (omega (arith, low))
slice_taken (suc n) (y ∷ ys) zero x low at = (at, omega arith)
slice_taken (suc n) (y ∷ ys) (suc j) x low at = let rest = slice_taken n ys j x (omega (arith, low)) at in let less = rest.1 in (rest.0, omega (arith, less))

module _ (t : History) (whole : IsLawfulRun t) (i : ℕ) (s : Seen) (v : Savepoint) (since : StandsSince (run_upto t i) s v) where
  abbrev moment : ℕ
  moment = since.last.moment + 1

  abbrev hs : List Happening
  hs = take i t.trace

  low : moment ≤ i
  low = let less = since.last.before in let short = taken_low i t.trace in omega (arith, less, short)

  part : Part t whole hs
  part = record { rest = drop i t.trace; is = take_parts i t.trace }

  module _ (b : BranchId) (is : is_among b (live_tree (facts_upto t moment) s.me) ≡ true) where
    held : HasStill (run_upto t i) moment b
    held = savepoints_hold (run_upto t i) (part_lawful t whole hs part) s v since b (subst (λ xs. is_among b (live_tree (f_at t xs) s.me) ≡ true) (sym (take_take moment i t.trace low)) is)

    its : seen_at (trail_upto t moment) b ≡ Some held.old
    its = subst (λ xs. seen_at (tr_at t xs) b ≡ Some held.old) (take_take moment i t.trace low) held.its

    above : StaysAbove t moment i b held.old.taken
    above j w late soon there k goes =
        let cut_there = slice_taken i t.trace j (happenings.Turn w) soon there in
        held.above j w late cut_there.1 cut_there.0 k (subst (λ xs. step_back b (back_in (with_begun (f_at t xs) (tr_at t xs) w) w (answered_by (outcome_at t.places (f_at t xs) w))) ≡ Some k)
        (sym (take_take j i t.trace (omega (arith, soon)))) goes)

pub tree_branches_return : TreeBranchesReturn
tree_branches_return t whole i u there s v since b is old at goes =
    let both : Some old ≡ Some (held t whole i s v since b is).old = sym at ∙ its t whole i s v since b is in
    let one : old ≡ (held t whole i s v since b is).old = cc in
    branches_return t whole (since.last.moment + 1) i (low t whole i s v since) u there b old at
    (subst (λ (y : Seen). StaysAbove t (since.last.moment + 1) i b y.taken) (sym one) (above t whole i s v since b is)) goes
