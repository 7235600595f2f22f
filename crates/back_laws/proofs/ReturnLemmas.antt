-- A branch that goes back to the step of a moment has again what it had then. And where a branch waits for nothing its live children have taken the
-- last calls that it noted.
use Rattle.std.proofs.Common.{◌≡◌, ◌≤◌, ◌+◌, ℕ, zero, suc, false, List, [], ◌∷◌, ◌++◌, flat_map, fold, length, take, slice_get, Option, Some, None, inl, inr, sym, ap, subst, ◌∙◌, arith}
use Rattle.tran_ids.proofs.ListedLemmas.{item_is}
use Rattle.node_rules.specs.Words.{is_item_of}
use Rattle.node_rules.specs.declared.work.Going.{Going}
use Rattle.run_rules.specs.Branches.{Ran, Seen, Trail, seen_id, seen_at, held_on, take_run}
use Rattle.run_rules.specs.Data.{Happening}
use Rattle.run_rules.specs.Data.happenings
use Rattle.run_rules.specs.Each.{trail_upto}
use Rattle.run_rules.specs.Facts.{outcome_at}
use Rattle.run_rules.specs.Runs.{run_in, answered_by}
use Rattle.run_rules.specs.Trail.{begun_in_turn, runs_back, runs_for, runs_with, step_back, taken_after, with_begun}
use Rattle.run_base_laws.specs.InTurnLaws.{WaitsFor}
use Rattle.run_base_laws.proofs.InTurnRunLemmas.{edges_fit}
use Rattle.tree_laws.proofs.PrefixLemmas.{f_at}
use Rattle.tree_trail_laws.proofs.MomentLemmas.{tr_at, trail_one_on}
use Rattle.tree_trail_laws.proofs.PlanLemmas.{find_more}
use Rattle.tree_trail_laws.proofs.SeenLemmas.{begun, brings, turned, seen_turned}
use Rattle.answer_origin_laws.proofs.NumberLemmas.{take_more}
use Rattle.back_laws.specs.BackLaws.{goes_back_to, BranchesReturn, RestIsNoted}
use Rattle.back_laws.specs.Returns.{HasAgain}
use Rattle.back_laws.proofs.StepLemmas.{ran_stays, run_rises}
use Rattle.back_laws.proofs.StayLemmas.{Stays, alone_begun, back_is, not_left, stays_upto}
use Rattle.back_laws.proofs.NoteLemmas.{calls_are_noted}
use Rattle.back_laws.proofs.SavepointLemmas.{parted}

below_length : {A : Type 0} (xs : List A) (j : ℕ) (x : A) → slice_get xs j ≡ Some x → j ≤ length xs
below_length [] j x at = absurd cc
below_length (y ∷ xs) zero x at = omega arith
below_length (y ∷ xs) (suc j) x at = let low = below_length xs j x at in omega (arith, low)

-- the same runs, before the collect of either
again : (s old : Seen) → s.runs ≡ old.runs → s.me ≡ old.me → s.collects ≡ false → old.collects ≡ false → HasAgain s (Some old)
again s old left me now was = record {
  changes = ap (λ rs. flat_map (λ (r : Ran). r.changes) rs) left;
  keys =
      ap (λ q. held_on q s.me (fold (take_run s.me) [] s.runs)) (now ∙ sym was)
      ∙ (ap (λ rs. held_on old.collects s.me (fold (take_run s.me) [] rs)) left ∙ ap (λ b. held_on old.collects b (fold (take_run b) [] old.runs)) me);
}

pub branches_return : BranchesReturn
branches_return t whole moment i low u there b old at above goes =
    let cut_there = parted t.trace i (happenings.Turn u) there in
    let hs : List Happening = take i t.trace in
    let it : Stays t whole moment i b old above (tr_at t hs) = stays_upto t whole moment i low (below_length t.trace i (happenings.Turn u) there) b old at above in
    let s : Seen = it.seen in
    let me : s.me ≡ b = item_is seen_id (tr_at t hs).seen b s it.at in
    let new : Seen = turned t.places (f_at t hs) (tr_at t hs) u s in
    let seen : seen_at (begun t.places (f_at t hs) (tr_at t hs) u) s.me ≡ Some s
    = subst (λ c. seen_at (begun t.places (f_at t hs) (tr_at t hs) u) c ≡ Some s) (sym me) (find_more (is_item_of seen_id b) (tr_at t hs).seen (begun_in_turn (f_at t hs) (tr_at t hs) u) s it.at) in
    let back : step_back s.me (brings t.places (f_at t hs) (tr_at t hs) u).back ≡ Some old.taken
    = ap (λ c. step_back c (brings t.places (f_at t hs) (tr_at t hs) u).back) me ∙ (sym (back_is t whole hs u cut_there.0 cut_there.1 b) ∙ (ap (λ n. goes_back_to t n u b) cut_there.2 ∙ goes)) in
    let left : new.runs ≡ old.runs
    = ap (λ o. runs_back o (runs_with (runs_for s (run_in (f_at t hs) (with_begun (f_at t hs) (tr_at t hs) u) u) (answered_by (outcome_at t.places (f_at t hs) u))) (f_at t hs).book (taken_after u.node s u.input) s (run_in (f_at t hs) (with_begun (f_at t hs) (tr_at t hs) u) u))) back
    ∙ (ran_stays (f_at t hs).book s old.taken it.low _ (taken_after u.node s u.input) _ (run_rises (f_at t hs) (begun t.places (f_at t hs) (tr_at t hs) u) u (alone_begun t whole hs u cut_there.0 cut_there.1) s seen (answered_by (outcome_at t.places (f_at t hs) u)))
    ∙ it.runs) in
    let one : take (i + 1) t.trace ≡ hs ++ happenings.Turn u ∷ []
    = ap (λ n. take (n + 1) t.trace) (sym cut_there.2) ∙ (ap (take (length hs + 1)) (sym cut_there.1) ∙ take_more hs (happenings.Turn u) cut_there.0) in
    let old_me : old.me ≡ b = item_is seen_id (trail_upto t moment).seen b old at in (
      new,
      ap (λ xs. seen_at (tr_at t xs) b) one ∙ (ap (λ (tr : Trail). seen_at tr b) (trail_one_on t hs (happenings.Turn u)) ∙ seen_turned t.places (f_at t hs) (tr_at t hs) u b s it.at),
      λ now. again new old left (me ∙ sym old_me) now (it.collects (not_left s.collects _ now)),
    )

-- ---- branches that wait for nothing

waits_not : (i : ℕ) (o : Option Going) → o ≡ None → WaitsFor i o → ⊥
waits_not i None none waits = waits
waits_not i (Some g) none waits = absurd cc

pub rest_is_noted : RestIsNoted
rest_is_noted t whole n k up x found rests goes i c at m j there y living me = elim ((edges_fit t whole n k up x found i c at m j there y living me).rests goes) [
  | inl waits ↦ absurd (waits_not i x.work.going rests waits)
  | inr fits ↦ (fits.0 ∙ sym ((calls_are_noted t whole n k up x.live.me x found).last i), fits.1)
]
