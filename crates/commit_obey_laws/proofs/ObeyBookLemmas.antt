-- By the book: in every lawful run a decision from toward is written by the sealed branch that it comes to, and rows stay.
use Rattle.std.proofs.Common.{◌≡◌, true, false, List, [], ◌∷◌, ◌++◌, Option, Some, None, inl, inr, refl, sym, ap, ◌∙◌}
use Rattle.tran_ids.proofs.BranchLemmas.{same_from_equal}
use Rattle.agreement.specs.BookOf.{entry_by, book_of}
use Rattle.agreement.specs.Events.{Event, Learn, learned_by, learned}
use Rattle.agreement.proofs.BookTests.{shows, some_before, some_now, forced_same}
use Rattle.agreement.proofs.EventLemmas.{learned_new, only_at_is}
use Rattle.node_rules.specs.Data.{BranchId, Decision}
use Rattle.run_rules.specs.Book.{forced_in, stands}
use Rattle.run_rules.specs.Data.{Happening}
use Rattle.run_rules.specs.Data.happenings
use Rattle.run_rules.specs.Facts.{first_facts}
use Rattle.run_rules.specs.Lawful.{History, IsLawfulRun, facts_at}
use Rattle.run_rules.proofs.FactLemmas.{book_is}
use Rattle.run_base_laws.specs.RunEvents.{events_of}
use Rattle.run_branch_laws.proofs.EventBookLemmas.{book_of_events}
use Rattle.tree_laws.proofs.PrefixLemmas.{so_far, f_at, e_at}
use Rattle.tree_trail_laws.proofs.MomentLemmas.{tr_at, by_moment}
use Rattle.commit_obey_laws.specs.ObeyLaws.{taken_as, Obeys, is_meeting_of, TakesDecision, EveryDecisionIsObeyed}
use Rattle.commit_obey_laws.proofs.ObeyLemmas.{obeys}
use Rattle.commit_obey_laws.proofs.RowStayLemmas.{every_sealed_row_stays}

-- ---- what a branch has met, by the book

meets_by : (s : Event) (b : BranchId) (d : Decision) → learned_by s b ≡ Some d → shows (is_meeting_of b) (entry_by s) ≡ true
meets_by (Learn c x None) b d is = same_from_equal c b (only_at_is c b x d is).0
meets_by (Learn c x (Some mixed)) b d is = same_from_equal c b (only_at_is c b x d is).0
meets_by _ b d is = absurd cc

meets : (t : List Event) (b : BranchId) (d : Decision) → learned t b ≡ Some d → stands (is_meeting_of b) (book_of t) ≡ true
meets [] b d is = absurd cc
meets (s ∷ t) b d is = elim (learned_new s t b d is) [
  | inl old ↦ some_before (is_meeting_of b) s t (meets t b d old)
  | inr new ↦ some_now (is_meeting_of b) s t (meets_by s b d new.1)
]

unmet : (t : List Event) (b : BranchId) → stands (is_meeting_of b) (book_of t) ≡ false → learned t b ≡ None
unmet t b none = by (learned t b) refl
  where
    by : (o : Option Decision) → learned t b ≡ o → learned t b ≡ None
    by None is = is
    by (Some d) is = let some = meets t b d is in absurd (cc (some, none))

run_book : (t : History) → (facts_at t).book ≡ book_of (events_of t)
run_book t = book_is t.places t.commands (first_facts t.places) t.trace ∙ sym (book_of_events t)

-- ---- each happening

module _ (t : History) (whole : IsLawfulRun t) where
  takes_one : (hs : List Happening) (h : Happening) (rest : List Happening) → hs ++ h ∷ rest ≡ t.trace → TakesDecision t.places (f_at t hs) (tr_at t hs) h
  takes_one hs (happenings.Turn u) rest is = λ uncut b d heard none.
      (let book : (f_at t hs).book ≡ book_of (e_at t hs) = run_book (so_far t hs) in
      let so : Obeys (f_at t hs) (e_at t hs) (happenings.Turn u) = obeys t whole hs u rest is in
      let unlearned : learned (e_at t hs) b ≡ None = unmet (e_at t hs) b (ap (stands (is_meeting_of b)) (sym book) ∙ none) in
      so uncut b d heard unlearned ∙ ap (λ o. Some (taken_as o b d)) (sym (forced_same (e_at t hs) b) ∙ ap (forced_in b) (sym book)))
  takes_one hs _ rest is = tt

-- ---- all of it

pub every_decision_is_obeyed : EveryDecisionIsObeyed
every_decision_is_obeyed t whole = record { taken = by_moment t TakesDecision (takes_one t whole); rows = every_sealed_row_stays t whole }
