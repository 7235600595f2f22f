-- The run of a script up to each of its happenings: what is due there comes next, and what stands of its nodes and calls.
use Rattle.std.proofs.Common.{◌≡◌, ℕ, zero, suc, ◌+◌, List, [], ◌∷◌, slice_get, Some, None, refl, sym, ap, subst, ◌∙◌, arith}
use Rattle.std.specs.Prelude.{take}
use Rattle.agreement.specs.Events.{Event}
use Rattle.node_rules.specs.Data.{Place}
use Rattle.run_rules.specs.Births.{Born, births_after}
use Rattle.run_rules.specs.Data.{Happening, Command}
use Rattle.run_rules.specs.Data.happenings
use Rattle.run_rules.specs.Due.{comes_next, IsTheRun}
use Rattle.run_rules.specs.Each.{facts_upto}
use Rattle.run_rules.specs.Facts.{facts_after}
use Rattle.run_rules.specs.Scripts.{IsTheRunOf}
use Rattle.run_rules.specs.Lawful.{AreOfAScript, MayHappen, History}
use Rattle.run_rules.specs.Past.{report_after, next, past}
use Rattle.run_claims.specs.Places.{past_upto}
use Rattle.run_base_laws.specs.RunEvents.{events_after}
use Rattle.run_rules.specs.RunReport.{Past, start}
use Rattle.run_base_laws.proofs.BirthRunLemmas.{StandBorn, stand_born_on, stand_born_first}
use Rattle.run_rules.proofs.FactLemmas.{facts_are}
use Rattle.run_base_laws.proofs.RestRunLemmas.{RootsStand, roots_stand_on, first_rests}
use Rattle.run_ready_laws.proofs.RunLawfulLemmas.{KeptRow_so, goes_on, first_stands}

-- ---- one happening further

module _ (places : List Place) (asked : List Command) where
  pub next_is : (p : Past) (h : Happening) → next places asked p h ≡ record { facts = facts_after places asked p.facts h; run_report = report_after places asked p.facts p.run_report h }
  unfolding next facts_after
  next_is p (happenings.Turn u) = refl
  next_is p (happenings.Begun c) = refl
  next_is p (happenings.Cut a b) = refl
  next_is p (happenings.Join a b) = refl
  next_is p (happenings.Lost k) = refl
  next_is p (happenings.Stopped n) = refl
  next_is p (happenings.Started n boot) = refl

  none_come : (p : Past) (i : ℕ) → past places asked p (take i []) ≡ p
  unfolding past
  none_come p zero = refl
  none_come p (suc i) = refl

  more : (p : Past) (hs : List Happening) (i : ℕ) (h : Happening) → slice_get hs i ≡ Some h → past places asked p (take (i + 1) hs) ≡ next places asked (past places asked p (take i hs)) h
  unfolding past
  more p [] i h is = absurd cc
  more p (x ∷ hs) zero h is = let it : Some x ≡ Some h = is in let same : x ≡ h = cc in ap (next places asked p) same
  more p (x ∷ hs) (suc i) h is = let one : suc i + 1 ≡ suc (i + 1) = omega arith in ap (λ n. past places asked p (take n (x ∷ hs))) one ∙ more (next places asked p x) hs i h is

  all_come : (p : Past) (hs : List Happening) (i : ℕ) → slice_get hs i ≡ None → past places asked p (take (i + 1) hs) ≡ past places asked p (take i hs)
  unfolding past
  all_come p [] i is = none_come p (i + 1) ∙ sym (none_come p i)
  all_come p (x ∷ hs) zero is = absurd cc
  all_come p (x ∷ hs) (suc i) is = let one : suc i + 1 ≡ suc (i + 1) = omega arith in ap (λ n. past places asked p (take n (x ∷ hs))) one ∙ all_come (next places asked p x) hs i is

  -- what comes is due
  due_there : (p : Past) (hs : List Happening) (i : ℕ) (h : Happening) → IsTheRun places asked p hs → slice_get hs i ≡ Some h → comes_next places asked (past places asked p (take i hs)) ≡ Some h
  unfolding past IsTheRun
  due_there p [] i h run is = absurd cc
  due_there p (x ∷ hs) zero h run is = let it : Some x ≡ Some h = is in run.0 ∙ it
  due_there p (x ∷ hs) (suc i) h run is = due_there (next places asked p x) hs i h run.1 is

  module _ (script : AreOfAScript places asked) where
    -- What stands so far of the nodes and of the calls.
    pub record StandsAt (p : Past) : Type 0 where
      pub events : List Event
      pub births : List Born
      pub born : StandBorn places asked script.each p.facts events births
      pub roots : RootsStand places asked script.each p.facts
      pub so : KeptRow_so places asked p

    stands_next : (p : Past) (h : Happening) → StandsAt p → comes_next places asked p ≡ Some h → StandsAt (next places asked p h)
    stands_next p h now is =
        let goes = goes_on places asked script p now.events now.births now.born now.roots now.so h is in
        subst StandsAt (sym (next_is p h)) (record {
          events = events_after places asked p.facts h now.events;
          births = births_after places p.facts h now.births;
          born = stand_born_on places asked script.each p.facts now.events now.births h now.born goes.0;
          roots = roots_stand_on places asked script.each p.facts now.events now.births now.born now.roots h goes.0;
          so = goes.1;
        })

    stands_there : (p : Past) (hs : List Happening) (i : ℕ) → IsTheRun places asked p hs → StandsAt p → StandsAt (past places asked p (take i hs))
    unfolding past IsTheRun
    stands_there p [] i run now = subst StandsAt (sym (none_come p i)) now
    stands_there p (x ∷ hs) zero run now = now
    stands_there p (x ∷ hs) (suc i) run now = stands_there (next places asked p x) hs i run.1 (stands_next p x now run.0)

-- ---- a history

module _ (t : History) where
  pub one_more : (i : ℕ) (h : Happening) → slice_get t.trace i ≡ Some h → past_upto t (i + 1) ≡ next t.places t.commands (past_upto t i) h
  one_more i h is = more t.places t.commands (start t.places) t.trace i h is

  pub none_more : (i : ℕ) → slice_get t.trace i ≡ None → past_upto t (i + 1) ≡ past_upto t i
  none_more i is = all_come t.places t.commands (start t.places) t.trace i is

  pub facts_there : (i : ℕ) → (past_upto t i).facts ≡ facts_upto t i
  facts_there i = facts_are t.places t.commands (start t.places) (take i t.trace)

  module _ (run : IsTheRunOf t) where
    pub due_at : (i : ℕ) (h : Happening) → slice_get t.trace i ≡ Some h → comes_next t.places t.commands (past_upto t i) ≡ Some h
    due_at i h is = due_there t.places t.commands (start t.places) t.trace i h run is

    pub stand_at : (i : ℕ) → StandsAt t.places t.commands t.of_a_script (past_upto t i)
    stand_at i =
        stands_there t.places t.commands t.of_a_script (start t.places) t.trace i run (record {
          events = [];
          births = [];
          born = stand_born_first t.places t.commands t.of_a_script.each;
          roots = first_rests t.places t.commands t.of_a_script.each;
          so = first_stands t.places t.commands t.of_a_script;
        })

    pub may_at : (i : ℕ) (h : Happening) → slice_get t.trace i ≡ Some h → MayHappen t.places t.commands (past_upto t i).facts h
    may_at i h is =
        let now = stand_at i in (goes_on t.places t.commands t.of_a_script (past_upto t i) now.events now.births now.born now.roots now.so h (due_at i h is)).0
