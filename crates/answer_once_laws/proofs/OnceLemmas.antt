-- In the run of a script each command is answered once.
use Rattle.std.proofs.Common.{◌≡◌, ℕ, zero, suc, ◌+◌, ◌≤◌, List, [], ◌∷◌, length, slice_get, Option, Some, None, inl, inr, refl, sym, ap, subst, ◌∙◌, arith}
use Rattle.std.specs.Prelude.{take}
use Rattle.run_rules.specs.Data.{Happening}
use Rattle.run_rules.specs.Data.happenings
use Rattle.run_rules.specs.Due.{Ends, due_of}
use Rattle.run_rules.specs.Facts.{Facts, command_at, facts_after}
use Rattle.run_rules.specs.Lawful.{History}
use Rattle.run_rules.specs.Lines.{all_lines}
use Rattle.run_rules.specs.Past.{report_after, past}
use Rattle.run_rules.specs.Reported.{IsBetweenCommands, past_of}
use Rattle.run_rules.specs.RunReport.{Past, start}
use Rattle.run_rules.specs.Scripts.{IsTheRunOf}
use Rattle.run_claims.specs.Places.{past_upto}
use Rattle.answer_origin_laws.proofs.CallAtLemmas.{AreShaped}
use Rattle.answer_origin_laws.proofs.CallTurnLemmas.{all_so}
use Rattle.answer_origin_laws.proofs.ComeLemmas.{due_there}
use Rattle.answer_origin_laws.proofs.UptoLemmas.{due_at, next_is, none_more, one_more}
use Rattle.answer_origin_laws.proofs.DueLemmas.{begins_is}
use Rattle.answer_once_laws.specs.OnceLaws.{AnswersOnce, said_of, EachIsAnsweredOnce, AllAreAnsweredOnce}
use Rattle.answer_once_laws.proofs.BetweenLemmas.{ends_over}
use Rattle.answer_once_laws.proofs.CallListLemmas.{pends}
use Rattle.answer_once_laws.proofs.OnceBeginLemmas.{begun_so, each_once, said_earlier, earlier_once}
use Rattle.answer_once_laws.proofs.OnceStepLemmas.{OnceSo, started_so, rest_so}
use Rattle.answer_once_laws.proofs.OnceStopLemmas.{stopped_so}
use Rattle.answer_once_laws.proofs.OnceTurnLemmas.{turn_so}

module _ (t : History) (run : IsTheRunOf t) where
  -- ---- each moment

  module _ (i : ℕ) (now : OnceSo t (past_upto t i)) where
    abbrev pub f : Facts
    f = (past_upto t i).facts

    pub begins_so : (c : ℕ) → slice_get t.trace i ≡ Some (happenings.Begun c) → IsBetweenCommands (due_of t.commands (past_upto t i))
    begins_so c there = subst IsBetweenCommands (sym (begins_is t.places t.commands (past_upto t i) (due_of t.commands (past_upto t i)) c (due_at t run i (happenings.Begun c) there))) tt

    abbrev pub After : Happening → Past
    After h = record { facts = facts_after t.places t.commands f h; run_report = report_after t.places t.commands f (past_upto t i).run_report h }

    pub after_is : (h : Happening) → slice_get t.trace i ≡ Some h → past_upto t (i + 1) ≡ After h
    after_is h there = one_more t i h there ∙ next_is t.places t.commands (past_upto t i) h

    happens_so : (h : Happening) → slice_get t.trace i ≡ Some h → OnceSo t (After h)
    unfolding facts_after
    happens_so (happenings.Turn u) there = turn_so t run i now u there
    happens_so (happenings.Started n boot) there = started_so t run i now n boot there
    happens_so (happenings.Stopped n) there = stopped_so t run i now n there
    happens_so (happenings.Begun c) there =
        begun_so t (past_upto t i) now (begins_so c there) c (due_there t run i (all_so t run i) (happenings.Begun c) there).2
        (subst (λ (q : Past). AreShaped t.commands q.run_report.calls) (after_is (happenings.Begun c) there) (all_so t run (i + 1)).shapes) (facts_after t.places t.commands f (happenings.Begun c)) refl (λ n. refl)
    happens_so (happenings.Cut a b) there = rest_so t run i now (happenings.Cut a b) there tt (due_there t run i (all_so t run i) (happenings.Cut a b) there).0 (facts_after t.places t.commands f (happenings.Cut a b)) refl refl
    happens_so (happenings.Join a b) there = rest_so t run i now (happenings.Join a b) there tt (due_there t run i (all_so t run i) (happenings.Join a b) there).0 (facts_after t.places t.commands f (happenings.Join a b)) refl refl
    happens_so (happenings.Lost k) there = rest_so t run i now (happenings.Lost k) there tt (due_there t run i (all_so t run i) (happenings.Lost k) there) (facts_after t.places t.commands f (happenings.Lost k)) refl refl

    step_so : (o : Option Happening) → slice_get t.trace i ≡ o → OnceSo t (past_upto t (i + 1))
    step_so None none = subst (OnceSo t) (sym (none_more t i none)) now
    step_so (Some h) there = subst (OnceSo t) (sym (after_is h there)) (happens_so h there)

  first_so : OnceSo t (start t.places)
  first_so = record {
    pages = record {
      shapes = tt;
      apart = tt;
      past = tt;
      lines_below = tt;
      others_below = tt;
      sorted = tt;
      stops = tt;
      each = λ c one less. absurd (omega (arith, less));
      own = λ one. absurd (omega (arith, one));
    };
    silent = λ pending empty. absurd cc;
    starts = λ one none empty. absurd (omega (arith, one));
  }

  pub once_at : (i : ℕ) → OnceSo t (past_upto t i)
  unfolding past
  once_at zero = first_so
  once_at (suc i) = let one : i + 1 ≡ suc i = omega arith in subst (λ j. OnceSo t (past_upto t j)) one (step_so i (once_at i) (slice_get t.trace i) refl)

  -- ---- the laws

  pub each_is_answered_once : EachIsAnsweredOnce t
  each_is_answered_once i c (one, inl less) =
      let now : OnceSo t (past_upto t i) = once_at i in
      let p : Past = past_upto t i in
      subst (AnswersOnce t.places _ (pends c p.run_report.calls)) (sym (said_earlier t.places t.commands p.facts.command p.facts refl p.run_report now.pages c less))
      (earlier_once t.places t.commands p.facts.command p.facts refl p.run_report now.pages _ (now.pages.each c one less))
  each_is_answered_once i c (one, inr (same, between)) =
      let now : OnceSo t (past_upto t i) = once_at i in
      each_once t (past_upto t i) now between (subst (λ n. 1 ≤ n) same one) c one (subst (λ n. c ≤ n) same (omega arith))

  -- at the end of the trace stands what the whole leaves
  whole_is : past_upto t (length t.trace) ≡ past_of t
  whole_is = ap (past t.places t.commands (start t.places)) (take_all t.trace)
    where
      take_all : (xs : List Happening) → take (length xs) xs ≡ xs
      take_all [] = refl
      take_all (x ∷ xs) = ap (λ ys. x ∷ ys) (take_all xs)

  pub all_are_answered_once : AllAreAnsweredOnce t
  all_are_answered_once ends c one low =
      let i : ℕ = length t.trace in
      let p : Past = past_upto t i in
      let its_end : due_of t.commands p ≡ Ends = ap (due_of t.commands) whole_is ∙ ends in
      let all : length t.commands ≤ p.facts.command = ends_over t.commands p its_end in
      let between : IsBetweenCommands (due_of t.commands p) = subst IsBetweenCommands (sym its_end) tt in
      let once = each_once t p (once_at i) between (omega (arith, one, low, all)) c one (omega (arith, low, all)) in
      (pends c p.run_report.calls, subst (λ (q : Past). AnswersOnce t.places (command_at t.commands c) (pends c p.run_report.calls) (said_of c (all_lines q.facts q.run_report))) whole_is once)
