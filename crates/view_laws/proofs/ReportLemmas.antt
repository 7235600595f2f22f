-- What a view prints is in the report of its run.
use Rattle.std.proofs.Common.{◌≡◌, ℕ, zero, suc, ◌<◌, ◌≤◌, ◌⊎◌, true, false, List, [], ◌∷◌, ◌++◌, length, Option, Some, None, inl, inr, refl, sym, ap, subst, ◌∙◌, arith}
use Rattle.std.specs.Prelude.{slice_get, take}
use Rattle.run_rules.specs.Data.{AnswerLine, Command, Said}
use Rattle.run_rules.specs.Data.commands
use Rattle.run_rules.specs.Data.happenings
use Rattle.run_rules.specs.Data.notices
use Rattle.run_rules.specs.Data.said
use Rattle.run_rules.specs.Facts.{command_at}
use Rattle.run_rules.specs.Lawful.{History}
use Rattle.run_rules.specs.Lines.{line, page_lines, all_lines}
use Rattle.run_rules.specs.Past.{past}
use Rattle.run_rules.specs.Reported.{Ending, All_run, Out_of_memory, IsReported, LineIs, LinesAre, is_shown_disk, past_of}
use Rattle.run_rules.specs.RunReport.{Past, start}
use Rattle.view_laws.specs.ReportedViews.{is_view, IsAnswerAt, ViewsAreReported}
use Rattle.view_laws.specs.ViewLaws.{lines_upto, Prints}

-- ---- lists

module _ {A : Type 0} where
  here_at : (xs : List A) (x : A) (ys : List A) → slice_get (xs ++ x ∷ ys) (length xs) ≡ Some x
  here_at [] x ys = refl
  here_at (y ∷ xs) x ys = here_at xs x ys

  front_at : (xs ys : List A) (k : ℕ) (x : A) → slice_get xs k ≡ Some x → slice_get (xs ++ ys) k ≡ Some x
  front_at [] ys k x is = absurd cc
  front_at (y ∷ xs) ys zero x is = is
  front_at (y ∷ xs) ys (suc k) x is = front_at xs ys k x is

  none_at : (xs : List A) (k : ℕ) → slice_get xs k ≡ None → length xs ≤ k
  none_at [] k is = omega arith
  none_at (y ∷ xs) zero is = absurd cc
  none_at (y ∷ xs) (suc k) is = (let less : length xs ≤ k = none_at xs k is in omega (arith, less))

  some_at : (xs : List A) (k : ℕ) (x : A) → slice_get xs k ≡ Some x → k < length xs
  some_at [] k x is = absurd cc
  some_at (y ∷ xs) zero x is = omega arith
  some_at (y ∷ xs) (suc k) x is = (let less : k < length xs = some_at xs k x is in omega (arith, less))

  all_taken : (xs : List A) → take (length xs) xs ≡ xs
  all_taken [] = refl
  all_taken (x ∷ xs) = ap (λ ys. x ∷ ys) (all_taken xs)

-- ---- lines that are due

module _ (t : History) where
  lines_at : (dues answers : List AnswerLine) → LinesAre t dues answers → (k : ℕ) (l : AnswerLine) → slice_get dues k ≡ Some l → is_shown_disk (command_at t.commands l.command) l.said ≡ false → slice_get answers k ≡ Some l
  lines_at [] answers are k l is plain = absurd cc
  lines_at (d ∷ dues) [] are k l is plain = absurd are
  lines_at (d ∷ dues) (a ∷ answers) are zero l is plain =
      let both : Some d ≡ Some l = is in
      let one : d ≡ l = cc in
      let same : a ≡ d = subst (λ q. LineIs t q d a) (ap (λ (x : AnswerLine). is_shown_disk (command_at t.commands x.command) x.said) one ∙ plain) are.0 in
      ap Some (same ∙ one)
  lines_at (d ∷ dues) (a ∷ answers) are (suc k) l is plain = lines_at dues answers are.1 k l is plain

  as_many : (dues answers : List AnswerLine) → LinesAre t dues answers → length answers ≡ length dues
  as_many [] [] are = refl
  as_many [] (a ∷ answers) are = absurd are
  as_many (d ∷ dues) [] are = absurd are
  as_many (d ∷ dues) (a ∷ answers) are = ap suc (as_many dues answers are.1)

plain_view : (x : Command) (s : Said) → is_view x ≡ true → is_shown_disk x s ≡ false
plain_view (commands.ShowPending n) s view = refl
plain_view (commands.ShowNeighbors n) s view = refl
plain_view _ s view = absurd cc

module _ (t : History) (answers : List AnswerLine) (i c : ℕ) (shows : List (List ℕ)) (begins : slice_get t.trace i ≡ Some (happenings.Begun c)) (view : is_view (command_at t.commands c) ≡ true) (prints : Prints t i c shows) where
  abbrev its : AnswerLine
  its = line c (said.World (notices.Shown shows))

  abbrev place : ℕ
  place = length (lines_upto t i)

  abbrev p : Past
  p = past_of t

  whole : past t.places t.commands (start t.places) (take (length t.trace) t.trace) ≡ p
  whole = ap (past t.places t.commands (start t.places)) (all_taken t.trace)

  due : slice_get (all_lines p.facts p.run_report) place ≡ Some its
  due =
      let it = prints (length t.trace) (some_at t.trace i (happenings.Begun c) begins) in
      subst (λ (q : Past). slice_get (all_lines q.facts q.run_report) place ≡ Some its) whole (ap (λ xs. slice_get xs place) it.1 ∙ here_at (lines_upto t i) its it.0)

  plain : is_shown_disk (command_at t.commands c) (said.World (notices.Shown shows)) ≡ false
  plain = plain_view (command_at t.commands c) (said.World (notices.Shown shows)) view

  of_all : LinesAre t (all_lines p.facts p.run_report) answers → slice_get answers place ≡ Some its
  of_all are = lines_at t (all_lines p.facts p.run_report) answers are place its due plain

  of_first : LinesAre t p.run_report.lines answers → (length answers ≤ place) ⊎ (slice_get answers place ≡ Some its)
  of_first are = by (slice_get p.run_report.lines place) refl
    where
      by : (o : Option AnswerLine) → slice_get p.run_report.lines place ≡ o → (length answers ≤ place) ⊎ (slice_get answers place ≡ Some its)
      by None none = inl (subst (λ n. n ≤ place) (sym (as_many t p.run_report.lines answers are)) (none_at p.run_report.lines place none))
      by (Some x) some =
          let both : Some x ≡ Some its = sym (front_at p.run_report.lines (page_lines p.facts p.run_report) place x some) ∙ due in
          inr (lines_at t p.run_report.lines answers are place its (some ∙ both) plain)

  pub stands_at : (ending : Ending) → IsReported t answers ending → IsAnswerAt answers ending place its
  stands_at All_run reported = of_all reported.1
  stands_at Out_of_memory (inl first) = of_first first
  stands_at Out_of_memory (inr all) = inr (of_all all.1)

pub views_are_reported : ViewsAreReported
views_are_reported t answers ending reported i c shows begins view prints = record { stands = stands_at t answers i c shows begins view prints ending reported; text = refl }
