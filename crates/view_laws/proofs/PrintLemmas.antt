-- What SHOW shows stands in the report from then on, right behind the lines of the commands before.
use Rattle.std.proofs.Common.{◌≡◌, ℕ, zero, suc, ◌+◌, ◌<◌, ◌&&◌, not, Bool, true, false, if◌then◌else◌, List, [], ◌∷◌, ◌++◌, map, Option, Some, None, refl, sym, ap, subst, ◌∙◌, arith}
use Rattle.std.specs.Prelude.{slice_get, take, drop}
use Rattle.std.proofs.lemmas.List.{append_assoc}
use Rattle.node_rules.specs.Data.{Place, Stmt}
use Rattle.node_rules.specs.Data.stmts
use Rattle.node_rules.specs.Words.{one}
use Rattle.run_rules.specs.Commands.{says_at_once, call_of, calls_after, has_call, has_transaction, commits_first}
use Rattle.run_rules.specs.Data.{AnswerLine, Command, Happening, Said}
use Rattle.run_rules.specs.Data.commands
use Rattle.run_rules.specs.Data.happenings
use Rattle.run_rules.specs.Data.notices
use Rattle.run_rules.specs.Data.said
use Rattle.run_rules.specs.Due.{comes_next, IsTheRun}
use Rattle.run_rules.specs.Facts.{Facts, command_at, facts_after, is_up, node_at, outcome_at}
use Rattle.run_rules.specs.Lawful.{History, IsLawful, IsLawfulRun, MayHappen}
use Rattle.run_rules.specs.Lines.{is_down, line, over_line, page_lines, all_lines}
use Rattle.run_rules.specs.Past.{failed_start, next, past}
use Rattle.run_rules.specs.RunReport.{Call, Past, start}
use Rattle.run_rules.specs.Scripts.{IsTheRunOf}
use Rattle.run_rules.specs.Shown.{shown}
use Rattle.run_rules.proofs.FactLemmas.{facts_next}
use Rattle.run_rules.proofs.ListLemmas.{all_append, all_weaker}
use Rattle.run_claims.specs.Places.{past_upto}
use Rattle.run_base_laws.proofs.PastLemmas.{past_on}
use Rattle.view_laws.specs.ViewLaws.{lines_upto, Prints}
use Rattle.view_laws.proofs.DueStartLemmas.{is_start, none_starts}
use Rattle.view_laws.proofs.GrowLemmas.{AreBelow, Grows, turn_lasts, turn_grows, stop_lasts, stop_grows}

-- ---- lists

pub split_at : {A : Type 0} (xs : List A) (i : ℕ) (x : A) → slice_get xs i ≡ Some x → (rest : List A) × (take i xs ++ x ∷ rest ≡ xs)
split_at [] i x is = absurd cc
split_at (y ∷ xs) zero x is = (let it : Some y ≡ Some x = is in let same : y ≡ x = cc in (xs, ap (λ z. z ∷ xs) (sym same)))
split_at (y ∷ xs) (suc i) x is = let more = split_at xs i x is in (more.0, ap (λ zs. y ∷ zs) more.1)

-- a longer first part
first_part : {A : Type 0} (xs : List A) (i j : ℕ) (x : A) → slice_get xs i ≡ Some x → i < j → (mid rest : List A) × (take j xs ≡ take i xs ++ x ∷ mid) × (take j xs ++ rest ≡ xs)
first_part [] i j x is less = absurd cc
first_part (y ∷ xs) i zero x is less = absurd (omega (arith, less))
first_part (y ∷ xs) zero (suc j) x is less = (let it : Some y ≡ Some x = is in let same : y ≡ x = cc in (take j xs, drop j xs, ap (λ z. z ∷ take j xs) same, ap (λ zs. y ∷ zs) (whole xs j)))
  where
    whole : {A : Type 0} (xs : List A) (j : ℕ) → take j xs ++ drop j xs ≡ xs
    whole [] zero = refl
    whole [] (suc j) = refl
    whole (x ∷ xs) zero = refl
    whole (x ∷ xs) (suc j) = ap (λ zs. x ∷ zs) (whole xs j)
first_part (y ∷ xs) (suc i) (suc j) x is less = (let more = first_part xs i j x is (omega (arith, less)) in (more.0, more.1, ap (λ zs. y ∷ zs) more.2, ap (λ zs. y ∷ zs) more.3))

-- ---- runs, one happening after the other

module _ (places : List Place) (asked : List Command) where
  -- a run that is lawful and due, up to some happening and from there
  abbrev IsDue : Past → List Happening → Type 0
  IsDue p hs = IsTheRun places asked p hs × IsLawful places asked p.facts hs

  first_due : (p : Past) (hs rest : List Happening) → IsDue p (hs ++ rest) → IsDue p hs × IsDue (past places asked p hs) rest
  unfolding past IsTheRun IsLawful
  first_due p [] rest is = ((tt, tt), is)
  first_due p (h ∷ hs) rest is =
      let more = first_due (next places asked p h) hs rest (is.0.1, subst (λ f. IsLawful places asked f (hs ++ rest)) (sym (facts_next places asked p h)) is.1.1) in
      (((is.0.0, more.0.0), (is.1.0, subst (λ f. IsLawful places asked f hs) (facts_next places asked p h) more.0.1)), more.1)

  -- what each happening keeps
  keeps : (K : Past → Type 0) → ((p : Past) (h : Happening) → comes_next places asked p ≡ Some h → MayHappen places asked p.facts h → K p → K (next places asked p h)) → (p : Past) (hs : List Happening) → IsDue p hs → K p → K (past places asked p hs)
  unfolding past IsTheRun IsLawful
  keeps K on p [] is now = now
  keeps K on p (h ∷ hs) is now = keeps K on (next places asked p h) hs (is.0.1, subst (λ f. IsLawful places asked f hs) (sym (facts_next places asked p h)) is.1.1) (on p h is.0.0 is.1.0 now)

  -- ---- pending calls are of commands that began

  abbrev chosen : ℕ → ℕ → ℕ → Stmt → Bool → Call
  chosen c node session s q =
      if q then record { command = c; node = node; session = session; statement = Some (stmts.Commit None); follows = Some s } else record { command = c; node = node; session = session; statement = Some s; follows = None }

  abbrev AreLow : Past → Type 0
  AreLow p = AreBelow (p.facts.command + 1) p.run_report.calls

  low_begun : (p : Past) (c : ℕ) (x : Command) → c ≡ p.facts.command + 1 → AreLow p → AreBelow (c + 1) (calls_after p.facts p.run_report c x)
  low_begun p c x number now = by x
    where
      more : AreBelow (c + 1) p.run_report.calls
      more = all_weaker (λ (y : Call). y.command < p.facts.command + 1) (λ y. y.command < c + 1) (λ y low. omega (arith, low, number)) p.run_report.calls now

      new : (node session : ℕ) (s : Option Stmt) (has : Bool) → (call_of c node session s has).command < c + 1
      new node session None has = omega arith
      new node session (Some s) has = by (commits_first s && has)
        where
          by : (q : Bool) → (chosen c node session s q).command < c + 1
          by true = omega arith
          by false = omega arith

      by : (x : Command) → AreBelow (c + 1) (calls_after p.facts p.run_report c x)
      by (commands.At node session statement) = free (is_up p.facts node && not (has_call p.run_report node session))
        where
          free : (q : Bool) → AreBelow (c + 1) (if q then p.run_report.calls ++ call_of c node session statement (has_transaction (node_at p.facts node) session) ∷ [] else p.run_report.calls)
          free true = all_append (λ (y : Call). y.command < c + 1) p.run_report.calls _ more (new node session statement (has_transaction (node_at p.facts node) session), tt)
          free false = more
      by _ = more

  low_on : (p : Past) (h : Happening) → comes_next places asked p ≡ Some h → MayHappen places asked p.facts h → AreLow p → AreLow (next places asked p h)
  unfolding next facts_after
  low_on p (happenings.Begun c) comes may now = low_begun p c (command_at asked c) may.1 now
  low_on p (happenings.Turn u) comes may now = (turn_lasts p.facts.command (node_at p.facts u.node) p.run_report u (outcome_at places p.facts u)).calls (p.facts.command + 1) now
  low_on p (happenings.Stopped n) comes may now = (stop_lasts places asked p.facts p.run_report n).calls (p.facts.command + 1) now
  low_on p (happenings.Started n boot) comes may now = now
  low_on p (happenings.Cut a b) comes may now = now
  low_on p (happenings.Join a b) comes may now = now
  low_on p (happenings.Lost k) comes may now = now

  -- ---- the line of a command

  module _ (c : ℕ) (s : Said) (before : List AnswerLine) (plain : is_start (command_at asked c) ≡ false) where
    -- The command runs, and this is the first of its lines; or another one runs, and the line stands in the report.
    data Stands (p : Past) : Type 0 where
      Runs : p.facts.command ≡ c → p.run_report.lines ≡ before → (more : List Said) → p.run_report.page.own ≡ s ∷ more → AreBelow c p.run_report.calls → Stands p
      Ran : (more : List AnswerLine) → p.run_report.lines ≡ before ++ line c s ∷ more → Stands p

    -- so the report has it
    abbrev Has : List AnswerLine → Type 0
    Has xs = (more : List AnswerLine) × (xs ≡ before ++ line c s ∷ more)

    abbrev all_with : Past → List AnswerLine → ℕ → List Said → List AnswerLine
    all_with p lines n own = lines ++ ((map (line n) own ++ p.run_report.page.others) ++ map (line n) (p.run_report.page.stops ++ over_line p.facts p.run_report))

    has_line : (p : Past) → Stands p → Has (all_lines p.facts p.run_report)
    has_line p (Runs runs lines more own none) = (
      (map (line c) more ++ p.run_report.page.others) ++ map (line c) (p.run_report.page.stops ++ over_line p.facts p.run_report),
      ap (λ n. all_with p p.run_report.lines n p.run_report.page.own) runs ∙ (ap (λ xs. all_with p xs c p.run_report.page.own) lines ∙ ap (all_with p before c) own),
    )
    has_line p (Ran more lines) = (
      more ++ page_lines p.facts p.run_report,
      ap (λ xs. xs ++ page_lines p.facts p.run_report) lines ∙ append_assoc before (line c s ∷ more) (page_lines p.facts p.run_report),
    )

    not_failed : (f : Facts) (n : ℕ) (x : Command) → is_start x ≡ false → failed_start f x n ≡ false
    not_failed f n (commands.Start m) other = absurd cc
    not_failed f n _ other = refl

    grown : (p q : Past) → q.facts.command ≡ p.facts.command → Grows p.run_report q.run_report → Stands p → Stands q
    grown p q command it (Runs runs lines more own none) =
        Runs (command ∙ runs) (it.lasts.lines ∙ lines) (more ++ it.more) (it.own ∙ ap (λ xs. xs ++ it.more) own) (it.lasts.calls c none)
    grown p q command it (Ran more lines) = Ran more (it.lasts.lines ∙ lines)

    stands_on : (p : Past) (h : Happening) → comes_next places asked p ≡ Some h → MayHappen places asked p.facts h → Stands p → Stands (next places asked p h)
    unfolding next facts_after
    stands_on p (happenings.Begun d) comes may now = (let it = has_line p now in Ran it.0 it.1)
    stands_on p (happenings.Turn u) comes may (Runs runs lines more own none) =
        grown p (next places asked p (happenings.Turn u)) refl
        (turn_grows p.facts.command (node_at p.facts u.node) p.run_report u (outcome_at places p.facts u) (subst (λ n. AreBelow n p.run_report.calls) (sym runs) none)) (Runs runs lines more own none)
    stands_on p (happenings.Turn u) comes may (Ran more lines) = Ran more ((turn_lasts p.facts.command (node_at p.facts u.node) p.run_report u (outcome_at places p.facts u)).lines ∙ lines)
    stands_on p (happenings.Stopped n) comes may (Runs runs lines more own none) =
        grown p (next places asked p (happenings.Stopped n)) refl
        (stop_grows places asked p.facts p.run_report n (not_failed p.facts n (command_at asked p.facts.command) (ap (λ m. is_start (command_at asked m)) runs ∙ plain))) (Runs runs lines more own none)
    stands_on p (happenings.Stopped n) comes may (Ran more lines) = Ran more ((stop_lasts places asked p.facts p.run_report n).lines ∙ lines)
    stands_on p (happenings.Started n boot) comes may (Runs runs lines more own none) = absurd (none_starts places asked p (ap (λ m. is_start (command_at asked m)) runs ∙ plain) n boot comes)
    stands_on p (happenings.Started n boot) comes may (Ran more lines) = Ran more lines
    stands_on p (happenings.Cut a b) comes may (Runs runs lines more own none) = Runs runs lines more own none
    stands_on p (happenings.Cut a b) comes may (Ran more lines) = Ran more lines
    stands_on p (happenings.Join a b) comes may (Runs runs lines more own none) = Runs runs lines more own none
    stands_on p (happenings.Join a b) comes may (Ran more lines) = Ran more lines
    stands_on p (happenings.Lost k) comes may (Runs runs lines more own none) = Runs runs lines more own none
    stands_on p (happenings.Lost k) comes may (Ran more lines) = Ran more lines

-- ---- in a run

module _ (t : History) (due : IsTheRunOf t) (whole : IsLawfulRun t) (i c : ℕ) (begins : slice_get t.trace i ≡ Some (happenings.Begun c)) where
  abbrev p : Past
  p = past_upto t i

  -- what is shown at once, by the command as it is
  module _ (x : Command) (command : command_at t.commands c ≡ x) (plain : is_start x ≡ false) (calls : calls_after p.facts p.run_report c x ≡ p.run_report.calls)
      (s : Said) (says : says_at_once t.places p.facts p.run_report x ≡ s ∷ []) where
    plain_too : is_start (command_at t.commands c) ≡ false
    plain_too = ap is_start command ∙ plain

    begun_stands : c ≡ p.facts.command + 1 → AreLow t.places t.commands p → Stands t.places t.commands c s (lines_upto t i) plain_too (next t.places t.commands p (happenings.Begun c))
    unfolding next facts_after
    begun_stands number low =
        Runs refl refl [] (ap (says_at_once t.places p.facts p.run_report) command ∙ says)
        (subst (AreBelow c) (sym (ap (calls_after p.facts p.run_report c) command ∙ calls)) (subst (λ n. AreBelow n p.run_report.calls) (sym number) low))

    pub stays_printed : (j : ℕ) → i < j → (more : List AnswerLine) × (lines_upto t j ≡ lines_upto t i ++ line c s ∷ more)
    unfolding past IsTheRun IsLawful
    stays_printed j less =
        let part = first_part t.trace i j (happenings.Begun c) begins less in
        let all : IsDue t.places t.commands (start t.places) (take j t.trace ++ part.1) = (subst (IsTheRun t.places t.commands (start t.places)) (sym part.3) due, subst (IsLawful t.places t.commands (start t.places).facts) (sym part.3) whole) in
        let here : IsDue t.places t.commands (start t.places) (take i t.trace ++ happenings.Begun c ∷ part.0) = subst (IsDue t.places t.commands (start t.places)) part.2 (first_due t.places t.commands (start t.places) (take j t.trace) part.1 all).0 in
        let two = first_due t.places t.commands (start t.places) (take i t.trace) (happenings.Begun c ∷ part.0) here in
        let low : AreLow t.places t.commands p = keeps t.places t.commands (AreLow t.places t.commands) (low_on t.places t.commands) (start t.places) (take i t.trace) two.0 tt in
        let q : Past = next t.places t.commands p (happenings.Begun c) in
        let first : Stands t.places t.commands c s (lines_upto t i) plain_too q = begun_stands two.1.1.0.1 low in
        let last : Stands t.places t.commands c s (lines_upto t i) plain_too (past t.places t.commands q part.0)
        = keeps t.places t.commands (Stands t.places t.commands c s (lines_upto t i) plain_too) (stands_on t.places t.commands c s (lines_upto t i) plain_too) q part.0
        (two.1.0.1, subst (λ f. IsLawful t.places t.commands f part.0) (sym (facts_next t.places t.commands p (happenings.Begun c))) two.1.1.1) first in
        let it = has_line t.places t.commands c s (lines_upto t i) plain_too (past t.places t.commands q part.0) last in
        let same : past_upto t j ≡ past t.places t.commands q part.0 = ap (past t.places t.commands (start t.places)) part.2 ∙ past_on t.places t.commands (start t.places) (take i t.trace) (happenings.Begun c ∷ part.0) in
        subst (λ (r : Past). Has t.places t.commands c s (lines_upto t i) plain_too (all_lines r.facts r.run_report)) (sym same) it

  pub pending_printed : (n : ℕ) → command_at t.commands c ≡ commands.ShowPending n → is_up p.facts n ≡ true → Prints t i c (shown t.places p.facts (commands.ShowPending n))
  pending_printed n command up =
      stays_printed (commands.ShowPending n) command refl refl _ (ap (λ q. if q then one (said.World (notices.Shown (shown t.places p.facts (commands.ShowPending n)))) else one (is_down t.places n)) up)

  pub neighbors_printed : (n : ℕ) → command_at t.commands c ≡ commands.ShowNeighbors n → is_up p.facts n ≡ true → Prints t i c (shown t.places p.facts (commands.ShowNeighbors n))
  neighbors_printed n command up =
      stays_printed (commands.ShowNeighbors n) command refl refl _ (ap (λ q. if q then one (said.World (notices.Shown (shown t.places p.facts (commands.ShowNeighbors n)))) else one (is_down t.places n)) up)
