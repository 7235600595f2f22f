-- Each line of a run is of a command that has begun, or of none; and each command has at most one line that stands for a disk.
use Rattle.std.proofs.Common.{◌≡◌, ◌⊎◌, inl, inr, ◌+◌, ◌<◌, ◌≤◌, ◌==◌, ◌&&◌, ℕ, Bool, true, false, if◌then◌else◌, List, [], ◌∷◌, ◌++◌, is_some, map, Some, refl, ap, sym, subst, ◌∙◌, arith, append-nil}
use Rattle.std.proofs.lemmas.Bool.{eqb-true}
use Rattle.std.specs.List.{AllByRecursion}
use Rattle.node_rules.specs.Data.{Place}
use Rattle.net_bag.specs.Net.{first_flying}
use Rattle.run_rules.specs.Data.{AnswerLine, Command, Happening, Said}
use Rattle.run_rules.specs.Data.happenings
use Rattle.run_rules.specs.Due.{IsTheRun}
use Rattle.run_rules.specs.Facts.{Facts, facts_after}
use Rattle.node_rules.specs.Words.{one}
use Rattle.node_rules.specs.Refusals.{dtx}
use Rattle.run_rules.specs.Lines.{line, over_line, page_lines, refuses_with, spent, all_lines}
use Rattle.run_rules.specs.Past.{next, past}
use Rattle.run_rules.specs.RunReport.{Past, RunReport, start}
use Rattle.run_rules.proofs.ListLemmas.{all_weaker}
use Rattle.run_trace.specs.Recorded.{RunSoFar, IsRunOfScript, past_of}
use Rattle.world_parts.specs.Shown.{CommandHasBegun, IsOnce, is_place, places_in}
use Rattle.world_parts.proofs.BegunLemmas.{begun_next}
use Rattle.world_parts.proofs.ShownLemmas.{places_append}
use Rattle.world_parts.proofs.LineLemmas.{HasOnePlace, IsCallLine, IsOf, Plain, begun_of, other_of, same_command, same_reports, reported_of}

-- a command begins, or none does
begins_or : (h : Happening) → ((c : ℕ) × (h ≡ happenings.Begun c)) ⊎ ((c : ℕ) → h ≡ happenings.Begun c → ⊥)
begins_or (happenings.Begun c) = inl (c, refl)
begins_or (happenings.Turn u) = inr (λ c is. absurd cc)
begins_or (happenings.Cut a b) = inr (λ c is. absurd cc)
begins_or (happenings.Join a b) = inr (λ c is. absurd cc)
begins_or (happenings.Lost k) = inr (λ c is. absurd cc)
begins_or (happenings.Stopped n) = inr (λ c is. absurd cc)
begins_or (happenings.Started n boot) = inr (λ c is. absurd cc)

module _ (places : List Place) (asked : List Command) where
  all_of : (Q : ℕ → Type 0) (p : Past) (hs : List Happening) → IsOf Q p → ((c : ℕ) (before later : List Happening) → hs ≡ before ++ happenings.Begun c ∷ later → Q c) → IsOf Q (past places asked p hs)
  unfolding past
  all_of Q p [] is new = is
  all_of Q p (h ∷ hs) is new =
      let now : IsOf Q (next places asked p h) = elim (begins_or h) [
        | inl begun ↦ subst (λ (g : Happening). IsOf Q (next places asked p g)) (sym begun.1) (begun_of Q places asked p begun.0 is (new begun.0 [] hs (ap (λ (g : Happening). g ∷ hs) begun.1)))
        | inr none ↦ other_of Q places asked p h is none
      ] in
      all_of Q (next places asked p h) hs now (λ c before later split. new c (h ∷ before) later (ap (λ (xs : List Happening). h ∷ xs) split))

-- a command that has begun, or none
abbrev pub Begins : RunSoFar → ℕ → Type 0
Begins r c = (c ≡ 0) ⊎ CommandHasBegun r c

begins_of : (r : RunSoFar) → IsOf (Begins r) (past_of r)
begins_of r =
    all_of r.places r.asked (Begins r) (start r.places) r.happenings (record { running = inl refl; lines = tt; tells = record { lines = refl; own = tt; others = tt; stops = tt; calls = tt } })
    (λ c before later split. inr (before, later, split))

pub lines_begun : (r : RunSoFar) → AllByRecursion (λ (l : AnswerLine). Begins r l.command) (past_of r).run_report.lines
lines_begun r = (begins_of r).lines

pub told_begun : (r : RunSoFar) → AllByRecursion (λ (l : AnswerLine). Begins r l.command) (all_lines (past_of r).facts (past_of r).run_report)
told_begun r = reported_of (Begins r) (past_of r) (begins_of r)

-- ---- each command has one such line at most

-- lines that stand for none have no place
plain_places : (n : ℕ) (ss : List Said) → Plain ss → places_in (map (line n) ss) ≡ []
plain_places n [] all = refl
plain_places n (s ∷ ss) all = rw (all.0, plain_places n ss all.1) refl

call_places : (Q : ℕ → Type 0) (ls : List AnswerLine) → AllByRecursion (IsCallLine Q) ls → places_in ls ≡ []
call_places Q [] all = refl
call_places Q (l ∷ ls) all = rw (all.0.plain, call_places Q ls all.1) refl

own_places : (n : ℕ) (ss : List Said) → HasOnePlace ss → (places_in (map (line n) ss) ≡ []) ⊎ (places_in (map (line n) ss) ≡ n ∷ [])
own_places n [] one = inl refl
own_places n (s ∷ ss) (inl plain) = by (is_place s) refl
  where
    by : (b : Bool) → is_place s ≡ b → (places_in (map (line n) (s ∷ ss)) ≡ []) ⊎ (places_in (map (line n) (s ∷ ss)) ≡ n ∷ [])
    by true is = inr (rw (is, plain_places n ss plain) refl)
    by false is = inl (rw (is, plain_places n ss plain) refl)
own_places n (s ∷ ss) (inr rest) = elim (own_places n ss rest.1) [ inl none ↦ inl (rw (rest.0, none) refl) | inr one ↦ inr (rw (rest.0, one) refl) ]

over_plain : (f : Facts) (t : RunReport) → Plain (over_line f t)
over_plain f t = by (spent t.deliveries && is_some (first_flying f.net))
  where
    by : (b : Bool) → Plain (if b then one (refuses_with (dtx 5 [])) else [])
    by true = (refl, tt)
    by false = tt

plain_append : (ss us : List Said) → Plain ss → Plain us → Plain (ss ++ us)
plain_append [] us all more = more
plain_append (s ∷ ss) us all more = (all.0, plain_append ss us all.1 more)

below_is_other : (a b : ℕ) → a < b → a == b ≡ false
below_is_other a b less = by (a == b) refl
  where
    by : (c : Bool) → a == b ≡ c → a == b ≡ false
    by true is = let same = eqb-true a b is in absurd (omega (arith, same, less))
    by false is = is

-- one number more, above all
once_more : (cs : List ℕ) (n : ℕ) → IsOnce cs → AllByRecursion (λ c. c < n) cs → IsOnce (cs ++ n ∷ [])
once_more [] n once below = (tt, tt)
once_more (c ∷ cs) n once below = (apart cs once.0 below.0, once_more cs n once.1 below.1)
  where
    apart : (ds : List ℕ) → AllByRecursion (λ d. c == d ≡ false) ds → c < n → AllByRecursion (λ d. c == d ≡ false) (ds ++ n ∷ [])
    apart [] all less = (below_is_other c n less, tt)
    apart (d ∷ ds) all less = (all.0, apart ds all.1 less)

places_below : (n : ℕ) (ls : List AnswerLine) → AllByRecursion (λ (l : AnswerLine). l.command < n) ls → AllByRecursion (λ c. c < n) (places_in ls)
places_below n [] all = tt
places_below n (l ∷ ls) all = by (is_place l.said) (places_below n ls all.1)
  where
    by : (b : Bool) → AllByRecursion (λ c. c < n) (places_in ls) → AllByRecursion (λ c. c < n) (if b then l.command ∷ places_in ls else places_in ls)
    by true later = (all.0, later)
    by false later = later

-- A run so far whose lines and calls are of no later command than the one that runs, and whose lines before are of earlier ones, one
-- of each that stands for a disk.
pub record IsNumbered (p : Past) : Type 0 where
  pub is : IsOf (λ c. c ≤ p.facts.command) p
  pub once : IsOnce (places_in p.run_report.lines)
  pub below : AllByRecursion (λ (l : AnswerLine). l.command < p.facts.command) p.run_report.lines

-- all lines have one place of a command at most
pub numbered_told : (p : Past) → IsNumbered p → IsOnce (places_in (all_lines p.facts p.run_report))
numbered_told p numbered =
    let f = p.facts in
    let t = p.run_report in
    let n = f.command in
    let stops : List Said = t.page.stops ++ over_line f t in
    let own : List AnswerLine = map (line n) t.page.own in
    let front : places_in (own ++ t.page.others) ≡ places_in own =
    places_append own t.page.others ∙ (ap (λ (cs : List ℕ). places_in own ++ cs) (call_places (λ c. c ≤ n) t.page.others numbered.is.tells.others) ∙ append-nil (places_in own)) in
    let page : places_in (page_lines f t) ≡ places_in own =
    places_append (own ++ t.page.others) (map (line n) stops) ∙ (ap (λ (cs : List ℕ). places_in (own ++ t.page.others) ++ cs) (plain_places n stops (plain_append t.page.stops (over_line f t) numbered.is.tells.stops (over_plain f t)))
    ∙ (append-nil (places_in (own ++ t.page.others)) ∙ front)) in
    let all : places_in (all_lines f t) ≡ places_in t.lines ++ places_in (map (line n) t.page.own) = places_append t.lines (page_lines f t) ∙ ap (λ (cs : List ℕ). places_in t.lines ++ cs) page in
    elim (own_places n t.page.own numbered.is.tells.own) [
      | inl none ↦ subst (λ (cs : List ℕ). IsOnce cs) (sym (all ∙ (ap (λ (cs : List ℕ). places_in t.lines ++ cs) none ∙ append-nil (places_in t.lines)))) numbered.once
      | inr one ↦ subst (λ (cs : List ℕ). IsOnce cs) (sym (all ∙ ap (λ (cs : List ℕ). places_in t.lines ++ cs) one)) (once_more (places_in t.lines) n numbered.once (places_below n t.lines numbered.below))
    ]

-- what holds of fewer commands holds of more
wider : (Q R : ℕ → Type 0) (p : Past) → ((c : ℕ) → Q c → R c) → IsOf Q p → IsOf R p
wider Q R p f is = record {
  running = f p.facts.command is.running;
  lines = all_weaker (λ l. Q l.command) (λ l. R l.command) (λ l of. f l.command of) p.run_report.lines is.lines;
  tells = record {
    lines = is.tells.lines;
    own = is.tells.own;
    others = all_weaker (IsCallLine Q) (IsCallLine R) (λ l of. record { of = f l.command of.of; plain = of.plain }) p.run_report.page.others is.tells.others;
    stops = is.tells.stops;
    calls = all_weaker (λ c. Q c.command) (λ c. R c.command) (λ c of. f c.command of) p.run_report.calls is.tells.calls;
  };
}

module _ (places : List Place) (asked : List Command) where
  begun_numbered : (p : Past) (c : ℕ) → IsNumbered p → c ≡ p.facts.command + 1 → IsNumbered (next places asked p (happenings.Begun c))
  unfolding next facts_after
  begun_numbered p c numbered next_is = record {
    is = begun_of (λ d. d ≤ c) places asked p c (wider (λ d. d ≤ p.facts.command) (λ d. d ≤ c) p (λ d less. omega (arith, less, next_is)) numbered.is) (omega arith);
    once = numbered_told p numbered;
    below = all_weaker (λ l. l.command ≤ p.facts.command) (λ l. l.command < c) (λ l less. omega (arith, less, next_is)) (all_lines p.facts p.run_report) (reported_of (λ d. d ≤ p.facts.command) p numbered.is);
  }

  other_numbered : (p : Past) (h : Happening) → IsNumbered p → ((c : ℕ) → h ≡ happenings.Begun c → ⊥) → IsNumbered (next places asked p h)
  other_numbered p h numbered none =
      let lines : (next places asked p h).run_report.lines ≡ p.run_report.lines = (same_reports (λ c. c ≤ p.facts.command) places asked p h numbered.is none).lines in
      let command : (next places asked p h).facts.command ≡ p.facts.command = same_command (λ c. c ≤ p.facts.command) places asked p h none in
      record {
        is = subst (λ (n : ℕ). IsOf (λ c. c ≤ n) (next places asked p h)) (sym command) (other_of (λ c. c ≤ p.facts.command) places asked p h numbered.is none);
        once = subst (λ (ls : List AnswerLine). IsOnce (places_in ls)) (sym lines) numbered.once;
        below = subst (λ (n : ℕ). AllByRecursion (λ (l : AnswerLine). l.command < n) (next places asked p h).run_report.lines) (sym command)
            (subst (λ (ls : List AnswerLine). AllByRecursion (λ (l : AnswerLine). l.command < p.facts.command) ls) (sym lines) numbered.below);
      }

  all_numbered : (p : Past) (hs : List Happening) → IsNumbered p → IsTheRun places asked p hs → IsNumbered (past places asked p hs)
  unfolding past IsTheRun
  all_numbered p [] numbered run = numbered
  all_numbered p (h ∷ hs) numbered run =
      let now : IsNumbered (next places asked p h) = elim (begins_or h) [
        | inl begun ↦ subst (λ (g : Happening). IsNumbered (next places asked p g)) (sym begun.1) (begun_numbered p begun.0 numbered (begun_next places asked p begun.0 (run.0 ∙ ap (λ (g : Happening). Some g) begun.1)))
        | inr none ↦ other_numbered p h numbered none
      ] in
      all_numbered (next places asked p h) hs now run.1

pub run_numbered : (r : RunSoFar) → IsRunOfScript r → IsNumbered (past_of r)
run_numbered r run =
    all_numbered r.places r.asked (start r.places) r.happenings (record { is = record { running = omega arith; lines = tt; tells = record { lines = refl; own = tt; others = tt; stops = tt; calls = tt } }; once = tt; below = tt }) run
