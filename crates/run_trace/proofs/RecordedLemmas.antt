-- One happening more, which was due: the trace is still a run of the script, and the book grows by its entries.
use Rattle.std.proofs.Common.{◌≡◌, ◌<◌, ◌≤◌, List, [], ◌∷◌, ◌++◌, length, Some, refl, ap, sym, ◌∙◌, arith, length-append}
use Rattle.std.proofs.lemmas.List.{append-nil}
use Rattle.std.proofs.lemmas.Grind.{flat_map-append}
use Rattle.node_rules.specs.Data.{Place}
use Rattle.run_rules.specs.Data.{Command, Entry, Happening}
use Rattle.run_rules.specs.Entries.{book_of, entries_in}
use Rattle.run_rules.specs.Facts.{Facts}
use Rattle.run_rules.specs.RunReport.{Past, start}
use Rattle.run_rules.specs.Past.{next, past}
use Rattle.run_rules.specs.Due.{IsTheRun, comes_next}
use Rattle.run_rules.proofs.FactLemmas.{book_next, facts_next}
use Rattle.run_trace.specs.Recorded.{IsRecorded, happening_limit}

module _ (places : List Place) (asked : List Command) where
  pub past_push : (p : Past) (hs : List Happening) (h : Happening) → past places asked p (hs ++ h ∷ []) ≡ next places asked (past places asked p hs) h
  unfolding past
  past_push p [] h = refl
  past_push p (g ∷ hs) h = past_push (next places asked p g) hs h

  pub run_push : (p : Past) (hs : List Happening) (h : Happening) → IsTheRun places asked p hs → comes_next places asked (past places asked p hs) ≡ Some h → IsTheRun places asked p (hs ++ h ∷ [])
  unfolding past IsTheRun
  run_push p [] h run due = (due, tt)
  run_push p (g ∷ hs) h run due = (run.0, run_push (next places asked p g) hs h run.1 due)

  next_book : (p : Past) (h : Happening) → (next places asked p h).facts.book ≡ p.facts.book ++ entries_in h
  next_book p h = ap (λ (f : Facts). f.book) (facts_next places asked p h) ∙ book_next places asked p.facts h

  pub recorded_start : IsRecorded places asked [] []
  unfolding past IsTheRun
  recorded_start = record { due = tt; few = omega arith; entered = refl; kept = refl }

  pub recorded_push : (hs : List Happening) (book : List Entry) (h : Happening) → IsRecorded places asked hs book → length hs < happening_limit → comes_next places asked (past places asked (start places) hs) ≡ Some h
      → IsRecorded places asked (hs ++ h ∷ []) (book ++ entries_in h)
  recorded_push hs book h recorded room due =
      let p = past places asked (start places) hs in
      record {
        due = run_push (start places) hs h recorded.due due;
        few = simp length-append (omega (arith, room));
        entered = ap (λ (es : List Entry). es ++ entries_in h) recorded.entered ∙ sym (flat_map-append entries_in hs (h ∷ []) ∙ ap (λ (es : List Entry). book_of hs ++ es) (append-nil (entries_in h)));
        kept = ap (λ (es : List Entry). es ++ entries_in h) recorded.kept ∙ (sym (next_book p h) ∙ ap (λ (q : Past). q.facts.book) (sym (past_push (start places) hs h)));
      }

pub few_push : (hs : List Happening) (h : Happening) → length hs < happening_limit → length (hs ++ h ∷ []) ≤ happening_limit
few_push hs h room = simp length-append (omega (arith, room))

pub ruleset recorded_steps = (recorded_start, recorded_push, past_push, few_push)
