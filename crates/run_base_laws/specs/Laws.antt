-- Laws of the definitions themselves.
use Rattle.std.specs.Prelude.{◌≡◌, ℕ, List, [], ◌∷◌, ◌++◌}
use Rattle.node_rules.specs.Data.{Place}
use Rattle.run_rules.specs.Data.{Happening, Command}
use Rattle.run_rules.specs.Entries.{book_of}
use Rattle.run_rules.specs.Facts.{Facts, facts_of}
use Rattle.run_rules.specs.RunReport.{Past}
use Rattle.run_rules.specs.Past.{past}
use Rattle.run_rules.specs.Lawful.{IsLawful, MayHappen}
use Rattle.run_rules.specs.Due.{IsTheRun, happened, runs_on}

-- the book that the facts keep is the book of the trace
abbrev pub BookIsOfTrace : Type 0
BookIsOfTrace = (places : List Place) (asked : List Command) (f : Facts) (hs : List Happening) → (facts_of places asked f hs).book ≡ f.book ++ book_of hs

-- the facts of a run are a fold of its happenings alone
abbrev pub FactsAreAlone : Type 0
FactsAreAlone = (places : List Place) (asked : List Command) (p : Past) (hs : List Happening) → (past places asked p hs).facts ≡ facts_of places asked p.facts hs

-- a run can be gone on from anywhere
abbrev pub PastGoesOn : Type 0
PastGoesOn = (places : List Place) (asked : List Command) (p : Past) (before hs : List Happening) → past places asked p (before ++ hs) ≡ past places asked (past places asked p before) hs

-- a lawful trace stays lawful with one more happening that may come
abbrev pub LawfulGoesOn : Type 0
LawfulGoesOn = (places : List Place) (asked : List Command) (f : Facts) (hs : List Happening) (h : Happening) → IsLawful places asked f hs → MayHappen places asked (facts_of places asked f hs) h
    → IsLawful places asked f (hs ++ h ∷ [])

-- what is played is the run: each happening on the way is the one that is due, and they leave what is played
abbrev pub RunsArePlayed : Type 0
RunsArePlayed = (places : List Place) (asked : List Command) (xs : List ℕ) (p : Past)
    → IsTheRun places asked p (happened places asked xs p) × (past places asked p (happened places asked xs p) ≡ runs_on places asked xs p)
