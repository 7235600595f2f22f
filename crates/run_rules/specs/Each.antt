-- Laws of runs as tests of each happening by what stood before it.
use Rattle.std.specs.Prelude.{ℕ, List, [], ◌∷◌, take}
use Rattle.node_rules.specs.Data.{Place}
use Rattle.run_rules.specs.Data.{Command, Happening}
use Rattle.run_rules.specs.Facts.{Facts, first_facts, facts_after, facts_of}
use Rattle.run_rules.specs.Branches.{Trail, no_trail}
use Rattle.run_rules.specs.Trail.{trail_after, trail_of}
use Rattle.run_rules.specs.Lawful.{History}

-- each of these happenings is so, by the facts and the trail before it
abbrev pub EachFrom : (Facts → Trail → Happening → Type 0) → List Place → List Command → Facts → Trail → List Happening → Type 0
EachFrom So places asked f tr [] = Unit {0}
EachFrom So places asked f tr (h ∷ hs) = So f tr h × EachFrom So places asked (facts_after places asked f h) (trail_after places f tr h) hs

-- each happening of a run is so
abbrev pub AtEach : (List Place → Facts → Trail → Happening → Type 0) → History → Type 0
AtEach So t = EachFrom (So t.places) t.places t.commands (first_facts t.places) no_trail t.trace

-- the facts after so many happenings of a run
abbrev pub facts_upto : History → ℕ → Facts
facts_upto t i = facts_of t.places t.commands (first_facts t.places) (take i t.trace)

-- and the trail
abbrev pub trail_upto : History → ℕ → Trail
trail_upto t i = trail_of t.places t.commands (first_facts t.places) no_trail (take i t.trace)
