-- The places that a script asks for, and the run of a script.
use Rattle.std.specs.Prelude.{ℕ, ◌+◌, List, [], ◌∷◌}
use Rattle.node_rules.specs.Data.{Place}
use Rattle.run_rules.specs.Data.{Command}
use Rattle.run_rules.specs.Data.commands
use Rattle.run_rules.specs.RunReport.{start}
use Rattle.run_rules.specs.Due.{IsTheRun}
use Rattle.run_rules.specs.Lawful.{History, IsLawfulRun}

-- the nodes that the NODE commands of a script make
abbrev pub names_asked : List Command → List (List ℕ)
names_asked [] = []
names_asked (commands.Node name strength links undo ∷ cs) = name ∷ names_asked cs
names_asked (_ ∷ cs) = names_asked cs

-- each in its place, from this number on
abbrev pub places_from : List (List ℕ) → ℕ → List Command → List Place
places_from names n [] = []
places_from names n (commands.Node name strength links undo ∷ cs) =
    (record { names = names; number = n; strength = strength; links = links; undo = undo }) ∷ places_from names (n + 1) cs
places_from names n (_ ∷ cs) = places_from names n cs

-- the places of the nodes of a script
abbrev pub places_of : List Command → List Place
places_of cs = places_from (names_asked cs) 1 cs

-- ---- the run of a script

-- a history is the run of its script, or the first part of it
abbrev pub IsTheRunOf : History → Type 0
IsTheRunOf t = IsTheRun t.places t.commands (start t.places) t.trace

-- the run of a script is one of the lawful ones
abbrev pub TheRunIsLawful : Type 0
TheRunIsLawful = (t : History) → IsTheRunOf t → IsLawfulRun t
