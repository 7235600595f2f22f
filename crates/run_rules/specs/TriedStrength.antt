-- The strength that counts for a branch, tried: the one that was set when it began, and else that of its node.
use Rattle.std.specs.Prelude.{◌≡◌, ℕ, List, [], ◌∷◌, codes, Option, None, Some}
use Rattle.node_rules.specs.Data.{BranchId, Place}
use Rattle.run_rules.specs.Branches.{Trail, no_trail, newly_seen}
use Rattle.run_rules.specs.Tree.{strength_of}

-- one node, of the strength 1, and a branch there
abbrev pub places : List Place
places = record { names = codes "A" ∷ []; number = 1; strength = 1; links = 4; undo = 64 } ∷ []

abbrev pub me : BranchId
me = record { node = 1; boot = 1; session = 1; seq = 1 }

-- the branch began where this strength was set
abbrev pub began_with : Option ℕ → Trail
began_with strength = record no_trail { seen = newly_seen me me None strength None ∷ [] }

-- What counts.
pub record TheTriedStrength : Type 0 where
  pub set : strength_of places (began_with (Some 7)) me ≡ 7
  pub unset : strength_of places (began_with None) me ≡ 1
