-- A branch has changes where it has a first one.
use Rattle.std.proofs.Common.{◌≡◌, List, [], ◌∷◌, length, slice_get, is_some, refl, sym, arith}
use Rattle.std.proofs.lemmas.Bool.{lt-ltb}
use Rattle.node_rules.specs.Data.{Change}
use Rattle.run_key_laws.specs.ChangedLaws.{has_changes as are_some}

pub some_first : (cs : List Change) → is_some (slice_get cs 0) ≡ are_some cs
some_first [] = refl
some_first (c ∷ cs) = sym (lt-ltb 0 (length (c ∷ cs)) (omega arith))
