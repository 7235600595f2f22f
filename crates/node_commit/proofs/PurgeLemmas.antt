-- A purge hides the row of the branch that it names.
use Rattle.std.proofs.Common.{◌≡◌, ℕ, List, Option, None, Some, refl}
use Rattle.std.specs.Option.{option_map}
use Rattle.node_rules.specs.Data.{KeptRow}
use Rattle.node_rules.specs.NodeState.{NodeState}
use Rattle.node_rules.specs.Force.{hides}
use Rattle.node_commit.specs.Branches.{hides_named}

pub hides_as : (k : NodeState) (session : ℕ) (id : List ℕ) (row : Option KeptRow) → hides_named k session id (option_map (λ (s : KeptRow). s.me) row) ≡ hides k session id row
hides_as k session id None = refl
hides_as k session id (Some s) = refl
