-- How answered Opens are kept: a map from parents and edges to children.
use Rattle.std.specs.Prelude.{ℕ, Option}
use Rattle.std.specs.Option.{option_map}
use Rattle.tran_ids.specs.declared.branch.BranchId.{BranchId}
use Rattle.link_session.specs.declared.opening.Opening.{Opening}
use Rattle.link_session.specs.declared.open_key.OpenKey.{OpenKey}
use Rattle.link_session.specs.declared.open_key.Opened.{Opened}

-- the parent of a key
abbrev pub parent_of : OpenKey → BranchId
parent_of k = record { node = k.node; boot = k.boot; session = k.session; seq = k.seq }

-- the answer to an Open of this parent and edge
abbrev pub told_as : BranchId → ℕ → Opened → Opening
told_as parent edge o = record { parent = parent; edge = edge; child = o.child; strength = o.strength }

-- the answer that is kept as this entry
abbrev pub opening_in : OpenKey × Opened → Opening
opening_in e = told_as (parent_of e.0) e.0.edge e.1

-- the answer to an Open of this parent and edge, where one is kept
abbrev pub told_by : BranchId → ℕ → Option Opened → Option Opening
told_by parent edge o = option_map (told_as parent edge) o
