-- A Prepare without a comment can be said.
use Rattle.std.proofs.Common.{◌≡◌, ℕ, Bool, List, [], sym, subst, arith}
use Rattle.node_spell_laws.proofs.SayLemmas.{no_comment}
use Rattle.lone_node.specs.Played.{IsSaid}
use Rattle.node_rules.specs.Data.kinds

no_comment_said : (site_below : Bool) → IsSaid (kinds.Prepare site_below [])
no_comment_said site_below = record { fits = no_comment; bytes = no_comment; few = tt; scn = omega arith }

pub prepare_said : (site_below : Bool) (comment : List ℕ) → comment ≡ [] → IsSaid (kinds.Prepare site_below comment)
prepare_said site_below comment is = subst (λ (c : List ℕ). IsSaid (kinds.Prepare site_below c)) (sym is) (no_comment_said site_below)
