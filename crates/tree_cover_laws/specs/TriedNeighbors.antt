-- The neighbours in a plan, tried on the run of two nodes: A, the root, is the site, and B is sealed below it.
use Rattle.std.specs.Prelude.{◌≡◌, [], ◌∷◌, map, option_map, Some, None}
use Rattle.run_rules.specs.Branches.{Sealed, exit_at, plan_at}
use Rattle.run_branch_laws.specs.TriedRun as tried
use Rattle.tree_trail_laws.specs.TriedTrail.{trail}

-- The plan has A without neighbours toward the site, and B below A with A as its neighbour on the way there. B is sealed.
pub record TheTriedNeighbors : Type 0 where
  pub branches : option_map (λ p. map (λ x. x.me) p.tree) (plan_at trail tried.a) ≡ Some (tried.a ∷ tried.b ∷ [])
  pub parents : option_map (λ p. map (λ x. x.parent) p.tree) (plan_at trail tried.a) ≡ Some (None ∷ Some tried.a ∷ [])
  pub toward : option_map (λ p. map (λ x. x.toward) p.tree) (plan_at trail tried.a) ≡ Some (None ∷ Some tried.a ∷ [])
  pub sealed : exit_at trail tried.b ≡ Some (Sealed 0)
