-- What the happenings tell, tried on the run of two nodes: A's transaction with a branch at B, which both change a row.
use Rattle.std.specs.Prelude.{◌≡◌, [], ◌∷◌, option_map, take, Some, None}
use Rattle.run_rules.specs.Branches.{Sealed, Decided, Trail, no_trail, seen_id, children_at, own_at, exit_at, root_at, plan_at}
use Rattle.run_rules.specs.Facts.{first_facts}
use Rattle.run_rules.specs.Trail.{begun_in, trail_of}
use Rattle.run_branch_laws.specs.TriedRun as tried

-- what the happenings of that run tell
abbrev pub trail : Trail
trail = trail_of tried.places [] (first_facts tried.places) no_trail tried.trace

-- and before its COMMIT
abbrev pub earlier : Trail
earlier = trail_of tried.places [] (first_facts tried.places) no_trail (take 9 tried.trace)

-- A is the transaction of session 1 until it decides, and the one root that the session begins. B is A's child, each has its
-- row's change, A is the site and decides, and B is sealed before.
pub record TheTriedTrail : Type 0 where
  pub children : children_at trail tried.a ≡ tried.b ∷ []
  pub own : own_at trail tried.a ≡ tried.changes
  pub own_below : own_at trail tried.b ≡ tried.changes
  pub site : option_map (λ p. p.site) (plan_at trail tried.a) ≡ Some (Some tried.a)
  pub decides : exit_at trail tried.a ≡ Some (Decided 1)
  pub sealed : exit_at trail tried.b ≡ Some (Sealed 0)
  pub root : option_map seen_id (root_at earlier 1 1) ≡ Some tried.a
  pub ended : root_at trail 1 1 ≡ None
  pub begun : begun_in trail 1 1 1 ≡ 1
