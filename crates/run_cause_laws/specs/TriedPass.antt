-- What an Exec passes on, tried on the run of two nodes: A is asked to change a row over its link to B, and B is asked to
-- change its own.
use Rattle.std.specs.Prelude.{◌≡◌, codes, Some, None}
use Rattle.run_rules.specs.Branches.{seen_at}
use Rattle.run_rules.specs.Facts.{place_at}
use Rattle.run_claims.specs.Knowledge.{PassesOn, asked_of}
use Rattle.run_branch_laws.specs.TriedRun as tried
use Rattle.tree_trail_laws.specs.TriedTrail.{trail}
use Rattle.run_cause_laws.specs.TriedTurns.{facts}

-- What A is asked goes on to B over its link, and what goes on is what B is asked.
pub record TheTriedPass : Type 0 where
  pub passes : PassesOn (place_at tried.places 1) facts (tried.insert (record { name = codes "T"; link = Some (codes "B") })) tried.b (tried.insert (record { name = codes "T"; link = None }))
  pub asked : asked_of (seen_at trail tried.b) ≡ Some (tried.insert (record { name = codes "T"; link = None }))
