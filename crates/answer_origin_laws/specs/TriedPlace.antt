-- Where answers come from, tried on the run of two nodes: A's transaction changes a row over its link to B, and then one of
-- its own.
use Rattle.std.specs.Prelude.{◌≡◌, codes, option_map, Some, None}
use Rattle.run_rules.specs.Branches.{Run, seen_at, origin_at}
use Rattle.run_branch_laws.specs.TriedRun as tried
use Rattle.tree_trail_laws.specs.TriedTrail.{trail}

-- the run at B, of the statement that A passed on
abbrev pub below : Run
below = record { moment = 6; branch = tried.b; statement = tried.insert (record { name = codes "T"; link = None }); table = tried.table_of_keys (codes "T") }

-- the run at A
abbrev pub above : Run
above = record { moment = 8; branch = tried.a; statement = tried.insert (record { name = codes "T"; link = None }); table = tried.table_of_keys (codes "T") }

-- B's Reply comes from its run, and A's last answer from its own.
pub record TheTriedPlace : Type 0 where
  pub reply : origin_at trail 4 ≡ Some below
  pub lower : option_map (λ s. s.answer) (seen_at trail tried.b) ≡ Some (Some below)
  pub root : option_map (λ s. s.answer) (seen_at trail tried.a) ≡ Some (Some above)
