-- The laws of turns, tried on the run of two nodes: A decides, B acknowledges, both forget.
use Rattle.std.specs.Prelude.{◌≡◌, [], ◌∷◌, option_map, Some}
use Rattle.run_rules.specs.Branches.{Gone, seen_at, life_at}
use Rattle.run_rules.specs.Facts.{Facts, first_facts, facts_of, records_at}
use Rattle.run_claims.specs.Knowledge.{acks_of, neighbors_of}
use Rattle.run_rules.specs.BranchRecords.{decided_in}
use Rattle.run_branch_laws.specs.TriedRun as tried
use Rattle.tree_trail_laws.specs.TriedTrail.{trail}

-- what the happenings of that run leave
abbrev pub facts : Facts
facts = facts_of tried.places [] (first_facts tried.places) tried.trace

-- A's decision has B as its neighbour, whose Ack came, and in the end both are gone.
pub record TheTriedTurns : Type 0 where
  pub neighbors : option_map neighbors_of (decided_in (records_at facts 1) tried.a) ≡ Some (tried.b ∷ [])
  pub acked : acks_of (seen_at trail tried.a) ≡ tried.b ∷ []
  pub gone : life_at facts trail tried.a ≡ Gone
  pub gone_below : life_at facts trail tried.b ≡ Gone
