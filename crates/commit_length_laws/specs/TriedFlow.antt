-- A COMMIT that flows, tried on the run of two nodes: with its first two messages delivered, when the third is in flight, and
-- at the end, when all five came.
use Rattle.std.specs.Prelude.{◌≡◌, List, [], length, take, Some, None}
use Rattle.net_bag.specs.Net.{first_flying}
use Rattle.run_rules.specs.Data.{Happening}
use Rattle.run_rules.specs.Facts.{first_facts}
use Rattle.run_branch_laws.specs.TriedRun as tried
use Rattle.run_claims.specs.Undisturbed.{Commit, facts_by}
use Rattle.commit_length_laws.specs.FewLaws.{Flows}

-- the messages up to the vote of B come
abbrev pub front : List Happening
front = tried.played (first_facts tried.places) (take 12 tried.coming)

-- Both flow: in the first the seventh message, Committed to B, is in flight; in the second none is.
pub record TheTriedFlow : Type 0 where
  pub begun : Commit tried.places [] front
  pub begun_flows : Flows tried.places [] front begun
  pub begun_flying : first_flying (facts_by tried.places [] front).net ≡ Some 7
  pub begun_few : length begun.during ≡ 2
  pub over : Commit tried.places [] tried.trace
  pub over_flows : Flows tried.places [] tried.trace over
  pub over_still : first_flying (facts_by tried.places [] tried.trace).net ≡ None
  pub over_few : length over.during ≡ 5
