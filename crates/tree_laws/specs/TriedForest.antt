-- The laws of the forest, tried on the run of two nodes: A's transaction with a branch at B. Both change a row, so the walk stays at A,
-- which is the site, and B was asked off the walk.
use Rattle.std.specs.Prelude.{◌≡◌, true, false, List, []}
use Rattle.node_rules.specs.Data.{Post}
use Rattle.agreement.specs.Events.{Forest, site_of}
use Rattle.run_rules.specs.Facts.{first_facts, facts_of}
use Rattle.run_rules.specs.Births.{births_from}
use Rattle.run_base_laws.specs.FreezeLaws.{was_asked}
use Rattle.run_base_laws.specs.InTurnLaws.{said_in}
use Rattle.run_branch_laws.specs.WalkLaws.{is_below, was_sent}
use Rattle.run_branch_laws.specs.TriedRun as tried
use Rattle.tree_laws.specs.Forests.{forest_by}

-- all messages of that run
abbrev pub said : List Post
said = said_in (facts_of tried.places [] (first_facts tried.places) tried.trace)

-- the forest of the run
abbrev pub p : Forest
p = forest_by (births_from tried.places [] (first_facts tried.places) tried.trace []) said

-- B was asked, and is beyond A, the site.
pub record TheTriedForest : Type 0 where
  pub asked : was_asked said tried.a tried.b ≡ true
  pub off : was_sent is_below said tried.a tried.b ≡ false
  pub members : p.member tried.b ≡ true
  pub toward : p.toward tried.b ≡ tried.a
  pub site : site_of p tried.b ≡ tried.a
  pub at_site : p.far tried.a ≡ 0
