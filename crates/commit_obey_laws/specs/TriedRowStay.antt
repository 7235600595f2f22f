-- How long a row stays, tried on the run of two nodes: B has a row once it is sealed, and none when it has forgotten. Where B was
-- forced to roll back and meets the commit, its row stays, also when a purge has hidden it.
use Rattle.std.specs.Prelude.{◌≡◌, Bool, true, false, List, [], ◌∷◌, ◌++◌, map, Option, Some}
use Rattle.std.specs.Option.{option_map}
use Rattle.node_rules.specs.Data.stmts
use Rattle.node_rules.specs.Ids.{local_text}
use Rattle.run_rules.specs.Data.{Turn}
use Rattle.run_rules.specs.Facts.{Facts, node_at}
use Rattle.run_branch_laws.specs.TriedRun.{calls, takes, coming, b}
use Rattle.commit_obey_laws.specs.RowStayLaws.{row_may_go, keeps_row}
use Rattle.commit_obey_laws.specs.TriedObey.{facts_when, decided, forced_back}

-- the row that B was forced on is purged when it has turned out mixed
abbrev pub purged : List (Facts → Turn)
purged = forced_back ++ takes 7 ∷ calls 2 (stmts.PurgeMixed (local_text b)) ∷ []

-- whether B has a row of its branch, and which of its rows are hidden
abbrev pub row_at_b : List (Facts → Turn) → Option Bool
row_at_b comes = option_map (λ k. keeps_row k b) (node_at (facts_when comes) 2)

abbrev pub hidden_at_b : List (Facts → Turn) → Option (List Bool)
hidden_at_b comes = option_map (λ k. map (λ s. s.hidden) k.stored.durable.kept) (node_at (facts_when comes) 2)

-- The row is there until the branch is gone.
pub record TheTriedRowStay : Type 0 where
  pub sealed : row_at_b decided ≡ Some true
  pub stays : row_may_go (facts_when decided) b ≡ false
  pub forgot : row_at_b coming ≡ Some false
  pub goes : row_may_go (facts_when coming) b ≡ true
  pub hidden : hidden_at_b purged ≡ Some (true ∷ [])
  pub kept : row_at_b purged ≡ Some true
  pub stays_kept : row_may_go (facts_when purged) b ≡ false
