-- Rows of a forced outcome, tried on a run: B seals as in the tried run, a user commits its branch by force, and A gives the
-- COMMIT up. B learns the rollback, a mixed outcome, and keeps its row, as the book does.
use Rattle.std.specs.Prelude.{◌≡◌, true, List, [], ◌∷◌, ◌++◌, codes, filter, take, None}
use Rattle.node_rules.specs.Data.decisions
use Rattle.node_rules.specs.Data.inputs
use Rattle.node_rules.specs.Data.stmts
use Rattle.node_rules.specs.Ids.{local_text}
use Rattle.node_rules.specs.Rows.{rows_of_table}
use Rattle.run_rules.specs.Book.{is_met_of, rows_of}
use Rattle.run_rules.specs.Data.{Turn}
use Rattle.run_rules.specs.Data.entries
use Rattle.run_rules.specs.Facts.{Facts, first_facts, facts_of}
use Rattle.run_rules.specs.Runs.{keys_in_doubt}
use Rattle.run_key_laws.specs.TriedRows.{the_row}
use Rattle.run_branch_laws.specs.TriedRun.{places, turn_by, calls, takes, played, coming, b}
use Rattle.book_laws.specs.TriedBookRows.{stored_at}

-- what comes to the nodes
abbrev pub forced_coming : List (Facts → Turn)
forced_coming = take 11 coming ++ calls 2 (stmts.CommitForce (local_text b) None) ∷ (λ f. turn_by f 1 (inputs.GiveUp 1) None) ∷ takes 7 ∷ []

-- what it leaves
abbrev pub forced_facts : Facts
forced_facts = facts_of places [] (first_facts places) (played (first_facts places) forced_coming)

-- the row stays at B, and there is none at A, where all was rolled back
pub record TheTriedForcedRows : Type 0 where
  pub met : filter (is_met_of b) forced_facts.book ≡ entries.Met b decisions.Rollback true ∷ []
  pub book_at_a : rows_of forced_facts.book 1 (codes "T") ≡ []
  pub rows_at_a : rows_of_table (stored_at forced_facts 1).rows (codes "T") ≡ []
  pub book_at_b : rows_of forced_facts.book 2 (codes "T") ≡ the_row
  pub rows_at_b : rows_of_table (stored_at forced_facts 2).rows (codes "T") ≡ the_row
  pub doubts_at_b : keys_in_doubt forced_facts.book 2 (codes "T") ≡ []
