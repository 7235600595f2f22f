-- The tried run once more, as to the rows that its book leaves at B: from the decision at A on the book has the row, while B
-- has none, holding it in doubt; at the end both have it, and nothing is in doubt.
use Rattle.std.specs.Prelude.{◌≡◌, ℕ, [], ◌∷◌, codes}
use Rattle.node_rules.specs.NodeState.{Stored}
use Rattle.node_rules.specs.Records.{nothing_stored, stored_by}
use Rattle.node_rules.specs.Rows.{rows_of_table}
use Rattle.run_rules.specs.Book.{rows_of}
use Rattle.run_rules.specs.Facts.{Facts, records_at}
use Rattle.run_rules.specs.Runs.{keys_in_doubt}
use Rattle.run_key_laws.specs.TriedRows.{facts_after_so_many, the_row}
use Rattle.run_branch_laws.specs.TriedRun.{one}
use Rattle.book_laws.specs.RowLaws.{doubtful_keys}

-- what a node stores
abbrev pub stored_at : Facts → ℕ → Stored
stored_at f n = stored_by nothing_stored (records_at f n)

-- when A has decided
abbrev pub decided : Facts
decided = facts_after_so_many 12

-- at the end
abbrev pub done : Facts
done = facts_after_so_many 15

-- the rows differ while the key is in doubt, and not afterwards
pub record TheTriedBookRows : Type 0 where
  pub book_decided : rows_of decided.book 2 (codes "T") ≡ the_row
  pub rows_decided : rows_of_table (stored_at decided 2).rows (codes "T") ≡ []
  pub doubts_decided : keys_in_doubt decided.book 2 (codes "T") ≡ one ∷ []
  pub keys_decided : doubtful_keys (stored_at decided 2).doubts (codes "T") ≡ one ∷ []
  pub book_done : rows_of done.book 2 (codes "T") ≡ the_row
  pub rows_done : rows_of_table (stored_at done 2).rows (codes "T") ≡ the_row
  pub doubts_done : keys_in_doubt done.book 2 (codes "T") ≡ []
  pub keys_done : doubtful_keys (stored_at done 2).doubts (codes "T") ≡ []
