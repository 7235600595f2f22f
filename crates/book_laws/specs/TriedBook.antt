-- The law of commit SCNs, tried on a run: after the transaction of the tried run a second one deletes the row at A, and commits there
-- alone. Both change one key at A, and the second has the greater SCN.
use Rattle.std.specs.Prelude.{◌≡◌, true, List, [], ◌∷◌, ◌++◌, codes, Some, None}
use Rattle.node_rules.specs.Data.{BranchId}
use Rattle.node_rules.specs.Data.stmts
use Rattle.run_rules.specs.Data.{Entry, Turn}
use Rattle.run_rules.specs.Book.{decided, share_a_key, transaction_at}
use Rattle.run_rules.specs.Entries.{book_of}
use Rattle.run_rules.specs.Facts.{Facts, first_facts}
use Rattle.run_branch_laws.specs.TriedRun.{places, calls, played, coming, a}

-- what comes to the nodes
abbrev pub more_coming : List (Facts → Turn)
more_coming = coming ++ calls 1 (stmts.Delete (record { name = codes "T"; link = None }) []) ∷ calls 1 (stmts.Commit None) ∷ []

-- the book of it
abbrev pub book : List Entry
book = book_of (played (first_facts places) more_coming)

-- the root of the second transaction
abbrev pub second : BranchId
second = record { node = 1; boot = 1; session = 1; seq = 2 }

-- Both transactions commit, and have a key in common at A.
pub record TheTriedBook : Type 0 where
  pub first_at : decided book a ≡ Some 1
  pub second_at : decided book second ≡ Some 2
  pub common : share_a_key (transaction_at book 1 a) (transaction_at book 1 second) ≡ true
