-- Examples: two transactions that commit, side by side, a branch of one of them against its forced rollback; and one that
-- rolls back, since its site was lost before it decided.
use Rattle.std.specs.Prelude.{◌≡◌, ℕ, ◌==◌, ◌||◌, true, List, [], ◌∷◌, if◌then◌else◌, Some, None}
use Rattle.agreement.specs.Data.{BranchId, Entry}
use Rattle.agreement.specs.Data.decisions
use Rattle.agreement.specs.Data.entries
use Rattle.agreement.specs.Events.{Forest, IsForest, Event, Seal, Decide, Drop, Force, Learn, Forget, Send_vote, Send_commit, Send_rollback, Send_ack, Lawful}
use Rattle.agreement.specs.BookOf.{book_of}

-- the same id at another node
abbrev pub at_node : ℕ → BranchId → BranchId
at_node n b = record { node = n; boot = b.boot; session = b.session; seq = b.seq }

-- each transaction has its root at node 1, and its site at node 2
abbrev pub two_each : Forest
two_each = record {
  root = at_node 1;
  site = at_node 2;
  member = λ b. (b.node == 1) || (b.node == 2);
  toward = at_node 2;
  far = λ b. if b.node == 2 then 0 else 1;
}

-- the root of the first transaction
abbrev pub root1 : BranchId
root1 = record { node = 1; boot = 1; session = 1; seq = 1 }

-- and of the second
abbrev pub root2 : BranchId
root2 = record { node = 1; boot = 1; session = 1; seq = 2 }

-- the site of the first
abbrev pub site1 : BranchId
site1 = at_node 2 root1

-- and of the second
abbrev pub site2 : BranchId
site2 = at_node 2 root2

-- the roots seal and vote; the newest event stands first
abbrev pub sealed : List Event
sealed = Send_vote root2 6 ∷ Seal root2 root2 4 [] ∷ Send_vote root1 4 ∷ Seal root1 root1 3 [] ∷ []

-- the first transaction commits, and the second root is forced meanwhile
abbrev pub acked : List Event
acked =
    Send_ack root1 site1 ∷ Learn root1 (decisions.Commit 5) None ∷ Force root2 decisions.Rollback ∷ Send_commit site1 root1 5 ∷ Decide site1 root1 5 [] ∷ sealed

-- the second transaction commits too
abbrev pub both_commit : List Event
both_commit = Learn root2 (decisions.Commit 7) (Some true) ∷ Send_commit site2 root2 7 ∷ Decide site2 root2 7 [] ∷ Forget site1 ∷ acked

-- what is told of it
abbrev pub book_of_both : List Entry
book_of_both = entries.Sealed root1 root1 [] 3 ∷ entries.Sealed root2 root2 [] 4 ∷ entries.Decided site1 root1 [] 5 ∷ entries.Forced root2 decisions.Rollback
    ∷ entries.Ended root1 (decisions.Commit 5) ∷ entries.Decided site2 root2 [] 7 ∷ entries.Met root2 (decisions.Commit 7) true ∷ []

-- the site of the first transaction is lost before it decides
abbrev pub rolls_back : List Event
rolls_back = Learn root1 decisions.Rollback None ∷ Send_rollback site1 root1 ∷ Drop site1 ∷ sealed

-- what is told of that
abbrev pub book_of_rollback : List Entry
book_of_rollback = entries.Sealed root1 root1 [] 3 ∷ entries.Sealed root2 root2 [] 4 ∷ entries.Ended root1 decisions.Rollback ∷ []

-- The examples are lawful, and their books are these.
abbrev pub ExamplesAreLawful : Type 0
ExamplesAreLawful = IsForest two_each × (Lawful two_each both_commit × (book_of both_commit ≡ book_of_both)) × (Lawful two_each rolls_back × (book_of rolls_back ≡ book_of_rollback))
