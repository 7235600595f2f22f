-- The book and the disks: of each node the book has the entries of the records on its disk, in their order. (The book is
-- dtx's own; what its entries say is in the words of the Database Administrator's Guide, "Distributed Transactions Concepts".)
use Rattle.std.specs.Prelude.{◌≡◌, ℕ, ◌==◌, Bool, filter, flat_map}
use Rattle.run_rules.specs.Data.{Entry}
use Rattle.run_rules.specs.Data.entries
use Rattle.run_rules.specs.Entries.{entry_of, book_of}
use Rattle.run_rules.specs.Facts.{records_at}
use Rattle.run_rules.specs.Lawful.{History, IsLawfulRun, facts_at}

-- the node of an entry
abbrev pub node_of : Entry → ℕ
node_of (entries.Made n t) = n
node_of (entries.Sealed b g cs scn) = b.node
node_of (entries.Decided b g cs scn) = b.node
node_of (entries.Ended b d) = b.node
node_of (entries.Forced b o) = b.node
node_of (entries.Met b d mixed) = b.node

-- whether an entry is of this node
abbrev pub is_of_node : ℕ → Entry → Bool
is_of_node n e = node_of e == n

-- in every lawful run the entries of a node are those of the records on its disk, in their order
abbrev pub BooksAreOfDisks : Type 0
BooksAreOfDisks = (t : History) → IsLawfulRun t → (n : ℕ) → filter (is_of_node n) (book_of t.trace) ≡ flat_map (entry_of n) (records_at (facts_at t) n)
