-- What a READ ONLY transaction reads at a node stays as it is: what is committed there later has a greater SCN. (SQL Language
-- Reference: SET TRANSACTION READ ONLY.)
use Rattle.std.specs.Prelude.{◌≡◌, ℕ, ◌<◌, ◌≤◌, false, List, length, Some, IfSome}
use Rattle.std.specs.List.{AllByRecursion, list_any}
use Rattle.node_rules.specs.Data.{Value, BranchId, Live}
use Rattle.node_rules.specs.Data.decisions
use Rattle.node_rules.specs.NodeState.{NodeState, live_at}
use Rattle.node_rules.specs.Rows.{same_value, get}
use Rattle.run_rules.specs.Data.{Entry}
use Rattle.run_rules.specs.Data.entries
use Rattle.run_rules.specs.Book.{At, rows_until}
use Rattle.run_rules.specs.Each.{facts_upto}
use Rattle.run_rules.specs.Facts.{node_at, records_at}
use Rattle.run_rules.specs.Lawful.{History, IsLawfulRun, boots, facts_at}
use Rattle.run_rules.specs.Runs.{keys_in_doubt}

-- a live branch whose transaction is READ ONLY reads at an SCN that this clock has reached
abbrev pub ReadsBelow : ℕ → Live → Type 0
ReadsBelow clock l = IfSome l.read_at (λ scn. scn ≤ clock)

-- In every lawful run the live branches of a node read at SCNs that its clock has reached.
abbrev pub EveryReaderIsBelow : Type 0
EveryReaderIsBelow = (t : History) → IsLawfulRun t → (n : ℕ) (k : NodeState) → node_at (facts_at t) n ≡ Some k → AllByRecursion (ReadsBelow k.clock) k.lives

-- an entry that seals no branch of a node below an SCN, and decides and forces none to commit at or below it
abbrev pub IsAbove : ℕ → ℕ → Entry → Type 0
IsAbove n scn (entries.Sealed b g cs m) = b.node ≡ n → scn ≤ m
IsAbove n scn (entries.Decided b g cs m) = b.node ≡ n → scn < m
IsAbove n scn (entries.Forced b (decisions.Commit m)) = b.node ≡ n → scn < m
IsAbove n scn _ = Unit {0}

-- the book after so many happenings
abbrev pub book_upto : History → ℕ → List Entry
book_upto t i = (facts_upto t i).book

-- Between two moments no branch of a node was forced to commit at an SCN up to this one: each such entry of the later book
-- stood in the earlier one. Only COMMIT FORCE with an SCN can write one that did not.
abbrev pub NoneIsForcedBetween : History → ℕ → ℕ → ℕ → ℕ → Type 0
NoneIsForcedBetween t i j n scn = (p : ℕ) (b : BranchId) (m : ℕ) → At (book_upto t j) p (entries.Forced b (decisions.Commit m)) → b.node ≡ n → m ≤ scn → p < length (book_upto t i)

-- While a node that was up goes on without a start, the rows of its tables that were committed up to an SCN that its clock had
-- reached stay as they are, at each key that was not in doubt.
abbrev pub ReadsStay : History → Type 0
ReadsStay t = (i j : ℕ) → i ≤ j → (n : ℕ) (k : NodeState) → node_at (facts_upto t i) n ≡ Some k → boots (records_at (facts_upto t j) n) ≡ boots (records_at (facts_upto t i) n)
    → (scn : ℕ) → scn ≤ k.clock → NoneIsForcedBetween t i j n scn → (table : List ℕ) (key : Value) → list_any (same_value key) (keys_in_doubt (book_upto t i) n table) ≡ false
    → get (rows_until (book_upto t i) n table scn) key ≡ get (rows_until (book_upto t j) n table scn) key

-- So it is in every lawful run.
abbrev pub EveryReadStays : Type 0
EveryReadStays = (t : History) → IsLawfulRun t → ReadsStay t

-- What a READ ONLY transaction reads by a branch stays while the branch lives: the rows of its node that were committed up to its
-- SCN are the same at each key that was not in doubt.
abbrev pub ReaderReadsTheSame : History → Type 0
ReaderReadsTheSame t = (i j : ℕ) → i ≤ j → (n : ℕ) (k later : NodeState) → node_at (facts_upto t i) n ≡ Some k → node_at (facts_upto t j) n ≡ Some later
    → (b : BranchId) (l last : Live) → live_at k b ≡ Some l → live_at later b ≡ Some last → (scn : ℕ) → l.read_at ≡ Some scn → NoneIsForcedBetween t i j n scn
    → (table : List ℕ) (key : Value) → list_any (same_value key) (keys_in_doubt (book_upto t i) n table) ≡ false
    → get (rows_until (book_upto t i) n table scn) key ≡ get (rows_until (book_upto t j) n table scn) key

-- So it is in every lawful run.
abbrev pub EveryReaderReadsTheSame : Type 0
EveryReaderReadsTheSame = (t : History) → IsLawfulRun t → ReaderReadsTheSame t
