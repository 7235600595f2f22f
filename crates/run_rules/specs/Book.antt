-- The book in the subject's words: the rows that its committed transactions leave, who is in doubt, and what every
-- entry needs of those before it. (Database Administrator's Guide, "Distributed Transactions Concepts": in-doubt
-- transactions, the outcome of a transaction, mixed outcomes.)
pub use Rattle.agreement.specs.Outcomes.{is_sealed_of, is_decided_of, is_forced_of, is_end_of, is_met_of, stands, is_decision_on, is_decision_at, global_in, is_of, is_rollback_of, AsDecided, Follows, EachAgainst, Agreement, forced_in, differ, Marks, MixedIsMarked, At, AboveSeals}
use Rattle.std.specs.Prelude.{ℕ, ◌<◌, ◌==◌, ◌&&◌, not, Bool, true, if◌then◌else◌, List, [], ◌∷◌, ◌++◌, filter, flat_map, nat_le, IsTrue, Option, Some, None}
use Rattle.std.specs.List.{list_any}
use Rattle.node_rules.specs.Data.{Change, BranchId, Keyed}
use Rattle.run_rules.specs.Data.{Entry}
use Rattle.node_rules.specs.Data.decisions
use Rattle.run_rules.specs.Data.entries
use Rattle.node_rules.specs.Words.{same, same_text, one}
use Rattle.node_rules.specs.Rows.{same_value, apply}

-- the changes of a branch are those of its Sealed or Decided
abbrev pub changes_in : BranchId → Entry → List Change
changes_in b (entries.Sealed c g cs n) = if same c b then cs else []
changes_in b (entries.Decided c g cs n) = if same c b then cs else []
changes_in b _ = []

-- the changes of a branch, by the book
abbrev pub changes_of : List Entry → BranchId → List Change
changes_of book b = flat_map (changes_in b) book

-- and those of a transaction at a node are those of its branches there that were never forced
abbrev pub unforced_at : List Entry → ℕ → BranchId → BranchId → BranchId → List Change → List Change
unforced_at book n g b h cs = if same h g && ((b.node == n) && not (stands (is_forced_of b) book)) then cs else []

-- what an entry has of a transaction's changes at a node
abbrev pub transaction_in : List Entry → ℕ → BranchId → Entry → List Change
transaction_in book n g (entries.Sealed b h cs scn) = unforced_at book n g b h cs
transaction_in book n g (entries.Decided b h cs scn) = unforced_at book n g b h cs
transaction_in book n g _ = []

-- the changes that a transaction's decision commits at a node
abbrev pub transaction_at : List Entry → ℕ → BranchId → List Change
transaction_at book n g = flat_map (transaction_in book n g) book

-- the changes that an entry commits at a node
abbrev pub commits_at : List Entry → ℕ → Entry → List Change
commits_at book n (entries.Decided b g cs scn) = transaction_at book n g
commits_at book n (entries.Forced b (decisions.Commit scn)) = if b.node == n then changes_of book b else []
commits_at book n _ = []

-- the rows that the committed transactions of a book leave in a table of a node
unfoldable pub rows_of : List Entry → ℕ → List ℕ → List Keyed
rows_of book n table = apply table [] (flat_map (commits_at book n) book)

-- whether an entry does not commit above this SCN
abbrev pub is_until : ℕ → Entry → Bool
is_until scn (entries.Decided b g cs n) = nat_le n scn
is_until scn (entries.Forced b (decisions.Commit n)) = nat_le n scn
is_until scn _ = true

-- the rows that those leave that are committed up to an SCN
unfoldable pub rows_until : List Entry → ℕ → List ℕ → ℕ → List Keyed
rows_until book n table scn = apply table [] (flat_map (commits_at book n) (filter (is_until scn) book))

-- the rows of a table of a node that a transaction reads: those at its SCN where it is READ ONLY
abbrev pub rows_read : List Entry → ℕ → List ℕ → Option ℕ → List Keyed
rows_read book n table None = rows_of book n table
rows_read book n table (Some scn) = rows_until book n table scn

-- the changes that an entry commits at once at its node: the site's own at its Decided, a branch's at its Ended or Forced commit
abbrev pub commits_now : List Entry → ℕ → Entry → List Change
commits_now older n (entries.Decided b g cs scn) = if b.node == n then cs else []
commits_now older n (entries.Ended b (decisions.Commit scn)) = if b.node == n then changes_of older b else []
commits_now older n (entries.Forced b (decisions.Commit scn)) = if b.node == n then changes_of older b else []
commits_now older n _ = []

-- the changes that entries commit one after the other at a node
abbrev pub committed_at : List Entry → ℕ → List Entry → List Change
committed_at older n [] = []
committed_at older n (e ∷ es) = commits_now older n e ++ committed_at (older ++ e ∷ []) n es

-- the rows of a table of a node as they are committed there, one entry after the other
unfoldable pub rows_by_book : List Entry → ℕ → List ℕ → List Keyed
rows_by_book book n table = apply table [] (committed_at [] n book)

-- branches in doubt
abbrev pub doubt_in : List Entry → ℕ → Entry → List BranchId
doubt_in book n (entries.Sealed b g cs scn) = if (b.node == n) && not (stands (is_end_of b) book) then one b else []
doubt_in book n _ = []

-- the branches of a node that are sealed and neither ended nor forced
unfoldable pub in_doubt : List Entry → ℕ → List BranchId
in_doubt book n = flat_map (doubt_in book n) book

-- the SCN at which a book commits a transaction, none where it does not
abbrev pub decided : List Entry → BranchId → Option ℕ
decided [] g = None
decided (entries.Decided b h cs n ∷ es) g = if same h g then Some n else decided es g
decided (_ ∷ es) g = decided es g

-- whether one of these changes is to the key of this one, in its table
abbrev pub is_key_in : List Change → Change → Bool
is_key_in cs c = list_any (λ d. same_text d.table c.table && same_value d.key c.key) cs

-- whether two lists of changes have a key in common
abbrev pub share_a_key : List Change → List Change → Bool
share_a_key cs ds = list_any (is_key_in cs) ds

-- of two decisions that changed one key at a node the later has the greater SCN
abbrev pub InOrder : List Entry → Type 0
InOrder book = (i j : ℕ) (b c g h : BranchId) (cs ds : List Change) (m n node : ℕ) → i < j → At book i (entries.Decided b g cs m) → At book j (entries.Decided c h ds n)
    → IsTrue (share_a_key (transaction_at book node g) (transaction_at book node h)) → m < n

-- the law of commit SCNs
pub record ScnLaw (book : List Entry) : Type 0 where
  pub above_seals : AboveSeals book
  pub in_order : InOrder book
