-- What every entry of a book needs of those before it: that branches end as their transaction was decided, that mixed
-- outcomes are marked, and that the SCN of a decision exceeds those of the seals. (Database Administrator's Guide,
-- "Distributed Transactions Concepts": in-doubt transactions, the outcome of a transaction, mixed outcomes.)
use Rattle.std.specs.Prelude.{◌≡◌, ℕ, ◌<◌, ◌==◌, ◌&&◌, Bool, true, false, if◌then◌else◌, List, [], ◌∷◌, ◌++◌, slice_get, Option, Some, None}
use Rattle.std.specs.List.{list_any}
use Rattle.agreement.specs.Data.{Change, BranchId, Decision, Entry}
use Rattle.agreement.specs.Data.decisions
use Rattle.agreement.specs.Data.entries
use Rattle.tran_ids.specs.Branch.{same}

-- whether an entry is the Sealed of this branch
abbrev pub is_sealed_of : BranchId → Entry → Bool
is_sealed_of b (entries.Sealed c g cs n) = same c b
is_sealed_of b _ = false

-- whether an entry is the Decided of this branch
abbrev pub is_decided_of : BranchId → Entry → Bool
is_decided_of b (entries.Decided c g cs n) = same c b
is_decided_of b _ = false

-- whether it is its Forced
abbrev pub is_forced_of : BranchId → Entry → Bool
is_forced_of b (entries.Forced c o) = same c b
is_forced_of b _ = false

-- an Ended or a Forced
abbrev pub is_end_of : BranchId → Entry → Bool
is_end_of b (entries.Ended c d) = same c b
is_end_of b (entries.Forced c o) = same c b
is_end_of b _ = false

-- whether it is its Met
abbrev pub is_met_of : BranchId → Entry → Bool
is_met_of b (entries.Met c d mixed) = same c b
is_met_of b _ = false

-- whether such an entry stands in a book
abbrev pub stands : (Entry → Bool) → List Entry → Bool
stands f book = list_any f book

-- whether an entry is the decision of this transaction
abbrev pub is_decision_on : BranchId → Entry → Bool
is_decision_on g (entries.Decided b h cs n) = same h g
is_decision_on g _ = false

-- whether an entry decides this transaction at this SCN
abbrev pub is_decision_at : BranchId → ℕ → Entry → Bool
is_decision_at g n (entries.Decided b h cs m) = same h g && (m == n)
is_decision_at g n _ = false

-- the transaction of a sealed branch
abbrev pub global_in : BranchId → List Entry → Option BranchId
global_in b [] = None
global_in b (entries.Sealed c g cs n ∷ es) = if same c b then Some g else global_in b es
global_in b (_ ∷ es) = global_in b es

-- whether a sealed branch is of this transaction
abbrev pub is_of : Option BranchId → BranchId → Bool
is_of None g = false
is_of (Some h) g = same h g

-- whether a branch of this transaction learned a rollback by this entry
abbrev pub is_rollback_of : List Entry → BranchId → Entry → Bool
is_rollback_of book g (entries.Ended b decisions.Rollback) = is_of (global_in b book) g
is_rollback_of book g (entries.Met b decisions.Rollback mixed) = is_of (global_in b book) g
is_rollback_of book g _ = false

-- a commit comes after its decision and has its SCN; of a transaction with a rollback no decision stands
abbrev pub AsDecided : Decision → Option BranchId → List Entry → Type 0
AsDecided d None older = ⊥
AsDecided (decisions.Commit n) (Some g) older = stands (is_decision_at g n) older ≡ true
AsDecided decisions.Rollback (Some g) older = stands (is_decision_on g) older ≡ false

-- what an entry needs of those before it: agreement
abbrev pub Follows : List Entry → Entry → Type 0
Follows older (entries.Made n t) = Unit {0}
Follows older (entries.Sealed b g cs n) =
    (stands (is_sealed_of b) older ≡ false) × (stands (is_decided_of b) older ≡ false) × (stands (is_end_of b) older ≡ false)
Follows older (entries.Decided b g cs n) =
    (stands (is_decision_on g) older ≡ false) × (stands (is_rollback_of older g) older ≡ false)
    × (stands (is_sealed_of b) older ≡ false) × (stands (is_end_of b) older ≡ false)
Follows older (entries.Ended b d) =
    (stands (is_sealed_of b) older ≡ true) × (stands (is_end_of b) older ≡ false) × AsDecided d (global_in b older) older
Follows older (entries.Forced b o) = (stands (is_sealed_of b) older ≡ true) × (stands (is_end_of b) older ≡ false)
Follows older (entries.Met b d mixed) = (stands (is_forced_of b) older ≡ true) × (stands (is_met_of b) older ≡ false) × AsDecided d (global_in b older) older

-- each entry against those before it
abbrev pub EachAgainst : (List Entry → Entry → Type 0) → List Entry → List Entry → Type 0
EachAgainst P older [] = Unit {0}
EachAgainst P older (e ∷ es) = P older e × EachAgainst P (older ++ e ∷ []) es

-- each entry agrees with those before it
abbrev pub Agreement : List Entry → Type 0
Agreement book = EachAgainst Follows [] book

-- the forced outcome of a branch
abbrev pub forced_in : BranchId → List Entry → Option Decision
forced_in b [] = None
forced_in b (entries.Forced c o ∷ es) = if same c b then Some o else forced_in b es
forced_in b (_ ∷ es) = forced_in b es

-- one of the forced outcome and the decision is commit and the other rollback
abbrev pub differ : Decision → Decision → Bool
differ (decisions.Commit m) (decisions.Commit n) = false
differ (decisions.Commit m) decisions.Rollback = true
differ decisions.Rollback (decisions.Commit n) = true
differ decisions.Rollback decisions.Rollback = false

-- a Met is marked mixed exactly where the forced outcome and the decision differ
abbrev pub Marks : List Entry → Entry → Type 0
Marks older (entries.Met b d mixed) = (o : Decision) × ((forced_in b older ≡ Some o) × (mixed ≡ differ o d))
Marks older _ = Unit {0}

-- every Met of a book is marked so
abbrev pub MixedIsMarked : List Entry → Type 0
MixedIsMarked book = EachAgainst Marks [] book

-- an entry at a place of the book
abbrev pub At : List Entry → ℕ → Entry → Type 0
At book i e = slice_get book i ≡ Some e

-- a decision's SCN exceeds every seal's of its transaction
abbrev pub AboveSeals : List Entry → Type 0
AboveSeals book = (i j : ℕ) (b c g : BranchId) (cs ds : List Change) (m n : ℕ) → At book i (entries.Decided b g cs m) → At book j (entries.Sealed c g ds n) → n < m
