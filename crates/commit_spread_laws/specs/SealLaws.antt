-- Every sealed branch of an undisturbed COMMIT ends with commit, where its transaction is decided.
use Rattle.std.specs.Prelude.{◌≡◌, Bool, true, false, List}
use Rattle.std.specs.List.{AllByRecursion, list_any}
use Rattle.node_rules.specs.Data.{BranchId}
use Rattle.node_rules.specs.Words.{same}
use Rattle.run_rules.specs.Book.{is_decision_on}
use Rattle.run_rules.specs.Data.{Entry}
use Rattle.run_rules.specs.Data.entries
use Rattle.run_rules.specs.Lawful.{History, IsLawfulRun, facts_at}
use Rattle.run_claims.specs.Undisturbed.{Commit, Undisturbed, SealIsEnded}

-- whether an entry seals a branch of this transaction
abbrev pub is_seal_on : BranchId → Entry → Bool
is_seal_on g (entries.Sealed b h cs n) = same h g
is_seal_on g _ = false

-- where a branch of this transaction is sealed in a book, one of it is decided there
abbrev pub SealsAreDecided : List Entry → BranchId → Type 0
SealsAreDecided book root = list_any (is_seal_on root) book ≡ true → list_any (is_decision_on root) book ≡ true

-- In every lawful run each sealed branch of an undisturbed COMMIT has its Ended commit where, if one is sealed, one has decided.
abbrev pub UndisturbedSealsEnd : Type 0
UndisturbedSealsEnd = (t : History) → IsLawfulRun t → (c : Commit t.places t.commands t.trace) → Undisturbed t.places t.commands t.trace c → SealsAreDecided (facts_at t).book c.root
    → AllByRecursion (SealIsEnded (facts_at t).book c.root) (facts_at t).book
