-- The law of commit SCNs, as far as each node keeps it by itself: of two branches that changed one key at a node the first
-- was ended or forced before the second sealed or decided, and the second's SCN is not below any commit that came before.
-- (Database Administrator's Guide, "Distributed Transactions Concepts": in-doubt transactions.)
use Rattle.std.specs.Prelude.{◌≡◌, ℕ, ◌<◌, ◌≤◌, Bool, true, false, List, [], ◌∷◌, ◌++◌}
use Rattle.std.specs.List.{AllByRecursion, list_any}
use Rattle.node_rules.specs.Data.{Change, BranchId, RedoRecord}
use Rattle.node_rules.specs.Data.decisions
use Rattle.node_rules.specs.Data.records
use Rattle.node_rules.specs.Words.{same}
use Rattle.run_rules.specs.Facts.{records_at}
use Rattle.run_rules.specs.Lawful.{History, IsLawfulRun, facts_at}
use Rattle.run_key_laws.specs.RiseLaws.{are_of_one_key}

-- whether a record ends a branch, or forces its outcome
abbrev pub ends : BranchId → RedoRecord → Bool
ends b (records.Ended c d) = same c b
ends b (records.Forced c d given) = same c b
ends b _ = false

-- the SCN of the commit that a record decides or learns
abbrev pub commit_scn : RedoRecord → ℕ
commit_scn (records.Decided r) = r.scn
commit_scn (records.Ended c (decisions.Commit n)) = n
commit_scn (records.Met c (decisions.Commit n) mixed) = n
commit_scn _ = 0

-- whether these changes and those have a key in common
abbrev pub have_a_key_in_common : List Change → List Change → Bool
have_a_key_in_common cs ds = list_any (λ c. list_any (are_of_one_key c) ds) cs

-- a branch that was sealed before, and changed one of the keys of these changes, has been ended or forced
abbrev pub IsDoneBefore : List RedoRecord → List Change → RedoRecord → Type 0
IsDoneBefore older cs (records.Sealed x) = have_a_key_in_common x.changes cs ≡ true → list_any (ends x.me) older ≡ true
IsDoneBefore older cs _ = Unit {0}

-- a seal and a decision come after all others that changed their keys, and after the commits that are known by then
abbrev pub ComesInOrder : List RedoRecord → RedoRecord → Type 0
ComesInOrder older (records.Sealed r) = AllByRecursion (IsDoneBefore older r.changes) older × AllByRecursion (λ o. commit_scn o ≤ r.scn) older
ComesInOrder older (records.Decided r) = AllByRecursion (IsDoneBefore older r.changes) older × AllByRecursion (λ o. commit_scn o < r.scn) older
ComesInOrder older _ = Unit {0}

-- each of these records does
abbrev pub InOrderFrom : List RedoRecord → List RedoRecord → Type 0
InOrderFrom older [] = Unit {0}
InOrderFrom older (r ∷ rs) = ComesInOrder older r × InOrderFrom (older ++ r ∷ []) rs

-- so it is on each disk of every lawful run
abbrev pub KeysComeInOrder : Type 0
KeysComeInOrder = (t : History) → IsLawfulRun t → (n : ℕ) → InOrderFrom [] (records_at (facts_at t) n)
