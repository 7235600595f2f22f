-- In which order the records of a node stand: their SCNs rise, and a seal or a decision changes no key that a branch in
-- doubt holds. (Database Administrator's Guide, "Distributed Transactions Concepts": in-doubt transactions.)
pub use Rattle.node_undo_laws.specs.Keys.{are_of_one_key, HaveNoKeyInCommon, AreFree, ChangesFreeKeys}
use Rattle.std.specs.Prelude.{ℕ, List, [], ◌∷◌, ◌++◌}
use Rattle.node_rules.specs.Data.{RedoRecord}
use Rattle.node_rules.specs.NodeState.{Stored}
use Rattle.node_rules.specs.Records.{nothing_stored, stored_by}
use Rattle.run_rules.specs.Facts.{records_at}
use Rattle.run_rules.specs.Lawful.{History, IsLawfulRun, facts_at}
use Rattle.run_base_laws.specs.NodeLaws.{IsLater}

-- each of these records is so, by what those before it store
abbrev pub EachRecordFrom : (Stored → RedoRecord → Type 0) → List RedoRecord → List RedoRecord → Type 0
EachRecordFrom So older [] = Unit {0}
EachRecordFrom So older (r ∷ rs) = So (stored_by nothing_stored older) r × EachRecordFrom So (older ++ r ∷ []) rs

-- in every lawful run each record on a disk is so, whether its node is up or down
abbrev pub AtEachRecord : (Stored → RedoRecord → Type 0) → Type 0
AtEachRecord So = (t : History) → IsLawfulRun t → (n : ℕ) → EachRecordFrom So [] (records_at (facts_at t) n)

-- a seal is not below any SCN that the records before it name, and a decision is above them, those given by users apart
abbrev pub ScnsRise : Type 0
ScnsRise = AtEachRecord (λ s r. IsLater s.scn r)

-- a seal or a decision changes no key that a branch in doubt holds
abbrev pub RecordsChangeFreeKeys : Type 0
RecordsChangeFreeKeys = AtEachRecord (λ s r. ChangesFreeKeys s.doubts r)
