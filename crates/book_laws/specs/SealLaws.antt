-- A branch is sealed before its transaction is decided, by the order of the book. (Database Administrator's Guide,
-- "Distributed Transactions Concepts": prepare phase.)
use Rattle.std.specs.Prelude.{◌≡◌, false, List, []}
use Rattle.run_rules.specs.Data.{Entry}
use Rattle.run_rules.specs.Data.entries
use Rattle.run_rules.specs.Book.{stands, is_decision_on, EachAgainst}
use Rattle.run_rules.specs.Entries.{book_of}
use Rattle.run_rules.specs.Lawful.{History, IsLawfulRun}

-- no decision of its transaction stands before a seal
abbrev pub ComesFirst : List Entry → Entry → Type 0
ComesFirst older (entries.Sealed b g cs n) = stands (is_decision_on g) older ≡ false
ComesFirst older _ = Unit {0}

-- so it is in the book of every lawful run
abbrev pub SealsComeFirst : Type 0
SealsComeFirst = (t : History) → IsLawfulRun t → EachAgainst ComesFirst [] (book_of t.trace)
