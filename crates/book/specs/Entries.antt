-- The entries of records, and the book of a trace. The book is dtx's own; what its entries say is in the words of the
-- Database Administrator's Guide, "Distributed Transactions Concepts".
use Rattle.std.specs.Prelude.{ℕ, List, [], ◌∷◌, flat_map, option_to_list, Option}
use Rattle.book.specs.Data.{Sealed, Decided, RedoRecord, Entry, Happening}
use Rattle.book.specs.Data.records
use Rattle.book.specs.Data.entries
use Rattle.book.specs.Data.happenings

-- a branch is prepared
abbrev pub sealed_entry : Sealed → Entry
sealed_entry r = entries.Sealed r.me r.root r.changes r.scn

-- a commit is decided
abbrev pub decided_entry : Decided → Entry
decided_entry r = entries.Decided r.me r.root r.changes r.scn

-- the entry of a record, where it has one: links, synonyms, settings, starts and what is forgotten or hidden have none
abbrev pub entry_of : ℕ → RedoRecord → List Entry
entry_of n (records.Table t) = entries.Made n t ∷ []
entry_of n (records.Sealed r) = sealed_entry r ∷ []
entry_of n (records.Decided r) = decided_entry r ∷ []
entry_of n (records.Ended me d) = entries.Ended me d ∷ []
entry_of n (records.Forced me d given) = entries.Forced me d ∷ []
entry_of n (records.Met me d mixed) = entries.Met me d mixed ∷ []
entry_of n _ = []

-- the entries of what a node wrote in a turn
abbrev pub entries_of : ℕ → Option RedoRecord → List Entry
entries_of n wrote = flat_map (entry_of n) (option_to_list wrote)

-- the entries of a happening
abbrev pub entries_in : Happening → List Entry
entries_in (happenings.Turn t) = entries_of t.node t.wrote
entries_in _ = []

-- the book of a trace
abbrev pub book_of : List Happening → List Entry
book_of hs = flat_map entries_in hs
