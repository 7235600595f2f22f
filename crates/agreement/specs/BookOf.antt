-- The book of a list of events: the entries in the order in which they came to stand.
use Rattle.std.specs.Prelude.{List, [], ◌∷◌, ◌++◌, Option, Some, None}
use Rattle.agreement.specs.Data.{Entry}
use Rattle.agreement.specs.Data.entries
use Rattle.agreement.specs.Events.{Event, Make, Seal, Decide, Force, Learn}

-- the entry of an event, where it has one
abbrev pub entry_by : Event → Option Entry
entry_by (Make n table) = Some (entries.Made n table)
entry_by (Seal b g n cs) = Some (entries.Sealed b g cs n)
entry_by (Decide b g n cs) = Some (entries.Decided b g cs n)
entry_by (Learn b d None) = Some (entries.Ended b d)
entry_by (Learn b d (Some mixed)) = Some (entries.Met b d mixed)
entry_by (Force b o) = Some (entries.Forced b o)
entry_by _ = None

-- with one more entry, where there is one
abbrev pub with_entry : List Entry → Option Entry → List Entry
with_entry es None = es
with_entry es (Some e) = es ++ e ∷ []

-- the book of a list of events
abbrev pub book_of : List Event → List Entry
book_of [] = []
book_of (s ∷ t) = with_entry (book_of t) (entry_by s)
