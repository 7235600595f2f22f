-- The events of a run: their book is the book of the run, and where each turn is just the run's book agrees.
use Rattle.std.specs.Prelude.{◌≡◌, ℕ, ◌⊎◌, List, [], ◌∷◌, Some, None, IfSome}
use Rattle.std.specs.List.{AllByRecursion}
use Rattle.node_rules.specs.Data.{BranchId, Place}
use Rattle.node_rules.specs.NodeState.{NodeState}
use Rattle.node_rules.specs.Turn.{Is_gone, status_of}
use Rattle.node_rules.specs.Records.{nothing_stored, stored_by}
use Rattle.run_rules.specs.Data.{Happening, Command}
use Rattle.run_rules.specs.Data.happenings
use Rattle.agreement.specs.Events.{Forest, IsForest, Event, Sealed, Lawful, exit}
use Rattle.agreement.specs.BookOf.{book_of}
use Rattle.run_rules.specs.Entries.{book_of as trace_book}
use Rattle.run_rules.specs.Book.{Agreement, MixedIsMarked, AboveSeals}
use Rattle.run_rules.specs.Lawful.{History, IsLawfulRun, facts_at}
use Rattle.run_rules.specs.Facts.{Facts, first_facts, facts_after, node_at, records_at}
use Rattle.run_base_laws.specs.RunEvents.{with_record, events_after, events_of, AreJust}
use Rattle.run_base_laws.specs.EventRows.{RowsAre, MayStand, MaySayAll, IsKeptIn, IsGoneForGood}

-- The book of a run is that of its events.
abbrev pub BookOfEvents : Type 0
BookOfEvents = (r : History) → book_of (events_of r) ≡ trace_book r.trace

-- each turn of a run is just, by some plan of its transactions
abbrev pub IsJustRun : History → Type 0
IsJustRun r = (p : Forest) × IsForest p × AreJust p r.places r.commands (first_facts r.places) r.trace []

-- Where each turn of a run is just, its events are lawful: stops, cuts and losses need nothing.
abbrev pub JustRunsAreLawful : Type 0
JustRunsAreLawful = (r : History) (p : Forest) → AreJust p r.places r.commands (first_facts r.places) r.trace [] → Lawful p (events_of r)

-- So its book agrees, its mixed outcomes are marked, and its decisions exceed their seals.
abbrev pub JustRunsAgree : Type 0
JustRunsAgree = (r : History) → IsJustRun r → Agreement (trace_book r.trace) × MixedIsMarked (trace_book r.trace) × AboveSeals (trace_book r.trace)

-- In every lawful run the live branches of a node have no exit, and its rows stand as the events say.
abbrev pub NodesAreAsEvents : Type 0
NodesAreAsEvents = (t : History) → IsLawfulRun t → (n : ℕ) (k : NodeState) → node_at (facts_at t) n ≡ Some k
    → AllByRecursion (λ l. exit (events_of t) l.me ≡ None) k.lives × RowsAre (events_of t) k.stored.durable.kept

-- each of these happenings is so, by the facts and the events before it
abbrev pub EachEventFrom : (Facts → List Event → Happening → Type 0) → List Place → List Command → Facts → List Event → List Happening → Type 0
EachEventFrom So places asked f t [] = Unit {0}
EachEventFrom So places asked f t (h ∷ hs) = So f t h × EachEventFrom So places asked (facts_after places asked f h) (events_after places asked f h t) hs

-- each happening of a run is so
abbrev pub AtEachEvent : (Facts → List Event → Happening → Type 0) → History → Type 0
AtEachEvent So t = EachEventFrom So t.places t.commands (first_facts t.places) [] t.trace

-- the record of a turn may stand, and its messages may be said once it stands
abbrev pub TellsAsEvents : Facts → List Event → Happening → Type 0
TellsAsEvents f t (happenings.Turn u) = IfSome u.wrote (MayStand t) × MaySayAll (with_record u t) u.sent
TellsAsEvents f t _ = Unit {0}

-- In every lawful run each turn writes and says what it may by the events before it, as far as that hangs on no session tree.
abbrev pub TurnsTellAsEvents : Type 0
TurnsTellAsEvents = (t : History) → IsLawfulRun t → AtEachEvent TellsAsEvents t

-- In every lawful run a sealed branch has a row, by the records of its node, until it learned a rollback or forgot.
abbrev pub SealedAreKept : Type 0
SealedAreKept = (t : History) → IsLawfulRun t → (b : BranchId) (n : ℕ) → exit (events_of t) b ≡ Some (Sealed n)
    → IsKeptIn b (stored_by nothing_stored (records_at (facts_at t) b.node)).durable.kept ⊎ IsGoneForGood (events_of t) b

-- In every lawful run a sealed branch of which its node knows nothing learned a rollback or forgot.
abbrev pub GoneAreDone : Type 0
GoneAreDone = (t : History) → IsLawfulRun t → (b : BranchId) (k : NodeState) → node_at (facts_at t) b.node ≡ Some k → status_of k b ≡ Is_gone
    → (n : ℕ) → exit (events_of t) b ≡ Some (Sealed n) → IsGoneForGood (events_of t) b
