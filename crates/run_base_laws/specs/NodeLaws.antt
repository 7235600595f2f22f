-- Laws of every turn of a lawful run, and of what its nodes keep: their clocks, their locks, their records, the ids that
-- they give out, and the commits that they tell.
use Rattle.std.specs.Prelude.{◌≡◌, ℕ, ◌+◌, ◌<◌, ◌≤◌, ◌||◌, ◌⊎◌, Bool, true, if◌then◌else◌, List, [], ◌∷◌, ◌++◌, option_to_list, Option, Some, None, IfSome}
use Rattle.std.specs.List.{AllByRecursion, list_any}
use Rattle.node_rules.specs.Data.{BranchId, Kind, KeptRow, RedoRecord, Place}
use Rattle.node_rules.specs.Data.decisions
use Rattle.node_rules.specs.Data.kinds
use Rattle.node_rules.specs.Data.records
use Rattle.node_rules.specs.Words.{is_item_of}
use Rattle.node_rules.specs.NodeState.{NodeState, live_id, doubt_id, kept_row_id}
use Rattle.node_rules.specs.Records.{nothing_stored, stored_by}
pub use Rattle.node_rules.specs.Records.{unacked_kid, unacked_row, unacked}
use Rattle.node_rules.specs.Turn.{turn_of}
use Rattle.run_rules.specs.Data.{Command, Happening}
use Rattle.run_rules.specs.Data.happenings
use Rattle.run_rules.specs.Facts.{Facts, first_facts, facts_after, place_at, node_at, records_at}
use Rattle.run_rules.specs.BranchRecords.{CommitIsRecorded, Commits}
use Rattle.run_rules.specs.Lawful.{History, IsLawfulRun, facts_at}

-- each of these happenings is so, by the facts before it
abbrev pub EachFactFrom : (Facts → Happening → Type 0) → List Place → List Command → Facts → List Happening → Type 0
EachFactFrom So places asked f [] = Unit {0}
EachFactFrom So places asked f (h ∷ hs) = So f h × EachFactFrom So places asked (facts_after places asked f h) hs

-- each happening of a run is so
abbrev pub AtEachFact : (List Place → Facts → Happening → Type 0) → History → Type 0
AtEachFact So t = EachFactFrom (So t.places) t.places t.commands (first_facts t.places) t.trace

-- of each node of a lawful run that is up
abbrev pub OfEachNode : (Place → List RedoRecord → NodeState → Type 0) → Type 0
OfEachNode So = (t : History) → IsLawfulRun t → (n : ℕ) (k : NodeState) → node_at (facts_at t) n ≡ Some k → So (place_at t.places n) (records_at (facts_at t) n) k

-- ---- the clock

-- a commit's SCN is above this, a seal's not below
abbrev pub IsLater : ℕ → RedoRecord → Type 0
IsLater clock (records.Decided r) = clock < r.scn
IsLater clock (records.Sealed r) = clock ≤ r.scn
IsLater clock _ = Unit {0}

-- a turn of a node never sets its clock back, and its record comes later
abbrev pub ClockRises : List Place → Facts → Happening → Type 0
ClockRises places f (happenings.Turn u) = (k : NodeState) → node_at f u.node ≡ Some k → (k.clock ≤ (turn_of (place_at places u.node) k u.input).after.clock) × IfSome u.wrote (IsLater k.clock)
ClockRises places f _ = Unit {0}

-- in every lawful run clocks rise
abbrev pub ClocksRise : Type 0
ClocksRise = (t : History) → IsLawfulRun t → AtEachFact ClockRises t

-- the clock of a node is not below any SCN that its records name, except those that users gave
abbrev pub ClocksCover : Type 0
ClocksCover = OfEachNode (λ p rs k. k.stored.scn ≤ k.clock)

-- ---- the locks

-- whether a branch is live at a node, or in doubt
abbrev pub may_hold : NodeState → BranchId → Bool
may_hold k b = list_any (is_item_of live_id b) k.lives || list_any (is_item_of doubt_id b) k.stored.doubts

-- each lock is held by such a branch
abbrev pub HoldersAreThere : Type 0
HoldersAreThere = OfEachNode (λ p rs k. AllByRecursion (λ l. may_hold k l.branch ≡ true) k.locks)

-- ---- the records

-- what a node stores is what its records make of nothing, apart from the Acks that it heard
abbrev pub RecordsAreKept : Type 0
RecordsAreKept = OfEachNode (λ p rs k. unacked k.stored ≡ stored_by nothing_stored rs)

-- how many of these are of a branch
abbrev pub count_of : {A : Type 0} → (A → BranchId) → BranchId → List A → ℕ
count_of id b [] = 0
count_of id b (x ∷ xs) = if is_item_of id b x then 1 + count_of id b xs else count_of id b xs

-- a branch has one row at a node or is live there once, and not both
abbrev pub IdsAreFresh : Type 0
IdsAreFresh = OfEachNode (λ p rs k. (b : BranchId) → count_of kept_row_id b k.stored.durable.kept + count_of live_id b k.lives ≤ 1)

-- ---- commits

-- a row knows the commit of its branch at this SCN
abbrev pub KnowsAt : List KeptRow → BranchId → ℕ → Type 0
KnowsAt [] b n = ⊥
KnowsAt (s ∷ ss) b n = ((s.me ≡ b) × (s.decision ≡ Some (decisions.Commit n))) ⊎ KnowsAt ss b n

-- the record of this turn says it
abbrev pub CommitsNow : Option RedoRecord → BranchId → ℕ → Type 0
CommitsNow None b n = ⊥
CommitsNow (Some r) b n = Commits b n r

-- Committed is told by a branch that knew the commit, or that knows it by the record of this turn
abbrev pub MayTell : List KeptRow → Option RedoRecord → BranchId → Kind → Type 0
MayTell rows w b (kinds.Committed n) = CommitsNow w b n ⊎ KnowsAt rows b n
MayTell rows w b _ = Unit {0}

-- each message of a turn may be told
abbrev pub TellsItsOwn : List Place → Facts → Happening → Type 0
TellsItsOwn places f (happenings.Turn u) = (k : NodeState) → node_at f u.node ≡ Some k → AllByRecursion (λ m. MayTell k.stored.durable.kept (turn_of (place_at places u.node) k u.input).wrote m.from m.kind) u.sent
TellsItsOwn places f _ = Unit {0}

-- in every lawful run Committed is told by branches that know the commit
abbrev pub CommitsAreKnown : Type 0
CommitsAreKnown = (t : History) → IsLawfulRun t → AtEachFact TellsItsOwn t

-- Committed is told where a record of its node says so
abbrev pub TellsRecorded : List RedoRecord → BranchId → Kind → Type 0
TellsRecorded rs b (kinds.Committed n) = CommitIsRecorded rs b n
TellsRecorded rs b _ = Unit {0}

-- each Committed of a turn is told where a record of the node says so
abbrev pub TellsRecords : List Place → Facts → Happening → Type 0
TellsRecords places f (happenings.Turn u) = AllByRecursion (λ m. TellsRecorded (records_at f u.node ++ option_to_list u.wrote) m.from m.kind) u.sent
TellsRecords places f _ = Unit {0}

-- in every lawful run Committed is told where a record says so
abbrev pub CommitsAreRecorded : Type 0
CommitsAreRecorded = (t : History) → IsLawfulRun t → AtEachFact TellsRecords t
