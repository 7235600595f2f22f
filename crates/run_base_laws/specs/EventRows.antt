-- How the rows of kept branches stand against the events of a run, and what records and messages need of the events before
-- them, where that hangs on no session tree.
use Rattle.std.specs.Prelude.{◌≡◌, ◌≢◌, ℕ, ◌≤◌, ◌⊎◌, true, List, Option, Some, None}
use Rattle.std.specs.List.{AllByRecursion, list_any}
use Rattle.redo_record.specs.Kept.{stands_at}
use Rattle.agreement.specs.Outcomes.{differ}
use Rattle.agreement.specs.Events.{Sealed, Event, Forget, Send_ack, exit, learned, forced, Has, Knows}
use Rattle.node_rules.specs.Data.{BranchId, Decision, State, KeptRow, RedoRecord, Kind, Msg}
use Rattle.node_rules.specs.Data.decisions
use Rattle.node_rules.specs.Data.states
use Rattle.node_rules.specs.Data.records
use Rattle.node_rules.specs.Data.kinds

-- what a branch knows of its decision
abbrev pub IsKnown : List Event → KeptRow → Option Decision → Type 0
IsKnown t s None = (exit t s.me ≡ Some (Sealed s.scn)) × (learned t s.me ≡ None)
IsKnown t s (Some (decisions.Commit n)) = Knows t s.me n
IsKnown t s (Some decisions.Rollback) = learned t s.me ≡ Some decisions.Rollback

-- what was forced on it
abbrev pub IsForcedAs : List Event → BranchId → State → Option Decision → Type 0
IsForcedAs t b states.Sealed d = (forced t b ≡ None) × (d ≡ None)
IsForcedAs t b states.Committed d = d ≢ None
IsForcedAs t b (states.ForcedCommit n) d = forced t b ≡ Some (decisions.Commit n)
IsForcedAs t b states.ForcedRollback d = forced t b ≡ Some decisions.Rollback

-- A row stands as the events say.
pub record RowIs (t : List Event) (s : KeptRow) : Type 0 where
  pub left : exit t s.me ≢ None
  pub known : IsKnown t s s.decision
  pub force : IsForcedAs t s.me s.state s.decision
  pub forgot : s.forgot ≡ true → Has (Forget s.me) t

-- all rows do
abbrev pub RowsAre : List Event → List KeptRow → Type 0
RowsAre t ks = AllByRecursion (RowIs t) ks

-- What a record's event needs of what stands, but for messages.
abbrev pub MayStand : List Event → RedoRecord → Type 0
MayStand t (records.Sealed r) = (exit t r.me ≡ None) × (learned t r.me ≡ None) × (forced t r.me ≡ None)
MayStand t (records.Decided r) = exit t r.me ≡ None
MayStand t (records.Ended b d) = ((m : ℕ) × (exit t b ≡ Some (Sealed m))) × (learned t b ≡ None) × (forced t b ≡ None)
MayStand t (records.Forced b d given) = ((m : ℕ) × (exit t b ≡ Some (Sealed m))) × (learned t b ≡ None) × (forced t b ≡ None)
MayStand t (records.Met b d mixed) = ((m : ℕ) × (exit t b ≡ Some (Sealed m))) × (learned t b ≡ None) × ((o : Decision) × (forced t b ≡ Some o) × (mixed ≡ differ o d))
MayStand t (records.Forgot b) = (n : ℕ) × Knows t b n
MayStand t _ = Unit {0}

-- What a message needs of what stands after its turn's record, where that hangs on no tree: a vote of a seal whose SCN its
-- clock has met, Committed of a commit that its sender knows, Forgotten of a sender that forgot, or as the answer to an Ack.
abbrev pub MaySayByEvents : List Event → BranchId → BranchId → ℕ → Kind → Type 0
MaySayByEvents t from to scn kinds.Prepared = (n : ℕ) × (exit t from ≡ Some (Sealed n)) × (n ≤ scn)
MaySayByEvents t from to scn kinds.CommitPoint = (n : ℕ) × (exit t from ≡ Some (Sealed n)) × (n ≤ scn)
MaySayByEvents t from to scn (kinds.Committed n) = Knows t from n
MaySayByEvents t from to scn kinds.Forgotten = Has (Forget from) t ⊎ Has (Send_ack to from) t
MaySayByEvents t from to scn _ = Unit {0}

-- each of these messages may be said
abbrev pub MaySayAll : List Event → List Msg → Type 0
MaySayAll t ms = AllByRecursion (λ m. MaySayByEvents t m.from m.to m.scn m.kind) ms

-- a branch has a row
abbrev pub IsKeptIn : BranchId → List KeptRow → Type 0
IsKeptIn b ks = list_any (stands_at b) ks ≡ true

-- it learned a rollback or forgot
abbrev pub IsGoneForGood : List Event → BranchId → Type 0
IsGoneForGood t b = (learned t b ≡ Some decisions.Rollback) ⊎ Has (Forget b) t
