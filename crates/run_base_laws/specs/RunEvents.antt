-- The events of a run: what its records and messages say for ever, and the live branches that are no more. What each turn
-- has to show so that they are lawful.
use Rattle.std.specs.Prelude.{◌≡◌, ℕ, ◌&&◌, not, Bool, true, List, [], ◌∷◌, map, is_none, Option, Some, None, if◌then◌else◌}
use Rattle.std.specs.List.{list_any}
use Rattle.node_rules.specs.Data.{BranchId, RedoRecord, Kind, Msg, Place}
use Rattle.node_rules.specs.Data.records
use Rattle.node_rules.specs.Data.kinds
use Rattle.run_rules.specs.Data.{Turn, Happening, Command}
use Rattle.run_rules.specs.Data.happenings
use Rattle.node_rules.specs.NodeState.{NodeState, live_id}
use Rattle.run_rules.specs.Facts.{Facts, first_facts, node_at, facts_after}
use Rattle.run_rules.specs.Branches.{is_among}
use Rattle.run_rules.specs.Trail.{is_quiet}
use Rattle.run_rules.specs.Lawful.{History}
use Rattle.agreement.specs.Events.{Forest, Allowed, Event, Make, Seal, Decide, Answer_read_only, Drop, Force, Learn, Forget, Send_vote, Send_commit, Send_rollback, Send_ack, Send_forgotten, exit}

-- with one more event, where there is one
abbrev pub with_event : Option Event → List Event → List Event
with_event None t = t
with_event (Some s) t = s ∷ t

-- the event that a record is
abbrev pub record_event : ℕ → RedoRecord → Option Event
record_event n (records.Table table) = Some (Make n table)
record_event n (records.Sealed r) = Some (Seal r.me r.root r.scn r.changes)
record_event n (records.Decided r) = Some (Decide r.me r.root r.scn r.changes)
record_event n (records.Ended b d) = Some (Learn b d None)
record_event n (records.Forced b d given) = Some (Force b d)
record_event n (records.Met b d mixed) = Some (Learn b d (Some mixed))
record_event n (records.Forgot b) = Some (Forget b)
record_event n _ = None

-- the event of what a node wrote in a turn
abbrev pub wrote_event : ℕ → Option RedoRecord → Option Event
wrote_event n None = None
wrote_event n (Some r) = record_event n r

-- the event that a message is: votes of children and of the parent are one
abbrev pub message_event : BranchId → BranchId → ℕ → Kind → Option Event
message_event from to scn kinds.Prepared = Some (Send_vote from scn)
message_event from to scn kinds.CommitPoint = Some (Send_vote from scn)
message_event from to scn (kinds.Committed n) = Some (Send_commit from to n)
message_event from to scn kinds.Rollback = Some (Send_rollback from to)
message_event from to scn kinds.RolledBack = Some (Send_rollback from to)
message_event from to scn kinds.Ack = Some (Send_ack from to)
message_event from to scn kinds.Forgotten = Some (Send_forgotten from to)
message_event from to scn _ = None

-- with the events of these messages
abbrev pub with_messages : List Msg → List Event → List Event
with_messages [] t = t
with_messages (m ∷ ms) t = with_messages ms (with_event (message_event m.from m.to m.scn m.kind) t)

-- the live branches of a node
abbrev pub lives_at : Option NodeState → List BranchId
lives_at None = []
lives_at (Some k) = map live_id k.lives

-- how a branch stops being live without a record: it answers that nothing was changed on it or beyond, or it is dropped
abbrev pub leave_event : List Msg → BranchId → Event
leave_event sent b = if list_any (is_quiet b) sent then Answer_read_only b else Drop b

-- whether a branch that was live is not, and no record ended it
abbrev pub has_left : List BranchId → List Event → BranchId → Bool
has_left after t b = not (is_among b after) && is_none (exit t b)

-- with the exit of a branch, if it has left
abbrev pub with_leaver : List BranchId → List Msg → BranchId → List Event → List Event
with_leaver after sent b t = if has_left after t b then leave_event sent b ∷ t else t

-- with the exits of those that have left
abbrev pub with_leavers : List BranchId → List Msg → List BranchId → List Event → List Event
with_leavers after sent [] t = t
with_leavers after sent (b ∷ bs) t = with_leavers after sent bs (with_leaver after sent b t)

-- with the record of a turn
abbrev pub with_record : Turn → List Event → List Event
with_record u t = with_event (wrote_event u.node u.wrote) t

-- and with those that are live no more
abbrev pub with_exits : Facts → Facts → Turn → List Event → List Event
with_exits before after u t = with_leavers (lives_at (node_at after u.node)) u.sent (lives_at (node_at before u.node)) (with_record u t)

-- with the events of a happening: a turn's record, who is live no more, its messages
abbrev pub with_happening : Facts → Facts → Happening → List Event → List Event
with_happening before after (happenings.Turn u) t = with_messages u.sent (with_exits before after u t)
with_happening before after (happenings.Stopped n) t = with_leavers [] [] (lives_at (node_at before n)) t
with_happening before after _ t = t

-- one happening more
abbrev pub events_after : List Place → List Command → Facts → Happening → List Event → List Event
events_after places asked f h t = with_happening f (facts_after places asked f h) h t

-- the events of these happenings, after those before them
unfoldable pub events_from : List Place → List Command → Facts → List Happening → List Event → List Event
events_from places asked f [] t = t
events_from places asked f (h ∷ hs) t = events_from places asked (facts_after places asked f h) hs (events_after places asked f h t)

-- the events of a run
abbrev pub events_of : History → List Event
events_of r = events_from r.places r.commands (first_facts r.places) r.trace []

-- an event was allowed, where there is one
abbrev pub IsAllowed : Forest → List Event → Option Event → Type 0
IsAllowed p t None = Unit {0}
IsAllowed p t (Some s) = Allowed p t s

-- each of these messages may be sent by what stands
abbrev pub MaySend : Forest → List Event → List Msg → Type 0
MaySend p t [] = Unit {0}
MaySend p t (m ∷ ms) = IsAllowed p t (message_event m.from m.to m.scn m.kind) × MaySend p t ms

-- a branch that answers that nothing was changed on it or beyond may do so
abbrev pub MayLeave : Forest → List BranchId → List Msg → List BranchId → List Event → Type 0
MayLeave p after sent [] t = Unit {0}
MayLeave p after sent (b ∷ bs) t =
    (has_left after t b ≡ true → list_any (is_quiet b) sent ≡ true → Allowed p t (Answer_read_only b)) × MayLeave p after sent bs (with_leaver after sent b t)

-- What is left to be shown of a turn: its record was allowed, and each message by what stands after it.
pub record IsJust (p : Forest) (before after : Facts) (u : Turn) (t : List Event) : Type 0 where
  pub wrote : IsAllowed p t (wrote_event u.node u.wrote)
  pub left : MayLeave p (lives_at (node_at after u.node)) u.sent (lives_at (node_at before u.node)) (with_record u t)
  pub sent : MaySend p (with_exits before after u t) u.sent

-- a turn is just
abbrev pub HappensJustly : Forest → Facts → Facts → Happening → List Event → Type 0
HappensJustly p before after (happenings.Turn u) t = IsJust p before after u t
HappensJustly p before after _ t = Unit {0}

-- each turn of a trace is just
unfoldable pub AreJust : Forest → List Place → List Command → Facts → List Happening → List Event → Type 0
AreJust p places asked f [] t = Unit {0}
AreJust p places asked f (h ∷ hs) t = HappensJustly p f (facts_after places asked f h) h t × AreJust p places asked (facts_after places asked f h) hs (events_after places asked f h t)
