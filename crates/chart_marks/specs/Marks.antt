-- What a picture of a run shows. Each definition ending in `after` says what one more happening, in this row, adds.
use Rattle.std.specs.Prelude.{ℕ, ◌+◌, ◌&&◌, ◌==◌, Bool, true, false, if◌then◌else◌, nat_lt, List, [], ◌∷◌, ◌++◌, map, filter, length, is_none, Option, Some, None}
use Rattle.tran_ids.specs.Branch.{same}
use Rattle.tran_ids.specs.Listed.{numbered, set_numbered}
use Rattle.wire_msg.specs.Names.{name_of_kind}
use Rattle.chart_marks.specs.Data.{BranchId, Decision, RedoRecord, Msg, Input, Took, Turn, Happening, Told, Band, End, Arrow, Repeat, NoteKind, Side, Left, Right, Note, Doubt, Outage, Parting, Marks}
use Rattle.chart_marks.specs.Data.decisions
use Rattle.chart_marks.specs.Data.records
use Rattle.chart_marks.specs.Data.inputs
use Rattle.chart_marks.specs.Data.happenings
use Rattle.chart_marks.specs.Data.ends
use Rattle.chart_marks.specs.Data.note_kinds
use Rattle.chart_marks.specs.Rows.{start, along, rows_of}

-- the band of a command, with what was told of it
abbrev pub band_of : ℕ → ℕ → Option Told → Band
band_of row command None = record { command = command; row = row; text = []; answer = [] }
band_of row command (Some t) = record { command = command; row = row; text = t.text; answer = t.answer }

-- a command that begins has its band
abbrev pub bands_after : List Told → List Band → ℕ → Happening → List Band
bands_after tale bs row (happenings.Begun command) = bs ++ band_of row command (numbered tale command) ∷ []
bands_after tale bs row _ = bs

-- a message that is sent, as the next after these
abbrev pub sent_arrow : List Arrow → ℕ → Msg → Arrow
sent_arrow xs row m = record { number = length xs + 1; kind = name_of_kind m.kind; from = m.from.node; to = m.to.node; sent = row; end = ends.InFlight row }

-- each message that a turn sends has its arrow
abbrev pub with_sent : List Arrow → ℕ → List Msg → List Arrow
with_sent xs row [] = xs
with_sent xs row (m ∷ ms) = with_sent (xs ++ sent_arrow xs row m ∷ []) row ms

-- an arrow with its end
abbrev pub with_end : End → Arrow → Arrow
with_end e a = record a { end = e }

-- the message of this number ends so, where it was sent
abbrev pub ended_at : List Arrow → ℕ → End → Option Arrow → List Arrow
ended_at xs k e None = xs
ended_at xs k e (Some a) = set_numbered xs k (with_end e a)

-- the message of this number ends so
abbrev pub ended : List Arrow → ℕ → End → List Arrow
ended xs k e = ended_at xs k e (numbered xs k)

-- a message that is delivered ends, and a copy of it changes nothing
abbrev pub with_taken : List Arrow → ℕ → Option Took → List Arrow
with_taken xs row None = xs
with_taken xs row (Some t) = if t.again then xs else ended xs t.number (ends.Delivered row)

-- the messages: a turn takes one and sends some, and some are lost
abbrev pub arrows_after : List Arrow → ℕ → Happening → List Arrow
arrows_after xs row (happenings.Turn t) = with_sent (with_taken xs row t.took) row t.sent
arrows_after xs row (happenings.Lost k) = ended xs k (ends.Lost row)
arrows_after xs row _ = xs

-- whether a message with this end is still in flight
abbrev pub is_flying : End → Bool
is_flying (ends.InFlight row) = true
is_flying _ = false

-- how many messages are still in flight
abbrev pub flying_in : List Arrow → ℕ
flying_in xs = length (filter (λ a. is_flying a.end) xs)

-- those in flight are shown below the others, each in a row of its own
abbrev pub shown_from : ℕ → List Arrow → List Arrow
shown_from row [] = []
shown_from row (a ∷ xs) = if is_flying a.end then with_end (ends.InFlight row) a ∷ shown_from (row + 1) xs else a ∷ shown_from row xs

-- the messages of a run
abbrev pub arrows_of : List Told → List Happening → List Arrow
arrows_of tale hs = shown_from (rows_of tale hs) (along arrows_after tale [] start hs)

-- so many rows, and one for each message in flight
abbrev pub rows_with_flights : ℕ → List Arrow → ℕ
rows_with_flights rows xs = rows + flying_in xs

-- a copy of a message
abbrev pub repeat_of : ℕ → ℕ → Msg → Repeat
repeat_of row number m = record { number = number; kind = name_of_kind m.kind; from = m.from.node; to = m.to.node; row = row }

-- what a turn takes as a copy
abbrev pub repeats_in : ℕ → Option Took → Input → List Repeat
repeats_in row (Some t) (inputs.Message m) = if t.again then repeat_of row t.number m ∷ [] else []
repeats_in row took input = []

-- the copies that were delivered
abbrev pub repeats_after : List Repeat → ℕ → Happening → List Repeat
repeats_after rs row (happenings.Turn t) = rs ++ repeats_in row t.took t.input
repeats_after rs row _ = rs

-- what comes to a node beside messages, which have their arrows
abbrev pub note_kind_of_input : Input → Option NoteKind
note_kind_of_input (inputs.Call session s) = Some (note_kinds.Call session)
note_kind_of_input (inputs.GiveUp session) = Some (note_kinds.GiveUp session)
note_kind_of_input (inputs.Message m) = None
note_kind_of_input inputs.Reco = Some note_kinds.Reco
note_kind_of_input inputs.Checkpoint = None

-- the decision reaches a prepared branch
abbrev pub note_kind_ended : Decision → NoteKind
note_kind_ended (decisions.Commit scn) = note_kinds.Committed scn
note_kind_ended decisions.Rollback = note_kinds.RolledBack

-- an administrator forces a prepared branch
abbrev pub note_kind_forced : Decision → NoteKind
note_kind_forced (decisions.Commit scn) = note_kinds.ForcedCommit scn
note_kind_forced decisions.Rollback = note_kinds.ForcedRollback

-- what a record says of a branch
abbrev pub note_kind_of : RedoRecord → Option NoteKind
note_kind_of (records.Sealed r) = Some note_kinds.Prepared
note_kind_of (records.Decided r) = Some (note_kinds.Decided r.scn)
note_kind_of (records.Ended me d) = Some (note_kind_ended d)
note_kind_of (records.Forced me d given) = Some (note_kind_forced d)
note_kind_of (records.Met me d mixed) = Some (if mixed then note_kinds.MetMixed else note_kinds.Met)
note_kind_of (records.Forgot me) = Some note_kinds.Forgotten
note_kind_of (records.Hidden me) = Some note_kinds.Purged
note_kind_of _ = None

-- the same, where a record was written
abbrev pub note_kind_written : Option RedoRecord → Option NoteKind
note_kind_written None = None
note_kind_written (Some r) = note_kind_of r

-- the side from which a message comes, and calls from the left
abbrev pub side_of : ℕ → Input → Side
side_of node (inputs.Message m) = if nat_lt node m.from.node then Right else Left
side_of node _ = Left

-- the other side
abbrev pub across : Side → Side
across Left = Right
across Right = Left

-- a note, where there is something to say
abbrev pub noted : ℕ → ℕ → Side → Option NoteKind → List Note
noted node row side None = []
noted node row side (Some d) = record { node = node; row = row; side = side; note_kind = d } ∷ []

-- what came in stands on the side from which it came, and what was written on the other
abbrev pub notes_after : List Note → ℕ → Happening → List Note
notes_after ns row (happenings.Turn t) =
    ns ++ noted t.node row (side_of t.node t.input) (note_kind_of_input t.input) ++ noted t.node row (across (side_of t.node t.input)) (note_kind_written t.wrote)
notes_after ns row (happenings.Stopped node) = ns ++ noted node row Right (Some note_kinds.Stopped)
notes_after ns row (happenings.Started node boot) = ns ++ noted node row Right (Some (note_kinds.Started boot))
notes_after ns row _ = ns

-- a doubt of this branch ends in this row, if it has not ended before
abbrev pub settled : BranchId → ℕ → Doubt → Doubt
settled me row d = if same d.branch me && is_none d.till then record d { till = Some row } else d

-- a branch is in doubt from when it is prepared to when it is told of the decision or forced
abbrev pub doubts_written : List Doubt → ℕ → RedoRecord → List Doubt
doubts_written ds row (records.Sealed r) = ds ++ record { branch = r.me; from = row; till = None } ∷ []
doubts_written ds row (records.Ended me d) = map (settled me row) ds
doubts_written ds row (records.Forced me d given) = map (settled me row) ds
doubts_written ds row _ = ds

-- the same, where a record was written
abbrev pub doubts_if : List Doubt → ℕ → Option RedoRecord → List Doubt
doubts_if ds row None = ds
doubts_if ds row (Some r) = doubts_written ds row r

-- the branches in doubt
abbrev pub doubts_after : List Doubt → ℕ → Happening → List Doubt
doubts_after ds row (happenings.Turn t) = doubts_if ds row t.wrote
doubts_after ds row _ = ds

-- an outage of this node ends in this row, if it has not ended before
abbrev pub restarted : ℕ → ℕ → Outage → Outage
restarted node row o = if (o.node == node) && is_none o.till then record o { till = Some row } else o

-- a node is down from its stop to its start
abbrev pub outages_after : List Outage → ℕ → Happening → List Outage
outages_after os row (happenings.Stopped node) = os ++ record { node = node; from = row; till = None } ∷ []
outages_after os row (happenings.Started node boot) = map (restarted node row) os
outages_after os row _ = os

-- the pairs that are cut or joined
abbrev pub partings_after : List Parting → ℕ → Happening → List Parting
partings_after ps row (happenings.Cut a b) = ps ++ record { a = a; b = b; row = row; joined = false } ∷ []
partings_after ps row (happenings.Join a b) = ps ++ record { a = a; b = b; row = row; joined = true } ∷ []
partings_after ps row _ = ps

-- the marks of a run over nodes of these names, where this was told of its commands
abbrev pub marks_of : List (List ℕ) → List Told → List Happening → Marks
marks_of names tale hs = record {
  lanes = names;
  bands = along (bands_after tale) tale [] start hs;
  arrows = arrows_of tale hs;
  repeats = along repeats_after tale [] start hs;
  notes = along notes_after tale [] start hs;
  doubts = along doubts_after tale [] start hs;
  outages = along outages_after tale [] start hs;
  partings = along partings_after tale [] start hs;
  rows = rows_with_flights (rows_of tale hs) (arrows_of tale hs);
}
