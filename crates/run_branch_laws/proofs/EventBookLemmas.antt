-- The book of the events of a trace is the book of the trace.
use Rattle.std.proofs.Common.{◌≡◌, ℕ, Bool, true, false, List, [], ◌∷◌, ◌++◌, Option, Some, None, if◌then◌else◌, refl, sym, ap, ◌∙◌, append-nil, append_assoc}
use Rattle.std.specs.List.{list_any}
use Rattle.node_rules.specs.Data.{BranchId, RedoRecord, Kind, Msg, Place}
use Rattle.node_rules.specs.Data.records
use Rattle.node_rules.specs.Data.kinds
use Rattle.run_rules.specs.Data.{Happening, Command}
use Rattle.run_rules.specs.Data.happenings
use Rattle.run_rules.specs.Trail.{is_quiet}
use Rattle.run_rules.specs.Facts.{Facts, first_facts, node_at, facts_after}
use Rattle.run_rules.specs.Entries.{entry_of, entries_of, entries_in}
use Rattle.run_rules.specs.Entries.{book_of as trace_book}
use Rattle.agreement.specs.Events.{Event, Answer_read_only, Drop}
use Rattle.agreement.specs.BookOf.{entry_by, with_entry, book_of}
use Rattle.run_base_laws.specs.RunEvents.{with_event, record_event, wrote_event, message_event, with_messages, lives_at, has_left, with_leavers, with_happening, events_after, events_from}
use Rattle.run_base_laws.specs.EventLaws.{BookOfEvents}

abbrev quiet : Option Event → Type 0
quiet None = Unit {0}
quiet (Some s) = entry_by s ≡ None

quiet_adds : (o : Option Event) (t : List Event) → quiet o → book_of (with_event o t) ≡ book_of t
quiet_adds None t q = refl
quiet_adds (Some s) t q = ap (with_entry (book_of t)) q

message_quiet : (from to : BranchId) (scn : ℕ) (k : Kind) → quiet (message_event from to scn k)
message_quiet from to scn kinds.Prepared = refl
message_quiet from to scn kinds.CommitPoint = refl
message_quiet from to scn (kinds.Committed n) = refl
message_quiet from to scn kinds.Rollback = refl
message_quiet from to scn kinds.RolledBack = refl
message_quiet from to scn kinds.Ack = refl
message_quiet from to scn kinds.Forgotten = refl
message_quiet from to scn _ = tt

messages_add : (ms : List Msg) (t : List Event) → book_of (with_messages ms t) ≡ book_of t
messages_add [] t = refl
messages_add (m ∷ ms) t = messages_add ms (with_event (message_event m.from m.to m.scn m.kind) t) ∙ quiet_adds (message_event m.from m.to m.scn m.kind) t (message_quiet m.from m.to m.scn m.kind)

left_adds : (left quiet : Bool) (b : BranchId) (t : List Event) → book_of (if left then (if quiet then Answer_read_only b else Drop b) ∷ t else t) ≡ book_of t
left_adds true true b t = refl
left_adds true false b t = refl
left_adds false quiet b t = refl

leavers_add : (after : List BranchId) (sent : List Msg) (bs : List BranchId) (t : List Event) → book_of (with_leavers after sent bs t) ≡ book_of t
leavers_add after sent [] t = refl
leavers_add after sent (b ∷ bs) t = leavers_add after sent bs _ ∙ left_adds (has_left after t b) (list_any (is_quiet b) sent) b t

record_adds : (n : ℕ) (r : RedoRecord) (t : List Event) → book_of (with_event (record_event n r) t) ≡ book_of t ++ entry_of n r
record_adds n (records.Table table) t = refl
record_adds n (records.Sealed r) t = refl
record_adds n (records.Decided r) t = refl
record_adds n (records.Ended b d) t = refl
record_adds n (records.Forced b d given) t = refl
record_adds n (records.Met b d mixed) t = refl
record_adds n (records.Forgot b) t = sym (append-nil (book_of t))
record_adds n _ t = sym (append-nil (book_of t))

wrote_adds : (n : ℕ) (r : Option RedoRecord) (t : List Event) → book_of (with_event (wrote_event n r) t) ≡ book_of t ++ entries_of n r
wrote_adds n None t = sym (append-nil (book_of t))
wrote_adds n (Some r) t = record_adds n r t ∙ ap (λ es. book_of t ++ es) (sym (append-nil (entry_of n r)))

happening_adds : (f g : Facts) (h : Happening) (t : List Event) → book_of (with_happening f g h t) ≡ book_of t ++ entries_in h
happening_adds f g (happenings.Turn u) t =
    messages_add u.sent _ ∙ (leavers_add (lives_at (node_at g u.node)) u.sent (lives_at (node_at f u.node)) _ ∙ wrote_adds u.node u.wrote t)
happening_adds f g (happenings.Stopped n) t = leavers_add [] [] (lives_at (node_at f n)) t ∙ sym (append-nil (book_of t))
happening_adds f g _ t = sym (append-nil (book_of t))

from_adds : (places : List Place) (asked : List Command) (f : Facts) (hs : List Happening) (t : List Event) → book_of (events_from places asked f hs t) ≡ book_of t ++ trace_book hs
unfolding events_from
from_adds places asked f [] t = sym (append-nil (book_of t))
from_adds places asked f (h ∷ hs) t =
    from_adds places asked (facts_after places asked f h) hs (events_after places asked f h t) ∙ ap (λ es. es ++ trace_book hs) (happening_adds f (facts_after places asked f h) h t)
    ∙ append_assoc (book_of t) (entries_in h) (trace_book hs)

pub book_of_events : BookOfEvents
book_of_events r = from_adds r.places r.commands (first_facts r.places) r.trace []
