-- The messages of a run, and those that a picture shows.
use Rattle.std.specs.Prelude.{ℕ, List, [], flat_map, map, ◌≡◌}
use Rattle.wire_msg.specs.declared.kind.KindName.{KindName}
use Rattle.wire_msg.specs.Names.{name_of_kind}
use Rattle.chart_marks.specs.Data.{Msg, Happening, Told, Arrow}
use Rattle.chart_marks.specs.Data.happenings
use Rattle.chart_marks.specs.Marks.{arrows_of}

-- the messages that a happening sends
abbrev pub messages_of : Happening → List Msg
messages_of (happenings.Turn t) = t.sent
messages_of _ = []

-- all messages, in the order of sending
abbrev pub messages_in : List Happening → List Msg
messages_in hs = flat_map messages_of hs

-- the kind of a message and its two nodes
abbrev pub route_of : Msg → KindName × ℕ × ℕ
route_of m = (name_of_kind m.kind, m.from.node, m.to.node)

-- the same, as a picture shows it
abbrev pub drawn_route : Arrow → KindName × ℕ × ℕ
drawn_route a = (a.kind, a.from, a.to)

-- each message has its arrow, in its place and between its lanes, and no arrow is without a message
abbrev pub EachMessageHasItsArrow : Type 0
EachMessageHasItsArrow = (tale : List Told) (hs : List Happening) → map drawn_route (arrows_of tale hs) ≡ map route_of (messages_in hs)
