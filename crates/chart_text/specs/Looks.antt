-- How shapes look: the attributes of SVG 1.1 for each kind. The colours are blue and orange, which the colour-blind tell
-- apart, and each kind has a form of its own.
use Rattle.std.specs.Prelude.{ℕ, Bool, true, false, List, codes}
use Rattle.chart_text.specs.Data.{NoteKind, Side, Left, Right, LineKind, BarKind, TextKind}
use Rattle.chart_text.specs.Data.note_kinds
use Rattle.chart_text.specs.Data.lines
use Rattle.chart_text.specs.Data.bars
use Rattle.chart_text.specs.Data.texts

-- a message that was delivered ends in an arrow head, a lost one in a cross, one in flight in an open circle
abbrev pub line_look : LineKind → List ℕ
line_look lines.Lane = codes "stroke=\"#000000\" stroke-width=\"1\""
line_look lines.Command = codes "stroke=\"#bbbbbb\""
line_look lines.Delivered = codes "stroke=\"#0072b2\" stroke-width=\"1.5\" marker-end=\"url(#head)\""
line_look lines.Lost = codes "stroke=\"#d55e00\" stroke-width=\"1.5\" marker-end=\"url(#cross)\""
line_look lines.InFlight = codes "stroke=\"#0072b2\" stroke-width=\"1.5\" marker-end=\"url(#open)\""
line_look lines.Repeat = codes "stroke=\"#0072b2\" stroke-width=\"1.5\" stroke-dasharray=\"5 3\" marker-end=\"url(#head)\""
line_look lines.Cut = codes "stroke=\"#d55e00\" stroke-width=\"2\" stroke-dasharray=\"3 5\""
line_look lines.Joined = codes "stroke=\"#555555\" stroke-width=\"2\""

-- a doubt is shaded, and a node that is down leaves a gap
abbrev pub bar_look : BarKind → List ℕ
bar_look bars.Doubt = codes "fill=\"#e69f00\" fill-opacity=\"0.6\""
bar_look bars.Outage = codes "fill=\"#ffffff\" stroke=\"#555555\" stroke-dasharray=\"2 3\""

-- the sign of what a node did or met
abbrev pub sign_look : NoteKind → List ℕ
sign_look (note_kinds.Call session) = codes "d=\"M-10 -4L-3 0L-10 4Z\" fill=\"#555555\""
sign_look (note_kinds.GiveUp session) = codes "d=\"M-10 -4L-3 0L-10 4Z\" fill=\"#ffffff\" stroke=\"#555555\""
sign_look note_kinds.Reco = codes "d=\"M-10 -4L-3 0L-10 4Z\" fill=\"#56b4e9\" stroke=\"#000000\""
sign_look note_kinds.Prepared = codes "d=\"M-5 -5H5V5H-5Z\" fill=\"#e69f00\" stroke=\"#000000\""
sign_look (note_kinds.Decided scn) = codes "d=\"M0 -9L9 0L0 9L-9 0Z\" fill=\"#0072b2\" stroke=\"#000000\""
sign_look (note_kinds.Committed scn) = codes "d=\"M-5 0A5 5 0 1 0 5 0A5 5 0 1 0 -5 0Z\" fill=\"#0072b2\" stroke=\"#000000\""
sign_look note_kinds.RolledBack = codes "d=\"M-5 0A5 5 0 1 0 5 0A5 5 0 1 0 -5 0Z\" fill=\"#ffffff\" stroke=\"#000000\""
sign_look (note_kinds.ForcedCommit scn) = codes "d=\"M0 -7L7 5L-7 5Z\" fill=\"#0072b2\" stroke=\"#000000\""
sign_look note_kinds.ForcedRollback = codes "d=\"M0 -7L7 5L-7 5Z\" fill=\"#ffffff\" stroke=\"#000000\""
sign_look note_kinds.Met = codes "d=\"M-5 -5H5V5H-5Z\" fill=\"#ffffff\" stroke=\"#000000\""
sign_look note_kinds.MetMixed = codes "d=\"M-6 -6L6 6M-6 6L6 -6\" stroke=\"#d55e00\" stroke-width=\"3\""
sign_look note_kinds.Forgotten = codes "d=\"M-3 0A3 3 0 1 0 3 0A3 3 0 1 0 -3 0Z\" fill=\"#555555\""
sign_look note_kinds.Purged = codes "d=\"M-3 0A3 3 0 1 0 3 0A3 3 0 1 0 -3 0Z\" fill=\"#ffffff\" stroke=\"#555555\""
sign_look note_kinds.Stopped = codes "d=\"M-10 0H10\" stroke=\"#000000\" stroke-width=\"4\""
sign_look (note_kinds.Started boot) = codes "d=\"M-7 -5H7L0 6Z\" fill=\"#000000\""

-- a text left of a lane ends at its point
abbrev pub anchor : Side → List ℕ
anchor Left = codes "text-anchor=\"end\""
anchor Right = codes "text-anchor=\"start\""

-- the same, in bold
abbrev pub bold_anchor : Side → List ℕ
bold_anchor Left = codes "text-anchor=\"end\" font-weight=\"bold\""
bold_anchor Right = codes "text-anchor=\"start\" font-weight=\"bold\""

-- how large a text is, and where its point is
abbrev pub text_look : TextKind → List ℕ
text_look texts.Title = codes "font-size=\"14\" font-weight=\"bold\""
text_look texts.Meaning = codes "text-anchor=\"start\""
text_look texts.Node = codes "text-anchor=\"middle\" font-weight=\"bold\" font-size=\"12\""
text_look texts.Number = codes "font-weight=\"bold\""
text_look (texts.Message side) = anchor side
text_look (texts.NoteKind side) = bold_anchor side

-- a text that lines may cross has a white border
abbrev pub is_crossed : TextKind → Bool
is_crossed (texts.Message side) = true
is_crossed (texts.NoteKind side) = true
is_crossed _ = false
