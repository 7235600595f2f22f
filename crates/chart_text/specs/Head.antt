-- What stands above the rows: the title, what signs and lines mean, the names of the nodes.
use Rattle.std.specs.Prelude.{ℕ, ◌+◌, List, [], ◌∷◌, ◌++◌, take, codes}
use Rattle.chart_text.specs.Data.{NoteKind, Marks, LineKind, Shape}
use Rattle.chart_text.specs.Data.note_kinds
use Rattle.chart_text.specs.Data.lines
use Rattle.chart_text.specs.Data.bars
use Rattle.chart_text.specs.Data.texts
use Rattle.chart_text.specs.Data.shapes
use Rattle.chart_text.specs.Words.{window_text}
use Rattle.chart_text.specs.Places.{spot, x_of}
use Rattle.chart_text.specs.declared.window.Window.{Window}

-- words at a point
abbrev pub meaning : ℕ → ℕ → List ℕ → Shape
meaning x y words = shapes.Text (spot x (y + 4)) texts.Meaning words

-- a sign and what it means
unfoldable pub sign_meaning : ℕ → ℕ → NoteKind → List ℕ → List Shape
sign_meaning x y note_kind words = shapes.Sign (spot x y) note_kind ∷ meaning (x + 14) y words ∷ []

-- a line and what it means
unfoldable pub line_meaning : ℕ → ℕ → LineKind → List ℕ → List Shape
line_meaning x y kind words = shapes.Line (spot x y) (spot (x + 30) y) kind ∷ meaning (x + 42) y words ∷ []

-- the bar of a doubt
unfoldable pub doubt_meaning : List Shape
doubt_meaning = shapes.Bar (spot 430 35) 14 14 bars.Doubt ∷ meaning 450 42 (codes "a branch is in doubt") ∷ []

-- what the sign of a decision means
unfoldable pub decides_words : List ℕ
decides_words = codes "the commit point site decides to commit"

-- the commit point site decides
unfoldable pub decision_meaning : List Shape
decision_meaning = sign_meaning 16 42 (note_kinds.Decided 0) decides_words

-- a branch is prepared
unfoldable pub seal_meaning : List Shape
seal_meaning = sign_meaning 286 42 note_kinds.Prepared (codes "a branch is prepared")

-- how a branch in doubt ends
unfoldable pub end_meanings : List Shape
end_meanings =
    sign_meaning 596 42 (note_kinds.Committed 0) (codes "it learns the commit")
    ++ sign_meaning 746 42 note_kinds.RolledBack (codes "it is rolled back")
    ++ sign_meaning 886 42 (note_kinds.ForcedCommit 0) (codes "it is forced")

-- what nodes do, and what comes to them
unfoldable pub node_meanings : List Shape
node_meanings =
    sign_meaning 16 64 note_kinds.Stopped (codes "the node stops")
    ++ sign_meaning 136 64 (note_kinds.Started 0) (codes "it starts")
    ++ sign_meaning 656 64 (note_kinds.Call 0) (codes "call of a client")
    ++ sign_meaning 806 64 note_kinds.MetMixed (codes "decision differs: mixed")

-- what becomes of messages
unfoldable pub message_meanings : List Shape
message_meanings =
    line_meaning 226 64 lines.Delivered (codes "message")
    ++ line_meaning 336 64 lines.Lost (codes "lost")
    ++ line_meaning 426 64 lines.InFlight (codes "in flight")
    ++ line_meaning 546 64 lines.Repeat (codes "a copy")

-- the name of a node above its lane: as much of it as there is room for
abbrev pub name_above : ℕ → List ℕ → Shape
name_above node name = shapes.Text (spot (x_of node) 100) texts.Node (take 22 name)

-- the names of nodes, from this number on
abbrev pub names_from : ℕ → List (List ℕ) → List Shape
names_from node [] = []
names_from node (name ∷ names) = name_above node name ∷ names_from (node + 1) names

-- which commands are drawn
unfoldable pub title : Window → Shape
title w = shapes.Text (spot 8 22) texts.Title (window_text w)

-- what stands above the rows
abbrev pub head_shapes : Window → Marks → List Shape
head_shapes w m = title w ∷ decision_meaning ++ seal_meaning ++ doubt_meaning ++ end_meanings ++ node_meanings ++ message_meanings ++ names_from 1 m.lanes
