-- The shapes of a run: what stands for each of its marks, where the mark reaches the rows that are drawn.
use Rattle.std.specs.Prelude.{ℕ, Bool, ◌+◌, ◌-◌, ◌*◌, if◌then◌else◌, min, List, [], ◌∷◌, ◌++◌, flat_map, length, codes}
use Rattle.tran_ids.specs.Numbers.{decimal}
use Rattle.chart_text.specs.Data.{Band, End, Arrow, Repeat, Right, Note, Doubt, Outage, Parting, Marks, Spot, LineKind, BarKind, Shape}
use Rattle.chart_text.specs.Data.ends
use Rattle.chart_text.specs.Data.lines
use Rattle.chart_text.specs.Data.bars
use Rattle.chart_text.specs.Data.texts
use Rattle.chart_text.specs.Data.shapes
use Rattle.chart_text.specs.Words.{message_text, note_kind_text, parting_text}
use Rattle.chart_text.specs.Window.{is_in, reaches, till_of, end_row, shows_arrow}
use Rattle.chart_text.specs.Places.{spot, x_of, edge_of, y_of, answers_x, width_of, side_toward, beside, gap_of}
use Rattle.chart_text.specs.declared.window.Window.{Window}

-- the lane of a node
abbrev pub lane : Window → ℕ → Shape
lane w node = shapes.Line (spot (x_of node) (edge_of w.top)) (spot (x_of node) (edge_of w.bottom)) lines.Lane

-- the lanes of these names, from this number on
abbrev pub lanes_from : Window → ℕ → List (List ℕ) → List Shape
lanes_from w node [] = []
lanes_from w node (name ∷ names) = lane w node ∷ lanes_from w (node + 1) names

-- a line in a row, from lane to lane
abbrev pub level : ℕ → ℕ → ℕ → LineKind → Shape
level row from to kind = shapes.Line (spot (x_of from) (y_of row)) (spot (x_of to) (y_of row)) kind

-- a stretch of a node's lane, from a row to a row
abbrev pub stretch : ℕ → ℕ → ℕ → BarKind → Shape
stretch node from till kind = shapes.Bar (spot (x_of node - 7) (y_of from)) 14 (20 * (till - from)) kind

-- a branch in doubt
abbrev pub doubt_bar : Window → Doubt → List Shape
doubt_bar w d = if reaches w d.from (till_of w d.till) then stretch d.branch.node d.from (till_of w d.till) bars.Doubt ∷ [] else []

-- a node that is down
abbrev pub outage_bar : Window → Outage → List Shape
outage_bar w o = if reaches w o.from (till_of w o.till) then stretch o.node o.from (till_of w o.till) bars.Outage ∷ [] else []

-- what became of a message
abbrev pub kind_of : End → LineKind
kind_of (ends.InFlight row) = lines.InFlight
kind_of (ends.Delivered row) = lines.Delivered
kind_of (ends.Lost row) = lines.Lost

-- a message, from its sender's lane, in the row in which it was sent, to its receiver's lane, or not quite to it
abbrev pub arrow : Arrow → Shape
arrow a =
    shapes.Line (spot (x_of a.from) (y_of a.sent)) (spot (beside a.to (side_toward a.to a.from) (gap_of a.end)) (y_of (end_row a.end))) (kind_of a.end)

-- the same, where it reaches the rows that are drawn
abbrev pub arrow_line : Window → Arrow → List Shape
arrow_line w a = if shows_arrow w a then arrow a ∷ [] else []

-- the number and the kind of a message, at its end
abbrev pub arrow_label : Window → Arrow → List Shape
arrow_label w a =
    if is_in w (end_row a.end)
    then shapes.Text (spot (beside a.to (side_toward a.to a.from) (gap_of a.end + 12)) (y_of (end_row a.end) + 3)) (texts.Message (side_toward a.to a.from)) (message_text a.number a.kind) ∷ []
    else []

-- a copy of a message, in the row in which it was delivered
abbrev pub repeat_line : Window → Repeat → List Shape
repeat_line w r = if is_in w r.row then level r.row r.from r.to lines.Repeat ∷ [] else []

-- its label
abbrev pub repeat_label : Window → Repeat → List Shape
repeat_label w r =
    if is_in w r.row
    then shapes.Text (spot (beside r.to (side_toward r.to r.from) 12) (y_of r.row - 2)) (texts.Message (side_toward r.to r.from)) (message_text r.number r.kind ++ codes " again") ∷ []
    else []

-- whether nodes are joined or cut
abbrev pub kind_of_parting : Bool → LineKind
kind_of_parting joined = if joined then lines.Joined else lines.Cut

-- a pair that is cut or joined
abbrev pub parting_line : Window → Parting → List Shape
parting_line w p = if is_in w p.row then level p.row p.a p.b (kind_of_parting p.joined) ∷ [] else []

-- its label
abbrev pub parting_label : Window → List (List ℕ) → Parting → List Shape
parting_label w names p =
    if is_in w p.row then shapes.Text (spot (x_of (min p.a p.b) + 12) (y_of p.row - 4)) (texts.Message Right) (parting_text names p) ∷ [] else []

-- the sign of what a node did or met, on its lane
abbrev pub note_sign : Window → Note → List Shape
note_sign w n = if is_in w n.row then shapes.Sign (spot (x_of n.node) (y_of n.row)) n.note_kind ∷ [] else []

-- the same in words, beside the lane
abbrev pub note_label : Window → Note → List Shape
note_label w n =
    if is_in w n.row then shapes.Text (spot (beside n.node n.side 13) (y_of n.row + 1)) (texts.NoteKind n.side) (note_kind_text n.note_kind) ∷ [] else []

-- the line above a command
abbrev pub band_line : Window → ℕ → Band → List Shape
band_line w lanes b =
    if is_in w b.row then shapes.Line (spot 0 (edge_of b.row)) (spot (width_of lanes) (edge_of b.row)) lines.Command ∷ [] else []

-- the number of a command
abbrev pub number_at : Spot → ℕ → Shape
number_at at command = shapes.Text at texts.Number (decimal command)

-- lines below a point
abbrev pub lines_at : Spot → List (List ℕ) → Shape
lines_at at lines = shapes.Lines at lines

-- a command, with its number and its answers
abbrev pub band_texts : Window → ℕ → Band → List Shape
band_texts w lanes b =
    if is_in w b.row
    then number_at (spot 8 (edge_of b.row + 14)) b.command
    ∷ lines_at (spot 44 (edge_of b.row)) b.text ∷ lines_at (spot (answers_x lanes) (edge_of b.row)) b.answer ∷ []
    else []

-- the lines, bars and signs of the rows that are drawn, those behind first
abbrev pub drawn_lines : Window → Marks → List Shape
drawn_lines w m =
    flat_map (band_line w (length m.lanes)) m.bands ++ lanes_from w 1 m.lanes
    ++ flat_map (doubt_bar w) m.doubts ++ flat_map (outage_bar w) m.outages
    ++ flat_map (arrow_line w) m.arrows ++ flat_map (repeat_line w) m.repeats
    ++ flat_map (parting_line w) m.partings ++ flat_map (note_sign w) m.notes

-- the texts of these rows
abbrev pub drawn_texts : Window → Marks → List Shape
drawn_texts w m =
    flat_map (arrow_label w) m.arrows ++ flat_map (repeat_label w) m.repeats ++ flat_map (parting_label w m.lanes) m.partings
    ++ flat_map (note_label w) m.notes ++ flat_map (band_texts w (length m.lanes)) m.bands

-- the shapes of these rows
abbrev pub row_shapes : Window → Marks → List Shape
row_shapes w m = drawn_lines w m ++ drawn_texts w m
