-- A picture as SVG 1.1: how each shape is spelled, and what stands before and after them.
use Rattle.std.specs.Prelude.{ℕ, ◌+◌, ◌==◌, ◌||◌, if◌then◌else◌, nat_lt, List, [], ◌∷◌, ◌++◌, flat_map, length, codes}
use Rattle.tran_ids.specs.Numbers.{decimal}
use Rattle.chart_text.specs.Data.{TextKind, Marks, Spot, Shape}
use Rattle.chart_text.specs.Data.shapes
use Rattle.chart_text.specs.Looks.{line_look, bar_look, sign_look, text_look, is_crossed}
use Rattle.chart_text.specs.Places.{width_of, height_of, edge_of}
use Rattle.chart_text.specs.Layout.{row_shapes}
use Rattle.chart_text.specs.Head.{head_shapes}
use Rattle.chart_text.specs.declared.window.Window.{Window}

-- a byte of a text: what has a meaning in SVG is escaped, and what is not printable ASCII is a question mark
abbrev pub escaped_byte : ℕ → List ℕ
escaped_byte b =
    if b == 38 then codes "&amp;"
    else (if b == 60 then codes "&lt;"
    else (if b == 62 then codes "&gt;"
    else (if nat_lt b 32 || nat_lt 126 b then codes "?" else b ∷ [])))

-- a text
abbrev pub escaped : List ℕ → List ℕ
escaped text = flat_map escaped_byte text

-- words, and then a number
abbrev pub valued : List ℕ → ℕ → List ℕ
valued words n = words ++ decimal n

-- a line from a point to a point
abbrev pub line_svg : Spot → Spot → List ℕ → List ℕ
line_svg from to look =
    valued (codes "<line x1=\"") from.x ++ valued (codes "\" y1=\"") from.y ++ valued (codes "\" x2=\"") to.x ++ valued (codes "\" y2=\"") to.y
    ++ codes "\" " ++ look ++ codes "/>\n"

-- a rectangle
abbrev pub rect_svg : Spot → ℕ → ℕ → List ℕ → List ℕ
rect_svg corner width height look =
    valued (codes "<rect x=\"") corner.x ++ valued (codes "\" y=\"") corner.y ++ valued (codes "\" width=\"") width ++ valued (codes "\" height=\"") height
    ++ codes "\" " ++ look ++ codes "/>\n"

-- what an outline begins with
unfoldable pub path_start : List ℕ
path_start = codes "<path transform=\"translate("

-- an outline round a point
abbrev pub path_svg : Spot → List ℕ → List ℕ
path_svg at look = valued path_start at.x ++ valued (codes ",") at.y ++ codes ")\" " ++ look ++ codes "/>\n"

-- a text at a point
unfoldable pub words_svg : Spot → List ℕ → List ℕ → List ℕ
words_svg at look text =
    valued (codes "<text x=\"") at.x ++ valued (codes "\" y=\"") at.y ++ codes "\" " ++ look ++ codes ">" ++ escaped text ++ codes "</text>\n"

-- a white border
unfoldable pub border : List ℕ
border = codes "stroke=\"#ffffff\" stroke-width=\"4\" "

-- the border of a text, behind it
abbrev pub border_svg : Spot → TextKind → List ℕ → List ℕ
border_svg at kind text =
    if is_crossed kind then words_svg at (border ++ text_look kind) text else []

-- a text, in front of its border
abbrev pub text_svg : Spot → TextKind → List ℕ → List ℕ
text_svg at kind text = border_svg at kind text ++ words_svg at (text_look kind) text

-- a line of a text of several lines
abbrev pub span_svg : ℕ → List ℕ → List ℕ
span_svg x line = valued (codes "<tspan x=\"") x ++ codes "\" dy=\"14\">" ++ escaped line ++ codes "</tspan>"

-- a text of several lines, below a point
abbrev pub lines_svg : Spot → List (List ℕ) → List ℕ
lines_svg at lines =
    valued (codes "<text x=\"") at.x ++ valued (codes "\" y=\"") at.y ++ codes "\">" ++ flat_map (span_svg at.x) lines ++ codes "</text>\n"

-- a shape
abbrev pub shape_svg : Shape → List ℕ
shape_svg (shapes.Line from to kind) = line_svg from to (line_look kind)
shape_svg (shapes.Bar corner width height kind) = rect_svg corner width height (bar_look kind)
shape_svg (shapes.Sign at note_kind) = path_svg at (sign_look note_kind)
shape_svg (shapes.Text at kind text) = text_svg at kind text
shape_svg (shapes.Lines at lines) = lines_svg at lines

-- a frame: its width, its height, and where its view begins
unfoldable pub frame_svg : ℕ → ℕ → ℕ → List ℕ
frame_svg width height top =
    valued (codes "width=\"") width ++ valued (codes "\" height=\"") height
    ++ valued (codes "\" viewBox=\"0 ") top ++ valued (codes " ") width ++ valued (codes " ") height ++ codes "\">\n"

-- the end of a message that was delivered: an arrow head
unfoldable pub head_marker : List ℕ
head_marker = codes "<marker id=\"head\" markerWidth=\"9\" markerHeight=\"8\" refX=\"8\" refY=\"4\" orient=\"auto\" markerUnits=\"userSpaceOnUse\"><path d=\"M0 0L8 4L0 8Z\" fill=\"#0072b2\"/></marker>\n"

-- of a lost one: a cross
unfoldable pub cross_marker : List ℕ
cross_marker = codes "<marker id=\"cross\" markerWidth=\"12\" markerHeight=\"12\" refX=\"6\" refY=\"6\" markerUnits=\"userSpaceOnUse\"><path d=\"M1 1L11 11M1 11L11 1\" stroke=\"#d55e00\" stroke-width=\"2\"/></marker>\n"

-- of one in flight: an open circle
unfoldable pub open_marker : List ℕ
open_marker = codes "<marker id=\"open\" markerWidth=\"10\" markerHeight=\"10\" refX=\"5\" refY=\"5\" markerUnits=\"userSpaceOnUse\"><path d=\"M1 5A4 4 0 1 0 9 5A4 4 0 1 0 1 5Z\" fill=\"#ffffff\" stroke=\"#0072b2\"/></marker>\n"

-- the ends of lines
unfoldable pub markers : List ℕ
markers = codes "<defs>\n" ++ head_marker ++ cross_marker ++ open_marker ++ codes "</defs>\n"

-- what each picture begins with
unfoldable pub svg_start : List ℕ
svg_start = codes "<?xml version=\"1.0\" encoding=\"US-ASCII\"?>\n<svg xmlns=\"http://www.w3.org/2000/svg\" version=\"1.1\" font-family=\"monospace\" font-size=\"10\" "

-- white paper
unfoldable pub white : List ℕ
white = codes "<rect width=\"100%\" height=\"100%\" fill=\"#ffffff\"/>\n"

-- what a picture of this width and height begins with
unfoldable pub paper_svg : ℕ → ℕ → List ℕ
paper_svg width height = svg_start ++ frame_svg width height 0 ++ markers ++ white

-- what a frame begins with that stands below the head
unfoldable pub rows_start : List ℕ
rows_start = codes "<svg y=\"110\" "

-- a frame of this width and height, with a view of these shapes from here on
unfoldable pub rows_svg : ℕ → ℕ → ℕ → List Shape → List ℕ
rows_svg width height top shapes = rows_start ++ frame_svg width height top ++ flat_map shape_svg shapes ++ codes "</svg>\n"

-- a picture: the paper, what stands above the rows, and the rows
unfoldable pub svg_of : Window → Marks → List ℕ
svg_of w m =
    paper_svg (width_of (length m.lanes)) (120 + height_of w)
    ++ flat_map shape_svg (head_shapes w m)
    ++ rows_svg (width_of (length m.lanes)) (height_of w) (edge_of w.top) (row_shapes w m)
    ++ codes "</svg>\n"
