-- A picture as plain text: a line for each row in which something stands, with a column for each node and then what
-- stands in the row.
use Rattle.std.specs.Prelude.{ℕ, ◌+◌, ◌-◌, ◌==◌, ◌&&◌, Bool, if◌then◌else◌, nat_le, nat_lt, List, [], ◌∷◌, ◌++◌, flat_map, codes, zero, suc}
use Rattle.std.specs.List.{list_any}
use Rattle.tran_ids.specs.Numbers.{decimal}
use Rattle.tran_ids.specs.Texts.{name_of}
use Rattle.chart_text.specs.Data.{Band, End, Arrow, Repeat, Note, Doubt, Outage, Parting, Marks}
use Rattle.chart_text.specs.Data.ends
use Rattle.chart_text.specs.Words.{window_text, message_text, note_kind_text, parting_text}
use Rattle.chart_text.specs.Window.{till_of, end_row}
use Rattle.chart_text.specs.declared.window.Window.{Window}

-- a line, with its line feed
abbrev pub ended_line : List ℕ → List ℕ
ended_line line = line ++ 10 ∷ []

-- how the columns are read
unfoldable pub legend : List ℕ
legend = codes "| node is up   # a branch is in doubt   . node is stopped   --> delivered   --x lost   --o in flight   ..> a copy\n"

-- the numbers and the names of the nodes
abbrev pub names_from : ℕ → List (List ℕ) → List ℕ
names_from n [] = []
names_from n (name ∷ names) = decimal n ++ codes "=" ++ name ++ codes " " ++ names_from (n + 1) names

-- how a message's line ends
abbrev pub end_text : End → List ℕ
end_text (ends.InFlight row) = codes " --o "
end_text (ends.Delivered row) = codes " --> "
end_text (ends.Lost row) = codes " --x "

-- a message, in the row where it ends
abbrev pub arrow_text : List (List ℕ) → Arrow → List ℕ
arrow_text names a =
    codes "  " ++ name_of names a.from ++ codes " -- " ++ message_text a.number a.kind ++ end_text a.end ++ name_of names a.to

-- a copy of a message
abbrev pub repeat_text : List (List ℕ) → Repeat → List ℕ
repeat_text names r =
    codes "  " ++ name_of names r.from ++ codes " .. " ++ message_text r.number r.kind ++ codes " ..> " ++ name_of names r.to

-- what a node did or met
abbrev pub note_text : List (List ℕ) → Note → List ℕ
note_text names n = codes "  " ++ name_of names n.node ++ codes ": " ++ note_kind_text n.note_kind

-- a message that ends in this row
abbrev pub arrow_in : List (List ℕ) → ℕ → Arrow → List ℕ
arrow_in names row a = if end_row a.end == row then arrow_text names a else []

-- a copy that was delivered in this row
abbrev pub repeat_in : List (List ℕ) → ℕ → Repeat → List ℕ
repeat_in names row r = if r.row == row then repeat_text names r else []

-- what was done or met in this row
abbrev pub note_in : List (List ℕ) → ℕ → Note → List ℕ
note_in names row n = if n.row == row then note_text names n else []

-- a pair that was cut or joined in this row
abbrev pub parting_in : List (List ℕ) → ℕ → Parting → List ℕ
parting_in names row p = if p.row == row then codes "  " ++ parting_text names p else []

-- all that stands in a row
abbrev pub events_in : Marks → ℕ → List ℕ
events_in m row =
    flat_map (arrow_in m.lanes row) m.arrows
    ++ flat_map (repeat_in m.lanes row) m.repeats
    ++ flat_map (note_in m.lanes row) m.notes
    ++ flat_map (parting_in m.lanes row) m.partings

-- whether a row lies in a stretch
abbrev pub lies_in : ℕ → ℕ → ℕ → Bool
lies_in row from till = nat_le from row && nat_lt row till

-- whether a branch of a node is in doubt in a row
abbrev pub doubts_at : Window → ℕ → ℕ → Doubt → Bool
doubts_at w node row d = (d.branch.node == node) && lies_in row d.from (till_of w d.till)

-- whether a node is down in a row
abbrev pub is_down_at : Window → ℕ → ℕ → Outage → Bool
is_down_at w node row o = (o.node == node) && lies_in row o.from (till_of w o.till)

-- a node's column in a row
abbrev pub cell : Window → Marks → ℕ → ℕ → List ℕ
cell w m row node =
    if list_any (is_down_at w node row) m.outages then codes " ."
    else (if list_any (doubts_at w node row) m.doubts then codes " #" else codes " |")

-- the columns of the nodes of these names, from this number on
abbrev pub cells : Window → Marks → ℕ → ℕ → List (List ℕ) → List ℕ
cells w m row node [] = []
cells w m row node (name ∷ names) = cell w m row node ++ cells w m row (node + 1) names

-- a row, where something stands in it
abbrev pub row_line : Window → Marks → ℕ → List ℕ → List ℕ
row_line w m row [] = []
row_line w m row (b ∷ events) = ended_line (cells w m row 1 m.lanes ++ b ∷ events)

-- a line of the text of a command
abbrev pub asked_line : ℕ → List ℕ → List ℕ
asked_line command text = ended_line (decimal command ++ codes " > " ++ text)

-- a line of its answers
abbrev pub answer_line : ℕ → List ℕ → List ℕ
answer_line command text = ended_line (decimal command ++ codes " = " ++ text)

-- a command in the row in which it begins
abbrev pub band_in : ℕ → Band → List ℕ
band_in row b =
    if b.row == row then flat_map (asked_line b.command) b.text ++ flat_map (answer_line b.command) b.answer else []

-- all lines of a row
unfoldable pub row_lines : Window → Marks → ℕ → List ℕ
row_lines w m row = flat_map (band_in row) m.bands ++ row_line w m row (events_in m row)

-- the lines of so many rows, from this one on
abbrev pub lines_from : Window → Marks → ℕ → ℕ → List ℕ
lines_from w m row zero = []
lines_from w m row (suc more) = row_lines w m row ++ lines_from w m (row + 1) more

-- a picture as plain text
unfoldable pub text_of : Window → Marks → List ℕ
text_of w m = ended_line (window_text w) ++ legend ++ ended_line (names_from 1 m.lanes) ++ lines_from w m w.top (w.bottom - w.top)
