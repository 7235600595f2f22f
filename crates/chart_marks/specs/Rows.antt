-- In which row of the picture each happening stands.
use Rattle.std.specs.Prelude.{ℕ, ◌+◌, max, List, [], ◌∷◌, length, Option, Some, None}
use Rattle.tran_ids.specs.Listed.{numbered}
use Rattle.chart_marks.specs.Data.{Happening, Told}
use Rattle.chart_marks.specs.Data.happenings
use Rattle.chart_marks.specs.declared.cursor.Cursor.{Cursor}

-- the rows that the texts of a command take
abbrev pub height_of : Told → ℕ
height_of t = max 1 (max (length t.text) (length t.answer))

-- the same, where there may be none
abbrev pub height_at : Option Told → ℕ
height_at None = 1
height_at (Some t) = height_of t

-- before any happening
abbrev pub start : Cursor
start = record { row = 0; floor = 0 }

-- the first row that no earlier command needs
abbrev pub free_row : Cursor → ℕ
free_row c = max c.row c.floor

-- the row of a happening: a command begins below the texts of the one before
abbrev pub row_of : Cursor → Happening → ℕ
row_of c (happenings.Begun command) = free_row c
row_of c _ = c.row

-- the next row
abbrev pub next_row : Cursor → Cursor
next_row c = record c { row = c.row + 1 }

-- where a command begins: its happenings stand beside its texts
abbrev pub begun : List Told → Cursor → ℕ → Cursor
begun tale c command = record { row = free_row c; floor = free_row c + height_at (numbered tale command) }

-- after a happening
abbrev pub cursor_after : List Told → Cursor → Happening → Cursor
cursor_after tale c (happenings.Begun command) = begun tale c command
cursor_after tale c _ = next_row c

-- what a step makes of all happenings, oldest first, each with its row
abbrev pub along : {A : Type 0} → (A → ℕ → Happening → A) → List Told → A → Cursor → List Happening → A
along step tale x c [] = x
along step tale x c (h ∷ hs) = along step tale (step x (row_of c h) h) (cursor_after tale c h) hs

-- the cursor behind all happenings
abbrev pub cursor_behind : List Told → Cursor → List Happening → Cursor
cursor_behind tale c [] = c
cursor_behind tale c (h ∷ hs) = cursor_behind tale (cursor_after tale c h) hs

-- how many rows a picture has
abbrev pub rows_of : List Told → List Happening → ℕ
rows_of tale hs = free_row (cursor_behind tale start hs)
