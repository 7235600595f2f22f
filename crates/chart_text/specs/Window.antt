-- Which commands are drawn.
use Rattle.std.specs.Prelude.{ℕ, ◌+◌, ◌&&◌, Bool, List, length, filter, nat_lt, nat_le, min, max, Option, Some, None}
use Rattle.tran_ids.specs.Listed.{numbered}
use Rattle.chart_text.specs.Data.{Band, Arrow, End, Marks}
use Rattle.chart_text.specs.Data.ends
use Rattle.chart_text.specs.declared.window.Window.{Window}

-- a command that is drawn begins within so many rows of the first one
abbrev pub row_limit : ℕ
row_limit = 1000

-- where the band at a number begins, and the end of the picture where there is none
abbrev pub top_of : ℕ → Option Band → ℕ
top_of rows None = rows
top_of rows (Some b) = b.row

-- the row in which this command begins
abbrev pub row_at : Marks → ℕ → ℕ
row_at m command = top_of m.rows (numbered m.bands command)

-- a command that begins above this row
abbrev pub begins_above : ℕ → Band → Bool
begins_above row b = nat_lt b.row row

-- how many commands begin above this row
abbrev pub commands_above : ℕ → List Band → ℕ
commands_above row bands = length (filter (begins_above row) bands)

-- the last command that is drawn: as wanted, but none too far down
abbrev pub last_of : Marks → ℕ → ℕ → ℕ
last_of m first last = min last (commands_above (row_at m first + row_limit) m.bands)

-- the window of these commands
abbrev pub between : Marks → ℕ → ℕ → Window
between m first last = record { first = first; last = last; count = length m.bands; top = row_at m first; bottom = max (row_at m first) (row_at m (last + 1)) }

-- the window of the commands from this one to that one, as far as they are drawn
abbrev pub window_of : Marks → ℕ → ℕ → Window
window_of m first last = between m first (last_of m first last)

-- whether a row is drawn
abbrev pub is_in : Window → ℕ → Bool
is_in w row = nat_le w.top row && nat_lt row w.bottom

-- whether something that goes from a row to a row reaches the window
abbrev pub reaches : Window → ℕ → ℕ → Bool
reaches w from till = nat_lt from w.bottom && nat_le w.top till

-- where a stretch ends that may go on to the end of the picture
abbrev pub till_of : Window → Option ℕ → ℕ
till_of w None = w.bottom
till_of w (Some row) = row

-- the row in which a message ends
abbrev pub end_row : End → ℕ
end_row (ends.InFlight row) = row
end_row (ends.Delivered row) = row
end_row (ends.Lost row) = row

-- whether an arrow reaches the window
abbrev pub shows_arrow : Window → Arrow → Bool
shows_arrow w a = reaches w a.sent (end_row a.end)
