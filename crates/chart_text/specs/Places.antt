-- Where lanes, rows and texts stand in a picture. Lanes go downwards, one for each node; commands stand left of them, and
-- their answers right of them.
use Rattle.std.specs.Prelude.{ℕ, ◌+◌, ◌-◌, ◌*◌, if◌then◌else◌, nat_lt}
use Rattle.chart_text.specs.Data.{End, Side, Left, Right, Spot}
use Rattle.chart_text.specs.Data.ends
use Rattle.chart_text.specs.declared.window.Window.{Window}

-- a point
abbrev pub spot : ℕ → ℕ → Spot
spot x y = record { x = x; y = y }

-- where a node's lane stands
abbrev pub x_of : ℕ → ℕ
x_of node = 370 + 170 * node

-- the upper edge of a row
abbrev pub edge_of : ℕ → ℕ
edge_of row = 20 * row

-- its middle
abbrev pub y_of : ℕ → ℕ
y_of row = 20 * row + 10

-- where answers begin
abbrev pub answers_x : ℕ → ℕ
answers_x lanes = 540 + 170 * lanes

-- the width of a picture with so many lanes
abbrev pub width_of : ℕ → ℕ
width_of lanes = 930 + 170 * lanes

-- how tall the rows are that are drawn
abbrev pub height_of : Window → ℕ
height_of w = 20 * (w.bottom - w.top)

-- the side of a node's lane on which the lane of another node is
abbrev pub side_toward : ℕ → ℕ → Side
side_toward node other = if nat_lt other node then Left else Right

-- so far from a node's lane, on this side
abbrev pub beside : ℕ → Side → ℕ → ℕ
beside node Left gap = x_of node - gap
beside node Right gap = x_of node + gap

-- how far before the lane of its receiver the line of a message ends
abbrev pub gap_of : End → ℕ
gap_of (ends.InFlight row) = 40
gap_of (ends.Delivered row) = 0
gap_of (ends.Lost row) = 40
