use Rattle.std.proofs.Common.{◌≡◌, length}
use Rattle.image_codec.specs.Order.{is_row_of, row_below}
use Rattle.image_codec.proofs.order.keys_rise.Given as goal

-- the rows that are left rise as all do
abbrev pub invariant-loop-rest : goal.invariant-loop-rest
invariant-loop-rest l = is_row_of (row_below l.place) l.rest ≡ is_row_of (row_below l.place) l.rows

abbrev pub decreases-loop-rest : goal.decreases-loop-rest
decreases-loop-rest l = length l.rest
