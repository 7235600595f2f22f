use Rattle.std.proofs.Common.{◌≡◌, length}
use Rattle.image_codec.specs.Order.{are_rows_of}
use Rattle.image_codec.proofs.order.are_rows_of.Given as goal

-- the lists that are left are rows of the tables that are left as all are of all
abbrev pub invariant-loop-rest : goal.invariant-loop-rest
invariant-loop-rest l = are_rows_of l.rest l.others ≡ are_rows_of l.tables l.lists

abbrev pub decreases-loop-rest : goal.decreases-loop-rest
decreases-loop-rest l = length l.rest
