use Rattle.std.proofs.Common.{◌≡◌, length}
use Rattle.redo_record.specs.Lists.{drop_where}
use Rattle.redo_record.specs.Leaving.{leaves}
use Rattle.redo_record.specs.Order.{AreInOrder}
use Rattle.redo_record.proofs.kept.drop_rows.Given as goal

-- the rows that stay are those that stayed at first
abbrev pub invariant-loop-place : goal.invariant-loop-place
invariant-loop-place l =
    (drop_where (leaves l.leaving l.me) l.kept.items ≡ drop_where (leaves l.leaving l.me) l.initial.kept.items) × AreInOrder l.kept.items

abbrev pub decreases-loop-place : goal.decreases-loop-place
decreases-loop-place l = length l.kept.items
