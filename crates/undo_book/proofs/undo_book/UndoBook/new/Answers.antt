use Rattle.std.proofs.Common.{[], sym, subst}
use Rattle.undo_book.specs.Undo.{HoldUndo}
use Rattle.undo_book.proofs.UndoLaws.{nothing, is_undo}
use Rattle.undo_book.proofs.undo_book.UndoBook.new.Goals as goal

pub invariant_of-result : goal.invariant_of-result
invariant_of-result c = subst HoldUndo (sym c.in_ok-pool.ensures) (λ owner. is_undo [] [] nothing)
