use Rattle.std.proofs.Common.{[], sym, subst}
use Rattle.undo_book.specs.Undo.{AreBytesOf}
use Rattle.undo_book.proofs.UndoLaws.{nothing, say, is_undo}
use Rattle.undo_book.proofs.undo_set.UndoSet.new.Goals as goal

pub invariant_of-result : goal.invariant_of-result
invariant_of-result c = is_undo c.new.result.items [] (subst (AreBytesOf []) (sym c.new.ensures.items) nothing)

pub returns : goal.returns
returns c = say c.new.result.items [] (subst (AreBytesOf []) (sym c.new.ensures.items) nothing)
