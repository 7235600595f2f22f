use Rattle.std.proofs.Common.{[], sym, subst}
use Rattle.undo_book.specs.Undo.{AreBytesOf}
use Rattle.undo_book.proofs.UndoLaws.{nothing, say}
use Rattle.undo_book.proofs.Books.{hold}
use Rattle.undo_book.proofs.undo_book.UndoBook.release.Goals as goal

pub invariant_of-self : goal.invariant_of-self
invariant_of-self c = hold c.self.inside.pool c.release.new.self c.args.owner c.self.invariant [] (subst (AreBytesOf []) (sym c.release.ensures.bytes) nothing) c.release.ensures.others

pub returns-clause-undo : goal.returns-clause-undo
returns-clause-undo c = say _ [] (subst (AreBytesOf []) (sym c.release.ensures.bytes) nothing)
