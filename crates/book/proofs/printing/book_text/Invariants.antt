use Rattle.std.proofs.Common.{◌≡◌, take}
use Rattle.book.specs.Texts.{book_text}
use Rattle.book.proofs.printing.book_text.Given as goal

abbrev pub invariant-loop-entry : goal.invariant-loop-entry
invariant-loop-entry l = l.out.items ≡ book_text l.names (take l.entry-index l.book)
