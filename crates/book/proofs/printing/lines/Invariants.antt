use Rattle.std.proofs.Common.{◌≡◌, take}
use Rattle.book.specs.Texts.{book_lines}
use Rattle.book.proofs.printing.lines.Given as goal

abbrev pub invariant-loop-entry : goal.invariant-loop-entry
invariant-loop-entry l = l.lines.items ≡ book_lines l.names (take l.entry-index l.book)
