-- The book of the tried run and of a transaction after it, by computation.
use Rattle.std.proofs.Common.{refl}
use Rattle.book_laws.specs.TriedBook.{TheTriedBook}
use Rattle.tree_laws.proofs.Trying.{trying}

pub the_tried_book : TheTriedBook
unfolding trying
the_tried_book = record { first_at = refl; second_at = refl; common = refl }
