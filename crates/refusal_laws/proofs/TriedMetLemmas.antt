-- What statements of the tried run meet, by computation.
use Rattle.std.proofs.Common.{refl}
use Rattle.run_rules.specs.Book.{rows_by_book}
use Rattle.tree_laws.proofs.Trying.{trying, trying_trails}
use Rattle.refusal_laws.specs.TriedMet.{TheTriedMet}

pub the_tried_met : TheTriedMet
unfolding trying trying_trails rows_by_book
the_tried_met = record {
  held = record { answered = refl; told = refl };
  free = record { answered = refl; told = refl };
  in_doubt = record { answered = refl; told = refl };
  there = record { answered = refl; told = refl };
}
