use Rattle.tree_laws.proofs.AgreeLemmas.{every_book_agrees, every_mixed_is_marked}
use Rattle.tree_laws.proofs.every_book_agrees.Goals as goal

pub returns-clause-agrees : goal.returns-clause-agrees
returns-clause-agrees c = every_book_agrees

pub returns-clause-marked : goal.returns-clause-marked
returns-clause-marked c = every_mixed_is_marked
