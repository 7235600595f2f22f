-- Each lawful run does what the forest of its Prepares allows, so its commit SCNs are in order at each key.
use Rattle.run_key_laws.proofs.CommitOrderLemmas.{commits_come_in_order}
use Rattle.tree_laws.specs.Forests.{forest_of}
use Rattle.tree_laws.proofs.AgreeLemmas.{runs_go_by_forest}
use Rattle.tree_laws.proofs.ForestRunLemmas.{runs_have_forests}
use Rattle.book_laws.specs.OrderedLaws.{EveryCommitComesInOrder}

pub every_commit_comes_in_order : EveryCommitComesInOrder
every_commit_comes_in_order t lawful = commits_come_in_order t lawful (forest_of t) (runs_have_forests t lawful) (runs_go_by_forest t lawful)
