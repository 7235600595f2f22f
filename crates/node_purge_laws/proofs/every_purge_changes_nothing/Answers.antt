use Rattle.node_purge_laws.proofs.LeftOutLemmas.{every_purge_changes_nothing}
use Rattle.node_purge_laws.proofs.every_purge_changes_nothing.Goals as goal

pub returns : goal.returns
returns c = every_purge_changes_nothing
