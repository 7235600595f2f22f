use Rattle.node_purge_laws.proofs.HideLemmas.{purges_change_nothing_shown}
use Rattle.node_purge_laws.proofs.purges_change_nothing_shown.Goals as goal

pub returns : goal.returns
returns c = purges_change_nothing_shown
