use Rattle.node_purge_laws.proofs.CallLikeLemmas.{purges_change_nothing_else}
use Rattle.node_purge_laws.proofs.purges_change_nothing_else.Goals as goal

pub returns : goal.returns
returns c = purges_change_nothing_else
