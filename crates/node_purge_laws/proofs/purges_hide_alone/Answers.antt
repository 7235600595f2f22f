use Rattle.node_purge_laws.proofs.HideLemmas.{purges_hide_alone}
use Rattle.node_purge_laws.proofs.purges_hide_alone.Goals as goal

pub returns : goal.returns
returns c = purges_hide_alone
