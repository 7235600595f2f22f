use Rattle.commit_spread_laws.proofs.GotLemmas.{collectors_got_prepare}
use Rattle.commit_spread_laws.proofs.collectors_got_prepare.Goals as goal

pub returns : goal.returns
returns c = collectors_got_prepare
