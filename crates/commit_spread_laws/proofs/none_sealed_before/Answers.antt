use Rattle.commit_spread_laws.proofs.BeforeLemmas.{none_sealed_before}
use Rattle.commit_spread_laws.proofs.none_sealed_before.Goals as goal

pub returns : goal.returns
returns c = none_sealed_before
