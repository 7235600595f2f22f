use Rattle.version_laws.proofs.RowLemmas.{versions_agree}
use Rattle.version_laws.proofs.versions_agree.Goals as goal

pub returns : goal.returns
returns c = versions_agree
