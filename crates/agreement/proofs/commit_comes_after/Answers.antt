use Rattle.agreement.proofs.AgreementLaws.{comes_after as law}
use Rattle.agreement.proofs.commit_comes_after.Goals as goal

pub returns : goal.returns
returns c = law
