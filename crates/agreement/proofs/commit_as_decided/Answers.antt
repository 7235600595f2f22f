use Rattle.agreement.proofs.AgreementLaws.{as_decided as law}
use Rattle.agreement.proofs.commit_as_decided.Goals as goal

pub returns : goal.returns
returns c = law
