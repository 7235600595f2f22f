use Rattle.agreement.proofs.AgreementLaws.{later as law}
use Rattle.agreement.proofs.decision_is_later.Goals as goal

pub returns : goal.returns
returns c = law
