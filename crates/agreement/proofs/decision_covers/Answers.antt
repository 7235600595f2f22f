use Rattle.agreement.proofs.AgreementLaws.{covers as law}
use Rattle.agreement.proofs.decision_covers.Goals as goal

pub returns : goal.returns
returns c = law
