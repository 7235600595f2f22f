use Rattle.agreement.proofs.AgreementLaws.{doomed_undecided as law}
use Rattle.agreement.proofs.doomed_is_undecided.Goals as goal

pub returns : goal.returns
returns c = law
