use Rattle.agreement.proofs.AgreementLaws.{undecided_from_rollback as law}
use Rattle.agreement.proofs.rollback_means_undecided.Goals as goal

pub returns : goal.returns
returns c = law
