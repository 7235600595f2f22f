use Rattle.agreement.proofs.BookLaws.{decisions_exceed_seals as law}
use Rattle.agreement.proofs.decisions_exceed_seals.Goals as goal

pub returns : goal.returns
returns c = law
