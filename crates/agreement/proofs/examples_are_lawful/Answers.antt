use Rattle.agreement.proofs.Example.{examples_are_lawful as law}
use Rattle.agreement.proofs.examples_are_lawful.Goals as goal

pub returns : goal.returns
returns c = law
