use Rattle.run_rules.proofs.FactLemmas.{facts_are}
use Rattle.run_base_laws.proofs.facts_are_alone.Goals as goal

pub returns : goal.returns
returns c = facts_are
