use Rattle.script_read.proofs.SpellLaws.{one_script}
use Rattle.script_read.proofs.laws.one_script.Goals as goal

pub returns : goal.returns
returns c = one_script
