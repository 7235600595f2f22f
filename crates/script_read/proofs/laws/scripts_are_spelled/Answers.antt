use Rattle.script_read.proofs.SpellLaws.{script_takes, script_again}
use Rattle.script_read.proofs.laws.scripts_are_spelled.Goals as goal

pub returns : goal.returns
returns c = λ bytes commands. (script_takes bytes commands, script_again bytes commands)
