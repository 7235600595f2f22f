use Rattle.make_script.proofs.ScriptLemmas.{is_read}
use Rattle.make_script.proofs.LengthLemmas.{is_within}
use Rattle.make_script.proofs.laws.made_scripts_are_read.Goals as goal

pub returns-clause-read : goal.returns-clause-read
returns-clause-read c = is_read

pub returns-clause-within : goal.returns-clause-within
returns-clause-within c = is_within
