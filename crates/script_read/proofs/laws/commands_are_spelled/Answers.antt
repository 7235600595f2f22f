use Rattle.script_read.proofs.SpellLaws.{command_takes, command_again}
use Rattle.script_read.proofs.laws.commands_are_spelled.Goals as goal

pub returns : goal.returns
returns c = λ names text command. (command_takes names text command, command_again names text command)
