use Rattle.answer_once_laws.proofs.LaterLemmas.{every_command_is_answered_once}
use Rattle.answer_once_laws.proofs.every_command_is_answered_once.Goals as goal

pub returns : goal.returns
returns c = every_command_is_answered_once
