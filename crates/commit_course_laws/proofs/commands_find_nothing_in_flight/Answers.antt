use Rattle.commit_course_laws.proofs.CommandLemmas.{commands_find_nothing_in_flight}
use Rattle.commit_course_laws.proofs.commands_find_nothing_in_flight.Goals as goal

pub returns : goal.returns
returns c = commands_find_nothing_in_flight
