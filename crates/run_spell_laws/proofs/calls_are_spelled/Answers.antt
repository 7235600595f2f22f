use Rattle.run_spell_laws.proofs.DueCallLemmas.{scripts_calls_are_spelled, due_calls_are_spelled}
use Rattle.run_spell_laws.proofs.calls_are_spelled.Goals as goal

pub returns-clause-calls : goal.returns-clause-calls
returns-clause-calls c = scripts_calls_are_spelled

pub returns-clause-due : goal.returns-clause-due
returns-clause-due c = due_calls_are_spelled
