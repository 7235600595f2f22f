use Rattle.run_spell_laws.proofs.DueCallLemmas.{due_turns_have_bytes}
use Rattle.run_spell_laws.proofs.due_turns_have_bytes.Goals as goal

pub returns : goal.returns
returns c = due_turns_have_bytes c.the_run_is_lawful.ensures c.runs_have_bytes.ensures.turns
