use Rattle.run_spell_laws.proofs.ByteRunLemmas.{nodes_keep_bytes, messages_have_bytes, turns_have_bytes}
use Rattle.run_spell_laws.proofs.runs_have_bytes.Goals as goal

pub returns-clause-nodes : goal.returns-clause-nodes
returns-clause-nodes c = nodes_keep_bytes c.nodes_are_ready.ensures.ready c.messages_fit.ensures.turns c.messages_fit.ensures.names c.messages_fit.ensures.starts

pub returns-clause-messages : goal.returns-clause-messages
returns-clause-messages c = messages_have_bytes c.nodes_are_ready.ensures.ready c.messages_fit.ensures.turns c.messages_fit.ensures.names c.messages_fit.ensures.starts

pub returns-clause-turns : goal.returns-clause-turns
returns-clause-turns c = turns_have_bytes c.nodes_are_ready.ensures.ready c.messages_fit.ensures.turns c.messages_fit.ensures.names c.messages_fit.ensures.starts c.records_fit.ensures.records
