use Rattle.node_spell_laws.proofs.SayLemmas.{sent_fits}
use Rattle.node_spell_laws.proofs.SayStepLemmas.{turns_keep_bytes}
use Rattle.node_spell_laws.proofs.StartLemmas.{turns_name_tables, starts_keep_bytes}
use Rattle.node_spell_laws.proofs.messages_fit.Goals as goal

pub returns-clause-fits : goal.returns-clause-fits
returns-clause-fits c = sent_fits

pub returns-clause-turns : goal.returns-clause-turns
returns-clause-turns c = turns_keep_bytes

pub returns-clause-names : goal.returns-clause-names
returns-clause-names c = turns_name_tables

pub returns-clause-starts : goal.returns-clause-starts
returns-clause-starts c = starts_keep_bytes
