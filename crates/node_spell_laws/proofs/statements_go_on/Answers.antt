use Rattle.node_spell_laws.proofs.SayLemmas.{renamed}
use Rattle.node_spell_laws.proofs.AnswerLemmas.{answers_have_bytes}
use Rattle.node_spell_laws.proofs.statements_go_on.Goals as goal

pub returns-clause-renamed : goal.returns-clause-renamed
returns-clause-renamed c = renamed

pub returns-clause-answers : goal.returns-clause-answers
returns-clause-answers c = answers_have_bytes
