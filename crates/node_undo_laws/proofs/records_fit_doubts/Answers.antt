use Rattle.node_undo_laws.proofs.LawLemmas.{records_fit_doubts, records_need_no_more, acks_do_not_matter}
use Rattle.node_undo_laws.proofs.records_fit_doubts.Goals as goal

pub returns-clause-turns : goal.returns-clause-turns
returns-clause-turns c = records_fit_doubts

pub returns-clause-space : goal.returns-clause-space
returns-clause-space c = records_need_no_more

pub returns-clause-acks : goal.returns-clause-acks
returns-clause-acks c = acks_do_not_matter
