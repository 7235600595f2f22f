use Rattle.node_ready_laws.proofs.FollowLemmas.{records_follow, rows_do_not_matter}
use Rattle.node_ready_laws.proofs.records_follow.Goals as goal

pub returns-clause-turns : goal.returns-clause-turns
returns-clause-turns c = records_follow

pub returns-clause-acks : goal.returns-clause-acks
returns-clause-acks c = rows_do_not_matter
