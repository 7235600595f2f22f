use Rattle.node_ready_laws.proofs.CallNumberLemmas.{calls_rise_by_one}
use Rattle.node_ready_laws.proofs.NumberLemmas.{clocks_rise_by_one, one_open_a_turn}
use Rattle.node_ready_laws.proofs.SeqLemmas.{seqs_rise_by_one}
use Rattle.node_ready_laws.proofs.numbers_rise_by_one.Goals as goal

pub returns-clause-clock : goal.returns-clause-clock
returns-clause-clock c = clocks_rise_by_one

pub returns-clause-opens : goal.returns-clause-opens
returns-clause-opens c = one_open_a_turn

pub returns-clause-calls : goal.returns-clause-calls
returns-clause-calls c = calls_rise_by_one

pub returns-clause-seqs : goal.returns-clause-seqs
returns-clause-seqs c = seqs_rise_by_one
