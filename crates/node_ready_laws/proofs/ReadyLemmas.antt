-- Each turn leaves a node ready, made of what each turn leaves of its rows, of its live branches and of their ids.
use Rattle.std.proofs.Common.{ℕ, ◌≤◌, arith}
use Rattle.node_rules.specs.Data.{Input}
use Rattle.node_rules.specs.Data.inputs
use Rattle.node_rules.specs.NodeState.{NodeState}
use Rattle.node_rules.specs.Turn.{heard}
use Rattle.node_ready_laws.specs.Ready.{TurnsStayReady, BringsWithin, NumbersStayWithin}
use Rattle.node_ready_laws.proofs.RowStepLemmas.{rows_stay_of_tables}
use Rattle.node_ready_laws.proofs.ShapeLemmas.{shapes_stay}
use Rattle.node_ready_laws.proofs.NameLemmas.{names_stay}
use Rattle.node_ready_laws.proofs.IdStepLemmas.{ids_stay}
use Rattle.node_ready_laws.proofs.FollowLemmas.{records_follow}
use Rattle.node_ready_laws.proofs.NumberLemmas.{clocks_rise_by_one, one_open_a_turn}
use Rattle.node_ready_laws.proofs.SeqLemmas.{seqs_rise_by_one}
use Rattle.node_ready_laws.proofs.CallNumberLemmas.{calls_rise_by_one}

pub turns_stay_ready : TurnsStayReady
turns_stay_ready p k input expected ready = (
  record {
    rows = rows_stay_of_tables p k input expected.fit expected.whole ready.rows;
    names = names_stay p k input expected.fit expected.named ready.names;
    shape = shapes_stay p k input expected.fit expected.few ready.shape;
    ids = ids_stay p k input expected.fit ready.ids;
  },
  records_follow p k input expected.fit expected.whole expected.named ready.rows ready.ids,
)

heard_within : (k : NodeState) (input : Input) (n : ℕ) → BringsWithin n input → k.clock ≤ n → (heard k input).clock ≤ n
heard_within k (inputs.Message m) n low clock = omega (arith, low, clock)
heard_within k (inputs.Call session s) n low clock = clock
heard_within k (inputs.GiveUp session) n low clock = clock
heard_within k inputs.Reco n low clock = clock
heard_within k inputs.Checkpoint n low clock = clock

pub numbers_stay_within : NumbersStayWithin
numbers_stay_within p k input n fit low within =
    let clock = clocks_rise_by_one p k input fit in
    let opens = one_open_a_turn p k input fit in
    let heard_clock = heard_within k input n low within.clock in
    record {
      clock = omega (arith, clock, heard_clock);
      opens = omega (arith, opens, within.opens);
      seqs = seqs_rise_by_one p k input n fit within.seqs;
      calls = calls_rise_by_one p k input n fit within.calls;
    }
