-- What a turn asks of its messages and of the clock, from what the laws of bytes say of them.
use Rattle.std.proofs.Common.{◌<◌, ◌^◌, ◌-◌, ℕ, List, [], ◌∷◌, max, arith}
use Rattle.std.specs.List.{AllByRecursion}
use Rattle.node_rules.specs.Data.{Answer, Kind, Msg, Input}
use Rattle.node_rules.specs.Data.answers
use Rattle.node_rules.specs.Data.kinds
use Rattle.node_rules.specs.Data.tasks
use Rattle.node_rules.specs.Data.inputs
use Rattle.node_rules.specs.NodeState.{NodeState}
use Rattle.node_rules.specs.Turn.{kind_scn}
use Rattle.node_core.specs.Able.{BringsScns}
use Rattle.node_disk.specs.Spellable.{AnswerMayBeMailed, KindMayBeMailed, MayBeMailed}
use Rattle.node_spell_laws.specs.Bytes.{AnswerHasBytes, HasBytes}
use Rattle.node_spell_laws.specs.Written.{HasRoomForScn}

-- ---- messages

answer_mailed : (a : Answer) → AnswerHasBytes a → AnswerMayBeMailed a
answer_mailed (answers.Did done count) has = has
answer_mailed (answers.Found found) has = has
answer_mailed (answers.Refused refusal) has = has

kind_mailed : (kind : Kind) → HasBytes kind → KindMayBeMailed kind
kind_mailed (kinds.Exec call (tasks.Run room advice s)) has = has.0
kind_mailed (kinds.Reply call weight count result) has = answer_mailed result has
kind_mailed (kinds.Prepare site_below comment) has = has
kind_mailed _ has = tt

-- messages that have bytes may be mailed
pub all_mailed : (ms : List Msg) → AllByRecursion (λ (m : Msg). HasBytes m.kind) ms → AllByRecursion MayBeMailed ms
all_mailed [] all = tt
all_mailed (m ∷ ms) all = (kind_mailed m.kind all.0, all_mailed ms all.1)

-- ---- the clock

pub less_max : (a b n : ℕ) → a < n → b < n → max a b < n
less_max a b n first second = omega (arith, first, second)

-- the clock leaves room for an SCN more
pub room_of : (k : NodeState) (input : Input) → k.clock < 2 ^ 48 - 1 → BringsScns input → HasRoomForScn k input
room_of k (inputs.Message m) clock scns = less_max k.clock (max m.scn (kind_scn m.kind)) (2 ^ 48 - 1) clock scns
room_of k (inputs.Call session statement) clock scns = clock
room_of k (inputs.GiveUp session) clock scns = clock
room_of k inputs.Reco clock scns = clock
room_of k inputs.Checkpoint clock scns = clock
