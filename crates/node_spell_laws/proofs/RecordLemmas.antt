-- The numbers of a turn's record are few enough, so the record has bytes.
use Rattle.std.proofs.Common.{ℕ, ◌-◌, ◌<◌, ◌≤◌, ◌^◌, length, Option, Some, None, arith}
use Rattle.std.specs.Prelude.{Bool, IfSome}
use Rattle.std.specs.List.{AllByRecursion}
use Rattle.std.proofs.lemmas.List.Elements.{All-from_recursion}
use Rattle.dtx_values.specs.Limits.{link_limit, scn_limit, strength_limit}
use Rattle.sql_parse.proofs.WholeLaws.{statements_are_whole}
use Rattle.sql_statement.specs.Whole.{IsWholeTable}
use Rattle.sql_print.specs.Printing.{printed}
use Rattle.field_codec.specs.Text.{comment_format}
use Rattle.node_rules.specs.Data.{BranchId, Decision, KeptRow, RedoRecord, Live, Place, Input, Stmt, Done}
use Rattle.node_rules.specs.Data.acts
use Rattle.node_rules.specs.Data.decisions
use Rattle.node_rules.specs.Data.records
use Rattle.node_rules.specs.Data.stmts
use Rattle.node_rules.specs.declared.work.Work.{Work}
use Rattle.commit_forget.specs.declared.next.Next.TheVariants as nexts
use Rattle.node_rules.specs.NodeState.{NodeState, Stored, TurnDraft}
use Rattle.node_rules.specs.Turn.{turn_of}
use Rattle.node_rules.proofs.Steps as steps
use Rattle.node_rules.proofs.Steps.{Step, Doing, IsMet}
use Rattle.node_rules.proofs.TurnLemmas.{step_of}
use Rattle.node_rules.specs.Inputs.{IsCall}
use Rattle.node_ready_laws.specs.Shapes.{IsShaped}
use Rattle.node_ready_laws.specs.Sound.{IsSound, IsNext}
use Rattle.node_ready_laws.proofs.ShapeLemmas.{within}
use Rattle.node_ready_laws.proofs.ReadyLemmas.{turns_stay_ready}
use Rattle.node_spell_laws.specs.Bytes.{BringsBytes}
use Rattle.node_spell_laws.specs.Record.{ChangeFits, DecisionFits, RecordHasBytes}
use Rattle.node_spell_laws.specs.Written.{comment_in, HasWay, HasFewChildren, HasNumbers, NumbersFit, RecordsHaveBytes}
use Rattle.node_spell_laws.proofs.SayLemmas.{call_so}
use Rattle.node_spell_laws.proofs.WrittenLemmas.{changes_fit, comments_fit}
use Rattle.node_spell_laws.proofs.WayToLemmas.{ways_lead}

-- ---- numbers

ends_met : {clock : ℕ} {input : Input} {s : KeptRow} {from : BranchId} {d : Decision} → Doing clock input s from (nexts.End d) → IsMet clock d
ends_met (steps.Ends_so d brings toward none sealed met) = met

meets_met : {clock : ℕ} {input : Input} {s : KeptRow} {from : BranchId} {d : Decision} {mixed : Bool} → Doing clock input s from (nexts.Meet d mixed) → IsMet clock d
meets_met (steps.Meets_so d brings toward none unsealed uncommitted met) = met

met_fits : (clock : ℕ) (d : Decision) → clock < 2 ^ 48 - 1 → IsMet clock d → DecisionFits d
met_fits clock (decisions.Commit n) room met = omega (arith, room, met)
met_fits clock decisions.Rollback room met = tt

made_numbers : {k : NodeState} {input : Input} {n : ℕ} {s : Stmt} {r : RedoRecord} {d : Done} → BringsBytes input → IsCall input n s → steps.Makes k s r d → HasNumbers r
made_numbers brings call (steps.Makes_table t free) = tt
made_numbers brings call (steps.Makes_link l free) = tt
made_numbers brings call (steps.Makes_synonym y free) = tt
made_numbers brings call (steps.Sets_recovery on) = tt
made_numbers brings call (steps.Sets_strength strength) =
    let small : strength ≤ strength_limit = statements_are_whole (stmts.SetStrength strength) (printed (stmts.SetStrength strength)) (call_so brings call) in omega (arith, small)

numbers_on : (p : Place) (input : Input) → BringsBytes input → {k : NodeState} {d : TurnDraft} → Step p input k d → k.clock < 2 ^ 48 - 1 → IfSome d.wrote HasNumbers
numbers_on p input brings (steps.Begins n s read_at call begins fit none step) room = numbers_on p input brings step room
numbers_on p input brings (steps.Counts_call n s call counts step) room = numbers_on p input brings step room
numbers_on p input brings (steps.Goes_back x to goes next) room = numbers_on p input brings next room
numbers_on p input brings (steps.Pends n l given call has live code writer step) room = numbers_on p input brings step room
numbers_on p input brings (steps.Lets_reads_go l comment site_below live begun step) room = numbers_on p input brings step room
numbers_on p input brings (steps.Counts_ack s from kept came counts step) room = numbers_on p input brings step room
numbers_on p input brings (steps.Acts l site_below acts.Seal why) room = omega (arith, room)
numbers_on p input brings (steps.Acts l site_below (acts.SealAndPass i) why) room = omega (arith, room)
numbers_on p input brings (steps.Acts l site_below acts.Decide why) room = omega (arith, room)
numbers_on p input brings (steps.Acts l site_below acts.Rest why) room = tt
numbers_on p input brings (steps.Acts l site_below acts.AskDown why) room = tt
numbers_on p input brings (steps.Acts l site_below acts.SayReadOnly why) room = tt
numbers_on p input brings (steps.Acts l site_below acts.SayReady why) room = tt
numbers_on p input brings (steps.Acts l site_below acts.Finish why) room = tt
numbers_on p input brings (steps.Acts l site_below acts.Abandon why) room = tt
numbers_on p input brings (steps.Does {k = k} s from (nexts.End d) kept why) room = met_fits k.clock d room (ends_met why)
numbers_on p input brings (steps.Does {k = k} s from (nexts.Meet d mixed) kept why) room = met_fits k.clock d room (meets_met why)
numbers_on p input brings (steps.Does s from nexts.Forget kept why) room = tt
numbers_on p input brings (steps.Does s from nexts.Rest kept why) room = tt
numbers_on p input brings (steps.Does s from nexts.AckToward kept why) room = tt
numbers_on p input brings (steps.Does s from nexts.SayForgotten kept why) room = tt
numbers_on p input brings (steps.Does s from nexts.SayAck kept why) room = tt
numbers_on p input brings (steps.Makes_record n s r d call makes) room = made_numbers brings call makes
numbers_on p input brings (steps.Forces_given n id m b call named) room =
    let given : m ≤ scn_limit = (statements_are_whole (stmts.CommitForce id (Some m)) (printed (stmts.CommitForce id (Some m))) (call_so brings call)).1 in omega (arith, given)
numbers_on p input brings (steps.Forces_commit n id b call named) room = omega (arith, room)
numbers_on p input brings (steps.Gives_up_commit n b (Some l) gives has waits live) room = tt
numbers_on p input brings (steps.Gives_up_commit n b None gives has waits none) room = tt
numbers_on p input brings _ room = tt

pub numbers_fit : NumbersFit
unfolding turn_of
numbers_fit p k input fit brings room = numbers_on p input brings (step_of p k input fit) room

-- ---- whole records

record_so : (s : Stored) (r : RedoRecord) → AllByRecursion IsWholeTable s.durable.tables → IsSound s r → comment_format.Fits (comment_in r) → HasWay r → HasNumbers r → RecordHasBytes r
record_so s (records.Table t) whole sound comment way numbers = sound
record_so s (records.Param p) whole sound comment way numbers = numbers
record_so s (records.Sealed r) whole sound comment way numbers =
    (record { numbered = numbers; commented = comment; changed = All-from_recursion ChangeFits r.changes (changes_fit s (records.Sealed r) whole sound) }, way)
record_so s (records.Decided r) whole sound comment way numbers =
    record { numbered = numbers; commented = comment; changed = All-from_recursion ChangeFits r.changes (changes_fit s (records.Decided r) whole sound) }
record_so s (records.Ended me decision) whole sound comment way numbers = numbers
record_so s (records.Forced me decision given) whole sound comment way numbers = numbers
record_so s (records.Met me decision mixed) whole sound comment way numbers = numbers
record_so s _ whole sound comment way numbers = tt

may_have : (s : Stored) (w : Option RedoRecord) → AllByRecursion IsWholeTable s.durable.tables → IfSome w (IsNext s) → IfSome w (λ r. comment_format.Fits (comment_in r)) → IfSome w HasWay → IfSome w HasNumbers
    → IfSome w RecordHasBytes
may_have s None whole next comment way numbers = tt
may_have s (Some r) whole next comment way numbers = record_so s r whole next.1 comment way numbers

few_children : (links : ℕ) → links ≤ link_limit → (l : Live) (w : Work) → IsShaped links l w → HasFewChildren l w
few_children links few l w shaped = let room = within links (length l.edges) w.going shaped.room in omega (arith, few, room)

pub records_have_bytes : RecordsHaveBytes
records_have_bytes p k input ready expected few room brings asks now =
    may_have k.stored (turn_of p k input).wrote ready.rows.whole (turns_stay_ready p k input expected ready).1 (comments_fit p k input expected.fit brings asks now)
    (ways_lead p k input expected.fit brings asks (record { there = ready.shape.there; each = λ b l live. few_children p.links few l _ (ready.shape.each b l live) }) now)
    (numbers_fit p k input expected.fit brings room)
