-- What other crates prove of the runs of scripts, as the world needs it: the turn that is due can be taken, what is due is there, and
-- starts and deliveries are few.
use Rattle.std.proofs.Common.{◌≡◌, ℕ, Option, Some, None, IfSome, refl, sym, subst, arith}
use Rattle.node_rules.specs.Data.{Input, Stmt}
use Rattle.node_rules.specs.Data.inputs
use Rattle.node_rules.specs.NodeState.{NodeState, TurnOutput}
use Rattle.node_rules.specs.Turn.{turn_of}
use Rattle.node_core.specs.Able.{BringsCommit, MayTake}
use Rattle.node_disk.specs.Spellable.{IsSpellable}
use Rattle.node_disk.proofs.NeedLemmas.{all_mailed, room_of}
use Rattle.run_spell_laws.specs.ByteRuns.{CallIsSpelled, DueCallsAreSpelled, IsSpelledRun, ScriptsCallsAreSpelled, TurnHasBytes, TurnsHaveBytes}
use Rattle.run_ready_laws.specs.CountLaws.{CountsAreFew}
use Rattle.run_number_laws.specs.RootLaws.{CommitsFindWork}
use Rattle.run_rules.specs.Due.{Due, Pends, Gives_up, Delivers, Recovers}
use Rattle.run_rules.specs.Facts.{Facts, node_at, place_at}
use Rattle.run_rules.specs.Scripts.{TheRunIsLawful}
use Rattle.run_rules.specs.Lawful.{Comes, History, facts_at}
use Rattle.run_rules.proofs.FactLemmas.{facts_are}
use Rattle.run_rules.specs.RunReport.{Call, start}
use Rattle.sql_print.specs.Printing.{IsPrintable}
use Rattle.run_number_laws.specs.Counts.{DeliveriesAreWithin}
use Rattle.run_number_laws.specs.Numbers.{EachStartsSeldom as SeldomByRuns, StartsSeldom}
use Rattle.run_number_laws.specs.There.{DueMessagesAreThere as MessagesThereByRuns, DueNodesAreThere as NodesThereByRuns}
use Rattle.run_number_laws.specs.Turns.{DueTurnsFindAble, FindsAble, IsTurnDue}
use Rattle.run_trace.specs.Recorded.{RunSoFar, past_of}
use Rattle.world.specs.Needs.{IsOfScript, CanTake, DueTurnsCanBeTaken, DueMessagesAreThere, DueNodesAreThere, EachStartsSeldom, DeliveriesAreFew, due_in}
use Rattle.world_parts.specs.Shown.{history_of}

abbrev run_of : (r : RunSoFar) → IsOfScript r → History
run_of r script = history_of r script.of_a_script

-- ---- turns

turn_spellable : (o : TurnOutput) → TurnHasBytes o → IsSpellable o
turn_spellable o has = record { wrote = has.wrote; sent = all_mailed o.sent has.sent }

statement_spelled : (session : ℕ) (s : Option Stmt) → IfSome s IsPrintable → CallIsSpelled (inputs.Call session s)
statement_spelled session None spelled = tt
statement_spelled session (Some s) spelled = spelled

-- the call that is due is of a statement that its text spells
call_spelled : (f : Facts) (due : Due) (n : ℕ) (input : Input) → IsTurnDue f due n input → ((c : Call) → due ≡ Pends c → IfSome c.statement IsPrintable) → CallIsSpelled input
call_spelled f (Pends c) n input is calls = subst (λ (i : Input). CallIsSpelled i) (sym is.1) (statement_spelled c.session c.statement (calls c refl))
call_spelled f (Gives_up m session) n input is calls = subst (λ (i : Input). CallIsSpelled i) (sym is.1) tt
call_spelled f (Delivers k again) n input is calls = subst (λ (i : Input). CallIsSpelled i) (sym is.3) tt
call_spelled f (Recovers m) n input is calls = subst (λ (i : Input). CallIsSpelled i) (sym is.1) tt
call_spelled f _ n input is calls = absurd is

module _ (lawful_of : TheRunIsLawful) (few_of : CountsAreFew) (find_of : DueTurnsFindAble) (commit_of : CommitsFindWork) (calls_of : ScriptsCallsAreSpelled) (due_calls : DueCallsAreSpelled) (bytes_of : TurnsHaveBytes) where
  module _ (r : RunSoFar) (n : ℕ) (input : Input) (script : IsOfScript r) (due : IsTurnDue (past_of r).facts (due_in r) n input) where
    abbrev t : History
    t = run_of r script

    abbrev found : (k : NodeState) × FindsAble t n input k
    found = find_of t script.bounded script.run (few_of t (lawful_of t script.run)) n input due

    abbrev k : NodeState
    k = found.0

    same : (past_of r).facts ≡ facts_at t
    same = facts_are r.places r.asked (start r.places) r.happenings

    up : node_at (facts_at t) n ≡ Some k
    up = subst (λ (f : Facts). node_at f n ≡ Some k) same found.1.up

    comes : Comes (facts_at t) k n input found.1.took
    comes = subst (λ (f : Facts). Comes f k n input found.1.took) same found.1.comes

    commit : BringsCommit k input
    commit = commit_of t (lawful_of t script.run) n k up input found.1.took comes

    takes : MayTake (place_at r.places n) k input
    takes = record { able = found.1.able; expected = found.1.expected; scns = found.1.scns; commit = commit }

    spelled_run : IsSpelledRun t
    spelled_run = record { lawful = lawful_of t script.run; few = few_of t (lawful_of t script.run); spelled = calls_of t script.spelled script.run }

    has_bytes : TurnHasBytes (turn_of (place_at r.places n) k input)
    has_bytes = bytes_of t spelled_run n k input found.1.took up comes (call_spelled (past_of r).facts (due_in r) n input due (λ c is. due_calls t c script.spelled is))
        found.1.expected found.1.able.links (room_of k input found.1.able.clock found.1.scns)

    can_take : (k : NodeState) × CanTake r.places (past_of r).facts n input k
    can_take = (k, record { up = found.1.up; takes = takes; spellable = turn_spellable (turn_of (place_at r.places n) k input) has_bytes })

  pub turns_taken : DueTurnsCanBeTaken
  turns_taken r n input script due = can_take r n input script due

-- ---- what is due is there

pub messages_there : MessagesThereByRuns → DueMessagesAreThere
messages_there there r k again script due = there (run_of r script) k again due

pub nodes_there : NodesThereByRuns → DueNodesAreThere
nodes_there there r script = there (run_of r script) script.run

-- ---- numbers

pub starts_few : SeldomByRuns → EachStartsSeldom
starts_few seldom r n script there =
    let s : StartsSeldom _ = seldom (run_of r script) script.bounded script.run n in
    record { counted = s.counted; few = s.few }

pub deliveries_few : DeliveriesAreWithin → DeliveriesAreFew
deliveries_few within r script = let few = within (run_of r script) in let bounded = script.bounded in omega (arith, few, bounded)
