-- A turn that is due in the run of a script may come, and its node is able to take it.
use Rattle.std.proofs.Common.{◌≡◌, ℕ, ◌-◌, ◌^◌, ◌<◌, ◌≤◌, Bool, List, [], ◌∷◌, ◌++◌, length, max, unwrap_or, Option, Some, None, sym, ap, subst, ◌∙◌, arith}
use Rattle.std.specs.List.{AllByRecursion}
use Rattle.dtx_values.specs.Limits.{link_limit}
use Rattle.sql_statement.specs.Whole.{IsWhole}
use Rattle.tran_ids.specs.Listed.{numbered}
use Rattle.node_rules.specs.Data.{Stmt, Msg, Place, Input}
use Rattle.node_rules.specs.Data.inputs
use Rattle.node_rules.specs.Data.stmts
use Rattle.node_rules.specs.NodeState.{NodeState, TurnOutput}
use Rattle.node_rules.specs.Turn.{turn_of, kind_scn}
use Rattle.node_core.specs.Able.{IsAble, BringsScns}
use Rattle.net_bag.specs.Net.{packet_at}
use Rattle.node_ready_laws.specs.Rows.{MakesWhole}
use Rattle.node_ready_laws.specs.Names.{MakesNamed}
use Rattle.node_ready_laws.specs.Shapes.{TellsFew}
use Rattle.node_ready_laws.specs.Ready.{IsExpected}
use Rattle.run_ready_laws.specs.ReadyRuns.{RepliesTellFew, NodesAreReady}
use Rattle.run_undo_laws.specs.UndoRuns.{NodesKeepUndo}
use Rattle.run_rules.specs.Data.{Packet, Took, Happening, Command}
use Rattle.run_rules.specs.Data.happenings
use Rattle.run_rules.specs.Facts.{Facts, first_facts, no_place, place_at, node_at, facts_after, facts_of}
use Rattle.run_rules.specs.RunReport.{Past, start}
use Rattle.run_rules.specs.Past.{next, past}
use Rattle.run_rules.specs.Cuts.{Cut_by, By_nothing, By_strike, By_point, cut_by}
use Rattle.run_rules.specs.Lawful.{AreOfAScript, Comes, MayHappen, IsLawful, History, facts_at}
use Rattle.run_base_laws.specs.NodeLaws.{EachFactFrom, AtEachFact}
use Rattle.run_rules.specs.Due.{Due, Tells, Falls, Pends, Gives_up, Delivers, Recovers, Cuts, Joins, Loses, Stops, Starts, Begins, Ends, turn_by, turn_comes, turn_at, delivery_at, happens, comes_next, IsTheRun}
use Rattle.run_rules.specs.Reported.{past_of}
use Rattle.run_rules.specs.Scripts.{IsTheRunOf, TheRunIsLawful}
use Rattle.run_rules.proofs.AtNodeLemmas.{flat_some, there_too}
use Rattle.run_base_laws.proofs.SaidLemmas.{AllSent, numbered_so, sent_after}
use Rattle.run_number_laws.specs.Numbers.{HasFewHappenings, NumbersAreBelowLimits, MessagesAreBelowLimits}
use Rattle.run_number_laws.specs.There.{due_in, IsUp, FindsUp, DueNodesAreUp}
use Rattle.run_number_laws.specs.Turns.{WhatIsDueMayHappen, IsTurnDue, FindsAble, DueTurnsFindAble}
use Rattle.run_number_laws.proofs.LimitLemmas.{same_facts}
use Rattle.run_number_laws.proofs.TargetLemmas.{names_are}
use Rattle.run_number_laws.proofs.DueUpLemmas.{run_stands_so}

-- ---- what is due may happen

run_on : (places : List Place) (asked : List Command) (p : Past) (hs : List Happening) (h : Happening) → IsTheRun places asked p hs → comes_next places asked (past places asked p hs) ≡ Some h → IsTheRun places asked p (hs ++ h ∷ [])
unfolding IsTheRun past
run_on places asked p [] h run due = (due, tt)
run_on places asked p (x ∷ hs) h run due = (run.0, run_on places asked (next places asked p x) hs h run.1 due)

lawful_last : (places : List Place) (asked : List Command) (f : Facts) (hs : List Happening) (h : Happening) → IsLawful places asked f (hs ++ h ∷ []) → MayHappen places asked (facts_of places asked f hs) h
unfolding IsLawful facts_of
lawful_last places asked f [] h lawful = lawful.0
lawful_last places asked f (x ∷ hs) h lawful = lawful_last places asked (facts_after places asked f x) hs h lawful.1

pub what_is_due_may_happen : TheRunIsLawful → WhatIsDueMayHappen
what_is_due_may_happen lawful t run h due =
    let more : History = record { places = t.places; commands = t.commands; of_a_script = t.of_a_script; trace = t.trace ++ h ∷ [] } in
    subst (λ f. MayHappen t.places t.commands f h) (sym (same_facts t))
    (lawful_last t.places t.commands (first_facts t.places) t.trace h (lawful more (run_on t.places t.commands (start t.places) t.trace h run due)))

-- ---- the turn that is due

module _ (places : List Place) (asked : List Command) (p : Past) where
  -- A node that is up, and what may come there.
  pub record MayTurnOver (n : ℕ) (input : Input) : Type 0 where
    pub kept : NodeState
    pub up : node_at p.facts n ≡ Some kept
    pub took : Option Took
    pub comes : Comes p.facts kept n input took

  turn_may : (n : ℕ) (input : Input) (took : Option Took) (o : TurnOutput) (c : Cut_by) → MayHappen places asked p.facts (turn_by n input took o c) → MayTurnOver n input
  turn_may n input took o By_nothing may = record { kept = may.0; up = may.1.up; took = took; comes = may.1.comes }
  turn_may n input took o (By_strike stands) may = record { kept = may.0; up = may.1.up; took = took; comes = may.1.comes }
  turn_may n input took o (By_point root numbers stands) may = record { kept = may.0; up = may.1.up; took = took; comes = may.1.comes }

  at_node : (n : ℕ) (input : Input) (took : Option Took) → IsUp p.facts n → ((h : Happening) → turn_at places p.run_report n input took (node_at p.facts n) ≡ Some h → MayHappen places asked p.facts h) → MayTurnOver n input
  at_node n input took up may =
      let o : TurnOutput = turn_of (place_at places n) up.0 input in
      turn_may n input took o (cut_by p.run_report n up.0 input o) (may (turn_comes p.run_report n input took up.0 o) (ap (turn_at places p.run_report n input took) up.1))

  -- a message that is due
  message_may : (k : ℕ) (again : Bool) (x : Packet) → packet_at p.facts.net k ≡ Some x → IsUp p.facts x.msg.to.node → ((h : Happening) → delivery_at places p k again (packet_at p.facts.net k) ≡ Some h → MayHappen places asked p.facts h)
      → MayTurnOver x.msg.to.node (inputs.Message x.msg)
  message_may k again x at up may = at_node x.msg.to.node (inputs.Message x.msg) (Some (record { number = k; again = again })) up (λ h is. may h (ap (delivery_at places p k again) at ∙ is))

  same_target : (k : ℕ) (x y : Packet) → packet_at p.facts.net k ≡ Some x → packet_at p.facts.net k ≡ Some y → IsUp p.facts x.msg.to.node → IsUp p.facts y.msg.to.node
  same_target k x y one other up = let it : Some x ≡ Some y = sym one ∙ other in let same : x ≡ y = cc in subst (λ (z : Packet). IsUp p.facts z.msg.to.node) same up

  due_turn : (d : Due) → FindsUp p.facts d → ((h : Happening) → happens places p d ≡ Some h → MayHappen places asked p.facts h) → (n : ℕ) (input : Input) → IsTurnDue p.facts d n input → MayTurnOver n input
  due_turn (Pends c) up may n input is = subst (λ m. MayTurnOver m input) (sym is.0) (subst (MayTurnOver c.node) (sym is.1) (at_node c.node (inputs.Call c.session c.statement) None up may))
  due_turn (Gives_up m session) up may n input is = subst (λ m. MayTurnOver m input) (sym is.0) (subst (MayTurnOver m) (sym is.1) (at_node m (inputs.GiveUp session) None up may))
  due_turn (Recovers m) up may n input is = subst (λ m. MayTurnOver m input) (sym is.0) (subst (MayTurnOver m) (sym is.1) (at_node m inputs.Reco None up may))
  due_turn (Delivers k again) up may n input is =
      let x : Packet = is.0 in
      subst (λ m. MayTurnOver m input) (sym is.2) (subst (MayTurnOver x.msg.to.node) (sym is.3) (message_may k again x is.1 (same_target k up.0 x up.1 is.1 up.2) may))
  due_turn (Tells k) up may n input is = absurd is
  due_turn (Falls m) up may n input is = absurd is
  due_turn (Cuts a b) up may n input is = absurd is
  due_turn (Joins a b) up may n input is = absurd is
  due_turn (Loses k) up may n input is = absurd is
  due_turn (Stops m) up may n input is = absurd is
  due_turn (Starts m) up may n input is = absurd is
  due_turn (Begins c) up may n input is = absurd is
  due_turn Ends up may n input is = absurd is

-- ---- what comes is expected

whole_table : (s : Stmt) → IsWhole s → MakesWhole s
whole_table (stmts.CreateTable t) whole = whole
whole_table _ whole = tt

whole_names : (s : Stmt) → IsWhole s → MakesNamed s
whole_names (stmts.CreateLink l) whole = whole
whole_names (stmts.CreateSynonym y) whole = whole
whole_names _ whole = tt

-- no Reply that was sent tells of many
few_keep : (places : List Place) (asked : List Command) (f : Facts) (hs : List Happening) → AllSent (λ m. TellsFew m.kind) f.net.packets → EachFactFrom (RepliesTellFew places) places asked f hs
    → AllSent (λ m. TellsFew m.kind) (facts_of places asked f hs).net.packets
unfolding facts_of
few_keep places asked f [] now tells = now
few_keep places asked f (h ∷ hs) now tells = few_keep places asked (facts_after places asked f h) hs (on h tells.0) tells.1
  where
    on : (h : Happening) → RepliesTellFew places f h → AllSent (λ m. TellsFew m.kind) (facts_after places asked f h).net.packets
    on (happenings.Turn u) told = sent_after (λ m. TellsFew m.kind) places asked f (happenings.Turn u) told now
    on (happenings.Begun c) told = sent_after (λ m. TellsFew m.kind) places asked f (happenings.Begun c) tt now
    on (happenings.Cut a b) told = sent_after (λ m. TellsFew m.kind) places asked f (happenings.Cut a b) tt now
    on (happenings.Join a b) told = sent_after (λ m. TellsFew m.kind) places asked f (happenings.Join a b) tt now
    on (happenings.Lost k) told = sent_after (λ m. TellsFew m.kind) places asked f (happenings.Lost k) tt now
    on (happenings.Stopped n) told = sent_after (λ m. TellsFew m.kind) places asked f (happenings.Stopped n) tt now
    on (happenings.Started n boot) told = sent_after (λ m. TellsFew m.kind) places asked f (happenings.Started n boot) tt now

module _ (f : Facts) (few : AllSent (λ m. TellsFew m.kind) f.net.packets) (below : AllByRecursion (λ x. max x.msg.scn (kind_scn x.msg.kind) < 2 ^ 48 - 1) f.net.packets) where
  comes_expected : (k : NodeState) (node : ℕ) (input : Input) (took : Option Took) → Comes f k node input took → IsExpected input
  comes_expected k node (inputs.Call n (Some s)) None comes = record { fit = comes.0; whole = whole_table s comes.2; named = whole_names s comes.2; few = tt }
  comes_expected k node (inputs.Call n None) None comes = record { fit = comes.0; whole = tt; named = tt; few = tt }
  comes_expected k node (inputs.Call n s) (Some t) comes = absurd comes
  comes_expected k node (inputs.GiveUp n) took comes = record { fit = tt; whole = tt; named = tt; few = tt }
  comes_expected k node (inputs.Message m) (Some x) comes =
      record { fit = tt; whole = tt; named = tt; few = subst (λ (y : Msg). TellsFew y.kind) comes.1.same (numbered_so (λ y. TellsFew y.kind) f.net.packets x.number comes.0 few comes.1.sent) }
  comes_expected k node (inputs.Message m) None comes = absurd comes
  comes_expected k node inputs.Reco took comes = record { fit = tt; whole = tt; named = tt; few = tt }
  comes_expected k node inputs.Checkpoint took comes = record { fit = tt; whole = tt; named = tt; few = tt }

  comes_below : (k : NodeState) (node : ℕ) (input : Input) (took : Option Took) → Comes f k node input took → BringsScns input
  comes_below k node (inputs.Message m) (Some x) comes =
      subst (λ (y : Msg). max y.scn (kind_scn y.kind) < 2 ^ 48 - 1) comes.1.same (numbered_so (λ y. max y.scn (kind_scn y.kind) < 2 ^ 48 - 1) f.net.packets x.number comes.0 below comes.1.sent)
  comes_below k node (inputs.Message m) None comes = absurd comes
  comes_below k node (inputs.Call n s) took comes = tt
  comes_below k node (inputs.GiveUp n) took comes = tt
  comes_below k node inputs.Reco took comes = tt
  comes_below k node inputs.Checkpoint took comes = tt

-- ---- able nodes

few_links : (places : List Place) (asked : List Command) → AreOfAScript places asked → (f : Facts) (n : ℕ) (k : NodeState) → length f.nodes ≡ length places → node_at f n ≡ Some k → (place_at places n).links ≤ link_limit
few_links places asked script f n k many up =
    let p = there_too f.nodes places n (Some k) many (flat_some (numbered f.nodes n) k up) in
    let it : place_at places n ≡ p.0 = ap (λ o. unwrap_or o no_place) p.1 in
    subst (λ q. q.links ≤ link_limit) (sym it) (script.each n p.0 p.1).links.1

module _ (lawful : TheRunIsLawful) (ups : DueNodesAreUp) (ready : NodesAreReady) (undo : NodesKeepUndo) (numbers : NumbersAreBelowLimits) (messages : MessagesAreBelowLimits) where
  module _ (t : History) (few : HasFewHappenings t) (run : IsTheRunOf t) (tells : AtEachFact RepliesTellFew t) where
    able_at : (n : ℕ) (k : NodeState) → node_at (past_of t).facts n ≡ Some k → IsAble (place_at t.places n) k
    able_at n k up =
        let here : node_at (facts_at t) n ≡ Some k = subst (λ f. node_at f n ≡ Some k) (same_facts t) up in
        let below = numbers t few run n k up in
        let many : length (past_of t).facts.nodes ≡ length t.places = (run_stands_so t run).so.many in
        let names : length (place_at t.places n).names ≡ length t.places = names_are t.places t.commands t.of_a_script (past_of t).facts n k many up in
        let nodes = t.of_a_script.few in
        record {
          ready = ready t (lawful t run) tells n k here;
          undo = undo t (lawful t run) n k here;
          nodes = omega (arith, names, nodes);
          links = few_links t.places t.commands t.of_a_script (past_of t).facts n k many up;
          opens = below.opens;
          seqs = below.seqs;
          calls = below.calls;
          clock = below.clock;
        }

    finds : (n : ℕ) (input : Input) → MayTurnOver t.places t.commands (past_of t) n input → (k : NodeState) × FindsAble t n input k
    finds n input may =
        let told : AllSent (λ m. TellsFew m.kind) (past_of t).facts.net.packets =
        subst (λ f. AllSent (λ m. TellsFew m.kind) f.net.packets) (sym (same_facts t)) (few_keep t.places t.commands (first_facts t.places) t.trace tt tells) in (
          may.kept,
          record {
            up = may.up;
            took = may.took;
            comes = may.comes;
            able = able_at n may.kept may.up;
            expected = comes_expected (past_of t).facts told (messages t few run) may.kept n input may.took may.comes;
            scns = comes_below (past_of t).facts told (messages t few run) may.kept n input may.took may.comes;
          },
        )

  pub due_turns_find_able : DueTurnsFindAble
  due_turns_find_able t few run tells n input is =
      finds t few run tells n input (due_turn t.places t.commands (past_of t) (due_in t) (ups t run) (what_is_due_may_happen lawful t run) n input is)
