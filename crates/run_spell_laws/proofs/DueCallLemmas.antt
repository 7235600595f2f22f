-- The call that is due is of a statement that its printed text spells, and so is each call of a script's run: by induction over
-- its happenings.
use Rattle.std.proofs.Common.{◌≡◌, ℕ, ◌+◌, ◌==◌, ◌&&◌, not, Bool, true, false, List, [], ◌∷◌, ◌++◌, find, length, Option, Some, None, refl, sym, subst, ◌∙◌}
use Rattle.std.specs.Prelude.{is_some, nat_lt, unwrap_or, IfSome}
use Rattle.std.specs.List.{AllByRecursion}
use Rattle.std.proofs.lemmas.Bool.{cond_both}
use Rattle.sql_print.specs.Printing.{IsPrintable}
use Rattle.node_rules.specs.Data.{Stmt, Place, Input}
use Rattle.node_rules.specs.Data.inputs
use Rattle.node_rules.specs.NodeState.{NodeState, TurnOutput}
use Rattle.node_rules.specs.Turn.{turn_of}
use Rattle.tran_ids.specs.Listed.{numbered}
use Rattle.net_bag.specs.Net.{first_flying, may_deliver, may_repeat, packet_at}
use Rattle.run_rules.specs.Data.{Packet, Took, Turn, Happening, Command}
use Rattle.run_rules.specs.Data.commands
use Rattle.run_rules.specs.Data.happenings
use Rattle.run_rules.specs.Calls.{is_call_at, call_at}
use Rattle.run_rules.specs.Commands.{is_enabled}
use Rattle.run_rules.specs.Cuts.{Cut_by, By_nothing, By_strike, By_point, cut_by}
use Rattle.run_rules.specs.Disks.{Strike, struck}
use Rattle.run_rules.specs.Due.{Due, Tells, Falls, Pends, Gives_up, Delivers, Recovers, Cuts, Joins, Loses, Stops, Starts, Begins, Ends, if_due, call_due, act_of, next_command, next_give_up, next_delivery, most_of, next_pumped, flows, acts_first, acts_once, follows_first, falls_first, first_losses, due_of, turn_by, turn_at, start_by, delivery_at, happens, comes_next, IsTheRun}
use Rattle.run_rules.specs.Facts.{Facts, first_facts, place_at, node_at, is_up, command_at, facts_after, facts_of}
use Rattle.run_rules.specs.Scripts.{TheRunIsLawful}
use Rattle.run_rules.specs.Lawful.{MayHappen, Comes, IsLawful, facts_at}
use Rattle.run_rules.specs.Lines.{spent}
use Rattle.run_base_laws.specs.NodeLaws.{EachFactFrom}
use Rattle.run_rules.specs.Past.{report_after, next, past}
use Rattle.run_rules.specs.RunReport.{Call, RunReport, Past, orders_at, start}
use Rattle.run_ready_laws.proofs.FlightLemmas.{all_at}
use Rattle.run_ready_laws.proofs.PendingLemmas.{found_so}
use Rattle.run_spell_laws.specs.ByteRuns.{CallIsSpelled, CallsAreSpelled, TurnsHaveBytes, AsksSpelled, ScriptsCallsAreSpelled, DueCallsAreSpelled, DueTurnsHaveBytes}
use Rattle.run_spell_laws.proofs.ScriptCallLemmas.{CallIs, CallsAre, told_are}

-- ---- what is due

-- a call that is due is such
abbrev DueIs : Due → Type 0
DueIs (Pends c) = CallIs c
DueIs _ = Unit {0}

if_is : (b : Bool) (d : Due) → DueIs d → IfSome (if_due b d) DueIs
if_is true d is = is
if_is false d is = tt

tells_is : (d : Due) (ks : List ℕ) → DueIs d → DueIs (first_losses d ks)
tells_is d [] is = is
tells_is d (k ∷ ks) is = tt

falls_is : (d : Due) (o : Option ℕ) → DueIs d → DueIs (falls_first d o)
falls_is d None is = is
falls_is d (Some n) is = tt

follows_is : (d : Due) (o : Option Call) → DueIs d → IfSome o CallIs → DueIs (follows_first d o)
follows_is d None is next = is
follows_is d (Some c) is next = next

acts_first_is : (later : Due) (o : Option Due) → DueIs later → IfSome o DueIs → DueIs (acts_first later o)
acts_first_is later None is act = is
acts_first_is later (Some d) is act = act

module _ (asked : List Command) (f : Facts) (t : RunReport) (now : CallsAre t) where
  call_is : (node session : ℕ) (o : Option Call) → find (is_call_at node session) t.calls ≡ o → IfSome (call_due f.command o) DueIs
  call_is node session None is = tt
  call_is node session (Some c) is = if_is (c.command == f.command) (Pends c) (found_so CallIs (is_call_at node session) t.calls c now.calls is).0

  act_is : (command : Command) → IfSome (act_of f t command) DueIs
  act_is (commands.At node session statement) = call_is node session (call_at t node session) refl
  act_is (commands.Cut a b) = tt
  act_is (commands.Join a b) = tt
  act_is (commands.Lose k) = if_is (may_deliver f.net k) (Loses k) tt
  act_is (commands.Stop n) = if_is (is_up f n) (Stops n) tt
  act_is (commands.Start n) = if_is (not (is_up f n)) (Starts n) tt
  act_is (commands.Deliver k) = if_is (may_deliver f.net k) (Delivers k false) tt
  act_is (commands.Again k) = if_is (may_repeat f.net k) (Delivers k true) tt
  act_is (commands.GiveUp n session) = if_is (is_up f n && is_some (call_at t n session)) (Gives_up n session) tt
  act_is (commands.Reco n) = if_is (is_enabled (node_at f n)) (Recovers n) tt
  act_is _ = tt

  command_is : DueIs (next_command asked f)
  command_is = cond_both (nat_lt f.command (length asked)) (Begins (f.command + 1)) Ends DueIs (λ more. tt) (λ none. tt)

  gives_is : (cs : List Call) → DueIs (next_give_up asked f cs)
  gives_is [] = command_is
  gives_is (c ∷ cs) = tt

  delivery_is : (o : Option ℕ) → DueIs (next_delivery asked f t o)
  delivery_is None = gives_is t.calls
  delivery_is (Some k) = cond_both (spent t.deliveries) (next_give_up asked f t.calls) (Delivers k false) DueIs (λ most. gives_is t.calls) (λ more. tt)

  pumped_is : (most : ℕ) (o : Option ℕ) → DueIs (next_pumped asked f t most o)
  pumped_is most None = command_is
  pumped_is most (Some k) = cond_both (nat_lt t.deliveries most) (Delivers k false) (next_command asked f) DueIs (λ more. tt) (λ enough. command_is)

  flows_is : DueIs (flows asked f t)
  flows_is = cond_both t.hold _ _ DueIs (λ on. pumped_is (most_of (command_at asked f.command)) (first_flying f.net)) (λ off. delivery_is (first_flying f.net))

  once_is : DueIs (acts_once asked f t)
  once_is = cond_both t.acted _ _ DueIs (λ acted. flows_is) (λ fresh. acts_first_is (flows asked f t) (act_of f t (command_at asked f.command)) flows_is (act_is (command_at asked f.command)))

due_is : (asked : List Command) (p : Past) → CallsAre p.run_report → DueIs (due_of asked p)
unfolding due_of
due_is asked p now =
    tells_is _ p.facts.losses_to_report (falls_is _ p.facts.node_to_stop (falls_is _ p.run_report.start_to_stop
    (follows_is (acts_once asked p.facts p.run_report) p.run_report.next_call (once_is asked p.facts p.run_report now) now.next_call)))

-- ---- what happens

module _ (places : List Place) (f : Facts) where
  -- the happening is this one
  is_this : (g h : Happening) → CallsAreSpelled places f g → Some g ≡ Some h → CallsAreSpelled places f h
  is_this g h spelled is = subst (CallsAreSpelled places f) (let it : g ≡ h = cc in it) spelled

  cut_is : (node : ℕ) (input : Input) (took : Option Took) (o : TurnOutput) (c : Cut_by) → CallIsSpelled input → CallsAreSpelled places f (turn_by node input took o c)
  cut_is node input took o By_nothing spelled = spelled
  cut_is node input took o (By_strike stands) spelled = spelled
  cut_is node input took o (By_point root numbers stands) spelled = spelled

  turn_is : (t : RunReport) (node : ℕ) (input : Input) (took : Option Took) (o : Option NodeState) (h : Happening) → CallIsSpelled input → turn_at places t node input took o ≡ Some h → CallsAreSpelled places f h
  turn_is t node input took None h spelled is = absurd cc
  turn_is t node input took (Some k) h spelled is =
      let o : TurnOutput = turn_of (place_at places node) k input in
      is_this (turn_by node input took o (cut_by t node k input o)) h (cut_is node input took o (cut_by t node k input o) spelled) is

  start_is : (g : Facts) (n : ℕ) (o : Option Strike) → CallsAreSpelled places f (start_by g n o)
  start_is g n None = tt
  start_is g n (Some s) = cond_both s.stands _ _ (CallsAreSpelled places f) (λ stands. tt) (λ falls. tt)

  packet_is : (p : Past) (k : ℕ) (again : Bool) (o : Option Packet) (h : Happening) → delivery_at places p k again o ≡ Some h → CallsAreSpelled places f h
  packet_is p k again None h is = absurd cc
  packet_is p k again (Some x) h is = turn_is p.run_report x.msg.to.node (inputs.Message x.msg) (Some (record { number = k; again = again })) (node_at p.facts x.msg.to.node) h tt is

  asked_is : (session : ℕ) (o : Option Stmt) → IfSome o IsPrintable → CallIsSpelled (inputs.Call session o)
  asked_is session None is = tt
  asked_is session (Some s) is = is

  happens_is : (p : Past) (d : Due) (h : Happening) → DueIs d → happens places p d ≡ Some h → CallsAreSpelled places f h
  happens_is p (Tells k) h due is = is_this (happenings.Lost k) h tt is
  happens_is p (Falls n) h due is = is_this (happenings.Stopped n) h tt is
  happens_is p (Pends c) h due is = turn_is p.run_report c.node (inputs.Call c.session c.statement) None (node_at p.facts c.node) h (asked_is c.session c.statement due.0) is
  happens_is p (Gives_up n session) h due is = turn_is p.run_report n (inputs.GiveUp session) None (node_at p.facts n) h tt is
  happens_is p (Delivers k again) h due is = packet_is p k again (packet_at p.facts.net k) h is
  happens_is p (Recovers n) h due is = turn_is p.run_report n inputs.Reco None (node_at p.facts n) h tt is
  happens_is p (Cuts a b) h due is = is_this (happenings.Cut a b) h tt is
  happens_is p (Joins a b) h due is = is_this (happenings.Join a b) h tt is
  happens_is p (Loses k) h due is = is_this (happenings.Lost k) h tt is
  happens_is p (Stops n) h due is = is_this (happenings.Stopped n) h tt is
  happens_is p (Starts n) h due is = is_this (start_by p.facts n (struck 3 (orders_at p.run_report n))) h (start_is p.facts n (struck 3 (orders_at p.run_report n))) is
  happens_is p (Begins c) h due is = is_this (happenings.Begun c) h tt is
  happens_is p Ends h due is = absurd cc

-- ---- runs

next_is : (places : List Place) (asked : List Command) (p : Past) (h : Happening) → next places asked p h ≡ record { facts = facts_after places asked p.facts h; run_report = report_after places asked p.facts p.run_report h }
unfolding next facts_after
next_is places asked p (happenings.Turn u) = refl
next_is places asked p (happenings.Begun c) = refl
next_is places asked p (happenings.Cut a b) = refl
next_is places asked p (happenings.Join a b) = refl
next_is places asked p (happenings.Lost k) = refl
next_is places asked p (happenings.Stopped n) = refl
next_is places asked p (happenings.Started n boot) = refl

command_at_is : (asked : List Command) (c : ℕ) (o : Option Command) → numbered asked c ≡ o → AllByRecursion AsksSpelled asked → AsksSpelled (unwrap_or o commands.ShowBook)
command_at_is asked c None is all = tt
command_at_is asked c (Some x) is all = all_at AsksSpelled asked c x all is

module _ (places : List Place) (asked : List Command) (asks : AllByRecursion AsksSpelled asked) where
  each_asks : (c : ℕ) → AsksSpelled (command_at asked c)
  each_asks c = command_at_is asked c (numbered asked c) refl asks

  spelled_each : (p : Past) (hs : List Happening) → CallsAre p.run_report → IsTheRun places asked p hs → EachFactFrom (CallsAreSpelled places) places asked p.facts hs
  unfolding IsTheRun
  spelled_each p [] now run = tt
  spelled_each p (h ∷ hs) now run = (
    happens_is places p.facts p (due_of asked p) h (due_is asked p now) run.0,
    spelled_each (record { facts = facts_after places asked p.facts h; run_report = report_after places asked p.facts p.run_report h }) hs (told_are places asked p.facts p.run_report h each_asks now)
        (subst (λ q. IsTheRun places asked q hs) (next_is places asked p h) run.1),
  )

  past_are : (p : Past) (hs : List Happening) → CallsAre p.run_report → CallsAre (past places asked p hs).run_report
  unfolding past
  past_are p [] now = now
  past_are p (h ∷ hs) now = past_are (next places asked p h) hs (subst (λ q. CallsAre q.run_report) (sym (next_is places asked p h)) (told_are places asked p.facts p.run_report h each_asks now))

pub scripts_calls_are_spelled : ScriptsCallsAreSpelled
scripts_calls_are_spelled t asks run = spelled_each t.places t.commands asks (start t.places) t.trace (record { calls = tt; next_call = tt }) run

pub due_calls_are_spelled : DueCallsAreSpelled
due_calls_are_spelled t c asks due =
    let is : DueIs (due_of t.commands (past t.places t.commands (start t.places) t.trace)) = due_is t.commands _ (past_are t.places t.commands asks (start t.places) t.trace (record { calls = tt; next_call = tt })) in
    (subst DueIs due is).0

-- ---- the turn that is due

module _ (places : List Place) (asked : List Command) where
  run_last : (p : Past) (hs : List Happening) (h : Happening) → IsTheRun places asked p hs → comes_next places asked (past places asked p hs) ≡ Some h → IsTheRun places asked p (hs ++ h ∷ [])
  unfolding IsTheRun past
  run_last p [] h run is = (is, tt)
  run_last p (g ∷ hs) h run is = (run.0, run_last (next places asked p g) hs h run.1 is)

  last_may : (f : Facts) (hs : List Happening) (h : Happening) → IsLawful places asked f (hs ++ h ∷ []) → MayHappen places asked (facts_of places asked f hs) h
  unfolding IsLawful facts_of
  last_may f [] h lawful = lawful.0
  last_may f (g ∷ hs) h lawful = last_may (facts_after places asked f g) hs h lawful.1

  due_spelled : (p : Past) (u : Turn) → CallsAre p.run_report → comes_next places asked p ≡ Some (happenings.Turn u) → CallIsSpelled u.input
  due_spelled p u now is = happens_is places p.facts p (due_of asked p) (happenings.Turn u) (due_is asked p now) is

pub due_turns_have_bytes : TheRunIsLawful → TurnsHaveBytes → DueTurnsHaveBytes
due_turns_have_bytes run_is_lawful turns t u k asks run few is up expected links room =
    let lawful = run_is_lawful (record { places = t.places; commands = t.commands; of_a_script = t.of_a_script; trace = t.trace ++ happenings.Turn u ∷ [] })
    (run_last t.places t.commands (start t.places) t.trace (happenings.Turn u) run is) in
    let may = last_may t.places t.commands (first_facts t.places) t.trace (happenings.Turn u) lawful in
    let spelled = due_spelled t.places t.commands (past t.places t.commands (start t.places) t.trace) u (past_are t.places t.commands asks (start t.places) t.trace (record { calls = tt; next_call = tt })) is in
    let one : Some may.0 ≡ Some k = sym may.1.up ∙ up in
    let comes : Comes (facts_at t) k u.node u.input u.took = subst (λ x. Comes (facts_at t) x u.node u.input u.took) (let it : may.0 ≡ k = cc in it) may.1.comes in
    turns t (record { lawful = run_is_lawful t run; few = few; spelled = scripts_calls_are_spelled t asks run }) u.node k u.input u.took up comes spelled expected links room
