-- What is due names nodes and a message that are there, and the node of a turn that is due is up.
use Rattle.std.proofs.Common.{◌≡◌, ℕ, zero, suc, ◌+◌, ◌==◌, ◌&&◌, ◌||◌, not, Bool, true, false, List, [], ◌∷◌, length, IfSome, Option, Some, None, refl, sym, subst, arith}
use Rattle.std.specs.Prelude.{is_some, nat_lt}
use Rattle.std.specs.List.{AllByRecursion}
use Rattle.std.proofs.lemmas.Bool.{cond_both}
use Rattle.agreement.specs.Events.{Event}
use Rattle.node_rules.specs.Data.{Place}
use Rattle.node_rules.specs.NodeState.{NodeState}
use Rattle.net_bag.specs.Net.{flies, is_cut, is_down, is_blocked, packet_at, is_flying_at, may_pass, first_flying}
use Rattle.run_rules.specs.Data.{Packet, Happening, Command}
use Rattle.run_rules.specs.Data.commands
use Rattle.run_rules.specs.Births.{Born, births_after}
use Rattle.run_base_laws.specs.RunEvents.{events_after}
use Rattle.run_rules.specs.Facts.{Facts, first_facts, node_at, is_up, command_at, facts_after}
use Rattle.run_rules.specs.RunReport.{Past, RunReport, Call, start}
use Rattle.run_rules.specs.Past.{report_after, past}
use Rattle.run_rules.specs.Lines.{spent}
use Rattle.run_rules.specs.Commands.{is_enabled}
use Rattle.run_rules.specs.Calls.{is_call_at, call_at}
use Rattle.run_rules.specs.Lawful.{IsNode, IsCommandOver, NothingComesFirst, AreOfAScript, History}
use Rattle.run_rules.specs.Due.{Due, Pends, Gives_up, Delivers, Recovers, Loses, Stops, Starts, Begins, Ends, if_due, call_due, act_of, next_command, next_give_up, next_delivery, most_of, next_pumped, flows, acts_first, acts_once, follows_first, falls_first, first_losses, due_of, IsTheRun}
use Rattle.run_rules.specs.Reported.{past_of}
use Rattle.run_rules.specs.Scripts.{IsTheRunOf, TheRunIsLawful}
use Rattle.run_rules.proofs.FactLemmas.{facts_are}
use Rattle.run_base_laws.proofs.BirthRunLemmas.{StandBorn, stand_born_on, stand_born_first}
use Rattle.run_base_laws.proofs.RestRunLemmas.{RootsStand, roots_stand_on, first_rests}
use Rattle.run_ready_laws.proofs.FlightLemmas.{all_at}
use Rattle.run_ready_laws.proofs.DueLemmas.{ComesBeside, IsDue, due_so}
use Rattle.run_ready_laws.proofs.DueLemmas as due
use Rattle.run_ready_laws.proofs.PendingLemmas.{IsOf, called_at, there_called, found_so, at_parts}
use Rattle.run_ready_laws.proofs.OtherStandLemmas.{proper_at}
use Rattle.run_ready_laws.proofs.RunLawfulLemmas.{KeptRow_so, goes_on, first_stands}
use Rattle.run_number_laws.specs.There.{may_come, DueMessagesAreThere, NamesNodes, DueNodesAreThere, IsUp, FindsUp, DueNodesAreUp, MessagesGoToNodes}
use Rattle.run_number_laws.proofs.CountLemmas.{next_is}
use Rattle.run_number_laws.proofs.TargetLemmas.{up_there}
use Rattle.run_number_laws.proofs.DownLemmas.{DownsAreKnown, downs_on}

-- ---- messages

-- a message that is due can come
abbrev MayCome : Facts → Due → Type 0
MayCome f (Delivers k again) = may_come f k again ≡ true
MayCome f _ = Unit {0}

module _ (asked : List Command) (f : Facts) (t : RunReport) where
  beside_comes : {d : Due} → ComesBeside asked f t d → MayCome f d
  beside_comes (due.Gives n s c at) = tt
  beside_comes (due.Takes k may) = may
  beside_comes (due.Repeats k may) = may
  beside_comes (due.Asks n) = tt
  beside_comes (due.Cuts_so a b command) = tt
  beside_comes (due.Joins_so a b command) = tt
  beside_comes (due.Loses_so k may) = tt
  beside_comes (due.Stops_so n command) = tt
  beside_comes (due.Starts_so n fresh command off) = tt
  beside_comes (due.Next more) = tt
  beside_comes due.None_left = tt

  due_comes : {d : Due} → IsDue asked f t d → MayCome f d
  due_comes (due.Told k ks losses) = tt
  due_comes (due.Node_falls n told stops) = tt
  due_comes (due.Start_falls n told upright falls) = tt
  due_comes (due.Follows c settled no_start follows) = tt
  due_comes (due.Own_call c n s text settled no_start alone fresh command at mine) = tt
  due_comes (due.Beside settled no_start alone none comes) = beside_comes comes

pub due_messages_are_there : DueMessagesAreThere
due_messages_are_there t k again is = subst (MayCome (past_of t).facts) is (due_comes t.commands (past_of t).facts (past_of t).run_report (due_so t.commands (past_of t)))

-- ---- RECO

-- distributed recovery is enabled at the node that is due to recover
abbrev Enabled : Facts → Due → Type 0
Enabled f (Recovers n) = is_enabled (node_at f n) ≡ true
Enabled f _ = Unit {0}

module _ (asked : List Command) (f : Facts) (t : RunReport) where
  command_enabled : Enabled f (next_command asked f)
  command_enabled = cond_both (nat_lt f.command (length asked)) (Begins (f.command + 1)) Ends (Enabled f) (λ more. tt) (λ all. tt)

  give_up_enabled : (cs : List Call) → Enabled f (next_give_up asked f cs)
  give_up_enabled [] = command_enabled
  give_up_enabled (c ∷ cs) = tt

  delivery_enabled : (o : Option ℕ) → Enabled f (next_delivery asked f t o)
  delivery_enabled None = give_up_enabled t.calls
  delivery_enabled (Some k) = cond_both (spent t.deliveries) (next_give_up asked f t.calls) (Delivers k false) (Enabled f) (λ all. give_up_enabled t.calls) (λ more. tt)

  pumped_enabled : (most : ℕ) (o : Option ℕ) → Enabled f (next_pumped asked f t most o)
  pumped_enabled most None = command_enabled
  pumped_enabled most (Some k) = cond_both (nat_lt t.deliveries most) (Delivers k false) (next_command asked f) (Enabled f) (λ more. tt) (λ all. command_enabled)

  flows_enabled : Enabled f (flows asked f t)
  flows_enabled =
      cond_both t.hold (next_pumped asked f t (most_of (command_at asked f.command)) (first_flying f.net)) (next_delivery asked f t (first_flying f.net)) (Enabled f)
      (λ on. pumped_enabled (most_of (command_at asked f.command)) (first_flying f.net)) (λ off. delivery_enabled (first_flying f.net))

  -- an act of its own, where it may be
  act_enabled : (q : Bool) (d : Due) → (q ≡ true → Enabled f d) → Enabled f (acts_first (flows asked f t) (if_due q d))
  act_enabled true d is = is refl
  act_enabled false d is = flows_enabled

  call_enabled : (o : Option Call) → Enabled f (acts_first (flows asked f t) (call_due f.command o))
  call_enabled None = flows_enabled
  call_enabled (Some c) = act_enabled (c.command == f.command) (Pends c) (λ is. tt)

  acts_enabled : (c : Command) → Enabled f (acts_first (flows asked f t) (act_of f t c))
  acts_enabled (commands.At n session s) = call_enabled (call_at t n session)
  acts_enabled (commands.Cut a b) = tt
  acts_enabled (commands.Join a b) = tt
  acts_enabled (commands.Lose k) = act_enabled _ (Loses k) (λ is. tt)
  acts_enabled (commands.Stop n) = act_enabled (is_up f n) (Stops n) (λ is. tt)
  acts_enabled (commands.Start n) = act_enabled (not (is_up f n)) (Starts n) (λ is. tt)
  acts_enabled (commands.Deliver k) = act_enabled _ (Delivers k false) (λ is. tt)
  acts_enabled (commands.Again k) = act_enabled _ (Delivers k true) (λ is. tt)
  acts_enabled (commands.GiveUp n session) = act_enabled (is_up f n && is_some (call_at t n session)) (Gives_up n session) (λ is. tt)
  acts_enabled (commands.Reco n) = act_enabled (is_enabled (node_at f n)) (Recovers n) (λ is. is)
  acts_enabled _ = flows_enabled

  once_enabled : Enabled f (acts_once asked f t)
  once_enabled = cond_both t.acted (flows asked f t) (acts_first (flows asked f t) (act_of f t (command_at asked f.command))) (Enabled f) (λ acted. flows_enabled) (λ fresh. acts_enabled (command_at asked f.command))

  follows_enabled : (d : Due) (o : Option Call) → Enabled f d → Enabled f (follows_first d o)
  follows_enabled d None is = is
  follows_enabled d (Some c) is = tt

  falls_enabled : (d : Due) (o : Option ℕ) → Enabled f d → Enabled f (falls_first d o)
  falls_enabled d None is = is
  falls_enabled d (Some n) is = tt

  tells_enabled : (d : Due) (ks : List ℕ) → Enabled f d → Enabled f (first_losses d ks)
  tells_enabled d [] is = is
  tells_enabled d (k ∷ ks) is = tt

due_enabled : (asked : List Command) (p : Past) → Enabled p.facts (due_of asked p)
unfolding due_of
due_enabled asked p =
    let f : Facts = p.facts in
    let t : RunReport = p.run_report in
    tells_enabled asked f t _ f.losses_to_report (falls_enabled asked f t _ f.node_to_stop (falls_enabled asked f t _ t.start_to_stop (follows_enabled asked f t _ t.next_call (once_enabled asked f t))))

-- ---- nodes

enabled_up : (f : Facts) (n : ℕ) → is_enabled (node_at f n) ≡ true → IsUp f n
enabled_up f n is = by (node_at f n) refl is
  where
    by : (o : Option NodeState) → node_at f n ≡ o → is_enabled o ≡ true → IsUp f n
    by None at is = absurd cc
    by (Some k) at is = (k, at)

or_last : (a b : Bool) → (a || b) ≡ false → b ≡ false
or_last true b is = absurd cc
or_last false b is = is

module _ (places : List Place) (asked : List Command) (script : AreOfAScript places asked) (p : Past) (now : KeptRow_so places asked p) (downs : DownsAreKnown (length places) p.facts)
    (targets : AllByRecursion (λ x. IsNode (length places) x.msg.to.node) p.facts.net.packets) where
  abbrev f : Facts
  f = p.facts

  abbrev t : RunReport
  t = p.run_report

  -- a pending call is at a node that is up
  called_up : (n s : ℕ) → NothingComesFirst f → called_at t.calls n s ≡ true → IsUp f n
  called_up n s settled called = by (node_at f n) refl
    where
      by : (o : Option NodeState) → node_at f n ≡ o → IsUp f n
      by None at = let none : called_at t.calls n s ≡ false = now.calls.down n at (λ is. (let upright = settled.upright in absurd (cc (is, upright)))) s in absurd (cc (called, none))
      by (Some k) at = (k, at)

  -- a message that passes goes to one
  target_up : (k : ℕ) (x : Packet) → NothingComesFirst f → packet_at f.net k ≡ Some x → is_blocked f.net x.msg ≡ false → (y : Packet) × (packet_at f.net k ≡ Some y) × IsUp f y.msg.to.node
  target_up k x settled at free = (x, at, by (node_at f x.msg.to.node) refl)
    where
      by : (o : Option NodeState) → node_at f x.msg.to.node ≡ o → IsUp f x.msg.to.node
      by None none =
          let there : IsNode (length places) x.msg.to.node = all_at (λ y. IsNode (length places) y.msg.to.node) f.net.packets k x targets at in
          let down : is_down f.net x.msg.to.node ≡ true = downs x.msg.to.node there none (λ is. (let upright = settled.upright in absurd (cc (is, upright)))) in
          let passes : is_down f.net x.msg.to.node ≡ false = or_last (is_cut f.net x.msg.from.node x.msg.to.node) (is_down f.net x.msg.to.node) free in
          absurd (cc (down, passes))
      by (Some k) up = (k, up)

  flying_up : (k : ℕ) → NothingComesFirst f → (o : Option Packet) → packet_at f.net k ≡ o → is_flying_at o ≡ true → (y : Packet) × (packet_at f.net k ≡ Some y) × IsUp f y.msg.to.node
  flying_up k settled None at flying = absurd cc
  flying_up k settled (Some x) at flying = target_up k x settled at (all_at (λ y. flies y ≡ true → is_blocked f.net y.msg ≡ false) f.net.packets k x now.free at flying)

  copy_up : (k : ℕ) → NothingComesFirst f → (o : Option Packet) → packet_at f.net k ≡ o → may_pass f.net o ≡ true → (y : Packet) × (packet_at f.net k ≡ Some y) × IsUp f y.msg.to.node
  copy_up k settled None at passes = absurd cc
  copy_up k settled (Some x) at passes = target_up k x settled at (let it : is_blocked f.net x.msg ≡ false = grind (arith, passes) in it)

  beside_up : {d : Due} → NothingComesFirst f → ComesBeside asked f t d → Enabled f d → FindsUp f d
  beside_up settled (due.Gives n s c at) on = called_up n s settled (there_called n s t.calls c at)
  beside_up settled (due.Takes k may) on = flying_up k settled (packet_at f.net k) refl may
  beside_up settled (due.Repeats k may) on = copy_up k settled (packet_at f.net k) refl may
  beside_up settled (due.Asks n) on = enabled_up f n on
  beside_up settled (due.Cuts_so a b command) on = tt
  beside_up settled (due.Joins_so a b command) on = tt
  beside_up settled (due.Loses_so k may) on = tt
  beside_up settled (due.Stops_so n command) on = tt
  beside_up settled (due.Starts_so n fresh command off) on = tt
  beside_up settled (due.Next more) on = tt
  beside_up settled due.None_left on = tt

  due_up : {d : Due} → IsDue asked f t d → Enabled f d → FindsUp f d
  due_up (due.Told k ks losses) on = tt
  due_up (due.Node_falls n told stops) on = tt
  due_up (due.Start_falls n told upright falls) on = tt
  due_up (due.Follows c settled no_start follows) on = called_up c.node c.session settled (now.calls.next_there c follows)
  due_up (due.Own_call c n s text settled no_start alone fresh command at mine) on =
      let found = found_so (IsOf asked f.command) (is_call_at n s) t.calls c now.calls.of at in
      subst (IsUp f) (sym (at_parts n s c found.1).0) (called_up n s settled (there_called n s t.calls c at))
  due_up (due.Beside settled no_start alone none comes) on = beside_up settled comes on

  -- ---- the nodes that are named

  abbrev count : ℕ
  count = length places

  its_node : (n : ℕ) → IsUp f n → IsNode count n
  its_node n up = up_there places asked script f n up.0 now.many up.1

  command_is : (c : Command) → command_at asked f.command ≡ c → IsCommandOver count c
  command_is c is = subst (IsCommandOver count) is (proper_at count asked f.command script.proper)

  beside_names : {d : Due} → ComesBeside asked f t d → FindsUp f d → NamesNodes count d
  beside_names (due.Gives n s c at) up = its_node n up
  beside_names (due.Takes k may) up = tt
  beside_names (due.Repeats k may) up = tt
  beside_names (due.Asks n) up = its_node n up
  beside_names (due.Cuts_so a b command) up = command_is _ command
  beside_names (due.Joins_so a b command) up = command_is _ command
  beside_names (due.Loses_so k may) up = tt
  beside_names (due.Stops_so n command) up = command_is _ command
  beside_names (due.Starts_so n fresh command off) up = command_is _ command
  beside_names (due.Next more) up = tt
  beside_names due.None_left up = tt

  due_names : {d : Due} → IsDue asked f t d → FindsUp f d → NamesNodes count d
  due_names (due.Told k ks losses) up = tt
  due_names (due.Node_falls n told stops) up = subst (λ o. IfSome o (IsNode count)) stops now.calls.stops
  due_names (due.Start_falls n told upright falls) up = subst (λ o. IfSome o (IsNode count)) falls now.calls.starts
  due_names (due.Follows c settled no_start follows) up = its_node c.node up
  due_names (due.Own_call c n s text settled no_start alone fresh command at mine) up = its_node c.node up
  due_names (due.Beside settled no_start alone none comes) up = beside_names comes up

  -- what is due
  pub up_now : FindsUp f (due_of asked p)
  up_now = due_up (due_so asked p) (due_enabled asked p)

  pub names_now : NamesNodes count (due_of asked p)
  names_now = due_names (due_so asked p) up_now

-- ---- runs

first_up : (ps : List Place) (n : ℕ) → IsNode (length ps) n → node_at (first_facts ps) n ≡ None → ⊥
first_up ps zero node none = absurd (omega (arith, node.0))
first_up [] (suc i) node none = absurd (omega (arith, node.1))
first_up (p ∷ ps) (suc zero) node none = absurd cc
first_up (p ∷ ps) (suc (suc i)) node none = first_up ps (suc i) (omega arith, omega (arith, node.1)) none

module _ (places : List Place) (asked : List Command) (script : AreOfAScript places asked) where
  -- What stands after each happening that was due.
  pub record RunStands (p : Past) : Type 0 where
    pub so : KeptRow_so places asked p
    pub downs : DownsAreKnown (length places) p.facts

  run_stands : (p : Past) (hs : List Happening) (es : List Event) (bs : List Born) → StandBorn places asked script.each p.facts es bs → RootsStand places asked script.each p.facts → RunStands p → IsTheRun places asked p hs
      → RunStands (past places asked p hs)
  unfolding IsTheRun past
  run_stands p [] es bs born roots now run = now
  run_stands p (h ∷ hs) es bs born roots now run =
      let goes = goes_on places asked script p es bs born roots now.so h run.0 in
      let q : Past = record { facts = facts_after places asked p.facts h; run_report = report_after places asked p.facts p.run_report h } in
      subst (λ r. RunStands (past places asked r hs)) (sym (next_is places asked p h))
      (run_stands q hs (events_after places asked p.facts h es) (births_after places p.facts h bs) (stand_born_on places asked script.each p.facts es bs h born goes.0)
      (roots_stand_on places asked script.each p.facts es bs born roots h goes.0) (record { so = goes.1; downs = downs_on places asked p.facts born.0.0.even now.so.many now.downs h goes.0 })
      (subst (λ r. IsTheRun places asked r hs) (next_is places asked p h) run.1))

  -- before anything happened each node is up
  first_downs : DownsAreKnown (length places) (first_facts places)
  first_downs n node none stops = absurd (first_up places n node none)

pub run_stands_so : (t : History) → IsTheRunOf t → RunStands t.places t.commands t.of_a_script (past_of t)
run_stands_so t run =
    run_stands t.places t.commands t.of_a_script (start t.places) t.trace [] [] (stand_born_first t.places t.commands t.of_a_script.each) (first_rests t.places t.commands t.of_a_script.each)
    (record { so = first_stands t.places t.commands t.of_a_script; downs = first_downs t.places t.commands t.of_a_script }) run

module _ (lawful : TheRunIsLawful) (go : MessagesGoToNodes) where
  targets : (t : History) → IsTheRunOf t → AllByRecursion (λ x. IsNode (length t.places) x.msg.to.node) (past_of t).facts.net.packets
  targets t run = subst (λ g. AllByRecursion (λ x. IsNode (length t.places) x.msg.to.node) g.net.packets) (sym (facts_are t.places t.commands (start t.places) t.trace)) (go t (lawful t run))

  pub due_nodes_are_up : DueNodesAreUp
  due_nodes_are_up t run = let stands = run_stands_so t run in up_now t.places t.commands t.of_a_script (past_of t) stands.so stands.downs (targets t run)

  pub due_nodes_are_there : DueNodesAreThere
  due_nodes_are_there t run = let stands = run_stands_so t run in names_now t.places t.commands t.of_a_script (past_of t) stands.so stands.downs (targets t run)
