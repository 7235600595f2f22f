-- The run of a script is a lawful run: whatever is due may come.
use Rattle.std.proofs.Common.{◌≡◌, ℕ, suc, ◌+◌, ◌≤◌, ◌==◌, ◌&&◌, not, Bool, true, false, List, [], ◌∷◌, length, map, IfSome, Option, Some, None, inl, inr, refl, sym, ap, subst, ◌∙◌, arith}
use Rattle.std.specs.Prelude.{is_some, nat_lt}
use Rattle.std.proofs.lemmas.Bool.Decides.{nat_tests}
use Rattle.std.proofs.lemmas.Bool.{cond_both}
use Rattle.node_rules.specs.Data.{Place, Input}
use Rattle.node_rules.specs.Data.inputs
use Rattle.node_rules.specs.declared.session.PendingCall.{PendingCall}
use Rattle.node_rules.specs.declared.session.PendingCall.TheVariants as pending
use Rattle.node_rules.specs.Inputs.{IsSession}
use Rattle.node_rules.specs.NodeState.{NodeState, TurnOutput}
use Rattle.node_rules.specs.Sessions.{session_at}
use Rattle.node_rules.specs.Turn.{turn_of, made}
use Rattle.node_rules.specs.Data.records
use Rattle.net_bag.specs.declared.packet.Fate.{Fate}
use Rattle.net_bag.specs.declared.packet.Fate.TheVariants as fates
use Rattle.net_bag.specs.declared.packet.Packet.{Packet}
use Rattle.net_bag.specs.Net.{is_flying, flies, is_blocked, packet_at, is_flying_at, may_pass}
use Rattle.tran_ids.proofs.NumberedLemmas.{set_length}
use Rattle.agreement.specs.Events.{Event}
use Rattle.run_rules.specs.Data.{Took, Turn, Happening, Command}
use Rattle.run_rules.specs.Data.happenings
use Rattle.run_rules.specs.Births.{Born, births_after}
use Rattle.run_base_laws.specs.RunEvents.{events_after}
use Rattle.run_rules.specs.Facts.{Facts, first_facts, place_at, node_at, command_at, records_at, facts_after}
use Rattle.run_rules.specs.RunReport.{Past, RunReport, Call, start, orders_at}
use Rattle.run_rules.specs.Past.{is_call, acts, report_after, next}
use Rattle.run_rules.specs.Calls.{is_call_at, call_at}
use Rattle.run_rules.specs.Cuts.{Cut_by, By_nothing, By_point, By_strike, cut_by}
use Rattle.run_rules.specs.Disks.{Strike, struck}
use Rattle.run_rules.specs.Lawful.{IsNode, IsCommandOver, NothingComesFirst, Comes, MayTurn, IsInFlight, MayBeLost, MayStop, boots, MayHappen, IsLawful, IsPending, AreOfAScript}
use Rattle.run_rules.specs.Due.{Due, Pends, Gives_up, turn_by, turn_comes, turn_at, start_by, delivery_at, happens, comes_next, IsTheRun}
use Rattle.run_rules.specs.Scripts.{TheRunIsLawful}
use Rattle.run_base_laws.proofs.BirthRunLemmas.{StandBorn, stand_born_on, stand_born_first}
use Rattle.run_base_laws.proofs.EventsStandLemmas.{first_node}
use Rattle.run_base_laws.proofs.RestRunLemmas.{RootsStand, roots_stand_on, first_rests}
use Rattle.run_ready_laws.proofs.CallEndLemmas.{is_pending, pends_at, and_false, same_number}
use Rattle.run_ready_laws.proofs.FlightLemmas.{FlyFree, flies_on, all_at}
use Rattle.run_ready_laws.proofs.DueLemmas.{ComesBeside, IsDue, due_so}
use Rattle.run_ready_laws.proofs.DueLemmas as due
use Rattle.run_ready_laws.proofs.PendingLemmas.{IsOf, called_at, follows_at, there_called, found_so, at_parts}
use Rattle.run_ready_laws.proofs.TurnCallLemmas.{made_by, AllLive, turn_leaves_so, all_live_on, first_live}
use Rattle.run_ready_laws.proofs.StandCallLemmas.{is_fresh, CallsStand, turn_stands}
use Rattle.run_ready_laws.proofs.FreshCallLemmas.{quiet_beside, quiet_acted, acted_by, fresh_next, fresh_own}
use Rattle.run_ready_laws.proofs.OtherStandLemmas.{IsQuiet, proper_at, fresh_pends, same_stands, stop_stands, start_stands, begin_stands}

-- ---- what may come

free_call : (c : PendingCall) → is_pending c ≡ false → c ≡ pending.NoCall
free_call pending.NoCall is = refl
free_call pending.Statement is = absurd cc
free_call pending.Commit is = absurd cc

made_call : (c : PendingCall) → is_pending c ≡ true → IsPending c
made_call pending.NoCall is = absurd cc
made_call pending.Statement is = tt
made_call pending.Commit is = tt

flying_fate : (x : Fate) → is_flying x ≡ true → x ≡ fates.InFlight
flying_fate fates.InFlight is = refl
flying_fate fates.Delivered is = absurd cc
flying_fate fates.Lost is = absurd cc

-- What stands before each happening.
pub record KeptRow_so (places : List Place) (asked : List Command) (p : Past) : Type 0 where
  pub many : length p.facts.nodes ≡ length places
  pub free : FlyFree p.facts.net
  pub live : AllLive p.facts
  pub calls : CallsStand asked (length places) p.facts p.run_report

module _ (places : List Place) (asked : List Command) (script : AreOfAScript places asked) (p : Past) (es : List Event) (bs : List Born) (born : StandBorn places asked script.each p.facts es bs)
    (roots : RootsStand places asked script.each p.facts) (now : KeptRow_so places asked p) where
  abbrev f : Facts
  f = p.facts

  abbrev t : RunReport
  t = p.run_report

  -- a happening may come, and calls stand after it
  abbrev pub GoesOn : Happening → Type 0
  GoesOn h = MayHappen places asked f h × CallsStand asked (length places) (facts_after places asked f h) (report_after places asked f t h)

  even : length f.nodes ≡ length f.records
  even = born.0.0.even

  -- ---- turns

  module _ (node : ℕ) (input : Input) (took : Option Took) (k : NodeState) (up : node_at f node ≡ Some k) (settled : NothingComesFirst f) (no_start : t.start_to_stop ≡ None) (comes : Comes f k node input took)
      (fresh_is : (n s : ℕ) → is_fresh f.command t n s ≡ ((node == n) && made_by input s)) (there : (s : ℕ) → made_by input s ≡ true → called_at t.calls node s ≡ true) (quiet : is_call input ≡ false → t.next_call ≡ None) where
    abbrev o : TurnOutput
    o = turn_of (place_at places node) k input

    goes_by : (u : Turn) → u.node ≡ node → u.input ≡ input → (may : MayTurn places f u k) → GoesOn (happenings.Turn u)
    goes_by u at_node at_input may = (
      (k, may),
      turn_stands places asked f t even now.many now.calls u k may.up settled no_start
          (λ n s. fresh_is n s ∙ (ap (λ i. (i == n) && made_by input s) (sym at_node) ∙ ap (λ i. (u.node == n) && made_by i s) (sym at_input)))
          (λ s makes. ap (λ i. called_at t.calls i s) at_node ∙ there s (ap (λ i. made_by i s) (sym at_input) ∙ makes))
          (λ other. quiet (ap is_call (sym at_input) ∙ other))
          (turn_leaves_so places asked script.each f es bs born roots now.live u k may),
    )

    turn_goes : (c : Cut_by) → GoesOn (turn_by node input took o c)
    turn_goes By_nothing = goes_by _ refl refl (record { settled = settled; up = up; comes = comes; owed = (refl, refl) })
    turn_goes (By_strike true) = goes_by _ refl refl (record { settled = settled; up = up; comes = comes; owed = (inr refl, refl) })
    turn_goes (By_strike false) = goes_by _ refl refl (record { settled = settled; up = up; comes = comes; owed = (inl refl, refl) })
    turn_goes (By_point root numbers true) = goes_by _ refl refl (record { settled = settled; up = up; comes = comes; owed = (inr refl, refl) })
    turn_goes (By_point root numbers false) = goes_by _ refl refl (record { settled = settled; up = up; comes = comes; owed = (inl refl, refl) })

  -- a turn that is due at a node that is up
  turn_due : (node : ℕ) (input : Input) (took : Option Took) (h : Happening) (x : Option NodeState) → node_at f node ≡ x → turn_at places t node input took x ≡ Some h
      → ((k : NodeState) → node_at f node ≡ Some k → (c : Cut_by) → GoesOn (turn_by node input took (turn_of (place_at places node) k input) c)) → GoesOn h
  turn_due node input took h None up is goes = absurd cc
  turn_due node input took h (Some k) up is goes =
      let it : Some (turn_comes t node input took k (turn_of (place_at places node) k input)) ≡ Some h = is in
      let here : turn_comes t node input took k (turn_of (place_at places node) k input) ≡ h = cc in
      subst GoesOn here (goes k up (cut_by t node k input (turn_of (place_at places node) k input)))

  -- ---- calls

  its_session : (c : Call) → IsOf asked f.command c → IsSession c.session
  its_session c is = (subst (IsCommandOver (length places)) is.command (proper_at (length places) asked c.command script.proper)).1

  same_both : (a b : ℕ) → ((a == a) && (b == b)) ≡ true
  same_both a b = grind (arith, nat_tests)

  call_goes : (c : Call) → IsOf asked f.command c → NothingComesFirst f → t.start_to_stop ≡ None → ((n s : ℕ) → is_fresh f.command t n s ≡ ((c.node == n) && (c.session == s))) → called_at t.calls c.node c.session ≡ true
      → (h : Happening) → happens places p (Pends c) ≡ Some h → GoesOn h
  call_goes c of settled no_start fresh there h is =
      turn_due c.node (inputs.Call c.session c.statement) None h (node_at f c.node) refl is
      (λ k up. turn_goes c.node (inputs.Call c.session c.statement) None k up settled no_start (its_session c of, free k up, of.whole) fresh (λ s makes. ap (called_at t.calls c.node) (sym (same_number c.session s makes)) ∙ there) (λ other. absurd cc))
    where
      free : (k : NodeState) → node_at f c.node ≡ Some k → (session_at k.sessions c.session).call ≡ pending.NoCall
      free k up =
          free_call (session_at k.sessions c.session).call
          (now.calls.heard c.node k up c.session ∙ (ap (λ q. called_at t.calls c.node c.session && not q) (fresh c.node c.session ∙ same_both c.node c.session) ∙ and_false (called_at t.calls c.node c.session)))

  -- ---- beside

  module _ (settled : NothingComesFirst f) (no_start : t.start_to_stop ≡ None) (alone : t.next_call ≡ None) (quiet : IsQuiet f t) where
    none_fresh : (n s : ℕ) → is_fresh f.command t n s ≡ false
    none_fresh n s = quiet n s ∙ ap (λ o. follows_at o n s) alone

    other_turn : (node : ℕ) (input : Input) (took : Option Took) → ((s : ℕ) → made_by input s ≡ false) → (h : Happening) → turn_at places t node input took (node_at f node) ≡ Some h
        → ((k : NodeState) → node_at f node ≡ Some k → Comes f k node input took) → GoesOn h
    other_turn node input took none h is comes =
        turn_due node input took h (node_at f node) refl is
        (λ k up. turn_goes node input took k up settled no_start (comes k up) (λ n s. none_fresh n s ∙ (sym (and_false (node == n)) ∙ ap (λ q. (node == n) && q) (sym (none s)))) (λ s makes. (let no = none s in absurd (cc (no, makes)))) (λ other. alone))

    gives_goes : (n s : ℕ) (c : Call) → call_at t n s ≡ Some c → (h : Happening) → happens places p (Gives_up n s) ≡ Some h → GoesOn h
    gives_goes n s c at h is =
        let found = found_so (IsOf asked f.command) (is_call_at n s) t.calls c now.calls.of at in
        other_turn n (inputs.GiveUp s) None (λ m. refl) h is (λ k up. (
          subst IsSession (at_parts n s c found.1).1 (its_session c found.0),
          made_call (session_at k.sessions s).call (now.calls.heard n k up s ∙ (ap (λ q. called_at t.calls n s && not q) (none_fresh n s) ∙ ap (λ q. q && true) (there_called n s t.calls c at))),
        ))

    delivery_goes : (k : ℕ) (again : Bool) (o : Option Packet) → packet_at f.net k ≡ o → ((x : Packet) → o ≡ Some x → (is_blocked f.net x.msg ≡ false) × (again ≡ false → x.fate ≡ fates.InFlight))
        → (h : Happening) → delivery_at places p k again o ≡ Some h → GoesOn h
    delivery_goes k again None at may h is = absurd cc
    delivery_goes k again (Some x) at may h is =
        let so = may x refl in
        other_turn x.msg.to.node (inputs.Message x.msg) (Some (record { number = k; again = again })) (λ m. refl) h is (λ y up. (x, record { sent = at; same = refl; here = refl; passes = so.0; once = so.1 }))

    in_flight : (k : ℕ) (o : Option Packet) → packet_at f.net k ≡ o → is_flying_at o ≡ true → (x : Packet) × IsInFlight f k x
    in_flight k None at flying = absurd cc
    in_flight k (Some x) at flying = (x, record { sent = at; flying = flying_fate x.fate flying })

    command_is : (c : Command) → command_at asked f.command ≡ c → IsCommandOver (length places) c
    command_is c is = subst (IsCommandOver (length places)) is (proper_at (length places) asked f.command script.proper)

    only_none : (n m : ℕ) → f.node_to_stop ≡ Some m → m ≡ n
    only_none n m is = let none = settled.upright in absurd (cc (is, none))

    may_stop : (n : ℕ) → MayStop f n f.node_to_stop
    may_stop n = subst (MayStop f n) (sym settled.upright) settled.told

    down_of : (n : ℕ) (o : Option NodeState) → is_some o ≡ false → o ≡ None
    down_of n None is = refl
    down_of n (Some k) is = absurd cc

    stop_goes : (n : ℕ) → IsNode (length places) n → GoesOn (happenings.Stopped n)
    stop_goes n node = ((node, may_stop n), stop_stands places asked f t even now.many now.calls n node settled.told alone (only_none n) quiet)

    start_goes : (n : ℕ) → IsNode (length places) n → node_at f n ≡ None → (o : Option Strike) → struck 3 (orders_at t n) ≡ o → GoesOn (start_by f n o)
    start_goes n node off None is = (
      record { settled = settled; there = node; down = off; next = refl },
      start_stands places asked f t even now.many now.calls n (boots (records_at f n) + 1) node settled alone off quiet (struck 3 (orders_at t n)),
    )
    start_goes n node off (Some s) is =
        cond_both s.stands (happenings.Started n (boots (records_at f n) + 1)) (happenings.Stopped n) GoesOn
        (λ stands. (record { settled = settled; there = node; down = off; next = refl }, start_stands places asked f t even now.many now.calls n (boots (records_at f n) + 1) node settled alone off quiet (struck 3 (orders_at t n))))
        (λ falls. stop_goes n node)

    below : (n m : ℕ) → nat_lt n m ≡ true → n + 1 ≤ m
    below n m is = grind (arith, nat_tests, is)

    same_goes : (h : Happening) → MayHappen places asked f h → ((n : ℕ) → node_at (facts_after places asked f h) n ≡ node_at f n) → (facts_after places asked f h).command ≡ f.command → (facts_after places asked f h).node_to_stop ≡ f.node_to_stop
        → report_after places asked f t h ≡ acts t → GoesOn h
    same_goes h may nodes command stop told = (may, subst (CallsStand asked (length places) (facts_after places asked f h)) (sym told) (same_stands asked (length places) f t now.calls quiet (facts_after places asked f h) nodes command stop))

    beside_goes : {d : Due} → ComesBeside asked f t d → (h : Happening) → happens places p d ≡ Some h → GoesOn h
    unfolding facts_after
    beside_goes (due.Gives n s c at) h is = gives_goes n s c at h is
    beside_goes (due.Takes k may) h is =
        delivery_goes k false (packet_at f.net k) refl (λ x at. (let flying : flies x ≡ true = subst (λ o. is_flying_at o ≡ true) at may in (all_at _ f.net.packets k x now.free at flying, (λ once. flying_fate x.fate flying)))) h is
    beside_goes (due.Repeats k may) h is =
        delivery_goes k true (packet_at f.net k) refl (λ x at. (let free : may_pass f.net (Some x) ≡ true = subst (λ o. may_pass f.net o ≡ true) at may in (let it : is_blocked f.net x.msg ≡ false = grind (arith, free) in it, (λ once. absurd cc)))) h is
    beside_goes (due.Asks n) h is = other_turn n inputs.Reco None (λ m. refl) h is (λ k up. tt)
    beside_goes (due.Cuts_so a b command) h is =
        let it : Some (happenings.Cut a b) ≡ Some h = is in let here : happenings.Cut a b ≡ h = cc in
        subst GoesOn here (same_goes (happenings.Cut a b) (settled, (command_is _ command).0, (command_is _ command).1) (λ n. refl) refl refl refl)
    beside_goes (due.Joins_so a b command) h is =
        let it : Some (happenings.Join a b) ≡ Some h = is in let here : happenings.Join a b ≡ h = cc in
        subst GoesOn here (same_goes (happenings.Join a b) (settled, (command_is _ command).0, (command_is _ command).1) (λ n. refl) refl refl refl)
    beside_goes (due.Loses_so k may) h is =
        let it : Some (happenings.Lost k) ≡ Some h = is in let here : happenings.Lost k ≡ h = cc in
        subst GoesOn here (same_goes (happenings.Lost k) (subst (MayBeLost f k) (sym settled.told) (let flying = in_flight k (packet_at f.net k) refl may in (settled.upright, flying.0, flying.1))) (λ n. refl) refl refl refl)
    beside_goes (due.Stops_so n command) h is = let it : Some (happenings.Stopped n) ≡ Some h = is in let here : happenings.Stopped n ≡ h = cc in subst GoesOn here (stop_goes n (command_is _ command))
    beside_goes (due.Starts_so n fresh command off) h is =
        let it : Some (start_by f n (struck 3 (orders_at t n))) ≡ Some h = is in let here : start_by f n (struck 3 (orders_at t n)) ≡ h = cc in
        subst GoesOn here (start_goes n (command_is _ command) (down_of n (node_at f n) off) (struck 3 (orders_at t n)) refl)
    beside_goes (due.Next more) h is =
        let it : Some (happenings.Begun (f.command + 1)) ≡ Some h = is in let here : happenings.Begun (f.command + 1) ≡ h = cc in
        subst GoesOn here ((settled, refl, below f.command (length asked) more), begin_stands places asked script.proper f t now.calls settled no_start alone quiet (f.command + 1) refl)
    beside_goes (due.None_left) h is = absurd cc

  -- ---- each

  pub due_goes : {d : Due} → IsDue asked f t d → (h : Happening) → happens places p d ≡ Some h → GoesOn h
  unfolding facts_after
  due_goes (due.Told k ks losses) h is =
      let it : Some (happenings.Lost k) ≡ Some h = is in let here : happenings.Lost k ≡ h = cc in
      let quiet : IsQuiet f t = quiet_acted asked (length places) f t now.calls (acted_by asked (length places) f t now.calls t.acted refl (λ all. (let none = all.0.told in absurd (cc (none, losses))))) in
      subst GoesOn here (subst (MayBeLost f k) (sym losses) refl, same_stands asked (length places) f t now.calls quiet (facts_after places asked f (happenings.Lost k)) (λ n. refl) refl refl)
  due_goes (due.Node_falls n told stops) h is =
      let it : Some (happenings.Stopped n) ≡ Some h = is in let here : happenings.Stopped n ≡ h = cc in
      let quiet : IsQuiet f t = quiet_acted asked (length places) f t now.calls (acted_by asked (length places) f t now.calls t.acted refl (λ all. (let none = all.0.upright in absurd (cc (none, stops))))) in
      let node : IsNode (length places) n = subst (λ o. IfSome o (IsNode (length places))) stops now.calls.stops in
      subst GoesOn here (
        (node, subst (MayStop f n) (sym stops) (told, refl)),
        stop_stands places asked f t even now.many now.calls n node told (now.calls.stop_alone (λ none. absurd (cc (none, stops))))
            (λ m at. (let same : Some m ≡ Some n = sym at ∙ stops in let it : m ≡ n = cc in it)) quiet,
      )
  due_goes (due.Start_falls n told upright falls) h is =
      let it : Some (happenings.Stopped n) ≡ Some h = is in let here : happenings.Stopped n ≡ h = cc in
      let quiet : IsQuiet f t = quiet_acted asked (length places) f t now.calls (acted_by asked (length places) f t now.calls t.acted refl (λ all. (let none = all.1 in absurd (cc (none, falls))))) in
      let node : IsNode (length places) n = subst (λ o. IfSome o (IsNode (length places))) falls now.calls.starts in
      subst GoesOn here ((node, subst (MayStop f n) (sym upright) told), stop_stands places asked f t even now.many now.calls n node told (now.calls.start_alone (λ none. absurd (cc (none, falls)))) (λ m at. absurd (cc (at, upright))) quiet)
  due_goes (due.Follows c settled no_start follows) h is =
      call_goes c (subst (λ o. IfSome o (IsOf asked f.command)) follows now.calls.next_of) settled no_start (fresh_next asked (length places) f t now.calls c follows) (now.calls.next_there c follows) h is
  due_goes (due.Own_call c n s text settled no_start alone fresh command at mine) h is =
      let found = found_so (IsOf asked f.command) (is_call_at n s) t.calls c now.calls.of at in
      let parts = at_parts n s c found.1 in
      call_goes c found.0 settled no_start (fresh_own asked (length places) f t now.calls c n s text alone fresh command at mine)
      (subst (λ i. called_at t.calls i c.session ≡ true) (sym parts.0) (subst (λ i. called_at t.calls n i ≡ true) (sym parts.1) (there_called n s t.calls c at))) h is
  due_goes (due.Beside settled no_start alone none comes) h is = beside_goes settled no_start alone (quiet_beside asked (length places) f t now.calls alone none) comes h is

-- ---- the induction

next_is : (places : List Place) (asked : List Command) (p : Past) (h : Happening) → next places asked p h ≡ record { facts = facts_after places asked p.facts h; run_report = report_after places asked p.facts p.run_report h }
unfolding next facts_after
next_is places asked p (happenings.Turn u) = refl
next_is places asked p (happenings.Begun c) = refl
next_is places asked p (happenings.Cut a b) = refl
next_is places asked p (happenings.Join a b) = refl
next_is places asked p (happenings.Lost k) = refl
next_is places asked p (happenings.Stopped n) = refl
next_is places asked p (happenings.Started n boot) = refl

many_after : (places : List Place) (asked : List Command) (f : Facts) (h : Happening) → length (facts_after places asked f h).nodes ≡ length f.nodes
unfolding facts_after
many_after places asked f (happenings.Turn u) = set_length f.nodes u.node _
many_after places asked f (happenings.Stopped n) = set_length f.nodes n _
many_after places asked f (happenings.Started n boot) = set_length f.nodes n _
many_after places asked f _ = refl

module _ (places : List Place) (asked : List Command) (script : AreOfAScript places asked) where
  pub goes_on : (p : Past) (es : List Event) (bs : List Born) → StandBorn places asked script.each p.facts es bs → RootsStand places asked script.each p.facts → KeptRow_so places asked p → (h : Happening) → comes_next places asked p ≡ Some h
      → MayHappen places asked p.facts h × KeptRow_so places asked (record { facts = facts_after places asked p.facts h; run_report = report_after places asked p.facts p.run_report h })
  goes_on p es bs born roots now h is =
      let goes = due_goes places asked script p es bs born roots now (due_so asked p) h is in (
        goes.0,
        record {
          many = many_after places asked p.facts h ∙ now.many;
          free = flies_on places asked p.facts h now.free;
          live = all_live_on places asked script.each p.facts es bs born roots now.live h goes.0;
          calls = goes.1;
        },
      )

  run_lawful : (p : Past) (hs : List Happening) (es : List Event) (bs : List Born) → StandBorn places asked script.each p.facts es bs → RootsStand places asked script.each p.facts → KeptRow_so places asked p
      → IsTheRun places asked p hs → IsLawful places asked p.facts hs
  unfolding IsTheRun IsLawful
  run_lawful p [] es bs born roots now run = tt
  run_lawful p (h ∷ hs) es bs born roots now run =
      let goes = goes_on p es bs born roots now h run.0 in (
        goes.0,
        run_lawful (record { facts = facts_after places asked p.facts h; run_report = report_after places asked p.facts p.run_report h }) hs (events_after places asked p.facts h es) (births_after places p.facts h bs)
            (stand_born_on places asked script.each p.facts es bs h born goes.0) (roots_stand_on places asked script.each p.facts es bs born roots h goes.0) goes.1 (subst (λ q. IsTheRun places asked q hs) (next_is places asked p h) run.1),
      )

  made_free : (s : ℕ) → pends_at made.sessions s ≡ false
  made_free s = fresh_pends (records.Boot 1 ∷ []) s

  first_calls : CallsStand asked (length places) (first_facts places) (start places).run_report
  first_calls = record {
    of = tt;
    next_of = tt;
    next_there = λ c has. absurd cc;
    heard = λ n k up s. (let made_it : IfSome (node_at (first_facts places) n) (λ x. pends_at x.sessions s ≡ false) = first_node (λ o. IfSome o (λ x. pends_at x.sessions s ≡ false)) tt (made_free s) places n in
        subst (λ o. IfSome o (λ x. pends_at x.sessions s ≡ false)) up made_it);
    down = λ n none stops s. refl;
    stops = tt;
    starts = tt;
    stop_alone = λ some. refl;
    start_alone = λ some. refl;
    fresh = λ fresh. absurd cc;
  }

  map_length : {A B : Type 0} (g : A → B) (xs : List A) → length (map g xs) ≡ length xs
  map_length g [] = refl
  map_length g (x ∷ xs) = ap suc (map_length g xs)

  pub first_stands : KeptRow_so places asked (start places)
  first_stands = record { many = map_length (λ p. Some made) places; free = tt; live = first_live places; calls = first_calls }

pub the_run_is_lawful : TheRunIsLawful
the_run_is_lawful t run =
    run_lawful t.places t.commands t.of_a_script (start t.places) t.trace [] [] (stand_born_first t.places t.commands t.of_a_script.each) (first_rests t.places t.commands t.of_a_script.each)
    (first_stands t.places t.commands t.of_a_script) run
