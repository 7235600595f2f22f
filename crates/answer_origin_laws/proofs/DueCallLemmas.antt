-- What is due next in the run of a script: the turn of the one call that is yet to come, or no client's call.
use Rattle.std.proofs.Common.{◌≡◌, ℕ, ◌+◌, ◌==◌, ◌&&◌, ◌⊎◌, Bool, true, false, List, Option, Some, None, inl, inr, refl, sym, ap, subst}
use Rattle.std.proofs.lemmas.Bool.{cond_both}
use Rattle.node_rules.specs.Data.{Place, Input}
use Rattle.node_rules.specs.Data.inputs
use Rattle.node_rules.specs.NodeState.{NodeState, TurnOutput}
use Rattle.node_rules.specs.Turn.{turn_of}
use Rattle.net_bag.specs.Net.{packet_at}
use Rattle.run_rules.specs.Calls.{is_call_at, call_at}
use Rattle.run_rules.specs.Cuts.{Cut_by, By_nothing, By_strike, By_point, cut_by}
use Rattle.run_rules.specs.Data.{Command, Happening, Packet, Took, Turn}
use Rattle.run_rules.specs.Data.commands
use Rattle.run_rules.specs.Data.happenings
use Rattle.run_rules.specs.Disks.{Strike, struck}
use Rattle.run_rules.specs.Due.{Due, Pends, turn_by, turn_comes, turn_at, start_by, delivery_at, happens, comes_next}
use Rattle.run_rules.specs.Facts.{Facts, command_at, node_at, place_at}
use Rattle.run_rules.specs.Past.{is_call}
use Rattle.run_rules.specs.RunReport.{Call, Past, RunReport, orders_at}
use Rattle.run_ready_laws.proofs.CallEndLemmas.{same_number}
use Rattle.run_ready_laws.proofs.DueLemmas.{ComesBeside, IsDue, due_so}
use Rattle.run_ready_laws.proofs.DueLemmas as due
use Rattle.run_ready_laws.proofs.FreshCallLemmas.{quiet_beside, quiet_acted, acted_by, fresh_next, fresh_own}
use Rattle.run_ready_laws.proofs.OtherStandLemmas.{IsQuiet}
use Rattle.run_ready_laws.proofs.PendingLemmas.{IsOf, found_so, at_parts}
use Rattle.run_ready_laws.proofs.StandCallLemmas.{is_fresh, CallsStand}

-- The turn of a call that is yet to come.
pub record ComesNow (p : Past) (u : Turn) : Type 0 where
  pub call : Call
  pub here : u.node ≡ call.node
  pub came : u.input ≡ inputs.Call call.session call.statement
  pub fresh : (n s : ℕ) → is_fresh p.facts.command p.run_report n s ≡ ((call.node == n) && (call.session == s))
  pub there : ((call_at p.run_report call.node call.session ≡ Some call) × (p.facts.command ≡ call.command)) ⊎ (p.run_report.next_call ≡ Some call)

-- no call is yet to come, and none comes
abbrev pub NoneComes : Past → Turn → Type 0
NoneComes p u = IsQuiet p.facts p.run_report × (p.run_report.next_call ≡ None) × (is_call u.input ≡ false)

-- what is due next
abbrev pub DueIs : List Command → Past → Happening → Type 0
DueIs asked p (happenings.Turn u) = ComesNow p u ⊎ NoneComes p u
DueIs asked p (happenings.Lost k) = IsQuiet p.facts p.run_report
DueIs asked p (happenings.Started n boot) = IsQuiet p.facts p.run_report × (p.run_report.next_call ≡ None) × (command_at asked p.facts.command ≡ commands.Start n)
DueIs asked p (happenings.Begun c) = IsQuiet p.facts p.run_report × (p.run_report.next_call ≡ None) × (c ≡ p.facts.command + 1)
DueIs asked p _ = IsQuiet p.facts p.run_report × (p.run_report.next_call ≡ None)

-- ---- happenings

module _ (P : Happening → Type 0) where
  -- a turn that is due
  turn_is : (places : List Place) (t : RunReport) (node : ℕ) (input : Input) (took : Option Took) (o : Option NodeState) (h : Happening) → ((u : Turn) → u.node ≡ node → u.input ≡ input → P (happenings.Turn u))
      → turn_at places t node input took o ≡ Some h → P h
  turn_is places t node input took None h each is = absurd cc
  turn_is places t node input took (Some k) h each is =
      let o : TurnOutput = turn_of (place_at places node) k input in
      let it : Some (turn_comes t node input took k o) ≡ Some h = is in
      let same : turn_comes t node input took k o ≡ h = cc in
      subst P same (by o (cut_by t node k input o))
    where
      by : (o : TurnOutput) (c : Cut_by) → P (turn_by node input took o c)
      by o By_nothing = each _ refl refl
      by o (By_strike stands) = each _ refl refl
      by o (By_point root numbers stands) = each _ refl refl

  delivery_is : (places : List Place) (p : Past) (k : ℕ) (again : Bool) (o : Option Packet) (h : Happening) → ((u : Turn) → is_call u.input ≡ false → P (happenings.Turn u)) → delivery_at places p k again o ≡ Some h → P h
  delivery_is places p k again None h each is = absurd cc
  delivery_is places p k again (Some x) h each is =
      turn_is places p.run_report x.msg.to.node (inputs.Message x.msg) (Some (record { number = k; again = again })) (node_at p.facts x.msg.to.node) h (λ u node input. each u (ap is_call input)) is

  start_is : (f : Facts) (n : ℕ) (o : Option Strike) → ((boot : ℕ) → P (happenings.Started n boot)) → P (happenings.Stopped n) → P (start_by f n o)
  start_is f n None starts stops = starts _
  start_is f n (Some s) starts stops = cond_both s.stands _ _ P (λ stands. starts _) (λ falls. stops)

  it_is : (g h : Happening) → P g → Some g ≡ Some h → P h
  it_is g h so is = subst P (let it : g ≡ h = cc in it) so

-- ---- what is due

module _ (places : List Place) (asked : List Command) (count : ℕ) (p : Past) (stand : CallsStand asked count p.facts p.run_report) where
  open p use {facts as f, run_report as t}

  -- a call comes
  pends_is : (c : Call) → ((n s : ℕ) → is_fresh f.command t n s ≡ ((c.node == n) && (c.session == s))) → ((call_at t c.node c.session ≡ Some c) × (f.command ≡ c.command)) ⊎ (t.next_call ≡ Some c)
      → (h : Happening) → happens places p (Pends c) ≡ Some h → DueIs asked p h
  pends_is c fresh there h is =
      turn_is (DueIs asked p) places t c.node (inputs.Call c.session c.statement) None (node_at f c.node) h (λ u node input. inl (record { call = c; here = node; came = input; fresh = fresh; there = there })) is

  -- none comes
  module _ (quiet : IsQuiet f t) (alone : t.next_call ≡ None) where
    other_is : (u : Turn) → is_call u.input ≡ false → DueIs asked p (happenings.Turn u)
    other_is u none = inr (quiet, alone, none)

    beside_is : {d : Due} → ComesBeside asked f t d → (h : Happening) → happens places p d ≡ Some h → DueIs asked p h
    beside_is (due.Gives n s c at) h is = turn_is (DueIs asked p) places t n (inputs.GiveUp s) None (node_at f n) h (λ u node input. other_is u (ap is_call input)) is
    beside_is (due.Takes k may) h is = delivery_is (DueIs asked p) places p k false (packet_at f.net k) h other_is is
    beside_is (due.Repeats k may) h is = delivery_is (DueIs asked p) places p k true (packet_at f.net k) h other_is is
    beside_is (due.Asks n) h is = turn_is (DueIs asked p) places t n inputs.Reco None (node_at f n) h (λ u node input. other_is u (ap is_call input)) is
    beside_is (due.Cuts_so a b command) h is = it_is (DueIs asked p) (happenings.Cut a b) h (quiet, alone) is
    beside_is (due.Joins_so a b command) h is = it_is (DueIs asked p) (happenings.Join a b) h (quiet, alone) is
    beside_is (due.Loses_so k may) h is = it_is (DueIs asked p) (happenings.Lost k) h quiet is
    beside_is (due.Stops_so n command) h is = it_is (DueIs asked p) (happenings.Stopped n) h (quiet, alone) is
    beside_is (due.Starts_so n fresh command off) h is =
        it_is (DueIs asked p) (start_by f n (struck 3 (orders_at t n))) h (start_is (DueIs asked p) f n (struck 3 (orders_at t n)) (λ boot. (quiet, alone, command)) (quiet, alone)) is
    beside_is (due.Next more) h is = it_is (DueIs asked p) (happenings.Begun (f.command + 1)) h (quiet, alone, refl) is
    beside_is due.None_left h is = absurd cc

  due_is : {d : Due} → IsDue asked f t d → (h : Happening) → happens places p d ≡ Some h → DueIs asked p h
  due_is (due.Told k ks losses) h is =
      it_is (DueIs asked p) (happenings.Lost k) h (quiet_acted asked count f t stand (acted_by asked count f t stand t.acted refl (λ all. (let none = all.0.told in absurd (cc (none, losses)))))) is
  due_is (due.Node_falls n told stops) h is =
      it_is (DueIs asked p) (happenings.Stopped n) h (
        quiet_acted asked count f t stand (acted_by asked count f t stand t.acted refl (λ all. (let none = all.0.upright in absurd (cc (none, stops))))),
        stand.stop_alone (λ none. absurd (cc (none, stops))),
      ) is
  due_is (due.Start_falls n told upright falls) h is =
      it_is (DueIs asked p) (happenings.Stopped n) h (
        quiet_acted asked count f t stand (acted_by asked count f t stand t.acted refl (λ all. (let none = all.1 in absurd (cc (none, falls))))),
        stand.start_alone (λ none. absurd (cc (none, falls))),
      ) is
  due_is (due.Follows c settled no_start follows) h is = pends_is c (fresh_next asked count f t stand c follows) (inr follows) h is
  due_is (due.Own_call c n s text settled no_start alone fresh command at mine) h is =
      let parts = at_parts n s c (found_so (IsOf asked f.command) (is_call_at n s) t.calls c stand.of at).1 in
      let there : call_at t c.node c.session ≡ Some c = subst (λ i. call_at t i c.session ≡ Some c) (sym parts.0) (subst (λ i. call_at t n i ≡ Some c) (sym parts.1) at) in
      pends_is c (fresh_own asked count f t stand c n s text alone fresh command at mine) (inl (there, sym (same_number c.command f.command mine))) h is
  due_is (due.Beside settled no_start alone none comes) h is = beside_is (quiet_beside asked count f t stand alone none) alone comes h is

  pub due_here : (h : Happening) → comes_next places asked p ≡ Some h → DueIs asked p h
  due_here h is = due_is (due_so asked p) h is
