-- What is due while HOLD is off: the next message in flight, a give-up, or the next command, which comes only where no call is
-- pending.
use Rattle.std.proofs.Common.{◌≡◌, ℕ, ◌==◌, ◌&&◌, not, Bool, true, false, if◌then◌else◌, List, [], ◌∷◌, is_some, Option, Some, None, refl, sym, ap, subst, ◌∙◌, ◌⊎◌, inl, inr}
use Rattle.std.proofs.lemmas.Bool.{cond_both}
use Rattle.node_rules.specs.Data.{Input, Place}
use Rattle.node_rules.specs.Data.inputs
use Rattle.node_rules.specs.NodeState.{NodeState, TurnOutput}
use Rattle.node_rules.specs.Turn.{turn_of}
use Rattle.net_bag.specs.Net.{may_deliver, may_repeat, packet_at, first_flying}
use Rattle.run_rules.specs.Calls.{call_at}
use Rattle.run_rules.specs.Commands.{is_enabled}
use Rattle.run_rules.specs.Cuts.{Cut_by, By_nothing, By_strike, By_point, cut_by}
use Rattle.run_rules.specs.Data.{Command, Happening, Packet, Took, Turn}
use Rattle.run_rules.specs.Data.commands
use Rattle.run_rules.specs.Data.happenings
use Rattle.run_rules.specs.Disks.{Strike, struck}
use Rattle.run_rules.specs.Due.{Due, Tells, Falls, Pends, Gives_up, Delivers, Recovers, Cuts, Joins, Loses, Stops, Starts, Begins, Ends, if_due, call_due, act_of, next_give_up, next_delivery, most_of, next_pumped, flows, acts_first, acts_once, follows_first, falls_first, first_losses, due_of, turn_by, turn_comes, turn_at, start_by, delivery_at, happens, comes_next}
use Rattle.run_rules.specs.Facts.{command_at, is_up, node_at, place_at}
use Rattle.run_rules.specs.Lines.{spent}
use Rattle.run_rules.specs.Past.{is_call}
use Rattle.run_rules.specs.RunReport.{Call, Past, orders_at}

-- ---- a turn that is due

module _ (P : Happening → Type 0) (places : List Place) (p : Past) where
  pub turn_is : (node : ℕ) (input : Input) (took : Option Took) (o : Option NodeState) (h : Happening) → ((u : Turn) → u.input ≡ input → u.took ≡ took → P (happenings.Turn u))
      → turn_at places p.run_report node input took o ≡ Some h → P h
  turn_is node input took None h each is = absurd cc
  turn_is node input took (Some k) h each is =
      let o : TurnOutput = turn_of (place_at places node) k input in
      let it : Some (turn_comes p.run_report node input took k o) ≡ Some h = is in
      let same : turn_comes p.run_report node input took k o ≡ h = cc in
      subst P same (by o (cut_by p.run_report node k input o))
    where
      by : (o : TurnOutput) (c : Cut_by) → P (turn_by node input took o c)
      by o By_nothing = each _ refl refl
      by o (By_strike stands) = each _ refl refl
      by o (By_point root numbers stands) = each _ refl refl

  pub delivery_is : (k : ℕ) (again : Bool) (o : Option Packet) (h : Happening) → ((u : Turn) → is_call u.input ≡ false → u.took ≡ Some (record { number = k; again = again }) → P (happenings.Turn u)) → delivery_at places p k again o ≡ Some h → P h
  delivery_is k again None h each is = absurd cc
  delivery_is k again (Some x) h each is =
      turn_is x.msg.to.node (inputs.Message x.msg) (Some (record { number = k; again = again })) (node_at p.facts x.msg.to.node) h (λ u input took. each u (ap is_call input) took) is

-- ---- a command that begins

-- it is not a command that begins
abbrev pub IsNoBegin : Happening → Type 0
IsNoBegin (happenings.Begun c) = ⊥
IsNoBegin _ = Unit {0}

module _ (places : List Place) (asked : List Command) (p : Past) where
  open p use {facts as f, run_report as t}

  start_is : (n : ℕ) (o : Option Strike) → IsNoBegin (start_by f n o)
  start_is n None = tt
  start_is n (Some s) = cond_both s.stands _ _ IsNoBegin (λ stands. tt) (λ falls. tt)

  no_begin : (g : Happening) (c : ℕ) → IsNoBegin g → Some g ≡ Some (happenings.Begun c) → ⊥
  no_begin g c so is = subst IsNoBegin (let it : g ≡ happenings.Begun c = cc in it) so

  pub begins_is : (d : Due) (c : ℕ) → happens places p d ≡ Some (happenings.Begun c) → d ≡ Begins c
  begins_is (Begins m) c is = ap Begins (let it : Some (happenings.Begun m) ≡ Some (happenings.Begun c) = is in let same : m ≡ c = cc in same)
  begins_is (Tells k) c is = absurd (no_begin (happenings.Lost k) c tt is)
  begins_is (Falls n) c is = absurd (no_begin (happenings.Stopped n) c tt is)
  begins_is (Pends x) c is = absurd (turn_is IsNoBegin places p x.node (inputs.Call x.session x.statement) None (node_at f x.node) (happenings.Begun c) (λ u input took. tt) is)
  begins_is (Gives_up n s) c is = absurd (turn_is IsNoBegin places p n (inputs.GiveUp s) None (node_at f n) (happenings.Begun c) (λ u input took. tt) is)
  begins_is (Delivers k again) c is = absurd (delivery_is IsNoBegin places p k again (packet_at f.net k) (happenings.Begun c) (λ u other took. tt) is)
  begins_is (Recovers n) c is = absurd (turn_is IsNoBegin places p n inputs.Reco None (node_at f n) (happenings.Begun c) (λ u input took. tt) is)
  begins_is (Cuts a b) c is = absurd (no_begin (happenings.Cut a b) c tt is)
  begins_is (Joins a b) c is = absurd (no_begin (happenings.Join a b) c tt is)
  begins_is (Loses k) c is = absurd (no_begin (happenings.Lost k) c tt is)
  begins_is (Stops n) c is = absurd (no_begin (happenings.Stopped n) c tt is)
  begins_is (Starts n) c is = absurd (no_begin (start_by f n (struck 3 (orders_at t n))) c (start_is n (struck 3 (orders_at t n))) is)
  begins_is Ends c is = absurd cc

  -- ---- with HOLD off it begins only where no call is pending, and nothing is in flight

  -- no call is pending, and nothing is in flight, unless the command made all its deliveries
  abbrev pub IsOver : Type 0
  IsOver = (t.calls ≡ []) × ((first_flying f.net ≡ None) ⊎ (spent t.deliveries ≡ true))

  give_up_begins : (cs : List Call) (c : ℕ) → next_give_up asked f cs ≡ Begins c → cs ≡ []
  give_up_begins [] c is = refl
  give_up_begins (x ∷ cs) c is = absurd cc

  delivery_begins : (o : Option ℕ) (c : ℕ) → first_flying f.net ≡ o → next_delivery asked f t o ≡ Begins c → IsOver
  delivery_begins None c at is = (give_up_begins t.calls c is, inl at)
  delivery_begins (Some k) c at is = by (spent t.deliveries) refl is
    where
      by : (q : Bool) → spent t.deliveries ≡ q → (if q then next_give_up asked f t.calls else Delivers k false) ≡ Begins c → IsOver
      by true all due = (give_up_begins t.calls c due, inr all)
      by false more due = absurd cc

  due_if : (q : Bool) (d e : Due) → if_due q d ≡ Some e → d ≡ e
  due_if true d e is = (let it : Some d ≡ Some e = is in let same : d ≡ e = cc in same)
  due_if false d e is = absurd cc

  call_begins : (o : Option Call) (c : ℕ) → call_due f.command o ≡ Some (Begins c) → ⊥
  call_begins None c is = absurd cc
  call_begins (Some x) c is = (let same : Pends x ≡ Begins c = due_if (x.command == f.command) (Pends x) (Begins c) is in absurd cc)

  act_begins : (x : Command) (c : ℕ) → act_of f t x ≡ Some (Begins c) → ⊥
  act_begins (commands.At node session s) c is = call_begins (call_at t node session) c is
  act_begins (commands.Cut a b) c is = absurd cc
  act_begins (commands.Join a b) c is = absurd cc
  act_begins (commands.Lose k) c is = (let same : Loses k ≡ Begins c = due_if (may_deliver f.net k) (Loses k) (Begins c) is in absurd cc)
  act_begins (commands.Stop n) c is = (let same : Stops n ≡ Begins c = due_if (is_up f n) (Stops n) (Begins c) is in absurd cc)
  act_begins (commands.Start n) c is = (let same : Starts n ≡ Begins c = due_if (not (is_up f n)) (Starts n) (Begins c) is in absurd cc)
  act_begins (commands.Deliver k) c is = (let same : Delivers k false ≡ Begins c = due_if (may_deliver f.net k) (Delivers k false) (Begins c) is in absurd cc)
  act_begins (commands.Again k) c is = (let same : Delivers k true ≡ Begins c = due_if (may_repeat f.net k) (Delivers k true) (Begins c) is in absurd cc)
  act_begins (commands.GiveUp n session) c is = (let same : Gives_up n session ≡ Begins c = due_if (is_up f n && is_some (call_at t n session)) (Gives_up n session) (Begins c) is in absurd cc)
  act_begins (commands.Reco n) c is = (let same : Recovers n ≡ Begins c = due_if (is_enabled (node_at f n)) (Recovers n) (Begins c) is in absurd cc)
  act_begins (commands.Node name strength links undo) c is = absurd cc
  act_begins (commands.LoseNext kind from to) c is = absurd cc
  act_begins (commands.Crash n write how) c is = absurd cc
  act_begins (commands.Fault n call) c is = absurd cc
  act_begins (commands.Hold on) c is = absurd cc
  act_begins (commands.Pump most) c is = absurd cc
  act_begins (commands.ShowPending n) c is = absurd cc
  act_begins (commands.ShowNeighbors n) c is = absurd cc
  act_begins commands.ShowBook c is = absurd cc
  act_begins commands.ShowNet c is = absurd cc
  act_begins (commands.ShowDisk n) c is = absurd cc
  act_begins (commands.ShowUndo n) c is = absurd cc

  module _ (off : t.hold ≡ false) (c : ℕ) where
    flows_off : flows asked f t ≡ next_delivery asked f t (first_flying f.net)
    flows_off = ap (λ q. if q then next_pumped asked f t (most_of (command_at asked f.command)) (first_flying f.net) else next_delivery asked f t (first_flying f.net)) off

    flows_begin : flows asked f t ≡ Begins c → IsOver
    flows_begin is = delivery_begins (first_flying f.net) c refl (sym flows_off ∙ is)

    act_first : (o : Option Due) → (o ≡ Some (Begins c) → ⊥) → acts_first (flows asked f t) o ≡ Begins c → IsOver
    act_first None none is = flows_begin is
    act_first (Some d) none is = absurd (none (ap Some is))

    once_begins : acts_once asked f t ≡ Begins c → IsOver
    once_begins = by t.acted
      where
        by : (q : Bool) → (if q then flows asked f t else acts_first (flows asked f t) (act_of f t (command_at asked f.command))) ≡ Begins c → IsOver
        by true is = flows_begin is
        by false is = act_first (act_of f t (command_at asked f.command)) (act_begins (command_at asked f.command) c) is

    follows_begin : (o : Option Call) → follows_first (acts_once asked f t) o ≡ Begins c → IsOver
    follows_begin None is = once_begins is
    follows_begin (Some x) is = absurd cc

    start_begins : (o : Option ℕ) → falls_first (follows_first (acts_once asked f t) t.next_call) o ≡ Begins c → IsOver
    start_begins None is = follows_begin t.next_call is
    start_begins (Some n) is = absurd cc

    stop_begins : (o : Option ℕ) → falls_first (falls_first (follows_first (acts_once asked f t) t.next_call) t.start_to_stop) o ≡ Begins c → IsOver
    stop_begins None is = start_begins t.start_to_stop is
    stop_begins (Some n) is = absurd cc

    tell_begins : (ks : List ℕ) → first_losses (falls_first (falls_first (follows_first (acts_once asked f t) t.next_call) t.start_to_stop) f.node_to_stop) ks ≡ Begins c → IsOver
    tell_begins [] is = stop_begins f.node_to_stop is
    tell_begins (k ∷ ks) is = absurd cc

    due_begins : due_of asked p ≡ Begins c → IsOver
    unfolding due_of
    due_begins is = tell_begins f.losses_to_report is

    -- a command begins
    pub begun_over : comes_next places asked p ≡ Some (happenings.Begun c) → IsOver
    begun_over is = due_begins (begins_is (due_of asked p) c is)

  -- ---- in the course of a command

  -- a loss comes first
  pub told_first : (k : ℕ) (ks : List ℕ) → f.losses_to_report ≡ k ∷ ks → due_of asked p ≡ Tells k
  unfolding due_of
  told_first k ks at = ap (first_losses (falls_first (falls_first (follows_first (acts_once asked f t) t.next_call) t.start_to_stop) f.node_to_stop)) at

  module _ (told : f.losses_to_report ≡ []) (upright : f.node_to_stop ≡ None) where
    settled_due : due_of asked p ≡ falls_first (follows_first (acts_once asked f t) t.next_call) t.start_to_stop
    unfolding due_of
    settled_due = ap (first_losses (falls_first (falls_first (follows_first (acts_once asked f t) t.next_call) t.start_to_stop) f.node_to_stop)) told
        ∙ ap (falls_first (falls_first (follows_first (acts_once asked f t) t.next_call) t.start_to_stop)) upright

    -- no start was struck where a turn comes
    pub stands_here : (u : Turn) → comes_next places asked p ≡ Some (happenings.Turn u) → t.start_to_stop ≡ None
    stands_here u is = by t.start_to_stop refl
      where
        by : (o : Option ℕ) → t.start_to_stop ≡ o → o ≡ None
        by None at = refl
        by (Some n) at =
            let due : due_of asked p ≡ Falls n = settled_due ∙ ap (falls_first (follows_first (acts_once asked f t) t.next_call)) at in
            let it : happens places p (due_of asked p) ≡ Some (happenings.Stopped n) = ap (happens places p) due in
            let both : Some (happenings.Stopped n) ≡ Some (happenings.Turn u) = sym it ∙ is in
            absurd cc

    module _ (stands : t.start_to_stop ≡ None) where
      pub follows_due : due_of asked p ≡ follows_first (acts_once asked f t) t.next_call
      follows_due = settled_due ∙ ap (falls_first (follows_first (acts_once asked f t) t.next_call)) stands

      -- a second call that follows is the one that comes
      pub follows_here : (c : Call) → t.next_call ≡ Some c → (u : Turn) → comes_next places asked p ≡ Some (happenings.Turn u) → u.input ≡ inputs.Call c.session c.statement
      follows_here c follows u is =
          let due : due_of asked p ≡ Pends c = follows_due ∙ ap (follows_first (acts_once asked f t)) follows in
          let it : happens places p (Pends c) ≡ Some (happenings.Turn u) = ap (happens places p) (sym due) ∙ is in
          turn_is Input_is places p c.node (inputs.Call c.session c.statement) None (node_at f c.node) (happenings.Turn u) (λ v input took. input) it
        where
          Input_is : Happening → Type 0
          Input_is (happenings.Turn v) = v.input ≡ inputs.Call c.session c.statement
          Input_is _ = Unit {0}

      -- what comes by itself
      pub flow_due : t.next_call ≡ None → t.acted ≡ true → t.hold ≡ false → due_of asked p ≡ next_delivery asked f t (first_flying f.net)
      flow_due alone acted off =
          follows_due ∙ (ap (follows_first (acts_once asked f t)) alone ∙ (ap (λ q. if q then flows asked f t else acts_first (flows asked f t) (act_of f t (command_at asked f.command))) acted
          ∙ ap (λ q. if q then next_pumped asked f t (most_of (command_at asked f.command)) (first_flying f.net) else next_delivery asked f t (first_flying f.net)) off))
