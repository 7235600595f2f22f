-- Commands begin in order, each once: those that have begun have numbers up to that of the command that runs.
use Rattle.std.proofs.Common.{◌≡◌, ◌⊎◌, inl, inr, ◌+◌, ◌<◌, ◌≤◌, ◌==◌, ◌&&◌, not, ℕ, Bool, true, false, if◌then◌else◌, List, [], ◌∷◌, ◌++◌, length, is_some, Option, Some, None, refl, sym, ap, subst, ◌∙◌, arith}
use Rattle.std.proofs.lemmas.Bool.{ltb-true}
use Rattle.std.specs.Prelude.{nat_lt}
use Rattle.node_rules.specs.Data.{Place, Input}
use Rattle.node_rules.specs.NodeState.{NodeState, TurnOutput}
use Rattle.node_rules.specs.Turn.{turn_of}
use Rattle.run_rules.specs.Data.{Command, Happening, Packet, Took}
use Rattle.run_rules.specs.Data.happenings
use Rattle.run_rules.specs.Data.commands
use Rattle.run_rules.specs.Calls.{call_at}
use Rattle.run_rules.specs.Commands.{is_enabled}
use Rattle.run_rules.specs.Cuts.{Cut_by, By_nothing, By_strike, By_point, cut_by}
use Rattle.run_rules.specs.Disks.{Strike, struck}
use Rattle.run_rules.specs.Due.{Due, Tells, Falls, Pends, Gives_up, Delivers, Recovers, Cuts, Joins, Loses, Stops, Starts, Begins, Ends, IsTheRun, act_of, acts_first, acts_once, call_due, comes_next, delivery_at, due_of, falls_first, flows, follows_first, happens, if_due, most_of, next_command, next_delivery, next_give_up, next_pumped, start_by, first_losses, turn_at, turn_by}
use Rattle.run_rules.specs.Facts.{Facts, command_at, facts_after, is_up, node_at, place_at, records_at}
use Rattle.run_rules.specs.Lawful.{boots}
use Rattle.run_rules.specs.Lines.{spent}
use Rattle.run_rules.specs.Past.{next, past}
use Rattle.run_rules.specs.RunReport.{Call, Past, RunReport, orders_at, start}
use Rattle.run_rules.proofs.FactLemmas.{facts_next}
use Rattle.net_bag.specs.Net.{first_flying, may_deliver, may_repeat, packet_at}
use Rattle.run_trace.specs.Recorded.{RunSoFar, IsRunOfScript, past_of}
use Rattle.world_parts.specs.Shown.{CommandHasBegun}

module _ (asked : List Command) (f : Facts) (t : RunReport) where
  -- a command that is due is the next one, and a start that is due is the act of the command that runs, at a node that is down
  abbrev Comes : Due → Type 0
  Comes (Begins c) = (c ≡ f.command + 1) × (f.command < length asked)
  Comes (Starts n) = (command_at asked f.command ≡ commands.Start n) × (is_up f n ≡ false)
  Comes (Stops n) = command_at asked f.command ≡ commands.Stop n
  Comes (Falls n) = (t.start_to_stop ≡ Some n) ⊎ (f.node_to_stop ≡ Some n)
  Comes _ = Unit {0}

  abbrev MayCome : Option Due → Type 0
  MayCome None = Unit {0}
  MayCome (Some d) = Comes d

  if_comes : (b : Bool) (d : Due) → Comes d → MayCome (if_due b d)
  if_comes true d comes = comes
  if_comes false d comes = tt

  either : (b : Bool) (d e : Due) → Comes d → Comes e → Comes (if b then d else e)
  either true d e this that = this
  either false d e this that = that

  call_comes : (o : Option Call) → MayCome (call_due f.command o)
  call_comes None = tt
  call_comes (Some c) = if_comes (c.command == f.command) (Pends c) tt

  start_comes : (n : ℕ) → command_at asked f.command ≡ commands.Start n → (b : Bool) → is_up f n ≡ b → MayCome (if_due (not b) (Starts n))
  start_comes n is true up = tt
  start_comes n is false down = (is, down)

  act_comes : (command : Command) → command_at asked f.command ≡ command → MayCome (act_of f t command)
  act_comes (commands.Node name strength links undo) is = tt
  act_comes (commands.At node session statement) is = call_comes (call_at t node session)
  act_comes (commands.Cut a b) is = tt
  act_comes (commands.Join a b) is = tt
  act_comes (commands.Lose k) is = if_comes (may_deliver f.net k) (Loses k) tt
  act_comes (commands.LoseNext kind from to) is = tt
  act_comes (commands.Stop n) is = if_comes (is_up f n) (Stops n) is
  act_comes (commands.Start n) is = start_comes n is (is_up f n) refl
  act_comes (commands.Crash n write how) is = tt
  act_comes (commands.Fault n call) is = tt
  act_comes (commands.Hold on) is = tt
  act_comes (commands.Deliver k) is = if_comes (may_deliver f.net k) (Delivers k false) tt
  act_comes (commands.Again k) is = if_comes (may_repeat f.net k) (Delivers k true) tt
  act_comes (commands.Pump most) is = tt
  act_comes (commands.GiveUp n session) is = if_comes (is_up f n && is_some (call_at t n session)) (Gives_up n session) tt
  act_comes (commands.Reco n) is = if_comes (is_enabled (node_at f n)) (Recovers n) tt
  act_comes (commands.ShowPending n) is = tt
  act_comes (commands.ShowNeighbors n) is = tt
  act_comes commands.ShowBook is = tt
  act_comes commands.ShowNet is = tt
  act_comes (commands.ShowDisk n) is = tt
  act_comes (commands.ShowUndo n) is = tt

  command_comes : Comes (next_command asked f)
  command_comes = by (nat_lt f.command (length asked)) refl
    where
      by : (b : Bool) → nat_lt f.command (length asked) ≡ b → Comes (if b then Begins (f.command + 1) else Ends)
      by true is = (refl, ltb-true f.command (length asked) is)
      by false is = tt

  give_up_comes : (calls : List Call) → Comes (next_give_up asked f calls)
  give_up_comes [] = command_comes
  give_up_comes (c ∷ cs) = tt

  delivery_comes : (o : Option ℕ) → Comes (next_delivery asked f t o)
  delivery_comes None = give_up_comes t.calls
  delivery_comes (Some k) = either (spent t.deliveries) (next_give_up asked f t.calls) (Delivers k false) (give_up_comes t.calls) tt

  pumped_comes : (most : ℕ) (o : Option ℕ) → Comes (next_pumped asked f t most o)
  pumped_comes most None = command_comes
  pumped_comes most (Some k) = either (nat_lt t.deliveries most) (Delivers k false) (next_command asked f) tt command_comes

  flows_come : Comes (flows asked f t)
  flows_come =
      either t.hold (next_pumped asked f t (most_of (command_at asked f.command)) (first_flying f.net)) (next_delivery asked f t (first_flying f.net)) (pumped_comes (most_of (command_at asked f.command)) (first_flying f.net))
      (delivery_comes (first_flying f.net))

  first_comes : (later : Due) (o : Option Due) → Comes later → MayCome o → Comes (acts_first later o)
  first_comes later None comes may = comes
  first_comes later (Some d) comes may = may

  once_comes : Comes (acts_once asked f t)
  once_comes =
      either t.acted (flows asked f t) (acts_first (flows asked f t) (act_of f t (command_at asked f.command))) flows_come
      (first_comes (flows asked f t) (act_of f t (command_at asked f.command)) flows_come (act_comes (command_at asked f.command) refl))

  follow_comes : (later : Due) (o : Option Call) → Comes later → Comes (follows_first later o)
  follow_comes later None comes = comes
  follow_comes later (Some c) comes = tt

  fall_comes : (later : Due) (o : Option ℕ) → ((n : ℕ) → o ≡ Some n → Comes (Falls n)) → Comes later → Comes (falls_first later o)
  fall_comes later None falls comes = comes
  fall_comes later (Some n) falls comes = falls n refl

  tell_comes : (later : Due) (ks : List ℕ) → Comes later → Comes (first_losses later ks)
  tell_comes later [] comes = comes
  tell_comes later (k ∷ ks) comes = tt

  due_comes : Comes (due_of asked (record { facts = f; run_report = t }))
  unfolding due_of
  due_comes =
      tell_comes (falls_first (falls_first (follows_first (acts_once asked f t) t.next_call) t.start_to_stop) f.node_to_stop) f.losses_to_report
      (fall_comes (falls_first (follows_first (acts_once asked f t) t.next_call) t.start_to_stop) f.node_to_stop (λ n is. inr is)
      (fall_comes (follows_first (acts_once asked f t) t.next_call) t.start_to_stop (λ n is. inl is) (follow_comes (acts_once asked f t) t.next_call once_comes)))

-- a command that is due is there
pub begins_inside : (asked : List Command) (p : Past) (c : ℕ) → due_of asked p ≡ Begins c → (1 ≤ c) × (c ≤ length asked)
begins_inside asked p c due =
    let comes : (c ≡ p.facts.command + 1) × (p.facts.command < length asked) = subst (λ (d : Due). Comes asked p.facts p.run_report d) due (due_comes asked p.facts p.run_report) in
    (omega (arith, comes.0), omega (arith, comes.0, comes.1))

-- the command that is due is the next one
pub begins_next_command : (asked : List Command) (p : Past) (c : ℕ) → due_of asked p ≡ Begins c → c ≡ p.facts.command + 1
begins_next_command asked p c due =
    let comes : (c ≡ p.facts.command + 1) × (p.facts.command < length asked) = subst (λ (d : Due). Comes asked p.facts p.run_report d) due (due_comes asked p.facts p.run_report) in
    comes.0

-- a start that is due is that of the command that runs, and its node is down
pub starts_down : (asked : List Command) (p : Past) (n : ℕ) → due_of asked p ≡ Starts n → (command_at asked p.facts.command ≡ commands.Start n) × (is_up p.facts n ≡ false)
starts_down asked p n due = subst (λ (d : Due). Comes asked p.facts p.run_report d) due (due_comes asked p.facts p.run_report)

-- a node that has to stop since its turn was cut, where no order has struck a start
pub falls_owed : (asked : List Command) (p : Past) (n : ℕ) → due_of asked p ≡ Falls n → p.run_report.start_to_stop ≡ None → p.facts.node_to_stop ≡ Some n
falls_owed asked p n due upright = elim (subst (λ (d : Due). Comes asked p.facts p.run_report d) due (due_comes asked p.facts p.run_report)) [
  | inl struck ↦ let clash : None ≡ Some n = sym upright ∙ struck in absurd cc
  | inr owed ↦ owed
]

-- a stop that is due is that of the command that runs
pub stops_command : (asked : List Command) (p : Past) (n : ℕ) → due_of asked p ≡ Stops n → command_at asked p.facts.command ≡ commands.Stop n
stops_command asked p n due = subst (λ (d : Due). Comes asked p.facts p.run_report d) due (due_comes asked p.facts p.run_report)

-- and nothing comes before it
pub starts_settled : (asked : List Command) (p : Past) (n : ℕ) → due_of asked p ≡ Starts n → (p.facts.losses_to_report ≡ []) × (p.facts.node_to_stop ≡ None)
unfolding due_of
starts_settled asked p n due = by_parts _ p.facts.losses_to_report p.facts.node_to_stop due
  where
    by_parts : (d : Due) (ks : List ℕ) (o : Option ℕ) → first_losses (falls_first d o) ks ≡ Starts n → (ks ≡ []) × (o ≡ None)
    by_parts d (k ∷ ks) o due = absurd cc
    by_parts d [] None due = (refl, refl)
    by_parts d [] (Some m) due = absurd cc

module _ (places : List Place) (asked : List Command) where
  -- only a command that is due begins
  abbrev IsBegun : ℕ → Option Happening → Type 0
  IsBegun c o = o ≡ Some (happenings.Begun c)

  by_no_turn : (n : ℕ) (input : Input) (took : Option Took) (o : TurnOutput) (by : Cut_by) (c : ℕ) → turn_by n input took o by ≡ happenings.Begun c → ⊥
  by_no_turn n input took o By_nothing c is = absurd cc
  by_no_turn n input took o (By_strike stands) c is = absurd cc
  by_no_turn n input took o (By_point root numbers stands) c is = absurd cc

  some_same : (g h : Happening) → Some g ≡ Some h → g ≡ h
  some_same g h is = cc

  no_turn : (t : RunReport) (n : ℕ) (input : Input) (took : Option Took) (k : Option NodeState) (c : ℕ) → IsBegun c (turn_at places t n input took k) → ⊥
  no_turn t n input took None c is = absurd cc
  no_turn t n input took (Some k) c is = by_no_turn n input took (turn_of (place_at places n) k input) (cut_by t n k input (turn_of (place_at places n) k input)) c (some_same _ (happenings.Begun c) is)

  no_delivery : (p : Past) (k : ℕ) (again : Bool) (o : Option Packet) (c : ℕ) → IsBegun c (delivery_at places p k again o) → ⊥
  no_delivery p k again None c is = absurd cc
  no_delivery p k again (Some x) c is = no_turn p.run_report _ _ _ (node_at p.facts x.msg.to.node) c is

  no_start : (f : Facts) (n : ℕ) (s : Option Strike) (c : ℕ) → start_by f n s ≡ happenings.Begun c → ⊥
  no_start f n None c is = absurd cc
  no_start f n (Some s) c is = by s.stands (boots (records_at f n) + 1) is
    where
      by : (b : Bool) (boot : ℕ) → (if b then happenings.Started n boot else happenings.Stopped n) ≡ happenings.Begun c → ⊥
      by true boot is = absurd cc
      by false boot is = absurd cc

  begun_due : (p : Past) (d : Due) (c : ℕ) → IsBegun c (happens places p d) → d ≡ Begins c
  begun_due p (Tells k) c is = absurd cc
  begun_due p (Falls n) c is = absurd cc
  begun_due p (Pends x) c is = absurd (no_turn p.run_report _ _ _ (node_at p.facts x.node) c is)
  begun_due p (Gives_up n session) c is = absurd (no_turn p.run_report _ _ _ (node_at p.facts n) c is)
  begun_due p (Delivers k again) c is = absurd (no_delivery p k again (packet_at p.facts.net k) c is)
  begun_due p (Recovers n) c is = absurd (no_turn p.run_report _ _ _ (node_at p.facts n) c is)
  begun_due p (Cuts a b) c is = absurd cc
  begun_due p (Joins a b) c is = absurd cc
  begun_due p (Loses k) c is = absurd cc
  begun_due p (Stops n) c is = absurd cc
  begun_due p (Starts n) c is = absurd (no_start p.facts n (struck 3 (orders_at p.run_report n)) c (some_same _ (happenings.Begun c) is))
  begun_due p (Begins x) c is = cc
  begun_due p Ends c is = absurd cc

  pub begun_next : (p : Past) (c : ℕ) → comes_next places asked p ≡ Some (happenings.Begun c) → c ≡ p.facts.command + 1
  begun_next p c is = begins_next_command asked p c (begun_due p (due_of asked p) c is)

  -- the number of the command that runs never falls
  rises_with : (f : Facts) (h : Happening) → ((c : ℕ) → h ≡ happenings.Begun c → c ≡ f.command + 1) → f.command ≤ (facts_after places asked f h).command
  unfolding facts_after
  rises_with f (happenings.Begun c) next_is = let is = next_is c refl in omega (arith, is)
  rises_with f (happenings.Turn u) next_is = omega arith
  rises_with f (happenings.Cut a b) next_is = omega arith
  rises_with f (happenings.Join a b) next_is = omega arith
  rises_with f (happenings.Lost k) next_is = omega arith
  rises_with f (happenings.Stopped n) next_is = omega arith
  rises_with f (happenings.Started n boot) next_is = omega arith

  rises : (p : Past) (h : Happening) → comes_next places asked p ≡ Some h → p.facts.command ≤ (next places asked p h).facts.command
  rises p h due =
      subst (λ (f : Facts). p.facts.command ≤ f.command) (sym (facts_next places asked p h)) (rises_with p.facts h (λ c same. begun_next p c (due ∙ ap (λ (g : Happening). Some g) same)))

  rises_on : (p : Past) (hs : List Happening) → IsTheRun places asked p hs → p.facts.command ≤ (past places asked p hs).facts.command
  unfolding past IsTheRun
  rises_on p [] run = omega arith
  rises_on p (h ∷ hs) run =
      let first = rises p h run.0 in
      let rest = rises_on (next places asked p h) hs run.1 in
      omega (arith, first, rest)

  begun_is : (p : Past) (c : ℕ) → (next places asked p (happenings.Begun c)).facts.command ≡ c
  unfolding facts_after
  begun_is p c = ap (λ (f : Facts). f.command) (facts_next places asked p (happenings.Begun c))

  -- what has begun has a number up to that of the command that runs
  low : (p : Past) (before later : List Happening) (c : ℕ) → IsTheRun places asked p (before ++ happenings.Begun c ∷ later) → c ≤ (past places asked p (before ++ happenings.Begun c ∷ later)).facts.command
  unfolding past IsTheRun
  low p [] later c run =
      let is = begun_is p c in
      let rest = rises_on (next places asked p (happenings.Begun c)) later run.1 in
      omega (arith, is, rest)
  low p (h ∷ hs) later c run = low (next places asked p h) hs later c run.1

-- a command that is due has not begun
pub begins_fresh : (r : RunSoFar) (c : ℕ) → IsRunOfScript r → due_of r.asked (past_of r) ≡ Begins c → CommandHasBegun r c → ⊥
begins_fresh r c run due begun =
    let next_is = begins_next_command r.asked (past_of r) c due in
    let run_is : IsTheRun r.places r.asked (start r.places) (begun.0 ++ happenings.Begun c ∷ begun.1) = subst (λ (hs : List Happening). IsTheRun r.places r.asked (start r.places) hs) begun.2 run in
    let most : c ≤ (past_of r).facts.command =
    subst (λ (hs : List Happening). c ≤ (past r.places r.asked (start r.places) hs).facts.command) (sym begun.2) (low r.places r.asked (start r.places) begun.0 begun.1 c run_is) in
    absurd (omega (arith, next_is, most))
