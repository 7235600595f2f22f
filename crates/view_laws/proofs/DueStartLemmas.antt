-- A node starts in the course of a START alone.
use Rattle.std.proofs.Common.{◌≡◌, ℕ, ◌+◌, ◌&&◌, ◌==◌, Bool, true, false, if◌then◌else◌, List, [], ◌∷◌, length, is_some, Option, Some, None, refl, ap}
use Rattle.std.specs.Prelude.{nat_lt}
use Rattle.node_rules.specs.Data.{Place, Input}
use Rattle.node_rules.specs.NodeState.{NodeState, TurnOutput}
use Rattle.node_rules.specs.Turn.{turn_of}
use Rattle.net_bag.specs.Net.{first_flying, may_deliver, may_repeat, packet_at}
use Rattle.run_rules.specs.Calls.{call_at}
use Rattle.run_rules.specs.Commands.{is_enabled}
use Rattle.run_rules.specs.Cuts.{Cut_by, By_nothing, By_strike, By_point, cut_by}
use Rattle.run_rules.specs.Data.{Command, Happening, Packet, Took}
use Rattle.run_rules.specs.Data.commands
use Rattle.run_rules.specs.Data.happenings
use Rattle.run_rules.specs.Due.{Due, Tells, Falls, Pends, Gives_up, Delivers, Recovers, Cuts, Joins, Loses, Stops, Starts, Begins, Ends, if_due, call_due, act_of, next_command, next_give_up, next_delivery, most_of, next_pumped, flows, acts_first, acts_once, follows_first, falls_first, first_losses, due_of, turn_by, turn_at, delivery_at, happens, comes_next}
use Rattle.run_rules.specs.Facts.{Facts, command_at, is_up, node_at, place_at}
use Rattle.run_rules.specs.Lines.{spent}
use Rattle.run_rules.specs.RunReport.{Call, Past, RunReport}

-- whether a start is due
abbrev pub is_starts : Due → Bool
is_starts (Starts n) = true
is_starts _ = false

-- whether a node starts
abbrev is_started : Option Happening → Bool
is_started (Some (happenings.Started n boot)) = true
is_started _ = false

-- whether a command is START
abbrev pub is_start : Command → Bool
is_start (commands.Start n) = true
is_start _ = false

-- ---- what comes by itself

module _ (asked : List Command) (f : Facts) (t : RunReport) where
  command_not : is_starts (next_command asked f) ≡ false
  command_not = by (nat_lt f.command (length asked))
    where
      by : (q : Bool) → is_starts (if q then Begins (f.command + 1) else Ends) ≡ false
      by true = refl
      by false = refl

  give_up_not : (cs : List Call) → is_starts (next_give_up asked f cs) ≡ false
  give_up_not [] = command_not
  give_up_not (c ∷ cs) = refl

  delivery_not : (o : Option ℕ) → is_starts (next_delivery asked f t o) ≡ false
  delivery_not None = give_up_not t.calls
  delivery_not (Some k) = by (spent t.deliveries)
    where
      by : (q : Bool) → is_starts (if q then next_give_up asked f t.calls else Delivers k false) ≡ false
      by true = give_up_not t.calls
      by false = refl

  pumped_not : (most : ℕ) (o : Option ℕ) → is_starts (next_pumped asked f t most o) ≡ false
  pumped_not most None = command_not
  pumped_not most (Some k) = by (nat_lt t.deliveries most)
    where
      by : (q : Bool) → is_starts (if q then Delivers k false else next_command asked f) ≡ false
      by true = refl
      by false = command_not

  flows_not : is_starts (flows asked f t) ≡ false
  flows_not = by t.hold
    where
      by : (q : Bool) → is_starts (if q then next_pumped asked f t (most_of (command_at asked f.command)) (first_flying f.net) else next_delivery asked f t (first_flying f.net)) ≡ false
      by true = pumped_not (most_of (command_at asked f.command)) (first_flying f.net)
      by false = delivery_not (first_flying f.net)

  -- ---- the command's own act

  abbrev IsNot : Option Due → Type 0
  IsNot None = Unit {0}
  IsNot (Some d) = is_starts d ≡ false

  if_not : (q : Bool) (d : Due) → is_starts d ≡ false → IsNot (if_due q d)
  if_not true d not_so = not_so
  if_not false d not_so = tt

  call_not : (o : Option Call) → IsNot (call_due f.command o)
  call_not None = tt
  call_not (Some c) = if_not (c.command == f.command) (Pends c) refl

  act_not : (c : Command) → is_start c ≡ false → IsNot (act_of f t c)
  act_not (commands.At node session statement) other = call_not (call_at t node session)
  act_not (commands.Cut a b) other = refl
  act_not (commands.Join a b) other = refl
  act_not (commands.Lose k) other = if_not (may_deliver f.net k) (Loses k) refl
  act_not (commands.Stop n) other = if_not (is_up f n) (Stops n) refl
  act_not (commands.Start n) other = absurd cc
  act_not (commands.Deliver k) other = if_not (may_deliver f.net k) (Delivers k false) refl
  act_not (commands.Again k) other = if_not (may_repeat f.net k) (Delivers k true) refl
  act_not (commands.GiveUp n session) other = if_not (is_up f n && is_some (call_at t n session)) (Gives_up n session) refl
  act_not (commands.Reco n) other = if_not (is_enabled (node_at f n)) (Recovers n) refl
  act_not _ other = tt

  first_not : (later : Due) (o : Option Due) → is_starts later ≡ false → IsNot o → is_starts (acts_first later o) ≡ false
  first_not later None rest act = rest
  first_not later (Some d) rest act = act

  acts_not : is_start (command_at asked f.command) ≡ false → is_starts (acts_once asked f t) ≡ false
  acts_not other = by t.acted
    where
      by : (q : Bool) → is_starts (if q then flows asked f t else acts_first (flows asked f t) (act_of f t (command_at asked f.command))) ≡ false
      by true = flows_not
      by false = first_not (flows asked f t) (act_of f t (command_at asked f.command)) flows_not (act_not (command_at asked f.command) other)

-- ---- what is due

follows_not : (later : Due) (o : Option Call) → is_starts later ≡ false → is_starts (follows_first later o) ≡ false
follows_not later None rest = rest
follows_not later (Some c) rest = refl

falls_not : (later : Due) (o : Option ℕ) → is_starts later ≡ false → is_starts (falls_first later o) ≡ false
falls_not later None rest = rest
falls_not later (Some n) rest = refl

losses_not : (later : Due) (ks : List ℕ) → is_starts later ≡ false → is_starts (first_losses later ks) ≡ false
losses_not later [] rest = rest
losses_not later (k ∷ ks) rest = refl

module _ (places : List Place) (asked : List Command) (p : Past) where
  due_not : is_start (command_at asked p.facts.command) ≡ false → is_starts (due_of asked p) ≡ false
  unfolding due_of
  due_not other =
      losses_not _ p.facts.losses_to_report (falls_not _ p.facts.node_to_stop (falls_not _ p.run_report.start_to_stop (follows_not _ p.run_report.next_call (acts_not asked p.facts p.run_report other))))

  by_not : (node : ℕ) (input : Input) (took : Option Took) (o : TurnOutput) (c : Cut_by) → is_started (Some (turn_by node input took o c)) ≡ false
  by_not node input took o By_nothing = refl
  by_not node input took o (By_strike stands) = refl
  by_not node input took o (By_point root numbers stands) = refl

  turn_not : (node : ℕ) (input : Input) (took : Option Took) (k : Option NodeState) → is_started (turn_at places p.run_report node input took k) ≡ false
  turn_not node input took None = refl
  turn_not node input took (Some k) = let o : TurnOutput = turn_of (place_at places node) k input in by_not node input took o (cut_by p.run_report node k input o)

  message_not : (k : ℕ) (again : Bool) (o : Option Packet) → is_started (delivery_at places p k again o) ≡ false
  message_not k again None = refl
  message_not k again (Some x) = turn_not _ _ _ (node_at p.facts x.msg.to.node)

  happens_not : (d : Due) → is_starts d ≡ false → is_started (happens places p d) ≡ false
  happens_not (Tells k) other = refl
  happens_not (Falls n) other = refl
  happens_not (Pends c) other = turn_not _ _ _ (node_at p.facts c.node)
  happens_not (Gives_up n session) other = turn_not _ _ _ (node_at p.facts n)
  happens_not (Delivers k again) other = message_not k again (packet_at p.facts.net k)
  happens_not (Recovers n) other = turn_not _ _ _ (node_at p.facts n)
  happens_not (Cuts a b) other = refl
  happens_not (Joins a b) other = refl
  happens_not (Loses k) other = refl
  happens_not (Stops n) other = refl
  happens_not (Starts n) other = absurd cc
  happens_not (Begins c) other = refl
  happens_not Ends other = refl

  -- so in another command no node starts
  pub none_starts : is_start (command_at asked p.facts.command) ≡ false → (n boot : ℕ) → comes_next places asked p ≡ Some (happenings.Started n boot) → ⊥
  none_starts other n boot comes =
      let none : is_started (comes_next places asked p) ≡ false = happens_not (due_of asked p) (due_not other) in let some : is_started (comes_next places asked p) ≡ true = ap is_started comes in cc (none, some)
