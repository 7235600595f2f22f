-- What is due next, case by case: a loss or a stop that is to be told, a call that was not made yet, or anything else where
-- there is none such.
use Rattle.std.proofs.Common.{◌≡◌, ℕ, ◌+◌, ◌==◌, ◌&&◌, not, Bool, true, false, if◌then◌else◌, List, [], ◌∷◌, find, position, length, slice_get, get_or, suc, Option, Some, None, refl, sym, ap, subst, ◌∙◌, arith}
use Rattle.std.specs.Prelude.{nat_lt, is_some, option_map}
use Rattle.std.proofs.lemmas.Bool.Decides.{nat_tests}
use Rattle.std.proofs.lemmas.List.Quantifiers.{position-Some}
use Rattle.std.proofs.lemmas.Option.{slice_get-get_or}
use Rattle.std.proofs.lemmas.Bool.{cond_both, and_parts}
use Rattle.node_rules.specs.Data.{Stmt}
use Rattle.net_bag.specs.declared.packet.Packet.{Packet}
use Rattle.net_bag.specs.Net.{flies, packet_at, first_flying, is_flying_at, may_deliver, may_repeat}
use Rattle.tran_ids.specs.Listed.{numbered}
use Rattle.run_rules.specs.Data.{Command}
use Rattle.run_rules.specs.Data.commands
use Rattle.run_rules.specs.Facts.{Facts, node_at, is_up, command_at}
use Rattle.run_rules.specs.RunReport.{Past, RunReport, Call}
use Rattle.run_rules.specs.Lines.{spent}
use Rattle.run_rules.specs.Commands.{is_enabled}
use Rattle.run_rules.specs.Calls.{call_at, is_call_at}
use Rattle.run_rules.specs.Lawful.{NothingComesFirst}
use Rattle.run_rules.specs.Due.{Due, Tells, Falls, Pends, Gives_up, Delivers, Recovers, Cuts, Joins, Loses, Stops, Starts, Begins, Ends, if_due, call_due, act_of, next_command, next_give_up, next_delivery, most_of, next_pumped, flows, acts_first, acts_once, follows_first, falls_first, first_losses, due_of}

-- a command makes no call of its own
abbrev pub MakesNoCall : Facts → RunReport → Command → Type 0
MakesNoCall f t (commands.At n session s) = (c : Call) → call_at t n session ≡ Some c → (c.command == f.command) ≡ false
MakesNoCall f t _ = Unit {0}

-- What is due beside losses, stops and calls that were not made yet.
pub data ComesBeside (asked : List Command) (f : Facts) (t : RunReport) : Due → Type 0 where
  Gives : (n session : ℕ) (c : Call) → call_at t n session ≡ Some c → ComesBeside asked f t (Gives_up n session)
  Takes : (k : ℕ) → may_deliver f.net k ≡ true → ComesBeside asked f t (Delivers k false)
  Repeats : (k : ℕ) → may_repeat f.net k ≡ true → ComesBeside asked f t (Delivers k true)
  Asks : (n : ℕ) → ComesBeside asked f t (Recovers n)
  Cuts_so : (a b : ℕ) → command_at asked f.command ≡ commands.Cut a b → ComesBeside asked f t (Cuts a b)
  Joins_so : (a b : ℕ) → command_at asked f.command ≡ commands.Join a b → ComesBeside asked f t (Joins a b)
  Loses_so : (k : ℕ) → may_deliver f.net k ≡ true → ComesBeside asked f t (Loses k)
  Stops_so : (n : ℕ) → command_at asked f.command ≡ commands.Stop n → ComesBeside asked f t (Stops n)
  Starts_so : (n : ℕ) → t.acted ≡ false → command_at asked f.command ≡ commands.Start n → is_up f n ≡ false → ComesBeside asked f t (Starts n)
  Next : nat_lt f.command (length asked) ≡ true → ComesBeside asked f t (Begins (f.command + 1))
  None_left : ComesBeside asked f t Ends

-- What is due.
pub data IsDue (asked : List Command) (f : Facts) (t : RunReport) : Due → Type 0 where
  Told : (k : ℕ) (ks : List ℕ) → f.losses_to_report ≡ k ∷ ks → IsDue asked f t (Tells k)
  Node_falls : (n : ℕ) → f.losses_to_report ≡ [] → f.node_to_stop ≡ Some n → IsDue asked f t (Falls n)
  Start_falls : (n : ℕ) → f.losses_to_report ≡ [] → f.node_to_stop ≡ None → t.start_to_stop ≡ Some n → IsDue asked f t (Falls n)
  Follows : (c : Call) → NothingComesFirst f → t.start_to_stop ≡ None → t.next_call ≡ Some c → IsDue asked f t (Pends c)
  Own_call : (c : Call) (n session : ℕ) (s : Option Stmt) → NothingComesFirst f → t.start_to_stop ≡ None → t.next_call ≡ None → t.acted ≡ false → command_at asked f.command ≡ commands.At n session s
      → call_at t n session ≡ Some c → (c.command == f.command) ≡ true → IsDue asked f t (Pends c)
  Beside : {d : Due} → NothingComesFirst f → t.start_to_stop ≡ None → t.next_call ≡ None → (t.acted ≡ false → MakesNoCall f t (command_at asked f.command)) → ComesBeside asked f t d → IsDue asked f t d

module _ (asked : List Command) (f : Facts) (t : RunReport) where
  -- ---- what comes by itself

  found_at : (xs : List Packet) (i : ℕ) → position flies xs ≡ Some i → is_flying_at (numbered xs (i + 1)) ≡ true
  found_at [] i is = absurd cc
  found_at (x ∷ xs) i is =
      let first = position-Some flies (x ∷ xs) i x is in
      let next : i + 1 ≡ suc i = omega arith in
      let at : slice_get (x ∷ xs) i ≡ Some (get_or (x ∷ xs) i x) = slice_get-get_or (x ∷ xs) i x first.0 in
      subst (λ n. is_flying_at (numbered (x ∷ xs) n) ≡ true) (sym next) (subst (λ o. is_flying_at o ≡ true) (sym at) first.1)

  first_flies : (k : ℕ) → first_flying f.net ≡ Some k → may_deliver f.net k ≡ true
  first_flies k is = by (position flies f.net.packets) refl is
    where
      by : (o : Option ℕ) → position flies f.net.packets ≡ o → option_map (λ i. i + 1) o ≡ Some k → may_deliver f.net k ≡ true
      by None at is = absurd cc
      by (Some i) at is = let here : i + 1 ≡ k = (let it : Some (i + 1) ≡ Some k = is in cc) in subst (λ n. is_flying_at (packet_at f.net n) ≡ true) here (found_at f.net.packets i at)

  command_so : ComesBeside asked f t (next_command asked f)
  command_so = by (nat_lt f.command (length asked)) refl
    where
      by : (q : Bool) → nat_lt f.command (length asked) ≡ q → ComesBeside asked f t (if q then Begins (f.command + 1) else Ends)
      by true is = Next is
      by false is = None_left

  own : (c : Call) (cs : List Call) → find (is_call_at c.node c.session) (c ∷ cs) ≡ Some c
  own c cs = grind (arith, nat_tests)

  give_up_so : (cs : List Call) → t.calls ≡ cs → ComesBeside asked f t (next_give_up asked f cs)
  give_up_so [] is = command_so
  give_up_so (c ∷ cs) is = Gives c.node c.session c (ap (find (is_call_at c.node c.session)) is ∙ own c cs)

  delivery_so : (o : Option ℕ) → first_flying f.net ≡ o → ComesBeside asked f t (next_delivery asked f t o)
  delivery_so None is = give_up_so t.calls refl
  delivery_so (Some k) is = cond_both (spent t.deliveries) (next_give_up asked f t.calls) (Delivers k false) (ComesBeside asked f t) (λ all. give_up_so t.calls refl) (λ more. Takes k (first_flies k is))

  pumped_so : (most : ℕ) (o : Option ℕ) → first_flying f.net ≡ o → ComesBeside asked f t (next_pumped asked f t most o)
  pumped_so most None is = command_so
  pumped_so most (Some k) is = cond_both (nat_lt t.deliveries most) (Delivers k false) (next_command asked f) (ComesBeside asked f t) (λ more. Takes k (first_flies k is)) (λ all. command_so)

  flows_so : ComesBeside asked f t (flows asked f t)
  flows_so =
      cond_both t.hold (next_pumped asked f t (most_of (command_at asked f.command)) (first_flying f.net)) (next_delivery asked f t (first_flying f.net)) (ComesBeside asked f t)
      (λ on. pumped_so (most_of (command_at asked f.command)) (first_flying f.net) refl) (λ off. delivery_so (first_flying f.net) refl)

  -- ---- with nothing to tell

  module _ (settled : NothingComesFirst f) (stands : t.start_to_stop ≡ None) (alone : t.next_call ≡ None) where
    -- a command that makes no call
    beside : (c : Command) → command_at asked f.command ≡ c → MakesNoCall f t c → {d : Due} → ComesBeside asked f t d → IsDue asked f t d
    beside c is none comes = Beside settled stands alone (λ fresh. subst (MakesNoCall f t) (sym is) none) comes

    -- its own act comes first, where it may
    may_act : (c : Command) → command_at asked f.command ≡ c → MakesNoCall f t c → (q : Bool) (d : Due) → (q ≡ true → ComesBeside asked f t d) → IsDue asked f t (acts_first (flows asked f t) (if_due q d))
    may_act c is none true d comes = beside c is none (comes refl)
    may_act c is none false d comes = beside c is none flows_so

    call_so : (n session : ℕ) (s : Option Stmt) → t.acted ≡ false → command_at asked f.command ≡ commands.At n session s → (o : Option Call) → call_at t n session ≡ o
        → IsDue asked f t (acts_first (flows asked f t) (call_due f.command o))
    call_so n session s fresh is None at = beside (commands.At n session s) is (λ c there. absurd (cc (at, there))) flows_so
    call_so n session s fresh is (Some c) at = by (c.command == f.command) refl
      where
        by : (q : Bool) → (c.command == f.command) ≡ q → IsDue asked f t (acts_first (flows asked f t) (if_due q (Pends c)))
        by true mine = Own_call c n session s settled stands alone fresh is at mine
        by false other = beside (commands.At n session s) is (λ d there. (let it : Some c ≡ Some d = sym at ∙ there in let here : c ≡ d = cc in subst (λ x. (x.command == f.command) ≡ false) here other)) flows_so

    some_at : (o : Option Call) → is_some o ≡ true → (c : Call) × (o ≡ Some c)
    some_at None is = absurd cc
    some_at (Some c) is = (c, refl)

    act_so : t.acted ≡ false → (c : Command) → command_at asked f.command ≡ c → IsDue asked f t (acts_first (flows asked f t) (act_of f t c))
    act_so fresh (commands.At n session s) is = call_so n session s fresh is (call_at t n session) refl
    act_so fresh (commands.Cut a b) is = beside (commands.Cut a b) is tt (Cuts_so a b is)
    act_so fresh (commands.Join a b) is = beside (commands.Join a b) is tt (Joins_so a b is)
    act_so fresh (commands.Lose k) is = may_act (commands.Lose k) is tt (may_deliver f.net k) (Loses k) (λ may. Loses_so k may)
    act_so fresh (commands.Stop n) is = may_act (commands.Stop n) is tt (is_up f n) (Stops n) (λ may. Stops_so n is)
    act_so fresh (commands.Start n) is = may_act (commands.Start n) is tt (not (is_up f n)) (Starts n) (λ may. Starts_so n fresh is (let it : is_up f n ≡ false = grind (arith, may) in it))
    act_so fresh (commands.Deliver k) is = may_act (commands.Deliver k) is tt (may_deliver f.net k) (Delivers k false) (λ may. Takes k may)
    act_so fresh (commands.Again k) is = may_act (commands.Again k) is tt (may_repeat f.net k) (Delivers k true) (λ may. Repeats k may)
    act_so fresh (commands.GiveUp n session) is = may_act (commands.GiveUp n session) is tt (is_up f n && is_some (call_at t n session)) (Gives_up n session)
        (λ may. let c = some_at (call_at t n session) (and_parts (is_up f n) (is_some (call_at t n session)) may).1 in Gives n session c.0 c.1)
    act_so fresh (commands.Reco n) is = may_act (commands.Reco n) is tt (is_enabled (node_at f n)) (Recovers n) (λ may. Asks n)
    act_so fresh (commands.Node name strength links undo) is = beside (commands.Node name strength links undo) is tt flows_so
    act_so fresh (commands.LoseNext kind from to) is = beside (commands.LoseNext kind from to) is tt flows_so
    act_so fresh (commands.Crash n write how) is = beside (commands.Crash n write how) is tt flows_so
    act_so fresh (commands.Fault n call) is = beside (commands.Fault n call) is tt flows_so
    act_so fresh (commands.Hold on) is = beside (commands.Hold on) is tt flows_so
    act_so fresh (commands.Pump most) is = beside (commands.Pump most) is tt flows_so
    act_so fresh (commands.ShowPending n) is = beside (commands.ShowPending n) is tt flows_so
    act_so fresh (commands.ShowNeighbors n) is = beside (commands.ShowNeighbors n) is tt flows_so
    act_so fresh commands.ShowBook is = beside commands.ShowBook is tt flows_so
    act_so fresh commands.ShowNet is = beside commands.ShowNet is tt flows_so
    act_so fresh (commands.ShowDisk n) is = beside (commands.ShowDisk n) is tt flows_so
    act_so fresh (commands.ShowUndo n) is = beside (commands.ShowUndo n) is tt flows_so

    once_so : IsDue asked f t (acts_once asked f t)
    once_so = by t.acted refl
      where
        by : (q : Bool) → t.acted ≡ q → IsDue asked f t (if q then flows asked f t else acts_first (flows asked f t) (act_of f t (command_at asked f.command)))
        by true acted = Beside settled stands alone (λ fresh. absurd (cc (acted, fresh))) flows_so
        by false fresh = act_so fresh (command_at asked f.command) refl

  follows_so : NothingComesFirst f → t.start_to_stop ≡ None → (o : Option Call) → t.next_call ≡ o → IsDue asked f t (follows_first (acts_once asked f t) o)
  follows_so settled stands None is = once_so settled stands is
  follows_so settled stands (Some c) is = Follows c settled stands is

  starts_so : NothingComesFirst f → (o : Option ℕ) → t.start_to_stop ≡ o → IsDue asked f t (falls_first (follows_first (acts_once asked f t) t.next_call) o)
  starts_so settled None is = follows_so settled is t.next_call refl
  starts_so settled (Some n) is = Start_falls n settled.told settled.upright is

  falls_so : f.losses_to_report ≡ [] → (o : Option ℕ) → f.node_to_stop ≡ o → IsDue asked f t (falls_first (falls_first (follows_first (acts_once asked f t) t.next_call) t.start_to_stop) o)
  falls_so told None is = starts_so (record { told = told; upright = is }) t.start_to_stop refl
  falls_so told (Some n) is = Node_falls n told is

  tells_so : (ks : List ℕ) → f.losses_to_report ≡ ks → IsDue asked f t (first_losses (falls_first (falls_first (follows_first (acts_once asked f t) t.next_call) t.start_to_stop) f.node_to_stop) ks)
  tells_so [] is = falls_so is f.node_to_stop refl
  tells_so (k ∷ ks) is = Told k ks is

-- what is due is one of these
pub due_so : (asked : List Command) (p : Past) → IsDue asked p.facts p.run_report (due_of asked p)
unfolding due_of
due_so asked p = tells_so asked p.facts p.run_report p.facts.losses_to_report refl
