-- What stands where nothing of a command is due any more: no loss and no stop is to be told, no second call follows, its own
-- act was made, and with HOLD off no call is pending. And what is due of a START that has not been made.
use Rattle.std.proofs.Common.{◌≡◌, ℕ, ◌+◌, ◌≤◌, ◌==◌, ◌&&◌, not, Bool, true, false, if◌then◌else◌, List, [], ◌∷◌, length, Option, Some, None, refl, sym, ap, subst, ◌∙◌, ◌⊎◌, inl, inr, arith}
use Rattle.std.specs.Prelude.{nat_lt, is_some}
use Rattle.std.proofs.lemmas.Bool.Decides.{nat_tests}
use Rattle.node_rules.specs.Data.{Place}
use Rattle.net_bag.specs.Net.{first_flying, may_deliver, may_repeat}
use Rattle.run_rules.specs.Calls.{call_at}
use Rattle.run_rules.specs.Commands.{is_enabled}
use Rattle.run_rules.specs.Data.{Command, Happening}
use Rattle.run_rules.specs.Data.commands
use Rattle.run_rules.specs.Disks.{struck}
use Rattle.run_rules.specs.Due.{Due, Pends, Gives_up, Delivers, Recovers, Loses, Stops, Starts, Begins, Ends, if_due, call_due, act_of, next_command, next_give_up, next_delivery, most_of, next_pumped, flows, acts_first, acts_once, follows_first, falls_first, first_losses, due_of, start_by, happens, comes_next}
use Rattle.run_rules.specs.Facts.{Facts, command_at, is_up, node_at}
use Rattle.run_rules.specs.Lawful.{NothingComesFirst}
use Rattle.run_rules.specs.Lines.{spent}
use Rattle.run_rules.specs.Reported.{IsBetweenCommands}
use Rattle.run_rules.specs.RunReport.{Call, Past, RunReport, orders_at}
use Rattle.answer_origin_laws.proofs.DueLemmas.{follows_due}

-- What stands between two commands.
pub record IsSettled (asked : List Command) (f : Facts) (t : RunReport) : Type 0 where
  pub nothing : NothingComesFirst f
  pub stands : t.start_to_stop ≡ None
  pub alone : t.next_call ≡ None
  pub act : t.acted ≡ false → (act_of f t (command_at asked f.command) ≡ None) ⊎ ((d : Due) × (act_of f t (command_at asked f.command) ≡ Some d) × IsBetweenCommands d)
  pub over : t.hold ≡ false → (t.acted ≡ true) ⊎ (act_of f t (command_at asked f.command) ≡ None) → t.calls ≡ []

module _ (asked : List Command) (f : Facts) (t : RunReport) where
  give_up_so : (cs : List Call) → IsBetweenCommands (next_give_up asked f cs) → cs ≡ []
  give_up_so [] is = refl
  give_up_so (c ∷ cs) is = absurd is

  delivery_so : (o : Option ℕ) → IsBetweenCommands (next_delivery asked f t o) → t.calls ≡ []
  delivery_so None is = give_up_so t.calls is
  delivery_so (Some k) is = by (spent t.deliveries) is
    where
      by : (q : Bool) → IsBetweenCommands (if q then next_give_up asked f t.calls else Delivers k false) → t.calls ≡ []
      by true all = give_up_so t.calls all
      by false more = absurd more

  flows_so : t.hold ≡ false → IsBetweenCommands (flows asked f t) → t.calls ≡ []
  flows_so off is =
      delivery_so (first_flying f.net)
      (subst (λ q. IsBetweenCommands (if q then next_pumped asked f t (most_of (command_at asked f.command)) (first_flying f.net) else next_delivery asked f t (first_flying f.net))) off is)

  module _ (nothing : NothingComesFirst f) (stands : t.start_to_stop ≡ None) (alone : t.next_call ≡ None) where
    acted_so : t.acted ≡ true → IsBetweenCommands (flows asked f t) → IsSettled asked f t
    acted_so acted is = record { nothing = nothing; stands = stands; alone = alone; act = λ fresh. absurd (cc (acted, fresh)); over = λ off why. flows_so off is }

    fresh_so : t.acted ≡ false → (o : Option Due) → act_of f t (command_at asked f.command) ≡ o → IsBetweenCommands (acts_first (flows asked f t) o) → IsSettled asked f t
    fresh_so fresh None none is = record { nothing = nothing; stands = stands; alone = alone; act = λ no. inl none; over = λ off why. flows_so off is }
    fresh_so fresh (Some d) some is = record {
      nothing = nothing;
      stands = stands;
      alone = alone;
      act = λ no. inr (d, some, is);
      over = λ off why. elim why [ inl acted ↦ absurd (cc (acted, fresh)) | inr none ↦ absurd (cc (none, some)) ];
    }

    once_so : IsBetweenCommands (acts_once asked f t) → IsSettled asked f t
    once_so = by t.acted refl
      where
        by : (q : Bool) → t.acted ≡ q → IsBetweenCommands (if q then flows asked f t else acts_first (flows asked f t) (act_of f t (command_at asked f.command))) → IsSettled asked f t
        by true acted is = acted_so acted is
        by false fresh is = fresh_so fresh (act_of f t (command_at asked f.command)) refl is

  follows_so : NothingComesFirst f → t.start_to_stop ≡ None → (o : Option Call) → t.next_call ≡ o → IsBetweenCommands (follows_first (acts_once asked f t) o) → IsSettled asked f t
  follows_so nothing stands None alone is = once_so nothing stands alone is
  follows_so nothing stands (Some c) follows is = absurd is

  start_so : NothingComesFirst f → (o : Option ℕ) → t.start_to_stop ≡ o → IsBetweenCommands (falls_first (follows_first (acts_once asked f t) t.next_call) o) → IsSettled asked f t
  start_so nothing None stands is = follows_so nothing stands t.next_call refl is
  start_so nothing (Some n) stops is = absurd is

  stop_so : f.losses_to_report ≡ [] → (o : Option ℕ) → f.node_to_stop ≡ o → IsBetweenCommands (falls_first (falls_first (follows_first (acts_once asked f t) t.next_call) t.start_to_stop) o) → IsSettled asked f t
  stop_so told None upright is = start_so (record { told = told; upright = upright }) t.start_to_stop refl is
  stop_so told (Some n) stops is = absurd is

  tell_so : (ks : List ℕ) → f.losses_to_report ≡ ks → IsBetweenCommands (first_losses (falls_first (falls_first (follows_first (acts_once asked f t) t.next_call) t.start_to_stop) f.node_to_stop) ks) → IsSettled asked f t
  tell_so [] told is = stop_so told f.node_to_stop refl is
  tell_so (k ∷ ks) told is = absurd is

pub between_so : (asked : List Command) (p : Past) → IsBetweenCommands (due_of asked p) → IsSettled asked p.facts p.run_report
unfolding due_of
between_so asked p is = tell_so asked p.facts p.run_report p.facts.losses_to_report refl is

-- ---- the end of the script

module _ (asked : List Command) (f : Facts) (t : RunReport) where
  abbrev AllBegun : Type 0
  AllBegun = length asked ≤ f.command

  command_ends : next_command asked f ≡ Ends → AllBegun
  command_ends = by (nat_lt f.command (length asked)) refl
    where
      by : (q : Bool) → nat_lt f.command (length asked) ≡ q → (if q then Begins (f.command + 1) else Ends) ≡ Ends → AllBegun
      by true less is = absurd cc
      by false over is = grind (arith, nat_tests, over)

  give_up_ends : (cs : List Call) → next_give_up asked f cs ≡ Ends → AllBegun
  give_up_ends [] is = command_ends is
  give_up_ends (c ∷ cs) is = absurd cc

  delivery_ends : (o : Option ℕ) → next_delivery asked f t o ≡ Ends → AllBegun
  delivery_ends None is = give_up_ends t.calls is
  delivery_ends (Some k) is = by (spent t.deliveries) is
    where
      by : (q : Bool) → (if q then next_give_up asked f t.calls else Delivers k false) ≡ Ends → AllBegun
      by true is = give_up_ends t.calls is
      by false is = absurd cc

  pumped_ends : (most : ℕ) (o : Option ℕ) → next_pumped asked f t most o ≡ Ends → AllBegun
  pumped_ends most None is = command_ends is
  pumped_ends most (Some k) is = by (nat_lt t.deliveries most) is
    where
      by : (q : Bool) → (if q then Delivers k false else next_command asked f) ≡ Ends → AllBegun
      by true is = absurd cc
      by false is = command_ends is

  flows_end : flows asked f t ≡ Ends → AllBegun
  flows_end = by t.hold
    where
      by : (q : Bool) → (if q then next_pumped asked f t (most_of (command_at asked f.command)) (first_flying f.net) else next_delivery asked f t (first_flying f.net)) ≡ Ends → AllBegun
      by true is = pumped_ends (most_of (command_at asked f.command)) (first_flying f.net) is
      by false is = delivery_ends (first_flying f.net) is

  -- no command's own act is the end
  if_ends : (q : Bool) (d : Due) → (d ≡ Ends → ⊥) → if_due q d ≡ Some Ends → ⊥
  if_ends true d other is = other (let it : Some d ≡ Some Ends = is in cc)
  if_ends false d other is = absurd cc

  call_ends : (o : Option Call) → call_due f.command o ≡ Some Ends → ⊥
  call_ends None is = absurd cc
  call_ends (Some c) is = if_ends (c.command == f.command) (Pends c) (λ same. absurd cc) is

  act_ends : (x : Command) → act_of f t x ≡ Some Ends → ⊥
  act_ends (commands.At node session s) is = call_ends (call_at t node session) is
  act_ends (commands.Lose k) is = if_ends (may_deliver f.net k) (Loses k) (λ same. absurd cc) is
  act_ends (commands.Stop n) is = if_ends (is_up f n) (Stops n) (λ same. absurd cc) is
  act_ends (commands.Start n) is = if_ends (not (is_up f n)) (Starts n) (λ same. absurd cc) is
  act_ends (commands.Deliver k) is = if_ends (may_deliver f.net k) (Delivers k false) (λ same. absurd cc) is
  act_ends (commands.Again k) is = if_ends (may_repeat f.net k) (Delivers k true) (λ same. absurd cc) is
  act_ends (commands.GiveUp n session) is = if_ends (is_up f n && is_some (call_at t n session)) (Gives_up n session) (λ same. absurd cc) is
  act_ends (commands.Reco n) is = if_ends (is_enabled (node_at f n)) (Recovers n) (λ same. absurd cc) is
  act_ends (commands.Cut a b) is = absurd cc
  act_ends (commands.Join a b) is = absurd cc
  act_ends _ is = absurd cc

  first_ends : (o : Option Due) → act_of f t (command_at asked f.command) ≡ o → acts_first (flows asked f t) o ≡ Ends → AllBegun
  first_ends None none is = flows_end is
  first_ends (Some d) some is = absurd (act_ends (command_at asked f.command) (some ∙ ap Some is))

  once_ends : acts_once asked f t ≡ Ends → AllBegun
  once_ends = by t.acted
    where
      by : (q : Bool) → (if q then flows asked f t else acts_first (flows asked f t) (act_of f t (command_at asked f.command))) ≡ Ends → AllBegun
      by true is = flows_end is
      by false is = first_ends (act_of f t (command_at asked f.command)) refl is

  follows_end : (o : Option Call) → follows_first (acts_once asked f t) o ≡ Ends → AllBegun
  follows_end None is = once_ends is
  follows_end (Some c) is = absurd cc

  start_ends : (o : Option ℕ) → falls_first (follows_first (acts_once asked f t) t.next_call) o ≡ Ends → AllBegun
  start_ends None is = follows_end t.next_call is
  start_ends (Some n) is = absurd cc

  stop_ends : (o : Option ℕ) → falls_first (falls_first (follows_first (acts_once asked f t) t.next_call) t.start_to_stop) o ≡ Ends → AllBegun
  stop_ends None is = start_ends t.start_to_stop is
  stop_ends (Some n) is = absurd cc

  tell_ends : (ks : List ℕ) → first_losses (falls_first (falls_first (follows_first (acts_once asked f t) t.next_call) t.start_to_stop) f.node_to_stop) ks ≡ Ends → AllBegun
  tell_ends [] is = stop_ends f.node_to_stop is
  tell_ends (k ∷ ks) is = absurd cc

-- where nothing is left to do all commands have begun
pub ends_over : (asked : List Command) (p : Past) → due_of asked p ≡ Ends → length asked ≤ p.facts.command
unfolding due_of
ends_over asked p is = tell_ends asked p.facts p.run_report p.facts.losses_to_report is

-- ---- a START that is to be made

module _ (places : List Place) (asked : List Command) (p : Past) (n : ℕ) (fresh : p.run_report.acted ≡ false) (starts : command_at asked p.facts.command ≡ commands.Start n) (off : is_up p.facts n ≡ false) where
  open p use {facts as f, run_report as t}

  act_is : act_of f t (command_at asked f.command) ≡ Some (Starts n)
  act_is = ap (act_of f t) starts ∙ ap (λ q. if_due (not q) (Starts n)) off

  pub start_due : NothingComesFirst f → t.start_to_stop ≡ None → t.next_call ≡ None → due_of asked p ≡ Starts n
  start_due nothing stands alone =
      follows_due places asked p nothing.told nothing.upright stands
      ∙ (ap (follows_first (acts_once asked f t)) alone ∙ (ap (λ q. if q then flows asked f t else acts_first (flows asked f t) (act_of f t (command_at asked f.command))) fresh ∙ ap (acts_first (flows asked f t)) act_is))

  pub start_comes : NothingComesFirst f → t.start_to_stop ≡ None → t.next_call ≡ None → (h : Happening) → comes_next places asked p ≡ Some h → start_by f n (struck 3 (orders_at t n)) ≡ h
  start_comes nothing stands alone h comes =
      let it : Some (start_by f n (struck 3 (orders_at t n))) ≡ Some h = sym (ap (happens places p) (start_due nothing stands alone)) ∙ comes in cc
