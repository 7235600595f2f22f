-- The world after a happening of the network alone.
use Rattle.std.proofs.Common.{◌≡◌, ℕ, List, [], ◌∷◌, length, drop, refl, ap, sym, ◌∙◌, Some, subst}
use Rattle.node_rules.specs.Data.{Place}
use Rattle.run_rules.specs.Data.{Command, Happening}
use Rattle.run_rules.specs.Data.happenings
use Rattle.net_bag.specs.Net.{Net, lost, cut_over, lost_by_cut, joined}
use Rattle.run_rules.specs.Facts.{others}
use Rattle.run_rules.specs.RunReport.{Past}
use Rattle.run_rules.specs.Past.{next, acts}
use Rattle.run_rules.specs.Facts.{facts_after}
use Rattle.run_trace.specs.Recorded.{IsDueNext, past_of}
use Rattle.world.specs.declared.slot.NodeSlot.{NodeSlot}
use Rattle.world.specs.declared.world.World.{World}
use Rattle.world.specs.Needs.{due_in}
use Rattle.world.specs.Linked.{IsLinked}
use Rattle.world.specs.NodeSlot.{SitesAre}
use Rattle.world.specs.Steps.{StepsOn}
use Rattle.world.proofs.SlotLemmas.{sites_stay}
use Rattle.world.proofs.StepLemmas.{IsPushed, Leaves, shown_on, stands_of, steps_on}
use Rattle.run_rules.specs.Due.{Due, Tells, Loses, Cuts, Joins, comes_next, due_of, first_losses}

module _ (places : List Place) (commands : List Command) where
  pub next_lost : (p : Past) (k : ℕ) → next places commands p (happenings.Lost k)
      ≡ record { facts = record p.facts { net = lost p.facts.net k; losses_to_report = others p.facts.losses_to_report }; run_report = acts p.run_report }
  unfolding next facts_after
  next_lost p k = refl

  pub next_cut : (p : Past) (a b : ℕ) → next places commands p (happenings.Cut a b)
      ≡ record { facts = record p.facts { net = cut_over p.facts.net a b; losses_to_report = lost_by_cut p.facts.net a b }; run_report = acts p.run_report }
  unfolding next facts_after
  next_cut p a b = refl

  pub next_join : (p : Past) (a b : ℕ) → next places commands p (happenings.Join a b)
      ≡ record { facts = record p.facts { net = joined p.facts.net a b }; run_report = acts p.run_report }
  unfolding next facts_after
  next_join p a b = refl

  -- what is due comes next
  pub tells_next : (p : Past) (k : ℕ) → due_of commands p ≡ Tells k → comes_next places commands p ≡ Some (happenings.Lost k)
  tells_next p k due = rw (due) refl

  pub loses_next : (p : Past) (k : ℕ) → due_of commands p ≡ Loses k → comes_next places commands p ≡ Some (happenings.Lost k)
  loses_next p k due = rw (due) refl

  pub cuts_next : (p : Past) (a b : ℕ) → due_of commands p ≡ Cuts a b → comes_next places commands p ≡ Some (happenings.Cut a b)
  cuts_next p a b due = rw (due) refl

  pub joins_next : (p : Past) (a b : ℕ) → due_of commands p ≡ Joins a b → comes_next places commands p ≡ Some (happenings.Join a b)
  joins_next p a b due = rw (due) refl

-- losses other than those that are to be told come where there are none of these
pub none_to_tell : (commands : List Command) (p : Past) (k : ℕ) → due_of commands p ≡ Loses k → p.facts.losses_to_report ≡ []
unfolding due_of
none_to_tell commands p k due = by_losses _ p.facts.losses_to_report due
  where
    by_losses : (d : Due) (ks : List ℕ) → first_losses d ks ≡ Loses k → ks ≡ []
    by_losses d [] is = refl
    by_losses d (j ∷ js) is = absurd cc

-- What a happening of the network alone leaves of the world.
pub record Keeps (w v : World) : Type 0 where
  pub running : v.running ≡ w.running
  pub to_stop : v.to_stop ≡ w.to_stop
  pub boots : v.boots.items ≡ w.boots.items
  pub slots : v.slots.items ≡ w.slots.items
  pub shown : v.shown ≡ w.shown

module _ (w v : World) (linked : IsLinked w) (keeps : Keeps w v) (acted : v.run_report ≡ acts w.run_report) where
  abbrev p : Past
  p = past_of w.trace

  -- facts that differ in the network and in the losses to tell
  module _ (h : Happening) (due : IsDueNext w.trace h) (pushed : IsPushed w.trace v.trace h) (net : Net) (losses : List ℕ)
      (is : next w.trace.places w.trace.asked p h ≡ record { facts = record p.facts { net = net; losses_to_report = losses }; run_report = acts p.run_report })
      (other : (c : ℕ) → h ≡ happenings.Begun c → ⊥) (net_is : v.net ≡ net) (losses_are : v.losses.items ≡ losses) where
    abbrev q : Past
    q = record { facts = record p.facts { net = net; losses_to_report = losses }; run_report = acts p.run_report }

    leaves : Leaves w v q
    leaves = record {
      parts = record {
        running = keeps.running ∙ linked.held.parts.running;
        net = net_is;
        losses = losses_are;
        to_stop = keeps.to_stop ∙ linked.held.parts.to_stop;
        boots = keeps.boots ∙ linked.held.parts.boots;
        run_report = acted ∙ ap acts linked.held.parts.run_report;
      };
      count = ap (λ (slots : List NodeSlot). length slots) keeps.slots;
      nodes = refl;
      records = refl;
      slots = subst (λ (slots : List NodeSlot). SitesAre w.trace.places q slots) (sym keeps.slots)
          (sites_stay w.trace.places p q w.slots.items (record { nodes = refl; records = refl; to_stop = refl }) linked.held.slots);
    }

    moves : StepsOn w v
    moves = steps_on w v h (stands_of w linked.held) due pushed (shown_on w v h (stands_of w linked.held) due pushed other keeps.shown) (subst (λ (x : Past). Leaves w v x) (sym is) leaves)
        (ap (λ (x : Past). x.run_report.start_to_stop) is ∙ linked.upright)

  pub cut_steps : (a b : ℕ) → due_in w.trace ≡ Cuts a b → IsPushed w.trace v.trace (happenings.Cut a b) → v.net ≡ cut_over w.net a b → v.losses.items ≡ lost_by_cut w.net a b → StepsOn w v
  cut_steps a b due pushed net losses =
      moves (happenings.Cut a b) (cuts_next w.trace.places w.trace.asked p a b due) pushed (cut_over p.facts.net a b) (lost_by_cut p.facts.net a b) (next_cut w.trace.places w.trace.asked p a b)
      (λ c same. absurd cc) (net ∙ ap (λ (n : Net). cut_over n a b) linked.held.parts.net) (losses ∙ ap (λ (n : Net). lost_by_cut n a b) linked.held.parts.net)

  pub join_steps : (a b : ℕ) → due_in w.trace ≡ Joins a b → IsPushed w.trace v.trace (happenings.Join a b) → v.net ≡ joined w.net a b → v.losses.items ≡ w.losses.items → StepsOn w v
  join_steps a b due pushed net losses =
      moves (happenings.Join a b) (joins_next w.trace.places w.trace.asked p a b due) pushed (joined p.facts.net a b) p.facts.losses_to_report (next_join w.trace.places w.trace.asked p a b)
      (λ c same. absurd cc) (net ∙ ap (λ (n : Net). joined n a b) linked.held.parts.net) (losses ∙ linked.held.parts.losses)

  pub tell_steps : (k : ℕ) → due_in w.trace ≡ Tells k → IsPushed w.trace v.trace (happenings.Lost k) → v.net ≡ lost w.net k → v.losses.items ≡ others w.losses.items → StepsOn w v
  tell_steps k due pushed net losses =
      moves (happenings.Lost k) (tells_next w.trace.places w.trace.asked p k due) pushed (lost p.facts.net k) (others p.facts.losses_to_report) (next_lost w.trace.places w.trace.asked p k)
      (λ c same. absurd cc) (net ∙ ap (λ (n : Net). lost n k) linked.held.parts.net) (losses ∙ ap others linked.held.parts.losses)

  -- where no loss was to be told, none is
  pub lose_steps : (k : ℕ) → due_in w.trace ≡ Loses k → IsPushed w.trace v.trace (happenings.Lost k) → v.net ≡ lost w.net k → v.losses.items ≡ w.losses.items → StepsOn w v
  lose_steps k due pushed net losses =
      let none = none_to_tell w.trace.asked p k due in
      moves (happenings.Lost k) (loses_next w.trace.places w.trace.asked p k due) pushed (lost p.facts.net k) (others p.facts.losses_to_report) (next_lost w.trace.places w.trace.asked p k)
      (λ c same. absurd cc) (net ∙ ap (λ (n : Net). lost n k) linked.held.parts.net) (losses ∙ (linked.held.parts.losses ∙ (none ∙ sym (ap others none))))

-- all but the first
pub rest_is : (ks : List ℕ) → drop 1 ks ≡ others ks
rest_is [] = refl
rest_is (k ∷ ks) = refl

pub ruleset network_steps = (next_lost, next_cut, next_join, tells_next, loses_next, cuts_next, joins_next, none_to_tell)
