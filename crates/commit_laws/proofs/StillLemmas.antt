-- In every lawful run each message of the transaction of an undisturbed COMMIT was delivered, and no branch of it collects
-- any more, where none below the root was dropped.
use Rattle.std.proofs.Common.{◌≡◌, ◌≢◌, ℕ, ◌+◌, ◌<◌, ◌&&◌, ◌||◌, Bool, true, false, List, [], ◌∷◌, length, position, option_map, Option, Some, None, refl, ap, subst, ◌∙◌, arith}
use Rattle.std.specs.List.{AllByRecursion, list_any, position_or_len}
use Rattle.node_rules.specs.Data.{BranchId}
use Rattle.node_rules.specs.NodeState.{NodeState}
use Rattle.net_bag.specs.Net.{is_flying, flies}
use Rattle.run_rules.specs.Births.{Born, births_of}
use Rattle.run_base_laws.specs.BirthLaws.{Began}
use Rattle.run_rules.specs.Branches.{is_among}
use Rattle.run_rules.specs.Data.{Fate, Packet}
use Rattle.run_rules.specs.Data.fates
use Rattle.run_rules.specs.Facts.{node_at, records_at}
use Rattle.run_rules.specs.Lawful.{History, IsLawfulRun, facts_at, boots}
use Rattle.run_base_laws.specs.RunEvents.{events_of}
use Rattle.run_base_laws.proofs.EventsStandLemmas.{run_stands, node_so}
use Rattle.run_rules.proofs.ListLemmas.{all_weaker}
use Rattle.run_base_laws.proofs.TurnEventLemmas.{all_both}
use Rattle.commit_laws.specs.StillLaws.{UndisturbedMessagesCome, DroppedNone, UndisturbedCollectsEnd}
use Rattle.run_claims.specs.Undisturbed.{Commit, Undisturbed, branches_in, is_lost, HasNotStopped}
use Rattle.commit_laws.specs.WaitLaws.{NodeHasStopped, AllCame}
use Rattle.commit_laws.proofs.AmongLemmas.{among_all, is_in}
use Rattle.commit_laws.proofs.WaitLemmas.{collects_are_over}

-- ---- lists

-- where a test passes a place is found
pub any_placed : {A : Type 0} (p : A → Bool) (xs : List A) → list_any p xs ≡ true → position_or_len p xs < length xs
any_placed p [] is = absurd cc
any_placed p (x ∷ xs) is = grind (arith, any_placed p xs)

pub none_placed : {A : Type 0} (p : A → Bool) (xs : List A) → option_map (λ i. i + 1) (position p xs) ≡ None → list_any p xs ≡ false
none_placed p xs none = by (list_any p xs) refl
  where
    by : (q : Bool) → list_any p xs ≡ q → list_any p xs ≡ false
    by false is = is
    by true is = (let low : position_or_len p xs < length xs = any_placed p xs is in absurd (grind (arith, low, none)))

module _ {A : Type 0} (p : A → Bool) where
  none_all : (xs : List A) → list_any p xs ≡ false → AllByRecursion (λ x. p x ≡ false) xs
  none_all [] is = tt
  none_all (x ∷ xs) is = by (p x) refl is (none_all xs)
    where
      by : (q : Bool) → p x ≡ q → (q || list_any p xs) ≡ false → (list_any p xs ≡ false → AllByRecursion (λ y. p y ≡ false) xs) → AllByRecursion (λ y. p y ≡ false) (x ∷ xs)
      by true here none rest = absurd cc
      by false other none rest = (other, rest none)

-- ---- fates

flown : (fate : Fate) → is_lost fate ≡ false → (fate ≢ fates.InFlight) → fate ≡ fates.Delivered
flown fates.Delivered kept down = refl
flown fates.Lost kept down = absurd cc
flown fates.InFlight kept down = absurd (down refl)

flies_not : (x : Packet) → flies x ≡ false → x.fate ≢ fates.InFlight
flies_not x down is = (let up : flies x ≡ true = by x.fate is in absurd (cc (down, up)))
  where
    by : (fate : Fate) → fate ≡ fates.InFlight → is_flying fate ≡ true
    by fates.InFlight it = refl
    by fates.Delivered it = absurd cc
    by fates.Lost it = absurd cc

kept_one : (p q : Bool) → (p && q) ≡ false → p ≡ true → q ≡ false
kept_one true q is here = is
kept_one false q is here = absurd cc

module _ (t : History) (whole : IsLawfulRun t) (c : Commit t.places t.commands t.trace) (u : Undisturbed t.places t.commands t.trace c) where
  abbrev bs : List Born
  bs = births_of t

  pub among : (b : Born) → Began bs b → b.root ≡ c.root → is_among b.me (branches_in bs c.root) ≡ true
  among b began of = is_in bs c.root b.me b began of

  one_came : (x : Packet) → (is_among x.msg.from (branches_in bs c.root) && is_lost x.fate) ≡ false → flies x ≡ false → (b : Born) → Began bs b → b.me ≡ x.msg.from → b.root ≡ c.root → x.fate ≡ fates.Delivered
  one_came x lost down b began me of =
      flown x.fate (kept_one (is_among x.msg.from (branches_in bs c.root)) (is_lost x.fate) lost (subst (λ i. is_among i (branches_in bs c.root) ≡ true) me (among b began of))) (flies_not x down)

  pub messages_come : AllByRecursion (λ x. (b : Born) → Began bs b → b.me ≡ x.msg.from → b.root ≡ c.root → x.fate ≡ fates.Delivered) (facts_at t).net.packets
  messages_come =
      all_weaker _ _ (λ x so. one_came x so.0 so.1) (facts_at t).net.packets
      (all_both (λ (x : Packet). (is_among x.msg.from (branches_in bs c.root) && is_lost x.fate) ≡ false) (λ (x : Packet). flies x ≡ false) (facts_at t).net.packets u.lost
      (none_all flies (facts_at t).net.packets (none_placed flies (facts_at t).net.packets u.over)))

  -- a node that is up is in its last start
  boot_is : (n : ℕ) (k : NodeState) → node_at (facts_at t) n ≡ Some k → k.stored.durable.boot ≡ boots (records_at (facts_at t) n)
  boot_is n k up =
      let node = node_so t.places t.commands t.of_a_script.each (facts_at t) (events_of t) (run_stands t whole) n k up in
      ap (λ s. s.durable.boot) node.stored ∙ node.boot

  not_stopped : (b : BranchId) → HasNotStopped (facts_at t) b → NodeHasStopped (facts_at t) b → ⊥
  not_stopped b stays stops = by (node_at (facts_at t) b.node) refl stays
    where
      by : (o : Option NodeState) → node_at (facts_at t) b.node ≡ o → option_map (λ (k : NodeState). k.stored.durable.boot) o ≡ Some b.boot → ⊥
      by None up is = absurd cc
      by (Some k) up is =
          let both : Some k.stored.durable.boot ≡ Some b.boot = is in
          let boot : k.stored.durable.boot ≡ b.boot = cc in
          let its : k.stored.durable.boot ≡ boots (records_at (facts_at t) b.node) = boot_is b.node k up in
          let low : b.boot < boots (records_at (facts_at t) b.node) = stops k up in
          absurd (omega (arith, boot, its, low))

  -- no node of its branches has stopped
  pub stays_up : (b : Born) → Began bs b → b.root ≡ c.root → HasNotStopped (facts_at t) b.me
  stays_up b began of = among_all (HasNotStopped (facts_at t)) (branches_in bs c.root) b.me u.stopped (among b began of)

  pub never_stopped : (b : Born) → Began bs b → b.root ≡ c.root → NodeHasStopped (facts_at t) b.me → ⊥
  never_stopped b began of stops = not_stopped b.me (stays_up b began of) stops

  pub all_came : DroppedNone t c.root → AllCame t c.root
  all_came below = record {
    messages = messages_come;
    below = below;
    up = never_stopped;
  }

pub undisturbed_messages_come : UndisturbedMessagesCome
undisturbed_messages_come t whole c u = messages_come t whole c u

pub undisturbed_collects_end : UndisturbedCollectsEnd
undisturbed_collects_end t whole c u below n k up l live of down = collects_are_over t whole c.root (all_came t whole c u below) n k up l live of down
