-- A message in flight can pass: its pair is joined and its target is up, whatever is sent, delivered, lost, cut or stopped.
use Rattle.std.proofs.Common.{◌≡◌, ℕ, zero, suc, ◌==◌, ◌||◌, not, Bool, true, false, if◌then◌else◌, List, [], ◌∷◌, filter, slice_set, Option, Some, None, refl, subst, arith}
use Rattle.std.proofs.lemmas.Bool.Decides.{nat_tests}
use Rattle.std.proofs.lemmas.Bool.{cond_both}
use Rattle.std.specs.List.{AllByRecursion, list_any}
use Rattle.node_rules.specs.Data.{Msg, Place}
use Rattle.tran_ids.specs.Listed.{numbered, set_numbered}
use Rattle.net_bag.specs.declared.packet.Fate.{Fate}
use Rattle.net_bag.specs.declared.packet.Fate.TheVariants as fates
use Rattle.net_bag.specs.declared.packet.Packet.{Packet}
use Rattle.net_bag.specs.Net.{Net, is_pair, is_cut, is_down, is_blocked, is_order_for, packet, is_lost_at_once, first_fate, sent_one, sent_on, is_flying, flies, packet_at, fated, with_fate, delivered, lost, goes_over, lost_over, with_pair, cut_over, joined, goes_to, lost_to, with_node, stopped, started}
use Rattle.run_rules.specs.Data.{Took, Happening, Command}
use Rattle.run_rules.specs.Data.happenings
use Rattle.run_rules.specs.Data.commands
use Rattle.run_rules.specs.Facts.{Facts, taken, ordered, command_at, facts_after}
use Rattle.run_rules.proofs.ListLemmas.{all_weaker, all_append, all_map}

-- a message that flies is not blocked
abbrev pub IsFree : Net → Packet → Type 0
IsFree net x = flies x ≡ true → is_blocked net x.msg ≡ false

-- so are all
abbrev pub FlyFree : Net → Type 0
FlyFree net = AllByRecursion (IsFree net) net.packets

-- ---- lists

all_slice : {A : Type 0} (P : A → Type 0) (xs : List A) (i : ℕ) (y : A) → AllByRecursion P xs → P y → AllByRecursion P (slice_set xs i y)
all_slice P [] i y all here = tt
all_slice P (x ∷ xs) zero y all here = (here, all.1)
all_slice P (x ∷ xs) (suc i) y all here = (all.0, all_slice P xs i y all.1 here)

pub all_set : {A : Type 0} (P : A → Type 0) (xs : List A) (n : ℕ) (y : A) → AllByRecursion P xs → P y → AllByRecursion P (set_numbered xs n y)
all_set P xs zero y all here = all
all_set P xs (suc i) y all here = all_slice P xs i y all here

all_slice_at : {A : Type 0} (P : A → Type 0) (xs : List A) (n : ℕ) (x : A) → AllByRecursion P xs → numbered xs n ≡ Some x → P x
all_slice_at P xs zero x all is = absurd cc
all_slice_at P [] (suc i) x all is = absurd cc
all_slice_at P (y ∷ ys) (suc zero) x all is = subst P (let it : Some y ≡ Some x = is in let here : y ≡ x = cc in here) all.0
all_slice_at P (y ∷ ys) (suc (suc i)) x all is = all_slice_at P ys (suc i) x all.1 is

pub all_at : {A : Type 0} (P : A → Type 0) (xs : List A) (n : ℕ) (x : A) → AllByRecursion P xs → numbered xs n ≡ Some x → P x
all_at P xs n x all is = all_slice_at P xs n x all is

or_parts : (a b : Bool) → (a || b) ≡ false → (a ≡ false) × (b ≡ false)
or_parts true b is = absurd cc
or_parts false b is = (refl, is)

both_no : (a b : Bool) → a ≡ false → b ≡ false → (a || b) ≡ false
both_no true b one two = absurd cc
both_no false b one two = two

none_kept : {A : Type 0} (p q : A → Bool) (xs : List A) → list_any p xs ≡ false → list_any p (filter q xs) ≡ false
none_kept p q [] none = refl
none_kept p q (x ∷ xs) none =
    let parts = or_parts (p x) (list_any p xs) none in
    cond_both (q x) (x ∷ filter q xs) (filter q xs) (λ ys. list_any p ys ≡ false) (λ kept. both_no (p x) (list_any p (filter q xs)) parts.0 (none_kept p q xs parts.1)) (λ left. none_kept p q xs parts.1)

-- ---- the network

-- one message is sent
sent_free : (net : Net) (m : Msg) → FlyFree net → FlyFree (sent_one net m)
sent_free net m now = all_append (IsFree net) net.packets (packet m (first_fate net m) ∷ []) now (by (is_lost_at_once net m) refl, tt)
  where
    by : (q : Bool) → is_lost_at_once net m ≡ q → IsFree net (packet m (if q then fates.Lost else fates.InFlight))
    by true is = λ flies. absurd cc
    by false is = λ flies. (or_parts (is_blocked net m) (list_any (is_order_for m) net.orders) is).0

pub all_sent_free : (net : Net) (ms : List Msg) → FlyFree net → FlyFree (sent_on net ms)
unfolding sent_on
all_sent_free net [] now = now
all_sent_free net (m ∷ ms) now = all_sent_free (sent_one net m) ms (sent_free net m now)

-- a message meets its fate
fated_free : (net : Net) (fate : Fate) (x : Packet) → is_flying fate ≡ false → IsFree net x → IsFree net (fated fate x)
fated_free net fate x over now = cond_both (flies x) (packet x.msg fate) x (IsFree net) (λ here flies. absurd (cc (over, flies))) (λ other. now)

fate_free : (net : Net) (fate : Fate) (k : ℕ) (o : Option Packet) → is_flying fate ≡ false → packet_at net k ≡ o → FlyFree net → AllByRecursion (IsFree net) (with_fate net.packets k fate o)
fate_free net fate k None over is now = now
fate_free net fate k (Some x) over is now = all_set (IsFree net) net.packets k (fated fate x) now (fated_free net fate x over (all_at (IsFree net) net.packets k x now is))

pub delivered_free : (net : Net) (k : ℕ) → FlyFree net → FlyFree (delivered net k)
unfolding delivered
delivered_free net k now = fate_free net fates.Delivered k (packet_at net k) refl refl now

pub lost_free : (net : Net) (k : ℕ) → FlyFree net → FlyFree (lost net k)
unfolding lost
lost_free net k now = fate_free net fates.Lost k (packet_at net k) refl refl now

pub taken_free : (net : Net) (t : Option Took) → FlyFree net → FlyFree (taken net t)
taken_free net None now = now
taken_free net (Some t) now = cond_both t.again net (delivered net t.number) FlyFree (λ copy. now) (λ first. delivered_free net t.number now)

-- a pair is cut
pair_same : (a b f t : ℕ) → is_pair a b (f, t) ≡ false → is_pair f t (a, b) ≡ false
pair_same a b f t other = grind (arith, nat_tests, other)

uncut : (pairs : List (ℕ × ℕ)) (a b f t : ℕ) → is_pair a b (f, t) ≡ false → list_any (is_pair f t) pairs ≡ false → list_any (is_pair f t) (with_pair a b pairs) ≡ false
uncut pairs a b f t other none =
    cond_both (list_any (is_pair a b) pairs) pairs ((a, b) ∷ pairs) (λ ps. list_any (is_pair f t) ps ≡ false) (λ there. none) (λ new. both_no (is_pair f t (a, b)) (list_any (is_pair f t) pairs) (pair_same a b f t other) none)

pub cut_free : (net : Net) (a b : ℕ) → FlyFree net → FlyFree (cut_over net a b)
unfolding cut_over
cut_free net a b now = all_map (IsFree (cut_over net a b)) (lost_over a b) net.packets (all_weaker (IsFree net) (λ x. IsFree (cut_over net a b) (lost_over a b x)) one net.packets now)
  where
    one : (x : Packet) → IsFree net x → IsFree (cut_over net a b) (lost_over a b x)
    one x free = cond_both (goes_over a b x) (fated fates.Lost x) x (IsFree (cut_over net a b)) (λ over. fated_lost x) (λ other flies. (
        let was = or_parts (is_cut net x.msg.from.node x.msg.to.node) (is_down net x.msg.to.node) (free flies) in
        both_no _ (is_down net x.msg.to.node) (uncut net.cuts a b x.msg.from.node x.msg.to.node other was.0) was.1))
      where
        fated_lost : (y : Packet) → IsFree (cut_over net a b) (fated fates.Lost y)
        fated_lost y = by (flies y) refl
          where
            by : (q : Bool) → flies y ≡ q → IsFree (cut_over net a b) (if q then packet y.msg fates.Lost else y)
            by true is = λ flies. absurd cc
            by false is = λ flies. absurd (cc (is, flies))

pub joined_free : (net : Net) (a b : ℕ) → FlyFree net → FlyFree (joined net a b)
unfolding joined
joined_free net a b now = all_weaker (IsFree net) (IsFree (joined net a b)) (λ x free flies. (
    let was = or_parts (is_cut net x.msg.from.node x.msg.to.node) (is_down net x.msg.to.node) (free flies) in
    both_no _ (is_down net x.msg.to.node) (none_kept (is_pair x.msg.from.node x.msg.to.node) (λ pair. not (is_pair a b pair)) net.cuts was.0) was.1)) net.packets now

-- a node stops
up_still : (nodes : List ℕ) (n m : ℕ) → (m == n) ≡ false → list_any (λ i. i == m) nodes ≡ false → list_any (λ i. i == m) (with_node n nodes) ≡ false
up_still nodes n m other none =
    cond_both (list_any (λ i. i == n) nodes) nodes (n ∷ nodes) (λ ns. list_any (λ i. i == m) ns ≡ false) (λ there. none)
    (λ new. both_no (n == m) (list_any (λ i. i == m) nodes) (let it : (n == m) ≡ false = grind (arith, nat_tests, other) in it) none)

pub stopped_free : (net : Net) (n : ℕ) → FlyFree net → FlyFree (stopped net n)
unfolding stopped
stopped_free net n now = all_map (IsFree (stopped net n)) (lost_to n) net.packets (all_weaker (IsFree net) (λ x. IsFree (stopped net n) (lost_to n x)) one net.packets now)
  where
    one : (x : Packet) → IsFree net x → IsFree (stopped net n) (lost_to n x)
    one x free = cond_both (goes_to n x) (fated fates.Lost x) x (IsFree (stopped net n)) (λ to. fated_lost x) (λ other flies. (
        let was = or_parts (is_cut net x.msg.from.node x.msg.to.node) (is_down net x.msg.to.node) (free flies) in
        both_no (is_cut net x.msg.from.node x.msg.to.node) _ was.0 (up_still net.down n x.msg.to.node other was.1)))
      where
        fated_lost : (y : Packet) → IsFree (stopped net n) (fated fates.Lost y)
        fated_lost y = by (flies y) refl
          where
            by : (q : Bool) → flies y ≡ q → IsFree (stopped net n) (if q then packet y.msg fates.Lost else y)
            by true is = λ flies. absurd cc
            by false is = λ flies. absurd (cc (is, flies))

pub started_free : (net : Net) (n : ℕ) → FlyFree net → FlyFree (started net n)
unfolding started
started_free net n now = all_weaker (IsFree net) (IsFree (started net n)) (λ x free flies. (
    let was = or_parts (is_cut net x.msg.from.node x.msg.to.node) (is_down net x.msg.to.node) (free flies) in
    both_no (is_cut net x.msg.from.node x.msg.to.node) _ was.0 (none_kept (λ i. i == x.msg.to.node) (λ m. not (m == n)) net.down was.1))) net.packets now

-- ---- each happening

ordered_free : (net : Net) (c : Command) → FlyFree net → FlyFree (ordered net c)
ordered_free net (commands.LoseNext kind from to) now = now
ordered_free net _ now = now

pub flies_on : (places : List Place) (asked : List Command) (f : Facts) (h : Happening) → FlyFree f.net → FlyFree (facts_after places asked f h).net
unfolding facts_after
flies_on places asked f (happenings.Begun c) now = ordered_free f.net (command_at asked c) now
flies_on places asked f (happenings.Turn u) now = all_sent_free (taken f.net u.took) u.sent (taken_free f.net u.took now)
flies_on places asked f (happenings.Cut a b) now = cut_free f.net a b now
flies_on places asked f (happenings.Join a b) now = joined_free f.net a b now
flies_on places asked f (happenings.Lost k) now = lost_free f.net k now
flies_on places asked f (happenings.Stopped n) now = stopped_free f.net n now
flies_on places asked f (happenings.Started n boot) now = started_free f.net n now
