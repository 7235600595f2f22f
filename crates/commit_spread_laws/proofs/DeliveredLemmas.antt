-- A message that was delivered stays so at its number, whatever happens next; and the one that a turn takes is delivered then.
use Rattle.std.proofs.Common.{◌≡◌, ℕ, zero, suc, false, if◌then◌else◌, List, [], ◌∷◌, ◌++◌, map, slice_get, slice_set, Option, Some, None, refl, sym, ap, subst, ◌∙◌}
use Rattle.std.proofs.lemmas.Bool.{cond_both}
use Rattle.node_rules.specs.Data.{Msg, Place}
use Rattle.node_rules.specs.Words.{numbered}
use Rattle.net_bag.specs.Net.{Net, is_flying, sent_one, sent_on, first_fate, fated, with_fate, packet, packet_at, delivered, lost, goes_over, lost_over, cut_over, joined, goes_to, lost_to, stopped, started}
use Rattle.run_rules.specs.Data.{Fate, Packet, Took, Turn, Happening, Command}
use Rattle.run_rules.specs.Data.commands
use Rattle.run_rules.specs.Data.fates
use Rattle.run_rules.specs.Data.happenings
use Rattle.run_rules.specs.Facts.{Facts, taken, ordered, facts_after, facts_of}

-- ---- lists of messages

-- each delivered message of a list stands in another at its place
abbrev pub Keeps : List Packet → List Packet → Type 0
Keeps xs ys = (i : ℕ) (x : Packet) → slice_get xs i ≡ Some x → x.fate ≡ fates.Delivered → slice_get ys i ≡ Some x

keeps_more : (xs ys : List Packet) → Keeps xs (xs ++ ys)
keeps_more [] ys i x at came = absurd cc
keeps_more (y ∷ xs) ys zero x at came = at
keeps_more (y ∷ xs) ys (suc i) x at came = keeps_more xs ys i x at came

keeps_map : (g : Packet → Packet) → ((x : Packet) → x.fate ≡ fates.Delivered → g x ≡ x) → (xs : List Packet) → Keeps xs (map g xs)
keeps_map g still [] i x at came = absurd cc
keeps_map g still (y ∷ xs) zero x at came =
    let both : Some y ≡ Some x = at in
    let it : y ≡ x = cc in
    subst (λ z. Some (g z) ≡ Some x) (sym it) (ap Some (still x came))
keeps_map g still (y ∷ xs) (suc i) x at came = keeps_map g still xs i x at came

keeps_set : (xs : List Packet) (j : ℕ) (y z : Packet) → slice_get xs j ≡ Some y → (y.fate ≡ fates.Delivered → z ≡ y) → Keeps xs (slice_set xs j z)
keeps_set [] j y z there same i x at came = absurd cc
keeps_set (w ∷ xs) zero y z there same zero x at came =
    let one : Some w ≡ Some y = there in
    let two : Some w ≡ Some x = at in
    let it : y ≡ x = cc in
    ap Some (same (subst (λ (v : Packet). v.fate ≡ fates.Delivered) (sym it) came) ∙ it)
keeps_set (w ∷ xs) zero y z there same (suc i) x at came = at
keeps_set (w ∷ xs) (suc j) y z there same zero x at came = at
keeps_set (w ∷ xs) (suc j) y z there same (suc i) x at came = keeps_set xs j y z there same i x at came

set_there : (xs : List Packet) (j : ℕ) (y z : Packet) → slice_get xs j ≡ Some y → slice_get (slice_set xs j z) j ≡ Some z
set_there [] j y z there = absurd cc
set_there (w ∷ xs) zero y z there = refl
set_there (w ∷ xs) (suc j) y z there = set_there xs j y z there

-- ---- fates

-- a delivered message meets no other fate
fated_still : (fate : Fate) (x : Packet) → x.fate ≡ fates.Delivered → fated fate x ≡ x
fated_still fate x came = ap (λ q. if q then packet x.msg fate else x) (ap is_flying came)

-- one in flight meets its fate
fated_flying : (fate : Fate) (x : Packet) → x.fate ≡ fates.InFlight → fated fate x ≡ packet x.msg fate
fated_flying fate x flying = ap (λ q. if q then packet x.msg fate else x) (ap is_flying flying)

fate_keeps : (xs : List Packet) (n : ℕ) (fate : Fate) (o : Option Packet) → numbered xs n ≡ o → Keeps xs (with_fate xs n fate o)
fate_keeps xs n fate None is i x at came = at
fate_keeps xs zero fate (Some y) is i x at came = at
fate_keeps xs (suc j) fate (Some y) is i x at came = keeps_set xs j y (fated fate y) is (fated_still fate y) i x at came

-- ---- the network

sent_keeps : (net : Net) (ms : List Msg) → Keeps net.packets (sent_on net ms).packets
unfolding sent_on
sent_keeps net [] i x at came = at
sent_keeps net (m ∷ ms) i x at came = sent_keeps (sent_one net m) ms i x (keeps_more net.packets (packet m (first_fate net m) ∷ []) i x at came) came

delivered_keeps : (net : Net) (n : ℕ) → Keeps net.packets (delivered net n).packets
unfolding delivered
delivered_keeps net n = fate_keeps net.packets n fates.Delivered (packet_at net n) refl

lost_keeps : (net : Net) (n : ℕ) → Keeps net.packets (lost net n).packets
unfolding lost
lost_keeps net n = fate_keeps net.packets n fates.Lost (packet_at net n) refl

taken_keeps : (net : Net) (took : Option Took) → Keeps net.packets (taken net took).packets
taken_keeps net None i x at came = at
taken_keeps net (Some k) i x at came = cond_both k.again net (delivered net k.number) (λ z. slice_get z.packets i ≡ Some x) (λ again. at) (λ once. delivered_keeps net k.number i x at came)

cut_keeps : (net : Net) (a b : ℕ) → Keeps net.packets (cut_over net a b).packets
unfolding cut_over
cut_keeps net a b = keeps_map (lost_over a b) (λ x came. cond_both (goes_over a b x) (fated fates.Lost x) x (λ y. y ≡ x) (λ over. fated_still fates.Lost x came) (λ past. refl)) net.packets

stopped_keeps : (net : Net) (n : ℕ) → Keeps net.packets (stopped net n).packets
unfolding stopped
stopped_keeps net n = keeps_map (lost_to n) (λ x came. cond_both (goes_to n x) (fated fates.Lost x) x (λ y. y ≡ x) (λ there. fated_still fates.Lost x came) (λ past. refl)) net.packets

ordered_keeps : (net : Net) (c : Command) → Keeps net.packets (ordered net c).packets
ordered_keeps net (commands.LoseNext kind from to) i x at came = at
ordered_keeps net _ i x at came = at

module _ (places : List Place) (asked : List Command) where
  keeps_after : (f : Facts) (h : Happening) → Keeps f.net.packets (facts_after places asked f h).net.packets
  unfolding facts_after joined started
  keeps_after f (happenings.Begun c) i x at came = ordered_keeps f.net _ i x at came
  keeps_after f (happenings.Turn u) i x at came = sent_keeps (taken f.net u.took) u.sent i x (taken_keeps f.net u.took i x at came) came
  keeps_after f (happenings.Cut a b) i x at came = cut_keeps f.net a b i x at came
  keeps_after f (happenings.Join a b) i x at came = at
  keeps_after f (happenings.Lost k) i x at came = lost_keeps f.net k i x at came
  keeps_after f (happenings.Stopped n) i x at came = stopped_keeps f.net n i x at came
  keeps_after f (happenings.Started n boot) i x at came = at

  keeps_all : (f : Facts) (hs : List Happening) → Keeps f.net.packets (facts_of places asked f hs).net.packets
  unfolding facts_of
  keeps_all f [] i x at came = at
  keeps_all f (h ∷ hs) i x at came = keeps_all (facts_after places asked f h) hs i x (keeps_after f h i x at came) came

  -- a delivered message stays at its number
  pub stays_delivered : (f : Facts) (hs : List Happening) (n : ℕ) (x : Packet) → packet_at f.net n ≡ Some x → x.fate ≡ fates.Delivered → packet_at (facts_of places asked f hs).net n ≡ Some x
  stays_delivered f hs zero x at came = absurd cc
  stays_delivered f hs (suc i) x at came = keeps_all f hs i x at came

  -- ---- a turn that takes a message

  fate_there : (xs : List Packet) (n : ℕ) (o : Option Packet) (x : Packet) → numbered xs n ≡ o → o ≡ Some x → x.fate ≡ fates.InFlight → numbered (with_fate xs n fates.Delivered o) n ≡ Some (packet x.msg fates.Delivered)
  fate_there xs n None x is at flying = absurd cc
  fate_there xs zero (Some y) x is at flying = absurd cc
  fate_there xs (suc j) (Some y) x is at flying =
      let both : Some y ≡ Some x = at in
      let it : y ≡ x = cc in
      set_there xs j y (fated fates.Delivered y) is ∙ (ap (λ z. Some (fated fates.Delivered z)) it ∙ ap Some (fated_flying fates.Delivered x flying))

  delivered_there : (net : Net) (n : ℕ) (x : Packet) → packet_at net n ≡ Some x → x.fate ≡ fates.InFlight → packet_at (delivered net n) n ≡ Some (packet x.msg fates.Delivered)
  unfolding delivered
  delivered_there net n x at flying = fate_there net.packets n (packet_at net n) x refl at flying

  sent_there : (net : Net) (ms : List Msg) (n : ℕ) (x : Packet) → packet_at net n ≡ Some x → x.fate ≡ fates.Delivered → packet_at (sent_on net ms) n ≡ Some x
  sent_there net ms zero x at came = absurd cc
  sent_there net ms (suc i) x at came = sent_keeps net ms i x at came

  -- it is delivered then
  pub turn_delivers : (f : Facts) (u : Turn) (n : ℕ) (x : Packet) → u.took ≡ Some (record { number = n; again = false }) → packet_at f.net n ≡ Some x → x.fate ≡ fates.InFlight
      → packet_at (facts_after places asked f (happenings.Turn u)).net n ≡ Some (packet x.msg fates.Delivered)
  unfolding facts_after
  turn_delivers f u n x took at flying =
      let one : taken f.net u.took ≡ delivered f.net n = ap (λ o. taken f.net o) took in
      sent_there (taken f.net u.took) u.sent n (packet x.msg fates.Delivered) (ap (λ (net : Net). packet_at net n) one ∙ delivered_there f.net n x at flying) refl
