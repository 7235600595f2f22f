-- All messages of a run so far, after each happening: those before it, and those that it sends.
use Rattle.std.proofs.Common.{◌≡◌, ℕ, ◌≤◌, ◌&&◌, ◌||◌, Bool, true, false, if◌then◌else◌, List, [], ◌∷◌, ◌++◌, map, max, Option, Some, None, refl, sym, ap, subst, ◌∙◌, arith, append-nil}
use Rattle.std.proofs.lemmas.List.{map-append, append_assoc}
use Rattle.std.proofs.lemmas.Bool.{cond_both, or_right}
use Rattle.std.specs.List.{AllByRecursion}
use Rattle.tran_ids.proofs.BranchLemmas.{equal_from_same, same_from_equal}
use Rattle.node_rules.specs.Data.{BranchId, Kind, Msg, Post, Place}
use Rattle.node_rules.specs.Data.kinds
use Rattle.node_rules.specs.Words.{same, numbered}
use Rattle.node_rules.specs.Turn.{stamped}
use Rattle.net_bag.specs.Net.{Net, first_fate, sent_one, sent_on, fated, with_fate, flies, packet, packet_at, delivered, lost, goes_over, lost_over, cut_over, joined, goes_to, lost_to, stopped, started}
use Rattle.run_rules.specs.Data.{Fate, Packet, Took, Happening, Command}
use Rattle.run_rules.specs.Data.fates
use Rattle.run_rules.specs.Data.happenings
use Rattle.run_rules.specs.Data.commands
use Rattle.run_rules.specs.Facts.{Facts, taken, ordered, facts_after}
use Rattle.run_rules.specs.Births.{Born, born_id, born_at}
use Rattle.run_base_laws.specs.BirthLaws.{Began, IsChild, StandsBelow, GoesSo}
use Rattle.run_rules.specs.Trail.{is_prepare}
use Rattle.run_base_laws.specs.FreezeLaws.{was_asked}
use Rattle.run_base_laws.specs.InTurnLaws.{post_of, packet_post, said_in, exec_number, reply_number, newest, newest_exec, newest_reply}
use Rattle.run_rules.proofs.ListLemmas.{all_weaker, map_after}
use Rattle.run_base_laws.proofs.OwnLemmas.{all_found}
use Rattle.run_base_laws.proofs.CallTurnLemmas.{Silent}
use Rattle.run_base_laws.proofs.KidLemmas.{parent_of, child_parent}
use Rattle.run_base_laws.proofs.InTurnLemmas.{map_set}

-- what a draft says is what its turn sends
pub posts_back : (clock : ℕ) (xs : List Post) → map post_of (map (stamped clock) xs) ≡ xs
posts_back clock [] = refl
posts_back clock (x ∷ xs) = ap (λ ys. x ∷ ys) (posts_back clock xs)

-- ---- the network

fated_post : (fate : Fate) (x : Packet) → packet_post (fated fate x) ≡ packet_post x
fated_post fate x = cond_both (flies x) (packet x.msg fate) x (λ y. packet_post y ≡ packet_post x) (λ flying. refl) (λ landed. refl)

fate_posts : (xs : List Packet) (n : ℕ) (fate : Fate) (o : Option Packet) → numbered xs n ≡ o → map packet_post (with_fate xs n fate o) ≡ map packet_post xs
fate_posts xs n fate None is = refl
fate_posts xs n fate (Some x) is = map_set packet_post xs n x (fated fate x) is (fated_post fate x)

delivered_posts : (net : Net) (n : ℕ) → map packet_post (delivered net n).packets ≡ map packet_post net.packets
unfolding delivered
delivered_posts net n = fate_posts net.packets n fates.Delivered (packet_at net n) refl

lost_posts : (net : Net) (n : ℕ) → map packet_post (lost net n).packets ≡ map packet_post net.packets
unfolding lost
lost_posts net n = fate_posts net.packets n fates.Lost (packet_at net n) refl

taken_posts : (net : Net) (took : Option Took) → map packet_post (taken net took).packets ≡ map packet_post net.packets
taken_posts net None = refl
taken_posts net (Some t) = cond_both t.again net (delivered net t.number) (λ x. map packet_post x.packets ≡ map packet_post net.packets) (λ again. refl) (λ once. delivered_posts net t.number)

cut_posts : (net : Net) (a b : ℕ) → map packet_post (cut_over net a b).packets ≡ map packet_post net.packets
unfolding cut_over
cut_posts net a b = map_after packet_post (lost_over a b) packet_post (λ x. cond_both (goes_over a b x) (fated fates.Lost x) x (λ y. packet_post y ≡ packet_post x) (λ over. fated_post fates.Lost x) (λ past. refl)) net.packets

stopped_posts : (net : Net) (n : ℕ) → map packet_post (stopped net n).packets ≡ map packet_post net.packets
unfolding stopped
stopped_posts net n = map_after packet_post (lost_to n) packet_post (λ x. cond_both (goes_to n x) (fated fates.Lost x) x (λ y. packet_post y ≡ packet_post x) (λ there. fated_post fates.Lost x) (λ past. refl)) net.packets

joined_posts : (net : Net) (a b : ℕ) → map packet_post (joined net a b).packets ≡ map packet_post net.packets
unfolding joined
joined_posts net a b = refl

started_posts : (net : Net) (n : ℕ) → map packet_post (started net n).packets ≡ map packet_post net.packets
unfolding started
started_posts net n = refl

ordered_posts : (net : Net) (c : Command) → map packet_post (ordered net c).packets ≡ map packet_post net.packets
ordered_posts net (commands.LoseNext kind from to) = refl
ordered_posts net _ = refl

sent_posts : (net : Net) (ms : List Msg) → map packet_post (sent_on net ms).packets ≡ map packet_post net.packets ++ map post_of ms
unfolding sent_on
sent_posts net [] = sym (append-nil (map packet_post net.packets))
sent_posts net (m ∷ ms) =
    sent_posts (sent_one net m) ms
    ∙ (ap (λ xs. xs ++ map post_of ms) (map-append packet_post net.packets (packet m (first_fate net m) ∷ [])) ∙ append_assoc (map packet_post net.packets) (post_of m ∷ []) (map post_of ms))

-- what a happening sends
abbrev pub posts_of : Happening → List Post
posts_of (happenings.Turn u) = map post_of u.sent
posts_of _ = []

module _ (places : List Place) (asked : List Command) (f : Facts) where
  unsent : (xs : List Post) → xs ≡ said_in f → xs ≡ said_in f ++ []
  unsent xs is = is ∙ sym (append-nil (said_in f))

  pub said_after : (h : Happening) → said_in (facts_after places asked f h) ≡ said_in f ++ posts_of h
  unfolding facts_after
  said_after (happenings.Turn u) = sent_posts (taken f.net u.took) u.sent ∙ ap (λ xs. xs ++ map post_of u.sent) (taken_posts f.net u.took)
  said_after (happenings.Begun c) = unsent _ (ordered_posts f.net _)
  said_after (happenings.Cut a b) = unsent _ (cut_posts f.net a b)
  said_after (happenings.Join a b) = unsent _ (joined_posts f.net a b)
  said_after (happenings.Lost k) = unsent _ (lost_posts f.net k)
  said_after (happenings.Stopped n) = unsent _ (stopped_posts f.net n)
  said_after (happenings.Started n boot) = unsent _ (started_posts f.net n)

-- ---- each message

-- a number that is not above the newest stays so with one message more
low_more : (q : Bool) (n first rest : ℕ) → n ≤ rest → n ≤ (if q then max first rest else rest)
low_more true n first rest low = omega (arith, low)
low_more false n first rest low = low

low_first : (q : Bool) (n rest : ℕ) → q ≡ true → n ≤ (if q then max n rest else rest)
low_first true n rest is = omega arith
low_first false n rest is = absurd cc

module _ (test : Packet → Post → Bool) (number : Kind → ℕ) (own : (x : Packet) → test x (packet_post x) ≡ true) where
  pub each_is_low : (xs : List Packet) → AllByRecursion (λ x. number x.msg.kind ≤ newest (test x) number (map packet_post xs)) xs
  each_is_low [] = tt
  each_is_low (x ∷ xs) = (
    low_first (test x (packet_post x)) (number x.msg.kind) (newest (test x) number (map packet_post xs)) (own x),
    all_weaker _ _ (λ y low. low_more (test y (packet_post x)) (number y.msg.kind) (number x.msg.kind) (newest (test y) number (map packet_post xs)) low) xs (each_is_low xs),
  )

same_both : (a b : BranchId) → (same a a && same b b) ≡ true
same_both a b = let one : same a a ≡ true = same_from_equal a a refl in let two : same b b ≡ true = same_from_equal b b refl in ap (λ q. q && same b b) one ∙ two

-- the number of a call that was made is not above the newest
pub execs_are_low : (f : Facts) → AllByRecursion (λ x. exec_number x.msg.kind ≤ newest_exec (said_in f) x.msg.from x.msg.to) f.net.packets
execs_are_low f = each_is_low (λ x m. same m.from x.msg.from && same m.to x.msg.to) exec_number (λ x. same_both x.msg.from x.msg.to) f.net.packets

pub replies_are_low : (f : Facts) → AllByRecursion (λ x. reply_number x.msg.kind ≤ newest_reply (said_in f) x.msg.from) f.net.packets
replies_are_low f = each_is_low (λ x m. same m.from x.msg.from) reply_number (λ x. same_from_equal x.msg.from x.msg.from refl) f.net.packets

-- a Prepare that was sent asks its receiver
asked_first : (p q r rest : Bool) → p ≡ true → q ≡ true → r ≡ true → (((p && q) && r) || rest) ≡ true
asked_first true true true rest one two three = refl
asked_first true true false rest one two three = absurd cc
asked_first true false r rest one two three = absurd cc
asked_first false q r rest one two three = absurd cc

prepares_from : (xs : List Packet) → AllByRecursion (λ x. is_prepare x.msg.kind ≡ true → was_asked (map packet_post xs) x.msg.from x.msg.to ≡ true) xs
prepares_from [] = tt
prepares_from (x ∷ xs) = (
  (λ is. asked_first (same x.msg.from x.msg.from) (same x.msg.to x.msg.to) (is_prepare x.msg.kind) (was_asked (map packet_post xs) x.msg.from x.msg.to) (same_from_equal x.msg.from x.msg.from refl) (same_from_equal x.msg.to x.msg.to refl) is),
  all_weaker _ _ (λ y old is. or_right ((same x.msg.from y.msg.from && same x.msg.to y.msg.to) && is_prepare x.msg.kind) (was_asked (map packet_post xs) y.msg.from y.msg.to) (old is)) xs (prepares_from xs),
)

pub prepares_are_said : (f : Facts) → AllByRecursion (λ x. is_prepare x.msg.kind ≡ true → was_asked (said_in f) x.msg.from x.msg.to ≡ true) f.net.packets
prepares_are_said f = prepares_from f.net.packets

-- ---- a branch that has not begun said nothing

zero_more : (q : Bool) (first rest : ℕ) → (q ≡ true → first ≡ 0) → rest ≡ 0 → (if q then max first rest else rest) ≡ 0
zero_more true first rest none zero_rest = omega (arith, none refl, zero_rest)
zero_more false first rest none zero_rest = zero_rest

and_first : (p q : Bool) → (p && q) ≡ true → p ≡ true
and_first true q is = refl
and_first false q is = is

module _ (bs : List Born) (trees : AllByRecursion (λ x. StandsBelow (Began bs) x x.parent) bs) (b : BranchId) (unborn : born_at bs b ≡ None) where
  no_child_of : (c : BranchId) → IsChild (Began bs) c b → ⊥
  no_child_of c child =
      let below : StandsBelow (Began bs) child.0 child.0.parent = all_found (λ x. StandsBelow (Began bs) x x.parent) born_id bs child.0.me child.0 trees child.1 in
      let above : StandsBelow (Began bs) child.0 (Some b) = subst (StandsBelow (Began bs) child.0) child.3 below in
      let is : born_at bs b ≡ Some above.0 = subst (λ c. born_at bs c ≡ Some above.0) above.2 above.1 in
      absurd (cc (is, unborn))

  no_child_is : (p : BranchId) → IsChild (Began bs) b p → ⊥
  no_child_is p child = let is : born_at bs b ≡ Some child.0 = subst (λ c. born_at bs c ≡ Some child.0) child.2 child.1 in absurd (cc (is, unborn))

  no_exec : (to : BranchId) (kind : Kind) → GoesSo (Began bs) b to kind → exec_number kind ≡ 0
  no_exec to (kinds.Exec call task) goes = absurd (no_child_of to goes)
  no_exec to _ goes = refl

  no_reply : (to : BranchId) (kind : Kind) → GoesSo (Began bs) b to kind → reply_number kind ≡ 0
  no_reply to (kinds.Reply call weight count a) goes = absurd (no_child_is to goes)
  no_reply to _ goes = refl

  unborn_execs : (c : BranchId) (xs : List Packet) → AllByRecursion (λ x. GoesSo (Began bs) x.msg.from x.msg.to x.msg.kind) xs → newest_exec (map packet_post xs) b c ≡ 0
  unborn_execs c [] all = refl
  unborn_execs c (x ∷ xs) all =
      zero_more (same x.msg.from b && same x.msg.to c) (exec_number x.msg.kind) (newest_exec (map packet_post xs) b c)
      (λ is. no_exec x.msg.to x.msg.kind (subst (λ a. GoesSo (Began bs) a x.msg.to x.msg.kind) (equal_from_same x.msg.from b (and_first (same x.msg.from b) (same x.msg.to c) is)) all.0)) (unborn_execs c xs all.1)

  unborn_replies : (xs : List Packet) → AllByRecursion (λ x. GoesSo (Began bs) x.msg.from x.msg.to x.msg.kind) xs → newest_reply (map packet_post xs) b ≡ 0
  unborn_replies [] all = refl
  unborn_replies (x ∷ xs) all =
      zero_more (same x.msg.from b) (reply_number x.msg.kind) (newest_reply (map packet_post xs) b)
      (λ is. no_reply x.msg.to x.msg.kind (subst (λ a. GoesSo (Began bs) a x.msg.to x.msg.kind) (equal_from_same x.msg.from b is) all.0)) (unborn_replies xs all.1)

  no_prepare : (to : BranchId) (kind : Kind) → GoesSo (Began bs) b to kind → is_prepare kind ≡ false
  no_prepare to (kinds.Prepare site_below comment) goes = absurd (no_child_of to goes)
  no_prepare to _ goes = refl

  pub unborn_asks : (c : BranchId) (xs : List Packet) → AllByRecursion (λ x. GoesSo (Began bs) x.msg.from x.msg.to x.msg.kind) xs → was_asked (map packet_post xs) b c ≡ false
  unborn_asks c [] all = refl
  unborn_asks c (x ∷ xs) all = none (same x.msg.from b) (same x.msg.to c) (is_prepare x.msg.kind) refl (λ is. no_prepare x.msg.to x.msg.kind (subst (λ a. GoesSo (Began bs) a x.msg.to x.msg.kind) (equal_from_same x.msg.from b is) all.0)) (unborn_asks c xs all.1)
    where
      none : (p q r : Bool) → same x.msg.from b ≡ p → (same x.msg.from b ≡ true → r ≡ false) → was_asked (map packet_post xs) b c ≡ false → (((p && q) && r) || was_asked (map packet_post xs) b c) ≡ false
      none true true r is never rest = ap (λ z. z || was_asked (map packet_post xs) b c) (never is) ∙ rest
      none true false r is never rest = rest
      none false q r is never rest = rest

  pub unborn_silent : (xs : List Packet) → AllByRecursion (λ x. GoesSo (Began bs) x.msg.from x.msg.to x.msg.kind) xs → Silent b (map packet_post xs)
  unborn_silent xs all = record { calls = λ c. unborn_execs c xs all; replies = unborn_replies xs all }

-- who was asked is a child of the one that asked
pub asked_in : (bs : List Born) (p c : BranchId) (xs : List Packet) → AllByRecursion (λ x. GoesSo (Began bs) x.msg.from x.msg.to x.msg.kind) xs → was_asked (map packet_post xs) p c ≡ true → parent_of bs c ≡ Some p
asked_in bs p c [] all is = absurd cc
asked_in bs p c (x ∷ xs) all is = by (same x.msg.from p) (same x.msg.to c) refl refl x.msg.kind all.0 is (λ later. asked_in bs p c xs all.1 later)
  where
    by : (q r : Bool) → same x.msg.from p ≡ q → same x.msg.to c ≡ r → (kind : Kind) → GoesSo (Began bs) x.msg.from x.msg.to kind → (((q && r) && is_prepare kind) || was_asked (map packet_post xs) p c) ≡ true
        → (was_asked (map packet_post xs) p c ≡ true → parent_of bs c ≡ Some p) → parent_of bs c ≡ Some p
    by true true from to (kinds.Prepare site_below comment) goes it rest =
        subst (λ b. parent_of bs b ≡ Some p) (equal_from_same x.msg.to c to) (subst (λ a. parent_of bs x.msg.to ≡ Some a) (equal_from_same x.msg.from p from) (child_parent bs x.msg.to x.msg.from goes))
    by true true from to _ goes it rest = rest it
    by true false from to kind goes it rest = rest it
    by false r from to kind goes it rest = rest it
