-- What flies in a calm turn: all that flew, but for what was delivered, and all that the turn sends.
use Rattle.std.proofs.Common.{◌≡◌, ◌≢◌, ℕ, zero, suc, ◌+◌, ◌⊎◌, Bool, true, false, if◌then◌else◌, List, [], ◌∷◌, ◌++◌, map, fold, length, slice_get, Option, Some, None, inl, inr, refl, sym, ap, subst, ◌∙◌}
use Rattle.std.specs.Prelude.{flat_map}
use Rattle.std.proofs.lemmas.List.{append_assoc}
use Rattle.std.proofs.lemmas.Bool.{cond_both}
use Rattle.tran_ids.specs.Branch.{put_by_branch, branch_below}
use Rattle.tran_ids.proofs.NumberedLemmas.{set_or_before}
use Rattle.net_bag.specs.Net.{Net, sent_one, sent_on, is_lost_at_once, lost_at_once, first_fate, fated, with_fate, packet, packet_at, delivered}
use Rattle.node_rules.specs.Data.{BranchId, Kind, Msg, Place}
use Rattle.node_rules.specs.Data.inputs
use Rattle.node_rules.specs.NodeState.{NodeState}
use Rattle.node_rules.specs.Words.{numbered}
use Rattle.run_rules.specs.Data.{Packet, Took, Turn, Command}
use Rattle.run_rules.specs.Data.fates
use Rattle.run_rules.specs.Data.happenings
use Rattle.run_rules.specs.Facts.{Facts, taken, facts_after}
use Rattle.run_rules.specs.Lawful.{Comes}
use Rattle.run_base_laws.proofs.TurnEventLemmas.{cases_nat}
use Rattle.commit_laws.proofs.ListLemmas.{IsIn}
use Rattle.settle_laws.specs.Interval.{Flies}

-- ---- lists

module _ {A : Type 0} where
  pub in_before : (a : A) (xs ys : List A) → IsIn a xs → IsIn a (xs ++ ys)
  in_before a [] ys at = absurd at
  in_before a (x ∷ xs) ys (inl is) = inl is
  in_before a (x ∷ xs) ys (inr at) = inr (in_before a xs ys at)

  pub in_behind : (a : A) (xs ys : List A) → IsIn a ys → IsIn a (xs ++ ys)
  in_behind a [] ys at = at
  in_behind a (x ∷ xs) ys at = inr (in_behind a xs ys at)

  pub in_map : {B : Type 0} (f : A → B) (a : A) (xs : List A) → IsIn a xs → IsIn (f a) (map f xs)
  in_map f a [] at = absurd at
  in_map f a (x ∷ xs) (inl is) = inl (ap f is)
  in_map f a (x ∷ xs) (inr at) = inr (in_map f a xs at)

  pub in_numbered : (a : A) (xs : List A) → IsIn a xs → (j : ℕ) × (slice_get xs j ≡ Some a)
  in_numbered a [] at = absurd at
  in_numbered a (x ∷ xs) (inl is) = (zero, ap Some is)
  in_numbered a (x ∷ xs) (inr at) = (let rest = in_numbered a xs at in (suc rest.0, rest.1))

  pub numbered_more : (xs ys : List A) (j : ℕ) (a : A) → numbered xs j ≡ Some a → numbered (xs ++ ys) j ≡ Some a
  numbered_more xs ys zero a is = absurd cc
  numbered_more xs ys (suc i) a is = by xs i is
    where
      by : (zs : List A) (n : ℕ) → slice_get zs n ≡ Some a → slice_get (zs ++ ys) n ≡ Some a
      by [] n none = absurd cc
      by (z ∷ zs) zero at = at
      by (z ∷ zs) (suc n) at = by zs n at

  module _ (id : A → BranchId) where
    pub in_put_new : (xs : List A) (x : A) → IsIn x (put_by_branch id xs x)
    in_put_new [] x = inl refl
    in_put_new (y ∷ ys) x = cond_both (branch_below (id x) (id y)) (x ∷ y ∷ ys) (y ∷ put_by_branch id ys x) (IsIn x) (λ here. inl refl) (λ later. inr (in_put_new ys x))

    pub in_put_old : (a : A) (xs : List A) (x : A) → IsIn a xs → IsIn a (put_by_branch id xs x)
    in_put_old a [] x at = absurd at
    in_put_old a (y ∷ ys) x (inl is) = cond_both (branch_below (id x) (id y)) (x ∷ y ∷ ys) (y ∷ put_by_branch id ys x) (IsIn a) (λ here. inr (inl is)) (λ later. inl is)
    in_put_old a (y ∷ ys) x (inr at) = cond_both (branch_below (id x) (id y)) (x ∷ y ∷ ys) (y ∷ put_by_branch id ys x) (IsIn a) (λ here. inr (inr at)) (λ later. inr (in_put_old a ys x at))

    pub in_sorted : (a : A) (more xs : List A) → IsIn a xs ⊎ IsIn a more → IsIn a (fold (put_by_branch id) xs more)
    in_sorted a [] xs (inl at) = at
    in_sorted a [] xs (inr at) = absurd at
    in_sorted a (y ∷ more) xs (inl at) = in_sorted a more (put_by_branch id xs y) (inl (in_put_old a xs y at))
    in_sorted a (y ∷ more) xs (inr (inl is)) = in_sorted a more (put_by_branch id xs y) (inl (subst (λ z. IsIn z (put_by_branch id xs y)) is (in_put_new xs y)))
    in_sorted a (y ∷ more) xs (inr (inr at)) = in_sorted a more (put_by_branch id xs y) (inr at)

pub in_flat : {A B : Type 0} (f : A → List B) (a : A) (b : B) (xs : List A) → IsIn a xs → IsIn b (f a) → IsIn b (flat_map f xs)
in_flat f a b [] at its = absurd at
in_flat f a b (x ∷ xs) (inl is) its = in_before b (f x) (flat_map f xs) (subst (λ y. IsIn b (f y)) (sym is) its)
in_flat f a b (x ∷ xs) (inr at) its = in_behind b (f x) (flat_map f xs) (in_flat f a b xs at its)

-- ---- the network

abbrev pub in_flight : Msg → Packet
in_flight m = packet m fates.InFlight

pub sent_packets : (net : Net) (ms : List Msg) → lost_at_once net ms ≡ [] → (sent_on net ms).packets ≡ net.packets ++ map in_flight ms
unfolding sent_on
sent_packets net [] none = sym (append_nil_of net.packets)
  where
    append_nil_of : (xs : List Packet) → xs ++ [] ≡ xs
    append_nil_of [] = refl
    append_nil_of (x ∷ xs) = ap (λ ys. x ∷ ys) (append_nil_of xs)
sent_packets net (m ∷ ms) none = by (is_lost_at_once net m) refl none (sent_packets (sent_one net m) ms)
  where
    by : (q : Bool) → is_lost_at_once net m ≡ q → (if q then (length net.packets + 1) ∷ lost_at_once (sent_one net m) ms else lost_at_once (sent_one net m) ms) ≡ []
        → (lost_at_once (sent_one net m) ms ≡ [] → (sent_on (sent_one net m) ms).packets ≡ (sent_one net m).packets ++ map in_flight ms)
        → (sent_on (sent_one net m) ms).packets ≡ net.packets ++ in_flight m ∷ map in_flight ms
    by true is some rest = absurd cc
    by false is all rest =
        let fate : packet m (first_fate net m) ≡ in_flight m = ap (λ (w : Bool). packet m (if w then fates.Lost else fates.InFlight)) is in
        rest all ∙ (ap (λ x. (net.packets ++ x ∷ []) ++ map in_flight ms) fate ∙ append_assoc net.packets (in_flight m ∷ []) (map in_flight ms))

module _ (places : List Place) (asked : List Command) (f : Facts) (u : Turn) (none : lost_at_once (taken f.net u.took) u.sent ≡ []) where
  abbrev pub g : Facts
  g = facts_after places asked f (happenings.Turn u)

  pub packets_now : g.net.packets ≡ (taken f.net u.took).packets ++ map in_flight u.sent
  unfolding facts_after
  packets_now = sent_packets (taken f.net u.took) u.sent none

  -- what is sent flies
  pub sent_flies : (test : Kind → Bool) (m : Msg) → IsIn m u.sent → test m.kind ≡ true → Flies test g m.from m.to
  sent_flies test m at is =
      let there = in_numbered (in_flight m) ((taken f.net u.took).packets ++ map in_flight u.sent) (in_behind (in_flight m) (taken f.net u.took).packets (map in_flight u.sent) (in_map in_flight m u.sent at)) in
      (suc there.0, in_flight m, record { sent = ap (λ xs. slice_get xs there.0) packets_now ∙ there.1; flying = refl }, refl, refl, is)

  -- the message of a number that is not taken
  other_stays : (o : Option Took) (j : ℕ) (x : Packet) → ((y : Took) → o ≡ Some y → y.number ≢ j) → packet_at f.net j ≡ Some x → packet_at (taken f.net o) j ≡ Some x
  unfolding delivered
  other_stays None j x other is = is
  other_stays (Some y) j x other is = cond_both y.again f.net (delivered f.net y.number) (λ net. packet_at net j ≡ Some x) (λ again. is) (λ first. by (packet_at f.net y.number))
    where
      by : (o : Option Packet) → numbered (with_fate f.net.packets y.number fates.Delivered o) j ≡ Some x
      by None = is
      by (Some z) = elim (set_or_before f.net.packets y.number j (fated fates.Delivered z)) [ inl same ↦ same ∙ is | inr new ↦ absurd (other y refl new.0) ]

  flies_other : (test : Kind → Bool) (from to : BranchId) → (fly : Flies test f from to) → ((y : Took) → u.took ≡ Some y → y.number ≢ fly.0) → Flies test g from to
  flies_other test from to fly other =
      (fly.0, fly.1, record { sent = ap (λ xs. numbered xs fly.0) packets_now ∙ numbered_more (taken f.net u.took).packets (map in_flight u.sent) fly.0 fly.1 (other_stays u.took fly.0 fly.1 other fly.2.sent); flying = fly.2.flying }, fly.3, fly.4, fly.5)

  -- where nothing is taken all that flew flies on
  pub flies_untaken : u.took ≡ None → (test : Kind → Bool) (from to : BranchId) → Flies test f from to → Flies test g from to
  flies_untaken untaken test from to fly = flies_other test from to fly (λ y is. absurd (cc (untaken, is)))

  -- else it flies on or is what was taken
  pub flies_or_taken : (k : NodeState) (m : Msg) (y : Took) → u.took ≡ Some y → Comes f k u.node (inputs.Message m) (Some y) → (test : Kind → Bool) (from to : BranchId) → Flies test f from to
      → Flies test g from to ⊎ ((m.from ≡ from) × (m.to ≡ to) × (test m.kind ≡ true))
  flies_or_taken k m y took comes test from to fly = by (nat_cases y.number fly.0)
    where
      nat_cases : (a b : ℕ) → (a ≡ b) ⊎ (a ≢ b)
      nat_cases a b = cases_nat a b

      by : (y.number ≡ fly.0) ⊎ (y.number ≢ fly.0) → Flies test g from to ⊎ ((m.from ≡ from) × (m.to ≡ to) × (test m.kind ≡ true))
      by (inr other) = inl (flies_other test from to fly (λ z is at. (let both : Some y ≡ Some z = sym took ∙ is in let it : y ≡ z = cc in other (ap (λ (w : Took). w.number) it ∙ at))))
      by (inl at) =
          let found : packet_at f.net fly.0 ≡ Some comes.0 = subst (λ n. packet_at f.net n ≡ Some comes.0) at comes.1.sent in
          let both : Some comes.0 ≡ Some fly.1 = sym found ∙ fly.2.sent in
          let it : comes.0 ≡ fly.1 = cc in
          let msg : fly.1.msg ≡ m = ap (λ (x : Packet). x.msg) (sym it) ∙ comes.1.same in
          inr (ap (λ (x : Msg). x.from) (sym msg) ∙ fly.3, ap (λ (x : Msg). x.to) (sym msg) ∙ fly.4, ap (λ (x : Msg). test x.kind) (sym msg) ∙ fly.5)
