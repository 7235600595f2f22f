-- To a branch of the transaction of an undisturbed COMMIT Prepare comes once: none was sent before the COMMIT, from then on no message
-- comes again, and a branch asks another once.
use Rattle.std.proofs.Common.{◌≡◌, ℕ, zero, suc, ◌+◌, ◌≤◌, ◌&&◌, Bool, true, false, if◌then◌else◌, List, [], ◌∷◌, ◌++◌, map, slice_get, Some, inl, inr, refl, sym, ap, subst, subst₂, ◌∙◌, arith}
use Rattle.std.specs.Prelude.{◌⊎◌}
use Rattle.std.specs.List.{AllByRecursion}
use Rattle.std.proofs.lemmas.List.{append_assoc}
use Rattle.tran_ids.proofs.BranchLemmas.{same_from_equal}
use Rattle.node_rules.specs.Data.{BranchId, Kind, Msg}
use Rattle.node_rules.specs.Data.inputs
use Rattle.node_rules.specs.Data.stmts
use Rattle.node_rules.specs.Inputs.{Came}
use Rattle.node_rules.specs.Words.{same, numbered}
use Rattle.node_rules.specs.NodeState.{NodeState}
use Rattle.net_bag.specs.Net.{packet, packet_at}
use Rattle.run_rules.specs.Data.{Packet, Turn, Happening}
use Rattle.run_rules.specs.Data.fates
use Rattle.run_rules.specs.Data.happenings
use Rattle.run_rules.specs.Facts.{Facts, first_facts, facts_of}
use Rattle.run_base_laws.specs.FreezeLaws.{was_asked}
use Rattle.run_base_laws.specs.InTurnLaws.{packet_post, said_in}
use Rattle.run_rules.specs.Lawful.{Comes, MayCome, MayHappen, MayTurn, History, IsLawfulRun}
use Rattle.run_rules.specs.Trail.{is_prepare}
use Rattle.run_base_laws.proofs.BirthsStandLemmas.{came_so}
use Rattle.run_base_laws.proofs.SaidPostLemmas.{prepares_are_said}
use Rattle.tree_laws.proofs.PrefixLemmas.{so_far, f_at, one_on, facts_join}
use Rattle.tree_laws.proofs.TimeLemmas.{Part, part_of, part_lawful, may_of, sent_end}
use Rattle.commit_laws.specs.OnceLaws.{count_sent}
use Rattle.run_claims.specs.Undisturbed.{Commit, Undisturbed, IsFirstDelivery, IsInCourse, is_create}
use Rattle.commit_laws.proofs.OnceLemmas.{prepares_are_sent_once}
use Rattle.commit_spread_laws.specs.GotLaws.{GotPrepare}
use Rattle.commit_spread_laws.proofs.DeliveredLemmas.{stays_delivered, turn_delivers}
use Rattle.commit_spread_laws.proofs.FirstLemmas.{commits_come_first}
use Rattle.commit_spread_laws.proofs.TreeLemmas.{InTree}

-- ---- lists

-- what is so of each item is so of one in the midst
pub mid_all : {A : Type 0} (P : A → Type 0) (pre : List A) (h : A) (post : List A) → AllByRecursion P (pre ++ h ∷ post) → P h
mid_all P [] h post all = all.0
mid_all P (p ∷ pre) h post all = mid_all P pre h post all.1

-- an item of a list with another in its midst stands before that, is it, or stands after it
pub split_at : {A : Type 0} (P : A → Type 0) (xs : List A) (x : A) (ys : List A) (pre : List A) (h : A) (post : List A) → pre ++ h ∷ post ≡ xs ++ x ∷ ys → AllByRecursion P ys
    → ((mid : List A) × (pre ++ h ∷ mid ≡ xs)) ⊎ ((h ≡ x) ⊎ P h)
split_at P [] x ys [] h post is all = inr (inl (let it : h ≡ x = cc in it))
split_at P [] x ys (p ∷ pre) h post is all = (let it : pre ++ h ∷ post ≡ ys = cc in inr (inr (mid_all P pre h post (subst (AllByRecursion P) (sym it) all))))
split_at P (a ∷ xs) x ys [] h post is all = (let it : h ≡ a = cc in inl (xs, ap (λ z. z ∷ xs) it))
split_at P (a ∷ xs) x ys (p ∷ pre) h post is all =
    let head : p ≡ a = cc in
    let tail : pre ++ h ∷ post ≡ xs ++ x ∷ ys = cc in
    elim (split_at P xs x ys pre h post tail all) [
      | inl old ↦ inl (old.0, (ap (λ z. z ∷ (pre ++ h ∷ old.0)) head ∙ ap (λ zs. a ∷ zs) old.1))
      | inr later ↦ inr later
    ]

-- ---- a message that was sent once has one number

counts_first : (test : Bool) (n : ℕ) → test ≡ true → 1 ≤ (if test then 1 + n else n)
counts_first true n is = omega arith
counts_first false n is = absurd cc

counts_more : (test : Bool) (n m : ℕ) → m ≤ n → m ≤ (if test then 1 + n else n)
counts_more true n m low = omega (arith, low)
counts_more false n m low = low

counts_fewer : (test : Bool) (n : ℕ) → (if test then 1 + n else n) ≤ 1 → n ≤ 1
counts_fewer true n low = omega (arith, low)
counts_fewer false n low = low

too_many : (test : Bool) (n : ℕ) → (if test then 1 + n else n) ≤ 1 → test ≡ true → 1 ≤ n → ⊥
too_many true n low is some = absurd (omega (arith, low, some))
too_many false n low is some = absurd cc

module _ (q b : BranchId) where
  -- a Prepare from the one to the other
  abbrev is_ask : Packet → Bool
  is_ask x = (same x.msg.from q && same x.msg.to b) && is_prepare x.msg.kind

  abbrev count : List Packet → ℕ
  count xs = count_sent is_prepare (map packet_post xs) q b

  ask_so : (x : Packet) → x.msg.from ≡ q → x.msg.to ≡ b → is_prepare x.msg.kind ≡ true → is_ask x ≡ true
  ask_so x from to kind = by (same x.msg.from q) (same x.msg.to b) (is_prepare x.msg.kind) (same_from_equal x.msg.from q from) (same_from_equal x.msg.to b to) kind
    where
      by : (i j k : Bool) → i ≡ true → j ≡ true → k ≡ true → ((i && j) && k) ≡ true
      by true true true one two three = refl
      by true true false one two three = absurd cc
      by true false k one two three = absurd cc
      by false j k one two three = absurd cc

  one_counts : (xs : List Packet) (i : ℕ) (x : Packet) → slice_get xs i ≡ Some x → is_ask x ≡ true → 1 ≤ count xs
  one_counts [] i x at is = absurd cc
  one_counts (y ∷ xs) zero x at is = (let both : Some y ≡ Some x = at in let it : y ≡ x = cc in counts_first (is_ask y) (count xs) (ap is_ask it ∙ is))
  one_counts (y ∷ xs) (suc i) x at is = counts_more (is_ask y) (count xs) 1 (one_counts xs i x at is)

  same_packet : (xs : List Packet) (i j : ℕ) (x y : Packet) → slice_get xs i ≡ Some x → slice_get xs j ≡ Some y → is_ask x ≡ true → is_ask y ≡ true → count xs ≤ 1 → x ≡ y
  same_packet [] i j x y at there one two low = absurd cc
  same_packet (z ∷ xs) zero zero x y at there one two low = (let both : Some x ≡ Some y = sym at ∙ there in cc)
  same_packet (z ∷ xs) zero (suc j) x y at there one two low =
      (let both : Some z ≡ Some x = at in let it : z ≡ x = cc in absurd (too_many (is_ask z) (count xs) low (ap is_ask it ∙ one) (one_counts xs j y there two)))
  same_packet (z ∷ xs) (suc i) zero x y at there one two low =
      (let both : Some z ≡ Some y = there in let it : z ≡ y = cc in absurd (too_many (is_ask z) (count xs) low (ap is_ask it ∙ two) (one_counts xs i x at one)))
  same_packet (z ∷ xs) (suc i) (suc j) x y at there one two low = same_packet xs i j x y at there one two (counts_fewer (is_ask z) (count xs) low)

  one_number : (xs : List Packet) (n m : ℕ) (x y : Packet) → numbered xs n ≡ Some x → numbered xs m ≡ Some y → is_ask x ≡ true → is_ask y ≡ true → count xs ≤ 1 → x ≡ y
  one_number xs zero m x y at there one two low = absurd cc
  one_number xs (suc i) zero x y at there one two low = absurd cc
  one_number xs (suc i) (suc j) x y at there one two low = same_packet xs i j x y at there one two low

-- ---- an undisturbed COMMIT

-- A Prepare that was sent from a branch to another.
pub record IsSentSo (f : Facts) (q b : BranchId) : Type 0 where
  pub number : ℕ
  pub sent : Packet
  pub there : packet_at f.net number ≡ Some sent
  pub is_from : sent.msg.from ≡ q
  pub is_to : sent.msg.to ≡ b
  pub asks : is_prepare sent.msg.kind ≡ true

module _ (t : History) (whole : IsLawfulRun t) (c : Commit t.places t.commands t.trace) (u : Undisturbed t.places t.commands t.trace c) where
  module _ (hs : List Happening) (h : Happening) (rest : List Happening) (is : hs ++ h ∷ rest ≡ t.trace) (v : Turn) (turn : h ≡ happenings.Turn v) (k : NodeState) (may : MayTurn t.places (f_at t hs) v k)
      (q b : BranchId) (kind : Kind) (came : Came v.input q b kind) (prepare : is_prepare kind ≡ true) (tree : InTree t c q) where
    abbrev f : Facts
    f = f_at t hs

    lawful_c : IsLawfulRun (so_far t c.before)
    lawful_c = part_lawful t whole c.before (part_of t whole c.before (happenings.Turn c.call) c.during c.is)

    asked_before : (mid : List Happening) → hs ++ h ∷ mid ≡ c.before → ⊥
    asked_before mid old =
        let asked : was_asked (said_in f) q b ≡ true
        = came_so (λ from to x. is_prepare x ≡ true → was_asked (said_in f) from to ≡ true) f (prepares_are_said f) k v.node v.input v.took may.comes q b kind came prepare in
        let follows : was_asked (said_in (f_at t c.before)) q b ≡ true = sent_end (so_far t c.before) lawful_c hs (record { rest = h ∷ mid; is = old }) is_prepare q b asked in
        let none : was_asked (said_in (f_at t c.before)) q b ≡ false = subst (λ i. was_asked (said_in (f_at t c.before)) i b ≡ false) tree.2 (commits_come_first t whole c tree.0 tree.1 tree.3 b) in
        absurd (cc (follows, none))

    is_no_call : h ≡ happenings.Turn c.call → ⊥
    is_no_call it =
        let both : happenings.Turn v ≡ happenings.Turn c.call = sym turn ∙ it in
        let same_turn : v ≡ c.call = cc in
        let input : v.input ≡ c.call.input = ap (λ (w : Turn). w.input) same_turn in
        let call : c.call.input ≡ inputs.Call c.session (Some (stmts.Commit c.comment)) = c.asks in
        let message : v.input ≡ inputs.Message (record { from = q; to = b; scn = came.scn; kind = kind }) = came.is in
        absurd (cc (input, call, message))

    -- it comes once
    delivery : IsFirstDelivery (happenings.Turn v)
    delivery = elim in_course [ inl so ↦ so | inr create ↦ (let message : is_create v.input ≡ false = ap is_create came.is in let yes = create.1 in absurd (cc (message, yes))) ]
      where
        in_course : IsInCourse (happenings.Turn v)
        in_course = subst IsInCourse turn (elim (split_at IsInCourse c.before (happenings.Turn c.call) c.during hs h rest (is ∙ sym c.is) u.course) [
          | inl old ↦ absurd (asked_before old.0 old.1)
          | inr (inl call) ↦ absurd (is_no_call call)
          | inr (inr so) ↦ so
        ])

    taken : (x : Packet) × MayCome f v.node (record { from = q; to = b; scn = came.scn; kind = kind }) (record { number = delivery.1; again = false }) x
    taken = subst₂ (λ i o. Comes f k v.node i o) came.is delivery.2 may.comes

    delivered_after : packet_at (f_at t (hs ++ h ∷ [])).net delivery.1 ≡ Some (packet taken.0.msg fates.Delivered)
    delivered_after =
        let follows : packet_at (f_at t (hs ++ happenings.Turn v ∷ [])).net delivery.1 ≡ Some (packet taken.0.msg fates.Delivered)
        = subst (λ (g : Facts). packet_at g.net delivery.1 ≡ Some (packet taken.0.msg fates.Delivered)) (sym (one_on t hs (happenings.Turn v))) (turn_delivers t.places t.commands f v delivery.1 taken.0 delivery.2 taken.1.sent (taken.1.once refl)) in
        subst (λ (y : Happening). packet_at (f_at t (hs ++ y ∷ [])).net delivery.1 ≡ Some (packet taken.0.msg fates.Delivered)) (sym turn) follows

    -- it was in flight, and is delivered after the turn
    pub arrives : (x : IsSentSo f q b) × (x.sent.fate ≡ fates.InFlight) × (packet_at (f_at t (hs ++ h ∷ [])).net x.number ≡ Some (packet x.sent.msg fates.Delivered))
    arrives = (
      record {
        number = delivery.1;
        sent = taken.0;
        there = taken.1.sent;
        is_from = ap (λ (m : Msg). m.from) taken.1.same;
        is_to = ap (λ (m : Msg). m.to) taken.1.same;
        asks = ap (λ (m : Msg). is_prepare m.kind) taken.1.same ∙ prepare;
      },
      taken.1.once refl,
      delivered_after,
    )

  -- Prepare that came in an earlier turn is delivered
  module _ (hs : List Happening) (part : Part t whole hs) (q b : BranchId) (tree : InTree t c q) (got : GotPrepare hs q b) where
    abbrev pre : List Happening
    pre = got.came.before

    abbrev w : Turn
    w = got.came.turn

    abbrev back : List Happening
    back = got.came.later ++ part.rest

    place : pre ++ happenings.Turn w ∷ back ≡ t.trace
    place = sym (append_assoc pre (happenings.Turn w ∷ got.came.later) part.rest) ∙ (ap (λ xs. xs ++ part.rest) got.came.is ∙ part.is)

    may_w : MayHappen t.places t.commands (f_at t pre) (happenings.Turn w)
    may_w = may_of t whole pre (happenings.Turn w) back place

    came_w : Came w.input got.message.from got.message.to got.message.kind
    came_w = record { scn = got.message.scn; is = got.came.input }

    first : (x : IsSentSo (f_at t pre) got.message.from got.message.to) × (x.sent.fate ≡ fates.InFlight) × (packet_at (f_at t (pre ++ happenings.Turn w ∷ [])).net x.number ≡ Some (packet x.sent.msg fates.Delivered))
    first = arrives pre (happenings.Turn w) back place w refl may_w.0 may_w.1 got.message.from got.message.to got.message.kind came_w got.asks (tree.0, tree.1, (tree.2 ∙ sym got.is_from), tree.3)

    f_is : f_at t hs ≡ facts_of t.places t.commands (f_at t (pre ++ happenings.Turn w ∷ [])) got.came.later
    f_is = ap (f_at t) (sym (append_assoc pre (happenings.Turn w ∷ []) got.came.later ∙ got.came.is)) ∙ facts_join t.places t.commands (first_facts t.places) (pre ++ happenings.Turn w ∷ []) got.came.later

    stays_there : packet_at (f_at t hs).net first.0.number ≡ Some (packet first.0.sent.msg fates.Delivered)
    stays_there =
        subst (λ (g : Facts). packet_at g.net first.0.number ≡ Some (packet first.0.sent.msg fates.Delivered)) (sym f_is)
        (stays_delivered t.places t.commands (f_at t (pre ++ happenings.Turn w ∷ [])) got.came.later first.0.number (packet first.0.sent.msg fates.Delivered) first.2 refl)

    got_delivered : (x : IsSentSo (f_at t hs) q b) × (x.sent.fate ≡ fates.Delivered)
    got_delivered = (
      record { number = first.0.number; sent = packet first.0.sent.msg fates.Delivered; there = stays_there; is_from = first.0.is_from ∙ got.is_from; is_to = first.0.is_to ∙ got.is_to; asks = first.0.asks },
      refl,
    )

  -- so it does not come a second time
  pub comes_once : (hs : List Happening) (h : Happening) (rest : List Happening) → hs ++ h ∷ rest ≡ t.trace → (v : Turn) → h ≡ happenings.Turn v → (k : NodeState) → MayTurn t.places (f_at t hs) v k
      → (q b : BranchId) (kind : Kind) → Came v.input q b kind → is_prepare kind ≡ true → InTree t c q → GotPrepare hs q b → ⊥
  comes_once hs h rest is v turn k may q b kind came prepare tree got =
      let part : Part t whole hs = part_of t whole hs h rest is in
      let old = got_delivered hs part q b tree got in
      let new = arrives hs h rest is v turn k may q b kind came prepare tree in
      let same_one : old.0.sent ≡ new.0.sent
      = one_number q b (f_at t hs).net.packets old.0.number new.0.number old.0.sent new.0.sent old.0.there new.0.there (ask_so q b old.0.sent old.0.is_from old.0.is_to old.0.asks) (ask_so q b new.0.sent new.0.is_from new.0.is_to new.0.asks)
      (prepares_are_sent_once (so_far t hs) (part_lawful t whole hs part) q b) in
      let fate : old.0.sent.fate ≡ fates.InFlight = ap (λ (x : Packet). x.fate) same_one ∙ new.1 in
      let came_old : old.0.sent.fate ≡ fates.Delivered = old.1 in
      absurd (cc (fate, came_old))
