-- What Prepares tell of the walk: the messages of a branch that asks its children tell one way.
use Rattle.std.proofs.Common.{◌≡◌, ℕ, zero, suc, ◌+◌, ◌&&◌, ◌||◌, not, Bool, true, false, List, [], ◌∷◌, ◌++◌, map, Option, Some, None, inl, inr, refl, sym, ap, subst, ◌∙◌, arith}
use Rattle.std.proofs.lemmas.Bool.{and_parts}
use Rattle.std.proofs.lemmas.Bool.Decides.{nat_tests}
use Rattle.tran_ids.proofs.BranchLemmas.{equal_from_same}
use Rattle.node_rules.specs.Data.{BranchId, Edge, Kind, Post}
use Rattle.node_rules.specs.Data.kinds
use Rattle.node_rules.specs.Words.{same, numbered}
use Rattle.node_rules.specs.Prepare.{prepares, is_place}
use Rattle.run_rules.specs.Trail.{is_prepare}
use Rattle.run_base_laws.specs.FreezeLaws.{was_asked}
use Rattle.run_branch_laws.specs.WalkLaws.{is_below, is_above, was_sent, OneWay}
use Rattle.run_base_laws.proofs.KindSayLemmas.{AllSay}
use Rattle.run_branch_laws.proofs.FreezeLemmas.{IsPlain, any_append, or_false, or_split, and_false}

-- a message that is no Prepare tells no way
plain_kind : (kind : Kind) → is_prepare kind ≡ false → (is_below kind ≡ false) × (is_above kind ≡ false)
plain_kind (kinds.Prepare site_below comment) is = absurd cc
plain_kind _ is = (refl, refl)

plain_below : (p c : BranchId) (says : List Post) → AllSay IsPlain says → was_sent is_below says p c ≡ false
plain_below p c [] all = refl
plain_below p c (m ∷ ms) all = or_false ((same m.from p && same m.to c) && is_below m.kind) (was_sent is_below ms p c) (and_false (same m.from p && same m.to c) (is_below m.kind) (plain_kind m.kind all.0).0) (plain_below p c ms all.1)

plain_above : (p c : BranchId) (says : List Post) → AllSay IsPlain says → was_sent is_above says p c ≡ false
plain_above p c [] all = refl
plain_above p c (m ∷ ms) all = or_false ((same m.from p && same m.to c) && is_above m.kind) (was_sent is_above ms p c) (and_false (same m.from p && same m.to c) (is_above m.kind) (plain_kind m.kind all.0).1) (plain_above p c ms all.1)

module _ (kind : Kind → Bool) (said says : List Post) (p c : BranchId) where
  abbrev test : Post → Bool
  test m = (same m.from p && same m.to c) && kind m.kind

  -- what the new messages do not tell was told before
  told_before : was_sent kind says p c ≡ false → was_sent kind (said ++ says) p c ≡ true → was_sent kind said p c ≡ true
  told_before none is = elim (or_split (was_sent kind said p c) (was_sent kind says p c) (sym (any_append test said says) ∙ is)) [ inl old ↦ old | inr new ↦ absurd (cc (new, none)) ]

  -- and what was not told before is new
  told_now : was_sent kind said p c ≡ false → was_sent kind (said ++ says) p c ≡ true → was_sent kind says p c ≡ true
  told_now none is = elim (or_split (was_sent kind said p c) (was_sent kind says p c) (sym (any_append test said says) ∙ is)) [ inl old ↦ absurd (cc (old, none)) | inr new ↦ new ]

  untold_more : was_sent kind said p c ≡ false → was_sent kind says p c ≡ false → was_sent kind (said ++ says) p c ≡ false
  untold_more first second = any_append test said says ∙ or_false (was_sent kind said p c) (was_sent kind says p c) first second

-- messages that tell no way of this branch leave its walk one
keeps_way : (said says : List Post) (p : BranchId) → ((c : BranchId) → was_sent is_below says p c ≡ false) → ((c : BranchId) → was_sent is_above says p c ≡ false) → OneWay said → (c : BranchId) → was_sent is_below (said ++ says) p c ≡ true
    → (was_sent is_above (said ++ says) p c ≡ false) × ((d : BranchId) → was_sent is_below (said ++ says) p d ≡ true → c ≡ d)
keeps_way said says p below above now c is =
    let old = now p c (told_before is_below said says p c (below c) is) in
    (untold_more is_above said says p c old.0 (above c), (λ d other. old.1 d (told_before is_below said says p d (below d) other)))

pub plain_way : (said says : List Post) → AllSay IsPlain says → OneWay said → OneWay (said ++ says)
plain_way said says plain now p = keeps_way said says p (λ c. plain_below p c says plain) (λ c. plain_above p c says plain) now

-- ---- the Prepares of a branch

abbrev peer : Edge → BranchId
peer e = e.peer

module _ (me : BranchId) (comment : List ℕ) (path : Option ℕ) where
  -- who is told so is a child, and the walk goes there as that says
  tells : (kind : Kind → Bool) (way : Bool → Bool) → ((q : Bool) → kind (kinds.Prepare q comment) ≡ way q) → (from : ℕ) (es : List Edge) (p c : BranchId) → was_sent kind (prepares me comment path from es) p c ≡ true
      → (same me p ≡ true) × ((j : ℕ) × (numbered (map peer es) (suc j) ≡ Some c) × (way (is_place (from + j) path) ≡ true))
  tells kind way is from [] p c told = absurd cc
  tells kind way is from (e ∷ es) p c told = elim (or_split ((same me p && same e.peer c) && kind (kinds.Prepare (is_place from path) comment)) (was_sent kind (prepares me comment path (from + 1) es) p c) told) [
    | inl here ↦ (let parts = and_parts (same me p && same e.peer c) (kind (kinds.Prepare (is_place from path) comment)) here in
        let both = and_parts (same me p) (same e.peer c) parts.0 in
        let number : from ≡ from + 0 = omega arith in
        (both.0, (zero, ap Some (equal_from_same e.peer c both.1), subst (λ n. way (is_place n path) ≡ true) number (sym (is (is_place from path)) ∙ parts.1))))
    | inr later ↦ (let rest = tells kind way is (from + 1) es p c later in
        let number : (from + 1) + rest.1.0 ≡ from + suc rest.1.0 = omega arith in
        (rest.0, (suc rest.1.0, rest.1.1, subst (λ n. way (is_place n path) ≡ true) number rest.1.2)))
  ]

  place_one : (o : Option ℕ) (i j : ℕ) → is_place i o ≡ true → is_place j o ≡ true → i ≡ j
  place_one None i j first second = absurd cc
  place_one (Some n) i j first second = let one : i ≡ n = grind (arith, nat_tests, first) in let two : j ≡ n = grind (arith, nat_tests, second) in one ∙ sym two

  place_not : (q : Bool) → q ≡ true → not q ≡ true → ⊥
  place_not true is other = absurd cc
  place_not false is other = absurd cc

  module _ (E : BranchId → Option ℕ) (es : List Edge) (kids : (i : ℕ) (c : BranchId) → numbered (map peer es) i ≡ Some c → E c ≡ Some i) where
    abbrev says : List Post
    says = prepares me comment path 1 es

    below_is : (p c : BranchId) → was_sent is_below says p c ≡ true → (same me p ≡ true) × ((j : ℕ) × (numbered (map peer es) (suc j) ≡ Some c) × (is_place (1 + j) path ≡ true))
    below_is p c told = tells is_below (λ q. q) (λ q. refl) 1 es p c told

    above_is : (p c : BranchId) → was_sent is_above says p c ≡ true → (same me p ≡ true) × ((j : ℕ) × (numbered (map peer es) (suc j) ≡ Some c) × (not (is_place (1 + j) path) ≡ true))
    above_is p c told = tells is_above (λ q. not q) (λ q. refl) 1 es p c told

    not_other : (kind : Kind → Bool) (p c : BranchId) → (was_sent kind says p c ≡ true → same me p ≡ true) → same me p ≡ false → was_sent kind says p c ≡ false
    not_other kind p c tells other = by (was_sent kind says p c) refl
      where
        by : (q : Bool) → was_sent kind says p c ≡ q → q ≡ false
        by false is = refl
        by true is = let here : same me p ≡ true = tells is in absurd (cc (here, other))

    same_number : (i j : ℕ) (c : BranchId) → numbered (map peer es) (suc i) ≡ Some c → numbered (map peer es) (suc j) ≡ Some c → i ≡ j
    same_number i j c first second = let it : Some (suc i) ≡ Some (suc j) = sym (kids (suc i) c first) ∙ kids (suc j) c second in let here : suc i ≡ suc j = cc in omega (arith, here)

    -- a child that is told that the walk comes there is told nothing else
    not_both : (p c : BranchId) → was_sent is_below says p c ≡ true → (q : Bool) → was_sent is_above says p c ≡ q → q ≡ false
    not_both p c told false is = refl
    not_both p c told true is =
        let below = below_is p c told in
        let above = above_is p c is in
        let here : above.1.0 ≡ below.1.0 = same_number above.1.0 below.1.0 c above.1.1 below.1.1 in
        absurd (place_not (is_place (1 + below.1.0) path) below.1.2 (subst (λ j. not (is_place (1 + j) path) ≡ true) here above.1.2))

    one_child : (p c d : BranchId) → was_sent is_below says p c ≡ true → was_sent is_below says p d ≡ true → c ≡ d
    one_child p c d first second =
        let one = below_is p c first in
        let two = below_is p d second in
        let place : 1 + one.1.0 ≡ 1 + two.1.0 = place_one path (1 + one.1.0) (1 + two.1.0) one.1.2 two.1.2 in
        let number : suc one.1.0 ≡ suc two.1.0 = omega (arith, place) in
        let it : Some c ≡ Some d = sym one.1.1 ∙ subst (λ n. numbered (map peer es) n ≡ Some d) (sym number) two.1.1 in
        cc

    module _ (said : List Post) (below_none : (c : BranchId) → was_sent is_below said me c ≡ false) (above_none : (c : BranchId) → was_sent is_above said me c ≡ false) where
      own_way : (p c : BranchId) → me ≡ p → was_sent is_below (said ++ says) p c ≡ true → (was_sent is_above (said ++ says) p c ≡ false) × ((d : BranchId) → was_sent is_below (said ++ says) p d ≡ true → c ≡ d)
      own_way p c here told =
          let none : (d : BranchId) → was_sent is_below said p d ≡ false = λ d. subst (λ b. was_sent is_below said b d ≡ false) here (below_none d) in
          let new : was_sent is_below says p c ≡ true = told_now is_below said says p c (none c) told in (
            untold_more is_above said says p c (subst (λ b. was_sent is_above said b c ≡ false) here (above_none c)) (not_both p c new (was_sent is_above says p c) refl),
            (λ d other. one_child p c d new (told_now is_below said says p d (none d) other)),
          )

      -- a branch that asked nobody before tells one way
      pub asks_way : OneWay said → OneWay (said ++ says)
      asks_way now p c told = by (same me p) refl
        where
          by : (q : Bool) → same me p ≡ q → (was_sent is_above (said ++ says) p c ≡ false) × ((d : BranchId) → was_sent is_below (said ++ says) p d ≡ true → c ≡ d)
          by true is = own_way p c (equal_from_same me p is) told
          by false is = keeps_way said says p (λ d. not_other is_below p d (λ it. (below_is p d it).0) is) (λ d. not_other is_above p d (λ it. (above_is p d it).0) is) now c told

-- who asked nobody told no way
less : (p q r rest more : Bool) → (r ≡ true → q ≡ true) → ((p && q) || rest) ≡ false → ((rest ≡ false) → more ≡ false) → ((p && r) || more) ≡ false
less true true r rest more weaker none tail = absurd cc
less true false true rest more weaker none tail = let never : false ≡ true = weaker refl in absurd cc
less true false false rest more weaker none tail = tail none
less false q r rest more weaker none tail = tail none

below_asks : (kind : Kind) → is_below kind ≡ true → is_prepare kind ≡ true
below_asks (kinds.Prepare site_below comment) is = refl
below_asks _ is = absurd cc

above_asks : (kind : Kind) → is_above kind ≡ true → is_prepare kind ≡ true
above_asks (kinds.Prepare site_below comment) is = refl
above_asks _ is = absurd cc

pub unasked_way : (kind : Kind → Bool) → ((k : Kind) → kind k ≡ true → is_prepare k ≡ true) → (said : List Post) (p c : BranchId) → was_asked said p c ≡ false → was_sent kind said p c ≡ false
unasked_way kind asks [] p c none = refl
unasked_way kind asks (m ∷ ms) p c none = less (same m.from p && same m.to c) (is_prepare m.kind) (kind m.kind) (was_asked ms p c) (was_sent kind ms p c) (asks m.kind) none (λ rest. unasked_way kind asks ms p c rest)

pub unasked_below : (said : List Post) (p c : BranchId) → was_asked said p c ≡ false → was_sent is_below said p c ≡ false
unasked_below said p c none = unasked_way is_below below_asks said p c none

pub unasked_above : (said : List Post) (p c : BranchId) → was_asked said p c ≡ false → was_sent is_above said p c ≡ false
unasked_above said p c none = unasked_way is_above above_asks said p c none
