-- The live part of a session tree: each branch in it is live, and is the root or a child that a branch in it knows; and what goes from each
-- branch down to its live children holds of all of them.
use Rattle.std.proofs.Common.{◌≡◌, ◌⊎◌, ◌||◌, ℕ, zero, suc, Bool, true, false, List, [], ◌∷◌, ◌++◌, flat_map, Option, Some, None, inl, inr, refl, sym, ap, subst, ◌∙◌}
use Rattle.std.specs.List.{AllByRecursion}
use Rattle.tran_ids.proofs.BranchLemmas.{equal_from_same, same_from_equal}
use Rattle.session_tree.specs.Live.{children_of}
use Rattle.node_rules.specs.Data.{BranchId, Live}
use Rattle.node_rules.specs.Words.{same, numbered}
use Rattle.run_rules.specs.Branches.{is_among}
use Rattle.run_rules.specs.Facts.{Facts}
use Rattle.run_rules.proofs.ListLemmas.{all_weaker}
use Rattle.tree_laws.specs.DecideLaws.{live_in}
use Rattle.back_laws.specs.LiveTree.{with_below, live_down}

-- ---- lists of branches

or_right : (q : Bool) → (q || true) ≡ true
or_right true = refl
or_right false = refl

module _ (c : BranchId) where
  among_parts : (b : BranchId) (bs : List BranchId) → is_among c (b ∷ bs) ≡ true → (b ≡ c) ⊎ (is_among c bs ≡ true)
  among_parts b bs is = by (same b c) refl is
    where
      by : (q : Bool) → same b c ≡ q → (q || is_among c bs) ≡ true → (b ≡ c) ⊎ (is_among c bs ≡ true)
      by true me is = inl (equal_from_same b c me)
      by false other is = inr is

  among_head : (b : BranchId) (bs : List BranchId) → b ≡ c → is_among c (b ∷ bs) ≡ true
  among_head b bs me = ap (λ q. q || is_among c bs) (same_from_equal b c me)

  among_tail : (b : BranchId) (bs : List BranchId) → is_among c bs ≡ true → is_among c (b ∷ bs) ≡ true
  among_tail b bs is = ap (λ q. same b c || q) is ∙ or_right (same b c)

  among_left : (bs ds : List BranchId) → is_among c bs ≡ true → is_among c (bs ++ ds) ≡ true
  among_left [] ds is = absurd cc
  among_left (b ∷ bs) ds is = elim (among_parts b bs is) [ inl me ↦ among_head b (bs ++ ds) me | inr later ↦ among_tail b (bs ++ ds) (among_left bs ds later) ]

  among_right : (bs ds : List BranchId) → is_among c ds ≡ true → is_among c (bs ++ ds) ≡ true
  among_right [] ds is = is
  among_right (b ∷ bs) ds is = among_tail b (bs ++ ds) (among_right bs ds is)

  among_split : (bs ds : List BranchId) → is_among c (bs ++ ds) ≡ true → (is_among c bs ≡ true) ⊎ (is_among c ds ≡ true)
  among_split [] ds is = inr is
  among_split (b ∷ bs) ds is = elim (among_parts b (bs ++ ds) is) [
    | inl me ↦ inl (among_head b bs me)
    | inr later ↦ elim (among_split bs ds later) [ inl one ↦ inl (among_tail b bs one) | inr two ↦ inr two ]
  ]

-- each item of a list has a number
abbrev Has_number : List BranchId → BranchId → Type 0
Has_number bs d = (i : ℕ) × (numbered bs i ≡ Some d)

one_later : (b : BranchId) (bs : List BranchId) (d : BranchId) → Has_number bs d → Has_number (b ∷ bs) d
one_later b bs d (zero, at) = absurd cc
one_later b bs d (suc i, at) = (suc (suc i), at)

all_numbered : (bs : List BranchId) → AllByRecursion (Has_number bs) bs
all_numbered [] = tt
all_numbered (b ∷ bs) = ((suc zero, refl), all_weaker (Has_number bs) (Has_number (b ∷ bs)) (λ d at. one_later b bs d at) bs (all_numbered bs))

-- ---- the tree

module _ (f : Facts) where
  -- A child that a branch of the tree knows.
  pub record Below (tree : List BranchId) (c : BranchId) : Type 0 where
    pub parent : BranchId
    pub in_it : is_among parent tree ≡ true
    pub live : Live
    pub at : live_in f parent ≡ Some live
    pub number : ℕ
    pub there : numbered (children_of live) number ≡ Some c

  -- A live branch of the tree.
  pub record Spot (tree : List BranchId) (root c : BranchId) : Type 0 where
    pub live : Live
    pub at : live_in f c ≡ Some live
    pub way : (c ≡ root) ⊎ Below tree c

  module _ (further : BranchId → List BranchId) (c : BranchId) (known : (d : BranchId) → is_among c (further d) ≡ true → Spot (further d) d c) where
    module _ (b : BranchId) (l : Live) (at : live_in f b ≡ Some l) where
      abbrev whole : List BranchId
      whole = b ∷ flat_map further (children_of l)

      found : (d : BranchId) → Has_number (children_of l) d → ((p : BranchId) → is_among p (further d) ≡ true → is_among p whole ≡ true) → Spot (further d) d c → Spot whole b c
      found d child lift it = record { live = it.live; at = it.at; way = way }
        where
          way : (c ≡ b) ⊎ Below whole c
          way = elim it.way [
            | inl me ↦ inr (record { parent = b; in_it = among_head b b (flat_map further (children_of l)) refl; live = l; at = at; number = child.0; there = child.1 ∙ ap Some (sym me) })
            | inr below ↦ inr (record { parent = below.parent; in_it = lift below.parent below.in_it; live = below.live; at = below.at; number = below.number; there = below.there })
          ]

      down : (ds : List BranchId) → AllByRecursion (Has_number (children_of l)) ds → ((p : BranchId) → is_among p (flat_map further ds) ≡ true → is_among p whole ≡ true) → is_among c (flat_map further ds) ≡ true → Spot whole b c
      down [] all lift is = absurd cc
      down (d ∷ ds) all lift is = elim (among_split c (further d) (flat_map further ds) is) [
        | inl here ↦ found d all.0 (λ p there. lift p (among_left p (further d) (flat_map further ds) there)) (known d here)
        | inr later ↦ down ds all.1 (λ p there. lift p (among_right p (further d) (flat_map further ds) there)) later
      ]

      spot_here : is_among c whole ≡ true → Spot whole b c
      spot_here is = elim (among_parts c b (flat_map further (children_of l)) is) [
        | inl me ↦ record { live = l; at = subst (λ d. live_in f d ≡ Some l) me at; way = inl (sym me) }
        | inr later ↦ down (children_of l) (all_numbered (children_of l)) (λ p there. among_tail p b (flat_map further (children_of l)) there) later
      ]

    spot_one : (b : BranchId) (o : Option Live) → live_in f b ≡ o → is_among c (with_below further b o) ≡ true → Spot (with_below further b o) b c
    spot_one b None at is = absurd cc
    spot_one b (Some l) at is = spot_here b l at is

  -- each branch of the tree is so
  pub spot : (levels : ℕ) (b c : BranchId) → is_among c (live_down levels f b) ≡ true → Spot (live_down levels f b) b c
  spot zero b c is = absurd cc
  spot (suc levels) b c is = spot_one (live_down levels f) c (λ d there. spot levels d c there) b (live_in f b) refl is

  -- a root whose tree has a branch is live
  pub root_lives : (levels : ℕ) (b c : BranchId) → is_among c (live_down levels f b) ≡ true → (l : Live) × (live_in f b ≡ Some l)
  root_lives zero b c is = absurd cc
  root_lives (suc levels) b c is = by (live_in f b) refl is
    where
      by : (o : Option Live) → live_in f b ≡ o → is_among c (with_below (live_down levels f) b o) ≡ true → (l : Live) × (live_in f b ≡ Some l)
      by None at is = absurd cc
      by (Some l) at is = (l, at)

  module _ (P : BranchId → Live → Type 0) (goes_down : (p : BranchId) (l : Live) (i : ℕ) (c : BranchId) (y : Live) → live_in f p ≡ Some l → P p l → numbered (children_of l) i ≡ Some c → live_in f c ≡ Some y → P c y) where
    module _ (further : BranchId → List BranchId) (c : BranchId) (y : Live) (there : live_in f c ≡ Some y)
        (known : (d : BranchId) → ((l : Live) → live_in f d ≡ Some l → P d l) → is_among c (further d) ≡ true → P c y) where
      all_one : (b : BranchId) → ((l : Live) → live_in f b ≡ Some l → P b l) → (o : Option Live) → live_in f b ≡ o → is_among c (with_below further b o) ≡ true → P c y
      all_one b so None at is = absurd cc
      all_one b so (Some l) at is = elim (among_parts c b (flat_map further (children_of l)) is) [
        | inl me ↦ subst (λ d. P d y) me (so y (ap (live_in f) me ∙ there))
        | inr later ↦ down (children_of l) (all_numbered (children_of l)) later
      ]
        where
          down : (ds : List BranchId) → AllByRecursion (Has_number (children_of l)) ds → is_among c (flat_map further ds) ≡ true → P c y
          down [] all is = absurd cc
          down (d ∷ ds) all is = elim (among_split c (further d) (flat_map further ds) is) [
            | inl here ↦ known d (λ z at_d. goes_down b l all.0.0 d z at (so l at) all.0.1 at_d) here
            | inr later ↦ down ds all.1 later
          ]

    -- what holds of the root holds of each branch of the tree
    pub all_down : (levels : ℕ) (b : BranchId) → ((l : Live) → live_in f b ≡ Some l → P b l) → (c : BranchId) → is_among c (live_down levels f b) ≡ true → (y : Live) → live_in f c ≡ Some y → P c y
    all_down zero b so c is y there = absurd cc
    all_down (suc levels) b so c is y there = all_one (live_down levels f) c y there (λ d down is. all_down levels d down c is y there) b so (live_in f b) refl is
