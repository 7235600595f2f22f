-- The forest of branches that began and of the Prepares that they sent: each branch but the site has a neighbour that is nearer.
use Rattle.std.proofs.Common.{◌≡◌, ◌≢◌, ℕ, zero, suc, ◌+◌, ◌-◌, ◌<◌, ◌≤◌, ◌&&◌, ◌||◌, Bool, true, false, if◌then◌else◌, List, [], ◌∷◌, unwrap_or, Option, Some, None, refl, sym, ap, subst, ◌∙◌, arith}
use Rattle.std.specs.List.{AllByRecursion}
use Rattle.std.proofs.lemmas.Bool.{or_right}
use Rattle.tran_ids.proofs.BranchLemmas.{same_from_equal}
use Rattle.tran_ids.proofs.ListedLemmas.{item_is}
use Rattle.node_rules.specs.Data.{BranchId, Post}
use Rattle.node_rules.specs.Words.{same}
use Rattle.agreement.specs.Events.{Forest, IsForest, site_of}
use Rattle.run_rules.specs.Births.{Born, born_id, born_at}
use Rattle.run_base_laws.specs.BirthLaws.{Began, IsChild, StandsBelow}
use Rattle.run_rules.specs.Trail.{is_prepare}
use Rattle.run_base_laws.specs.FreezeLaws.{was_asked}
use Rattle.run_branch_laws.specs.WalkLaws.{is_below, was_sent, OneWay}
use Rattle.run_base_laws.proofs.OwnLemmas.{all_found}
use Rattle.tree_laws.specs.AskLaws.{GoesDown}
use Rattle.tree_laws.specs.Forests.{parent_in, root_in, depth_in, depth_at, deepest, told_below, next_on, walk_from, comes_to, asked_by, is_member, toward_by, far_by, site_from, forest_by}
use Rattle.tree_laws.proofs.AskLemmas.{sent_wider, below_asks}

-- ---- who was told that the walk comes there

told_first : (p q r rest : Bool) → (p && r) ≡ true → q ≡ true → (((p && q) && r) || rest) ≡ true
told_first true true true rest one two = refl
told_first true false r rest one two = absurd cc
told_first true true false rest one two = absurd cc
told_first false q r rest one two = absurd cc

told_none : (p q r rest : Bool) → (p && r) ≡ false → rest ≡ false → (((p && q) && r) || rest) ≡ false
told_none true true true rest one two = absurd cc
told_none true true false rest one two = two
told_none true false r rest one two = two
told_none false q r rest one two = two

-- the child that is found was told so
pub told_sent : (ms : List Post) (p d : BranchId) → told_below ms p ≡ Some d → was_sent is_below ms p d ≡ true
told_sent [] p d is = absurd cc
told_sent (m ∷ ms) p d is = by (same m.from p && is_below m.kind) refl is (told_sent ms p d)
  where
    by : (q : Bool) → (same m.from p && is_below m.kind) ≡ q → (if q then Some m.to else told_below ms p) ≡ Some d → (told_below ms p ≡ Some d → was_sent is_below ms p d ≡ true) → was_sent is_below (m ∷ ms) p d ≡ true
    by true here it later =
        let first : Some m.to ≡ Some d = it in
        let to : m.to ≡ d = cc in
        told_first (same m.from p) (same m.to d) (is_below m.kind) (was_sent is_below ms p d) here (same_from_equal m.to d to)
    by false here it later = or_right ((same m.from p && same m.to d) && is_below m.kind) (was_sent is_below ms p d) (later it)

-- where none is found nobody was told so
none_sent : (ms : List Post) (p c : BranchId) → told_below ms p ≡ None → was_sent is_below ms p c ≡ false
none_sent [] p c none = refl
none_sent (m ∷ ms) p c none = by (same m.from p && is_below m.kind) refl none (none_sent ms p c)
  where
    by : (q : Bool) → (same m.from p && is_below m.kind) ≡ q → (if q then Some m.to else told_below ms p) ≡ None → (told_below ms p ≡ None → was_sent is_below ms p c ≡ false) → was_sent is_below (m ∷ ms) p c ≡ false
    by true here it later = absurd cc
    by false here it later = told_none (same m.from p) (same m.to c) (is_below m.kind) (was_sent is_below ms p c) here (later it)

-- ---- depths

deep_each : (xs : List Born) (n : ℕ) → deepest xs ≤ n → AllByRecursion (λ x. x.depth ≤ n) xs
deep_each [] n low = tt
deep_each (x ∷ xs) n low = (omega (arith, low), deep_each xs n (omega (arith, low)))

same_low : (a : ℕ) → a ≤ a
same_low a = omega arith

below_too : (a b c : ℕ) → b ≡ a + 1 → b ≤ c → a ≤ c
below_too a b c step low = omega (arith, step, low)

module _ (bs : List Born) (said : List Post) where
  -- What is known of the branches and the Prepares.
  pub record Known : Type 0 where
    pub trees : AllByRecursion (λ x. StandsBelow (Began bs) x x.parent) bs
    pub child : (p c : BranchId) → was_asked said p c ≡ true → IsChild (Began bs) c p
    pub asks : GoesDown is_prepare bs said
    pub walk : GoesDown is_below bs said
    pub one : OneWay said

  module _ (known : Known) where
    -- ---- branches that began

    pub same_born : (x y : Born) → Began bs x → Began bs y → x.me ≡ y.me → x ≡ y
    same_born x y one two me =
        let at : born_at bs y.me ≡ Some x = subst (λ b. born_at bs b ≡ Some x) me one in
        let it : Some x ≡ Some y = sym at ∙ two in
        cc

    at_me : (x : Born) (b : BranchId) → Began bs x → x.me ≡ b → born_at bs b ≡ Some x
    at_me x b began me = subst (λ c. born_at bs c ≡ Some x) me began

    stands : (x : Born) → Began bs x → StandsBelow (Began bs) x x.parent
    stands x began = all_found (λ y. StandsBelow (Began bs) y y.parent) born_id bs x.me x known.trees began

    pub stands_so : (x : Born) (o : Option BranchId) → Began bs x → x.parent ≡ o → StandsBelow (Began bs) x o
    stands_so x o began is = subst (StandsBelow (Began bs) x) is (stands x began)

    -- a branch below another
    pub record Below (x : Born) (q : BranchId) : Type 0 where
      pub up : Born
      pub began : Began bs up
      pub is_me : up.me ≡ q
      pub is_root : up.root ≡ x.root
      pub deeper : up.depth + 1 ≡ x.depth

    pub below_of : (x : Born) (q : BranchId) → Began bs x → x.parent ≡ Some q → Below x q
    below_of x q began is = let s = stands_so x (Some q) began is in record { up = s.0; began = s.1; is_me = s.2; is_root = s.3; deeper = s.4 }

    child_born_so : (p c : BranchId) → was_asked said p c ≡ true → (x : Born) × Began bs x × (x.me ≡ c) × (x.parent ≡ Some p)
    child_born_so p c asked = known.child p c asked

    low : (x : Born) → Began bs x → x.depth ≤ deepest bs
    low x began = all_found (λ y. y.depth ≤ deepest bs) born_id bs x.me x (deep_each bs (deepest bs) (omega arith)) began

    pub high : (x : Born) → Began bs x → 1 ≤ x.depth
    high x began = by x.parent refl
      where
        by : (o : Option BranchId) → x.parent ≡ o → 1 ≤ x.depth
        by None is = let s = stands_so x None began is in let at : x.depth ≡ 1 = s.1 in omega (arith, at)
        by (Some q) is = let b : Below x q = below_of x q began is in omega (arith, b.deeper)

    depth_me : (x : Born) (b : BranchId) → Began bs x → x.me ≡ b → depth_at bs b ≡ x.depth
    depth_me x b began me = ap depth_in (at_me x b began me)

    -- ---- the walk

    next_sent : (p c : BranchId) → was_sent is_below said p c ≡ true → told_below said p ≡ Some c
    next_sent p c told = by (told_below said p) refl
      where
        by : (o : Option BranchId) → told_below said p ≡ o → o ≡ Some c
        by None none = let no : was_sent is_below said p c ≡ false = none_sent said p c none in absurd (cc (no, told))
        by (Some d) is = let first : was_sent is_below said p d ≡ true = told_sent said p d is in ap Some ((known.one p d first).1 c told)

    pub next_is : (p c : BranchId) → was_sent is_below said p c ≡ true → next_on said p ≡ c
    next_is p c told = ap (λ o. unwrap_or o p) (next_sent p c told)

    pub told_child : (p c : BranchId) → was_sent is_below said p c ≡ true → IsChild (Began bs) c p
    told_child p c told = known.child p c (sent_wider is_below is_prepare below_asks said p c told)

    -- a child that the walk goes to is one deeper
    pub deeper_by_one : (p c : BranchId) → was_sent is_below said p c ≡ true → depth_at bs c ≡ depth_at bs p + 1
    deeper_by_one p c told =
        let is = told_child p c told in
        let b : Below is.0 p = below_of is.0 p is.1 is.3 in
        let one : depth_at bs c ≡ is.0.depth = depth_me is.0 c is.1 is.2 in
        let two : depth_at bs p ≡ b.up.depth = depth_me b.up p b.began b.is_me in
        one ∙ (sym b.deeper ∙ ap (λ n. n + 1) (sym two))

    -- the walk goes down
    pub walk_down : (n : ℕ) (b : BranchId) → depth_at bs b ≤ depth_at bs (walk_from said n b)
    walk_down zero b = same_low (depth_at bs b)
    walk_down (suc n) b = by (told_below said b) refl (λ c. walk_down n c)
      where
        by : (o : Option BranchId) → told_below said b ≡ o → ((c : BranchId) → depth_at bs c ≤ depth_at bs (walk_from said n c)) → depth_at bs b ≤ depth_at bs (walk_from said n (unwrap_or o b))
        by None none on = on b
        by (Some c) is on = let step : depth_at bs c ≡ depth_at bs b + 1 = deeper_by_one b c (told_sent said b c is) in below_too (depth_at bs b) (depth_at bs c) _ step (on c)

    -- it stays at its end
    walk_ends : (n : ℕ) (b : BranchId) → told_below said b ≡ None → walk_from said n b ≡ b
    walk_ends zero b none = refl
    walk_ends (suc n) b none = ap (λ o. walk_from said n (unwrap_or o b)) none ∙ walk_ends n b none

    -- a parent of a branch that the walk comes to is one too
    comes_above : (x y : Born) (q : BranchId) → Began bs y → y.me ≡ q → was_sent is_below said q x.me ≡ true → comes_to said y.me y.parent ≡ true
    comes_above x y q began me told = by y.parent refl
      where
        above : (z : Born) × Began bs z × (z.me ≡ q) × ((r : BranchId) → z.parent ≡ Some r → was_sent is_below said r q ≡ true)
        above = known.walk q x.me told

        by : (o : Option BranchId) → y.parent ≡ o → comes_to said y.me o ≡ true
        by None is = refl
        by (Some r) is =
            let it : above.0 ≡ y = same_born above.0 y above.1 began (above.2 ∙ sym me) in
            subst (λ b. was_sent is_below said r b ≡ true) (sym me) (above.3 r (ap (λ (z : Born). z.parent) it ∙ is))

    -- the walk from the root comes to each branch at this depth that was told so
    abbrev Reached : ℕ → Type 0
    Reached i = (x : Born) → Began bs x → x.depth ≡ suc i → comes_to said x.me x.parent ≡ true → (n : ℕ) → walk_from said (i + n) x.root ≡ walk_from said n x.me

    reach_first : Reached 0
    reach_first x began depth comes n = let number : n ≡ 0 + n = omega arith in subst (λ m. walk_from said m x.root ≡ walk_from said n x.me) number (by x.parent refl)
      where
        by : (o : Option BranchId) → x.parent ≡ o → walk_from said n x.root ≡ walk_from said n x.me
        by None is = ap (walk_from said n) (stands_so x None began is).0
        by (Some q) is =
            let b : Below x q = below_of x q began is in
            let up : 1 ≤ b.up.depth = high b.up b.began in
            absurd (omega (arith, up, b.deeper, depth))

    reach_next : (j : ℕ) → Reached j → Reached (suc j)
    reach_next j before x began depth comes n = by x.parent refl comes
      where
        by : (o : Option BranchId) → x.parent ≡ o → comes_to said x.me o ≡ true → walk_from said (suc j + n) x.root ≡ walk_from said n x.me
        by None is told = let one : x.depth ≡ 1 = (stands_so x None began is).1 in absurd (omega (arith, one, depth))
        by (Some q) is told =
            let b : Below x q = below_of x q began is in
            let depth_up : b.up.depth ≡ suc j = omega (arith, b.deeper, depth) in
            let above : walk_from said (j + suc n) b.up.root ≡ walk_from said (suc n) b.up.me = before b.up b.began depth_up (comes_above x b.up q b.began b.is_me told) (suc n) in
            let step : next_on said b.up.me ≡ x.me = next_is b.up.me x.me (subst (λ m. was_sent is_below said m x.me ≡ true) (sym b.is_me) told) in
            let number : j + suc n ≡ suc j + n = omega arith in
            subst (λ m. walk_from said m x.root ≡ walk_from said n x.me) number
            (subst (λ r. walk_from said (j + suc n) r ≡ walk_from said n x.me) b.is_root (above ∙ ap (walk_from said n) step))

    reach : (i : ℕ) → Reached i
    reach zero = reach_first
    reach (suc j) = reach_next j (reach j)

    -- so the site is where the walk ends from there on
    pub site_below : (x : Born) → Began bs x → comes_to said x.me x.parent ≡ true → (n : ℕ) × (site_from bs said x.root ≡ walk_from said (suc n) x.me)
    site_below x began comes =
        let one : 1 ≤ x.depth = high x began in
        let all : x.depth ≤ deepest bs = low x began in
        let depth : x.depth ≡ suc (x.depth - 1) = omega (arith, one) in
        let number : (x.depth - 1) + suc (deepest bs - x.depth) ≡ deepest bs = omega (arith, one, all) in
        (deepest bs - x.depth, subst (λ m. walk_from said m x.root ≡ walk_from said (suc (deepest bs - x.depth)) x.me) number (reach (x.depth - 1) x began depth comes (suc (deepest bs - x.depth))))

    -- ---- the forest

    abbrev p : Forest
    p = forest_by bs said

    -- a member, as it began
    pub record Member (b : BranchId) : Type 0 where
      pub born : Born
      pub began : Began bs born
      pub is_me : born.me ≡ b
      pub asked : asked_by said b born.parent ≡ true

    pub member_is : (b : BranchId) → p.member b ≡ true → Member b
    member_is b is = by (born_at bs b) refl is
      where
        by : (o : Option Born) → born_at bs b ≡ o → is_member said b o ≡ true → Member b
        by None at it = absurd cc
        by (Some x) at it = let me : x.me ≡ b = item_is born_id bs b x at in record { born = x; began = subst (λ c. born_at bs c ≡ Some x) (sym me) at; is_me = me; asked = it }

    -- one that began and was asked is a member
    pub member_of : (x : Born) (b : BranchId) → Began bs x → x.me ≡ b → asked_by said b x.parent ≡ true → p.member b ≡ true
    member_of x b began me asked = ap (is_member said b) (at_me x b began me) ∙ asked

    -- one that asked is a member
    asker_member : (q c : BranchId) → was_asked said q c ≡ true → p.member q ≡ true
    asker_member q c asked =
        let above = known.asks q c asked in
        member_of above.0 q above.1 above.2 (by above.0 above.0.parent refl above.3)
      where
        by : (x : Born) (o : Option BranchId) → x.parent ≡ o → ((r : BranchId) → x.parent ≡ Some r → was_sent is_prepare said r q ≡ true) → asked_by said q o ≡ true
        by x None is each = refl
        by x (Some r) is each = each r is

    -- one that was asked is one
    asked_member : (q c : BranchId) → was_asked said q c ≡ true → p.member c ≡ true
    asked_member q c asked = let is = known.child q c asked in member_of is.0 c is.1 is.2 (ap (asked_by said c) is.3 ∙ asked)

    -- ---- the edges of the forest

    pub site_is : (x : Born) (b : BranchId) → Began bs x → x.me ≡ b → site_of p b ≡ site_from bs said x.root
    site_is x b began me = ap (λ o. site_from bs said (root_in b o)) (at_me x b began me)

    pub root_is : (x : Born) (b : BranchId) → Began bs x → x.me ≡ b → p.root b ≡ x.root
    root_is x b began me = ap (root_in b) (at_me x b began me)

    pub toward_is : (x : Born) (b : BranchId) → Began bs x → x.me ≡ b → p.toward b ≡ toward_by said b x.parent
    toward_is x b began me = ap (λ o. toward_by said b (parent_in o)) (at_me x b began me)

    far_is : (x : Born) (b : BranchId) → Began bs x → x.me ≡ b → p.far b ≡ far_by (comes_to said b x.parent) (depth_at bs (site_from bs said x.root)) x.depth
    far_is x b began me =
        ap (λ o. far_by (comes_to said b (parent_in o)) (depth_at bs (site_from bs said (root_in b o))) (depth_at bs b)) (at_me x b began me)
        ∙ ap (far_by (comes_to said b x.parent) (depth_at bs (site_from bs said x.root))) (depth_me x b began me)

    -- What an edge toward the site has.
    pub record Edge (b q : BranchId) : Type 0 where
      pub member : p.member q ≡ true
      pub of_one : p.root q ≡ p.root b
      pub nearer : p.far q < p.far b

    -- off the walk to the parent
    up_edge : (x : Born) (b q : BranchId) → Began bs x → x.me ≡ b → x.parent ≡ Some q → was_asked said q b ≡ true → was_sent is_below said q b ≡ false → Edge b q
    up_edge x b q began me above asked off =
        let up : Below x q = below_of x q began above in
        let site : ℕ = depth_at bs (site_from bs said x.root) in
        let far_b : p.far b ≡ site + x.depth + 1 = far_is x b began me ∙ ap (λ w. far_by w site x.depth) (ap (comes_to said b) above ∙ off) in
        let far_q : p.far q ≡ far_by (comes_to said q up.up.parent) site up.up.depth = far_is up.up q up.began up.is_me ∙ ap (λ r. far_by (comes_to said q up.up.parent) (depth_at bs (site_from bs said r)) up.up.depth) up.is_root in
        record {
          member = asker_member q b asked;
          of_one = root_is up.up q up.began up.is_me ∙ (up.is_root ∙ sym (root_is x b began me));
          nearer = less site up.up.depth x.depth (comes_to said q up.up.parent) (p.far q) (p.far b) far_q far_b up.deeper;
        }
      where
        less : (site up down : ℕ) (w : Bool) (far_q far_b : ℕ) → far_q ≡ far_by w site up → far_b ≡ site + down + 1 → up + 1 ≡ down → far_q < far_b
        less site up down true far_q far_b one two deeper = let near : far_q ≡ site - up = one in omega (arith, near, two, deeper)
        less site up down false far_q far_b one two deeper = let near : far_q ≡ site + up + 1 = one in omega (arith, near, two, deeper)

    -- on the walk to the child that was told so
    down_edge : (x : Born) (b c : BranchId) → Began bs x → x.me ≡ b → comes_to said b x.parent ≡ true → was_sent is_below said b c ≡ true → Edge b c
    down_edge x b c began me comes told =
        let asked : was_asked said b c ≡ true = sent_wider is_below is_prepare below_asks said b c told in
        let is = known.child b c asked in
        let up : Below is.0 b = below_of is.0 b is.1 is.3 in
        let it : up.up ≡ x = same_born up.up x up.began began (up.is_me ∙ sym me) in
        let root : is.0.root ≡ x.root = sym up.is_root ∙ ap (λ (z : Born). z.root) it in
        let depth : x.depth + 1 ≡ is.0.depth = ap (λ (z : Born). z.depth + 1) (sym it) ∙ up.deeper in
        let way = site_below x began (subst (λ m. comes_to said m x.parent ≡ true) (sym me) comes) in
        let step : next_on said x.me ≡ c = next_is x.me c (subst (λ m. was_sent is_below said m c ≡ true) (sym me) told) in
        let ends : site_from bs said x.root ≡ walk_from said way.0 c = way.1 ∙ ap (walk_from said way.0) step in
        let site : ℕ = depth_at bs (site_from bs said x.root) in
        let deep : is.0.depth ≤ site = subst (λ s. is.0.depth ≤ depth_at bs s) (sym ends) (subst (λ d. d ≤ depth_at bs (walk_from said way.0 c)) (depth_me is.0 c is.1 is.2) (walk_down way.0 c)) in
        let far_b : p.far b ≡ site - x.depth = far_is x b began me ∙ ap (λ w. far_by w site x.depth) comes in
        let far_c : p.far c ≡ site - is.0.depth
        = far_is is.0 c is.1 is.2 ∙ (ap (λ w. far_by w (depth_at bs (site_from bs said is.0.root)) is.0.depth) (ap (comes_to said c) is.3 ∙ told) ∙ ap (λ r. depth_at bs (site_from bs said r) - is.0.depth) root) in
        record {
          member = asked_member b c asked;
          of_one = root_is is.0 c is.1 is.2 ∙ (root ∙ sym (root_is x b began me));
          nearer = fewer site x.depth is.0.depth (p.far c) (p.far b) far_b far_c depth deep;
        }
      where
        fewer : (site up down far_c far_b : ℕ) → far_b ≡ site - up → far_c ≡ site - down → up + 1 ≡ down → down ≤ site → far_c < far_b
        fewer site up down far_c far_b one two deeper deep = omega (arith, one, two, deeper, deep)

    -- at its end the walk is at the site
    pub end_is_site : (x : Born) (b : BranchId) → Began bs x → x.me ≡ b → comes_to said b x.parent ≡ true → told_below said b ≡ None → b ≡ site_of p b
    end_is_site x b began me comes none =
        let way = site_below x began (subst (λ m. comes_to said m x.parent ≡ true) (sym me) comes) in
        sym (site_is x b began me ∙ (way.1 ∙ (ap (walk_from said (suc way.0)) me ∙ walk_ends (suc way.0) b none)))

    -- the next on the walk
    walk_edge : (x : Born) (b : BranchId) → Began bs x → x.me ≡ b → comes_to said b x.parent ≡ true → b ≢ site_of p b → Edge b (next_on said b)
    walk_edge x b began me comes other = by (told_below said b) refl
      where
        by : (o : Option BranchId) → told_below said b ≡ o → Edge b (unwrap_or o b)
        by None none = absurd (other (end_is_site x b began me comes none))
        by (Some c) is = down_edge x b c began me comes (told_sent said b c is)

    toward_edge : (b : BranchId) → p.member b ≡ true → b ≢ site_of p b → Edge b (p.toward b)
    toward_edge b member other =
        let is : Member b = member_is b member in
        subst (Edge b) (sym (toward_is is.born b is.began is.is_me)) (by is is.born.parent refl is.asked)
      where
        way : (is : Member b) (q : BranchId) → is.born.parent ≡ Some q → was_asked said q b ≡ true → (w : Bool) → was_sent is_below said q b ≡ w → Edge b (if w then next_on said b else q)
        way is q above asked true on = walk_edge is.born b is.began is.is_me (ap (comes_to said b) above ∙ on) other
        way is q above asked false off = up_edge is.born b q is.began is.is_me above asked off

        by : (is : Member b) (o : Option BranchId) → is.born.parent ≡ o → asked_by said b o ≡ true → Edge b (toward_by said b o)
        by is None above asked = walk_edge is.born b is.began is.is_me (ap (comes_to said b) above) other
        by is (Some q) above asked = way is q above asked (was_sent is_below said q b) refl

    pub is_forest : IsForest (forest_by bs said)
    is_forest = record {
      inward = λ b member other. (toward_edge b member other).member;
      of_one = λ b member other. (toward_edge b member other).of_one;
      nearer = λ b member other. (toward_edge b member other).nearer;
    }
