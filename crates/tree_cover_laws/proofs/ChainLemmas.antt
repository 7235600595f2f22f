-- The way that Prepares told, from a branch to another: so many steps, each one deeper.
use Rattle.std.proofs.Common.{◌≡◌, ℕ, zero, suc, ◌+◌, ◌≤◌, true, List, unwrap_or, Option, Some, None, refl, sym, ap, subst, ◌∙◌, arith}
use Rattle.node_rules.specs.Data.{BranchId, Post}
use Rattle.run_rules.specs.Births.{Born}
use Rattle.run_base_laws.specs.BirthLaws.{Began}
use Rattle.run_branch_laws.specs.WalkLaws.{is_below, was_sent}
use Rattle.tree_laws.specs.Forests.{depth_in, depth_at, told_below, comes_to}
use Rattle.tree_laws.proofs.ForestLemmas as trees
use Rattle.tree_laws.proofs.ForestLemmas.{Known, told_sent}

module _ (said : List Post) where
  -- The way leads from a branch to another in so many steps.
  pub data Steps : ℕ → BranchId → BranchId → Type 0 where
    Arrives : (b : BranchId) → Steps 0 b b
    Goes : (k : ℕ) (b d c : BranchId) → told_below said b ≡ Some d → Steps k d c → Steps (suc k) b c

  pub steps_more : (k : ℕ) (b c d : BranchId) → Steps k b c → told_below said c ≡ Some d → Steps (suc k) b d
  steps_more k b c d (Arrives _) told = Goes 0 b d d told (Arrives d)
  steps_more k b c d (Goes j _ e _ on rest) told = Goes (suc j) b e d on (steps_more j e c d rest told)

  module _ (bs : List Born) (known : Known bs said) where
    pub steps_deeper : (k : ℕ) (b c : BranchId) → Steps k b c → depth_at bs c ≡ depth_at bs b + k
    steps_deeper k b c (Arrives _) = omega arith
    steps_deeper k b c (Goes j _ d _ on rest) =
        let one : depth_at bs d ≡ depth_at bs b + 1 = trees.deeper_by_one bs said known b d (told_sent said b d on) in
        let more : depth_at bs c ≡ depth_at bs d + j = steps_deeper j d c rest in
        omega (arith, one, more)

    -- who was told is the next one
    pub sent_told : (q c : BranchId) → was_sent is_below said q c ≡ true → told_below said q ≡ Some c
    sent_told q c sent = by (told_below said q) refl
      where
        next : unwrap_or (told_below said q) q ≡ c
        next = trees.next_is bs said known q c sent

        by : (o : Option BranchId) → told_below said q ≡ o → o ≡ Some c
        by None told =
            let it : q ≡ c = ap (λ o. unwrap_or o q) (sym told) ∙ next in
            let deep : depth_at bs c ≡ depth_at bs q + 1 = trees.deeper_by_one bs said known q c sent in
            let level : depth_at bs q ≡ depth_at bs c = ap (depth_at bs) it in
            absurd (omega (arith, deep, level))
        by (Some d) told = ap Some (ap (λ o. unwrap_or o q) (sym told) ∙ next)

    abbrev pub StepsTo : BranchId → BranchId → Type 0
    StepsTo r c = (k : ℕ) × Steps k r c × (depth_at bs c ≡ suc k)

    -- the way from the root leads to it
    steps_by : (n : ℕ) (z : Born) → Began bs z → z.depth ≤ n → comes_to said z.me z.parent ≡ true → StepsTo z.root z.me
    steps_by zero z began low comes = (let high : 1 ≤ z.depth = trees.high bs said known z began in absurd (omega (arith, low, high)))
    steps_by (suc n) z began low comes = by z.parent refl comes (λ y its less on. steps_by n y its less on)
      where
        depth_of : (y : Born) → Began bs y → depth_at bs y.me ≡ y.depth
        depth_of y its = ap (λ o. depth_in o) its

        comes_up : (y : Born) (o : Option BranchId) → y.parent ≡ o → ((p : BranchId) → y.parent ≡ Some p → was_sent is_below said p y.me ≡ true) → comes_to said y.me o ≡ true
        comes_up y None its each = refl
        comes_up y (Some p) its each = each p its

        by : (o : Option BranchId) → z.parent ≡ o → comes_to said z.me o ≡ true → ((y : Born) → Began bs y → y.depth ≤ n → comes_to said y.me y.parent ≡ true → StepsTo y.root y.me) → StepsTo z.root z.me
        by None none comes above =
            let stands = trees.stands_so bs said known z None began none in
            (0, subst (λ c. Steps 0 c z.me) (sym stands.0) (Arrives z.me), depth_of z began ∙ stands.1)
        by (Some q) is sent above =
            let up = trees.below_of bs said known z q began is in
            let heard = known.walk q z.me sent in
            let one : heard.0 ≡ up.up = trees.same_born bs said known heard.0 up.up heard.1 up.began (heard.2 ∙ sym up.is_me) in
            let on : comes_to said up.up.me up.up.parent ≡ true = comes_up up.up up.up.parent refl (λ p its. subst (λ c. was_sent is_below said p c ≡ true) (sym up.is_me) (heard.3 p (ap (λ (y : Born). y.parent) one ∙ its))) in
            let it = above up.up up.began (omega (arith, low, up.deeper)) on in
            let told : told_below said up.up.me ≡ Some z.me = sent_told up.up.me z.me (subst (λ p. was_sent is_below said p z.me ≡ true) (sym up.is_me) sent) in
            let up_depth : depth_at bs up.up.me ≡ up.up.depth = depth_of up.up up.began in
            (suc it.0, subst (λ c. Steps (suc it.0) c z.me) up.is_root (steps_more it.0 up.up.root up.up.me z.me it.1 told), (let mine : depth_at bs z.me ≡ z.depth = depth_of z began in omega (arith, mine, up.deeper, up_depth, it.2)))

    pub comes_steps : (c : BranchId) (z : Born) → Began bs z → z.me ≡ c → comes_to said c z.parent ≡ true → StepsTo z.root c
    comes_steps c z began me comes = subst (StepsTo z.root) me (steps_by z.depth z began (omega arith) (subst (λ d. comes_to said d z.parent ≡ true) (sym me) comes))
