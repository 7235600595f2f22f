-- The branches that were asked are in the tree that is told when the COMMIT comes, and the walk there is the way that Prepares tell.
use Rattle.std.proofs.Common.{◌≡◌, ◌≢◌, ℕ, zero, suc, ◌+◌, ◌≤◌, ◌⊎◌, Bool, true, false, if◌then◌else◌, List, [], ◌∷◌, Option, Some, None, inl, inr, refl, sym, ap, subst, subst₂, ◌∙◌, arith}
use Rattle.std.proofs.lemmas.Bool.{or_cases, or_left, or_right}
use Rattle.dtx_values.specs.Limits.{depth_limit}
use Rattle.tran_ids.proofs.BranchLemmas.{same_from_equal, equal_from_same}
use Rattle.session_tree.specs.Live.{children_of}
use Rattle.session_tree.specs.Tree.{step}
use Rattle.session_tree.specs.declared.act.Walk.{Walk}
use Rattle.session_tree.specs.declared.act.Walk.TheVariants as walks
use Rattle.agreement.specs.Events.{Dropped, exit}
use Rattle.node_rules.specs.Data.{BranchId}
use Rattle.node_rules.specs.Words.{same, numbered}
use Rattle.run_rules.specs.Births.{Born, births_of}
use Rattle.run_base_laws.specs.BirthLaws.{Began, LiveIs}
use Rattle.run_rules.specs.Branches.{Trail, is_among, children_at}
use Rattle.run_rules.specs.Data.{Happening}
use Rattle.run_base_laws.specs.FreezeLaws.{was_asked}
use Rattle.run_base_laws.specs.InTurnLaws.{said_in}
use Rattle.run_rules.specs.Lawful.{History, IsLawfulRun}
use Rattle.run_rules.specs.Trail.{is_prepare}
use Rattle.run_rules.specs.Tree as seen
use Rattle.run_rules.specs.Tree.{walk_in}
use Rattle.run_branch_laws.specs.WalkLaws.{is_below, is_above, was_sent}
use Rattle.tree_laws.specs.Forests.{depth_in, depth_at, told_below, comes_to, asked_by}
use Rattle.tree_laws.specs.RecordLaws.{LeadsToward}
use Rattle.tree_laws.proofs.AskLemmas.{sent_wider, below_asks}
use Rattle.tree_laws.proofs.ForestLemmas as trees
use Rattle.tree_laws.proofs.ForestLemmas.{Known, told_sent}
use Rattle.tree_laws.proofs.PrefixLemmas.{so_far, f_at, e_at}
use Rattle.tree_laws.proofs.SettleRunLemmas.{known}
use Rattle.tree_laws.specs.DecideLaws.{SeesTree}
use Rattle.tree_laws.proofs.DecideLemmas.{IsTop}
use Rattle.tree_laws.proofs.FrozenLemmas.{PointsTo}
use Rattle.tree_laws.proofs.MemberLemmas.{BornBelow, IsIn}
use Rattle.tree_laws.proofs.TimeLemmas.{Part, part_lawful, exit_end, born_end}
use Rattle.tree_trail_laws.proofs.MomentLemmas.{tr_at}
use Rattle.tree_cover_laws.proofs.AboveLemmas.{above_of, root_asked}
use Rattle.tree_cover_laws.proofs.ChainLemmas.{Steps, Arrives, Goes, comes_steps, steps_deeper, sent_told}
use Rattle.tree_cover_laws.proofs.ListedLemmas.{Reach, Itself, reach_kid}
use Rattle.tree_cover_laws.proofs.SentLemmas.{sent_then}
use Rattle.tree_cover_laws.proofs.StandLemmas.{placed, unasked}
use Rattle.tree_cover_laws.proofs.StayLemmas.{OnPath, asked_kid, told_kid, tells_on, kid_path, kid_deeper}
use Rattle.tree_cover_laws.proofs.StepLemmas.{HasNext, KidsTold, told_kept_row, told_below_it, kids_seen, step_seen, next_goes}
use Rattle.tree_laws.proofs.AtPart.{at_end}

module _ (t : History) (whole : IsLawfulRun t) (hs0 : List Happening) (part0 : Part t whole hs0) (r : BranchId) (next : HasNext t hs0) (root : OnPath t whole hs0 part0 r r) (top : IsTop t whole r)
    (sees : SeesTree t.places (f_at t hs0) (tr_at t hs0) r) where
  abbrev tr : Trail
  tr = tr_at t hs0

  open at_end t use {said, bs}

  abbrev s0 : History
  s0 = so_far t hs0

  abbrev knows : Known bs said
  knows = known t whole

  abbrev Path : BranchId → Type 0
  Path c = OnPath t whole hs0 part0 r c

  -- ---- who asks

  -- a child of a branch of the tree is one of it
  in_kid : (p : BranchId) → IsIn bs r p → (x : Born) → Began bs x → x.parent ≡ Some p → x.root ≡ r
  in_kid p inside x began above =
      let up = trees.below_of bs said knows x p began above in
      let one : up.up ≡ inside.0 = trees.same_born bs said knows up.up inside.0 up.began inside.1 (up.is_me ∙ sym inside.2) in
      sym up.is_root ∙ (ap (λ (y : Born). y.root) one ∙ inside.3)

  asked_in : (p c : BranchId) → IsIn bs r p → was_asked said p c ≡ true → IsIn bs r c
  asked_in p c inside asked = (let kid = knows.child p c asked in (kid.0, kid.1, kid.2, in_kid p inside kid.0 kid.1 kid.3))

  lawful0 : IsLawfulRun s0
  lawful0 = part_lawful t whole hs0 part0

  knows0 : Known (births_of s0) (said_in (f_at t hs0))
  knows0 = known s0 lawful0

  -- none of them had asked when the COMMIT came
  quiet : (p c : BranchId) → IsIn bs r p → was_asked (said_in (f_at t hs0)) p c ≡ false
  quiet p c inside = by (was_asked (said_in (f_at t hs0)) p c) refl
    where
      by : (w : Bool) → was_asked (said_in (f_at t hs0)) p c ≡ w → w ≡ false
      by false asked = refl
      by true asked =
          let kid = knows0.child p c asked in
          let of_root : kid.0.root ≡ r = in_kid p inside kid.0 (born_end t whole hs0 part0 kid.0 kid.1) kid.3 in
          let it = root_asked (births_of s0) (said_in (f_at t hs0)) knows0 kid.0 p kid.1 kid.3 (subst (λ b. was_asked (said_in (f_at t hs0)) p b ≡ true) (sym kid.2) asked) in
          let no : was_asked (said_in (f_at t hs0)) r it.0 ≡ false = subst (λ b. was_asked (said_in (f_at t hs0)) b it.0 ≡ false) root.is_me (unasked t whole hs0 part0 r root.branch root.stands it.0) in
          let yes : was_asked (said_in (f_at t hs0)) r it.0 ≡ true = subst (λ b. was_asked (said_in (f_at t hs0)) b it.0 ≡ true) of_root it.1 in
          absurd (cc (yes, no))

  abbrev KeptIn : BranchId → Type 0
  KeptIn c = exit (e_at t hs0) c ≢ Some Dropped

  -- who asked later had not been dropped
  asker_kept : (p c : BranchId) → IsIn bs r p → was_asked said p c ≡ true → KeptIn p
  asker_kept p c inside asked dropped =
      let it = sent_then t whole hs0 part0 is_prepare (λ z so. so) p c (quiet p c inside) asked in
      let later : exit (e_at t it.moment) p ≡ Some Dropped = exit_end (so_far t it.moment) (part_lawful t whole it.moment it.part) hs0 (record { rest = it.since.0; is = it.since.1 }) p Dropped dropped in
      let still : exit (e_at t it.moment) p ≡ None = it.live in
      cc (later, still)

  -- ---- the tree

  -- A branch that was asked is on a path from the root that the tree has.
  pub record InPlan (z : Born) : Type 0 where
    pub path : Path z.me
    pub reach : Reach tr z.depth r z.me

  top_in : (z : Born) → Began bs z → z.root ≡ r → z.parent ≡ None → InPlan z
  top_in z began is_root no_parent =
      let stands = trees.stands_so bs said knows z None began no_parent in
      let me : r ≡ z.me = sym is_root ∙ stands.0 in
      record { path = subst Path me root; reach = subst₂ (λ d c. Reach tr d r c) (sym stands.1) me (Itself 0 r) }

  -- what is told of its children
  kids_told : (c : BranchId) (it : Path c) → children_at tr c ≡ children_of it.branch.live
  kids_told c it = subst (λ b. children_at tr b ≡ children_of it.branch.live) it.is_me (kids_seen t whole hs0 part0 r next sees it.branch it.stands)

  step_told : (c : BranchId) (it : Path c) → seen.step t.places tr c ≡ step it.branch.live
  step_told c it = step_seen t whole hs0 part0 r next sees it.branch it.stands c it.is_me

  kid_in : (z up : Born) → up.depth + 1 ≡ z.depth → was_asked said up.me z.me ≡ true → KeptIn z.me → InPlan up → InPlan z
  kid_in z up deeper asked kept_in it =
      let kid = asked_kid t whole hs0 part0 r up.me it.path z.me asked in
      let depth : suc up.depth ≡ z.depth = omega (arith, deeper) in
      record {
        path = kid_path t whole hs0 part0 r up.me it.path z.me asked kept_in;
        reach = subst (λ d. Reach tr d r z.me) depth (reach_kid tr up.depth kid.0 r up.me z.me it.reach (subst (λ ps. numbered ps kid.0 ≡ Some z.me) (sym (kids_told up.me it.path)) kid.1));
      }

  in_plan_by : (m : ℕ) (z : Born) → Began bs z → z.depth ≤ m → z.root ≡ r → asked_by said z.me z.parent ≡ true → KeptIn z.me → InPlan z
  in_plan_by zero z began low is_root asked kept_in = (let high : 1 ≤ z.depth = trees.high bs said knows z began in absurd (omega (arith, low, high)))
  in_plan_by (suc m) z began low is_root asked kept_in = by z.parent refl asked (λ y its less of_root on kept. in_plan_by m y its less of_root on kept)
    where
      by : (o : Option BranchId) → z.parent ≡ o → asked_by said z.me o ≡ true → ((y : Born) → Began bs y → y.depth ≤ m → y.root ≡ r → asked_by said y.me y.parent ≡ true → KeptIn y.me → InPlan y) → InPlan z
      by None no_parent so above = top_in z began is_root no_parent
      by (Some q) is sent above =
          let up = above_of bs said knows z q began is sent in
          let by_up : was_asked said up.up.me z.me ≡ true = subst (λ p. was_asked said p z.me ≡ true) (sym up.is_me) sent in
          let of_root : up.up.root ≡ r = up.is_root ∙ is_root in
          kid_in z up.up up.deeper by_up kept_in (above up.up up.began (omega (arith, low, up.deeper)) of_root up.asked (asker_kept up.up.me z.me (up.up, up.began, refl, of_root) by_up))

  pub in_plan : (z : Born) → Began bs z → z.root ≡ r → asked_by said z.me z.parent ≡ true → KeptIn z.me → InPlan z
  in_plan z began is_root asked kept_in = in_plan_by z.depth z began (omega arith) is_root asked kept_in

  -- it is as it was born
  pub as_born : (z : Born) → Began bs z → (it : Path z.me) → (it.branch.live.parent ≡ z.parent) × (it.branch.live.depth ≡ z.depth)
  as_born z began it =
      let its : LiveIs (Began (births_of s0)) it.branch.live = placed t whole hs0 part0 r it.branch it.stands in
      let one : its.born ≡ z = trees.same_born bs said knows its.born z (born_end t whole hs0 part0 its.born its.began) began (its.is_me ∙ it.is_me) in
      (sym its.is_parent ∙ ap (λ (y : Born). y.parent) one, sym its.is_depth ∙ ap (λ (y : Born). y.depth) one)

  pub not_deep : (z : Born) → Began bs z → Path z.me → z.depth ≤ depth_limit
  not_deep z began it = subst (λ d. d ≤ depth_limit) (as_born z began it).1 it.stands.low

  -- ---- the walk that is told

  abbrev Walked : ℕ → BranchId → List BranchId
  Walked m b = walk_in m t.places tr b

  -- it begins at a branch from which the step leads somewhere
  starts : (m : ℕ) (b : BranchId) → seen.step t.places tr b ≢ walks.Nowhere → (rest : List BranchId) × (Walked (suc m) b ≡ b ∷ rest)
  starts m b goes = by (seen.step t.places tr b) refl
    where
      by : (w : Walk) → seen.step t.places tr b ≡ w → (rest : List BranchId) × (seen.walks_by (walk_in m t.places tr) b (children_at tr b) w ≡ b ∷ rest)
      by walks.Here is = ([], refl)
      by (walks.Down i) is = (seen.goes_down (walk_in m t.places tr) (numbered (children_at tr b) i), refl)
      by walks.Nowhere is = absurd (goes is)

  -- One step, to a child that was told so.
  record OneStep (b d : BranchId) : Type 0 where
    pub on : (m : ℕ) → Walked (suc m) b ≡ b ∷ Walked m d
    pub first : (m : ℕ) → (rest : List BranchId) × (Walked (suc m) d ≡ d ∷ rest)

  asks_next : (b d : BranchId) → told_below said b ≡ Some d → was_asked said b d ≡ true
  asks_next b d told = sent_wider is_below is_prepare below_asks said b d (told_sent said b d told)

  one_step : (b d : BranchId) → Path b → told_below said b ≡ Some d → OneStep b d
  one_step b d it told =
      let down : PointsTo it.branch.live d = told_kid t whole hs0 part0 r b it d (told_sent said b d told) in
      let there : numbered (children_at tr b) down.0 ≡ Some d = subst (λ ps. numbered ps down.0 ≡ Some d) (sym (kids_told b it)) down.2 in
      record {
        on = λ m. ap (λ w. seen.walks_by (walk_in m t.places tr) b (children_at tr b) w) (step_told b it ∙ down.1) ∙ ap (λ o. b ∷ seen.goes_down (walk_in m t.places tr) o) there;
        first = λ m. starts m d (next_goes t whole hs0 part0 r next sees it.branch it.stands d down);
      }

  -- one that is passed was told of the next
  told_on : (j : ℕ) (e c d : BranchId) → Steps said j e c → told_below said c ≡ Some d → (f : BranchId) × (told_below said e ≡ Some f)
  told_on j e c d (Arrives _) told = (d, told)
  told_on j e c d (Goes k _ f _ on rest) told = (f, on)

  abbrev Passes : ℕ → BranchId → BranchId → BranchId → Type 0
  Passes m b c d = (is_among c (Walked m b) ≡ true) × (seen.next_on c (Walked m b) ≡ Some d)

  next_here : (b d : BranchId) (rest : List BranchId) → seen.next_on b (b ∷ d ∷ rest) ≡ Some d
  next_here b d rest = ap (λ q. if q then Some d else seen.next_on b (d ∷ rest)) (same_from_equal b b refl)

  next_later : (b c e : BranchId) (rest : List BranchId) → same b c ≡ false → seen.next_on c (b ∷ e ∷ rest) ≡ seen.next_on c (e ∷ rest)
  next_later b c e rest other = ap (λ q. if q then Some e else seen.next_on c (e ∷ rest)) other

  -- the walk passes the branches that were told so
  passes : (k m : ℕ) (b c d : BranchId) → Steps said k b c → Path b → IsIn bs r b → told_below said c ≡ Some d → suc (suc k) ≤ m → Passes m b c d
  passes k zero b c d steps it inside told low = absurd (omega (arith, low))
  passes k (suc zero) b c d steps it inside told low = absurd (omega (arith, low))
  passes k (suc (suc m)) b c d (Arrives _) it inside told low =
      let one : OneStep b d = one_step b d it told in
      let first = one.first m in
      let all : Walked (suc (suc m)) b ≡ b ∷ d ∷ first.0 = one.on (suc m) ∙ ap (λ ds. b ∷ ds) first.1 in
      subst (λ ds. (is_among b ds ≡ true) × (seen.next_on b ds ≡ Some d)) (sym all) (or_left (same b b) _ (same_from_equal b b refl), next_here b d first.0)
  passes k (suc (suc m)) b c d (Goes j _ e _ on rest) it inside told low =
      let one : OneStep b e = one_step b e it on in
      let asked : was_asked said b e ≡ true = asks_next b e on in
      let its : IsIn bs r e = asked_in b e inside asked in
      let further = told_on j e c d rest told in
      let path : Path e = kid_path t whole hs0 part0 r b it e asked (asker_kept e further.0 its (asks_next e further.0 further.1)) in
      let later : Passes (suc m) e c d = passes j (suc m) e c d rest path its told (omega (arith, low)) in
      let first = one.first m in
      let all : Walked (suc (suc m)) b ≡ b ∷ e ∷ first.0 = one.on (suc m) ∙ ap (λ ds. b ∷ ds) first.1 in
      let so : (is_among c (e ∷ first.0) ≡ true) × (seen.next_on c (e ∷ first.0) ≡ Some d) = subst (λ ds. (is_among c ds ≡ true) × (seen.next_on c ds ≡ Some d)) first.1 later in
      subst (λ ds. (is_among c ds ≡ true) × (seen.next_on c ds ≡ Some d)) (sym all) (or_right (same b c) _ so.0, next_later b c e first.0 (apart (same b c) refl) ∙ so.1)
    where
      apart : (q : Bool) → same b c ≡ q → q ≡ false
      apart false is = refl
      apart true is =
          let deep : depth_at bs c ≡ depth_at bs b + suc j = steps_deeper said bs knows (suc j) b c (Goes j b e c on rest) in
          let level : depth_at bs b ≡ depth_at bs c = ap (depth_at bs) (equal_from_same b c is) in
          absurd (omega (arith, deep, level))

  -- ---- who is on the walk

  -- The step of a branch on the walk leads to this one, which began below it.
  record Led (m : ℕ) (b c : BranchId) : Type 0 where
    pub from : BranchId
    pub among : is_among from (Walked m b) ≡ true
    pub place : ℕ
    pub leads : seen.step t.places tr from ≡ walks.Down place
    pub there : numbered (children_at tr from) place ≡ Some c
    pub below : BornBelow (births_of s0) c from

  abbrev KidsAreTold : BranchId → Type 0
  KidsAreTold b = KidsTold t whole hs0 part0 r next sees b

  -- a branch on the walk is its first, or the step of one before it leads there
  led : (m : ℕ) (b c : BranchId) → KidsAreTold b → is_among c (Walked m b) ≡ true → (c ≡ b) ⊎ Led m b c
  led zero b c kids among = absurd cc
  led (suc m) b c kids among = by (seen.step t.places tr b) refl among (λ d its on. led m d c its on)
    where
      first : same b c ≡ true → (c ≡ b) ⊎ Led (suc m) b c
      first here = inl (sym (equal_from_same b c here))

      down : (i : ℕ) → seen.step t.places tr b ≡ walks.Down i → (o : Option BranchId) → numbered (children_at tr b) i ≡ o → is_among c (seen.goes_down (walk_in m t.places tr) o) ≡ true
          → ((d : BranchId) → KidsAreTold d → is_among c (Walked m d) ≡ true → (c ≡ d) ⊎ Led m d c) → (c ≡ b) ⊎ Led (suc m) b c
      down i is None at on further = absurd cc
      down i is (Some d) at on further =
          let kid = kids i d at in
          let all : Walked (suc m) b ≡ b ∷ Walked m d = ap (λ w. seen.walks_by (walk_in m t.places tr) b (children_at tr b) w) is ∙ ap (λ o. b ∷ seen.goes_down (walk_in m t.places tr) o) at in
          elim (further d (told_below_it t whole hs0 part0 r next sees b d kid) on) [
            | inl here ↦ inr (record {
              from = b;
              among = subst (λ ds. is_among b ds ≡ true) (sym all) (or_left (same b b) _ (same_from_equal b b refl));
              place = i;
              leads = is;
              there = subst (λ e. numbered (children_at tr b) i ≡ Some e) (sym here) at;
              below = subst (λ e. BornBelow (births_of s0) e b) (sym here) kid.2;
            })
            | inr it ↦ inr (record {
              from = it.from;
              among = subst (λ ds. is_among it.from ds ≡ true) (sym all) (or_right (same b it.from) _ it.among);
              place = it.place;
              leads = it.leads;
              there = it.there;
              below = it.below;
            })
          ]

      by : (w : Walk) → seen.step t.places tr b ≡ w → is_among c (seen.walks_by (walk_in m t.places tr) b (children_at tr b) w) ≡ true
          → ((d : BranchId) → KidsAreTold d → is_among c (Walked m d) ≡ true → (c ≡ d) ⊎ Led m d c) → (c ≡ b) ⊎ Led (suc m) b c
      by walks.Here is on further = elim (or_cases (same b c) false on) [ inl here ↦ first here | inr never ↦ absurd cc ]
      by walks.Nowhere is on further = absurd cc
      by (walks.Down i) is on further = elim (or_cases (same b c) (is_among c (seen.goes_down (walk_in m t.places tr) (numbered (children_at tr b) i))) on) [
        | inl here ↦ first here
        | inr rest ↦ down i is (numbered (children_at tr b) i) refl rest further
      ]

  -- one that was asked, and is on the walk from the root, was told that it comes there
  comes_by : (m : ℕ) (z : Born) → Began bs z → z.depth ≤ m → z.root ≡ r → asked_by said z.me z.parent ≡ true → is_among z.me (Walked depth_limit r) ≡ true → comes_to said z.me z.parent ≡ true
  comes_by zero z began low is_root asked among = (let high : 1 ≤ z.depth = trees.high bs said knows z began in absurd (omega (arith, low, high)))
  comes_by (suc m) z began low is_root asked among = by z.parent refl asked (λ y its less of_root on there. comes_by m y its less of_root on there)
    where
      by : (o : Option BranchId) → z.parent ≡ o → asked_by said z.me o ≡ true
          → ((y : Born) → Began bs y → y.depth ≤ m → y.root ≡ r → asked_by said y.me y.parent ≡ true → is_among y.me (Walked depth_limit r) ≡ true → comes_to said y.me y.parent ≡ true) → comes_to said z.me o ≡ true
      by None no_parent so above = refl
      by (Some q) is sent above = elim (led depth_limit r z.me (told_kept_row t whole hs0 part0 r next sees root.branch root.stands r root.is_me) among) [
        | inl here ↦ (let one : z ≡ top.0 = trees.same_born bs said knows z top.0 began top.1 (here ∙ sym top.2) in
            let no : z.parent ≡ None = ap (λ (y : Born). y.parent) one ∙ top.3 in
            absurd (cc (no, is)))
        | inr it ↦ (let one : it.below.born ≡ z = trees.same_born bs said knows it.below.born z (born_end t whole hs0 part0 it.below.born it.below.began) began it.below.is_me in
            let same_up : Some it.from ≡ Some q = sym it.below.is_parent ∙ (ap (λ (y : Born). y.parent) one ∙ is) in
            let me : it.from ≡ q = cc in
            let up = above_of bs said knows z q began is sent in
            let of_root : up.up.root ≡ r = up.is_root ∙ is_root in
            let by_up : was_asked said up.up.me z.me ≡ true = subst (λ p. was_asked said p z.me ≡ true) (sym up.is_me) sent in
            let path : Path up.up.me = (in_plan up.up up.began of_root up.asked (asker_kept up.up.me z.me (up.up, up.began, refl, of_root) by_up)).path in
            let me_up : it.from ≡ up.up.me = me ∙ sym up.is_me in
            let comes : comes_to said up.up.me up.up.parent ≡ true = above up.up up.began (omega (arith, low, up.deeper)) of_root up.asked (subst (λ b. is_among b (Walked depth_limit r) ≡ true) me_up it.among) in
            let points : PointsTo path.branch.live z.me = (
              it.place,
              sym (step_told up.up.me path) ∙ subst (λ b. seen.step t.places tr b ≡ walks.Down it.place) me_up it.leads,
              subst (λ ps. numbered ps it.place ≡ Some z.me) (kids_told up.up.me path) (subst (λ b. numbered (children_at tr b) it.place ≡ Some z.me) me_up it.there),
            ) in
            subst (λ p. was_sent is_below said p z.me ≡ true) up.is_me (tells_on t whole hs0 part0 r up.up.me path up.up up.began refl comes z.me by_up points))
      ]

  -- ---- toward the site

  module _ (z : Born) (began : Began bs z) (is_root : z.root ≡ r) (asked : asked_by said z.me z.parent ≡ true) (kept_in : KeptIn z.me) (q : BranchId) where
    abbrev its : Path z.me
    its = (in_plan z began is_root asked kept_in).path

    on_way : comes_to said z.me z.parent ≡ true → was_sent is_below said z.me q ≡ true → seen.toward_by (Walked depth_limit r) z.me z.parent ≡ Some q
    on_way comes sent =
        let told : told_below said z.me ≡ Some q = sent_told said bs knows z.me q sent in
        let steps = comes_steps said bs knows z.me z began refl comes in
        let mine : depth_at bs z.me ≡ z.depth = ap depth_in began in
        let deep : z.depth + 1 ≤ depth_limit = subst (λ d. d + 1 ≤ depth_limit) (as_born z began its).1 (kid_deeper t whole hs0 part0 r z.me its q (sent_wider is_below is_prepare below_asks said z.me q sent)) in
        let so : Passes depth_limit r z.me q = passes steps.0 depth_limit r z.me q (subst (λ c. Steps said steps.0 c z.me) is_root steps.1) root (top.0, top.1, top.2, top.4) told (omega (arith, mine, deep, steps.2)) in
        ap (λ a. if a then seen.next_on z.me (Walked depth_limit r) else z.parent) so.0 ∙ so.1

    off_way : z.parent ≡ Some q → was_sent is_above said q z.me ≡ true → seen.toward_by (Walked depth_limit r) z.me z.parent ≡ Some q
    off_way above told = by (is_among z.me (Walked depth_limit r)) refl
      where
        by : (a : Bool) → is_among z.me (Walked depth_limit r) ≡ a → (if a then seen.next_on z.me (Walked depth_limit r) else z.parent) ≡ Some q
        by false apart = above
        by true among =
            let comes : comes_to said z.me z.parent ≡ true = comes_by z.depth z began (omega arith) is_root asked among in
            let yes : was_sent is_below said q z.me ≡ true = subst (λ o. comes_to said z.me o ≡ true) above comes in
            let no : was_sent is_above said q z.me ≡ false = (knows.one q z.me yes).0 in
            absurd (cc (told, no))

    -- it is the neighbour that a seal names
    pub toward_told : LeadsToward said z.me z.parent (Some q) → seen.toward_by (seen.walk t.places tr r) z.me z.parent ≡ Some q
    unfolding seen.walk
    toward_told leads = elim leads [ inl off ↦ off_way off.0 off.1 | inr on ↦ on_way on.0 on.1 ]
