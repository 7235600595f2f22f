-- When a COMMIT that flows is called, there is between two branches no more than that the one may say CommitPoint or the commit to
-- the other as its child: the one is live, and has the other as a child over one edge.
use Rattle.std.proofs.Common.{◌≡◌, ◌≢◌, ℕ, suc, ◌+◌, ◌<◌, ◌≤◌, ◌==◌, Bool, true, false, if◌then◌else◌, List, [], ◌∷◌, Option, Some, None, refl, sym, ap, subst, ◌∙◌, arith}
use Rattle.std.specs.List.{AllByRecursion}
use Rattle.std.proofs.lemmas.Bool.Decides.{nat_tests}
use Rattle.tran_ids.proofs.BranchLemmas.{equal_from_same, same_from_equal}
use Rattle.tran_ids.proofs.ListedLemmas.{item_is}
use Rattle.commit_forget.specs.Beyond.{beyond, all_acked}
use Rattle.session_tree.specs.Live.{is_branch}
use Rattle.node_rules.specs.Data.{BranchId, Edge, KeptRow, Live}
use Rattle.node_rules.specs.Words.{same, numbered}
use Rattle.node_rules.specs.NodeState.{NodeState, live_id, kept_row_id}
use Rattle.run_rules.specs.Births.{Born, born_at, born_id}
use Rattle.run_rules.specs.Facts.{flat, node_at}
use Rattle.run_rules.specs.Lawful.{History, IsLawfulRun}
use Rattle.run_base_laws.specs.BirthLaws.{Began, ChildrenAre, IsChild, LiveIs}
use Rattle.run_base_laws.specs.NodeLaws.{count_of}
use Rattle.run_base_laws.proofs.BirthRunLemmas.{nodes_name_the_born}
use Rattle.run_base_laws.proofs.EventsStandLemmas.{ids_name_their_node}
use Rattle.run_base_laws.proofs.FreshLemmas.{ids_are_fresh}
use Rattle.run_base_laws.proofs.KidLemmas.{edge_of, child_edge, child_parent, parent_in, parent_of}
use Rattle.tree_laws.proofs.ForestLemmas as trees
use Rattle.tree_laws.proofs.AtPart.{at_part}
use Rattle.run_claims.specs.Undisturbed.{Commit}
use Rattle.commit_length_laws.specs.FewLaws.{Flows}
use Rattle.commit_length_laws.proofs.BetweenLemmas.{when_low, when_most}
use Rattle.commit_length_laws.proofs.BeforeLemmas as before
use Rattle.commit_length_laws.proofs.BeforeLemmas.{total_none}
use Rattle.commit_length_laws.specs.Worth.{total, kept_weight, nodes_weight}
use Rattle.commit_length_laws.specs.Once.{when, on, peers, edges_between, kept_between, live_between, row_between, node_between}

-- ---- sums of one

-- how often a number is that of a place in a list
abbrev places : {A : Type 0} → ℕ → ℕ → List A → ℕ
places i j [] = 0
places i j (x ∷ xs) = when (j == i) 1 + places i (j + 1) xs

equal_nat : (a b : ℕ) → (a == b) ≡ true → a ≡ b
equal_nat a b is = grind (arith, nat_tests, is)

same_nat : (a b : ℕ) → a ≡ b → (a == b) ≡ true
same_nat a b is = grind (arith, nat_tests, is)

places_later : {A : Type 0} (i j : ℕ) (xs : List A) → i < j → places i j xs ≡ 0
places_later i j [] low = refl
places_later i j (x ∷ xs) low = by (j == i) refl (places_later i (j + 1) xs (omega (arith, low)))
  where
    by : (q : Bool) → (j == i) ≡ q → places i (j + 1) xs ≡ 0 → when q 1 + places i (j + 1) xs ≡ 0
    by true is rest = (let it = equal_nat j i is in absurd (omega (arith, it, low)))
    by false is rest = omega (arith, rest)

places_most : {A : Type 0} (i j : ℕ) (xs : List A) → places i j xs ≤ 1
places_most i j [] = omega arith
places_most i j (x ∷ xs) = by (j == i) refl (places_most i (j + 1) xs)
  where
    by : (q : Bool) → (j == i) ≡ q → places i (j + 1) xs ≤ 1 → when q 1 + places i (j + 1) xs ≤ 1
    by true is rest = (let it = equal_nat j i is in let none = places_later i (j + 1) xs (omega (arith, it)) in omega (arith, none))
    by false is rest = omega (arith, rest)

total_places : {A : Type 0} (f : A → ℕ) (i j : ℕ) (xs : List A) → ((n : ℕ) (x : A) → numbered xs (suc n) ≡ Some x → f x ≤ when ((j + n) == i) 1) → total f xs ≤ places i j xs
total_places f i j [] each = omega arith
total_places f i j (x ∷ xs) each =
    let start : j + 0 ≡ j = omega arith in
    let here : f x ≤ when (j == i) 1 = subst (λ m. f x ≤ when (m == i) 1) start (each 0 x refl) in
    let rest = total_places f i (j + 1) xs later in
    omega (arith, here, rest)
  where
    later : (n : ℕ) (y : _) → numbered xs (suc n) ≡ Some y → f y ≤ when (((j + 1) + n) == i) 1
    later n y at = (let is : j + suc n ≡ (j + 1) + n = omega arith in subst (λ m. f y ≤ when (m == i) 1) is (each (suc n) y at))

-- what is only at one place is there once at most
total_once : {A : Type 0} (f : A → ℕ) (i : ℕ) (xs : List A) → ((n : ℕ) (x : A) → numbered xs n ≡ Some x → f x ≤ when (n == i) 1) → total f xs ≤ 1
total_once f i xs each =
    (let low = total_places f i 1 xs (λ n x at. (let is : suc n ≡ 1 + n = omega arith in subst (λ m. f x ≤ when (m == i) 1) is (each (suc n) x at))) in
    let one = places_most i 1 xs in
    omega (arith, low, one))

-- ---- the items of a branch

counted : {A : Type 0} (id : A → BranchId) (m : BranchId) (xs : List A) → total (λ x. when (same (id x) m) 1) xs ≡ count_of id m xs
counted id m [] = refl
counted id m (x ∷ xs) = by (same (id x) m) (counted id m xs)
  where
    by : (q : Bool) → total (λ y. when (same (id y) m) 1) xs ≡ count_of id m xs → when q 1 + total (λ y. when (same (id y) m) 1) xs ≡ (if q then 1 + count_of id m xs else count_of id m xs)
    by true rest = omega (arith, rest)
    by false rest = omega (arith, rest)

total_under : {A : Type 0} (f h : A → ℕ) (xs : List A) → AllByRecursion (λ x. f x ≤ h x) xs → total f xs ≤ total h xs
total_under f h [] all = omega arith
total_under f h (x ∷ xs) all = (let here = all.0 in let rest = total_under f h xs all.1 in omega (arith, here, rest))

all_so : {A : Type 0} (P Q : A → Type 0) → ((x : A) → P x → Q x) → (xs : List A) → AllByRecursion P xs → AllByRecursion Q xs
all_so P Q so [] all = tt
all_so P Q so (x ∷ xs) all = (so x all.0, all_so P Q so xs all.1)

-- ---- the children of a live branch

module _ (bs : List Born) (me : BranchId) (b : BranchId) where
  abbrev count : List Edge → ℕ
  count es = total (λ e. on e.peer b) es

  -- an edge of a later number leads elsewhere
  later_none : (i j : ℕ) (es : List Edge) → edge_of bs b ≡ Some i → i < j → ChildrenAre (Began bs) me j es → count es ≡ 0
  later_none i j [] at low all = refl
  later_none i j (e ∷ es) at low all = by (same e.peer b) refl (later_none i (j + 1) es at (omega (arith, low)) all.1)
    where
      by : (q : Bool) → same e.peer b ≡ q → count es ≡ 0 → when q 1 + count es ≡ 0
      by true here rest =
          let number : edge_of bs b ≡ Some j = subst (λ c. edge_of bs c ≡ Some j) (equal_from_same e.peer b here) (child_edge bs e.peer me j all.0) in
          let both : Some i ≡ Some j = sym at ∙ number in
          let it : i ≡ j = cc in
          absurd (omega (arith, it, low))
      by false other rest = omega (arith, rest)

  -- so a child is one once
  once : (i : ℕ) (es : List Edge) → ChildrenAre (Began bs) me i es → count es ≤ 1
  once i [] all = omega arith
  once i (e ∷ es) all = by (same e.peer b) refl (once (i + 1) es all.1)
    where
      by : (q : Bool) → same e.peer b ≡ q → count es ≤ 1 → when q 1 + count es ≤ 1
      by true here rest =
          let number : edge_of bs b ≡ Some i = subst (λ c. edge_of bs c ≡ Some i) (equal_from_same e.peer b here) (child_edge bs e.peer me i all.0) in
          let none : count es ≡ 0 = later_none i (i + 1) es number (omega arith) all.1 in
          omega (arith, none)
      by false other rest = omega (arith, rest)

  -- and none where it has another parent
  none : (i : ℕ) (es : List Edge) → ChildrenAre (Began bs) me i es → (IsChild (Began bs) b me → ⊥) → count es ≡ 0
  none i [] all other = refl
  none i (e ∷ es) all other = by (same e.peer b) refl (none (i + 1) es all.1 other)
    where
      by : (q : Bool) → same e.peer b ≡ q → count es ≡ 0 → when q 1 + count es ≡ 0
      by true here rest = (let it : e.peer ≡ b = equal_from_same e.peer b here in absurd (other (all.0.0, all.0.1, (all.0.2 ∙ it), all.0.3)))
      by false away rest = omega (arith, rest)

module _ (t : History) (whole : IsLawfulRun t) (c : Commit t.places t.commands t.trace) (flows : Flows t.places t.commands t.trace c) (z w : BranchId) where
  open c use {before as hs, kept as k, call as v}
  open at_part t hs use {s, f, said, bs}

  abbrev g : BranchId
  g = c.root

  lawful : IsLawfulRun s
  lawful = before.lawful t whole c flows

  known : trees.Known bs said
  known = before.known t whole c flows

  -- neither is a child of the other that has it as a child
  no_round : (a b : BranchId) → IsChild (Began bs) a b → IsChild (Began bs) b a → ⊥
  no_round a b one two =
      let x = trees.below_of bs said known one.0 b one.1 one.3 in
      let y = trees.below_of bs said known two.0 a two.1 two.3 in
      let up_b : x.up ≡ two.0 = trees.same_born bs said known x.up two.0 x.began two.1 (x.is_me ∙ sym two.2) in
      let up_a : y.up ≡ one.0 = trees.same_born bs said known y.up one.0 y.began one.1 (y.is_me ∙ sym one.2) in
      let deep_b : x.up.depth ≡ two.0.depth = ap (λ (q : Born). q.depth) up_b in
      let deep_a : y.up.depth ≡ one.0.depth = ap (λ (q : Born). q.depth) up_a in
      let first = x.deeper in
      let second = y.deeper in
      absurd (omega (arith, deep_b, deep_a, first, second))

  -- where the one is the parent of the other, or is not
  module _ (m : BranchId) (low : (l : Live) → LiveIs (Began bs) l → edges_between z w l.me l.edges ≤ when (same l.me m) 1) where
    module _ (n : ℕ) (j : NodeState) (upj : node_at f n ≡ Some j) where
      lives_low : total (live_between z w g) j.lives ≤ count_of live_id m j.lives
      lives_low =
          let all = total_under (live_between z w g) (λ (l : Live). when (same l.me m) 1) j.lives
          (all_so (LiveIs (Began bs)) (λ l. live_between z w g l ≤ when (same l.me m) 1) (λ l placed. (let is = when_most (same l.root g) (edges_between z w l.me l.edges) in let here = low l placed in omega (arith, is, here))) j.lives (nodes_name_the_born s lawful n j upj).0) in
          let is = counted live_id m j.lives in
          omega (arith, all, is)

      rows_none : total (row_between z w g) j.stored.durable.kept ≡ 0
      rows_none = total_none (row_between z w g) j.stored.durable.kept
          (all_so (λ (r : KeptRow). same r.root g ≡ false) (λ r. row_between z w g r ≡ 0) (λ r other. ap (λ q. when q (kept_between z w r.me r.decision r.toward (beyond r) (all_acked r))) other) j.stored.durable.kept (before.rows_other t whole c flows n j upj))

      away : n ≢ m.node → count_of live_id m j.lives ≡ 0
      away other = (let is = counted live_id m j.lives in let none_here = total_none (λ (l : Live). when (same l.me m) 1) j.lives
          (all_so (λ (l : Live). l.me.node ≡ n) (λ l. when (same l.me m) 1 ≡ 0) (λ l at. here l at (same l.me m) refl) j.lives (ids_name_their_node s lawful n j upj).lives) in omega (arith, is, none_here))
        where
          here : (l : Live) → l.me.node ≡ n → (q : Bool) → same l.me m ≡ q → when q 1 ≡ 0
          here l at true is = absurd (other (sym at ∙ ap (λ (i : BranchId). i.node) (equal_from_same l.me m is)))
          here l at false is = refl

      node_low : (q : Bool) → (n == m.node) ≡ q → node_between z w g j ≤ when q 1
      node_low true is = (let lives = lives_low in let rows = rows_none in let one : count_of kept_row_id m j.stored.durable.kept + count_of live_id m j.lives ≤ 1 = ids_are_fresh s lawful n j upj m in omega (arith, lives, rows, one))
      node_low false is =
          let lives = lives_low in
          let rows = rows_none in
          let gone = away (λ it. (let yes = same_nat n m.node it in absurd (cc (yes, is)))) in
          omega (arith, lives, rows, gone)

    nodes_low : nodes_weight (node_between z w g) f ≤ 1
    nodes_low = total_once (kept_weight (node_between z w g)) m.node f.nodes each
      where
        each : (n : ℕ) (o : Option NodeState) → numbered f.nodes n ≡ Some o → kept_weight (node_between z w g) o ≤ when (n == m.node) 1
        each n None at = omega arith
        each n (Some j) at = node_low n j (ap flat at) (n == m.node) refl

  -- w is the parent of z
  above : IsChild (Began bs) z w → (l : Live) → LiveIs (Began bs) l → edges_between z w l.me l.edges ≤ when (same l.me w) 1
  above kid l placed =
      let one = when_low (same l.me w) (peers z l.edges) 1 (once bs l.me z 1 l.edges placed.children) in
      let two = by (same l.me z) refl in
      omega (arith, one, two)
    where
      by : (q : Bool) → same l.me z ≡ q → when q (peers w l.edges) ≡ 0
      by true is = none bs l.me w 1 l.edges placed.children (λ back. no_round z w kid (subst (IsChild (Began bs) w) (equal_from_same l.me z is) back))
      by false is = refl

  -- or it is not
  below : (IsChild (Began bs) z w → ⊥) → (l : Live) → LiveIs (Began bs) l → edges_between z w l.me l.edges ≤ when (same l.me z) 1
  below other l placed =
      let one = when_low (same l.me z) (peers w l.edges) 1 (once bs l.me w 1 l.edges placed.children) in
      let two = by (same l.me w) refl in
      omega (arith, one, two)
    where
      by : (q : Bool) → same l.me w ≡ q → when q (peers z l.edges) ≡ 0
      by true is = none bs l.me z 1 l.edges placed.children (λ kid. other (subst (IsChild (Began bs) z) (equal_from_same l.me w is) kid))
      by false is = refl

  pub first_between : nodes_weight (node_between z w g) f ≤ 1
  first_between = by (is_branch w (parent_of bs z)) refl
    where
      born : (o : Option Born) → born_at bs z ≡ o → is_branch w (parent_in o) ≡ true → IsChild (Began bs) z w
      born None at is = absurd cc
      born (Some x) at is = (x, subst (λ b. born_at bs b ≡ Some x) (sym me) at, me, up x.parent is)
        where
          me : x.me ≡ z
          me = item_is born_id bs z x at

          up : (o : Option BranchId) → is_branch w o ≡ true → o ≡ Some w
          up None is = absurd cc
          up (Some p) is = ap Some (equal_from_same p w is)

      by : (q : Bool) → is_branch w (parent_of bs z) ≡ q → nodes_weight (node_between z w g) f ≤ 1
      by true is = nodes_low w (above (born (born_at bs z) refl is))
      by false is = nodes_low z (below (λ kid. (let yes : is_branch w (parent_of bs z) ≡ true = ap (is_branch w) (child_parent bs z w kid) ∙ same_from_equal w w refl in absurd (cc (yes, is)))))
