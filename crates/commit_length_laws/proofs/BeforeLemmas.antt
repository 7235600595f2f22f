-- Nothing of the transaction of a COMMIT that flows is on the way when it is called: nothing is in flight, its branches work, and
-- no row is kept of it.
use Rattle.std.proofs.Common.{◌≡◌, ◌≢◌, ℕ, zero, suc, ◌||◌, Bool, true, false, if◌then◌else◌, List, [], ◌∷◌, length, Option, Some, None, inl, inr, refl, sym, ap, subst, ◌∙◌, arith}
use Rattle.std.specs.List.{AllByRecursion, list_any}
use Rattle.tran_ids.proofs.BranchLemmas.{equal_from_same}
use Rattle.tran_ids.proofs.ListedLemmas.{item_is}
use Rattle.agreement.specs.Events.{Exit, Sealed, Decided, Dropped, exit, learned}
use Rattle.commit_forget.specs.Beyond.{all_acked}
use Rattle.node_rules.specs.Data.{BranchId, Decision, Kind, Live, Phase, KeptRow}
use Rattle.node_rules.specs.Data.decisions
use Rattle.node_rules.specs.Data.phases
use Rattle.node_rules.specs.Data.stmts
use Rattle.node_rules.specs.Words.{same, numbered, item_at}
use Rattle.node_rules.specs.NodeState.{NodeState, Branch, live_id, live_at, branch_at, work_at, with_work}
use Rattle.net_bag.specs.Net.{flies}
use Rattle.run_rules.specs.Births.{Born}
use Rattle.run_base_laws.specs.BirthLaws.{Began, LiveIs, KeptIs}
use Rattle.run_base_laws.specs.CallLaws.{ComesAtRest}
use Rattle.run_rules.specs.Data.{Packet}
use Rattle.run_rules.specs.Data.happenings
use Rattle.run_base_laws.specs.EventRows.{RowIs, IsKnown}
use Rattle.run_rules.specs.Facts.{first_facts, flat, node_at}
use Rattle.run_base_laws.specs.FreezeLaws.{was_asked}
use Rattle.run_rules.specs.Lawful.{History, IsLawfulRun}
use Rattle.run_base_laws.specs.NodeLaws.{EachFactFrom}
use Rattle.run_rules.specs.Trail.{is_prepare}
use Rattle.run_base_laws.proofs.BirthRunLemmas.{nodes_name_the_born}
use Rattle.run_base_laws.proofs.EventsStandLemmas.{nodes_are_as_events, ids_name_their_node}
use Rattle.run_branch_laws.proofs.FreezeRunLemmas.{asked_stand_still}
use Rattle.run_rules.proofs.ListLemmas.{all_weaker}
use Rattle.run_base_laws.proofs.OwnLemmas.{all_found}
use Rattle.run_base_laws.proofs.RestRunLemmas.{calls_come_at_rest}
use Rattle.run_base_laws.proofs.TurnEventLemmas.{all_both}
use Rattle.tree_laws.specs.AskLaws.{HeardAbove}
use Rattle.tree_laws.proofs.FoundLemmas.{lives_found}
use Rattle.tree_laws.proofs.ForestLemmas as trees
use Rattle.tree_laws.proofs.ForestRunLemmas.{run_known}
use Rattle.tree_laws.proofs.PrefixLemmas.{e_at}
use Rattle.tree_laws.proofs.HeardLemmas.{left_were_asked}
use Rattle.tree_laws.proofs.TimeLemmas.{Part, part_of, part_lawful, born_end, fact_at}
use Rattle.run_claims.specs.Undisturbed.{Commit}
use Rattle.commit_spread_laws.proofs.FirstLemmas.{commits_come_first}
use Rattle.tree_laws.proofs.MoreLemmas.{inv_at}
use Rattle.commit_length_laws.specs.FewLaws.{Flows}
use Rattle.commit_length_laws.proofs.FlightLemmas.{AllFly}
use Rattle.commit_length_laws.proofs.TreeLemmas.{Course}
use Rattle.tree_laws.proofs.AtPart.{at_part}
use Rattle.commit_laws.proofs.StillLemmas.{none_placed}
use Rattle.commit_length_laws.specs.Worth.{total, flight, net_weight, kept_weight, nodes_weight, neighbors, phase_worth, known_worth, live_worth, row_worth, node_worth}

-- ---- sums of nothing

pub total_none : {A : Type 0} (f : A → ℕ) (xs : List A) → AllByRecursion (λ x. f x ≡ 0) xs → total f xs ≡ 0
total_none f [] all = refl
total_none f (x ∷ xs) all = (let here = all.0 in let rest = total_none f xs all.1 in omega (arith, here, rest))

pub total_each : {A : Type 0} (f : A → ℕ) (xs : List A) → ((n : ℕ) (x : A) → numbered xs n ≡ Some x → f x ≡ 0) → total f xs ≡ 0
total_each f [] each = refl
total_each f (x ∷ xs) each = (let here = each 1 x refl in let rest = total_each f xs (λ n y at. later n y at) in omega (arith, here, rest))
  where
    later : (n : ℕ) (y : _) → numbered xs n ≡ Some y → f y ≡ 0
    later zero y at = absurd cc
    later (suc i) y at = each (suc (suc i)) y at

if_none : (q : Bool) (n : ℕ) → (q ≡ true → n ≡ 0) → (if q then n else 0) ≡ 0
if_none true n none = none refl
if_none false n none = refl

none_all : {A : Type 0} (p : A → Bool) (xs : List A) → list_any p xs ≡ false → AllByRecursion (λ x. p x ≡ false) xs
none_all p [] is = tt
none_all p (x ∷ xs) is = by (p x) refl is (none_all p xs)
  where
    by : (q : Bool) → p x ≡ q → (q || list_any p xs) ≡ false → (list_any p xs ≡ false → AllByRecursion (λ y. p y ≡ false) xs) → AllByRecursion (λ y. p y ≡ false) (x ∷ xs)
    by true here none rest = absurd cc
    by false other none rest = (other, rest none)

module _ (t : History) (whole : IsLawfulRun t) (c : Commit t.places t.commands t.trace) (flows : Flows t.places t.commands t.trace c) where
  open c use {before as hs, kept as k, call as v}
  open at_part t hs use {s, f, said, bs}

  pub part : Part t whole hs
  part = part_of t whole hs (happenings.Turn c.call) c.during c.is

  pub lawful : IsLawfulRun s
  lawful = part_lawful t whole hs part

  pub known : trees.Known bs said
  known = run_known s lawful

  -- ---- the root is at rest

  pub me : c.live.me ≡ c.root
  me = item_is live_id k.lives c.root c.live c.there

  pub found : live_at k c.live.me ≡ Some c.live
  found = subst (λ i. live_at k i ≡ Some c.live) (sym me) c.there

  abbrev x : Branch
  x = record { live = c.live; work = work_at k c.live.me }

  there : branch_at k c.live.me ≡ Some x
  there = ap (with_work k) found

  pub rests : (c.live.phase ≡ phases.Working) × ((work_at k c.live.me).going ≡ None)
  rests =
      let each : ComesAtRest t.places f (happenings.Turn c.call)
      = fact_at t.places t.commands (ComesAtRest t.places) (first_facts t.places) hs (happenings.Turn c.call) c.during (subst (λ xs. EachFactFrom (ComesAtRest t.places) t.places t.commands (first_facts t.places) xs) (sym c.is) (calls_come_at_rest t whole)) in
      each k c.up c.session (Some (stmts.Commit c.comment)) c.asks x (c.of ∙ ap Some (sym me)) there

  root_is_live : exit (e_at t hs) c.root ≡ None
  root_is_live = subst (λ i. exit (e_at t hs) i ≡ None) me (all_found (λ (l : Live). exit (e_at t hs) l.me ≡ None) live_id k.lives c.root c.live (nodes_are_as_events s lawful c.call.node k c.up).0 c.there)

  -- ---- nothing of it is on the way before

  -- a branch below one of the transaction was not asked
  unasked : (z : Born) → Began bs z → z.root ≡ c.root → (q : BranchId) → z.parent ≡ Some q → was_asked said q z.me ≡ true → ⊥
  unasked z began of q up asked =
      let y = trees.below_of bs said known z q began up in
      let none : was_asked said y.up.me z.me ≡ false = commits_come_first t whole c y.up (born_end t whole hs part y.up y.began) (y.is_root ∙ of) z.me in
      let yes : was_asked said y.up.me z.me ≡ true = subst (λ i. was_asked said i z.me ≡ true) (sym y.is_me) asked in
      absurd (cc (yes, none))

  root_me : (z : Born) → Began bs z → z.root ≡ c.root → z.parent ≡ None → z.me ≡ c.root
  root_me z began of top = sym (trees.stands_so bs said known z None began top).0 ∙ of

  -- none has left but by a drop
  not_left : (z : Born) → Began bs z → z.root ≡ c.root → (w : Exit) → w ≢ Dropped → exit (e_at t hs) z.me ≡ Some w → ⊥
  not_left z began of w other left = by z.parent refl
    where
      above : HeardAbove is_prepare bs said z.me
      above = left_were_asked s lawful z.me w left other

      it : above.0 ≡ z
      it = trees.same_born bs said known above.0 z above.1 began above.2

      by : (o : Option BranchId) → z.parent ≡ o → ⊥
      by None top = (let none : exit (e_at t hs) z.me ≡ None = subst (λ i. exit (e_at t hs) i ≡ None) (sym (root_me z began of top)) root_is_live in absurd (cc (none, left)))
      by (Some q) up = unasked z began of q up (above.3 q (ap (λ (a : Born). a.parent) it ∙ up))

  module _ (n : ℕ) (j : NodeState) (upj : node_at f n ≡ Some j) where
    live_none : (l : Live) → live_at j l.me ≡ Some l → LiveIs (Began bs) l → live_worth c.root l ≡ 0
    live_none l live placed = if_none (same l.root c.root) (phase_worth l.phase (length l.edges)) (λ of. by_phase (equal_from_same l.root c.root of) l.phase refl)
      where
        y : Branch
        y = record { live = l; work = work_at j l.me }

        call_node : c.live.me.node ≡ c.call.node
        call_node = all_found (λ (a : Live). a.me.node ≡ c.call.node) live_id k.lives c.live.me c.live (ids_name_their_node s lawful c.call.node k c.up).lives found

        own_node : l.me.node ≡ n
        own_node = all_found (λ (a : Live). a.me.node ≡ n) live_id j.lives l.me l (ids_name_their_node s lawful n j upj).lives live

        root_phase : l.me ≡ c.root → l.phase ≡ phases.Working
        root_phase mine =
            let at : live_at j c.root ≡ Some l = subst (λ i. live_at j i ≡ Some l) mine live in
            let here : c.root.node ≡ c.call.node = ap (λ (i : BranchId). i.node) (sym me) ∙ call_node in
            let one : n ≡ c.call.node = sym own_node ∙ (ap (λ (i : BranchId). i.node) mine ∙ here) in
            let both : Some j ≡ Some k = sym upj ∙ (ap (λ i. node_at f i) one ∙ c.up) in
            let same_node : j ≡ k = cc in
            let two : Some l ≡ Some c.live = sym at ∙ (ap (λ i. live_at i c.root) same_node ∙ c.there) in
            let same_live : l ≡ c.live = cc in
            ap (λ (z : Live). z.phase) same_live ∙ rests.0

        busy : l.root ≡ c.root → l.phase ≢ phases.Working → (o : Option BranchId) → l.parent ≡ o → ⊥
        busy of other None top = other (root_phase (sym placed.is_me ∙ root_me placed.born placed.began (placed.is_root ∙ of) (placed.is_parent ∙ top)))
        busy of other (Some q) up =
            let asked : was_asked said q l.me ≡ true = (((asked_stand_still s lawful n j upj y (ap (with_work j) live)).1 other).1 q up).0 in
            unasked placed.born placed.began (placed.is_root ∙ of) q (placed.is_parent ∙ up) (subst (λ i. was_asked said q i ≡ true) (sym placed.is_me) asked)

        by_phase : l.root ≡ c.root → (p : Phase) → l.phase ≡ p → phase_worth p (length l.edges) ≡ 0
        by_phase of phases.Working is = refl
        by_phase of (phases.Collecting b) is = absurd (busy of (λ working. (let both : phases.Collecting b ≡ phases.Working = sym is ∙ working in absurd cc)) l.parent refl)
        by_phase of phases.Ready is = absurd (busy of (λ working. (let both : phases.Ready ≡ phases.Working = sym is ∙ working in absurd cc)) l.parent refl)

    -- no row is of the transaction
    pub row_other : (r : KeptRow) → RowIs (e_at t hs) r → KeptIs (Began bs) r → same r.root c.root ≡ false
    row_other r row placed = of (same r.root c.root) refl
      where
        left_so : r.root ≡ c.root → (w : Exit) → w ≢ Dropped → exit (e_at t hs) r.me ≡ Some w → ⊥
        left_so of w other left = not_left placed.born placed.began (placed.is_root ∙ of) w other (subst (λ i. exit (e_at t hs) i ≡ Some w) (sym placed.is_me) left)

        sealed_so : r.root ≡ c.root → (d : Decision) → learned (e_at t hs) r.me ≡ Some d → ⊥
        sealed_so of d is = (let sealed = (inv_at t whole hs part).learned_sealed r.me d is in left_so of (Sealed sealed.0) (λ no. absurd cc) sealed.1)

        by : r.root ≡ c.root → (o : Option Decision) → IsKnown (e_at t hs) r o → ⊥
        by of None is = left_so of (Sealed r.scn) (λ no. absurd cc) is.0
        by of (Some (decisions.Commit m)) (inl decided) = left_so of (Decided m) (λ no. absurd cc) decided
        by of (Some (decisions.Commit m)) (inr knows) = sealed_so of (decisions.Commit m) knows
        by of (Some decisions.Rollback) is = sealed_so of decisions.Rollback is

        of : (q : Bool) → same r.root c.root ≡ q → q ≡ false
        of false is = refl
        of true is = absurd (by (equal_from_same r.root c.root is) r.decision row.known)

    row_none : (r : KeptRow) → RowIs (e_at t hs) r → KeptIs (Began bs) r → row_worth c.root r ≡ 0
    row_none r row placed = ap (λ q. if q then known_worth r.decision r.forgot (all_acked r) (neighbors r) else 0) (row_other r row placed)

    -- so it is of each
    pub rows_other : AllByRecursion (λ (r : KeptRow). same r.root c.root ≡ false) j.stored.durable.kept
    rows_other =
        all_weaker (λ (r : KeptRow). RowIs (e_at t hs) r × KeptIs (Began bs) r) (λ r. same r.root c.root ≡ false) (λ r so. row_other r so.0 so.1) j.stored.durable.kept
        (all_both (RowIs (e_at t hs)) (KeptIs (Began bs)) j.stored.durable.kept (nodes_are_as_events s lawful n j upj).1 (nodes_name_the_born s lawful n j upj).1)

    node_none : node_worth c.root j ≡ 0
    node_none =
        let names = nodes_name_the_born s lawful n j upj in
        let events = nodes_are_as_events s lawful n j upj in
        let lives : total (live_worth c.root) j.lives ≡ 0 = total_none (live_worth c.root) j.lives
        (all_weaker (λ (l : Live). (item_at live_id j.lives l.me ≡ Some l) × LiveIs (Began bs) l) (λ l. live_worth c.root l ≡ 0) (λ l so. live_none l so.0 so.1) j.lives
        (all_both (λ (l : Live). item_at live_id j.lives l.me ≡ Some l) (LiveIs (Began bs)) j.lives (lives_found s lawful n j upj) names.0)) in
        let rows : total (row_worth c.root) j.stored.durable.kept ≡ 0 = total_none (row_worth c.root) j.stored.durable.kept
        (all_weaker (λ (r : KeptRow). RowIs (e_at t hs) r × KeptIs (Began bs) r) (λ r. row_worth c.root r ≡ 0) (λ r so. row_none r so.0 so.1) j.stored.durable.kept
        (all_both (RowIs (e_at t hs)) (KeptIs (Began bs)) j.stored.durable.kept events.1 names.1)) in
        omega (arith, lives, rows)

  pub nodes_none : nodes_weight (node_worth c.root) f ≡ 0
  nodes_none = total_each (kept_weight (node_worth c.root)) f.nodes each
    where
      each : (n : ℕ) (o : Option NodeState) → numbered f.nodes n ≡ Some o → kept_weight (node_worth c.root) o ≡ 0
      each n None at = refl
      each n (Some j) at = node_none n j (ap flat at)

  down : AllByRecursion (λ y. flies y ≡ false) f.net.packets
  down = none_all flies f.net.packets (none_placed flies f.net.packets flows.still)

  pub net_none : (weigh : BranchId → BranchId → Kind → ℕ) → net_weight weigh f.net ≡ 0
  net_none weigh = total_none (flight weigh) f.net.packets (all_weaker (λ (y : Packet). flies y ≡ false) (λ y. flight weigh y ≡ 0) (λ y is. ap (λ q. if q then weigh y.msg.from y.msg.to y.msg.kind else 0) is) f.net.packets down)

  pub none_fly : AllFly (Course t whole c) f.net
  none_fly = all_weaker (λ (y : Packet). flies y ≡ false) (λ y. flies y ≡ true → Course t whole c y.msg) (λ y is flying. absurd (cc (is, flying))) f.net.packets down
