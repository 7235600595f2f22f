-- A savepoint that stands is one of the whole session tree. At a SAVEPOINT the live branches of the tree wait for nothing, and have taken the
-- calls that their parents noted: so the calls that they took are floors that stand, and no branch is taken back below its own.
use Rattle.std.proofs.Common.{◌≡◌, ◌≢◌, ◌⊎◌, ◌≤◌, ◌<◌, ◌+◌, ℕ, zero, suc, Bool, true, false, if◌then◌else◌, is_none, List, [], ◌∷◌, ◌++◌, map, option_map, length, take, drop, slice_get, Option, Some, None, inl, inr, refl, sym, ap, subst, ◌∙◌, arith}
use Rattle.dtx_values.specs.Limits.{depth_limit}
use Rattle.tran_ids.proofs.ListedLemmas.{item_is}
use Rattle.session_tree.specs.Live.{children_of}
use Rattle.node_rules.specs.Data.{BranchId, Edge, Kind, Live, Post, Savepoint, Place, Phase}
use Rattle.node_rules.specs.Data.inputs
use Rattle.node_rules.specs.Data.kinds
use Rattle.node_rules.specs.Data.stmts
use Rattle.node_rules.specs.Data.tasks
use Rattle.node_rules.specs.declared.session.PendingCall.TheVariants as pending
use Rattle.node_rules.specs.declared.session.Session.{Session}
use Rattle.node_rules.specs.declared.work.Going.{Going}
use Rattle.node_rules.specs.declared.work.Work.{Work}
use Rattle.node_rules.specs.Marks.{kept_call, step_of}
use Rattle.node_rules.specs.NodeState.{NodeState, Branch, branch_at, live_at, live_id, with_work, work_at}
use Rattle.node_rules.specs.Sessions.{session_at, with_root}
use Rattle.node_rules.specs.Words.{numbered}
use Rattle.savepoints.specs.Marks.{calls_in}
use Rattle.run_rules.specs.Births.{Born, births_of, born_at}
use Rattle.run_rules.specs.Branches.{Seen, Trail, seen_at, is_among}
use Rattle.run_rules.specs.Data.{Happening, Packet, Turn}
use Rattle.run_rules.specs.Data.happenings
use Rattle.run_rules.specs.Facts.{Facts, node_at, place_at, outcome_at, served, kept_after}
use Rattle.run_rules.specs.Lawful.{History, IsLawfulRun, MayHappen}
use Rattle.run_rules.proofs.ListLemmas.{all_weaker, all_map}
use Rattle.run_base_laws.specs.BirthLaws.{Began, ChildrenAre, GoesSo, IsChild, IsChildAt, LiveIs}
use Rattle.run_base_laws.specs.CallLaws.{RootWaits, IsRootOf}
use Rattle.run_base_laws.specs.InTurnLaws.{NeedsNoRollback, exec_number, newest_exec, packet_post, said_in}
use Rattle.run_base_laws.proofs.BirthRunLemmas.{messages_are_of_neighbors, nodes_name_the_born, run_births}
use Rattle.run_base_laws.proofs.InTurnRunLemmas.{branches_call_in_turn}
use Rattle.run_base_laws.proofs.OwnLemmas.{all_found}
use Rattle.run_base_laws.proofs.SaidPostLemmas.{execs_are_low}
use Rattle.run_base_laws.proofs.TurnEventLemmas.{all_both}
use Rattle.tree_laws.specs.DecideLaws.{live_in, live_of}
use Rattle.tree_laws.proofs.PrefixLemmas.{so_far, f_at, one_on}
use Rattle.tree_laws.proofs.TimeLemmas.{Part, part_lawful, born_end, may_of, part_of, part_on}
use Rattle.tree_trail_laws.proofs.MomentLemmas.{tr_at}
use Rattle.back_laws.specs.BackLaws.{call_in, StaysAbove, StandsSince}
use Rattle.back_laws.specs.Floors.{parent_then, parent_in, edge_in, BackAbove, FloorsStand, KeepsFloor, NoneUnborn}
use Rattle.back_laws.specs.LiveTree.{floor_among, taken_of, SavepointsHold, HasStill, live_tree, ChildrenNoted, noted_by, noted_in}
use Rattle.back_laws.proofs.EarlyLemmas.{steps_are_taken}
use Rattle.back_laws.proofs.GoesLemmas.{works}
use Rattle.back_laws.proofs.NoteLemmas.{calls_are_noted}
use Rattle.back_laws.proofs.ReturnLemmas.{rest_is_noted}
use Rattle.back_laws.proofs.TreeLemmas.{Spot, spot, all_down, root_lives}
use Rattle.node_rules.specs.declared.work.Errand.TheVariants as errands
use Rattle.node_rules.proofs.LiveLemmas.{branch_parts}
use Rattle.node_rules.specs.Client.{begun, begun_by, counted, new_root, root_at, savepoint_by, savepoint_call, root_by}
use Rattle.node_rules.specs.Turn.{output_of, turn_of, draft_of}
use Rattle.run_rules.specs.Runs.{answered_by, is_refused}
use Rattle.run_base_laws.proofs.RootLemmas.{counted_session, session_or_before, SessionsFit, sessions_keep}
use Rattle.node_rules.specs.declared.session.PendingCall.{PendingCall}
use Rattle.node_rules.specs.Inputs.{IsSession}
use Rattle.run_rules.proofs.AtNodeLemmas.{turn_here}
use Rattle.run_base_laws.proofs.EventsStandLemmas.{ids_name_their_node}
use Rattle.run_base_laws.proofs.NodeLemmas.{kept_alone}
use Rattle.run_base_laws.proofs.RestRunLemmas.{roots_wait}
use Rattle.tree_trail_laws.proofs.CallLemmas.{call_free}
use Rattle.answer_origin_laws.proofs.NumberLemmas.{take_more}
use Rattle.back_laws.proofs.AboveLemmas.{branches_stay_above}
use Rattle.back_laws.proofs.SavepointLemmas.{parted}
use Rattle.back_laws.proofs.StayLemmas.{runs_stay, take_parts}

-- ---- children by their numbers

child_at : (B : Born → Type 0) (me : BranchId) (j : ℕ) (es : List Edge) → ChildrenAre B me j es → (m : ℕ) (c : BranchId) → slice_get (map (λ (e : Edge). e.peer) es) m ≡ Some c → IsChildAt B c me (j + m) × (m < length es)
child_at B me j [] all m c at = absurd cc
child_at B me j (e ∷ es) all zero c at =
    let it : Some e.peer ≡ Some c = at in
    let one : e.peer ≡ c = cc in
    let number : j ≡ j + 0 = omega arith in
    (subst (λ n. IsChildAt B c me n) number (subst (λ d. IsChildAt B d me j) one all.0), omega arith)
child_at B me j (e ∷ es) all (suc m) c at =
    let rest = child_at B me (j + 1) es all.1 m c at in
    let number : j + 1 + m ≡ j + suc m = omega arith in
    let low = rest.1 in
    (subst (λ n. IsChildAt B c me n) number rest.0, omega (arith, low))

numbered_child : (B : Born → Type 0) (me : BranchId) (es : List Edge) → ChildrenAre B me 1 es → (i : ℕ) (c : BranchId) → numbered (map (λ (e : Edge). e.peer) es) i ≡ Some c → IsChildAt B c me i × (i ≤ length es)
numbered_child B me es all zero c at = absurd cc
numbered_child B me es all (suc m) c at =
    let it = child_at B me 1 es all m c at in
    let number : 1 + m ≡ suc m = omega arith in
    let low = it.1 in
    (subst (λ n. IsChildAt B c me n) number it.0, omega (arith, low))

-- ---- a moment of a run

module _ (t : History) (whole : IsLawfulRun t) (hs : List Happening) (part : Part t whole hs) where
  abbrev f : Facts
  f = f_at t hs

  abbrev tr : Trail
  tr = tr_at t hs

  abbrev s0 : History
  s0 = so_far t hs

  lawful0 : IsLawfulRun s0
  lawful0 = part_lawful t whole hs part

  -- A live branch at its node.
  pub record Up (b : BranchId) (l : Live) : Type 0 where
    pub k : NodeState
    pub up : node_at f b.node ≡ Some k
    pub at : live_at k b ≡ Some l
    pub me : l.me ≡ b
    pub mine : branch_at k l.me ≡ Some (record { live = l; work = work_at k l.me })

  pub up_of : (b : BranchId) (l : Live) → live_in f b ≡ Some l → Up b l
  up_of b l live = by (node_at f b.node) refl live
    where
      by : (o : Option NodeState) → node_at f b.node ≡ o → live_of o b ≡ Some l → Up b l
      by None up live = absurd cc
      by (Some k) up live = (let me : l.me ≡ b = item_is live_id k.lives b l live in record { k = k; up = up; at = live; me = me; mine = ap (with_work k) (subst (λ c. live_at k c ≡ Some l) (sym me) live) })

  placed : (b : BranchId) (l : Live) → live_in f b ≡ Some l → LiveIs (Began (births_of s0)) l
  placed b l live = let u = up_of b l live in all_found (LiveIs (Began (births_of s0))) live_id u.k.lives b l (nodes_name_the_born s0 lawful0 b.node u.k u.up).0 u.at

  -- its parent is as it began
  pub parent_is : (b : BranchId) (l : Live) → live_in f b ≡ Some l → parent_in t b ≡ l.parent
  parent_is b l live =
      let u = up_of b l live in
      let born = placed b l live in
      ap parent_then (subst (λ a. born_at (births_of t) a ≡ Some born.born) (born.is_me ∙ u.me) (born_end t whole hs part born.born born.began)) ∙ born.is_parent

  -- it began
  pub is_born : (b : BranchId) (l : Live) → live_in f b ≡ Some l → born_at (births_of s0) b ≡ None → ⊥
  is_born b l live none =
      let u = up_of b l live in
      let born = placed b l live in
      let there : born_at (births_of s0) b ≡ Some born.born = subst (λ a. born_at (births_of s0) a ≡ Some born.born) (born.is_me ∙ u.me) born.began in
      absurd (cc (there, none))

  pub child_began : (c p : BranchId) → IsChild (Began (births_of s0)) c p → parent_in t c ≡ Some p
  child_began c p is = (let at = born_end t whole hs part is.0 is.1 in ap parent_then (subst (λ a. born_at (births_of t) a ≡ Some is.0) is.2 at) ∙ is.3)

  -- A child that a live branch knows.
  pub record Kid (p : BranchId) (l : Live) (i : ℕ) (c : BranchId) : Type 0 where
    pub parent : parent_in t c ≡ Some p
    pub edge : edge_in t c ≡ Some i
    pub low : i ≤ length l.edges

  pub kid_of : (p : BranchId) (l : Live) (i : ℕ) (c : BranchId) → live_in f p ≡ Some l → numbered (children_of l) i ≡ Some c → Kid p l i c
  kid_of p l i c live there =
      let u = up_of p l live in
      let it = numbered_child (Began (births_of s0)) l.me l.edges (placed p l live).children i c there in
      let child = it.0 in
      let at : born_at (births_of t) c ≡ Some child.0 = subst (λ a. born_at (births_of t) a ≡ Some child.0) child.2 (born_end t whole hs part child.0 child.1) in
      record { parent = ap parent_then at ∙ (child.3 ∙ ap Some u.me); edge = ap (option_map (λ (x : Born). x.edge)) at ∙ ap Some child.4; low = it.1 }

  -- ---- branches that wait for nothing

  -- a live branch waits for nothing, and is no root that can only roll back
  abbrev Rests : BranchId → Live → Type 0
  Rests b l = (k : NodeState) → node_at f b.node ≡ Some k → ((work_at k l.me).going ≡ None) × NeedsNoRollback k l

  module _ (p : BranchId) (l : Live) (i : ℕ) (c : BranchId) (y : Live) (live : live_in f p ≡ Some l) (rests : Rests p l) (there : numbered (children_of l) i ≡ Some c) (its : live_in f c ≡ Some y) where
    above : Up p l
    above = up_of p l live

    below : Up c y
    below = up_of c y its

    noted : ((work_at below.k y.me).came.last_call ≡ call_in (calls_in [] (work_at above.k l.me).marks.notes) i) × ((work_at below.k y.me).going ≡ None)
    noted = (let r = rests above.k above.up in
        rest_is_noted s0 lawful0 p.node above.k above.up (record { live = l; work = work_at above.k l.me }) above.mine r.0 r.1 i c there c.node below.k below.up (record { live = y; work = work_at below.k y.me }) below.mine below.me)

    -- and so does a live child
    rests_down : Rests c y
    rests_down k up =
        let both : Some below.k ≡ Some k = sym below.up ∙ up in
        let one : below.k ≡ k = cc in
        let parent : y.parent ≡ Some p = sym (parent_is c y its) ∙ (kid_of p l i c live there).parent in
        (subst (λ (j : NodeState). (work_at j y.me).going ≡ None) one noted.1, λ none. absurd (cc (parent, none)))

  -- ---- the floors of a tree whose live branches wait for nothing

  module _ (tree : List BranchId) (root : BranchId) (spots : (b : BranchId) → is_among b tree ≡ true → Spot f tree root b) (rests : (b : BranchId) → is_among b tree ≡ true → (l : Live) → live_in f b ≡ Some l → Rests b l)
      (rootless : parent_in t root ≡ None) where
    abbrev pub floor : BranchId → ℕ
    floor b = floor_among tree tr b

    -- a branch is in the tree, or has no floor
    in_or_none : (b : BranchId) → ((is_among b tree ≡ true) × (floor b ≡ taken_of (seen_at tr b))) ⊎ (floor b ≡ 0)
    in_or_none b = by (is_among b tree) refl
      where
        by : (q : Bool) → is_among b tree ≡ q → ((q ≡ true) × ((if q then taken_of (seen_at tr b) else 0) ≡ taken_of (seen_at tr b))) ⊎ ((if q then taken_of (seen_at tr b) else 0) ≡ 0)
        by true is = inl (refl, refl)
        by false is = inr refl

    -- the floor of a live branch of the tree is its step
    pub floor_is : (b : BranchId) (l : Live) → is_among b tree ≡ true → (live : live_in f b ≡ Some l) → floor b ≡ step_of (up_of b l live).k.sessions (record { live = l; work = work_at (up_of b l live).k l.me })
    floor_is b l is live =
        let u = up_of b l live in
        let told = works t whole hs part b.node u.k u.up l (subst (λ c. live_at u.k c ≡ Some l) (sym u.me) u.at) in
        let at : seen_at tr b ≡ Some told.0 = subst (λ c. seen_at tr c ≡ Some told.0) u.me told.1 in
        ap (λ q. if q then taken_of (seen_at tr b) else 0) is ∙ (ap taken_of at ∙ told.2.taken)

    -- a child in the tree is a child of a branch in the tree, which knows it
    child_in : (c p : BranchId) → parent_in t c ≡ Some p → is_among c tree ≡ true → (l : Live) × (i : ℕ) × (is_among p tree ≡ true) × (live_in f p ≡ Some l) × (numbered (children_of l) i ≡ Some c)
    child_in c p parent is = elim (spots c is).way [
      | inl me ↦ absurd (let it : parent_in t root ≡ Some p = ap (parent_in t) (sym me) ∙ parent in cc (it, rootless))
      | inr b ↦ (let kid = kid_of b.parent b.live b.number c b.at b.there in
          let both : Some b.parent ≡ Some p = sym kid.parent ∙ parent in
          let one : b.parent ≡ p = cc in
          (b.live, b.number, subst (λ d. is_among d tree ≡ true) one b.in_it, subst (λ d. live_in f d ≡ Some b.live) one b.at, b.there))
    ]

    -- a child without a parent in the tree has no floor
    child_out : (c p : BranchId) → parent_in t c ≡ Some p → (is_among p tree ≡ true → ⊥) → floor c ≡ 0
    child_out c p parent out = elim (in_or_none c) [ inl in_it ↦ absurd (out (child_in c p parent in_it.0).2) | inr none ↦ none ]

    -- a child's floor is the last call that its parent made
    child_floor : (p : BranchId) (l : Live) (i : ℕ) (c : BranchId) → is_among p tree ≡ true → (live : live_in f p ≡ Some l) → numbered (children_of l) i ≡ Some c → is_among c tree ≡ true → floor c ≡ call_in (work_at (up_of p l live).k l.me).calls i
    unfolding above up_of below
    child_floor p l i c in_it live there is =
        let y : Live = (spots c is).live in
        let its : live_in f c ≡ Some y = (spots c is).at in
        let u = up_of p l live in
        let v = up_of c y its in
        let parent : y.parent ≡ Some p = sym (parent_is c y its) ∙ (kid_of p l i c live there).parent in
        let step : step_of v.k.sessions (record { live = y; work = work_at v.k y.me }) ≡ (work_at v.k y.me).came.last_call
        = ap (λ o. if is_none o then (session_at v.k.sessions y.me.session).calls else (work_at v.k y.me).came.last_call) parent in
        floor_is c y is its ∙ (step ∙ ((noted p l i c y live (rests p in_it l live) there its).0 ∙ (calls_are_noted s0 lawful0 p.node u.k u.up l.me (record { live = l; work = work_at u.k l.me }) u.mine).last i))

    none_unborn : (b : BranchId) → born_at (births_of s0) b ≡ None → (floor b ≡ 0) × ((c : BranchId) → parent_in t c ≡ Some b → floor c ≡ 0)
    none_unborn b none = (
      elim (in_or_none b) [ inl in_it ↦ absurd (out in_it.0) | inr none_at ↦ none_at ],
      λ c parent. child_out c b parent out,
    )
      where
        out : is_among b tree ≡ true → ⊥
        out is = is_born b (spots b is).live (spots b is).at none

    floors_taken : (b : BranchId) → (floor b ≡ 0) ⊎ ((old : Seen) × (seen_at tr b ≡ Some old) × (floor b ≤ old.taken))
    floors_taken b = elim (in_or_none b) [
      | inl in_it ↦ (let s = spots b in_it.0 in
          let u = up_of b s.live s.at in
          let told = works t whole hs part b.node u.k u.up s.live (subst (λ c. live_at u.k c ≡ Some s.live) (sym u.me) u.at) in
          let at : seen_at tr b ≡ Some told.0 = subst (λ c. seen_at tr c ≡ Some told.0) u.me told.1 in
          let same : floor b ≡ told.0.taken = in_it.1 ∙ ap taken_of at in
          inr (told.0, at, subst (λ n. floor b ≤ n) same (omega arith)))
      | inr none ↦ inl none
    ]

    -- ---- each live branch keeps its floor

    module _ (l : Live) (live : live_in f l.me ≡ Some l) where
      abbrev u : Up l.me l
      u = up_of l.me l live

      abbrev w : Work
      w = work_at u.k l.me

      -- what it noted of a child up to its floor is the child's floor
      pub kid_floor : is_among l.me tree ≡ true → (i : ℕ) (c : BranchId) → numbered (children_of l) i ≡ Some c → is_among c tree ≡ true → floor c ≡ kept_call w.marks (floor l.me) i
      kid_floor in_it i c there in_c =
          child_floor l.me l i c in_it live there in_c
          ∙ (sym (steps_are_taken s0 lawful0 l.me.node u.k u.up l.me (record { live = l; work = w }) u.mine i) ∙ ap (λ n. kept_call w.marks n i) (sym (floor_is l.me l in_it live)))

      in_keeps : is_among l.me tree ≡ true → KeepsFloor floor (parent_in t) (edge_in t) l w
      in_keeps in_it = record { low = low; err = err; kept = kept; later = later }
        where
          low : parent_in t l.me ≢ None → floor l.me ≤ w.came.last_call
          low below = by l.parent refl
            where
              by : (o : Option BranchId) → l.parent ≡ o → floor l.me ≤ w.came.last_call
              by None top = absurd (below (parent_is l.me l live ∙ top))
              by (Some p) some =
                  let step : floor l.me ≡ w.came.last_call = floor_is l.me l in_it live ∙ ap (λ o. if is_none o then (session_at u.k.sessions l.me.session).calls else w.came.last_call) some in
                  subst (λ n. floor l.me ≤ n) step (omega arith)

          err : (g : Going) → w.going ≡ Some g → (step : ℕ) → g.errand ≡ errands.GoBack step → floor l.me ≤ step
          err g going step errand = (let none : w.going ≡ None = (rests l.me in_it l live u.k u.up).0 in absurd (cc (going, none)))

          kept : (i : ℕ) (c : BranchId) → numbered (children_of l) i ≡ Some c → floor c ≤ kept_call w.marks (floor l.me) i
          kept i c there = elim (in_or_none c) [
            | inl in_c ↦ subst (λ n. floor c ≤ n) (kid_floor in_it i c there in_c.0) (omega arith)
            | inr none ↦ subst (λ n. n ≤ kept_call w.marks (floor l.me) i) (sym none) (omega arith)
          ]

          later : (c : BranchId) (e : ℕ) → parent_in t c ≡ Some l.me → edge_in t c ≡ Some e → length l.edges < e → floor c ≡ 0
          later c e parent edge long = elim (in_or_none c) [
            | inl in_c ↦ (let it = child_in c l.me parent in_c.0 in
                let kid = kid_of l.me it.0 it.1 c it.3 it.4 in
                let both : Some it.0 ≡ Some l = sym it.3 ∙ live in
                let one : it.0 ≡ l = cc in
                let numbers : Some it.1 ≡ Some e = sym kid.edge ∙ edge in
                let number : it.1 ≡ e = cc in
                let short : it.1 ≤ length l.edges = subst (λ (y : Live). it.1 ≤ length y.edges) one kid.low in
                absurd (omega (arith, number, short, long)))
            | inr none ↦ none
          ]

      out_keeps : is_among l.me tree ≡ false → KeepsFloor floor (parent_in t) (edge_in t) l w
      out_keeps out = record {
        low = λ below. subst (λ n. n ≤ w.came.last_call) (sym none) (omega arith);
        err = λ g going step errand. subst (λ n. n ≤ step) (sym none) (omega arith);
        kept = λ i c there. subst (λ n. n ≤ kept_call w.marks (floor l.me) i) (sym (child_out c l.me (kid_of l.me l i c live there).parent not_in)) (omega arith);
        later = λ c e parent edge long. child_out c l.me parent not_in;
      }
        where
          none : floor l.me ≡ 0
          none = ap (λ q. if q then taken_of (seen_at tr l.me) else 0) out

          not_in : is_among l.me tree ≡ true → ⊥
          not_in is = absurd (cc (is, out))

      keeps : KeepsFloor floor (parent_in t) (edge_in t) l w
      keeps = by (is_among l.me tree) refl
        where
          by : (q : Bool) → is_among l.me tree ≡ q → KeepsFloor floor (parent_in t) (edge_in t) l w
          by true is = in_keeps is
          by false is = out_keeps is

    node_keeps : (n : ℕ) (k : NodeState) → node_at f n ≡ Some k → (x : Branch) → branch_at k x.live.me ≡ Some x → KeepsFloor floor (parent_in t) (edge_in t) x.live x.work
    node_keeps n k up x found =
        let parts = branch_parts k x.live.me x found in
        let node : x.live.me.node ≡ n = all_found (λ (l : Live). l.me.node ≡ n) live_id k.lives x.live.me x.live (ids_name_their_node s0 lawful0 n k up).lives parts.0 in
        let there : node_at f x.live.me.node ≡ Some k = ap (node_at f) node ∙ up in
        let live : live_in f x.live.me ≡ Some x.live = ap (λ o. live_of o x.live.me) there ∙ parts.0 in
        let v : Up x.live.me x.live = up_of x.live.me x.live live in
        let both : Some v.k ≡ Some k = sym v.up ∙ there in
        let one : v.k ≡ k = cc in
        let work : work_at v.k x.live.me ≡ x.work = ap (λ j. work_at j x.live.me) one ∙ sym parts.1 in
        subst (λ (w : Work). KeepsFloor floor (parent_in t) (edge_in t) x.live w) work (keeps x.live live)

    -- ---- no BACK goes below one

    back_above : (from to : BranchId) (kind : Kind) → exec_number kind ≤ newest_exec (said_in f) from to → GoesSo (Began (births_of s0)) from to kind → BackAbove floor to kind
    back_above from to (kinds.Exec call (tasks.GoBack keep)) low goes = λ less. elim (in_or_none to) [
      | inl in_it ↦ (let it = child_in to from (child_began to from goes) in_it.0 in
          let v : Up from it.0 = up_of from it.0 it.3 in
          let made = (branches_call_in_turn s0 lawful0 from.node v.k v.up (record { live = it.0; work = work_at v.k it.0.me }) v.mine).1.made it.1 to it.4 in
          let newest : newest_exec (said_in f) from to ≡ floor to = ap (λ c. newest_exec (said_in f) c to) (sym v.me) ∙ (made ∙ sym (child_floor from it.0 it.1 to it.2 it.3 it.4 in_it.0)) in
          absurd (omega (arith, low, less, newest)))
      | inr none ↦ subst (λ n. n ≤ keep) (sym none) (omega arith)
    ]
    back_above from to (kinds.Exec call (tasks.Run given advice s)) low goes = tt
    back_above from to _ low goes = tt

    floors_stand : FloorsStand t floor f
    floors_stand = record {
      nodes = node_keeps;
      said = all_map (λ (m : Post). BackAbove floor m.to m.kind) packet_post f.net.packets
          (all_weaker (λ (x : Packet). (exec_number x.msg.kind ≤ newest_exec (said_in f) x.msg.from x.msg.to) × GoesSo (Began (births_of s0)) x.msg.from x.msg.to x.msg.kind) (λ x. BackAbove floor x.msg.to x.msg.kind)
          (λ x so. back_above x.msg.from x.msg.to x.msg.kind so.0 so.1) f.net.packets
          (all_both (λ (x : Packet). exec_number x.msg.kind ≤ newest_exec (said_in f) x.msg.from x.msg.to) (λ x. GoesSo (Began (births_of s0)) x.msg.from x.msg.to x.msg.kind) f.net.packets (execs_are_low f) (messages_are_of_neighbors s0 lawful0)));
    }

-- ---- a SAVEPOINT

module _ (p : Place) (k : NodeState) (n : ℕ) (name : List ℕ) where
  abbrev j : NodeState
  j = begun p k n

  -- one that finds a root, and is not refused, leaves sessions as they are, and no rollback is needed
  set_so : root_at (savepoint_call j n name).after n ≢ None → is_refused (answered_by (Some (output_of (savepoint_call j n name)))) ≡ false → ((savepoint_call j n name).after.sessions ≡ j.sessions) × ((session_at j.sessions n).code ≡ None)
  set_so = by (session_at j.sessions n).code refl (root_at j n) refl
    where
      by : (code : Option ℕ) → (session_at j.sessions n).code ≡ code → (o : Option Branch) → root_at j n ≡ o → root_at (savepoint_by j n name code o).after n ≢ None
          → is_refused (answered_by (Some (output_of (savepoint_by j n name code o)))) ≡ false → ((savepoint_by j n name code o).after.sessions ≡ j.sessions) × ((session_at j.sessions n).code ≡ None)
      by code has None is there done = absurd (there is)
      by (Some c) has (Some x) is there done = absurd cc
      by None has (Some x) is there done = (refl, has)

  -- the session's call is as before
  begun_call : (o : Option BranchId) → (session_at (counted (begun_by p k n None o) n).sessions n).call ≡ (session_at k.sessions n).call
  begun_call (Some r) = ap (λ (s : Session). s.call) (counted_session k.sessions n n (session_at k.sessions n).root).1
  begun_call None =
      let ss : List Session = with_root k.sessions n (new_root p k n) in
      ap (λ (s : Session). s.call) (counted_session ss n n (session_at ss n).root).1
      ∙ elim (session_or_before k.sessions n n (record (session_at k.sessions n) { seq = (new_root p k n).seq; root = Some (new_root p k n); calls = 0 })) [
        | inl still ↦ ap (λ (s : Session). s.call) still
        | inr new ↦ ap (λ (s : Session). s.call) new.1
      ]

-- a live branch of an id waits for nothing, is a root, and needs no rollback
abbrev pub RestsAt : Facts → BranchId → Type 0
RestsAt f b = (l : Live) → live_in f b ≡ Some l → (l.parent ≡ None) × ((k : NodeState) → node_at f b.node ≡ Some k → ((work_at k l.me).going ≡ None) × NeedsNoRollback k l)

waits_none : (c : PendingCall) (phase : Phase) (o : Option Going) → RootWaits c phase o → c ≡ pending.NoCall → o ≡ None
waits_none pending.NoCall phase o is free = is.1
waits_none pending.Statement phase o is free = absurd cc
waits_none pending.Commit phase o is free = absurd cc

module _ (t : History) (whole : IsLawfulRun t) (hs : List Happening) (u : Turn) (rest : List Happening) (is : hs ++ happenings.Turn u ∷ rest ≡ t.trace) (root : BranchId) (name : List ℕ) (here : u.node ≡ root.node)
    (call : u.input ≡ inputs.Call root.session (Some (stmts.Savepoint name))) (done : is_refused (answered_by (outcome_at t.places (f_at t hs) u)) ≡ false) where
  abbrev n : ℕ
  n = root.session

  abbrev p : Place
  p = place_at t.places u.node

  may : MayHappen t.places t.commands (f_at t hs) (happenings.Turn u)
  may = may_of t whole hs (happenings.Turn u) rest is

  abbrev after : List Happening
  after = hs ++ happenings.Turn u ∷ []

  part1 : Part t whole after
  part1 = part_on t whole hs (happenings.Turn u) rest is

  free : IsSession n × ((session_at may.0.sessions n).call ≡ pending.NoCall)
  free = call_free (f_at t hs) may.0 u.node u.input u.took n (Some (stmts.Savepoint name)) call may.1.comes

  accepted : is_refused (answered_by (Some (output_of (savepoint_call (begun p may.0 n) n name)))) ≡ false
  unfolding turn_of
  accepted = subst (λ i. is_refused (answered_by (Some (output_of (draft_of p may.0 i)))) ≡ false) call (ap (λ o. is_refused (answered_by (served p u.input o))) (sym may.1.up) ∙ done)

  -- the node after it
  left : (k : NodeState) → node_at (f_at t after) root.node ≡ Some k → k ≡ (savepoint_call (begun p may.0 n) n name).after
  unfolding turn_of
  left k up = by u.cut refl
    where
      there : node_at (f_at t after) root.node ≡ kept_after u.cut (Some (turn_of p may.0 u.input))
      there =
          ap (node_at (f_at t after)) (sym here)
          ∙ (ap (λ f. node_at f u.node) (one_on t hs (happenings.Turn u)) ∙ (turn_here t.places t.commands (f_at t hs) (run_births (so_far t hs) (part_lawful t whole hs (part_of t whole hs (happenings.Turn u) rest is))).0.0.even u may.0 may.1.up).0)

      by : (cut : Bool) → u.cut ≡ cut → k ≡ (savepoint_call (begun p may.0 n) n name).after
      by true cut = (let none : node_at (f_at t after) root.node ≡ None = there ∙ ap (λ c. kept_after c (Some (turn_of p may.0 u.input))) cut in absurd (cc (none, up)))
      by false cut =
          let both : Some (turn_of p may.0 u.input).after ≡ Some k = sym (there ∙ ap (λ c. kept_after c (Some (turn_of p may.0 u.input))) cut) ∙ up in
          let one : (turn_of p may.0 u.input).after ≡ k = cc in
          sym one ∙ ap (λ i. (turn_of p may.0 i).after) call

  rests_after : RestsAt (f_at t after) root
  rests_after l live = (top, rests)
    where
      lawful1 : IsLawfulRun (so_far t after)
      lawful1 = part_lawful t whole after part1

      v : Up t whole after part1 root l
      v = up_of t whole after part1 root l live

      number : l.me.session ≡ n
      number = ap (λ (c : BranchId). c.session) v.me

      top : l.parent ≡ None
      top = by l.parent refl
        where
          by : (o : Option BranchId) → l.parent ≡ o → o ≡ None
          by None top = refl
          by (Some b) some =
              let high : 65 ≤ l.me.session = all_found (λ (y : Live). y.parent ≢ None → 65 ≤ y.me.session) live_id v.k.lives root l (kept_alone SessionsFit sessions_keep (so_far t after) lawful1 root.node v.k v.up).above v.at (λ none. absurd (cc (some, none))) in
              let low : n ≤ 64 = free.0.1 in
              absurd (omega (arith, high, low, number))

      is_root : IsRootOf (session_at v.k.sessions l.me.session) l.me l.phase (work_at v.k l.me).going
      is_root = roots_wait (so_far t after) lawful1 root.node v.k v.up (record { live = l; work = work_at v.k l.me }) v.mine top

      found : root_at v.k n ≡ Some (record { live = l; work = work_at v.k l.me })
      found = ap (root_by v.k) (ap (λ m. (session_at v.k.sessions m).root) (sym number) ∙ is_root.root) ∙ v.mine

      after_is : v.k ≡ (savepoint_call (begun p may.0 n) n name).after
      after_is = left v.k v.up

      set : ((savepoint_call (begun p may.0 n) n name).after.sessions ≡ (begun p may.0 n).sessions) × ((session_at (begun p may.0 n).sessions n).code ≡ None)
      set = set_so p may.0 n name (λ none. (let gone : root_at v.k n ≡ None = ap (λ i. root_at i n) after_is ∙ none in absurd (cc (gone, found)))) accepted

      sessions : v.k.sessions ≡ (begun p may.0 n).sessions
      sessions = ap (λ (i : NodeState). i.sessions) after_is ∙ set.0

      no_call : (session_at v.k.sessions l.me.session).call ≡ pending.NoCall
      no_call = ap (λ m. (session_at v.k.sessions m).call) number ∙ (ap (λ ss. (session_at ss n).call) sessions ∙ (begun_call p may.0 n name (session_at may.0.sessions n).root ∙ free.1))

      no_code : (session_at v.k.sessions l.me.session).code ≡ None
      no_code = ap (λ m. (session_at v.k.sessions m).code) number ∙ (ap (λ ss. (session_at ss n).code) sessions ∙ set.1)

      rests : (k : NodeState) → node_at (f_at t after) root.node ≡ Some k → ((work_at k l.me).going ≡ None) × NeedsNoRollback k l
      rests k up =
          let both : Some v.k ≡ Some k = sym v.up ∙ up in
          let one : v.k ≡ k = cc in
          subst (λ (i : NodeState). ((work_at i l.me).going ≡ None) × NeedsNoRollback i l) one (waits_none (session_at v.k.sessions l.me.session).call l.phase (work_at v.k l.me).going is_root.waits no_call, λ none. no_code)

-- ---- the session tree of a savepoint

take_whole : {A : Type 0} (xs : List A) → take (length xs) xs ≡ xs
take_whole [] = refl
take_whole (x ∷ xs) = ap (λ ys. x ∷ ys) (take_whole xs)

module _ (t : History) (whole : IsLawfulRun t) (s : Seen) (v : Savepoint) (since : StandsSince t s v) where
  abbrev moment : ℕ
  moment = since.last.moment

  abbrev pub hs1 : List Happening
  hs1 = take (moment + 1) t.trace

  abbrev low1 : moment + 1 ≤ length t.trace
  low1 = let low = since.last.before in omega (arith, low)

  pub here1 : Part t whole hs1
  here1 = record { rest = drop (moment + 1) t.trace; is = take_parts (moment + 1) t.trace }

  pub root_rests : RestsAt (f_at t hs1) s.me
  root_rests =
      let set = since.last.set in
      let cut_there = parted t.trace moment (happenings.Turn set.turn) set.there in
      let one : hs1 ≡ take moment t.trace ++ happenings.Turn set.turn ∷ []
      = ap (λ m. take (m + 1) t.trace) (sym cut_there.2) ∙ (ap (take (length (take moment t.trace) + 1)) (sym cut_there.1) ∙ take_more (take moment t.trace) (happenings.Turn set.turn) cut_there.0) in
      subst (λ xs. RestsAt (f_at t xs) s.me) (sym one) (rests_after t whole (take moment t.trace) set.turn cut_there.0 cut_there.1 s.me v.name set.here set.call set.done)

  abbrev pub tree : List BranchId
  tree = live_tree (f_at t hs1) s.me

  pub spots : (b : BranchId) → is_among b tree ≡ true → Spot (f_at t hs1) tree s.me b
  unfolding live_tree
  spots b is = spot (f_at t hs1) depth_limit s.me b is

  pub all_rest : (b : BranchId) → is_among b tree ≡ true → (l : Live) → live_in (f_at t hs1) b ≡ Some l → Rests t whole hs1 here1 b l
  unfolding live_tree
  all_rest b is l live = all_down (f_at t hs1) (Rests t whole hs1 here1) (λ p y i c z up rests there its. rests_down t whole hs1 here1 p y i c z up rests there its) depth_limit s.me (λ y up. (root_rests y up).1) b is l live

  pub root_live : (b : BranchId) → is_among b tree ≡ true → (l : Live) × (live_in (f_at t hs1) s.me ≡ Some l)
  unfolding live_tree
  root_live b is = root_lives (f_at t hs1) depth_limit s.me b is

  -- there is a root, and it has no parent
  pub rootless : (b : BranchId) → is_among b tree ≡ true → parent_in t s.me ≡ None
  unfolding live_tree
  rootless b is = let it = root_lives (f_at t hs1) depth_limit s.me b is in parent_is t whole hs1 here1 s.me it.0 it.1 ∙ (root_rests it.0 it.1).0

  module _ (b : BranchId) (is : is_among b tree ≡ true) where
    abbrev floors : BranchId → ℕ
    floors c = floor_among tree (tr_at t hs1) c

    pub tops_above : (c : BranchId) → parent_in t c ≡ None → StaysAbove t (moment + 1) (length t.trace) c (floors c)
    tops_above c top = elim (in_or_none t whole hs1 here1 tree s.me spots all_rest (rootless b is) c) [
      | inl in_it ↦ elim (spots c in_it.0).way [
        | inl me ↦ (let floor : floors c ≡ v.step = in_it.1 ∙ (ap (λ d. taken_of (seen_at (tr_at t hs1) d)) me ∙ (ap taken_of since.last.its ∙ since.step)) in
            subst (λ j. StaysAbove t (moment + 1) (length t.trace) c j) (sym floor) (subst (λ d. StaysAbove t (moment + 1) (length t.trace) d v.step) (sym me) since.above))
        | inr below ↦ absurd (let parent = (kid_of t whole hs1 here1 below.parent below.live below.number c below.at below.there).parent in cc (parent, top))
      ]
      | inr none ↦ (λ i u late soon there k goes. subst (λ j. j ≤ k) (sym none) (omega arith))
    ]

    pub unborn : NoneUnborn t floors (moment + 1)
    unborn = none_unborn t whole hs1 here1 tree s.me spots all_rest (rootless b is)

    pub stand : FloorsStand t floors (f_at t hs1)
    stand = floors_stand t whole hs1 here1 tree s.me spots all_rest (rootless b is)

    still : HasStill t (moment + 1) b
    still =
        let taken = floors_taken t whole hs1 here1 tree s.me spots all_rest (rootless b is) in
        let above = branches_stay_above t whole (moment + 1) (length t.trace) low1 (omega arith) floors unborn stand taken tops_above b in
        let l = spots b is in
        let u = up_of t whole hs1 here1 b l.live l.at in
        let told = works t whole hs1 here1 b.node u.k u.up l.live (subst (λ c. live_at u.k c ≡ Some l.live) (sym u.me) u.at) in
        let at : seen_at (tr_at t hs1) b ≡ Some told.0 = subst (λ c. seen_at (tr_at t hs1) c ≡ Some told.0) u.me told.1 in
        let floor : floors b ≡ told.0.taken = ap (λ q. if q then taken_of (seen_at (tr_at t hs1) b) else 0) is ∙ ap taken_of at in
        let stays : StaysAbove t (moment + 1) (length t.trace) b told.0.taken = subst (λ j. StaysAbove t (moment + 1) (length t.trace) b j) floor above in
        let kept = runs_stay t whole (moment + 1) (length t.trace) low1 (omega arith) b told.0 at stays in
        record { old = told.0; its = at; above = stays; now = kept.0; at = ap (λ xs. seen_at (tr_at t xs) b) (sym (take_whole t.trace)) ∙ kept.1; runs = kept.3 }

pub savepoints_hold : SavepointsHold
savepoints_hold t whole s v since b is = still t whole s v since b is

-- ---- what is noted of children

pub children_noted : ChildrenNoted
children_noted t whole s v since b c is in_c l live i there old kid its kid_its =
    let m : List Happening = hs1 t whole s v since in
    let part : Part t whole m = here1 t whole s v since in
    let f1 : Facts = f_at t m in
    let branches : List BranchId = tree t whole s v since in
    let up = up_of t whole m part b l live in
    let mine : live_in f1 l.me ≡ Some l = subst (λ d. live_in f1 d ≡ Some l) (sym up.me) live in
    let its_up = up_of t whole m part l.me l mine in
    let in_it : is_among l.me branches ≡ true = subst (λ d. is_among d branches ≡ true) (sym up.me) is in
    let one : floor_among branches (tr_at t m) c ≡ call_in (calls_in [] (noted_in f1 l.me (floor_among branches (tr_at t m) l.me))) i
    = kid_floor t whole m part branches s.me (spots t whole s v since) (all_rest t whole s v since) (rootless t whole s v since b is) l mine in_it i c there in_c
    ∙ ap (λ o. call_in (calls_in [] (noted_by o l.me (floor_among branches (tr_at t m) l.me))) i) (sym its_up.up) in
    let of_b : floor_among branches (tr_at t m) b ≡ old.taken = ap (λ q. if q then taken_of (seen_at (tr_at t m) b) else 0) is ∙ ap taken_of its in
    let of_c : floor_among branches (tr_at t m) c ≡ kid.taken = ap (λ q. if q then taken_of (seen_at (tr_at t m) c) else 0) in_c ∙ ap taken_of kid_its in
    let two : floor_among branches (tr_at t m) c ≡ call_in (calls_in [] (noted_in f1 b (floor_among branches (tr_at t m) b))) i
    = subst (λ d. floor_among branches (tr_at t m) c ≡ call_in (calls_in [] (noted_in f1 d (floor_among branches (tr_at t m) d))) i) up.me one in
    ap (λ n. call_in (calls_in [] (noted_in f1 b n)) i) (sym of_b) ∙ (sym two ∙ of_c)
