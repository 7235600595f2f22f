-- The tree of a root, at a moment at which the root rests: each child of a live branch that has not been dropped is live, rests, and weighs what the
-- branch holds of it.
use Rattle.std.proofs.Common.{◌≡◌, ◌≢◌, ℕ, ◌+◌, ◌≤◌, true, false, List, length, Option, Some, None, inl, inr, refl, sym, ap, subst, subst₂, ◌∙◌, arith}
use Rattle.dtx_values.specs.Limits.{depth_limit}
use Rattle.tran_ids.proofs.ListedLemmas.{item_is}
use Rattle.session_tree.specs.Live.{children_of}
use Rattle.session_tree.specs.Tree.{weight}
use Rattle.agreement.specs.Events.{Exit, Dropped, exit}
use Rattle.node_rules.specs.Data.{BranchId, Edge}
use Rattle.node_rules.specs.Data.phases
use Rattle.node_rules.specs.Words.{numbered}
use Rattle.node_rules.specs.NodeState.{NodeState, Branch, live_id, live_at, branch_at, work_at, with_work}
use Rattle.node_rules.proofs.StandLemmas.{live_so}
use Rattle.run_rules.specs.Births.{Born, births_of, born_at}
use Rattle.run_base_laws.specs.BirthLaws.{Began, LiveIs}
use Rattle.run_rules.specs.Branches.{is_among}
use Rattle.run_rules.specs.Data.{Happening}
use Rattle.run_rules.specs.Facts.{node_at}
use Rattle.run_base_laws.specs.FreezeLaws.{was_asked}
use Rattle.run_base_laws.specs.InTurnLaws.{said_in, call_at, NeedsNoRollback}
use Rattle.run_rules.specs.Lawful.{History, IsLawfulRun}
use Rattle.run_base_laws.specs.RunEvents.{lives_at}
use Rattle.run_rules.proofs.AtNodeLemmas.{range_of}
use Rattle.run_base_laws.proofs.BirthRunLemmas.{born_are_live_or_left}
use Rattle.run_branch_laws.proofs.FreezeLemmas.{working_or}
use Rattle.run_branch_laws.proofs.FreezeRunLemmas.{asked_stand_still}
use Rattle.run_base_laws.proofs.InTurnLemmas.{none_waits, length_peers}
use Rattle.run_base_laws.proofs.InTurnRunLemmas.{branches_call_in_turn}
use Rattle.run_base_laws.proofs.KidLemmas.{child_of}
use Rattle.run_base_laws.proofs.NodesStandLemmas.{some_or_none}
use Rattle.tree_laws.proofs.ForestLemmas as trees
use Rattle.tree_laws.proofs.PrefixLemmas.{e_at}
use Rattle.tree_laws.proofs.SettleRunLemmas.{known}
use Rattle.tree_cover_laws.specs.GoneLaws.{ToldWell, HasGone}
use Rattle.tree_cover_laws.proofs.WellRunLemmas.{branches_hold_well}
use Rattle.tree_laws.specs.DecideLaws.{live_of, live_in, InTree, Is_child}
use Rattle.tree_laws.proofs.FateLemmas.{among_found}
use Rattle.tree_laws.proofs.FrozenLemmas.{Found, edge_to}
use Rattle.tree_laws.proofs.HeardLemmas.{left_were_asked}
use Rattle.tree_laws.proofs.MemberLemmas.{BornBelow, born_below}
use Rattle.tree_laws.proofs.ShallowLemmas.{parents_are_shallow}
use Rattle.tree_laws.proofs.TimeLemmas.{Part, part_lawful}
use Rattle.tree_laws.proofs.WeighLemmas.{children_weigh, child_parent, placed_of}
use Rattle.tree_laws.proofs.AtPart.{at_part}

module _ (t : History) (whole : IsLawfulRun t) (hs0 : List Happening) (part0 : Part t whole hs0) (r : BranchId) where
  open at_part t hs0 use {f as f0, s as s0}

  pub lawful0 : IsLawfulRun s0
  lawful0 = part_lawful t whole hs0 part0

  -- A live branch of the tree that is working, and waits for nothing.
  pub record Stands (x : Branch) : Type 0 where
    pub here : Found t whole hs0 x
    pub working : x.live.phase ≡ phases.Working
    pub goes : NeedsNoRollback here.kept x.live
    pub waits : x.work.going ≡ None
    pub root : x.live.root ≡ r
    pub tree : InTree f0 r x.live.me
    pub low : x.live.depth ≤ depth_limit
    pub fine : HasGone x.work → ⊥

  -- it is live
  pub stands_live : (x : Branch) → Stands x → (c : BranchId) → x.live.me ≡ c → live_in f0 c ≡ Some x.live
  stands_live x it c me =
      subst (λ b. live_in f0 b ≡ Some x.live) me (ap (λ o. live_of o x.live.me) it.here.up ∙ live_so it.here.kept x.live.me x it.here.found)

  -- as it began
  pub placed : (x : Branch) → Stands x → LiveIs (Began (births_of s0)) x.live
  placed x it = placed_of s0 lawful0 x.live.me.node it.here.kept it.here.up x it.here.found

  -- it has asked nobody
  pub unasked : (x : Branch) → Stands x → (c : BranchId) → was_asked (said_in f0) x.live.me c ≡ false
  unasked x it c = (asked_stand_still s0 lawful0 x.live.me.node it.here.kept it.here.up x it.here.found).0 it.working c

  -- a branch with a child is not too deep
  pub shallow : (x : Branch) → Stands x → (i : ℕ) (c : BranchId) → numbered (children_of x.live) i ≡ Some c → x.live.depth + 1 ≤ depth_limit
  shallow x it i c at =
      let range = range_of (children_of x.live) i c at in
      let below : 1 ≤ length (children_of x.live) = omega (arith, range.0, range.1) in
      parents_are_shallow s0 lawful0 x.live.me.node it.here.kept it.here.up x it.here.found (subst (λ n. 1 ≤ n) (length_peers x.live.edges) below)

  module _ (x : Branch) (it : Stands x) (i : ℕ) (c : BranchId) (at : numbered (children_of x.live) i ≡ Some c) (kept_in : exit (e_at t hs0) c ≢ Some Dropped) where
    below : BornBelow (births_of s0) c x.live.me
    below = born_below (births_of s0) c x.live.me (child_of (births_of s0) x.live (placed x it) i c at)

    inside : InTree f0 r c
    inside = Is_child x.live.me c x.live i it.tree (stands_live x it x.live.me refl) at

    -- it has not left
    not_left : (z : Exit) → exit (e_at t hs0) c ≡ Some z → ⊥
    not_left z left =
        let heard = left_were_asked s0 lawful0 c z left (λ dropped. kept_in (left ∙ ap Some dropped)) in
        let two : Some heard.0 ≡ Some below.born = sym heard.1 ∙ (ap (born_at (births_of s0)) (heard.2 ∙ sym below.is_me) ∙ below.began) in
        let born : heard.0 ≡ below.born = cc in
        let yes : was_asked (said_in f0) x.live.me c ≡ true = heard.3 x.live.me (ap (λ (b : Born). b.parent) born ∙ below.is_parent) in
        let no : was_asked (said_in f0) x.live.me c ≡ false = unasked x it c in
        absurd (cc (yes, no))

    -- A child, with the edge to it.
    pub record Kid : Type 0 where
      pub branch : Branch
      pub is_me : branch.live.me ≡ c
      pub stands : Stands branch
      pub edge : Edge
      pub place : numbered x.live.edges i ≡ Some edge
      pub weighs : edge.weight ≡ weight branch.live
      pub parent : branch.live.parent ≡ Some x.live.me
      pub deeper : branch.live.depth ≡ x.live.depth + 1

    module _ (j : NodeState) (y : Branch) (up : node_at f0 c.node ≡ Some j) (found : branch_at j y.live.me ≡ Some y) (me : y.live.me ≡ c) where
      parent_so : y.live.parent ≡ Some x.live.me
      parent_so = child_parent s0 lawful0 x.live.me.node it.here.kept it.here.up x it.here.found i c at c.node j up y found me

      here_so : Found t whole hs0 y
      here_so = record { kept = j; up = subst (λ b. node_at f0 b.node ≡ Some j) (sym me) up; found = found }

      works : y.live.phase ≡ phases.Working
      works = elim (working_or y.live.phase) [
        | inl working ↦ working
        | inr other ↦ (let yes : was_asked (said_in f0) x.live.me y.live.me ≡ true = (((asked_stand_still s0 lawful0 c.node j up y found).1 other).1 x.live.me parent_so).0 in
            let no : was_asked (said_in f0) x.live.me y.live.me ≡ false = unasked x it y.live.me in
            absurd (cc (yes, no)))
      ]

      its : LiveIs (Began (births_of s0)) y.live
      its = placed_of s0 lawful0 c.node j up y found

      -- its parent as that began
      above : trees.Below (births_of s0) (said_in f0) (known s0 lawful0) its.born x.live.me
      above = trees.below_of (births_of s0) (said_in f0) (known s0 lawful0) its.born x.live.me its.began (its.is_parent ∙ parent_so)

      one : above.up ≡ (placed x it).born
      one = trees.same_born (births_of s0) (said_in f0) (known s0 lawful0) above.up (placed x it).born above.began (placed x it).began (above.is_me ∙ sym (placed x it).is_me)

      deeper_so : y.live.depth ≡ x.live.depth + 1
      deeper_so = sym its.is_depth ∙ (sym above.deeper ∙ ap (λ d. d + 1) (ap (λ (b : Born). b.depth) one ∙ (placed x it).is_depth))

      -- it has not refused a call as gone
      told : (e : Edge) → numbered x.live.edges i ≡ Some e → ToldWell (said_in f0) e.peer (call_at x.work i) e.weight
      told e there = elim ((branches_hold_well s0 lawful0 x.live.me.node it.here.kept it.here.up x it.here.found).held it.goes i e there) [
        | inl waiting ↦ absurd (none_waits i x.work.going it.waits waiting)
        | inr other ↦ elim other [ inl is ↦ is | inr gone ↦ absurd (it.fine gone) ]
      ]

      fine_kid : HasGone y.work → ⊥
      fine_kid gone =
          let edge = edge_to x.live.edges i c at in
          let peer_at : numbered (children_of x.live) i ≡ Some y.live.me = at ∙ ap Some (sym me) in
          let made = (branches_call_in_turn s0 lawful0 x.live.me.node it.here.kept it.here.up x it.here.found).1.made i y.live.me peer_at in
          let rests = children_weigh s0 lawful0 x.live.me.node it.here.kept it.here.up x it.here.found it.goes it.waits i edge.0 edge.1 c.node j up y found (me ∙ sym edge.2) in
          (branches_hold_well s0 lawful0 c.node j up y found).kept gone edge.0.weight (subst₂ (λ b n. ToldWell (said_in f0) b n edge.0.weight) (edge.2 ∙ sym me) (sym made ∙ rests.last) (told edge.0 edge.1))

      found_kid : Kid
      found_kid =
          let edge = edge_to x.live.edges i c at in
          let rests = children_weigh s0 lawful0 x.live.me.node it.here.kept it.here.up x it.here.found it.goes it.waits i edge.0 edge.1 c.node j up y found (me ∙ sym edge.2) in
          record {
            branch = y;
            is_me = me;
            stands = record {
              here = here_so;
              working = works;
              goes = λ top. (let above_it = parent_so in absurd (cc (top, above_it)));
              waits = rests.waits;
              root = sym its.is_root ∙ (sym above.is_root ∙ (ap (λ (b : Born). b.root) one ∙ ((placed x it).is_root ∙ it.root)));
              tree = subst (InTree f0 r) (sym me) inside;
              low = subst (λ d. d ≤ depth_limit) (sym deeper_so) (shallow x it i c at);
              fine = fine_kid;
            };
            edge = edge.0;
            place = edge.1;
            weighs = rests.weighs;
            parent = parent_so;
            deeper = deeper_so;
          }

    -- each child is such a one
    pub kid_of : Kid
    kid_of = elim (born_are_live_or_left s0 lawful0 c (λ no. (let at_c : born_at (births_of s0) c ≡ Some below.born = subst (λ b. born_at (births_of s0) b ≡ Some below.born) below.is_me below.began in absurd (cc (no, at_c))))) [
      | inl left ↦ elim (some_or_none (exit (e_at t hs0) c)) [ inl some ↦ absurd (not_left some.0 some.1) | inr still ↦ absurd (left still) ]
      | inr among ↦ by (node_at f0 c.node) refl among
    ]
      where
        by : (o : Option NodeState) → node_at f0 c.node ≡ o → is_among c (lives_at o) ≡ true → Kid
        by None is among = absurd cc
        by (Some j) is among =
            let l = among_found j.lives c among in
            let me : l.0.me ≡ c = item_is live_id j.lives c l.0 l.1 in
            found_kid j (record { live = l.0; work = work_at j l.0.me }) is (ap (with_work j) (subst (λ b. live_at j b ≡ Some l.0) (sym me) l.1)) me
