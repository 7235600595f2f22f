-- In every lawful run, a branch of a tree that is decided: as it was when the COMMIT came, and as it ended.
use Rattle.std.proofs.Common.{◌≡◌, ◌≢◌, ℕ, zero, suc, ◌⊎◌, true, List, [], unwrap_or, Option, Some, None, inl, inr, refl, sym, ap, subst, ◌∙◌, append-nil}
use Rattle.session_tree.specs.Live.{children_of}
use Rattle.session_tree.specs.Tree.{weight, step}
use Rattle.session_tree.specs.declared.act.Walk.TheVariants as walks
use Rattle.agreement.specs.Events.{Exit, Sealed, Decided, Quiet, Dropped, exit}
use Rattle.node_rules.specs.Data.{BranchId, Live}
use Rattle.node_rules.specs.Words.{numbered}
use Rattle.node_rules.specs.NodeState.{NodeState, Branch, live_id, branch_at}
use Rattle.node_rules.proofs.StandLemmas.{live_so}
use Rattle.run_rules.specs.Data.{Happening}
use Rattle.run_rules.specs.Facts.{Facts, node_at}
use Rattle.run_rules.specs.Lawful.{History, IsLawfulRun, facts_at}
use Rattle.run_rules.specs.Births.{births_of}
use Rattle.run_base_laws.specs.BirthLaws.{Began, LiveIs}
use Rattle.run_base_laws.specs.FreezeLaws.{was_asked}
use Rattle.run_base_laws.specs.InTurnLaws.{said_in}
use Rattle.run_base_laws.specs.RunEvents.{events_of}
use Rattle.run_branch_laws.specs.WalkLaws.{is_below, was_sent}
use Rattle.run_base_laws.proofs.EventsStandLemmas.{nodes_are_as_events}
use Rattle.run_base_laws.proofs.OwnLemmas.{all_found}
use Rattle.tree_laws.specs.Forests.{told_below, walk_from}
use Rattle.tree_laws.proofs.ForestLemmas.{told_sent}
use Rattle.tree_laws.proofs.PrefixLemmas.{so_far, f_at}
use Rattle.tree_laws.specs.DecideLaws.{live_of, live_in, WalksTo, Ends_here, Goes_down, InTree, Is_root, Is_child}
use Rattle.tree_laws.specs.LeaveLaws.{EndsAs}
use Rattle.tree_laws.proofs.CoverLemmas.{one_decides, asked_well}
use Rattle.tree_laws.proofs.FrozenLemmas.{State, Here, Left, PointsTo, Member}
use Rattle.tree_laws.proofs.MemberLemmas.{IsIn, kid_of}
use Rattle.tree_laws.proofs.TimeLemmas.{Part, part_lawful, born_end}
use Rattle.tree_laws.proofs.WeighLemmas.{placed_of}

module _ (t : History) (whole : IsLawfulRun t) (hs0 : List Happening) (part0 : Part t whole hs0) (r : BranchId) where
  abbrev f0 : Facts
  f0 = f_at t hs0

  -- it is live
  member_live : (x : Branch) → Member t whole hs0 part0 r x → (c : BranchId) → x.live.me ≡ c → live_in f0 c ≡ Some x.live
  member_live x member c me =
      subst (λ b. live_in f0 b ≡ Some x.live) me (ap (λ o. live_of o x.live.me) member.here.up ∙ live_so member.here.kept x.live.me x member.here.found)

  -- at the end it has left
  end_state : (x : Branch) → Member t whole hs0 part0 r x → State t whole x t.trace
  end_state x member = member.state t.trace (part0.rest, part0.is) (record { rest = []; is = append-nil t.trace })

  -- it has left without a rollback
  abbrev pub LeavesWell : BranchId → Type 0
  LeavesWell c = (z : Exit) × (exit (events_of t) c ≡ Some z) × (z ≢ Dropped)

  module _ (x : Branch) (member : Member t whole hs0 part0 r x) (left_well : LeavesWell x.live.me) where
    not_here : (k : NodeState) (y : Branch) → node_at (facts_at t) x.live.me.node ≡ Some k → branch_at k y.live.me ≡ Some y → y.live.me ≡ x.live.me → ⊥
    not_here k y up found me =
        let none : exit (events_of t) y.live.me ≡ None = all_found (λ (l : Live). exit (events_of t) l.me ≡ None) live_id k.lives y.live.me y.live (nodes_are_as_events t whole x.live.me.node k up).0 (live_so k y.live.me y found) in
        let some : exit (events_of t) y.live.me ≡ Some left_well.0 = subst (λ b. exit (events_of t) b ≡ Some left_well.0) (sym me) left_well.1 in
        absurd (cc (none, some))

    pub member_ends : (z : Exit) → exit (events_of t) x.live.me ≡ Some z → EndsAs x.live z
    member_ends z left = by (end_state x member)
      where
        by : State t whole x t.trace → EndsAs x.live z
        by (Here k y up found me same) = absurd (not_here k y up found me)
        by (Left w gone kids ends told) = (let both : Some w ≡ Some z = sym gone ∙ left in let it : w ≡ z = cc in subst (EndsAs x.live) it ends)

    pub member_told : (c : BranchId) → was_sent is_below (said_in (facts_at t)) x.live.me c ≡ true → PointsTo x.live c
    member_told c sent = by (end_state x member)
      where
        by : State t whole x t.trace → PointsTo x.live c
        by (Here k y up found me same) = absurd (not_here k y up found me)
        by (Left w gone kids ends told) = told c sent

  module _ (b : BranchId) (n : ℕ) (decided : exit (events_of t) b ≡ Some (Decided n)) (inside : IsIn (births_of t) r b) where
    covered : (q c : BranchId) → was_asked (said_in (facts_at t)) q c ≡ true → IsIn (births_of t) r c → (z : Exit) × (exit (events_of t) c ≡ Some z) × (z ≢ Dropped)
    covered = asked_well t whole b n decided r inside

    -- the walk that Prepares told is that of the weights
    pub walks_down : (m : ℕ) (x : Branch) → Member t whole hs0 part0 r x → LeavesWell x.live.me → (c : BranchId) → x.live.me ≡ c → walk_from (said_in (facts_at t)) m c ≡ b → WalksTo f0 c b
    walks_down zero x member well c me is =
        let here : x.live.me ≡ b = me ∙ is in
        let ends : step x.live ≡ walks.Here = member_ends x member well (Decided n) (subst (λ d. exit (events_of t) d ≡ Some (Decided n)) (sym here) decided) in
        subst (λ d. WalksTo f0 c d) is (Ends_here x.live c (member_live x member c me) ends)
    walks_down (suc m) x member well c me is = by (told_below (said_in (facts_at t)) c) refl (λ y its good d same so. walks_down m y its good d same so)
      where
        by : (o : Option BranchId) → told_below (said_in (facts_at t)) c ≡ o → ((y : Branch) → Member t whole hs0 part0 r y → LeavesWell y.live.me → (d : BranchId) → y.live.me ≡ d → walk_from (said_in (facts_at t)) m d ≡ b → WalksTo f0 d b) → WalksTo f0 c b
        by None none further = further x member well c me (subst (λ o. walk_from (said_in (facts_at t)) m (unwrap_or o c) ≡ b) none is)
        by (Some d) told further =
            let sent : was_sent is_below (said_in (facts_at t)) c d ≡ true = told_sent (said_in (facts_at t)) c d told in
            let down : PointsTo x.live d = member_told x member well d (subst (λ a. was_sent is_below (said_in (facts_at t)) a d ≡ true) (sym me) sent) in
            let k = kid_of t whole hs0 part0 r covered x member down.0 d down.2 in
            Goes_down x.live down.0 c d b (member_live x member c me) down.1 down.2 (further k.branch k.is_member (k.leaves.0, subst (λ a. exit (events_of t) a ≡ Some k.leaves.0) (sym k.is_me) k.leaves.1, k.leaves.2) d k.is_me (subst (λ o. walk_from (said_in (facts_at t)) m (unwrap_or o c) ≡ b) told is))

    -- each branch of the tree is such a one
    pub record InIt (c : BranchId) : Type 0 where
      pub branch : Branch
      pub is_me : branch.live.me ≡ c
      pub member : Member t whole hs0 part0 r branch
      pub leaves : LeavesWell c

    pub in_it : (x : Branch) → Member t whole hs0 part0 r x → LeavesWell r → x.live.me ≡ r → (c : BranchId) → InTree f0 r c → InIt c
    in_it x member well me c Is_root = record { branch = x; is_me = me; member = member; leaves = well }
    in_it x member well me c (Is_child p _ l i above live at) =
        let up = in_it x member well me p above in
        let both : Some up.branch.live ≡ Some l = sym (member_live up.branch up.member p up.is_me) ∙ live in
        let it : up.branch.live ≡ l = cc in
        let k = kid_of t whole hs0 part0 r covered up.branch up.member i c (subst (λ (z : Live). numbered (children_of z) i ≡ Some c) (sym it) at) in
        record { branch = k.branch; is_me = k.is_me; member = k.is_member; leaves = k.leaves }

    pub member_in : (z : Branch) → Member t whole hs0 part0 r z → (c : BranchId) → z.live.me ≡ c → IsIn (births_of t) r c
    member_in z member c me =
        let its : LiveIs (Began (births_of (so_far t hs0))) z.live = placed_of (so_far t hs0) (part_lawful t whole hs0 part0) z.live.me.node member.here.kept member.here.up z member.here.found in
        (its.born, born_end t whole hs0 part0 its.born its.began, its.is_me ∙ me, its.is_root ∙ member.root)

    pub covers_it : (c : BranchId) → InIt c → (l : Live) × (live_in f0 c ≡ Some l) × ((c ≡ b) ⊎ (((m : ℕ) × (exit (events_of t) c ≡ Some (Sealed m))) ⊎ (weight l ≡ None)))
    covers_it c it = (it.branch.live, member_live it.branch it.member c it.is_me, by it.leaves.0 it.leaves.1 it.leaves.2)
      where
        by : (z : Exit) → exit (events_of t) c ≡ Some z → z ≢ Dropped → (c ≡ b) ⊎ (((m : ℕ) × (exit (events_of t) c ≡ Some (Sealed m))) ⊎ (weight it.branch.live ≡ None))
        by (Sealed m) left other = inr (inl (m, left))
        by Quiet left other = inr (inr (member_ends it.branch it.member (it.leaves.0, subst (λ d. exit (events_of t) d ≡ Some it.leaves.0) (sym it.is_me) it.leaves.1, it.leaves.2) Quiet (subst (λ d. exit (events_of t) d ≡ Some Quiet) (sym it.is_me) left)))
        by Dropped left other = absurd (other refl)
        by (Decided m) left other = inl (one_decides t whole b n decided r inside c m left (member_in it.branch it.member c it.is_me))
