-- A calm turn in which a question comes: what was so of undecided rows and live branches stays so.
use Rattle.std.proofs.Common.{◌≡◌, ◌≢◌, ℕ, zero, suc, ◌⊎◌, Bool, true, false, if◌then◌else◌, List, [], ◌∷◌, slice_get, Option, Some, None, inl, inr, refl, sym, ap, subst, ◌∙◌}
use Rattle.std.specs.List.{AllByRecursion}
use Rattle.tran_ids.proofs.BranchLemmas.{equal_from_same, same_from_equal}
use Rattle.tran_ids.proofs.ListedLemmas.{item_is, drop_leaves}
use Rattle.commit_forget.specs.Beyond.{is_neighbor}
use Rattle.net_bag.specs.Net.{lost_at_once}
use Rattle.reco.specs.declared.told.Told.{Told}
use Rattle.reco.specs.declared.told.Told.TheVariants as tolds
use Rattle.session_tree.specs.Live.{is_branch, children_of}
use Rattle.node_rules.specs.Data.{BranchId, Decision, Kind, Live, Msg, Phase, Place, Post, KeptRow}
use Rattle.node_rules.specs.Data.decisions
use Rattle.node_rules.specs.Data.inputs
use Rattle.node_rules.specs.Data.kinds
use Rattle.node_rules.specs.Data.phases
use Rattle.node_rules.specs.Words.{same, item_at, numbered}
use Rattle.node_rules.specs.NodeState.{NodeState, Branch, TurnDraft, saying, post, post_one, live_at, live_id, kept_row_at, kept_row_id, branch_at, work_at}
use Rattle.node_rules.specs.Prepare.{drops}
use Rattle.node_rules.specs.Recovery.{told_by, told_kind, tells, on_ask, on_ask_told, on_ask_kept}
use Rattle.node_rules.specs.Turn.{draft_of, heard, kind_turn, ask_turn, status_of, live_or}
use Rattle.node_rules.proofs.StandLemmas.{live_so}
use Rattle.run_rules.specs.Births.{Born, born_at, births_of}
use Rattle.run_base_laws.specs.BirthLaws.{Began, KeptIs, LiveIs, TowardIs}
use Rattle.run_rules.specs.Data.{Took, Turn}
use Rattle.run_rules.specs.Data.happenings
use Rattle.run_rules.specs.Facts.{Facts, place_at, node_at, taken, facts_after}
use Rattle.run_base_laws.specs.FreezeLaws.{was_asked}
use Rattle.run_base_laws.specs.InTurnLaws.{said_in}
use Rattle.run_rules.specs.Lawful.{MayTurn, History, IsLawfulRun}
use Rattle.run_rules.specs.Trail.{is_prepare}
use Rattle.run_base_laws.specs.EventRows.{RowIs, IsKnown}
use Rattle.run_base_laws.specs.RunEvents.{events_of}
use Rattle.agreement.specs.Events.{Sealed, exit}
use Rattle.run_rules.proofs.AtNodeLemmas.{turn_elsewhere}
use Rattle.run_base_laws.proofs.BirthRunLemmas.{nodes_name_the_born}
use Rattle.run_base_laws.proofs.EventsStandLemmas.{nodes_are_as_events}
use Rattle.run_branch_laws.proofs.FreezeRunLemmas.{asked_stand_still}
use Rattle.run_rules.proofs.ListLemmas.{all_weaker, all_each}
use Rattle.run_base_laws.proofs.OwnLemmas.{all_found, all_without}
use Rattle.run_base_laws.proofs.TurnEventLemmas.{all_both, cases_nat}
use Rattle.tree_laws.proofs.AskRunLemmas.{edges_asked}
use Rattle.tree_laws.proofs.PrefixLemmas.{f_at}
use Rattle.commit_laws.proofs.ListLemmas.{IsIn}
use Rattle.settle_laws.specs.OverLaws.{is_rollback}
use Rattle.settle_laws.specs.Interval.{Flies, is_ask, is_point, is_decision, LivesAt, RowNamesAnother, Sought, Asks, Points, Is_told, In_doubt, Under_live, Watched, Asks_up, Is_rolled, Up_lives, Up_names, Unasked, Obliged}
use Rattle.settle_laws.proofs.CalmTurn.{calm}
use Rattle.settle_laws.proofs.UndecidedLemmas.{asked_above}
use Rattle.settle_laws.proofs.FlyLemmas.{in_map}
use Rattle.settle_laws.proofs.RecoTurnLemmas.{unasked_on}

-- ---- whom a live branch asked is one of its children

in_slice : {A : Type 0} (xs : List A) (j : ℕ) (a : A) → slice_get xs j ≡ Some a → IsIn a xs
in_slice [] j a is = absurd cc
in_slice (x ∷ xs) zero a is = inl (let it : x ≡ a = cc in it)
in_slice (x ∷ xs) (suc j) a is = inr (in_slice xs j a is)

in_number : {A : Type 0} (xs : List A) (j : ℕ) (a : A) → numbered xs j ≡ Some a → IsIn a xs
in_number xs zero a is = absurd cc
in_number xs (suc j) a is = in_slice xs j a is

pub asked_child : (t : History) → IsLawfulRun t → (n : ℕ) (k : NodeState) → node_at (f_at t t.trace) n ≡ Some k → (l : Live) → live_at k l.me ≡ Some l → (c : BranchId) → was_asked (said_in (f_at t t.trace)) l.me c ≡ true
    → IsIn c (children_of l)
asked_child t whole n k up l live c asked = by l.phase refl
  where
    branch : branch_at k l.me ≡ Some (record { live = l; work = work_at k l.me })
    branch = ap (λ (o : Option Live). with_it o) live
      where
        with_it : Option Live → Option Branch
        with_it None = None
        with_it (Some x) = Some (record { live = x; work = work_at k x.me })

    asks : l.phase ≢ phases.Working → IsIn c (children_of l)
    asks other = (let at = (edges_asked t whole n k up l live other).1 c asked in in_number (children_of l) at.0 c at.1)

    by : (q : Phase) → l.phase ≡ q → IsIn c (children_of l)
    by phases.Working is =
        let never = (asked_stand_still t whole n k up (record { live = l; work = work_at k l.me }) branch).0 is c in
        absurd (cc (never, asked))
    by (phases.Collecting b) is = asks (λ no. (let it = no in absurd (cc (is, it))))
    by phases.Ready is = asks (λ no. (let it = no in absurd (cc (is, it))))

module _ (t : History) (s_lawful : IsLawfulRun t) (u : Turn) (k : NodeState) where
  abbrev pub f : Facts
  f = f_at t t.trace

  abbrev pub g : Facts
  g = facts_after t.places t.commands f (happenings.Turn u)

  module _ (may : MayTurn t.places f u k) (uncut : u.cut ≡ false) (none : lost_at_once (taken f.net u.took) u.sent ≡ []) (m : Msg) (it : u.input ≡ inputs.Message m) (kind : m.kind ≡ kinds.Ask)
      (y : Took) (took : u.took ≡ Some y) where
    abbrev p : Place
    p = place_at t.places u.node

    abbrev k0 : NodeState
    k0 = heard k (inputs.Message m)

    abbrev d : TurnDraft
    d = ask_turn k0 m.from m.to (status_of k0 m.to)

    draft_is : draft_of p k u.input ≡ d
    draft_is = ap (draft_of p k) it ∙ ap (λ x. kind_turn p k0 m.from m.to x (status_of k0 m.to)) kind

    open calm t s_lawful u k may uncut none m it y took d draft_is use {even, comes, at_to, here, up_to, here_to, said_now, post_flies, flown}

    -- ---- what the turn does

    -- The receiver is gone, or its row does not name who asks: it answers RolledBack. Or its row names it, and it tells what it
    -- knows. Or it is live, and does not know; or its parent asks, and it rolls back.
    data Result (x : TurnDraft) : Type 0 where
      Rolls : x ≡ saying k0 (post m.to m.from kinds.RolledBack) → Result x
      Row_tells : (s : KeptRow) → kept_row_at k m.to ≡ Some s → is_neighbor s m.from ≡ true → x ≡ saying k0 (post m.to m.from (tells s.decision)) → Result x
      Doubts : (l : Live) → live_at k m.to ≡ Some l → is_branch m.from l.parent ≡ false → x ≡ saying k0 (post m.to m.from kinds.InDoubt) → Result x
      Dropped : (l : Live) → live_at k m.to ≡ Some l → x ≡ drops k0 l (post m.to m.from kinds.RolledBack) → Result x

    row_result : (s : KeptRow) → kept_row_at k m.to ≡ Some s → Result (on_ask_kept k0 s m.from)
    row_result s at = by (is_neighbor s m.from) refl
      where
        me : s.me ≡ m.to
        me = item_is kept_row_id k.stored.durable.kept m.to s at

        by : (q : Bool) → is_neighbor s m.from ≡ q → Result (on_ask_kept k0 s m.from)
        by true near = Row_tells s at near (ap (λ (x : Told). saying k0 (post s.me m.from (told_kind x))) (ap (λ w. if w then told_by s.decision else tolds.RolledBack) near) ∙ ap (λ b. saying k0 (post b m.from (tells s.decision))) me)
        by false far = Rolls (ap (λ (x : Told). saying k0 (post s.me m.from (told_kind x))) (ap (λ w. if w then told_by s.decision else tolds.RolledBack) far) ∙ ap (λ b. saying k0 (post b m.from kinds.RolledBack)) me)

    live_result : (l : Live) → live_at k m.to ≡ Some l → Result (on_ask k0 l m.from)
    live_result l at = by (is_branch m.from l.parent) refl
      where
        me : l.me ≡ m.to
        me = item_is live_id k.lives m.to l at

        by : (q : Bool) → is_branch m.from l.parent ≡ q → Result (on_ask k0 l m.from)
        by true up = Dropped l at (ap (λ w. on_ask_told k0 l m.from (if w then tolds.RollBackFirst else tolds.InDoubt)) up ∙ ap (λ b. drops k0 l (post b m.from kinds.RolledBack)) me)
        by false other = Doubts l at other (ap (λ w. on_ask_told k0 l m.from (if w then tolds.RollBackFirst else tolds.InDoubt)) other ∙ ap (λ b. saying k0 (post b m.from kinds.InDoubt)) me)

    result_by : (o : Option Branch) (q : Option KeptRow) → branch_at k m.to ≡ o → kept_row_at k m.to ≡ q → Result (ask_turn k0 m.from m.to (live_or o q))
    result_by (Some x) q live at = live_result x.live (live_so k m.to x live)
    result_by None (Some s) live at = row_result s at
    result_by None None live at = Rolls refl

    result : Result d
    unfolding status_of
    result = result_by (branch_at k m.to) (kept_row_at k m.to) refl refl

    -- ---- what it leaves

    abbrev ks : List KeptRow
    ks = k.stored.durable.kept

    rows_of : (x : TurnDraft) → Result x → x.after.stored.durable.kept ≡ ks
    rows_of x (Rolls is) = ap (λ (z : TurnDraft). z.after.stored.durable.kept) is
    rows_of x (Row_tells s at near is) = ap (λ (z : TurnDraft). z.after.stored.durable.kept) is
    rows_of x (Doubts l at other is) = ap (λ (z : TurnDraft). z.after.stored.durable.kept) is
    rows_of x (Dropped l at is) = ap (λ (z : TurnDraft). z.after.stored.durable.kept) is

    no_prepare : (x : TurnDraft) → Result x → AllByRecursion (λ (z : Post). is_prepare z.kind ≡ false) x.says
    no_prepare x (Rolls is) = subst (λ (z : TurnDraft). AllByRecursion (λ (a : Post). is_prepare a.kind ≡ false) z.says) (sym is) (refl, tt)
    no_prepare x (Row_tells s at near is) = subst (λ (z : TurnDraft). AllByRecursion (λ (a : Post). is_prepare a.kind ≡ false) z.says) (sym is) (by s.decision, tt)
      where
        by : (o : Option Decision) → is_prepare (tells o) ≡ false
        by None = refl
        by (Some (decisions.Commit n)) = refl
        by (Some decisions.Rollback) = refl
    no_prepare x (Doubts l at other is) = subst (λ (z : TurnDraft). AllByRecursion (λ (a : Post). is_prepare a.kind ≡ false) z.says) (sym is) (refl, tt)
    no_prepare x (Dropped l at is) =
        subst (λ (z : TurnDraft). AllByRecursion (λ (a : Post). is_prepare a.kind ≡ false) z.says) (sym is) (refl, all_each (λ (a : Post). is_prepare a.kind ≡ false) (post_one l.me kinds.Rollback) (children_of l) (λ b. refl))

    -- what a node keeps after, of what it kept
    row_nodes : (n : ℕ) (i : NodeState) → node_at f n ≡ Some i → (j : NodeState) × (node_at g n ≡ Some j) × (j.stored.durable.kept ≡ i.stored.durable.kept)
    row_nodes n i up = elim (cases_nat u.node n) [
      | inl at ↦ (let both : Some k ≡ Some i = sym may.up ∙ subst (λ x. node_at f x ≡ Some i) (sym at) up in let same_node : k ≡ i = cc in
          (d.after, subst (λ x. node_at g x ≡ Some d.after) at here, rows_of d result ∙ ap (λ (x : NodeState). x.stored.durable.kept) same_node))
      | inr other ↦ (i, (turn_elsewhere t.places t.commands f even u n other).0 ∙ up, refl)
    ]

    names_on : (b z : BranchId) (r : RowNamesAnother f b z) → (w : RowNamesAnother g b z) × (w.row ≡ r.row)
    names_on b z r =
        let now = row_nodes b.node r.node r.up in
        (record { node = now.0; up = now.1; row = r.row; found = ap (λ xs. item_at kept_row_id xs b) now.2 ∙ r.found; names = r.names }, refl)

    -- a branch that is live is live after, or was dropped
    lives_on : (b : BranchId) → LivesAt f b → LivesAt g b ⊎ ((l : Live) × (live_at k m.to ≡ Some l) × (b ≡ m.to) × (d ≡ drops k0 l (post m.to m.from kinds.RolledBack)))
    lives_on b x = elim (cases_nat u.node b.node) [
      | inr other ↦ inl (record { node = x.node; up = (turn_elsewhere t.places t.commands f even u b.node other).0 ∙ x.up; live = x.live; found = x.found })
      | inl at ↦ (let both : Some k ≡ Some x.node = sym may.up ∙ subst (λ n. node_at f n ≡ Some x.node) (sym at) x.up in let same_node : k ≡ x.node = cc in
          at_node (subst (λ n. node_at g n ≡ Some d.after) at here) (subst (λ (z : NodeState). live_at z b ≡ Some x.live) (sym same_node) x.found) result)
    ]
      where
        still : node_at g b.node ≡ Some d.after → live_at k b ≡ Some x.live → (says : List Post) → d ≡ saying k0 says → LivesAt g b
        still up found says is = record { node = d.after; up = up; live = x.live; found = ap (λ (z : TurnDraft). live_at z.after b) is ∙ found }

        at_node : node_at g b.node ≡ Some d.after → live_at k b ≡ Some x.live → Result d → LivesAt g b ⊎ ((l : Live) × (live_at k m.to ≡ Some l) × (b ≡ m.to) × (d ≡ drops k0 l (post m.to m.from kinds.RolledBack)))
        at_node up found (Rolls is) = inl (still up found _ is)
        at_node up found (Row_tells s at near is) = inl (still up found _ is)
        at_node up found (Doubts l at other is) = inl (still up found _ is)
        at_node up found (Dropped l at is) = by (same m.to b) refl
          where
            me : l.me ≡ m.to
            me = item_is live_id k.lives m.to l at

            by : (q : Bool) → same m.to b ≡ q → LivesAt g b ⊎ ((c : Live) × (live_at k m.to ≡ Some c) × (b ≡ m.to) × (d ≡ drops k0 c (post m.to m.from kinds.RolledBack)))
            by true that = inr (l, at, sym (equal_from_same m.to b that), is)
            by false other = inl (record {
              node = d.after;
              up = up;
              live = x.live;
              found = ap (λ (z : TurnDraft). live_at z.after b) is ∙ (drop_leaves live_id k.lives l.me b (ap (λ c. same c b) me ∙ other) ∙ found);
            })

    -- ---- messages

    -- one that is no question flies on
    flies_on : (test : Kind → Bool) (a b : BranchId) → test kinds.Ask ≡ false → Flies test f a b → Flies test g a b
    flies_on test a b no_ask fly = elim (flown test a b fly) [
      | inl on ↦ on
      | inr taken_one ↦ (let yes : test kinds.Ask ≡ true = ap test (sym kind) ∙ taken_one.2 in absurd (cc (yes, no_ask)))
    ]

    told_flies : (test : Kind → Bool) (x : Kind) → IsIn (post_one m.to x m.from) d.says → test x ≡ true → Flies test g m.to m.from
    told_flies test x at is = post_flies test (post_one m.to x m.from) at is

    says_one : (x : Kind) → d ≡ saying k0 (post m.to m.from x) → IsIn (post_one m.to x m.from) d.says
    says_one x is = subst (λ (z : TurnDraft). IsIn (post_one m.to x m.from) z.says) (sym is) (inl refl)

    -- a child of a branch that is dropped hears Rollback
    child_told : (test : Kind → Bool) → test kinds.Rollback ≡ true → (l : Live) → live_at k m.to ≡ Some l → d ≡ drops k0 l (post m.to m.from kinds.RolledBack) → (c : BranchId) → was_asked (said_in f) m.to c ≡ true → Flies test g m.to c
    child_told test rolls l at is c asked =
        let me : l.me ≡ m.to = item_is live_id k.lives m.to l at in
        let found : live_at k l.me ≡ Some l = subst (λ b. live_at k b ≡ Some l) (sym me) at in
        let child : IsIn c (children_of l) = asked_child t s_lawful u.node k may.up l found c (subst (λ b. was_asked (said_in f) b c ≡ true) (sym me) asked) in
        let said : IsIn (post_one l.me kinds.Rollback c) d.says
        = subst (λ (z : TurnDraft). IsIn (post_one l.me kinds.Rollback c) z.says) (sym is) (inr (in_map (post_one l.me kinds.Rollback) c (children_of l) child)) in
        subst (λ b. Flies test g b c) me (post_flies test (post_one l.me kinds.Rollback c) said rolls)

    -- ---- live branches

    watched_asked : (x : TurnDraft) → d ≡ x → Result x → Watched g m.from m.to
    watched_asked x dx (Rolls is) = Is_rolled (told_flies is_rollback kinds.RolledBack (says_one kinds.RolledBack (dx ∙ is)) refl)
    watched_asked x dx (Row_tells s at near is) = Up_names (names_on m.to m.from (record { node = k; up = up_to; row = s; found = at; names = near })).0
    watched_asked x dx (Doubts l at other is) = Up_lives (record { node = d.after; up = here_to; live = l; found = ap (λ (z : TurnDraft). live_at z.after m.to) (dx ∙ is) ∙ at })
    watched_asked x dx (Dropped l at is) = Is_rolled (told_flies is_rollback kinds.RolledBack (subst (λ (z : TurnDraft). IsIn (post_one m.to kinds.RolledBack m.from) z.says) (sym (dx ∙ is)) (inl refl)) refl)

    unasked_still : (q z : BranchId) → was_asked (said_in f) q z ≡ false → was_asked (said_in g) q z ≡ false
    unasked_still q z unasked = ap (λ said. was_asked said q z) said_now ∙ unasked_on (said_in f) d.says q z (no_prepare d result) unasked

    pub watched_on : (z q : BranchId) → Watched f z q → Watched g z q
    watched_on z q (Asks_up fly) = elim (flown is_ask z q fly) [
      | inl on ↦ Asks_up on
      | inr that ↦ subst (λ b. Watched g b q) that.0 (subst (λ b. Watched g m.from b) that.1 (watched_asked d refl result))
    ]
    watched_on z q (Is_rolled fly) = Is_rolled (flies_on is_rollback q z refl fly)
    watched_on z q (Up_lives l) = elim (lives_on q l) [
      | inl on ↦ Up_lives on
      | inr gone ↦ by gone.0 gone.1 gone.2 gone.3 (was_asked (said_in f) q z) refl
    ]
      where
        by : (x : Live) → live_at k m.to ≡ Some x → q ≡ m.to → d ≡ drops k0 x (post m.to m.from kinds.RolledBack) → (w : Bool) → was_asked (said_in f) q z ≡ w → Watched g z q
        by x at that is true asked = Is_rolled (subst (λ b. Flies is_rollback g b z) (sym that) (child_told is_rollback refl x at is z (subst (λ b. was_asked (said_in f) b z ≡ true) that asked)))
        by x at that is false never = Unasked (unasked_still q z never)
    watched_on z q (Up_names r) = Up_names (names_on q z r).0
    watched_on z q (Unasked never) = Unasked (unasked_still q z never)

    -- ---- undecided rows

    abbrev B : Born → Type 0
    B x = Began (births_of t) x

    same_born : (x z : Born) → B x → B z → x.me ≡ z.me → x ≡ z
    same_born x z one other me = (let both : Some x ≡ Some z = sym one ∙ (ap (born_at (births_of t)) me ∙ other) in cc)

    -- a live neighbour that is toward and is no child is the parent
    under_parent : (s : KeptRow) → KeptIs B s → s.me ≡ m.from → s.toward ≡ Some m.to → (l : Live) → live_at k m.to ≡ Some l → is_branch m.from l.parent ≡ false → s.parent ≡ Some m.to
    under_parent s is me toward l at other = elim (subst (TowardIs B s.me) toward is.site_way) [
      | inl up ↦ (let it : up.0 ≡ is.born = same_born up.0 is.born up.1 is.began (up.2 ∙ sym is.is_me) in sym is.is_parent ∙ (ap (λ (x : Born). x.parent) (sym it) ∙ up.3))
      | inr down ↦ (let born : LiveIs B l = all_found (LiveIs B) live_id k.lives m.to l (nodes_name_the_born t s_lawful u.node k may.up).0 at in
          let it : down.0 ≡ born.born = same_born down.0 born.born down.1 born.began (down.2 ∙ (sym (item_is live_id k.lives m.to l at) ∙ sym born.is_me)) in
          let parent : l.parent ≡ Some s.me = sym born.is_parent ∙ (ap (λ (x : Born). x.parent) (sym it) ∙ down.3) in
          let near : is_branch m.from l.parent ≡ true = ap (is_branch m.from) parent ∙ same_from_equal s.me m.from me in
          absurd (cc (near, other)))
    ]

    -- the row of the branch that asked
    sought_asked : (s : KeptRow) → KeptIs B s → s.me ≡ m.from → s.toward ≡ Some m.to → (x : TurnDraft) → d ≡ x → Result x → Sought g s m.to
    sought_asked s born me toward x dx (Rolls is) = Is_told (subst (Flies is_decision g m.to) (sym me) (told_flies is_decision kinds.RolledBack (says_one kinds.RolledBack (dx ∙ is)) refl))
    sought_asked s born me toward x dx (Row_tells r at near is) = by r.decision refl
      where
        names : RowNamesAnother f m.to s.me
        names = record { node = k; up = up_to; row = r; found = at; names = ap (is_neighbor r) me ∙ near }

        told : (o : Decision) → r.decision ≡ Some o → is_decision (tells (Some o)) ≡ true → Sought g s m.to
        told o known decides =
            Is_told (subst (Flies is_decision g m.to) (sym me) (told_flies is_decision (tells (Some o)) (says_one (tells (Some o)) (dx ∙ (is ∙ ap (λ (w : Option Decision). saying k0 (post m.to m.from (tells w))) known))) decides))

        by : (o : Option Decision) → r.decision ≡ o → Sought g s m.to
        by None undecided = (let on = names_on m.to s.me names in In_doubt on.0 (ap (λ (w : KeptRow). w.decision) on.1 ∙ undecided))
        by (Some (decisions.Commit n)) known = told (decisions.Commit n) known refl
        by (Some decisions.Rollback) known = told decisions.Rollback known refl
    sought_asked s born me toward x dx (Doubts l at other is) =
        Under_live (record { node = d.after; up = here_to; live = l; found = ap (λ (z : TurnDraft). live_at z.after m.to) (dx ∙ is) ∙ at }) (under_parent s born me toward l at other)
    sought_asked s born me toward x dx (Dropped l at is) =
        Is_told (subst (Flies is_decision g m.to) (sym me) (told_flies is_decision kinds.RolledBack (subst (λ (z : TurnDraft). IsIn (post_one m.to kinds.RolledBack m.from) z.says) (sym (dx ∙ is)) (inl refl)) refl))

    pub sought_on : (s : KeptRow) → KeptIs B s → (n : ℕ) → exit (events_of t) s.me ≡ Some (Sealed n) → (e : BranchId) → s.toward ≡ Some e → Sought f s e → Sought g s e
    sought_on s born n sealed e toward (Asks fly) = elim (flown is_ask s.me e fly) [
      | inl on ↦ Asks on
      | inr that ↦ subst (Sought g s) that.1 (sought_asked s born (sym that.0) (toward ∙ ap Some (sym that.1)) d refl result)
    ]
    sought_on s born n sealed e toward (Points fly) = Points (flies_on is_point s.me e refl fly)
    sought_on s born n sealed e toward (Is_told fly) = Is_told (flies_on is_decision e s.me refl fly)
    sought_on s born n sealed e toward (In_doubt r undecided) = (let on = names_on e s.me r in In_doubt on.0 (ap (λ (w : KeptRow). w.decision) on.1 ∙ undecided))
    sought_on s born n sealed e toward (Under_live l parent) = elim (lives_on e l) [
      | inl on ↦ Under_live on parent
      | inr gone ↦ Is_told (subst (λ b. Flies is_decision g b s.me) (sym gone.2)
          (child_told is_decision refl gone.0 gone.1 gone.3 s.me (subst (λ b. was_asked (said_in f) b s.me ≡ true) gone.2 (asked_above t s_lawful s born n sealed e parent))))
    ]

    -- ---- all of them

    abbrev RowSo : Facts → KeptRow → Type 0
    RowSo x s = s.decision ≡ None → (e : BranchId) → s.toward ≡ Some e → Sought x s e

    abbrev LiveSo : Facts → Live → Type 0
    LiveSo x l = (q : BranchId) → l.parent ≡ Some q → Watched x l.me q

    row_on : (s : KeptRow) → (RowIs (events_of t) s × KeptIs B s) × RowSo f s → RowSo g s
    row_on s so undecided e toward = sought_on s so.0.1 s.scn (subst (IsKnown (events_of t) s) undecided so.0.0.known).0 e toward (so.1 undecided e toward)

    rows_on : (n : ℕ) (i : NodeState) → node_at f n ≡ Some i → AllByRecursion (RowSo f) i.stored.durable.kept → AllByRecursion (RowSo g) i.stored.durable.kept
    rows_on n i up all =
        all_weaker (λ s. (RowIs (events_of t) s × KeptIs B s) × RowSo f s) (RowSo g) row_on i.stored.durable.kept
        (all_both _ _ i.stored.durable.kept (all_both _ _ i.stored.durable.kept (nodes_are_as_events t s_lawful n i up).1 (nodes_name_the_born t s_lawful n i up).1) all)

    lives_left : (P : Live → Type 0) (x : TurnDraft) → Result x → AllByRecursion P k.lives → AllByRecursion P x.after.lives
    lives_left P x (Rolls is) all = subst (λ (z : TurnDraft). AllByRecursion P z.after.lives) (sym is) all
    lives_left P x (Row_tells s at near is) all = subst (λ (z : TurnDraft). AllByRecursion P z.after.lives) (sym is) all
    lives_left P x (Doubts l at other is) all = subst (λ (z : TurnDraft). AllByRecursion P z.after.lives) (sym is) all
    lives_left P x (Dropped l at is) all = subst (λ (z : TurnDraft). AllByRecursion P z.after.lives) (sym is) (all_without P live_id k.lives l.me all)

    module _ (R : ℕ → Type 0) (now : Obliged R f) where
      rows_here : (n : ℕ) → R n → (j : NodeState) → node_at g n ≡ Some j → AllByRecursion (RowSo g) j.stored.durable.kept
      rows_here n r j up = elim (cases_nat u.node n) [
        | inl at ↦ (let both : Some d.after ≡ Some j = sym here ∙ subst (λ x. node_at g x ≡ Some j) (sym at) up in let its : d.after ≡ j = cc in
            let upf : node_at f n ≡ Some k = subst (λ x. node_at f x ≡ Some k) at may.up in
            subst (λ (x : NodeState). AllByRecursion (RowSo g) x.stored.durable.kept) its (subst (λ (xs : List KeptRow). AllByRecursion (RowSo g) xs) (sym (rows_of d result)) (rows_on n k upf (now.rows n r k upf))))
        | inr other ↦ (let upf : node_at f n ≡ Some j = sym (turn_elsewhere t.places t.commands f even u n other).0 ∙ up in rows_on n j upf (now.rows n r j upf))
      ]

      lives_here : (n : ℕ) → R n → (j : NodeState) → node_at g n ≡ Some j → AllByRecursion (LiveSo g) j.lives
      lives_here n r j up = elim (cases_nat u.node n) [
        | inl at ↦ (let both : Some d.after ≡ Some j = sym here ∙ subst (λ x. node_at g x ≡ Some j) (sym at) up in let its : d.after ≡ j = cc in
            let upf : node_at f n ≡ Some k = subst (λ x. node_at f x ≡ Some k) at may.up in
            subst (λ (x : NodeState). AllByRecursion (LiveSo g) x.lives) its (lives_left (LiveSo g) d result (all_weaker (LiveSo f) (LiveSo g) (λ l so q parent. watched_on l.me q (so q parent)) k.lives (now.lives n r k upf))))
        | inr other ↦ (let upf : node_at f n ≡ Some j = sym (turn_elsewhere t.places t.commands f even u n other).0 ∙ up in
            all_weaker (LiveSo f) (LiveSo g) (λ l so q parent. watched_on l.me q (so q parent)) j.lives (now.lives n r j upf))
      ]

      -- a question that comes leaves all so
      pub ask_obliged : Obliged R g
      ask_obliged = record { rows = rows_here; lives = lives_here }
