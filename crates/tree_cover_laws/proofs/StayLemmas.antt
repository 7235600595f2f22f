-- The branches of such a tree that were asked, from that moment on: as long as such a branch is live the tree below it is as it was, and it
-- asks and tells its children by the step that it had then.
use Rattle.std.proofs.Common.{◌≡◌, ◌≢◌, ℕ, ◌+◌, ◌≤◌, Bool, true, false, List, [], ◌∷◌, ◌++◌, Option, Some, None, inl, inr, refl, sym, ap, subst, ◌∙◌, append-nil}
use Rattle.dtx_values.specs.Limits.{depth_limit}
use Rattle.session_tree.specs.Live.{children_of}
use Rattle.session_tree.specs.Tree.{step}
use Rattle.session_tree.specs.declared.act.Walk.TheVariants as walks
use Rattle.agreement.specs.Events.{Dropped, exit}
use Rattle.node_rules.specs.Data.{BranchId, Kind, Phase, Post}
use Rattle.node_rules.specs.Data.phases
use Rattle.node_rules.specs.Words.{numbered}
use Rattle.node_rules.specs.NodeState.{NodeState, Branch, branch_at}
use Rattle.node_rules.proofs.StandLemmas.{live_so}
use Rattle.run_rules.specs.Births.{Born, births_of}
use Rattle.run_base_laws.specs.BirthLaws.{Began}
use Rattle.run_rules.specs.Data.{Happening}
use Rattle.run_base_laws.specs.EventLaws.{EachEventFrom}
use Rattle.run_rules.specs.Facts.{first_facts, node_at}
use Rattle.run_base_laws.specs.FreezeLaws.{was_asked}
use Rattle.run_base_laws.specs.InTurnLaws.{said_in, NeedsNoRollback}
use Rattle.run_rules.specs.Lawful.{History, IsLawfulRun, facts_at}
use Rattle.run_rules.specs.Trail.{is_prepare}
use Rattle.run_branch_laws.specs.WalkLaws.{is_below, is_above, was_sent}
use Rattle.run_branch_laws.proofs.FreezeLemmas.{working_or}
use Rattle.run_branch_laws.proofs.FreezeRunLemmas.{asked_stand_still, prepare_finds_rest}
use Rattle.run_base_laws.proofs.NodesStandLemmas.{some_or_none}
use Rattle.tree_laws.specs.AskLaws.{HasToldAll, AsTold, path_on, way_of}
use Rattle.tree_laws.specs.Forests.{comes_to}
use Rattle.tree_laws.proofs.AskLemmas.{sent_wider, below_asks}
use Rattle.tree_laws.proofs.AskRunLemmas.{edges_asked, live_told}
use Rattle.tree_laws.proofs.ForestLemmas as trees
use Rattle.tree_laws.proofs.LeftLemmas.{left_have_told_all}
use Rattle.tree_laws.proofs.PrefixLemmas.{so_far, f_at, e_at}
use Rattle.tree_laws.proofs.SettleRunLemmas.{known}
use Rattle.tree_laws.specs.RestLaws.{Rests, SameTree}
use Rattle.tree_laws.proofs.FateLemmas.{Fate, Stays, Leaves, fate_of}
use Rattle.tree_laws.proofs.FrozenLemmas.{Found, Since, PointsTo, edge_to, path_down, same_step, strength_at, same_strength as strengths_stay}
use Rattle.tree_laws.proofs.TimeLemmas.{Part, part_lawful, part_on, part_of, each_at, exit_end, sent_end, born_end, keep_on}
use Rattle.tree_laws.proofs.WeighLemmas.{children_weigh, child_parent, placed_of}
use Rattle.tree_cover_laws.proofs.SentLemmas.{since_on, SentThen, sent_then}
use Rattle.tree_cover_laws.proofs.StandLemmas.{Stands, Kid, kid_of, shallow, unasked}

module _ (t : History) (whole : IsLawfulRun t) (hs0 : List Happening) (part0 : Part t whole hs0) (r : BranchId) where
  abbrev said : List Post
  said = said_in (facts_at t)

  abbrev After : List Happening → Type 0
  After m = Since t whole hs0 part0 m

  -- A branch is live at a later moment, with the tree below it as it was.
  pub record StillThere (x : Branch) (m : List Happening) : Type 0 where
    pub kept : NodeState
    pub now : Branch
    pub up : node_at (f_at t m) x.live.me.node ≡ Some kept
    pub found : branch_at kept now.live.me ≡ Some now
    pub is_me : now.live.me ≡ x.live.me
    pub same : SameTree x now
    pub calm : now.live.phase ≡ phases.Working → NeedsNoRollback kept now.live × (now.work.going ≡ None)

  -- A branch of the tree that is so as long as it is live.
  pub record OnPath (c : BranchId) : Type 0 where
    pub branch : Branch
    pub is_me : branch.live.me ≡ c
    pub stands : Stands t whole hs0 part0 r branch
    pub stays : (m : List Happening) → Part t whole m → After m → exit (e_at t m) c ≡ None → StillThere branch m

  -- who has left asks nobody any more
  silent : (m : List Happening) → Part t whole m → (p c : BranchId) → exit (e_at t m) p ≢ None → was_asked said p c ≡ true → was_asked (said_in (f_at t m)) p c ≡ true
  silent m part p c left asked = by part.rest part.is
    where
      by : (rest : List Happening) → m ++ rest ≡ t.trace → was_asked (said_in (f_at t m)) p c ≡ true
      by [] is = subst (λ xs. was_asked (said_in (f_at t xs)) p c ≡ true) (sym is ∙ append-nil m) asked
      by (h ∷ rest) is =
          let all : HasToldAll said (f_at t m) (e_at t m) h
          = each_at t.places t.commands (HasToldAll said) (first_facts t.places) m h rest [] (subst (EachEventFrom (HasToldAll said) t.places t.commands (first_facts t.places) []) (sym is) (left_have_told_all t whole)) in
          (all p c left).0 asked

  module _ (q : BranchId) (up : OnPath q) where
    abbrev x : Branch
    x = up.branch

    unsent : (kind : Kind → Bool) → ((z : Kind) → kind z ≡ true → is_prepare z ≡ true) → (c : BranchId) → was_sent kind (said_in (f_at t hs0)) q c ≡ false
    unsent kind asks c = by (was_sent kind (said_in (f_at t hs0)) q c) refl
      where
        by : (w : Bool) → was_sent kind (said_in (f_at t hs0)) q c ≡ w → w ≡ false
        by false is = refl
        by true is =
            let no : was_asked (said_in (f_at t hs0)) q c ≡ false = subst (λ b. was_asked (said_in (f_at t hs0)) b c ≡ false) up.is_me (unasked t whole hs0 part0 r x up.stands c) in
            let yes : was_asked (said_in (f_at t hs0)) q c ≡ true = sent_wider kind is_prepare asks (said_in (f_at t hs0)) q c is in
            absurd (cc (yes, no))

    abbrev Sent : (Kind → Bool) → BranchId → Type 0
    Sent kind c = SentThen t whole hs0 part0 kind q c

    when : (kind : Kind → Bool) → ((z : Kind) → kind z ≡ true → is_prepare z ≡ true) → (c : BranchId) → was_sent kind said q c ≡ true → Sent kind c
    when kind asks c sent = sent_then t whole hs0 part0 kind asks q c (unsent kind asks c) sent

    -- ---- how it was then

    module _ (kind : Kind → Bool) (asks : (z : Kind) → kind z ≡ true → is_prepare z ≡ true) (c : BranchId) (it : Sent kind c) where
      abbrev s : History
      s = so_far t it.moment

      lawful : IsLawfulRun s
      lawful = part_lawful t whole it.moment it.part

      abbrev st : StillThere x it.moment
      st = up.stays it.moment it.part it.since it.live

      me : st.now.live.me ≡ q
      me = st.is_me ∙ up.is_me

      its : was_sent kind (said_in (facts_at s)) st.now.live.me c ≡ true
      its = subst (λ b. was_sent kind (said_in (facts_at s)) b c ≡ true) (sym me) it.sent

      was : was_asked (said_in (facts_at s)) st.now.live.me c ≡ true
      was = sent_wider kind is_prepare asks (said_in (facts_at s)) st.now.live.me c its

      busy : st.now.live.phase ≢ phases.Working
      busy working =
          let no : was_asked (said_in (facts_at s)) st.now.live.me c ≡ false = (asked_stand_still s lawful x.live.me.node st.kept st.up st.now st.found).0 working c in
          absurd (cc (was, no))

      told : AsTold (said_in (facts_at s)) st.now.live
      told = live_told s lawful x.live.me.node st.kept st.up st.now.live (live_so st.kept st.now.live.me st.now st.found)

      same_strength : st.now.live.strength ≡ x.live.strength
      same_strength =
          let here : Found t whole it.moment st.now = record { kept = st.kept; up = subst (λ b. node_at (f_at t it.moment) b.node ≡ Some st.kept) (sym st.is_me) st.up; found = st.found } in
          strengths_stay t whole x st.now st.is_me (strength_at t whole hs0 part0 x up.stands.here) (strength_at t whole it.moment it.part st.now here)

      same_walk : step st.now.live ≡ step x.live
      same_walk = same_step x.live st.now.live st.same.changed same_strength st.same.weights

      -- it is as it began
      parent_so : (z : Born) → Began (births_of t) z → z.me ≡ q → st.now.live.parent ≡ z.parent
      parent_so z began is_me =
          let placed = placed_of s lawful x.live.me.node st.kept st.up st.now st.found in
          let one : placed.born ≡ z = trees.same_born (births_of t) said (known t whole) placed.born z (born_end t whole it.moment it.part placed.born placed.began) began (placed.is_me ∙ (me ∙ sym is_me)) in
          sym placed.is_parent ∙ ap (λ (y : Born). y.parent) one

    -- whom it asked is its child
    pub asked_kid : (c : BranchId) → was_asked said q c ≡ true → (i : ℕ) × (numbered (children_of x.live) i ≡ Some c)
    asked_kid c asked =
        let it : Sent is_prepare c = when is_prepare (λ z so. so) c asked in
        let at = (told is_prepare (λ z so. so) c it).alone (busy is_prepare (λ z so. so) c it) c (its is_prepare (λ z so. so) c it) in
        (at.0, subst (λ bs. numbered bs at.0 ≡ Some c) (st is_prepare (λ z so. so) c it).same.peers at.1)

    -- whom it told that the walk comes there, its step leads to
    pub told_kid : (c : BranchId) → was_sent is_below said q c ≡ true → PointsTo x.live c
    told_kid c sent =
        let it : Sent is_below c = when is_below below_asks c sent in
        let at = (told is_below below_asks c it).below (busy is_below below_asks c it) c (its is_below below_asks c it) in
        let now = st is_below below_asks c it in
        (at.0, sym (same_walk is_below below_asks c it) ∙ path_down now.now.live.phase (step now.now.live) at.0 at.1, subst (λ bs. numbered bs at.0 ≡ Some c) now.same.peers at.2)

    module _ (z : Born) (began : Began (births_of t) z) (is_me : z.me ≡ q) (comes : comes_to said q z.parent ≡ true) (c : BranchId) (asked : was_asked said q c ≡ true) (down : PointsTo x.live c) where
      abbrev it : Sent is_prepare c
      it = when is_prepare (λ y so. so) c asked

      abbrev now : StillThere x it.moment
      now = st is_prepare (λ y so. so) c it

      so_told : AsTold (said_in (f_at t it.moment)) now.now.live
      so_told = told is_prepare (λ y so. so) c it

      its_step : step now.now.live ≡ walks.Down down.0
      its_step = same_walk is_prepare (λ y so. so) c it ∙ down.1

      its_parent : now.now.live.parent ≡ z.parent
      its_parent = parent_so is_prepare (λ y so. so) c it z began is_me

      -- it was told that the walk comes to it
      not_above : way_of now.now.live.phase ≡ Some false → ⊥
      not_above way = by z.parent refl comes
        where
          by : (o : Option BranchId) → z.parent ≡ o → comes_to said q o ≡ true → ⊥
          by None top is = so_told.root (its_parent ∙ top) way
          by (Some p) below is =
              let above : was_sent is_above (said_in (f_at t it.moment)) p now.now.live.me ≡ true = so_told.way false way p (its_parent ∙ below) in
              let yes : was_sent is_above said p q ≡ true = sent_end t whole it.moment it.part is_above p q (subst (λ b. was_sent is_above (said_in (f_at t it.moment)) p b ≡ true) (me is_prepare (λ y so. so) c it) above) in
              let no : was_sent is_above said p q ≡ false = ((known t whole).one p q is).0 in
              absurd (cc (yes, no))

      goes : (phase : Phase) → now.now.live.phase ≡ phase → path_on phase (step now.now.live) ≡ Some down.0
      goes phases.Working is = absurd (busy is_prepare (λ y so. so) c it is)
      goes (phases.Collecting true) is = ap (path_on (phases.Collecting true)) its_step
      goes (phases.Collecting false) is = absurd (not_above (ap way_of is))
      goes phases.Ready is = ap (path_on phases.Ready) its_step

      -- where the walk comes to it, the child that its step leads to is told so once it is asked
      pub tells_on : was_sent is_below said q c ≡ true
      tells_on =
          let at_c : numbered (children_of now.now.live) down.0 ≡ Some c = subst (λ bs. numbered bs down.0 ≡ Some c) (sym now.same.peers) down.2 in
          let sent : was_sent is_below (said_in (f_at t it.moment)) now.now.live.me c ≡ true = so_told.points (busy is_prepare (λ y so. so) c it) down.0 c (goes now.now.live.phase refl) at_c in
          sent_end t whole it.moment it.part is_below q c (subst (λ b. was_sent is_below (said_in (f_at t it.moment)) b c ≡ true) (me is_prepare (λ y so. so) c it) sent)

    -- ---- a child that it asked

    -- it is one deeper
    pub kid_deeper : (c : BranchId) → was_asked said q c ≡ true → x.live.depth + 1 ≤ depth_limit
    kid_deeper c asked = (let at = asked_kid c asked in shallow t whole hs0 part0 r x up.stands at.0 c at.1)

    module _ (c : BranchId) (asked : was_asked said q c ≡ true) (kept_in : exit (e_at t hs0) c ≢ Some Dropped) where
      abbrev place : ℕ
      place = (asked_kid c asked).0

      abbrev k : Kid t whole hs0 part0 r x up.stands place c (asked_kid c asked).1 kept_in
      k = kid_of t whole hs0 part0 r x up.stands place c (asked_kid c asked).1 kept_in

      -- it rests at a later moment
      module _ (m : List Happening) (part : Part t whole m) (since : After m) (j : NodeState) (y : Branch) (there : node_at (f_at t m) y.live.me.node ≡ Some j) (found : branch_at j y.live.me ≡ Some y) (me : y.live.me ≡ c) where
        abbrev s_m : History
        s_m = so_far t m

        lawful_m : IsLawfulRun s_m
        lawful_m = part_lawful t whole m part

        asked_rests : was_asked (said_in (f_at t m)) q c ≡ true → Rests (said_in (f_at t m)) y.live.me y.live.parent y.work
        asked_rests heard =
            let so = prepare_finds_rest s_m lawful_m q y.live.me.node j there y found (subst (λ b. was_asked (said_in (f_at t m)) q b ≡ true) (sym me) heard) in
            record { above = q; is_parent = so.0; waits = so.1; last = so.2 }

        above_rests : StillThere x m → Rests (said_in (f_at t m)) y.live.me y.live.parent y.work
        above_rests st =
            let at : numbered (children_of st.now.live) place ≡ Some c = subst (λ bs. numbered bs place ≡ Some c) (sym st.same.peers) (asked_kid c asked).1 in
            elim (working_or st.now.live.phase) [
              | inr other ↦ asked_rests (subst (λ b. was_asked (said_in (f_at t m)) b c ≡ true) (st.is_me ∙ up.is_me) ((edges_asked s_m lawful_m x.live.me.node st.kept st.up st.now.live (live_so st.kept st.now.live.me st.now st.found) other).0 place c at))
              | inl working ↦ (let calm = st.calm working in
                  let edge = edge_to st.now.live.edges place c at in
                  let so = children_weigh s_m lawful_m x.live.me.node st.kept st.up st.now st.found calm.0 calm.1 place edge.0 edge.1 y.live.me.node j there y found (me ∙ sym edge.2) in
                  record { above = st.now.live.me; is_parent = child_parent s_m lawful_m x.live.me.node st.kept st.up st.now st.found place c at y.live.me.node j there y found me; waits = so.waits; last = so.last })
            ]

        rests : Rests (said_in (f_at t m)) y.live.me y.live.parent y.work
        rests = elim (some_or_none (exit (e_at t m) q)) [
          | inl left ↦ asked_rests (silent m part q c (λ no. (let gone = left.1 in absurd (cc (gone, no)))) asked)
          | inr still ↦ above_rests (up.stays m part since still)
        ]

        calm_so : NeedsNoRollback j y.live × (y.work.going ≡ None)
        calm_so = ((λ top. (let below = rests.is_parent in absurd (cc (top, below)))), rests.waits)

      abbrev StaysSo : List Happening → Type 0
      StaysSo m = After m × (exit (e_at t m) c ≡ None → StillThere k.branch m)

      stays_first : StaysSo hs0
      stays_first = (
        ([], append-nil hs0),
        (λ live. record {
          kept = k.stands.here.kept;
          now = k.branch;
          up = k.stands.here.up;
          found = k.stands.here.found;
          is_me = refl;
          same = record { peers = refl; weights = refl; changed = refl };
          calm = λ working. (k.stands.goes, k.stands.waits);
        }),
      )

      module _ (m : List Happening) (h : Happening) (rest : List Happening) (is : m ++ h ∷ rest ≡ t.trace) where
        abbrev after : List Happening
        after = m ++ h ∷ []

        before : exit (e_at t after) c ≡ None → exit (e_at t m) c ≡ None
        before live = elim (some_or_none (exit (e_at t m) c)) [
          | inr none_is ↦ none_is
          | inl left ↦ (let later : exit (e_at t after) c ≡ Some left.0 = exit_end (so_far t after) (part_lawful t whole after (part_on t whole m h rest is)) m (record { rest = h ∷ []; is = refl }) c left.0 left.1 in absurd (cc (later, live)))
        ]

        module _ (since : After m) (live : exit (e_at t after) c ≡ None) (st : StillThere k.branch m) where
          there : node_at (f_at t m) st.now.live.me.node ≡ Some st.kept
          there = subst (λ b. node_at (f_at t m) b.node ≡ Some st.kept) (sym st.is_me) st.up

          by_fate : Fate t m h st.now → StillThere k.branch after
          by_fate (Leaves x left leaves) = (let gone : exit (e_at t after) c ≡ Some x = subst (λ b. exit (e_at t after) b ≡ Some x) (st.is_me ∙ k.is_me) left in absurd (cc (gone, live)))
          by_fate (Stays j w up_w found_w me_w still) =
              let own : node_at (f_at t after) w.live.me.node ≡ Some j = subst (λ b. node_at (f_at t after) b.node ≡ Some j) (sym me_w) up_w in
              record {
                kept = j;
                now = w;
                up = subst (λ b. node_at (f_at t after) b.node ≡ Some j) st.is_me up_w;
                found = found_w;
                is_me = me_w ∙ st.is_me;
                same = record { peers = still.peers ∙ st.same.peers; weights = still.weights ∙ st.same.weights; changed = still.changed ∙ st.same.changed };
                calm = λ working. calm_so after (part_on t whole m h rest is) (since_on t whole hs0 part0 m h since) j w own found_w (me_w ∙ (st.is_me ∙ k.is_me));
              }

          there_then : StillThere k.branch after
          there_then = by_fate (fate_of t whole m h rest is st.kept st.now there st.found (λ working. rests m (part_of t whole m h rest is) since st.kept st.now there st.found (st.is_me ∙ k.is_me)))

        stays_on : StaysSo m → StaysSo after
        stays_on now = (since_on t whole hs0 part0 m h now.0, (λ live. there_then now.0 live (now.1 (before live))))

      stays_later : (m : List Happening) → Part t whole m → After m → exit (e_at t m) c ≡ None → StillThere k.branch m
      stays_later m part since live =
          (subst StaysSo since.1 (keep_on t whole StaysSo stays_on hs0 since.0 (record { rest = part.rest; is = ap (λ xs. xs ++ part.rest) since.1 ∙ part.is }) stays_first)).1 live

      pub kid_path : OnPath c
      kid_path = record { branch = k.branch; is_me = k.is_me; stands = k.stands; stays = stays_later }
