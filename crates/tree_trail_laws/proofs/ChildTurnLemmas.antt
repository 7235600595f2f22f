-- What a turn tells of live branches below roots: that they began, with their parents and their children.
use Rattle.std.proofs.Common.{◌≡◌, ◌≢◌, ℕ, zero, suc, ◌+◌, ◌≤◌, ◌&&◌, ◌⊎◌, Bool, true, false, if◌then◌else◌, is_none, List, [], ◌∷◌, ◌++◌, map, length, Option, Some, None, inl, inr, refl, sym, ap, subst, ◌∙◌, arith, unwrap_or}
use Rattle.std.specs.List.{AllByRecursion}
use Rattle.std.proofs.lemmas.Bool.{or_cases, eqb-true, cases_eq}
use Rattle.std.proofs.lemmas.List.{length-map}
use Rattle.tran_ids.proofs.BranchLemmas.{equal_from_same, same_from_equal}
use Rattle.tran_ids.proofs.ListedLemmas.{item_is}
use Rattle.reco.specs.declared.post.Post.{Post}
use Rattle.session_tree.specs.Live.{children_of}
use Rattle.node_rules.specs.Data.{BranchId, Edge, Kind, Live, Msg, Stmt, Input}
use Rattle.node_rules.specs.Data.inputs
use Rattle.node_rules.specs.Data.kinds
use Rattle.node_rules.specs.Words.{same, numbered, is_item_of, item_at}
use Rattle.node_rules.specs.NodeState.{NodeState, live_id, live_at, post}
use Rattle.node_rules.specs.LiveBranches.{EachLive}
use Rattle.node_rules.specs.Turn.{turn_of, heard, stamped}
use Rattle.run_rules.specs.Births.{Born, births_of, born_at}
use Rattle.run_base_laws.specs.BirthLaws.{Began, IsChildAt, LiveIs, GoesSo}
use Rattle.run_rules.specs.Branches.{Seen, Trail, seen_id, seen_at, is_among, root_at, newly_seen}
use Rattle.run_rules.specs.Data.{Turn, Happening}
use Rattle.run_rules.specs.Data.happenings
use Rattle.run_rules.specs.Facts.{Facts, node_at, kept_after, place_at, records_at}
use Rattle.run_rules.specs.Lawful.{MayHappen, IsOwed, History, IsLawfulRun, facts_at}
use Rattle.run_base_laws.specs.RunEvents.{events_of}
use Rattle.run_rules.specs.Runs.{begins_transaction}
use Rattle.run_base_laws.specs.InTurnLaws.{post_of, packet_post, said_in}
use Rattle.run_rules.specs.Trail.{next_root, root_seen, begun_in_turn, roots_begun, children_begun, child_begun, children_after, trail_after, strength_at}
use Rattle.run_rules.proofs.AtNodeLemmas.{turn_elsewhere, turn_here}
use Rattle.run_base_laws.proofs.BirthLemmas.{news_of}
use Rattle.run_base_laws.proofs.BirthRunLemmas.{StandBorn, run_births, messages_are_of_neighbors, nodes_name_the_born}
use Rattle.run_base_laws.proofs.BirthsStandLemmas.{all_unborn, came_so}
use Rattle.run_base_laws.proofs.EventsStandLemmas.{node_so, owned_so, ids_name_their_node}
use Rattle.run_base_laws.proofs.KidLemmas.{edge_of, child_edge, kids_of}
use Rattle.run_base_laws.proofs.LawfulLemmas.{Serves, serves}
use Rattle.run_rules.proofs.ListLemmas.{all_weaker, all_append, all_map}
use Rattle.run_base_laws.proofs.NeighborLemmas.{News}
use Rattle.run_base_laws.proofs.OwnLemmas.{all_found}
use Rattle.run_base_laws.proofs.SaidPostLemmas.{said_after}
use Rattle.run_base_laws.proofs.TurnEventLemmas.{number_is}
use Rattle.tree_laws.proofs.PrefixLemmas.{so_far, f_at, one_on}
use Rattle.tree_laws.proofs.TimeLemmas.{may_of, born_end}
use Rattle.tree_trail_laws.specs.ChildLaws.{IsTracedOf}
use Rattle.tree_trail_laws.proofs.CallLemmas.{call_free}
use Rattle.tree_trail_laws.proofs.ChildStepLemmas.{called_by, stamped_calls, still_calls, NotThere, Same, Grows, IsOpened, Grown, NewChild, grows_on, StandsAs}
use Rattle.tree_trail_laws.proofs.MomentLemmas.{tr_at, trail_one_on}
use Rattle.tree_trail_laws.proofs.PlanLemmas.{find_more, find_last}
use Rattle.tree_trail_laws.proofs.SeenLemmas.{begun, turned, seen_begun}
use Rattle.tree_laws.proofs.AtTurn.{at_turn}
use Rattle.tree_trail_laws.proofs.AtTrail.{at_trail}
use Rattle.tree_trail_laws.proofs.DurableLemmas.{strength_stored}
use Rattle.run_base_laws.proofs.StoredLemmas.{records_are_kept}

-- ---- lists

-- the number of one that is among them
among_place : (cs : List BranchId) (c : BranchId) → is_among c cs ≡ true → (i : ℕ) × (numbered cs i ≡ Some c) × (i ≤ length cs)
among_place [] c is = absurd cc
among_place (d ∷ cs) c is = elim (or_cases (same d c) (is_among c cs) is) [
  | inl here ↦ (1, ap Some (equal_from_same d c here), omega arith)
  | inr later ↦ next (among_place cs c later)
]
  where
    next : (i : ℕ) × (numbered cs i ≡ Some c) × (i ≤ length cs) → (i : ℕ) × (numbered (d ∷ cs) i ≡ Some c) × (i ≤ length (d ∷ cs))
    next (zero, is, low) = absurd cc
    next (suc i, is, low) = (suc (suc i), is, omega (arith, low))

-- the second part of a list
pub all_behind : {A : Type 0} (P : A → Type 0) (xs ys : List A) → AllByRecursion P (xs ++ ys) → AllByRecursion P ys
all_behind P [] ys all = all
all_behind P (x ∷ xs) ys all = all_behind P xs ys all.1

bool_by : (q : Bool) → (P : Bool → Type 0) → ((q ≡ true) → P true) → ((q ≡ false) → P false) → P q
bool_by true P at_true at_false = at_true refl
bool_by false P at_true at_false = at_false refl

-- ---- a turn

module _ (t : History) (whole : IsLawfulRun t) where
  -- an id that is told is a root's, or began
  abbrev pub IsKnown : List Happening → Seen → Type 0
  IsKnown hs s = (s.me.session ≤ 64) ⊎ ((x : Born) × Began (births_of (so_far t hs)) x × (x.me ≡ s.me))

  -- the live branches below roots are told
  abbrev pub TracesLower : Facts → Trail → Type 0
  TracesLower f tr = (n : ℕ) (k : NodeState) → node_at f n ≡ Some k → (l : Live) → live_at k l.me ≡ Some l → l.parent ≢ None → IsTracedOf t.places tr l

  -- what each happening keeps
  pub record Tells (hs : List Happening) : Type 0 where
    pub lower : TracesLower (f_at t hs) (tr_at t hs)
    pub known : AllByRecursion (IsKnown hs) (tr_at t hs).seen

  module _ (hs : List Happening) (u : Turn) (rest : List Happening) (is : hs ++ happenings.Turn u ∷ rest ≡ t.trace) (now : Tells hs) where
    open at_turn t whole hs u rest is use {after as hs1, part as part0, part_after as part1, s as s0, s_after as s1, lawful as lawful0, lawful_after as lawful1, f as f0, g as f1, k, p, d, bs as bs0}
    open at_trail t hs u use {tr as tr0, tr_on as tr1}

    abbrev pub may : MayHappen t.places t.commands f0 (happenings.Turn u)
    may = may_of t whole hs (happenings.Turn u) rest is

    abbrev Unborn : BranchId → Type 0
    Unborn b = born_at bs0 b ≡ None

    stand : StandBorn t.places t.commands t.of_a_script.each f0 (events_of s0) bs0
    stand = run_births s0 lawful0

    number : p.number ≡ u.node
    number = number_is t.places t.commands t.of_a_script.each f0 u.node k stand.0.1.many may.1.up

    serving : Serves p k u
    serving = serves t.places f0 u k may.1

    not_there : (b : BranchId) → born_at bs0 b ≡ None → (o : Option Live) → item_at live_id k.lives b ≡ o → o ≡ None
    not_there b unborn None none = refl
    not_there b unborn (Some l) some =
        let born : LiveIs (Began bs0) l = all_found (LiveIs (Began bs0)) live_id k.lives b l (nodes_name_the_born s0 lawful0 u.node k may.1.up).0 some in
        let at : born_at bs0 b ≡ Some born.born = subst (λ c. born_at bs0 c ≡ Some born.born) (born.is_me ∙ item_is live_id k.lives b l some) born.began in
        absurd (cc (at, unborn))

    news : News (NotThere k p u.input Unborn) p u.input (heard k u.input)
    news =
        news_of _ p k u.input
        (all_weaker (λ y. born_at bs0 y.me ≡ None) _ (λ y none. (not_there y.me none (item_at live_id k.lives y.me) refl, none)) _
        (all_unborn t.places t.commands t.of_a_script.each f0 (events_of s0) bs0 u k stand.0.1 stand.0.0.even (node_so t.places t.commands t.of_a_script.each f0 (events_of s0) stand.0)
        (owned_so t.places t.commands t.of_a_script.each f0 (events_of s0) stand.0) may.1 number stand.1))

    -- as the turn begins each live branch is as it was
    same_lives : (ls : List Live) → ls ≡ k.lives → EachLive (λ l w. Same k p u.input Unborn l) ls []
    same_lives ls are = record { there = λ b none. refl; each = each }
      where
        each : (b : BranchId) (l : Live) → item_at live_id ls b ≡ Some l → Same k p u.input Unborn l
        each b l found =
            let me : l.me ≡ b = item_is live_id ls b l found in
            let at : item_at live_id k.lives l.me ≡ Some l = subst (λ xs. item_at live_id xs l.me ≡ Some l) are (subst (λ c. item_at live_id ls c ≡ Some l) (sym me) found) in
            record {
              old = λ z there. (let it : Some l ≡ Some z = sym at ∙ there in let here : l ≡ z = cc in (ap children_of here, ap (λ (y : Live). y.parent) here, ap (λ (y : Live). y.read_at) here, ap (λ (y : Live). y.strength) here));
              new = λ none. absurd (cc (at, none));
              begun = λ none. absurd (cc (at, none));
            }

    heard_lives : (input : Input) → (heard k input).lives ≡ k.lives
    heard_lives (inputs.Message m) = refl
    heard_lives (inputs.Call n s) = refl
    heard_lives (inputs.GiveUp n) = refl
    heard_lives inputs.Reco = refl
    heard_lives inputs.Checkpoint = refl

    -- as the turn begins the node has the strength that it had, and at a call its clock
    stands_as : (input : Input) → StandsAs k p input Unborn (heard k input)
    stands_as (inputs.Message m) = record { strength = refl; clock = λ n s call. absurd cc }
    stands_as (inputs.Call n s) = record { strength = refl; clock = λ n s call. refl }
    stands_as (inputs.GiveUp n) = record { strength = refl; clock = λ n s call. refl }
    stands_as inputs.Reco = record { strength = refl; clock = λ n s call. refl }
    stands_as inputs.Checkpoint = record { strength = refl; clock = λ n s call. refl }

    -- by its records too
    pub strength_kept : strength_at f0 u.node ≡ k.stored.durable.strength
    strength_kept = sym (strength_stored (records_at f0 u.node) k (records_are_kept s0 lawful0 u.node k may.1.up))

    fresh : NewChild k p u.input Unborn
    fresh z found from edge strength came new = bool_by (is_among from (children_of z)) (λ q. q ≡ false) (λ there. absurd (clash there)) (λ other. refl)
      where
        clash : is_among from (children_of z) ≡ true → ⊥
        clash there =
            let child : IsChildAt (Began bs0) from z.me edge = came_so (GoesSo (Began bs0)) f0 (messages_are_of_neighbors s0 lawful0) k u.node u.input u.took may.1.comes from z.me (kinds.Opened edge strength) came in
            let place = among_place (children_of z) from there in
            let its : LiveIs (Began bs0) z = all_found (LiveIs (Began bs0)) live_id k.lives z.me z (nodes_name_the_born s0 lawful0 u.node k may.1.up).0 found in
            let one : edge_of bs0 from ≡ Some place.0 = kids_of bs0 z its place.0 from place.1 in
            let two : edge_of bs0 from ≡ Some edge = child_edge bs0 from z.me edge child in
            let both : Some place.0 ≡ Some edge = sym one ∙ two in
            let number_is : place.0 ≡ edge = cc in
            let next : edge ≡ length z.edges + 1 = eqb-true edge (length z.edges + 1) new in
            let long : length (children_of z) ≡ length z.edges = length-map z.edges (λ (e : Edge). e.peer) in
            omega (arith, number_is, next, long, place.2)

    pub grown : Grown k p u.input Unborn d
    grown = grows_on k p u.input Unborn fresh serving.step news (stands_as u.input) (same_lives (heard k u.input).lives (heard_lives u.input))

    -- ---- the trail

    turned_so : (b : BranchId) (s : Seen) → seen_at (begun t.places f0 tr0 u) b ≡ Some s → (l : Live) → l.me ≡ b → s.parent ≡ l.parent → children_after s.me s.children u.sent ≡ children_of l
        → s.read_at ≡ l.read_at → unwrap_or s.strength (place_at t.places l.me.node).strength ≡ l.strength → IsTracedOf t.places tr1 l
    turned_so b s at l me parent kids reads strong =
        (turned t.places f0 tr0 u s, subst (λ c. seen_at tr1 c ≡ Some (turned t.places f0 tr0 u s)) (sym me) (seen_begun t.places f0 tr0 u b s at), parent, kids, reads, strong)

    old_begun : (b : BranchId) (s : Seen) → seen_at tr0 b ≡ Some s → seen_at (begun t.places f0 tr0 u) b ≡ Some s
    old_begun b s at = find_more (is_item_of seen_id b) tr0.seen _ s at

    -- a branch that stays as it was
    stays_told : (l : Live) → IsTracedOf t.places tr0 l → children_after l.me (children_of l) u.sent ≡ children_of l → IsTracedOf t.places tr1 l
    stays_told l told silent =
        let me : told.0.me ≡ l.me = item_is seen_id tr0.seen l.me told.0 told.1 in
        turned_so l.me told.0 (old_begun l.me told.0 told.1) l refl told.2 (ap (λ b. children_after b told.0.children u.sent) me ∙ (ap (λ cs. children_after l.me cs u.sent) told.3 ∙ silent)) told.4 told.5

    -- ---- another node

    sent_by : u.cut ≡ true → u.sent ≡ []
    sent_by cut = (subst (λ c. IsOwed p k u.input u.wrote u.sent c) cut may.1.owed).1

    unfolding_sent : u.cut ≡ false → u.sent ≡ map (stamped d.after.clock) d.says
    unfolding turn_of
    unfolding_sent cut = (subst (λ c. IsOwed p k u.input u.wrote u.sent c) cut may.1.owed).1

    pub here_after : node_at f1 u.node ≡ kept_after u.cut (Some (turn_of p k u.input))
    here_after = (turn_here t.places t.commands f0 stand.0.0.even u k may.1.up).0

    pub after_up : u.cut ≡ false → node_at f1 u.node ≡ Some d.after
    unfolding turn_of
    after_up cut = here_after ∙ ap (λ c. kept_after c (Some (turn_of p k u.input))) cut

    own_after : u.cut ≡ false → (b : BranchId) → b.node ≢ u.node → (o : Option Live) → item_at live_id d.after.lives b ≡ o → o ≡ None
    own_after cut b other None none = refl
    own_after cut b other (Some l) some =
        let up1 : node_at (facts_at s1) u.node ≡ Some d.after = ap (λ f. node_at f u.node) (one_on t hs (happenings.Turn u)) ∙ after_up cut in
        let own : l.me.node ≡ u.node = all_found (λ l. l.me.node ≡ u.node) live_id d.after.lives b l (ids_name_their_node s1 lawful1 u.node d.after up1).lives some in
        absurd (other (sym (ap (λ (c : BranchId). c.node) (item_is live_id d.after.lives b l some)) ∙ own))

    pub silent_else : (b : BranchId) (cs : List BranchId) → b.node ≢ u.node → children_after b cs u.sent ≡ cs
    silent_else b cs other = by u.cut refl
      where
        by : (cut : Bool) → u.cut ≡ cut → children_after b cs u.sent ≡ cs
        by true is = ap (children_after b cs) (sent_by is)
        by false is = ap (children_after b cs) (unfolding_sent is) ∙ (stamped_calls b d.after.clock cs d.says ∙ grown.1 b cs (own_after is b other (item_at live_id d.after.lives b) refl))

    told_elsewhere : (n : ℕ) (j : NodeState) → u.node ≢ n → node_at f1 n ≡ Some j → (l : Live) → live_at j l.me ≡ Some l → l.parent ≢ None → IsTracedOf t.places tr1 l
    told_elsewhere n j other up l live below =
        let before : node_at f0 n ≡ Some j = sym (turn_elsewhere t.places t.commands f0 stand.0.0.even u n other).0 ∙ up in
        let own : l.me.node ≡ n = all_found (λ l. l.me.node ≡ n) live_id j.lives l.me l (ids_name_their_node s0 lawful0 n j before).lives live in
        stays_told l (now.lower n j before l live below) (silent_else l.me (children_of l) (λ same. other (sym same ∙ own)))

    -- ---- its own node

    module _ (whole_turn : u.cut ≡ false) where
      opened_seen : (l : Live) → IsOpened k p u.input Unborn d.says l → (o : Option Seen) → seen_at tr0 l.me ≡ o → o ≡ None
      opened_seen l opened None none = refl
      opened_seen l opened (Some s) some =
          let me : s.me ≡ l.me = item_is seen_id tr0.seen l.me s some in
          elim (all_found (IsKnown hs) seen_id tr0.seen l.me s now.known some) [
            | inl low ↦ (let at : s.me.session ≡ l.me.session = ap (λ (b : BranchId). b.session) me in absurd (omega (arith, low, at, opened.high)))
            | inr born ↦ (let at : born_at bs0 l.me ≡ Some born.0 = subst (λ c. born_at bs0 c ≡ Some born.0) (born.2 ∙ me) born.1 in let none = opened.unborn in absurd (cc (at, none)))
          ]

      pub opened_begun : (l : Live) (opened : IsOpened k p u.input Unborn d.says l) → seen_at (begun t.places f0 tr0 u) l.me ≡ Some (newly_seen l.me opened.root (Some opened.parent) (strength_at f0 l.me.node) opened.read_at)
      opened_begun l opened =
          let m : Msg = record { from = opened.parent; to = opened.to; scn = opened.came.scn; kind = kinds.Open opened.edge opened.root opened.depth opened.read_at } in
          let x : Msg = record { from = l.me; to = opened.parent; scn = d.after.clock; kind = kinds.Opened opened.edge opened.strength } in
          let s : Seen = newly_seen l.me opened.root (Some opened.parent) (strength_at f0 l.me.node) opened.read_at in
          let sent : u.sent ≡ x ∷ [] = unfolding_sent whole_turn ∙ ap (map (stamped d.after.clock)) opened.told in
          let none : seen_at tr0 l.me ≡ None = opened_seen l opened (seen_at tr0 l.me) refl in
          let begins : begun_in_turn f0 tr0 u ≡ s ∷ [] = ap (λ c. if c then [] else roots_begun f0 tr0 u.node u.input ++ children_begun f0 tr0 u.input u.sent) whole_turn
          ∙ (ap (λ i. roots_begun f0 tr0 u.node i ++ children_begun f0 tr0 i u.sent) opened.came.is
          ∙ (ap (λ ms. children_begun f0 tr0 (inputs.Message m) ms) sent ∙ ap (λ (o : Option Seen). if is_none o then s ∷ [] else []) none)) in
          ap (λ xs. item_at seen_id (tr0.seen ++ xs) l.me) begins ∙ find_last (is_item_of seen_id l.me) tr0.seen s none (same_from_equal l.me l.me refl)

      told_opened : (l : Live) → live_at d.after l.me ≡ Some l → IsOpened k p u.input Unborn d.says l → IsTracedOf t.places tr1 l
      told_opened l live opened =
          turned_so l.me (newly_seen l.me opened.root (Some opened.parent) (strength_at f0 l.me.node) opened.read_at) (opened_begun l opened) l refl (sym opened.is_parent)
          (ap (children_after l.me []) (unfolding_sent whole_turn) ∙ (stamped_calls l.me d.after.clock [] d.says ∙ (ap (called_by l.me []) opened.told ∙ (still_calls l.me [] (post l.me opened.parent (kinds.Opened opened.edge opened.strength)) (refl, tt) ∙ sym opened.none))))
          (sym opened.reads) opened_strong
        where
          here : l.me.node ≡ u.node
          here = elim (cases_eq l.me.node u.node) [
            | inl is ↦ is
            | inr other ↦ (let none = own_after whole_turn l.me other (live_at d.after l.me) refl in absurd (cc (live, none)))
          ]

          -- it has the strength of its node
          opened_strong : unwrap_or (strength_at f0 l.me.node) (place_at t.places l.me.node).strength ≡ l.strength
          opened_strong = ap (λ n. unwrap_or (strength_at f0 n) (place_at t.places n).strength) here ∙ (ap (λ o. unwrap_or o p.strength) strength_kept ∙ sym opened.strong)

      told_here : (l : Live) → live_at d.after l.me ≡ Some l → l.parent ≢ None → IsTracedOf t.places tr1 l
      told_here l live below = by (item_at live_id k.lives l.me) refl
        where
          its : Grows k p u.input Unborn d.says l
          its = grown.0.each l.me l live

          by : (o : Option Live) → item_at live_id k.lives l.me ≡ o → IsTracedOf t.places tr1 l
          by None none = elim (its.new none) [ inl root ↦ absurd (below root) | inr opened ↦ told_opened l live opened ]
          by (Some z) found =
              let was = its.old z found in
              let me : z.me ≡ l.me = item_is live_id k.lives l.me z found in
              let told : IsTracedOf t.places tr0 z = now.lower u.node k may.1.up z (subst (λ c. live_at k c ≡ Some z) (sym me) found) (λ none. below (was.1 ∙ none)) in
              let at : seen_at tr0 l.me ≡ Some told.0 = subst (λ c. seen_at tr0 c ≡ Some told.0) me told.1 in
              let mine : told.0.me ≡ l.me = item_is seen_id tr0.seen l.me told.0 at in
              turned_so l.me told.0 (old_begun l.me told.0 at) l refl (told.2 ∙ sym was.1)
              (ap (λ b. children_after b told.0.children u.sent) mine
              ∙ (ap (λ cs. children_after l.me cs u.sent) told.3
              ∙ (ap (children_after l.me (children_of z)) (unfolding_sent whole_turn) ∙ (stamped_calls l.me d.after.clock (children_of z) d.says ∙ sym was.0)))) (told.4 ∙ sym was.2)
              (subst (λ (b : BranchId). unwrap_or told.0.strength (place_at t.places b.node).strength ≡ z.strength) me told.5 ∙ sym was.3)

    pub told_at : (n : ℕ) (j : NodeState) → node_at f1 n ≡ Some j → (l : Live) → live_at j l.me ≡ Some l → l.parent ≢ None → IsTracedOf t.places tr1 l
    told_at n j up l live below = elim (cases_eq u.node n) [
      | inl here ↦ own u.cut refl (subst (λ m. node_at f1 m ≡ Some j) (sym here) up)
      | inr other ↦ told_elsewhere n j other up l live below
    ]
      where
        own : (cut : Bool) → u.cut ≡ cut → node_at f1 u.node ≡ Some j → IsTracedOf t.places tr1 l
        own true is there =
            let none : node_at f1 u.node ≡ None = here_after ∙ ap (λ c. kept_after c (Some (turn_of p k u.input))) is in absurd (cc (none, there))
        own false is there =
            let both : Some d.after ≡ Some j = sym (after_up is) ∙ there in
            let it : d.after ≡ j = cc in
            told_here is l (subst (λ i. live_at i l.me ≡ Some l) (sym it) live) below

    -- ---- ids that are told

    known_more : (s : Seen) → IsKnown hs s → IsKnown hs1 s
    known_more s (inl low) = inl low
    known_more s (inr born) = inr (born.0, born_end s1 lawful1 hs (record { rest = happenings.Turn u ∷ []; is = refl }) born.0 born.1, born.2)

    roots_known : (n : ℕ) (input : Input) → ((session : ℕ) (s : Option Stmt) → input ≡ inputs.Call session s → session ≤ 64) → AllByRecursion (IsKnown hs1) (roots_begun f0 tr0 n input)
    roots_known n (inputs.Call session (Some s)) low = by (begins_transaction s && is_none (root_at tr0 n session))
      where
        by : (q : Bool) → AllByRecursion (IsKnown hs1) (if q then root_seen f0 n s (next_root f0 tr0 n session) ∷ [] else [])
        by true = (inl (low session (Some s) refl), tt)
        by false = tt
    roots_known n _ low = tt

    -- one that says Opened began
    opened_born : (m : Msg) (ms : List Msg) → u.sent ≡ m ∷ ms → (edge strength : ℕ) → m.kind ≡ kinds.Opened edge strength → (x : Born) × Began (births_of s1) x × (x.me ≡ m.from)
    opened_born m ms sent edge strength kind =
        let all : AllByRecursion (λ (x : Post). GoesSo (Began (births_of s1)) x.from x.to x.kind) (said_in (facts_at s1)) = all_map (λ (x : Post). GoesSo (Began (births_of s1)) x.from x.to x.kind) packet_post (facts_at s1).net.packets (messages_are_of_neighbors s1 lawful1) in
        let says : said_in (facts_at s1) ≡ said_in f0 ++ map post_of u.sent = ap said_in (one_on t hs (happenings.Turn u)) ∙ said_after t.places t.commands f0 (happenings.Turn u) in
        let mine : AllByRecursion (λ (x : Post). GoesSo (Began (births_of s1)) x.from x.to x.kind) (map post_of u.sent)
        = all_behind (λ (x : Post). GoesSo (Began (births_of s1)) x.from x.to x.kind) (said_in f0) (map post_of u.sent) (subst (AllByRecursion (λ (x : Post). GoesSo (Began (births_of s1)) x.from x.to x.kind)) says all) in
        let first : GoesSo (Began (births_of s1)) m.from m.to m.kind = (subst (λ xs. AllByRecursion (λ (x : Post). GoesSo (Began (births_of s1)) x.from x.to x.kind) (map post_of xs)) sent mine).0 in
        let child : IsChildAt (Began (births_of s1)) m.from m.to edge = subst (GoesSo (Began (births_of s1)) m.from m.to) kind first in
        (child.0, child.1, child.2)

    child_known : (came kind : Kind) (m : Msg) → ((edge strength : ℕ) → kind ≡ kinds.Opened edge strength → (x : Born) × Began (births_of s1) x × (x.me ≡ m.from)) → AllByRecursion (IsKnown hs1) (child_begun f0 tr0 came kind m)
    child_known (kinds.Open edge root depth read_at) (kinds.Opened number strength) m born = by (is_none (seen_at tr0 m.from))
      where
        by : (q : Bool) → AllByRecursion (IsKnown hs1) (if q then newly_seen m.from root (Some m.to) (strength_at f0 m.from.node) read_at ∷ [] else [])
        by true = (inr (born number strength refl), tt)
        by false = tt
    child_known (kinds.Open edge root depth read_at) _ m born = tt
    child_known _ kind m born = tt

    children_known : (input : Input) (ms : List Msg) → u.sent ≡ ms → AllByRecursion (IsKnown hs1) (children_begun f0 tr0 input ms)
    children_known (inputs.Message came) (m ∷ ms) sent = child_known came.kind m.kind m (λ edge strength kind. opened_born m ms sent edge strength kind)
    children_known (inputs.Message came) [] sent = tt
    children_known _ ms sent = tt

    begun_known : AllByRecursion (IsKnown hs1) (begun_in_turn f0 tr0 u)
    begun_known = by u.cut
      where
        by : (cut : Bool) → AllByRecursion (IsKnown hs1) (if cut then [] else roots_begun f0 tr0 u.node u.input ++ children_begun f0 tr0 u.input u.sent)
        by true = tt
        by false =
            all_append (IsKnown hs1) (roots_begun f0 tr0 u.node u.input) (children_begun f0 tr0 u.input u.sent)
            (roots_known u.node u.input (λ session s call. (call_free f0 k u.node u.input u.took session s call may.1.comes).0.1)) (children_known u.input u.sent refl)

    all_known : AllByRecursion (IsKnown hs1) tr1.seen
    unfolding trail_after
    all_known =
        all_map (IsKnown hs1) (turned t.places f0 tr0 u) (begun t.places f0 tr0 u).seen
        (all_append (IsKnown hs1) tr0.seen (begun_in_turn f0 tr0 u) (all_weaker (IsKnown hs) (IsKnown hs1) known_more tr0.seen now.known) begun_known)

    pub turn_tells : Tells hs1
    turn_tells = record {
      lower = subst (λ f. TracesLower f (tr_at t hs1)) (sym (one_on t hs (happenings.Turn u))) (subst (TracesLower f1) (sym (trail_one_on t hs (happenings.Turn u))) told_at);
      known = subst (λ tr. AllByRecursion (IsKnown hs1) tr.seen) (sym (trail_one_on t hs (happenings.Turn u))) all_known;
    }
