-- In every lawful run a live branch below a root that is not working got Prepare of its parent, and so did one that has left
-- and was not dropped.
use Rattle.std.proofs.Common.{◌≡◌, ◌≢◌, ℕ, Bool, true, false, List, [], ◌∷◌, ◌++◌, length, Option, Some, None, inl, inr, refl, sym, ap, subst, ◌∙◌, append-nil}
use Rattle.std.specs.List.{AllByRecursion}
use Rattle.std.proofs.lemmas.List.{append_assoc}
use Rattle.tran_ids.proofs.ListedLemmas.{item_is}
use Rattle.agreement.specs.Events.{Event, Exit, Dropped, exit}
use Rattle.node_rules.specs.Data.{BranchId, Live, Kind, Place, Input}
use Rattle.node_rules.specs.Data.inputs
use Rattle.node_rules.specs.Data.kinds
use Rattle.node_rules.specs.Data.phases
use Rattle.node_rules.specs.Inputs.{Came}
use Rattle.node_rules.specs.Words.{item_at}
use Rattle.node_rules.specs.NodeState.{NodeState, Branch, TurnDraft, live_id, live_at, branch_at, work_at, with_work}
use Rattle.node_rules.specs.Turn.{turn_of, heard, draft_of}
use Rattle.node_rules.proofs.Steps.{HasRoot}
use Rattle.run_rules.specs.Births.{Born, births_from, births_of, born_at}
use Rattle.run_base_laws.specs.BirthLaws.{Began, IsChild, GoesSo, LiveIs}
use Rattle.run_rules.specs.Data.{Took, Turn, Happening}
use Rattle.run_rules.specs.Data.happenings
use Rattle.run_rules.specs.Facts.{Facts, place_at, node_at, kept_after, facts_after}
use Rattle.run_rules.specs.Lawful.{Comes, MayHappen, MayTurn, History, IsLawfulRun}
use Rattle.run_base_laws.specs.RunEvents.{events_after, events_from}
use Rattle.run_rules.proofs.AtNodeLemmas.{turn_elsewhere, turn_here}
use Rattle.run_base_laws.proofs.BirthRunLemmas.{messages_are_of_neighbors, nodes_name_the_born}
use Rattle.run_base_laws.proofs.BirthsStandLemmas.{came_so}
use Rattle.run_base_laws.proofs.EventsStandLemmas.{run_stands}
use Rattle.run_branch_laws.proofs.FreezeLemmas.{working_or}
use Rattle.run_base_laws.proofs.LawfulLemmas.{serves}
use Rattle.run_base_laws.proofs.NodesStandLemmas.{some_or_none}
use Rattle.run_base_laws.proofs.OwnLemmas.{all_found}
use Rattle.run_base_laws.proofs.RootLemmas.{roots_are_of_sessions}
use Rattle.run_base_laws.proofs.TurnEventLemmas.{cases_nat}
use Rattle.tree_laws.proofs.AnswerRunLemmas.{lives_heard}
use Rattle.tree_laws.proofs.FoundLemmas.{lives_found}
use Rattle.tree_laws.proofs.PrefixLemmas.{so_far, f_at, e_at, one_on, more_on}
use Rattle.tree_laws.proofs.FateLemmas.{node_back, drops_alone}
use Rattle.tree_laws.proofs.TimeLemmas.{Part, part_lawful, may_of, exit_on, born_end, keep_on}
use Rattle.commit_spread_laws.specs.GotLaws.{GotPrepare, CollectorsGotPrepare, LeaversGotPrepare}
use Rattle.commit_spread_laws.proofs.GotLeaveLemmas.{WasThere, left_was}
use Rattle.commit_spread_laws.proofs.GotStepLemmas.{PrepareCame, Got, AllGot, OfRoots, first_got, got_on}
use Rattle.tree_laws.proofs.AtTurn.{at_happening}

-- a message that comes to a branch comes to its node
pub came_here : (f : Facts) (k : NodeState) (node : ℕ) (input : Input) (took : Option Took) → Comes f k node input took → (from to : BranchId) (kind : Kind) → Came input from to kind → node ≡ to.node
came_here f k node input took comes from to kind came = by took (subst (λ i. Comes f k node i took) came.is comes)
  where
    by : (o : Option Took) → Comes f k node (inputs.Message (record { from = from; to = to; scn = came.scn; kind = kind })) o → node ≡ to.node
    by None it = absurd it
    by (Some x) it = sym it.1.here

-- what came in a turn came with one happening more
pub got_more : (hs : List Happening) (h : Happening) (q b : BranchId) → GotPrepare hs q b → GotPrepare (hs ++ h ∷ []) q b
got_more hs h q b it = record {
  message = it.message;
  is_from = it.is_from;
  is_to = it.is_to;
  asks = it.asks;
  came = record {
    before = it.came.before;
    turn = it.came.turn;
    later = it.came.later ++ h ∷ [];
    is = sym (append_assoc it.came.before (happenings.Turn it.came.turn ∷ it.came.later) (h ∷ [])) ∙ ap (λ xs. xs ++ h ∷ []) it.came.is;
    input = it.came.input;
    here = it.came.here;
  };
}

module _ (t : History) (whole : IsLawfulRun t) where
  abbrev bs : List Born
  bs = births_of t

  -- live branches that are not working
  abbrev GotAt : List Happening → Type 0
  GotAt hs = (n : ℕ) (k : NodeState) → node_at (f_at t hs) n ≡ Some k → (l : Live) → live_at k l.me ≡ Some l → l.phase ≢ phases.Working → (q : BranchId) → l.parent ≡ Some q → GotPrepare hs q l.me

  -- branches that have left
  abbrev LeftGot : List Happening → Type 0
  LeftGot hs = (x : Born) → Began bs x → (q : BranchId) → x.parent ≡ Some q → (z : Exit) → exit (e_at t hs) x.me ≡ Some z → z ≢ Dropped → GotPrepare hs q x.me

  abbrev AllGotSo : List Happening → Type 0
  AllGotSo hs = GotAt hs × LeftGot hs

  -- it began in one way
  pub same_born : (x y : Born) → Began bs x → Began bs y → x.me ≡ y.me → x ≡ y
  same_born x y one two me =
      let at : born_at bs y.me ≡ Some x = subst (λ i. born_at bs i ≡ Some x) me one in
      let both : Some x ≡ Some y = sym at ∙ two in
      cc

  module _ (hs : List Happening) (h : Happening) (rest : List Happening) (is : hs ++ h ∷ rest ≡ t.trace) (now : AllGotSo hs) where
    open at_happening t whole hs h rest is use {f, s, after, part, part_after as part_z, lawful}

    even : length f.nodes ≡ length f.records
    even = (run_stands s lawful).0.even

    -- a live branch as it began
    born_live : (xs : List Happening) (there : Part t whole xs) (n : ℕ) (k : NodeState) → node_at (f_at t xs) n ≡ Some k → (l : Live) → live_at k l.me ≡ Some l → (x : Born) × Began bs x × (x.me ≡ l.me) × (x.parent ≡ l.parent)
    born_live xs there n k up l live =
        let placed : LiveIs (Began (births_of (so_far t xs))) l = all_found (LiveIs (Began (births_of (so_far t xs)))) live_id k.lives l.me l (nodes_name_the_born (so_far t xs) (part_lawful t whole xs there) n k up).0 live in
        (placed.born, born_end t whole xs there placed.born placed.began, placed.is_me, placed.is_parent)

    -- ---- a turn

    module _ (u : Turn) (turn : h ≡ happenings.Turn u) (k : NodeState) (may : MayTurn t.places f u k) where
      abbrev p : Place
      p = place_at t.places u.node

      abbrev k0 : NodeState
      k0 = heard k u.input

      abbrev d : TurnDraft
      d = draft_of p k u.input

      -- Prepare that comes in it
      came_now : (x : Born) → Began bs x → (q : BranchId) → x.parent ≡ Some q → PrepareCame u.input x.me → GotPrepare after q x.me
      came_now x began q above prepare =
          let from : BranchId = prepare.0 in
          let came : Came u.input from x.me (kinds.Prepare prepare.1 prepare.2) = prepare.3 in
          let kid : IsChild (Began (births_of s)) x.me from
          = came_so (GoesSo (Began (births_of s))) f (messages_are_of_neighbors s lawful) k u.node u.input u.took may.comes from x.me (kinds.Prepare prepare.1 prepare.2) came in
          let it : kid.0 ≡ x = same_born kid.0 x (born_end t whole hs part kid.0 kid.1) began kid.2 in
          let parent : x.parent ≡ Some from = subst (λ (y : Born). y.parent ≡ Some from) it kid.3 in
          let both : Some from ≡ Some q = sym parent ∙ above in
          let here : from ≡ q = cc in
          record {
            message = record { from = from; to = x.me; scn = came.scn; kind = kinds.Prepare prepare.1 prepare.2 };
            is_from = here;
            is_to = refl;
            asks = refl;
            came = record {
              before = hs;
              turn = u;
              later = [];
              is = ap (λ y. hs ++ y ∷ []) (sym turn);
              input = came.is;
              here = came_here f k u.node u.input u.took may.comes from x.me (kinds.Prepare prepare.1 prepare.2) came;
            };
          }

      roots : OfRoots k0 p u.input k0
      roots n given l call has live =
          let same : k0 ≡ k = ap (heard k) call in
          let root : HasRoot k n l.me = subst (λ (j : NodeState). HasRoot j n l.me) same has in
          let there : live_at k l.me ≡ Some l = subst (λ (j : NodeState). live_at j l.me ≡ Some l) same live in
          (roots_are_of_sessions s lawful u.node k may.up n l.me root).1 l there

      got_after : AllGot k0 p u.input d.after
      got_after =
          got_on k0 p u.input (serves t.places f u k may).step roots
          (first_got k0 p u.input (subst (λ (ls : List Live). AllByRecursion (λ l. item_at live_id ls l.me ≡ Some l) ls) (sym (lives_heard k u.input)) (lives_found s lawful u.node k may.up)))

      -- a live branch that it leaves
      got_live : (x : Born) → Began bs x → (l : Live) → x.me ≡ l.me → x.parent ≡ l.parent → live_at d.after l.me ≡ Some l → l.phase ≢ phases.Working → (q : BranchId) → l.parent ≡ Some q → GotPrepare after q l.me
      got_live x began l me parent live busy q above = elim (all_found (Got k0 p u.input) live_id d.after.lives l.me l got_after live busy) [
        | inl none ↦ absurd (cc (none, above))
        | inr (inl was) ↦ (let there : live_at k l.me ≡ Some was.0 = subst (λ (ls : List Live). item_at live_id ls l.me ≡ Some was.0) (lives_heard k u.input) was.1 in
            let its : was.0.me ≡ l.me = item_is live_id k.lives l.me was.0 there in
            let mine : live_at k was.0.me ≡ Some was.0 = subst (λ i. live_at k i ≡ Some was.0) (sym its) there in
            let y = born_live hs part u.node k may.up was.0 mine in
            let it : y.0 ≡ x = same_born y.0 x y.1 began (y.2 ∙ (its ∙ sym me)) in
            let above_y : was.0.parent ≡ Some q = sym y.3 ∙ (ap (λ (w : Born). w.parent) it ∙ (parent ∙ above)) in
            subst (GotPrepare after q) its (got_more hs h q was.0.me (now.0 u.node k may.up was.0 mine was.2 q above_y)))
        | inr (inr came) ↦ subst (GotPrepare after q) me (came_now x began q (parent ∙ above) (subst (PrepareCame u.input) (sym me) came))
      ]

      -- one that leaves in it
      got_left : (x : Born) → Began bs x → (q : BranchId) → x.parent ≡ Some q → (z : Exit) → z ≢ Dropped → exit (e_at t hs) x.me ≡ None → exit (events_after t.places t.commands f (happenings.Turn u) (e_at t hs)) x.me ≡ Some z → GotPrepare after q x.me
      got_left x began q above z other none left =
          let was : WasThere t hs lawful u k may x.me = left_was t hs lawful u k may x.me none z other left in
          let y = born_live hs part u.node k may.up was.live was.found in
          let it : y.0 ≡ x = same_born y.0 x y.1 began (y.2 ∙ was.is_me) in
          let parent : was.live.parent ≡ Some q = sym y.3 ∙ (ap (λ (w : Born). w.parent) it ∙ above) in
          elim (working_or was.live.phase) [
            | inl working ↦ elim (was.begins working) [
              | inl root ↦ absurd (cc (root, parent))
              | inr came ↦ came_now x began q above (subst (PrepareCame u.input) was.is_me came)
            ]
            | inr busy ↦ subst (GotPrepare after q) was.is_me (got_more hs h q was.live.me (now.0 u.node k may.up was.live was.found busy q parent))
          ]

      -- its node after it
      by_cut : (cut : Bool) (j : NodeState) (l : Live) → kept_after cut (Some (turn_of p k u.input)) ≡ Some j → live_at j l.me ≡ Some l → live_at d.after l.me ≡ Some l
      unfolding turn_of
      by_cut true j l is live = absurd cc
      by_cut false j l is live = (let it : d.after ≡ j = cc in subst (λ (i : NodeState). live_at i l.me ≡ Some l) (sym it) live)

      turn_at : GotAt after
      turn_at n j up l live busy q above =
          let x = born_live after part_z n j up l live in
          let follows : node_at (facts_after t.places t.commands f (happenings.Turn u)) n ≡ Some j
          = subst (λ (y : Happening). node_at (facts_after t.places t.commands f y) n ≡ Some j) turn (subst (λ (y : Facts). node_at y n ≡ Some j) (one_on t hs h) up) in
          elim (cases_nat u.node n) [
            | inl here ↦ (let its : node_at (facts_after t.places t.commands f (happenings.Turn u)) u.node ≡ Some j = subst (λ i. node_at (facts_after t.places t.commands f (happenings.Turn u)) i ≡ Some j) (sym here) follows in
                let left : kept_after u.cut (Some (turn_of p k u.input)) ≡ Some j = sym (turn_here t.places t.commands f even u k may.up).0 ∙ its in
                got_live x.0 x.1 l x.2 x.3 (by_cut u.cut j l left live) busy q above)
            | inr other ↦ got_more hs h q l.me (now.0 n j (sym (turn_elsewhere t.places t.commands f even u n other).0 ∙ follows) l live busy q above)
          ]

    -- ---- any happening

    apart_at : ((u : Turn) → h ≢ happenings.Turn u) → GotAt after
    apart_at not n j up l live busy q above =
        let w : Branch = record { live = l; work = work_at j l.me } in
        let found : branch_at j l.me ≡ Some w = ap (with_work j) live in
        got_more hs h q l.me (now.0 n j (node_back t hs h not n j (subst (λ (y : Facts). node_at y n ≡ Some j) (one_on t hs h) up) w found) l live busy q above)

    abbrev NewGot : Type 0
    NewGot = (x : Born) → Began bs x → (q : BranchId) → x.parent ≡ Some q → (z : Exit) → z ≢ Dropped → exit (e_at t hs) x.me ≡ None → exit (events_after t.places t.commands f h (e_at t hs)) x.me ≡ Some z → GotPrepare after q x.me

    apart_left : ((u : Turn) → h ≢ happenings.Turn u) → NewGot
    apart_left not x began q above z other none left = absurd (other (drops_alone t hs h not x.me z none left))

    turn_left : (u : Turn) → h ≡ happenings.Turn u → (k : NodeState) → MayTurn t.places f u k → NewGot
    turn_left u turn k may x began q above z other none left = got_left u turn k may x began q above z other none (subst (λ (y : Happening). exit (events_after t.places t.commands f y (e_at t hs)) x.me ≡ Some z) turn left)

    next : (y : Happening) → h ≡ y → GotAt after × NewGot
    next (happenings.Turn u) turn =
        (let may : MayHappen t.places t.commands f (happenings.Turn u) = subst (MayHappen t.places t.commands f) turn (may_of t whole hs h rest is) in (turn_at u turn may.0 may.1, turn_left u turn may.0 may.1))
    next (happenings.Stopped m) it = (let not : (u : Turn) → h ≢ happenings.Turn u = λ u turn. (let no : happenings.Turn u ≡ happenings.Stopped m = sym turn ∙ it in absurd cc) in (apart_at not, apart_left not))
    next (happenings.Started m boot) it = (let not : (u : Turn) → h ≢ happenings.Turn u = λ u turn. (let no : happenings.Turn u ≡ happenings.Started m boot = sym turn ∙ it in absurd cc) in (apart_at not, apart_left not))
    next (happenings.Begun m) it = (let not : (u : Turn) → h ≢ happenings.Turn u = λ u turn. (let no : happenings.Turn u ≡ happenings.Begun m = sym turn ∙ it in absurd cc) in (apart_at not, apart_left not))
    next (happenings.Cut a b) it = (let not : (u : Turn) → h ≢ happenings.Turn u = λ u turn. (let no : happenings.Turn u ≡ happenings.Cut a b = sym turn ∙ it in absurd cc) in (apart_at not, apart_left not))
    next (happenings.Join a b) it = (let not : (u : Turn) → h ≢ happenings.Turn u = λ u turn. (let no : happenings.Turn u ≡ happenings.Join a b = sym turn ∙ it in absurd cc) in (apart_at not, apart_left not))
    next (happenings.Lost m) it = (let not : (u : Turn) → h ≢ happenings.Turn u = λ u turn. (let no : happenings.Turn u ≡ happenings.Lost m = sym turn ∙ it in absurd cc) in (apart_at not, apart_left not))

    left_next : NewGot → LeftGot after
    left_next new x began q above z left other = elim (some_or_none (exit (e_at t hs) x.me)) [
      | inl old ↦ (let later : exit (events_after t.places t.commands f h (e_at t hs)) x.me ≡ Some old.0 = exit_on t.places t.commands f h (e_at t hs) x.me old.0 old.1 in
          let both : Some old.0 ≡ Some z = sym later ∙ follows in
          let it : old.0 ≡ z = cc in
          got_more hs h q x.me (now.1 x began q above old.0 old.1 (λ dropped. other (sym it ∙ dropped))))
      | inr none ↦ new x began q above z other none follows
    ]
      where
        follows : exit (events_after t.places t.commands f h (e_at t hs)) x.me ≡ Some z
        follows = subst (λ (e : List Event). exit e x.me ≡ Some z) (more_on t hs h) left

    got_next : AllGotSo after
    got_next = (let it = next h refl in (it.0, left_next it.1))

  -- nobody is live at first
  no_live : (n : ℕ) (k : NodeState) → node_at (f_at t []) n ≡ Some k → (l : Live) → live_at k l.me ≡ Some l → ⊥
  unfolding births_from
  no_live n k up l live =
      let part : Part t whole [] = record { rest = t.trace; is = refl } in
      let placed : LiveIs (Began (births_of (so_far t []))) l = all_found (LiveIs (Began (births_of (so_far t [])))) live_id k.lives l.me l (nodes_name_the_born (so_far t []) (part_lawful t whole [] part) n k up).0 live in
      let began : Began [] placed.born = placed.began in
      absurd cc

  first_gots : AllGotSo []
  unfolding events_from
  first_gots = ((λ n k up l live busy q above. absurd (no_live n k up l live)), (λ x began q above z left other. absurd cc))

  gots : AllGotSo t.trace
  gots = keep_on t whole AllGotSo got_next [] t.trace (record { rest = []; is = append-nil t.trace }) first_gots

pub collectors_got_prepare : CollectorsGotPrepare
collectors_got_prepare t whole n k up l live busy q above = (gots t whole).0 n k up l live busy q above

pub leavers_got_prepare : LeaversGotPrepare
leavers_got_prepare t whole x began q above z left other = (gots t whole).1 x began q above z left other
