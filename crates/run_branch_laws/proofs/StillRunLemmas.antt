-- In every lawful run each turn leaves the tree below a live branch that is not working as it was.
use Rattle.std.proofs.Common.{◌≡◌, ◌≢◌, ℕ, List, [], ◌∷◌, Option, Some, None, refl, sym, ap, subst, ◌∙◌}
use Rattle.tran_ids.proofs.ListedLemmas.{item_is}
use Rattle.node_rules.specs.Data.{BranchId, Live, Place}
use Rattle.node_rules.specs.Data.phases
use Rattle.node_rules.specs.declared.work.Work.{Work}
use Rattle.node_rules.specs.Words.{numbered, item_at}
use Rattle.node_rules.specs.NodeState.{NodeState, Branch, live_id, branch_at}
use Rattle.node_rules.specs.Turn.{turn_of, heard}
use Rattle.agreement.specs.Events.{Event}
use Rattle.run_rules.specs.Data.{Turn, Happening, Command}
use Rattle.run_rules.specs.Data.happenings
use Rattle.run_rules.specs.Facts.{Facts, first_facts, facts_after}
use Rattle.run_rules.specs.Lawful.{IsPlace, MayTurn, MayHappen, IsLawful}
use Rattle.run_base_laws.specs.RunEvents.{events_after}
use Rattle.run_base_laws.specs.NodeLaws.{EachFactFrom}
use Rattle.run_rules.specs.Births.{Born, births_after, born_at}
use Rattle.run_base_laws.specs.BirthLaws.{Began, LiveIs, NamesAre}
use Rattle.run_base_laws.specs.InTurnLaws.{said_in}
use Rattle.run_base_laws.specs.FreezeLaws.{StandsStill, LeavesStill, TreesStandStill}
use Rattle.run_rules.proofs.ListLemmas.{all_weaker}
use Rattle.run_base_laws.proofs.OwnLemmas.{all_found}
use Rattle.run_base_laws.proofs.LawfulLemmas.{turn_of_node}
use Rattle.run_base_laws.proofs.EventsStandLemmas.{node_so, owned_so}
use Rattle.run_base_laws.proofs.BirthLemmas.{news_of}
use Rattle.run_base_laws.proofs.BirthsStandLemmas.{all_unborn}
use Rattle.run_base_laws.proofs.BirthRunLemmas.{StandBorn, stand_born_on, stand_born_first}
use Rattle.run_base_laws.proofs.NeighborLemmas.{News}
use Rattle.node_rules.specs.LiveBranches.{works_of}
use Rattle.node_rules.proofs.LiveLemmas.{branch_parts}
use Rattle.run_base_laws.proofs.RestRunLemmas.{RootsStand, roots_stand_on, first_rests, heard_rests}
use Rattle.run_base_laws.proofs.SaidPostLemmas.{unborn_asks, unborn_silent}
use Rattle.run_base_laws.proofs.KidLemmas.{edge_of, parent_in, parent_of}
use Rattle.run_base_laws.proofs.InTurnRunLemmas as calls
use Rattle.run_base_laws.proofs.InTurnRunLemmas.{CallsStand, heard_calls, calls_stand_on, first_calls}
use Rattle.run_base_laws.proofs.OneTurn.{one_turn}
use Rattle.run_branch_laws.proofs.FreezeRunLemmas as frozen
use Rattle.run_branch_laws.proofs.FreezeRunLemmas.{FreezeStand, freeze_on, first_freeze}
use Rattle.run_branch_laws.proofs.StillLemmas.{pair, Still, Stills, NewThere, stills_on}

-- as a turn begins each live branch is as it was
first_stills : (k : NodeState) → ((b : BranchId) → item_at live_id k.lives b ≡ None → item_at (λ (w : Work). w.branch) k.works b ≡ None) → Stills k k
first_stills k there = record { there = there; each = each }
  where
    each : (b : BranchId) (l : Live) → item_at live_id k.lives b ≡ Some l → Still k l (works_of k.works b)
    each b l found z at other =
        let me : l.me ≡ b = item_is live_id k.lives b l found in
        let it : Some z ≡ Some l = sym at ∙ (ap (λ c. item_at live_id k.lives c) me ∙ found) in
        let here : z ≡ l = cc in
        subst (λ c. StandsStill (pair k z (works_of k.works l.me)) (pair k l (works_of k.works c))) me
        (subst (λ y. StandsStill (pair k y (works_of k.works l.me)) (pair k l (works_of k.works l.me))) (sym here)
        (record { peers = refl; weights = refl; counts = refl; changed = refl; calls = refl; last = refl; phase = subst (λ (y : Live). y.phase ≢ phases.Working) here other }))

module _ (places : List Place) (asked : List Command) (each : (n : ℕ) (p : Place) → numbered places n ≡ Some p → IsPlace places n p) where
  module _ (f : Facts) (t : List Event) (bs : List Born) (stand : StandBorn places asked each f t bs) (roots : RootsStand places asked each f) (turned : CallsStand f) (now : FreezeStand f) where
    module _ (u : Turn) (k : NodeState) (may : MayTurn places f u k) where
      open one_turn places asked f u k use {p, d}

      abbrev Here : BranchId → Type 0
      Here = calls.Here places asked each f t bs stand roots turned u k may

      abbrev May : BranchId → Type 0
      May = calls.May places asked each f t bs stand roots turned u k may

      not_there : (b : BranchId) → born_at bs b ≡ None → (o : Option Live) → item_at live_id k.lives b ≡ o → o ≡ None
      not_there b unborn None is = refl
      not_there b unborn (Some l) is =
          let names : NamesAre (Began bs) k = calls.names places asked each f t bs stand roots turned u k may in
          let born : LiveIs (Began bs) l = all_found (LiveIs (Began bs)) live_id k.lives b l names.0 is in
          let at : born_at bs b ≡ Some born.born = subst (λ c. born_at bs c ≡ Some born.born) (born.is_me ∙ item_is live_id k.lives b l is) born.began in
          absurd (cc (at, unborn))

      news : News (NewThere k (edge_of bs) (parent_of bs) May Here u.input (said_in f) (frozen.received places asked each f t bs stand roots turned now u k may) (frozen.prepared places asked each f t bs stand roots turned now u k may) p (λ b is. is)) p u.input (heard k u.input)
      news =
          news_of _ p k u.input
          (all_weaker (λ y. born_at bs y.me ≡ None) _
          (λ y none. (
            ((unborn_silent bs stand.1.trees y.me none f.net.packets stand.1.said, ap parent_in none), (λ c. unborn_asks bs stand.1.trees y.me none c f.net.packets stand.1.said)),
            not_there y.me none (item_at live_id k.lives y.me) refl,
          )) _
          (all_unborn places asked each f t bs u k stand.0.1 stand.0.0.even (node_so places asked each f t stand.0) (owned_so places asked each f t stand.0) may (calls.number places asked each f t bs stand roots turned u k may) stand.1))

      stills : Stills k d.after
      stills =
          stills_on k (edge_of bs) (parent_of bs) May Here u.input (said_in f) (frozen.received places asked each f t bs stand roots turned now u k may) (frozen.prepared places asked each f t bs stand roots turned now u k may) p (λ b is. is)
          (calls.step places asked each f t bs stand roots turned u k may) (heard_rests k u.input (calls.rests places asked each f t bs stand roots turned u k may)).0 news
          (calls.begun places asked each f t bs stand roots turned u k may) (frozen.ice places asked each f t bs stand roots turned now u k may)
          (heard_calls (Still k) k u.input (first_stills k (calls.rests places asked each f t bs stand roots turned u k may).1.there))

      turn_still : (x y : Branch) → branch_at k x.live.me ≡ Some x → x.live.phase ≢ phases.Working → y.live.me ≡ x.live.me → branch_at d.after y.live.me ≡ Some y → StandsStill x y
      turn_still x y found other me after =
          let old = branch_parts k x.live.me x found in
          let new = branch_parts d.after y.live.me y after in
          let at : item_at live_id k.lives y.live.me ≡ Some x.live = subst (λ b. item_at live_id k.lives b ≡ Some x.live) (sym me) old.0 in
          let works : x.work ≡ works_of k.works y.live.me = old.1 ∙ ap (works_of k.works) (sym me) in
          let is : StandsStill (pair k x.live x.work) (pair k y.live y.work)
          = subst (λ w. StandsStill (pair k x.live w) (pair k y.live y.work)) (sym works)
          (subst (λ w. StandsStill (pair k x.live (works_of k.works y.live.me)) (pair k y.live w)) (sym new.1) (stills.each y.live.me y.live new.0 x.live at other)) in
          record { peers = is.peers; weights = is.weights; counts = is.counts; changed = is.changed; calls = is.calls; last = is.last; phase = is.phase }

    leaves_still : (h : Happening) → MayHappen places asked f h → LeavesStill places f h
    unfolding turn_of
    leaves_still (happenings.Turn u) may = λ k up x y found other me after. turn_still u k (turn_of_node places f u k asked may up) x y found other me after
    leaves_still _ may = tt

  still_each : (f : Facts) (hs : List Happening) (t : List Event) (bs : List Born) → StandBorn places asked each f t bs → RootsStand places asked each f → CallsStand f → FreezeStand f → IsLawful places asked f hs
      → EachFactFrom (LeavesStill places) places asked f hs
  unfolding IsLawful
  still_each f [] t bs stand roots turned now lawful = tt
  still_each f (h ∷ hs) t bs stand roots turned now lawful = (
    leaves_still f t bs stand roots turned now h lawful.0,
    still_each (facts_after places asked f h) hs (events_after places asked f h t) (births_after places f h bs) (stand_born_on places asked each f t bs h stand lawful.0)
        (roots_stand_on places asked each f t bs stand roots h lawful.0) (calls_stand_on places asked each f t bs stand roots turned h lawful.0) (freeze_on places asked each f t bs stand roots turned now h lawful.0) lawful.1,
  )

pub trees_stand_still : TreesStandStill
trees_stand_still t lawful =
    still_each t.places t.commands t.of_a_script.each (first_facts t.places) t.trace [] [] (stand_born_first t.places t.commands t.of_a_script.each)
    (first_rests t.places t.commands t.of_a_script.each) (first_calls t.places t.commands t.of_a_script.each) (first_freeze t.places t.commands t.of_a_script.each) lawful
