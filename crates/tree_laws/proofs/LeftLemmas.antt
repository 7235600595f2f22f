-- In every lawful run a branch that has an exit asks nobody any more: who asks is live afterwards.
use Rattle.std.proofs.Common.{◌≡◌, ◌≢◌, ℕ, Bool, true, false, List, [], ◌∷◌, map, Some, None, inl, inr, refl, sym, ap, subst, ◌∙◌}
use Rattle.std.specs.Prelude.{IfSome}
use Rattle.std.specs.List.{AllByRecursion}
use Rattle.node_rules.specs.Data.{BranchId, Kind, Post, Place}
use Rattle.node_rules.specs.Words.{numbered}
use Rattle.node_rules.specs.NodeState.{NodeState, TurnDraft, live_id}
use Rattle.node_rules.specs.Turn.{turn_of, draft_of}
use Rattle.agreement.specs.Events.{Event, exit}
use Rattle.run_rules.specs.Data.{Turn, Happening, Command}
use Rattle.run_rules.specs.Data.happenings
use Rattle.run_rules.specs.Facts.{Facts, first_facts, place_at, node_at, kept_after, facts_after, facts_of}
use Rattle.run_rules.specs.Lawful.{IsPlace, MayTurn, MayHappen, IsOwed, IsLawful, facts_at}
use Rattle.run_base_laws.specs.RunEvents.{events_after}
use Rattle.run_base_laws.specs.EventLaws.{EachEventFrom}
use Rattle.run_rules.specs.Births.{Born, births_after}
use Rattle.run_rules.specs.Trail.{is_prepare}
use Rattle.run_base_laws.specs.InTurnLaws.{post_of, said_in}
use Rattle.run_branch_laws.specs.WalkLaws.{is_below, was_sent}
use Rattle.run_base_laws.proofs.OwnLemmas.{all_found}
use Rattle.run_base_laws.proofs.BirthLemmas.{turn_left, stop_left}
use Rattle.run_base_laws.proofs.BirthRunLemmas.{StandBorn, stand_born_on, stand_born_first}
use Rattle.run_base_laws.proofs.RestRunLemmas.{RootsStand, roots_stand_on, first_rests}
use Rattle.run_base_laws.proofs.SaidPostLemmas.{posts_back, posts_of, said_after}
use Rattle.run_base_laws.proofs.InTurnRunLemmas as calls
use Rattle.run_base_laws.proofs.InTurnRunLemmas.{CallsStand, calls_stand_on, first_calls}
use Rattle.run_branch_laws.proofs.FreezeRunLemmas.{FreezeStand, freeze_on, first_freeze}
use Rattle.tree_laws.specs.AskLaws.{HasToldAll, LeftHaveToldAll}
use Rattle.tree_laws.proofs.AskLemmas.{sent_split, sent_wider, below_asks}
use Rattle.tree_laws.proofs.AskStepLemmas.{Asker}
use Rattle.tree_laws.proofs.AskRunLemmas.{AskStand, leaves, ask_on, first_ask}

module _ (places : List Place) (asked : List Command) (each : (n : ℕ) (p : Place) → numbered places n ≡ Some p → IsPlace places n p) where
  -- an exit stays
  left_on : (b : BranchId) (f : Facts) (h : Happening) (t : List Event) → exit t b ≢ None → exit (events_after places asked f h t) b ≢ None
  left_on b f (happenings.Turn u) t left = turn_left b f (facts_after places asked f (happenings.Turn u)) u t left
  left_on b f (happenings.Stopped n) t left = stop_left b f (facts_after places asked f (happenings.Stopped n)) n t left
  left_on b f (happenings.Started n boot) t left = left
  left_on b f (happenings.Begun c) t left = left
  left_on b f (happenings.Cut m n) t left = left
  left_on b f (happenings.Join m n) t left = left
  left_on b f (happenings.Lost k) t left = left

  module _ (kind : Kind → Bool) (asks : (x : Kind) → kind x ≡ true → is_prepare x ≡ true) where
    module _ (f : Facts) (t : List Event) (bs : List Born) (stand : StandBorn places asked each f t bs) (roots : RootsStand places asked each f) (turned : CallsStand f) (ice : FreezeStand f) (now : AskStand f bs) where
      -- who asks in a turn is live after it
      turn_asks_live : (u : Turn) (k : NodeState) (may : MayTurn places f u k) (cut : Bool) → u.cut ≡ cut → IsOwed (place_at places u.node) k u.input u.wrote u.sent cut → (b c : BranchId)
          → was_sent kind (map post_of u.sent) b c ≡ true → exit (events_after places asked f (happenings.Turn u) t) b ≡ None
      unfolding turn_of
      turn_asks_live u k may false cut owed b c is =
          let d : TurnDraft = draft_of (place_at places u.node) k u.input in
          let g : Facts = facts_after places asked f (happenings.Turn u) in
          let says : map post_of u.sent ≡ d.says = ap (λ xs. map post_of xs) owed.1 ∙ posts_back d.after.clock d.says in
          let new : was_sent is_prepare d.says b c ≡ true = sent_wider kind is_prepare asks d.says b c (subst (λ xs. was_sent kind xs b c ≡ true) says is) in
          let a : Asker _ d.says d.after b c = (leaves places asked each f t bs stand roots turned ice now u k may).1 b c new in
          let up : node_at g u.node ≡ Some d.after = calls.here_after places asked each f t bs stand roots turned u k may ∙ ap (λ x. kept_after x (Some (turn_of (place_at places u.node) k u.input))) cut in
          let all : AllByRecursion (λ l. exit (events_after places asked f (happenings.Turn u) t) l.me ≡ None) d.after.lives
          = subst (λ o. IfSome o (λ x. AllByRecursion (λ l. exit (events_after places asked f (happenings.Turn u) t) l.me ≡ None) x.lives)) up
          ((stand_born_on places asked each f t bs (happenings.Turn u) stand (k, may)).0.1.lives u.node) in
          subst (λ m. exit (events_after places asked f (happenings.Turn u) t) m ≡ None) a.is_me
          (all_found (λ l. exit (events_after places asked f (happenings.Turn u) t) l.me ≡ None) live_id d.after.lives b a.live all a.found)
      turn_asks_live u k may true cut owed b c is = let none : was_sent kind (map post_of u.sent) b c ≡ false = ap (λ xs. was_sent kind (map post_of xs) b c) owed.1 in absurd (cc (is, none))

      -- so is who asks in any happening
      pub asks_live : (h : Happening) → MayHappen places asked f h → (b c : BranchId) → was_sent kind (posts_of h) b c ≡ true → exit (events_after places asked f h t) b ≡ None
      asks_live (happenings.Turn u) may b c is = turn_asks_live u may.0 may.1 u.cut refl may.1.owed b c is
      asks_live _ may b c is = absurd cc

    -- what a branch that has left told at the end of these happenings it told before them
    pub told_before : (f : Facts) (hs : List Happening) (t : List Event) (bs : List Born) → StandBorn places asked each f t bs → RootsStand places asked each f → CallsStand f → FreezeStand f → AskStand f bs → IsLawful places asked f hs
        → (b c : BranchId) → exit t b ≢ None → was_sent kind (said_in (facts_of places asked f hs)) b c ≡ true → was_sent kind (said_in f) b c ≡ true
    unfolding facts_of IsLawful
    told_before f [] t bs stand roots turned ice now lawful b c left is = is
    told_before f (h ∷ hs) t bs stand roots turned ice now lawful b c left is =
        let g : Facts = facts_after places asked f h in
        let after : was_sent kind (said_in g) b c ≡ true
        = told_before g hs (events_after places asked f h t) (births_after places f h bs) (stand_born_on places asked each f t bs h stand lawful.0)
        (roots_stand_on places asked each f t bs stand roots h lawful.0) (calls_stand_on places asked each f t bs stand roots turned h lawful.0) (freeze_on places asked each f t bs stand roots turned ice h lawful.0)
        (ask_on places asked each f t bs stand roots turned ice now h lawful.0) lawful.1 b c (left_on b f h t left) is in
        elim (sent_split kind (said_in f) (posts_of h) b c (subst (λ xs. was_sent kind xs b c ≡ true) (said_after places asked f h) after)) [
          | inl old ↦ old
          | inr new ↦ absurd (left_on b f h t left (asks_live f t bs stand roots turned ice now h lawful.0 b c new))
        ]

  told_each : (all : List Post) (f : Facts) (hs : List Happening) (t : List Event) (bs : List Born) → StandBorn places asked each f t bs → RootsStand places asked each f → CallsStand f → FreezeStand f → AskStand f bs → IsLawful places asked f hs
      → said_in (facts_of places asked f hs) ≡ all → EachEventFrom (HasToldAll all) places asked f t hs
  unfolding facts_of IsLawful
  told_each all f [] t bs stand roots turned ice now lawful is = tt
  told_each all f (h ∷ hs) t bs stand roots turned ice now lawful is = (
    (λ b c left. (
      (λ told. told_before is_prepare (λ x so. so) f (h ∷ hs) t bs stand roots turned ice now lawful b c left (subst (λ xs. was_sent is_prepare xs b c ≡ true) (sym is) told)),
      (λ told. told_before is_below below_asks f (h ∷ hs) t bs stand roots turned ice now lawful b c left (subst (λ xs. was_sent is_below xs b c ≡ true) (sym is) told)),
    )),
    told_each all (facts_after places asked f h) hs (events_after places asked f h t) (births_after places f h bs) (stand_born_on places asked each f t bs h stand lawful.0)
        (roots_stand_on places asked each f t bs stand roots h lawful.0) (calls_stand_on places asked each f t bs stand roots turned h lawful.0) (freeze_on places asked each f t bs stand roots turned ice h lawful.0)
        (ask_on places asked each f t bs stand roots turned ice now h lawful.0) lawful.1 is,
  )

pub left_have_told_all : LeftHaveToldAll
left_have_told_all t lawful =
    told_each t.places t.commands t.of_a_script.each (said_in (facts_at t)) (first_facts t.places) t.trace [] [] (stand_born_first t.places t.commands t.of_a_script.each)
    (first_rests t.places t.commands t.of_a_script.each) (first_calls t.places t.commands t.of_a_script.each) (first_freeze t.places t.commands t.of_a_script.each) (first_ask t.places t.commands t.of_a_script.each) lawful refl
