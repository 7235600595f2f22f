-- A calm turn of RECO: its node's undecided rows and live branches have asked, and all else is as it was.
use Rattle.std.proofs.Common.{◌≡◌, ℕ, ◌⊎◌, ◌&&◌, ◌||◌, Bool, true, false, List, [], ◌∷◌, ◌++◌, map, length, Option, Some, None, inl, inr, refl, sym, ap, subst, ◌∙◌}
use Rattle.std.specs.Prelude.{flat_map}
use Rattle.std.specs.List.{AllByRecursion}
use Rattle.net_bag.specs.Net.{lost_at_once}
use Rattle.node_rules.specs.Data.{BranchId, Decision, Kind, Live, Place, Post, KeptRow}
use Rattle.node_rules.specs.Data.inputs
use Rattle.node_rules.specs.Data.kinds
use Rattle.node_rules.specs.NodeState.{NodeState, post_one, to_one}
use Rattle.node_rules.specs.Recovery.{Asking, asking_id, asks_live, asks_kept, recovers, askings, recovery}
use Rattle.node_rules.specs.Turn.{stamped, turn_of}
use Rattle.node_rules.specs.Words.{same}
use Rattle.run_rules.specs.Data.{Command, Took, Turn}
use Rattle.run_rules.specs.Data.happenings
use Rattle.run_rules.specs.Facts.{Facts, place_at, node_at, kept_after, taken, facts_after}
use Rattle.run_base_laws.specs.FreezeLaws.{was_asked}
use Rattle.run_base_laws.specs.InTurnLaws.{post_of, said_in}
use Rattle.run_rules.specs.Lawful.{Comes, IsOwed, MayTurn}
use Rattle.run_rules.specs.Trail.{is_prepare}
use Rattle.run_branch_laws.specs.WalkLaws.{was_sent}
use Rattle.run_rules.proofs.AtNodeLemmas.{turn_elsewhere, turn_here}
use Rattle.run_base_laws.proofs.KindSayLemmas.{OfDecisions, askings_say}
use Rattle.run_rules.proofs.ListLemmas.{all_weaker}
use Rattle.run_base_laws.proofs.SaidPostLemmas.{posts_back, said_after}
use Rattle.run_base_laws.proofs.TurnEventLemmas.{cases_nat}
use Rattle.tree_laws.proofs.AskLemmas.{sent_split}
use Rattle.commit_laws.proofs.ListLemmas.{IsIn, all_in}
use Rattle.settle_laws.specs.Interval.{Flies, is_ask, LivesAt, RowNamesAnother, Sought, Asks, Points, Is_told, In_doubt, Under_live, Watched, Asks_up, Is_rolled, Up_lives, Up_names, Unasked, Obliged}
use Rattle.settle_laws.proofs.FlyLemmas.{in_before, in_behind, in_map, in_flat, in_sorted, sent_flies, flies_untaken}

-- messages without a Prepare ask nobody to prepare
pub none_asked : (says : List Post) (q z : BranchId) → AllByRecursion (λ (x : Post). is_prepare x.kind ≡ false) says → was_sent is_prepare says q z ≡ true → ⊥
none_asked [] q z all is = absurd cc
none_asked (x ∷ xs) q z all is = by (same x.from q && same x.to z) (is_prepare x.kind) all.0 is (none_asked xs q z all.1)
  where
    by : (a b : Bool) → b ≡ false → ((a && b) || was_sent is_prepare xs q z) ≡ true → (was_sent is_prepare xs q z ≡ true → ⊥) → ⊥
    by true true none found rest = absurd cc
    by true false none found rest = rest found
    by false b none found rest = rest found

-- so who was not asked before is not asked with them
pub unasked_on : (said says : List Post) (q z : BranchId) → AllByRecursion (λ (x : Post). is_prepare x.kind ≡ false) says → was_asked said q z ≡ false → was_asked (said ++ says) q z ≡ false
unasked_on said says q z all unasked = by (was_asked (said ++ says) q z) refl
  where
    by : (w : Bool) → was_asked (said ++ says) q z ≡ w → was_asked (said ++ says) q z ≡ false
    by false is = is
    by true is = elim (sent_split is_prepare said says q z is) [
      | inl old ↦ absurd (cc (unasked, old))
      | inr new ↦ absurd (none_asked says q z all new)
    ]

pub no_prepares : OfDecisions (λ kind. is_prepare kind ≡ false)
no_prepares = record { committed = λ n. refl; rolled_back = refl; rollback = refl; in_doubt = refl; ack = refl; forgotten = refl; ask = refl }

module _ (places : List Place) (asked : List Command) (f : Facts) (even : length f.nodes ≡ length f.records) (u : Turn) (k : NodeState) (may : MayTurn places f u k)
    (uncut : u.cut ≡ false) (none : lost_at_once (taken f.net u.took) u.sent ≡ []) (reco : u.input ≡ inputs.Reco) where
  abbrev pub g : Facts
  g = facts_after places asked f (happenings.Turn u)

  abbrev p : Place
  p = place_at places u.node

  abbrev says : List Post
  says = flat_map (λ (a : Asking). a.says) (askings k)

  owed : IsOwed p k u.input u.wrote u.sent false
  owed = subst (IsOwed p k u.input u.wrote u.sent) uncut may.owed

  sent_is : u.sent ≡ map (stamped k.clock) says
  unfolding turn_of recovery
  sent_is = owed.1 ∙ ap (λ i. (turn_of p k i).sent) reco

  after_is : (turn_of p k u.input).after ≡ k
  unfolding turn_of recovery
  after_is = ap (λ i. (turn_of p k i).after) reco

  pub reco_here : node_at g u.node ≡ Some k
  reco_here = (turn_here places asked f even u k may.up).0 ∙ (ap (λ c. kept_after c (Some (turn_of p k u.input))) uncut ∙ ap Some after_is)

  -- each node keeps what it kept
  pub nodes_same : (n : ℕ) → node_at g n ≡ node_at f n
  nodes_same n = elim (cases_nat u.node n) [
    | inl at ↦ subst (λ i. node_at g i ≡ node_at f i) at (reco_here ∙ sym may.up)
    | inr other ↦ (turn_elsewhere places asked f even u n other).0
  ]

  untaken : u.took ≡ None
  untaken = by u.took (subst (λ i. Comes f k u.node i u.took) reco may.comes)
    where
      by : (o : Option Took) → Comes f k u.node inputs.Reco o → o ≡ None
      by None comes = refl
      by (Some y) comes = absurd comes

  pub flies_on : (test : Kind → Bool) (from to : BranchId) → Flies test f from to → Flies test g from to
  flies_on = flies_untaken places asked f u none untaken

  said_now : said_in g ≡ said_in f ++ says
  said_now = said_after places asked f (happenings.Turn u) ∙ ap (λ xs. said_in f ++ xs) (ap (map post_of) sent_is ∙ posts_back k.clock says)

  unasked_still : (q z : BranchId) → was_asked (said_in f) q z ≡ false → was_asked (said_in g) q z ≡ false
  unasked_still q z unasked = ap (λ said. was_asked said q z) said_now ∙ unasked_on (said_in f) says q z (askings_say (λ kind. is_prepare kind ≡ false) no_prepares k) unasked

  -- ---- what was so before the turn

  abbrev pub lives_same : (b : BranchId) → LivesAt f b → LivesAt g b
  lives_same b l = record { node = l.node; up = nodes_same b.node ∙ l.up; live = l.live; found = l.found }

  abbrev pub names_same : (b z : BranchId) → RowNamesAnother f b z → RowNamesAnother g b z
  names_same b z r = record { node = r.node; up = nodes_same b.node ∙ r.up; row = r.row; found = r.found; names = r.names }

  pub sought_same : (y : KeptRow) (e : BranchId) → Sought f y e → Sought g y e
  sought_same y e (Asks fly) = Asks (flies_on _ y.me e fly)
  sought_same y e (Points fly) = Points (flies_on _ y.me e fly)
  sought_same y e (Is_told fly) = Is_told (flies_on _ e y.me fly)
  sought_same y e (In_doubt r undecided) = In_doubt (names_same e y.me r) undecided
  sought_same y e (Under_live l parent) = Under_live (lives_same e l) parent

  pub watched_same : (z q : BranchId) → Watched f z q → Watched g z q
  watched_same z q (Asks_up fly) = Asks_up (flies_on _ z q fly)
  watched_same z q (Is_rolled fly) = Is_rolled (flies_on _ q z fly)
  watched_same z q (Up_lives l) = Up_lives (lives_same q l)
  watched_same z q (Up_names r) = Up_names (names_same q z r)
  watched_same z q (Unasked never) = Unasked (unasked_still q z never)

  -- ---- the node's own branches ask

  abbrev all_askings : List Asking
  all_askings = map asks_live k.lives ++ map asks_kept k.stored.durable.kept

  pub asking_flies : (test : Kind → Bool) (a : Asking) (x : Post) → IsIn a all_askings → IsIn x a.says → test x.kind ≡ true → Flies test g x.from x.to
  asking_flies test a x at its is =
      let said : IsIn x says = in_flat (λ (y : Asking). y.says) a x (askings k) (in_sorted asking_id a all_askings [] (inr at)) its in
      let sent : IsIn (stamped k.clock x) u.sent = subst (IsIn (stamped k.clock x)) (sym sent_is) (in_map (stamped k.clock) x says said) in
      sent_flies places asked f u none test (stamped k.clock x) sent is

  one_in : (from : BranchId) (kind : Kind) (o : Option BranchId) (to : BranchId) → o ≡ Some to → IsIn (post_one from kind to) (to_one from kind o)
  one_in from kind None to is = absurd cc
  one_in from kind (Some b) to is = inl (let it : b ≡ to = cc in ap (post_one from kind) it)

  row_asks : (y : KeptRow) → IsIn y k.stored.durable.kept → y.decision ≡ None → (e : BranchId) → y.toward ≡ Some e → Sought g y e
  row_asks y at undecided e toward =
      Asks (asking_flies is_ask (asks_kept y) (post_one y.me kinds.Ask e) (in_behind (asks_kept y) (map asks_live k.lives) (map asks_kept k.stored.durable.kept) (in_map asks_kept y k.stored.durable.kept at))
      (subst (λ (d : Option Decision). IsIn (post_one y.me kinds.Ask e) (recovers y d)) (sym undecided) (one_in y.me kinds.Ask y.toward e toward)) refl)

  live_asks : (l : Live) → IsIn l k.lives → (q : BranchId) → l.parent ≡ Some q → Watched g l.me q
  live_asks l at q parent =
      Asks_up (asking_flies is_ask (asks_live l) (post_one l.me kinds.Ask q) (in_before (asks_live l) (map asks_live k.lives) (map asks_kept k.stored.durable.kept) (in_map asks_live l k.lives at))
      (one_in l.me kinds.Ask l.parent q parent) refl)

  module _ (R : ℕ → Type 0) (now : Obliged R f) where
    -- the same, and of this node too
    pub reco_obliged : Obliged (λ n. R n ⊎ (u.node ≡ n)) g
    reco_obliged = record {
      rows = λ n r j up. elim r [
        | inl old ↦ all_weaker _ _ (λ y so undecided e toward. sought_same y e (so undecided e toward)) j.stored.durable.kept (now.rows n old j (sym (nodes_same n) ∙ up))
        | inr at ↦ subst (λ (x : NodeState). AllByRecursion (λ y. y.decision ≡ None → (e : BranchId) → y.toward ≡ Some e → Sought g y e) x.stored.durable.kept) (its n at j up)
            (all_in (λ (y : KeptRow). y.decision ≡ None → (e : BranchId) → y.toward ≡ Some e → Sought g y e) k.stored.durable.kept row_asks)
      ];
      lives = λ n r j up. elim r [
        | inl old ↦ all_weaker _ _ (λ l so q parent. watched_same l.me q (so q parent)) j.lives (now.lives n old j (sym (nodes_same n) ∙ up))
        | inr at ↦ subst (λ (x : NodeState). AllByRecursion (λ l. (q : BranchId) → l.parent ≡ Some q → Watched g l.me q) x.lives) (its n at j up)
            (all_in (λ (l : Live). (q : BranchId) → l.parent ≡ Some q → Watched g l.me q) k.lives live_asks)
      ];
    }
      where
        its : (n : ℕ) → u.node ≡ n → (j : NodeState) → node_at g n ≡ Some j → k ≡ j
        its n at j up = (let both : Some k ≡ Some j = sym reco_here ∙ subst (λ i. node_at g i ≡ Some j) (sym at) up in cc)

-- before any node of the stretch recovered there is nothing to show
pub first_obliged : (f : Facts) → Obliged (λ n. ⊥) f
first_obliged f = record { rows = λ n none. absurd none; lives = λ n none. absurd none }
