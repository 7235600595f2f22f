-- In every lawful run Prepares go down the tree, and live branches collect as their parents told them.
use Rattle.std.proofs.Common.{◌≡◌, ◌≢◌, ℕ, ◌&&◌, ◌||◌, Bool, true, false, List, [], ◌∷◌, ◌++◌, map, Some, None, inl, inr, refl, sym, ap, subst, ◌∙◌}
use Rattle.std.specs.Prelude.{IfSome}
use Rattle.std.specs.List.{AllByRecursion}
use Rattle.std.proofs.lemmas.Bool.{cond_both, or_right}
use Rattle.tran_ids.proofs.BranchLemmas.{same_from_equal}
use Rattle.session_tree.specs.Live.{children_of}
use Rattle.session_tree.specs.Tree.{step}
use Rattle.node_rules.specs.Data.{BranchId, Kind, Live, Post, Place, RedoRecord}
use Rattle.node_rules.specs.Data.kinds
use Rattle.node_rules.specs.Words.{same, numbered}
use Rattle.node_rules.specs.Inputs.{Came}
use Rattle.node_rules.specs.NodeState.{NodeState, live_id, live_at}
use Rattle.node_rules.specs.Turn.{start_of, heard, draft_of}
use Rattle.agreement.specs.Events.{Event}
use Rattle.run_rules.specs.Data.{Packet, Turn, Happening, Command}
use Rattle.run_rules.specs.Data.happenings
use Rattle.run_rules.specs.Facts.{Facts, first_facts, place_at, node_at, facts_after, facts_of}
use Rattle.run_rules.specs.Lawful.{IsPlace, MayTurn, MayHappen, IsLawful, History, IsLawfulRun, facts_at}
use Rattle.run_base_laws.specs.RunEvents.{events_after}
use Rattle.run_rules.specs.Births.{Born, births_after, births_from, births_of, born_at}
use Rattle.run_base_laws.specs.BirthLaws.{Began, LiveIs, NamesAre}
use Rattle.run_rules.specs.Trail.{is_prepare}
use Rattle.run_base_laws.specs.InTurnLaws.{packet_post, said_in}
use Rattle.run_base_laws.specs.FreezeLaws.{was_asked}
use Rattle.run_branch_laws.specs.WalkLaws.{is_below, was_sent}
use Rattle.run_rules.proofs.ListLemmas.{all_weaker}
use Rattle.run_base_laws.proofs.OwnLemmas.{all_found}
use Rattle.run_base_laws.proofs.EventsStandLemmas.{node_so, owned_so}
use Rattle.run_base_laws.proofs.BirthLemmas.{news_of, began_more}
use Rattle.run_base_laws.proofs.BirthsStandLemmas.{came_so, all_unborn}
use Rattle.run_base_laws.proofs.BirthRunLemmas.{StandBorn, stand_born_on, stand_born_first}
use Rattle.run_base_laws.proofs.NeighborLemmas.{News}
use Rattle.node_rules.specs.LiveBranches.{EachLive}
use Rattle.node_rules.proofs.LiveLemmas.{each_same, none_live}
use Rattle.run_base_laws.proofs.RestRunLemmas.{heard_rests, RootsStand, roots_stand_on, first_rests}
use Rattle.run_base_laws.proofs.SaidPostLemmas.{unborn_asks}
use Rattle.run_base_laws.proofs.InTurnRunLemmas as calls
use Rattle.run_base_laws.proofs.InTurnRunLemmas.{CallsStand, heard_calls, calls_stand_on, first_calls}
use Rattle.run_base_laws.proofs.OneTurn.{one_turn}
use Rattle.run_branch_laws.proofs.FreezeStepLemmas as frost
use Rattle.run_branch_laws.proofs.FreezeRunLemmas as frozen
use Rattle.run_branch_laws.proofs.FreezeRunLemmas.{FreezeStand, freeze_on, first_freeze}
use Rattle.tree_laws.specs.AskLaws.{HeardAbove, GoesDown, AskersWereAsked, WalkGoesOn, way_of, tells, AsTold, CollectsAsTold, EdgesAsked, PathsAreTold}
use Rattle.tree_laws.proofs.AskLemmas.{sent_more, sent_split, sent_wider, tells_asks, below_asks, tells_own, stays_told}
use Rattle.tree_laws.proofs.AskStepLemmas.{Asker, Leaves, told_on}
use Rattle.tree_laws.proofs.EachNodeLemmas.{EachNode, turn_says, turn_nodes, quiet_says, nodes_on, nodes_first}

-- ---- messages that came

pub sent_first : (p q r rest : Bool) → p ≡ true → q ≡ true → r ≡ true → (((p && q) && r) || rest) ≡ true
sent_first true true true rest one two three = refl
sent_first true true false rest one two three = absurd cc
sent_first true false r rest one two three = absurd cc
sent_first false q r rest one two three = absurd cc

-- a message that was sent was sent
pub sent_from : (kind : Kind → Bool) (xs : List Packet) → AllByRecursion (λ x. kind x.msg.kind ≡ true → was_sent kind (map packet_post xs) x.msg.from x.msg.to ≡ true) xs
sent_from kind [] = tt
sent_from kind (x ∷ xs) = (
  (λ is. sent_first (same x.msg.from x.msg.from) (same x.msg.to x.msg.to) (kind x.msg.kind) (was_sent kind (map packet_post xs) x.msg.from x.msg.to) (same_from_equal x.msg.from x.msg.from refl) (same_from_equal x.msg.to x.msg.to refl) is),
  all_weaker _ _ (λ y old is. or_right ((same x.msg.from y.msg.from && same x.msg.to y.msg.to) && kind x.msg.kind) (was_sent kind (map packet_post xs) y.msg.from y.msg.to) (old is)) xs (sent_from kind xs),
)

-- ---- what stands

-- live branches collect as they were told
abbrev pub NodeTold : List Post → NodeState → Type 0
NodeTold said k = EachLive (λ l w. AsTold said l) k.lives k.works

-- Prepares go down, and live branches collect as they were told, everywhere.
pub record AskStand (f : Facts) (bs : List Born) : Type 0 where
  pub asks : GoesDown is_prepare bs (said_in f)
  pub walk : GoesDown is_below bs (said_in f)
  pub nodes : EachNode NodeTold f

-- births and messages that are added leave it so
pub down_more : (kind : Kind → Bool) (bs cs : List Born) (said says : List Post) (p : BranchId) → ((x : Born) → Began bs x → Began cs x) → HeardAbove kind bs said p → HeardAbove kind cs (said ++ says) p
down_more kind bs cs said says p more is = (is.0, more is.0 is.1, is.2, (λ q above. sent_more kind said says q p (is.3 q above)))

told_stay : (said says : List Post) (k : NodeState) → ((b : BranchId) (l : Live) → live_at k b ≡ Some l → (c : BranchId) → was_asked says l.me c ≡ false) → NodeTold said k → NodeTold (said ++ says) k
told_stay said says k none now =
    each_same (λ l w. AsTold said l) (λ l w. AsTold (said ++ says) l) k.lives k.works now (λ y v live any is. stays_told said says y.me y.parent y.phase (children_of y) (step y) (λ c. none y.me y live c) is)

start_told : (ms : List Post) (zs : List RedoRecord) → NodeTold ms (start_of zs)
unfolding start_of
start_told ms zs = none_live _

module _ (places : List Place) (asked : List Command) (each : (n : ℕ) (p : Place) → numbered places n ≡ Some p → IsPlace places n p) where
  module _ (f : Facts) (t : List Event) (bs : List Born) (stand : StandBorn places asked each f t bs) (roots : RootsStand places asked each f) (turned : CallsStand f) (ice : FreezeStand f) (now : AskStand f bs) where
    module _ (u : Turn) (k : NodeState) (may : MayTurn places f u k) where
      open one_turn places asked f u k use {n, p, d, g, said}

      abbrev Here : BranchId → Type 0
      Here = calls.Here places asked each f t bs stand roots turned u k may

      abbrev May : BranchId → Type 0
      May = calls.May places asked each f t bs stand roots turned u k may

      abbrev pub Unasking : Born → Type 0
      Unasking = frost.Unasking _ _ May Here u.input said (frozen.received places asked each f t bs stand roots turned ice u k may)

      silent : News (λ x. (c : BranchId) → was_asked said x.me c ≡ false) p u.input (heard k u.input)
      silent =
          news_of (λ x. (c : BranchId) → was_asked said x.me c ≡ false) p k u.input
          (all_weaker (λ y. born_at bs y.me ≡ None) _ (λ y none c. unborn_asks bs stand.1.trees y.me none c f.net.packets stand.1.said) _
          (all_unborn places asked each f t bs u k stand.0.1 stand.0.0.even (node_so places asked each f t stand.0) (owned_so places asked each f t stand.0) may (calls.number places asked each f t bs stand roots turned u k may) stand.1))

      pub news : News Unasking p u.input (heard k u.input)
      news = record {
        root = λ m s read_at call begins none. ((calls.news places asked each f t bs stand roots turned u k may).root m s read_at call begins none, silent.root m s read_at call begins none);
        child = λ to parent edge root depth read_at came none. ((calls.news places asked each f t bs stand roots turned u k may).child to parent edge root depth read_at came none, silent.child to parent edge root depth read_at came none);
      }

      pub sent : (from to : BranchId) (b : Bool) (comment : List ℕ) → Came u.input from to (kinds.Prepare b comment) → was_sent (tells b) said from to ≡ true
      sent from to b comment came = came_so (λ x y kind. tells b kind ≡ true → was_sent (tells b) said x y ≡ true) f (sent_from (tells b) f.net.packets) k u.node u.input u.took may.comes from to (kinds.Prepare b comment) came (tells_own b comment)

      pub olds : NodeTold said k
      olds = subst (λ o. IfSome o (NodeTold said)) may.up (now.nodes n)

      pub leaves : Leaves _ _ May Here u.input said (frozen.received places asked each f t bs stand roots turned ice u k may) (frozen.prepared places asked each f t bs stand roots turned ice u k may) d
      leaves =
          told_on _ _ May Here u.input said (frozen.received places asked each f t bs stand roots turned ice u k may) (frozen.prepared places asked each f t bs stand roots turned ice u k may) sent p (λ b is. is)
          (calls.step places asked each f t bs stand roots turned u k may) (heard_rests k u.input (calls.rests places asked each f t bs stand roots turned u k may)).0 news
          (calls.begun places asked each f t bs stand roots turned u k may) (frozen.ice places asked each f t bs stand roots turned ice u k may) (heard_calls (λ l w. AsTold said l) k u.input olds)

      -- ---- what is told after the turn

      abbrev bs2 : List Born
      bs2 = births_after places f (happenings.Turn u) bs

      abbrev more : List Post
      more = said ++ d.says

      wider : (x : Born) → Began bs x → Began bs2 x
      wider x is = cond_both u.cut bs (bs ++ _) (λ xs. Began xs x) (λ cut. is) (λ whole. began_more bs _ x is)

      module _ (up : node_at g n ≡ Some d.after) where
        names_after : NamesAre (Began bs2) d.after
        names_after = subst (λ o. IfSome o (NamesAre (Began bs2))) up ((stand_born_on places asked each f t bs (happenings.Turn u) stand (k, may)).1.lives n)

        -- the parent of a branch that asks told it so
        above_told : (q c : BranchId) (a : Asker Here d.says d.after q c) → (x : Born) × Began bs2 x × (x.me ≡ q) × ((r : BranchId) → x.parent ≡ Some r → was_sent (tells a.way) more r q ≡ true)
        above_told q c a =
            let is : LiveIs (Began bs2) a.live = all_found (LiveIs (Began bs2)) live_id d.after.lives q a.live names_after.0 a.found in
            let told : AsTold more a.live = leaves.0.each q a.live a.found in (
              is.born,
              is.began,
              is.is_me ∙ a.is_me,
              (λ r above. subst (λ m. was_sent (tells a.way) more r m ≡ true) a.is_me (told.way a.way (ap way_of a.collecting) r (sym is.is_parent ∙ above))),
            )

        asks_new : (q c : BranchId) → was_asked d.says q c ≡ true → HeardAbove is_prepare bs2 more q
        asks_new q c is =
            let a : Asker Here d.says d.after q c = leaves.1 q c is in
            let told = above_told q c a in
            (told.0, told.1, told.2, (λ r above. sent_wider (tells a.way) is_prepare (tells_asks a.way) more r q (told.3 r above)))

        walk_new : (q c : BranchId) → was_sent is_below d.says q c ≡ true → HeardAbove is_below bs2 more q
        walk_new q c is =
            let a : Asker Here d.says d.after q c = leaves.1 q c (sent_wider is_below is_prepare below_asks d.says q c is) in
            let told = above_told q c a in
            (told.0, told.1, told.2, (λ r above. subst (λ b. was_sent (tells b) more r q ≡ true) (a.below is) (told.3 r above)))

      -- a branch of another node asks nobody now
      pub others_silent : (m : ℕ) → m ≢ n → (j : NodeState) → node_at f m ≡ Some j → (b : BranchId) (l : Live) → live_at j b ≡ Some l → (c : BranchId) → was_asked d.says l.me c ≡ false
      others_silent m other j there b l live c = by (was_asked d.says l.me c) refl
        where
          by : (q : Bool) → was_asked d.says l.me c ≡ q → q ≡ false
          by false is = refl
          by true is = absurd (other (calls.elsewhere_is places asked each f t bs stand roots turned u k may m j there b l live (leaves.1 l.me c is).here))

      -- all messages after the turn
      down_all : (kind : Kind → Bool) → GoesDown kind bs said → ((q c : BranchId) → was_sent kind d.says q c ≡ true → HeardAbove kind bs2 more q) → GoesDown kind bs2 more
      down_all kind old new q c is = elim (sent_split kind said d.says q c is) [ inl before ↦ down_more kind bs bs2 said d.says q wider (old q c before) | inr now ↦ new q c now ]

      down_same : (kind : Kind → Bool) → GoesDown kind bs said → GoesDown kind bs2 said
      down_same kind old q c is = let it = old q c is in (it.0, wider it.0 it.1, it.2, it.3)

    -- ---- every happening

    goes_down : (kind : Kind → Bool) → GoesDown kind bs (said_in f)
        → ((u : Turn) (k : NodeState) (may : MayTurn places f u k) → node_at (facts_after places asked f (happenings.Turn u)) u.node ≡ Some (draft_of (place_at places u.node) k u.input).after → (q c : BranchId) → was_sent kind (draft_of (place_at places u.node) k u.input).says q c ≡ true → HeardAbove kind (bs2 u k may) (more u k may) q)
        → (h : Happening) → MayHappen places asked f h → GoesDown kind (births_after places f h bs) (said_in (facts_after places asked f h))
    goes_down kind old new (happenings.Turn u) may =
        turn_says places asked f stand.0.0.even u may.0 may.1 (GoesDown kind (bs2 u may.0 may.1)) (λ down. down_same u may.0 may.1 kind old) (λ up. down_all u may.0 may.1 kind old (new u may.0 may.1 up))
    goes_down kind old new (happenings.Stopped m) may = quiet_says places asked f (GoesDown kind bs) (happenings.Stopped m) refl old
    goes_down kind old new (happenings.Started m boot) may = quiet_says places asked f (GoesDown kind bs) (happenings.Started m boot) refl old
    goes_down kind old new (happenings.Begun c) may = quiet_says places asked f (GoesDown kind bs) (happenings.Begun c) refl old
    goes_down kind old new (happenings.Cut a b) may = quiet_says places asked f (GoesDown kind bs) (happenings.Cut a b) refl old
    goes_down kind old new (happenings.Join a b) may = quiet_says places asked f (GoesDown kind bs) (happenings.Join a b) refl old
    goes_down kind old new (happenings.Lost i) may = quiet_says places asked f (GoesDown kind bs) (happenings.Lost i) refl old

    pub ask_on : (h : Happening) → MayHappen places asked f h → AskStand (facts_after places asked f h) (births_after places f h bs)
    ask_on h may = record {
      asks = goes_down is_prepare now.asks asks_new h may;
      walk = goes_down is_below now.walk walk_new h may;
      nodes = nodes_on places asked f NodeTold start_told now.nodes (λ u k may. turn_nodes places asked f stand.0.0.even u k may NodeTold now.nodes (leaves u k may).0 (λ m other j there. told_stay _ _ j (others_silent u k may m other j there))) h may;
    }

  -- ---- every run

  pub first_ask : AskStand (first_facts places) []
  first_ask = record { asks = λ p c is. absurd cc; walk = λ p c is. absurd cc; nodes = nodes_first NodeTold start_told places }

  ask_keep : (f : Facts) (hs : List Happening) (t : List Event) (bs : List Born) → StandBorn places asked each f t bs → RootsStand places asked each f → CallsStand f → FreezeStand f → AskStand f bs → IsLawful places asked f hs
      → AskStand (facts_of places asked f hs) (births_from places asked f hs bs)
  unfolding facts_of births_from IsLawful
  ask_keep f [] t bs stand roots turned ice now lawful = now
  ask_keep f (h ∷ hs) t bs stand roots turned ice now lawful =
      ask_keep (facts_after places asked f h) hs (events_after places asked f h t) (births_after places f h bs) (stand_born_on places asked each f t bs h stand lawful.0)
      (roots_stand_on places asked each f t bs stand roots h lawful.0) (calls_stand_on places asked each f t bs stand roots turned h lawful.0) (freeze_on places asked each f t bs stand roots turned ice h lawful.0)
      (ask_on f t bs stand roots turned ice now h lawful.0) lawful.1

-- at the end of every run
pub run_asks : (t : History) → IsLawfulRun t → AskStand (facts_at t) (births_of t)
run_asks t lawful =
    ask_keep t.places t.commands t.of_a_script.each (first_facts t.places) t.trace [] [] (stand_born_first t.places t.commands t.of_a_script.each)
    (first_rests t.places t.commands t.of_a_script.each) (first_calls t.places t.commands t.of_a_script.each) (first_freeze t.places t.commands t.of_a_script.each) (first_ask t.places t.commands t.of_a_script.each) lawful

pub askers_were_asked : AskersWereAsked
askers_were_asked t lawful = (run_asks t lawful).asks

pub walk_goes_on : WalkGoesOn
walk_goes_on t lawful = (run_asks t lawful).walk

-- a live branch collects as it was told
pub live_told : (t : History) → IsLawfulRun t → (n : ℕ) (k : NodeState) → node_at (facts_at t) n ≡ Some k → (l : Live) → live_at k l.me ≡ Some l → AsTold (said_in (facts_at t)) l
live_told t lawful n k up l live = (subst (λ o. IfSome o (NodeTold (said_in (facts_at t)))) up ((run_asks t lawful).nodes n)).each l.me l live

pub collects_as_told : CollectsAsTold
collects_as_told t lawful n k up l live = (live_told t lawful n k up l live).way

pub edges_asked : EdgesAsked
edges_asked t lawful n k up l live other = let told = live_told t lawful n k up l live in (told.kids other, told.alone other)

pub paths_are_told : PathsAreTold
paths_are_told t lawful n k up l live other = let told = live_told t lawful n k up l live in (told.below other, told.points other)
