-- In every lawful run live branches told their weights in their Replies, and hold the weights that their children told.
use Rattle.std.proofs.Common.{◌≡◌, ◌≢◌, ℕ, ◌≤◌, false, List, [], ◌∷◌, ◌++◌, map, Option, Some, None, inl, inr, refl, sym, subst, arith}
use Rattle.std.specs.Prelude.{IfSome}
use Rattle.std.specs.List.{AllByRecursion}
use Rattle.session_tree.specs.Tree.{weight}
use Rattle.node_rules.specs.Data.{Answer, BranchId, Kind, Live, Post, Place, RedoRecord}
use Rattle.node_rules.specs.Data.kinds
use Rattle.node_rules.specs.declared.work.Work.{Work}
use Rattle.node_rules.specs.Words.{numbered}
use Rattle.node_rules.specs.Inputs.{Came}
use Rattle.node_rules.specs.NodeState.{NodeState, live_at}
use Rattle.node_rules.specs.Turn.{start_of}
use Rattle.agreement.specs.Events.{Event}
use Rattle.run_rules.specs.Data.{Packet, Turn, Happening, Command}
use Rattle.run_rules.specs.Facts.{Facts, first_facts, node_at, facts_after, facts_of}
use Rattle.run_rules.specs.Lawful.{IsPlace, MayTurn, MayHappen, IsLawful, History, IsLawfulRun, facts_at}
use Rattle.run_base_laws.specs.RunEvents.{events_after}
use Rattle.run_rules.specs.Births.{Born, births_after}
use Rattle.run_base_laws.specs.InTurnLaws.{packet_post, said_in, newest_reply, NeedsNoRollback}
use Rattle.run_base_laws.specs.FreezeLaws.{was_asked}
use Rattle.run_rules.proofs.ListLemmas.{all_weaker}
use Rattle.run_base_laws.proofs.BirthsStandLemmas.{came_so}
use Rattle.run_base_laws.proofs.BirthRunLemmas.{StandBorn, stand_born_on, stand_born_first}
use Rattle.node_rules.specs.LiveBranches.{EachLive}
use Rattle.node_rules.proofs.LiveLemmas.{each_same, none_live, branch_parts}
use Rattle.run_base_laws.proofs.RestRunLemmas.{NodeRests, heard_rests, RootsStand, roots_stand_on, first_rests}
use Rattle.run_base_laws.proofs.InTurnRunLemmas as calls
use Rattle.run_base_laws.proofs.InTurnRunLemmas.{CallsStand, heard_calls, calls_stand_on, first_calls}
use Rattle.run_base_laws.proofs.OneTurn.{one_turn}
use Rattle.run_branch_laws.proofs.FreezeRunLemmas as frozen
use Rattle.run_branch_laws.proofs.FreezeRunLemmas.{FreezeStand, freeze_on, first_freeze}
use Rattle.tree_laws.specs.WeightLaws.{ToldWeight, TellsItsWeight, RepliesTellWeights, HoldsWeights, EdgesHoldWeights}
use Rattle.tree_laws.proofs.AskRunLemmas as runs
use Rattle.tree_laws.proofs.AskRunLemmas.{AskStand, ask_on, first_ask}
use Rattle.tree_laws.proofs.EachNodeLemmas.{EachNode, turn_nodes, nodes_on, nodes_first}
use Rattle.tree_laws.proofs.GoOnLemmas.{goes_before}
use Rattle.tree_laws.proofs.HoldLemmas.{holding_more}
use Rattle.tree_laws.proofs.HoldStepLemmas.{holds_on}
use Rattle.tree_laws.proofs.WeightStepLemmas.{told_split, told_low, tolds_on}

-- ---- messages that came

-- a Reply tells its weight
abbrev ReplyTold : List Post → BranchId → Kind → Type 0
ReplyTold said from (kinds.Reply call wt count a) = ToldWeight said from call wt
ReplyTold said from _ = Unit {0}

told_first : (ms : List Post) (from to : BranchId) (kind : Kind) → ReplyTold (record { from = from; to = to; kind = kind } ∷ ms) from kind
told_first ms from to (kinds.Reply call wt count a) = inl (refl, (refl, refl))
told_first ms from to _ = tt

told_later : (m : Post) (ms : List Post) (from : BranchId) (kind : Kind) → ReplyTold ms from kind → ReplyTold (m ∷ ms) from kind
told_later m ms from (kinds.Reply call wt count a) is = inr is
told_later m ms from _ is = tt

-- each that was sent did
replies_told : (xs : List Packet) → AllByRecursion (λ x. ReplyTold (map packet_post xs) x.msg.from x.msg.kind) xs
replies_told [] = tt
replies_told (x ∷ xs) = (told_first (map packet_post xs) x.msg.from x.msg.to x.msg.kind, all_weaker _ _ (λ y old. told_later (packet_post x) (map packet_post xs) y.msg.from y.msg.kind old) xs (replies_told xs))

-- ---- what stands

abbrev pub WeighsSo : List Post → Live → Work → Type 0
WeighsSo said l w = TellsItsWeight said l.me l.parent (weight l) w

abbrev pub HoldsOf : List Post → NodeState → Live → Work → Type 0
HoldsOf said k l w = HoldsWeights said (NeedsNoRollback k l) l.me l.edges w

-- of a node's live branches
abbrev pub NodeWeighs : List Post → NodeState → Type 0
NodeWeighs said k = EachLive (WeighsSo said) k.lives k.works × EachLive (HoldsOf said k) k.lives k.works

-- So it is everywhere.
abbrev pub WeightStand : Facts → Type 0
WeightStand f = EachNode NodeWeighs f

-- messages without a Reply of a branch leave it so
quiet_weighs : (said says : List Post) (l : Live) (w : Work) → newest_reply says l.me ≡ 0 → WeighsSo said l w → WeighsSo (said ++ says) l w
quiet_weighs said says l w none is = record {
  told = λ below some free v tells. elim (told_split said says l.me w.came.last_call v tells) [
    | inl old ↦ is.told below some free v old
    | inr new ↦ (let low : w.came.last_call ≤ newest_reply says l.me = told_low says l.me w.came.last_call v new in absurd (omega (arith, low, none, some)))
  ];
  kept = is.kept;
  zero_calls = is.zero_calls;
}

weights_stay : (said says : List Post) (k : NodeState) → ((b : BranchId) (l : Live) → live_at k b ≡ Some l → newest_reply says l.me ≡ 0) → ((b : BranchId) (l : Live) → live_at k b ≡ Some l → (c : BranchId) → was_asked says l.me c ≡ false)
    → NodeWeighs said k → NodeWeighs (said ++ says) k
weights_stay said says k silent none now = (
  each_same (WeighsSo said) (WeighsSo (said ++ says)) k.lives k.works now.0 (λ y v live any is. quiet_weighs said says y v (silent y.me y live) is),
  each_same (HoldsOf said k) (HoldsOf (said ++ says) k) k.lives k.works now.1 (λ y v live any is. holding_more said says (NeedsNoRollback k y) y.me y.edges v (λ c. none y.me y live c) is),
)

start_weighs : (ms : List Post) (zs : List RedoRecord) → NodeWeighs ms (start_of zs)
unfolding start_of
start_weighs ms zs = (none_live _, none_live _)

module _ (places : List Place) (asked : List Command) (each : (n : ℕ) (p : Place) → numbered places n ≡ Some p → IsPlace places n p) where
  module _ (f : Facts) (t : List Event) (bs : List Born) (stand : StandBorn places asked each f t bs) (roots : RootsStand places asked each f) (turns : CallsStand f) (ice : FreezeStand f) (asks : AskStand f bs) (now : WeightStand f) where
    module _ (u : Turn) (k : NodeState) (may : MayTurn places f u k) where
      open one_turn places asked f u k use {n, p, d, said}

      abbrev more : List Post
      more = said ++ d.says

      abbrev Here : BranchId → Type 0
      Here = calls.Here places asked each f t bs stand roots turns u k may

      abbrev May : BranchId → Type 0
      May = calls.May places asked each f t bs stand roots turns u k may

      rests : NodeRests k
      rests = calls.rests places asked each f t bs stand roots turns u k may

      olds : NodeWeighs said k
      olds = subst (λ o. IfSome o (NodeWeighs said)) may.up (now n)

      weighed : (from to : BranchId) (call : ℕ) (wt : Option ℕ) (count : ℕ) (a : Answer) → Came u.input from to (kinds.Reply call wt count a) → ToldWeight said from call wt
      weighed from to call wt count a came = came_so (λ x y kind. ReplyTold said x kind) f (replies_told f.net.packets) k u.node u.input u.took may.comes from to (kinds.Reply call wt count a) came

      told_after : EachLive (WeighsSo more) d.after.lives d.after.works
      told_after =
          tolds_on _ _ May Here u.input said (calls.received places asked each f t bs stand roots turns u k may) p (λ b is. is) (calls.step places asked each f t bs stand roots turns u k may) (heard_rests k u.input rests).0
          (calls.news places asked each f t bs stand roots turns u k may) (calls.begun places asked each f t bs stand roots turns u k may) (heard_calls (WeighsSo said) k u.input olds.0)

      holds_before : EachLive (λ l w. HoldsWeights said (l.parent ≡ None → May l.me) l.me l.edges w) k.lives k.works
      holds_before = each_same (HoldsOf said k) _ k.lives k.works olds.1 (λ y v live any is. record { held = λ goes. is.held (goes_before places asked each f t bs stand roots turns u k may y.me y live goes); asked = is.asked })

      holds_done : EachLive (λ l w. HoldsWeights more (l.parent ≡ None → May l.me) l.me l.edges w) d.after.lives d.after.works
      holds_done =
          holds_on _ _ May Here u.input said (frozen.received places asked each f t bs stand roots turns ice u k may) (frozen.prepared places asked each f t bs stand roots turns ice u k may) weighed p (λ b is. is)
          (calls.step places asked each f t bs stand roots turns u k may) (calls.granted places asked each f t bs stand roots turns u k may) (heard_rests k u.input rests).0 (runs.news places asked each f t bs stand roots turns ice asks u k may)
          (calls.begun places asked each f t bs stand roots turns u k may) (frozen.ice places asked each f t bs stand roots turns ice u k may) (heard_calls _ k u.input holds_before)

      after : NodeWeighs more d.after
      after = (told_after, each_same _ (HoldsOf more d.after) d.after.lives d.after.works holds_done (λ y v live any is. record { held = λ goes. is.held (λ none. (y, live, none, goes none)); asked = is.asked }))

      others : (m : ℕ) → m ≢ n → (j : NodeState) → node_at f m ≡ Some j → NodeWeighs said j → NodeWeighs more j
      others m other j up old =
          weights_stay said d.says j
          (λ b l live. ((calls.left places asked each f t bs stand roots turns u k may).1.1 l.me (λ here. other (calls.elsewhere_is places asked each f t bs stand roots turns u k may m j up b l live here))).replies)
          (runs.others_silent places asked each f t bs stand roots turns ice asks u k may m other j up) old

    pub weights_on : (h : Happening) → MayHappen places asked f h → WeightStand (facts_after places asked f h)
    weights_on = nodes_on places asked f NodeWeighs start_weighs now (λ u k may. turn_nodes places asked f stand.0.0.even u k may NodeWeighs now (after u k may) (others u k may))

  -- ---- every run

  first_weights : WeightStand (first_facts places)
  first_weights = nodes_first NodeWeighs start_weighs places

  weights_keep : (f : Facts) (hs : List Happening) (t : List Event) (bs : List Born) → StandBorn places asked each f t bs → RootsStand places asked each f → CallsStand f → FreezeStand f → AskStand f bs → WeightStand f → IsLawful places asked f hs
      → WeightStand (facts_of places asked f hs)
  unfolding facts_of IsLawful
  weights_keep f [] t bs stand roots turns ice asks now lawful = now
  weights_keep f (h ∷ hs) t bs stand roots turns ice asks now lawful =
      weights_keep (facts_after places asked f h) hs (events_after places asked f h t) (births_after places f h bs) (stand_born_on places asked each f t bs h stand lawful.0)
      (roots_stand_on places asked each f t bs stand roots h lawful.0) (calls_stand_on places asked each f t bs stand roots turns h lawful.0) (freeze_on places asked each f t bs stand roots turns ice h lawful.0)
      (ask_on places asked each f t bs stand roots turns ice asks h lawful.0) (weights_on f t bs stand roots turns ice asks now h lawful.0) lawful.1

-- at the end of every run
run_weights : (t : History) → IsLawfulRun t → WeightStand (facts_at t)
run_weights t lawful =
    weights_keep t.places t.commands t.of_a_script.each (first_facts t.places) t.trace [] [] (stand_born_first t.places t.commands t.of_a_script.each)
    (first_rests t.places t.commands t.of_a_script.each) (first_calls t.places t.commands t.of_a_script.each) (first_freeze t.places t.commands t.of_a_script.each) (first_ask t.places t.commands t.of_a_script.each)
    (first_weights t.places t.commands t.of_a_script.each) lawful

node_weighs : (t : History) → IsLawfulRun t → (n : ℕ) (k : NodeState) → node_at (facts_at t) n ≡ Some k → NodeWeighs (said_in (facts_at t)) k
node_weighs t lawful n k up = subst (λ o. IfSome o (NodeWeighs (said_in (facts_at t)))) up (run_weights t lawful n)

pub replies_tell_weights : RepliesTellWeights
replies_tell_weights t lawful n k up x found =
    let parts = branch_parts k x.live.me x found in
    subst (WeighsSo (said_in (facts_at t)) x.live) (sym parts.1) ((node_weighs t lawful n k up).0.each x.live.me x.live parts.0)

pub edges_hold_weights : EdgesHoldWeights
edges_hold_weights t lawful n k up x found =
    let parts = branch_parts k x.live.me x found in
    subst (HoldsOf (said_in (facts_at t)) k x.live) (sym parts.1) ((node_weighs t lawful n k up).1.each x.live.me x.live parts.0)
