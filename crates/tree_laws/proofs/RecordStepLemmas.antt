-- Each seal that a step writes names the neighbour that Prepares told, and each decision is of a branch at which the walk ends.
use Rattle.std.proofs.Common.{◌≡◌, ◌≢◌, ℕ, zero, suc, ◌+◌, ◌-◌, ◌==◌, ◌||◌, Bool, true, false, if◌then◌else◌, List, [], ◌∷◌, map, length, filter, take, option_map, Option, Some, None, inl, inr, refl, sym, ap, subst, ◌∙◌, arith}
use Rattle.std.specs.Prelude.{IfSome, nat_lt, slice_get}
use Rattle.std.proofs.lemmas.Bool.Decides.{nat_tests}
use Rattle.std.proofs.lemmas.Option.{slice_get-map}
use Rattle.redo_record.specs.declared.record.Peer.{Peer}
use Rattle.commit_forget.specs.declared.next.Next.TheVariants as nexts
use Rattle.prepare_phase.specs.Records.{named_children, peer_record, prepared_before}
use Rattle.session_tree.specs.Live.{children_of}
use Rattle.session_tree.specs.declared.act.Walk.TheVariants as walks
use Rattle.session_tree.specs.Tree.{best_child, walk_by, step}
use Rattle.session_tree.proofs.Greatest.{greatest_is}
use Rattle.node_rules.specs.Data.{BranchId, Edge, Live, Act, Post, Place, Input}
use Rattle.node_rules.specs.Data.acts
use Rattle.node_rules.specs.Data.phases
use Rattle.node_rules.specs.declared.session.PendingCall.TheVariants as pending
use Rattle.node_rules.specs.Words.{numbered}
use Rattle.node_rules.specs.NodeState.{NodeState, TurnDraft}
use Rattle.node_rules.specs.Client.{new_root, fresh_root}
use Rattle.node_rules.specs.Prepare.{path_of, is_place, is_prepared, act_turn}
use Rattle.node_rules.proofs.Steps as steps
use Rattle.node_rules.proofs.Steps.{Step, Acting, Collected, Pointed}
use Rattle.run_branch_laws.specs.WalkLaws.{is_below, was_sent}
use Rattle.node_rules.specs.LiveBranches.{EachLive}
use Rattle.node_rules.proofs.LiveLemmas.{each_begun}
use Rattle.run_base_laws.proofs.RootLemmas.{SessionsFit, pends_so, begun_so, counted_so, back_so}
use Rattle.run_base_laws.proofs.NeighborLemmas.{News}
use Rattle.run_base_laws.proofs.NeighborStepLemmas.{begun_news, pends_news, lets_news, acked_news, counted_news, back_news}
use Rattle.run_base_laws.proofs.InTurnLemmas as turns
use Rattle.run_base_laws.proofs.InTurnStepLemmas as drafts
use Rattle.run_branch_laws.proofs.FreezeStepLemmas as frost
use Rattle.tree_laws.specs.AskLaws.{way_of, path_on, AsTold}
use Rattle.tree_laws.specs.Forests.{comes_to}
use Rattle.tree_laws.specs.RecordLaws.{LeadsToward, RecordLeads}
use Rattle.tree_laws.proofs.AskLemmas.{working_told, place_true}
use Rattle.tree_laws.proofs.AskStepLemmas as asks

abbrev peer : Edge → BranchId
peer e = e.peer

-- ---- the child that a record names

edge_of : {X : Type 0} (g : Edge → X) (es : List Edge) (k : ℕ) (y : X) → slice_get (map g es) k ≡ Some y → (e : Edge) × (slice_get es k ≡ Some e) × (g e ≡ y)
edge_of g es k y is = by (slice_get es k) refl (sym (slice_get-map g es k) ∙ is)
  where
    by : (o : Option Edge) → slice_get es k ≡ o → option_map g o ≡ Some y → (e : Edge) × (slice_get es k ≡ Some e) × (g e ≡ y)
    by None at it = absurd cc
    by (Some e) at it = let here : g e ≡ y = cc in (e, at, here)

named_first : (q r : Bool) (p : Peer) (rest : List Peer) → r ≡ true → slice_get (if q || r then p ∷ rest else rest) 0 ≡ Some p
named_first true r p rest is = refl
named_first false true p rest is = refl
named_first false false p rest is = absurd cc

named_later : (q r : Bool) (p y : Peer) (e : Edge) (rest : List Peer) (before : List Edge) → r ≡ false → slice_get rest (length before) ≡ Some y → slice_get (if q || r then p ∷ rest else rest) (length (if q then e ∷ before else before)) ≡ Some y
named_later true r p y e rest before is at = at
named_later false true p y e rest before is at = absurd cc
named_later false false p y e rest before is at = at

-- the child to which the walk goes stands behind those before it that answered Prepared
named_at : (j from : ℕ) (es : List Edge) (e : Edge) → slice_get es j ≡ Some e → slice_get (named_children (Some (from + j)) from es) (length (filter is_prepared (take j es))) ≡ Some (peer_record e)
named_at zero from [] e at = absurd cc
named_at (suc j) from [] e at = absurd cc
named_at zero from (x ∷ xs) e at =
    let it : Some x ≡ Some e = at in
    let here : x ≡ e = cc in
    subst (λ y. slice_get (named_children (Some (from + 0)) from (x ∷ xs)) 0 ≡ Some (peer_record y)) here
    (named_first (is_prepared x) (is_place from (Some (from + 0))) (peer_record x) (named_children (Some (from + 0)) (from + 1) xs) (place_true from (Some (from + 0)) refl))
named_at (suc j) from (x ∷ xs) e at =
    let number : (from + 1) + j ≡ from + suc j = omega arith in
    let other : is_place from (Some (from + suc j)) ≡ false = (let no : (from == from + suc j) ≡ false = grind (arith, nat_tests) in no) in
    let rest : slice_get (named_children (Some (from + suc j)) (from + 1) xs) (length (filter is_prepared (take j xs))) ≡ Some (peer_record e)
    = subst (λ n. slice_get (named_children (Some n) (from + 1) xs) (length (filter is_prepared (take j xs))) ≡ Some (peer_record e)) number (named_at j (from + 1) xs e at) in
    named_later (is_prepared x) (is_place from (Some (from + suc j))) (peer_record x) (peer_record e) x (named_children (Some (from + suc j)) (from + 1) xs) (filter is_prepared (take j xs)) other rest

-- so that is the child that the record has as toward
toward_there : (es : List Edge) (i : ℕ) (c : BranchId) → numbered (map peer es) i ≡ Some c → option_map (λ (p : Peer). p.branch) (slice_get (named_children (Some i) 1 es) (prepared_before i es)) ≡ Some c
toward_there es zero c at = absurd cc
toward_there es (suc k) c at =
    let is = edge_of peer es k c at in
    let one : 1 + k ≡ suc k = omega arith in
    let less : k ≡ suc k - 1 = omega arith in
    let named : slice_get (named_children (Some (suc k)) 1 es) (length (filter is_prepared (take k es))) ≡ Some (peer_record is.0)
    = subst (λ n. slice_get (named_children (Some n) 1 es) (length (filter is_prepared (take k es))) ≡ Some (peer_record is.0)) one (named_at k 1 es is.0 is.1) in
    ap (option_map (λ (p : Peer). p.branch)) (subst (λ n. slice_get (named_children (Some (suc k)) 1 es) (length (filter is_prepared (take n es))) ≡ Some (peer_record is.0)) less named) ∙ ap Some is.2

-- a step of the walk down leads to a child
down_there : (l : Live) (i : ℕ) → step l ≡ walks.Down i → (c : BranchId) × (numbered (children_of l) i ≡ Some c)
unfolding step
down_there l i is = by l.changed (best_child l) refl is
  where
    there : (w j : ℕ) → best_child l ≡ Some (w, j) → (c : BranchId) × (numbered (children_of l) j ≡ Some c)
    there w j at = elim (greatest_is w j 1 (map (λ e. e.weight) l.edges) None (λ b same. absurd cc) at).found [
      | inl none ↦ absurd cc
      | inr found ↦ (let e = edge_of (λ e. e.weight) l.edges found.0 (Some w) found.2 in
          let number : suc found.0 ≡ j = omega (arith, found.1) in
          (e.0.peer, subst (λ n. numbered (children_of l) n ≡ Some e.0.peer) number (slice_get-map peer l.edges found.0 ∙ ap (option_map peer) e.1)))
    ]

    down : (q : Bool) (b : ℕ × ℕ) → best_child l ≡ Some b → (if q then walks.Down b.1 else walks.Here) ≡ walks.Down i → (c : BranchId) × (numbered (children_of l) i ≡ Some c)
    down true b at it = let here : b.1 ≡ i = cc in subst (λ n. (c : BranchId) × (numbered (children_of l) n ≡ Some c)) here (there b.0 b.1 at)
    down false b at it = absurd cc

    by : (q : Bool) (o : Option (ℕ × ℕ)) → best_child l ≡ o → walk_by q l.strength o ≡ walks.Down i → (c : BranchId) × (numbered (children_of l) i ≡ Some c)
    by true None at it = absurd cc
    by true (Some b) at it = down (nat_lt l.strength b.0) b at it
    by false None at it = absurd cc
    by false (Some b) at it = down true b at it

-- ---- the way of a branch that seals or decides

-- The walk comes to a branch whose collect began.
pub record OnWay (l : Live) : Type 0 where
  pub comes : way_of l.phase ≡ Some true
  pub path : path_on l.phase (step l) ≡ path_of true (step l)
  pub other : l.phase ≢ phases.Working

collects_way : (l : Live) (b : Bool) → l.phase ≡ phases.Collecting b → b ≡ true → OnWay l
collects_way l b at is =
    let so : l.phase ≡ phases.Collecting true = at ∙ ap phases.Collecting is in
    record { comes = ap way_of so; path = ap (λ ph. path_on ph (step l)) so; other = λ working. absurd (cc (so, working)) }

ready_way : (l : Live) → l.phase ≡ phases.Ready → OnWay l
ready_way l at = record { comes = ap way_of at; path = ap (λ ph. path_on ph (step l)) at; other = λ working. absurd (cc (at, working)) }

seal_off : {l : Live} {b : Bool} → Collected l b acts.Seal → b ≡ false
seal_off (steps.Is_prepared some) = refl

pass_on : {l : Live} {b : Bool} {i : ℕ} → Collected l b (acts.SealAndPass i) → (b ≡ true) × (step l ≡ walks.Down i)
pass_on (steps.Passes i none is) = (refl, is)

point_on : {l : Live} {i : ℕ} → Pointed l (acts.SealAndPass i) → step l ≡ walks.Down i
point_on (steps.Points_on i is) = is

site_on : {l : Live} {b : Bool} → Collected l b acts.Decide → (b ≡ true) × (step l ≡ walks.Here)
site_on (steps.Is_site none is) = (refl, is)

point_here : {l : Live} → Pointed l acts.Decide → step l ≡ walks.Here
point_here (steps.Points_here is) = is

module _ {k : NodeState} {input : Input} where
  -- off the walk
  seals_off : {l : Live} {b : Bool} → Acting k input l b acts.Seal → l.phase ≡ phases.Collecting false
  seals_off (steps.Has_no_children l comment b _ live begins none collected) = ap phases.Collecting (seal_off collected)
  seals_off (steps.Hears_last l from v b _ live answers other all collected) = let at : l.phase ≡ phases.Collecting b = answers.collecting in at ∙ ap phases.Collecting (seal_off collected)
  seals_off (steps.At_point l from _ live came is pointed) = elim pointed [ ]

  -- on the walk, to a child
  passes_way : {l : Live} {b : Bool} {i : ℕ} → Acting k input l b (acts.SealAndPass i) → OnWay l × (step l ≡ walks.Down i)
  passes_way (steps.Has_no_children l comment b _ live begins none collected) = (collects_way _ b refl (pass_on collected).0, (pass_on collected).1)
  passes_way (steps.Hears_last l from v b _ live answers other all collected) = (collects_way _ b answers.collecting (pass_on collected).0, (pass_on collected).1)
  passes_way (steps.At_point l from _ live came is pointed) = (ready_way l is, point_on pointed)

  -- at its end
  decides_way : {l : Live} {b : Bool} → Acting k input l b acts.Decide → OnWay l × (step l ≡ walks.Here)
  decides_way (steps.Has_no_children l comment b _ live begins none collected) = (collects_way _ b refl (site_on collected).0, (site_on collected).1)
  decides_way (steps.Hears_last l from v b _ live answers other all collected) = (collects_way _ b answers.collecting (site_on collected).0, (site_on collected).1)
  decides_way (steps.At_point l from _ live came is pointed) = (ready_way l is, point_here pointed)

-- ---- what the record tells

module _ (said : List Post) (l : Live) (told : AsTold said l) where
  comes_so : OnWay l → comes_to said l.me l.parent ≡ true
  comes_so on = by l.parent refl
    where
      by : (o : Option BranchId) → l.parent ≡ o → comes_to said l.me o ≡ true
      by None above = refl
      by (Some q) above = told.way true on.comes q above

  off_leads : l.phase ≡ phases.Collecting false → (q : BranchId) × (l.parent ≡ Some q) × LeadsToward said l.me l.parent (Some q)
  off_leads at = by l.parent refl
    where
      by : (o : Option BranchId) → l.parent ≡ o → (q : BranchId) × (l.parent ≡ Some q) × LeadsToward said l.me l.parent (Some q)
      by None above = absurd (told.root above (ap way_of at))
      by (Some q) above = (q, above, inl (above, told.way false (ap way_of at) q above))

  pass_leads : (i : ℕ) → OnWay l → step l ≡ walks.Down i
      → (q : BranchId) × (option_map (λ (p : Peer). p.branch) (slice_get (named_children (Some i) 1 l.edges) (prepared_before i l.edges)) ≡ Some q) × LeadsToward said l.me l.parent (Some q)
  pass_leads i on is =
      let there = down_there l i is in
      let path : path_on l.phase (step l) ≡ Some i = on.path ∙ ap (path_of true) is in
      (there.0, toward_there l.edges i there.0 there.1, inr (comes_so on, told.points on.other i there.0 path there.1))

  decide_leads : OnWay l → step l ≡ walks.Here → LeadsToward said l.me l.parent None
  decide_leads on is = (comes_so on, λ c. by c (was_sent is_below said l.me c) refl)
    where
      by : (c : BranchId) (q : Bool) → was_sent is_below said l.me c ≡ q → q ≡ false
      by c false at = refl
      by c true at =
          let there = told.below on.other c at in
          let none : path_on l.phase (step l) ≡ None = on.path ∙ ap (path_of true) is in
          let some : path_on l.phase (step l) ≡ Some there.0 = there.1 in
          absurd (cc (none, some))

-- ---- every step

module _ (E : BranchId → Option ℕ) (A : BranchId → Option BranchId) (G Here : BranchId → Type 0) (input : Input) (said : List Post) (received : turns.Received E A G Here input said) (prepared : frost.Prepared E A G Here input said received) (sent : asks.Sent E A G Here input said received prepared) where
  abbrev Nodes : NodeState → Type 0
  Nodes k = EachLive (turns.Begun E A G Here input said) k.lives k.works

  acts_lead : (k : NodeState) (ss : SessionsFit k) (nodes : Nodes k) (ice : frost.Ices E A G Here input said received k) (now : asks.Olds E A G Here input said received prepared k) {l : Live} {b : Bool} (a : Act) → Acting k input l b a
      → IfSome (act_turn k l b a).wrote (RecordLeads said)
  acts_lead k ss nodes ice now acts.Rest why = tt
  acts_lead k ss nodes ice now acts.AskDown why = tt
  acts_lead k ss nodes ice now acts.SayReady why = tt
  acts_lead k ss nodes ice now acts.SayReadOnly why = tt
  acts_lead k ss nodes ice now {l = l} acts.Seal why = off_leads said l (asks.acting_told E A G Here input said received prepared sent k ss nodes ice now why (λ is. absurd cc)) (seals_off why)
  acts_lead k ss nodes ice now {l = l} (acts.SealAndPass i) why =
      let way = passes_way why in pass_leads said l (asks.acting_told E A G Here input said received prepared sent k ss nodes ice now why (λ is. absurd cc)) i way.0 way.1
  acts_lead k ss nodes ice now {l = l} acts.Decide why = let way = decides_way why in decide_leads said l (asks.acting_told E A G Here input said received prepared sent k ss nodes ice now why (λ is. absurd cc)) way.0 way.1
  acts_lead k ss nodes ice now acts.Finish why = tt
  acts_lead k ss nodes ice now acts.Abandon why = tt

  module _ (p : Place) (place : (b : BranchId) → b.node ≡ p.number → Here b) where
    pub leads_on : {k : NodeState} {d : TurnDraft} → Step p input k d → SessionsFit k → News (frost.Unasking E A G Here input said received) p input k → Nodes k → frost.Ices E A G Here input said received k → asks.Olds E A G Here input said received prepared k
        → IfSome d.wrote (RecordLeads said)
    leads_on (steps.Begins {k = k} n s read_at call begins range none step) ss news nodes ice now =
        let root = news.root n s read_at call begins none in
        leads_on step (begun_so k ss p n read_at) (begun_news (frost.Unasking E A G Here input said received) p input k n read_at news)
        (drafts.begins_so E A G Here input said received k nodes (fresh_root p k (new_root p k n) read_at) refl (place (new_root p k n) refl) root.0)
        (frost.begins_ice E A G Here input said received prepared k ice (fresh_root p k (new_root p k n) read_at) refl root.1)
        (each_begun (λ l w. AsTold said l) (λ l w. AsTold said l) k.lives k.works now (fresh_root p k (new_root p k n) read_at) (working_told said (new_root p k n) None phases.Working [] _ refl) (λ y v live any is. is))
    leads_on (steps.Counts_call {k = k} n s call counts step) ss news nodes ice now = leads_on step (counted_so k ss n) (counted_news (frost.Unasking E A G Here input said received) p input k n news) nodes ice now
    leads_on (steps.Goes_back {k = k} x step goes next) ss news nodes ice now = leads_on next (back_so k ss x step) (back_news (frost.Unasking E A G Here input said received) p input k x step news) nodes ice now
    leads_on (steps.Pends {k = k} n l given call has live code writer step) ss news nodes ice now = leads_on step (pends_so k ss n pending.Commit) (pends_news (frost.Unasking E A G Here input said received) p input k n given call news) nodes ice now
    leads_on (steps.Lets_reads_go {k = k} l comment b live begins step) ss news nodes ice now = leads_on step (record { roots = ss.roots; above = ss.above }) (lets_news (frost.Unasking E A G Here input said received) p input k l.me news) nodes ice now
    leads_on (steps.Counts_ack {k = k} s from kept came counts step) ss news nodes ice now = leads_on step (record { roots = ss.roots; above = ss.above }) (acked_news (frost.Unasking E A G Here input said received) p input k _ news) nodes ice now
    leads_on (steps.Acts {k = k} l b a why) ss news nodes ice now = acts_lead k ss nodes ice now a why
    leads_on (steps.Does {k = k} s from nexts.Rest kept why) ss news nodes ice now = tt
    leads_on (steps.Makes_record {k = k} n s r d call (steps.Sets_recovery on)) ss news nodes ice now = tt
    leads_on (steps.Gives_up_commit n b None gives has calls live) ss news nodes ice now = tt
    leads_on _ ss news nodes ice now = tt
