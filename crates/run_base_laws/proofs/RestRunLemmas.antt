-- In every lawful run a live root is the transaction of its session, and waits as the session's call says.
use Rattle.std.proofs.Common.{◌≡◌, ◌≢◌, ℕ, ◌≤◌, if◌then◌else◌, List, [], ◌∷◌, Option, Some, None, inl, inr, refl, sym, ap, subst, ◌∙◌, arith, ◌+◌}
use Rattle.std.specs.Prelude.{IfSome}
use Rattle.std.proofs.lemmas.Bool.{cond_both}
use Rattle.tran_ids.proofs.BranchLemmas.{same_from_equal}
use Rattle.tran_ids.proofs.ListedLemmas.{item_is}
use Rattle.node_rules.specs.Data.{Stmt, BranchId, Live, Phase, KeptRow, Place, Input, RedoRecord}
use Rattle.node_rules.specs.declared.work.Going.{Going}
use Rattle.node_rules.specs.declared.session.PendingCall.{PendingCall}
use Rattle.node_rules.specs.Data.inputs
use Rattle.node_rules.specs.Data.kinds
use Rattle.node_rules.specs.declared.session.PendingCall.TheVariants as pending
use Rattle.node_rules.specs.Data.stmts
use Rattle.node_rules.specs.Words.{same, numbered}
use Rattle.node_rules.specs.NodeState.{NodeState, live_id, kept_row_id, live_at, Branch, branch_at}
use Rattle.node_rules.specs.Sessions.{session_at}
use Rattle.node_rules.proofs.Steps.{Step}
use Rattle.std.specs.List.{AllByRecursion}
use Rattle.node_rules.specs.Turn.{turn_of, start_of, made, heard, draft_of}
use Rattle.agreement.specs.Events.{Event}
use Rattle.run_rules.specs.Data.{Took, Turn, Happening, Command}
use Rattle.run_rules.specs.Facts.{Facts, first_facts, place_at, node_at, records_at, facts_after, facts_of}
use Rattle.run_rules.specs.Lawful.{IsPlace, MayTurn, MayHappen, Comes, IsLawful, History, IsLawfulRun, facts_at}
use Rattle.run_base_laws.specs.RunEvents.{events_after}
use Rattle.run_base_laws.specs.NodeLaws.{count_of, EachFactFrom}
use Rattle.run_rules.specs.Births.{Born, born_at, births_after}
use Rattle.run_base_laws.specs.BirthLaws.{Began, IsChild, LiveIs, NamesAre, GoesSo}
use Rattle.run_rules.proofs.ListLemmas.{all_weaker}
use Rattle.run_base_laws.proofs.OwnLemmas.{all_found}
use Rattle.run_base_laws.proofs.LawfulLemmas.{serves, turn_of_node}
use Rattle.run_base_laws.proofs.FreshLemmas.{Node}
use Rattle.run_base_laws.proofs.NodeLemmas.{Goes, Stays, Turns, Is_cut, Stops, Starts, goes_so}
use Rattle.run_base_laws.proofs.EventsStandLemmas.{first_node, node_so}
use Rattle.run_base_laws.proofs.BirthsStandLemmas.{came_so}
use Rattle.run_base_laws.proofs.BirthRunLemmas.{StandBorn, stand_born_on, stand_born_first}
use Rattle.run_base_laws.proofs.NodesStandLemmas.{counts}
use Rattle.node_rules.proofs.StandLemmas.{live_so}
use Rattle.run_rules.specs.Data.happenings
use Rattle.node_rules.specs.Data.phases
use Rattle.run_base_laws.specs.CallLaws.{RootWaits, RootsWait, CommitsRest, ComesAtRest, CallsComeAtRest}
use Rattle.node_rules.proofs.LiveLemmas.{none_live}
use Rattle.run_base_laws.proofs.RootLemmas.{SessionsFit, started_fits, sessions_on, root_alone}
use Rattle.run_base_laws.proofs.RestLemmas.{Before, NodeRoots, branch_root, free_waits}
use Rattle.run_base_laws.proofs.RestStepLemmas.{roots_on, commit_call_so, commit_or_not}

-- ---- turns

-- sessions and live branches fit, and roots are their sessions'
abbrev pub NodeRests : NodeState → Type 0
NodeRests k = SessionsFit k × NodeRoots k

pub heard_rests : (k : NodeState) (input : Input) → NodeRests k → NodeRests (heard k input)
heard_rests k (inputs.Message m) now = (record { roots = now.0.roots; above = now.0.above }, now.1)
heard_rests k (inputs.Call n s) now = now
heard_rests k (inputs.GiveUp n) now = now
heard_rests k inputs.Reco now = now
heard_rests k inputs.Checkpoint now = now

pub heard_before : (k : NodeState) (input what : Input) → Before what k → Before what (heard k input)
heard_before k (inputs.Message m) what before = record { free = before.free; asked = before.asked; prepared = before.prepared; either = before.either }
heard_before k (inputs.Call n s) what before = before
heard_before k (inputs.GiveUp n) what before = before
heard_before k inputs.Reco what before = before
heard_before k inputs.Checkpoint what before = before

turn_rests : (p : Place) (k : NodeState) (input : Input) → Before input k → NodeRests k → Step p input (heard k input) (draft_of p k input) → NodeRests (draft_of p k input).after
turn_rests p k input before now step =
    let next : NodeRests (heard k input) = heard_rests k input now in (
      sessions_on p input step next.0,
      elim (commit_or_not input) [
        | inl is ↦ subst (λ (i : Input). NodeRoots (draft_of p k i).after) (sym is.2) (commit_call_so k now.0 now.1 is.0 (before.free is.0 (stmts.Commit is.1) is.2) is.1)
        | inr not ↦ roots_on p input not step (heard_before k input input before) next.0 next.1
      ],
    )

-- ---- what is known before a turn

pub free_by : (f : Facts) (k : NodeState) (node n : ℕ) (s : Option Stmt) (took : Option Took) → Comes f k node (inputs.Call n s) took → (session_at k.sessions n).call ≡ pending.NoCall
free_by f k node n s None comes = comes.1
free_by f k node n s (Some t) comes = absurd comes

-- a branch that was asked as a child has a parent
pub asked_parent : (bs : List Born) (k : NodeState) → NamesAre (Began bs) k → (from to : BranchId) → IsChild (Began bs) to from → (l : Live) → live_at k to ≡ Some l → l.parent ≢ None
asked_parent bs k names from to child l found none =
    let is : LiveIs (Began bs) l = all_found (LiveIs (Began bs)) live_id k.lives to l names.0 found in
    let me : is.born.me ≡ to = is.is_me ∙ item_is live_id k.lives to l found in
    let one : born_at bs to ≡ Some child.0 = subst (λ b. born_at bs b ≡ Some child.0) child.2 child.1 in
    let two : born_at bs to ≡ Some is.born = subst (λ b. born_at bs b ≡ Some is.born) me is.began in
    let it : Some child.0 ≡ Some is.born = sym one ∙ two in
    let here : child.0 ≡ is.born = cc in
    let parent : Some from ≡ None = sym child.3 ∙ (ap (λ x. x.parent) here ∙ (is.is_parent ∙ none)) in
    absurd cc

-- each row counts
rows_count : (ks : List KeptRow) → AllByRecursion (λ s. 1 ≤ count_of kept_row_id s.me ks) ks
rows_count [] = tt
rows_count (s ∷ ks) = (
  subst (λ q. 1 ≤ (if q then 1 + count_of kept_row_id s.me ks else count_of kept_row_id s.me ks)) (sym (same_from_equal s.me s.me refl)) (omega arith),
  all_weaker (λ x. 1 ≤ count_of kept_row_id x.me ks) (λ x. 1 ≤ count_of kept_row_id x.me (s ∷ ks))
      (λ x some. cond_both (same s.me x.me) _ _ (λ c. 1 ≤ c) (λ here. omega arith) (λ other. some)) ks (rows_count ks),
)

not_both : (rs : List RedoRecord) (k : NodeState) → Node rs k → AllByRecursion (λ s. live_at k s.me ≡ None) k.stored.durable.kept
not_both rs k node =
    all_weaker (λ s. 1 ≤ count_of kept_row_id s.me k.stored.durable.kept) (λ s. live_at k s.me ≡ None) (λ s some. none s.me some (live_at k s.me) refl) k.stored.durable.kept (rows_count k.stored.durable.kept)
  where
    none : (b : BranchId) → 1 ≤ count_of kept_row_id b k.stored.durable.kept → (o : Option Live) → live_at k b ≡ o → o ≡ None
    none b some None is = refl
    none b some (Some l) is =
        let here : 1 ≤ count_of live_id l.me k.lives = all_found (λ x. 1 ≤ count_of live_id x.me k.lives) live_id k.lives b l (counts k.lives) is in
        let there : 1 ≤ count_of live_id b k.lives = subst (λ c. 1 ≤ count_of live_id c k.lives) (item_is live_id k.lives b l is) here in
        absurd (omega (arith, some, there, node.ids.one b))

-- a session without a pending call has its root at rest
rest_so : (k : NodeState) → NodeRests k → (n : ℕ) (x : Branch) → (session_at k.sessions n).root ≡ Some x.live.me → branch_at k x.live.me ≡ Some x → (session_at k.sessions n).call ≡ pending.NoCall
    → (x.live.phase ≡ phases.Working) × (x.work.going ≡ None)
rest_so k now n x has live free =
    let none : x.live.parent ≡ None = root_alone k now.0 n x.live.me has x.live (live_so k x.live.me x live) in
    free_waits (session_at k.sessions x.live.me.session).call x.live.phase x.work.going (branch_root k now.1 x live none).waits
    (subst (λ m. (session_at k.sessions m).call ≡ pending.NoCall) (sym (now.0.roots.each n x.live.me has)) free)

module _ (places : List Place) (asked : List Command) (each : (n : ℕ) (p : Place) → numbered places n ≡ Some p → IsPlace places n p) where
  -- the nodes that are up
  abbrev pub RootsStand : Facts → Type 0
  RootsStand f = (n : ℕ) → IfSome (node_at f n) NodeRests

  module _ (f : Facts) (t : List Event) (bs : List Born) (stand : StandBorn places asked each f t bs) (now : RootsStand f) where
    pub before_so : (u : Turn) (k : NodeState) → MayTurn places f u k → Before u.input k
    before_so u k may =
        let names : NamesAre (Began bs) k = subst (λ o. IfSome o (NamesAre (Began bs))) may.up (stand.1.lives u.node) in
        record {
          free = λ n s call. free_by f k u.node n (Some s) u.took (subst (λ i. Comes f k u.node i u.took) call may.comes);
          asked = λ from to call task came. asked_parent bs k names from to
              (came_so (GoesSo (Began bs)) f stand.1.said k u.node u.input u.took may.comes from to (kinds.Exec call task) came);
          prepared = λ from to site_below comment came. asked_parent bs k names from to
              (came_so (GoesSo (Began bs)) f stand.1.said k u.node u.input u.took may.comes from to (kinds.Prepare site_below comment) came);
          either = λ not. not_both (records_at f u.node) k (node_so places asked each f t stand.0 u.node k may.up);
        }

    pub turned : (u : Turn) (k : NodeState) → MayTurn places f u k → NodeRests (turn_of (place_at places u.node) k u.input).after
    unfolding turn_of
    turned u k may = turn_rests (place_at places u.node) k u.input (before_so u k may) (subst (λ o. IfSome o NodeRests) may.up (now u.node)) (serves places f u k may).step

    started : (zs : List RedoRecord) → NodeRests (start_of zs)
    unfolding start_of
    started zs = (started_fits _ _, none_live _)

    goes_rests : (n : ℕ) {o : Option NodeState} {rs : List RedoRecord} → Goes places f n o rs → IfSome o NodeRests
    goes_rests n Stays = now n
    goes_rests n (Turns u k may here) = subst (λ m. NodeRests (turn_of (place_at places m) k u.input).after) here (turned u k may)
    goes_rests n (Is_cut u k may here) = tt
    goes_rests n Stops = tt
    goes_rests n (Starts boot down next) = started _

    pub roots_stand_on : (h : Happening) → MayHappen places asked f h → RootsStand (facts_after places asked f h)
    roots_stand_on h may n = goes_rests n (goes_so places f asked stand.0.0.even h n may)

    at_rest : (h : Happening) → MayHappen places asked f h → ComesAtRest places f h
    at_rest (happenings.Turn u) may = λ k up n s call x has live. rest_so k (subst (λ o. IfSome o NodeRests) up (now u.node)) n x has live
        (free_by f k u.node n s u.took (subst (λ i. Comes f k u.node i u.took) call (turn_of_node places f u k asked may up).comes))
    at_rest _ may = tt

  made_rests : NodeRests made
  unfolding start_of
  made_rests = (started_fits _ _, none_live _)

  roots_keep : (f : Facts) (hs : List Happening) (t : List Event) (bs : List Born) → StandBorn places asked each f t bs → RootsStand f → IsLawful places asked f hs → RootsStand (facts_of places asked f hs)
  unfolding facts_of IsLawful
  roots_keep f [] t bs stand now lawful = now
  roots_keep f (h ∷ hs) t bs stand now lawful =
      roots_keep (facts_after places asked f h) hs (events_after places asked f h t) (births_after places f h bs) (stand_born_on places asked each f t bs h stand lawful.0) (roots_stand_on f t bs stand now h lawful.0) lawful.1

  rest_each : (f : Facts) (hs : List Happening) (t : List Event) (bs : List Born) → StandBorn places asked each f t bs → RootsStand f → IsLawful places asked f hs
      → EachFactFrom (ComesAtRest places) places asked f hs
  unfolding IsLawful
  rest_each f [] t bs stand now lawful = tt
  rest_each f (h ∷ hs) t bs stand now lawful = (
    at_rest f t bs stand now h lawful.0,
    rest_each (facts_after places asked f h) hs (events_after places asked f h t) (births_after places f h bs) (stand_born_on places asked each f t bs h stand lawful.0) (roots_stand_on f t bs stand now h lawful.0) lawful.1,
  )

  pub first_rests : RootsStand (first_facts places)
  first_rests n = first_node (λ o. IfSome o NodeRests) tt made_rests places n

-- at the end of every run
pub run_roots : (t : History) → IsLawfulRun t → RootsStand t.places t.commands t.of_a_script.each (facts_at t)
run_roots t lawful =
    roots_keep t.places t.commands t.of_a_script.each (first_facts t.places) t.trace [] [] (stand_born_first t.places t.commands t.of_a_script.each)
    (first_rests t.places t.commands t.of_a_script.each) lawful

pub roots_wait : RootsWait
roots_wait t lawful n k up x found root =
    let now : NodeRests k = subst (λ o. IfSome o NodeRests) up (run_roots t lawful n) in let is = branch_root k now.1 x found root in record { root = is.root; waits = is.waits }

commit_rests : (c : PendingCall) (phase : Phase) (o : Option Going) → RootWaits c phase o → phase ≢ phases.Working → o ≡ None
commit_rests pending.NoCall phase o is other = is.1
commit_rests pending.Statement phase o is other = absurd (other is)
commit_rests pending.Commit phase o is other = is

pub commits_rest : CommitsRest
commits_rest t lawful n k up x found root other = commit_rests (session_at k.sessions x.live.me.session).call x.live.phase x.work.going (roots_wait t lawful n k up x found root).waits other

pub calls_come_at_rest : CallsComeAtRest
calls_come_at_rest t lawful =
    rest_each t.places t.commands t.of_a_script.each (first_facts t.places) t.trace [] [] (stand_born_first t.places t.commands t.of_a_script.each) (first_rests t.places t.commands t.of_a_script.each) lawful
