-- In every lawful run who answered Ready was told that the walk comes there, and once a branch collects each of its children was asked.
use Rattle.std.proofs.Common.{◌≡◌, ℕ, Bool, true, false, List, [], ◌∷◌, ◌++◌, map, Some, None, inl, inr, refl, sym, ap, subst, ◌∙◌}
use Rattle.std.specs.Prelude.{IfSome}
use Rattle.std.specs.List.{AllByRecursion}
use Rattle.node_rules.specs.Data.{BranchId, Kind, Live, Msg, Post, Input, RedoRecord}
use Rattle.node_rules.specs.Data.inputs
use Rattle.node_rules.specs.Data.kinds
use Rattle.node_rules.specs.Data.phases
use Rattle.node_rules.specs.declared.work.Going.{Going}
use Rattle.node_rules.specs.Inputs.{Came}
use Rattle.node_rules.specs.NodeState.{NodeState, Branch, TurnDraft, live_at, branch_at}
use Rattle.node_rules.specs.Turn.{turn_of, start_of, heard, draft_of, stamped}
use Rattle.run_rules.specs.Data.{Turn, Happening}
use Rattle.run_rules.specs.Data.happenings
use Rattle.run_rules.specs.Facts.{Facts, first_facts, place_at, node_at, kept_after, facts_after, facts_of}
use Rattle.run_rules.specs.Lawful.{MayTurn, MayHappen, IsOwed, History, IsLawfulRun, facts_at}
use Rattle.run_base_laws.specs.InTurnLaws.{post_of, said_in}
use Rattle.run_branch_laws.specs.WalkLaws.{is_below, was_sent}
use Rattle.run_rules.proofs.ListLemmas.{all_weaker, all_map}
use Rattle.run_base_laws.proofs.LawfulLemmas.{serves}
use Rattle.run_base_laws.proofs.SaidLemmas.{sent_after}
use Rattle.run_rules.proofs.AtNodeLemmas.{turn_here}
use Rattle.run_base_laws.proofs.EventsStandLemmas.{run_stands}
use Rattle.run_base_laws.proofs.BirthsStandLemmas.{came_so}
use Rattle.run_base_laws.proofs.SaidPostLemmas.{posts_of, said_after}
use Rattle.run_branch_laws.proofs.FreezeLemmas.{working_or}
use Rattle.run_branch_laws.proofs.FreezeRunLemmas.{asked_stand_still}
use Rattle.tree_laws.specs.AskLaws.{way_of}
use Rattle.tree_laws.specs.AnswerLaws.{AnswersTold, ReadyIs, AnswersAreAsTold}
use Rattle.tree_laws.proofs.AskLemmas.{sent_more}
use Rattle.tree_laws.proofs.AskRunLemmas.{collects_as_told}
use Rattle.tree_laws.proofs.EachNodeLemmas.{EachNode, turn_nodes, quiet_says, nodes_on, nodes_first}
use Rattle.tree_laws.proofs.PrefixLemmas.{so_far, f_at, facts_on, lawful_on, keep_prefix}
use Rattle.tree_laws.proofs.WhyLemmas.{SaidWhy, why_on}
use Rattle.tree_laws.proofs.AnswerStepLemmas.{answers_on}
use Rattle.tree_laws.proofs.AtPart.{at_part}

-- ---- a node that hears

pub heard_branch : (k : NodeState) (input : Input) (b : BranchId) (x : Branch) → branch_at (heard k input) b ≡ Some x → branch_at k b ≡ Some x
heard_branch k (inputs.Message m) b x is = is
heard_branch k (inputs.Call n s) b x is = is
heard_branch k (inputs.GiveUp n) b x is = is
heard_branch k inputs.Reco b x is = is
heard_branch k inputs.Checkpoint b x is = is

pub lives_heard : (k : NodeState) (input : Input) → (heard k input).lives ≡ k.lives
lives_heard k (inputs.Message m) = refl
lives_heard k (inputs.Call n s) = refl
lives_heard k (inputs.GiveUp n) = refl
lives_heard k inputs.Reco = refl
lives_heard k inputs.Checkpoint = refl

-- ---- more messages

edge_more : (said says : List Post) (l : Live) → AnswersTold said l → AnswersTold (said ++ says) l
edge_more said says l all = all_weaker _ _ (λ e is. record { ready = λ now. sent_more is_below said says l.me e.peer (is.ready now); asked = is.asked }) l.edges all

lives_more : (said says : List Post) (ls : List Live) → AllByRecursion (AnswersTold said) ls → AllByRecursion (AnswersTold (said ++ says)) ls
lives_more said says ls all = all_weaker (AnswersTold said) (AnswersTold (said ++ says)) (λ l is. edge_more said says l is) ls all

ready_more : (said says : List Post) (from to : BranchId) (kind : Kind) → ReadyIs said from to kind → ReadyIs (said ++ says) from to kind
ready_more said says from to kinds.Ready is = sent_more is_below said says to from is
ready_more said says from to _ is = tt

-- ---- what stands

abbrev NodeAnswers : List Post → NodeState → Type 0
NodeAnswers said k = AllByRecursion (AnswersTold said) k.lives

-- The answers of all live branches, and each Ready that was sent.
pub record AnswerStand (f : Facts) : Type 0 where
  pub nodes : EachNode NodeAnswers f
  pub ready : AllByRecursion (λ x. ReadyIs (said_in f) x.msg.from x.msg.to x.msg.kind) f.net.packets

start_answers : (ms : List Post) (zs : List RedoRecord) → NodeAnswers ms (start_of zs)
unfolding start_of
start_answers ms zs = tt

module _ (t : History) (before : List Happening) (lawful : IsLawfulRun (so_far t before)) (now : AnswerStand (f_at t before)) where
  open at_part t before use {f, said}

  -- ---- a turn

  module _ (u : Turn) (k : NodeState) (may : MayTurn t.places f u k) where
    abbrev d : TurnDraft
    d = draft_of (place_at t.places u.node) k u.input

    abbrev g : Facts
    g = facts_after t.places t.commands f (happenings.Turn u)

    works : (from to : BranchId) (edge strength : ℕ) → Came u.input from to (kinds.Opened edge strength) → (x : Branch) (w : Going) → branch_at (heard k u.input) x.live.me ≡ Some x → x.work.going ≡ Some w → x.live.phase ≡ phases.Working
    works from to edge strength came x w found going = elim (working_or x.live.phase) [
      | inl working ↦ working
      | inr other ↦ (let rest = (asked_stand_still (so_far t before) lawful u.node k may.up x (heard_branch k u.input x.live.me x found)).1 other in
          let none : x.work.going ≡ None = rest.0 in
          absurd (cc (none, going)))
    ]

    came_ready : (from to : BranchId) → Came u.input from to kinds.Ready → was_sent is_below said to from ≡ true
    came_ready from to came = came_so (ReadyIs said) f now.ready k u.node u.input u.took may.comes from to kinds.Ready came

    lives_before : NodeAnswers said k
    lives_before = subst (λ o. IfSome o (NodeAnswers said)) may.up (now.nodes u.node)

    lives_after : AllByRecursion (AnswersTold said) d.after.lives
    lives_after =
        answers_on said (place_at t.places u.node) u.input came_ready (serves t.places f u k may).step works
        (subst (λ (ls : List Live). AllByRecursion (AnswersTold said) ls) (sym (lives_heard k u.input)) lives_before)

    here : node_at g u.node ≡ kept_after u.cut (Some (turn_of (place_at t.places u.node) k u.input))
    here = (turn_here t.places t.commands f (run_stands (so_far t before) lawful).0.even u k may.up).0

    -- the run with this turn
    abbrev after : List Happening
    after = before ++ happenings.Turn u ∷ []

    lawful_after : IsLawfulRun (so_far t after)
    lawful_after = lawful_on t.places t.commands (first_facts t.places) before (happenings.Turn u) lawful (k, may)

    facts_after_is : facts_at (so_far t after) ≡ g
    facts_after_is = facts_on t.places t.commands (first_facts t.places) before (happenings.Turn u)

    -- who says Ready is Ready afterwards, so its parent told it
    ready_told : node_at g u.node ≡ Some d.after → (from to : BranchId) (kind : Kind) → SaidWhy (heard k u.input) u.input d.says d.after.lives from to kind → ReadyIs (said_in g) from to kind
    ready_told up from to kinds.Ready why =
        let y : Live = why.0 in
        let found : live_at d.after y.me ≡ Some y = subst (λ b. live_at d.after b ≡ Some y) (sym why.4) why.1 in
        let there : node_at (facts_at (so_far t after)) u.node ≡ Some d.after = ap (λ x. node_at x u.node) facts_after_is ∙ up in
        let told : was_sent is_below (said_in (facts_at (so_far t after))) to y.me ≡ true = collects_as_told (so_far t after) lawful_after u.node d.after there y found true (ap way_of why.2) to why.3 in
        subst (λ x. was_sent is_below (said_in x) to from ≡ true) facts_after_is (subst (λ b. was_sent is_below (said_in (facts_at (so_far t after))) to b ≡ true) why.4 told)
    ready_told up from to _ why = tt

    -- why each message is said
    whys : AllByRecursion (λ (x : Post). SaidWhy (heard k u.input) u.input d.says d.after.lives x.from x.to x.kind) d.says
    whys = (why_on (heard k u.input) u.input (place_at t.places u.node) (serves t.places f u k may).step (λ no. record { lives = refl; clock = refl })).1

    ready_after : (cut : Bool) → u.cut ≡ cut → IsOwed (place_at t.places u.node) k u.input u.wrote u.sent cut → AllByRecursion (λ m. ReadyIs (said_in g) m.from m.to m.kind) u.sent
    unfolding turn_of
    ready_after true cut owed = subst (λ (ms : List Msg). AllByRecursion (λ m. ReadyIs (said_in g) m.from m.to m.kind) ms) (sym owed.1) tt
    ready_after false cut owed =
        let up : node_at g u.node ≡ Some d.after = here ∙ ap (λ c. kept_after c (Some (turn_of (place_at t.places u.node) k u.input))) cut in
        subst (λ (ms : List Msg). AllByRecursion (λ m. ReadyIs (said_in g) m.from m.to m.kind) ms) (sym owed.1)
        (all_map (λ (m : Msg). ReadyIs (said_in g) m.from m.to m.kind) (stamped d.after.clock) d.says
        (all_weaker (λ (x : Post). SaidWhy (heard k u.input) u.input d.says d.after.lives x.from x.to x.kind) (λ (x : Post). ReadyIs (said_in g) x.from x.to x.kind) (λ x is. ready_told up x.from x.to x.kind is) d.says whys))

    old_ready : AllByRecursion (λ x. ReadyIs (said_in g) x.msg.from x.msg.to x.msg.kind) f.net.packets
    old_ready =
        subst (λ xs. AllByRecursion (λ x. ReadyIs xs x.msg.from x.msg.to x.msg.kind) f.net.packets) (sym (said_after t.places t.commands f (happenings.Turn u)))
        (all_weaker (λ x. ReadyIs said x.msg.from x.msg.to x.msg.kind) _ (λ x is. ready_more said (map post_of u.sent) x.msg.from x.msg.to x.msg.kind is) f.net.packets now.ready)

  -- ---- every happening

  -- a happening that sends nothing
  abbrev ReadySo : Msg → Type 0
  ReadySo m = ReadyIs said m.from m.to m.kind

  quiet : (h : Happening) → posts_of h ≡ [] → AllByRecursion (λ x. ReadySo x.msg) (facts_after t.places t.commands f h).net.packets
      → AllByRecursion (λ x. ReadyIs (said_in (facts_after t.places t.commands f h)) x.msg.from x.msg.to x.msg.kind) (facts_after t.places t.commands f h).net.packets
  quiet h none = quiet_says t.places t.commands f (λ xs. AllByRecursion (λ x. ReadyIs xs x.msg.from x.msg.to x.msg.kind) (facts_after t.places t.commands f h).net.packets) h none

  ready_on : (h : Happening) → MayHappen t.places t.commands f h → AllByRecursion (λ x. ReadyIs (said_in (facts_after t.places t.commands f h)) x.msg.from x.msg.to x.msg.kind) (facts_after t.places t.commands f h).net.packets
  ready_on (happenings.Turn u) may =
      sent_after (λ m. ReadyIs (said_in (g u may.0 may.1)) m.from m.to m.kind) t.places t.commands f (happenings.Turn u) (ready_after u may.0 may.1 u.cut refl may.1.owed) (old_ready u may.0 may.1)
  ready_on (happenings.Stopped m) may = quiet (happenings.Stopped m) refl (sent_after ReadySo t.places t.commands f (happenings.Stopped m) tt now.ready)
  ready_on (happenings.Started m boot) may = quiet (happenings.Started m boot) refl (sent_after ReadySo t.places t.commands f (happenings.Started m boot) tt now.ready)
  ready_on (happenings.Begun c) may = quiet (happenings.Begun c) refl (sent_after ReadySo t.places t.commands f (happenings.Begun c) tt now.ready)
  ready_on (happenings.Cut a b) may = quiet (happenings.Cut a b) refl (sent_after ReadySo t.places t.commands f (happenings.Cut a b) tt now.ready)
  ready_on (happenings.Join a b) may = quiet (happenings.Join a b) refl (sent_after ReadySo t.places t.commands f (happenings.Join a b) tt now.ready)
  ready_on (happenings.Lost j) may = quiet (happenings.Lost j) refl (sent_after ReadySo t.places t.commands f (happenings.Lost j) tt now.ready)

  answers_go_on : (h : Happening) → MayHappen t.places t.commands f h → AnswerStand (facts_after t.places t.commands f h)
  answers_go_on h may = record {
    nodes = nodes_on t.places t.commands f NodeAnswers start_answers now.nodes
        (λ u k may. turn_nodes t.places t.commands f (run_stands (so_far t before) lawful).0.even u k may NodeAnswers now.nodes (lives_more said _ _ (lives_after u k may)) (λ m other j there old. lives_more said _ j.lives old)) h may;
    ready = ready_on h may;
  }

  pub answers_next : (h : Happening) → MayHappen t.places t.commands f h → AnswerStand (f_at t (before ++ h ∷ []))
  answers_next h may = subst AnswerStand (sym (facts_on t.places t.commands (first_facts t.places) before h)) (answers_go_on h may)

-- ---- every run

first_answers : (t : History) → AnswerStand (f_at t [])
unfolding facts_of
first_answers t = record { nodes = nodes_first NodeAnswers start_answers t.places; ready = tt }

pub run_answers : (t : History) → IsLawfulRun t → AnswerStand (facts_at t)
run_answers t lawful = keep_prefix t (λ hs. AnswerStand (f_at t hs)) (λ before h so may now. answers_next t before so now h may) lawful (first_answers t)

pub answers_are_as_told : AnswersAreAsTold
answers_are_as_told t lawful = ((λ n k up. subst (λ o. IfSome o (NodeAnswers (said_in (facts_at t)))) up ((run_answers t lawful).nodes n)), (run_answers t lawful).ready)
