-- A branch that becomes sealed, decides or is done without changes has heard of each neighbour beyond it: of its children by their
-- answers, and of the parent from which the walk comes by CommitPoint.
use Rattle.std.proofs.Common.{◌≡◌, ◌≢◌, ℕ, zero, suc, ◌≤◌, ◌⊎◌, Bool, true, false, List, [], ◌∷◌, map, is_none, Option, Some, None, inl, inr, refl, sym, ap, subst, ◌∙◌, arith}
use Rattle.std.specs.List.{AllByRecursion, list_any}
use Rattle.std.proofs.lemmas.Bool.{cond_both, and_parts, not-true}
use Rattle.tran_ids.proofs.BranchLemmas.{equal_from_same}
use Rattle.prepare_phase.specs.Records.{named_children}
use Rattle.redo_record.specs.declared.record.Peer.{Peer}
use Rattle.session_tree.specs.Live.{children_of}
use Rattle.session_tree.specs.Tree.{weight}
use Rattle.node_rules.specs.Data.{BranchId, Edge, Kind, Live, Act, Post, Vote, Input}
use Rattle.node_rules.specs.Data.acts
use Rattle.node_rules.specs.Data.inputs
use Rattle.node_rules.specs.Data.kinds
use Rattle.node_rules.specs.Data.phases
use Rattle.node_rules.specs.Data.votes
use Rattle.node_rules.specs.Words.{same, numbered, item_at}
use Rattle.node_rules.specs.Inputs.{Came}
use Rattle.node_rules.specs.NodeState.{NodeState, Branch, live_id, live_at, branch_at, work_at, with_work}
use Rattle.node_rules.specs.Prepare.{is_awaited, answers_first, has_voted, voted}
use Rattle.node_rules.specs.Turn.{heard}
use Rattle.node_rules.proofs.Steps as steps
use Rattle.node_rules.proofs.Steps.{Acting, Answers, Collected, Collects, vote_kind}
use Rattle.agreement.specs.Events.{Quiet, Send_vote, exit, Has}
use Rattle.run_rules.specs.Data.{Turn, Happening}
use Rattle.run_rules.specs.Facts.{place_at}
use Rattle.run_rules.specs.Lawful.{MayTurn, History, IsLawfulRun}
use Rattle.run_rules.specs.Births.{Born}
use Rattle.run_base_laws.specs.BirthLaws.{Began, IsChild, LiveIs, GoesSo}
use Rattle.run_base_laws.specs.FreezeLaws.{was_asked}
use Rattle.run_branch_laws.specs.HeardLaws.{VoteIs, EdgeIs, AnswersAre, QuietIs}
use Rattle.run_branch_laws.specs.PhaseLaws.{IsNoAbort, PhaseFits}
use Rattle.run_rules.specs.Trail.{is_prepare}
use Rattle.run_branch_laws.specs.WalkLaws.{is_below, is_above, was_sent}
use Rattle.run_rules.proofs.ListLemmas.{all_weaker, all_map}
use Rattle.run_base_laws.proofs.OwnLemmas.{all_found}
use Rattle.run_base_laws.proofs.SaidLemmas.{came_said}
use Rattle.run_base_laws.proofs.BirthsStandLemmas.{came_so}
use Rattle.run_base_laws.proofs.BirthRunLemmas.{nodes_name_the_born, messages_are_of_neighbors}
use Rattle.run_base_laws.proofs.EventsStandLemmas.{run_stands}
use Rattle.run_branch_laws.proofs.HeardLemmas.{risen_answers}
use Rattle.run_branch_laws.proofs.HeardStandLemmas.{answers_are_true, quiets_are_gone}
use Rattle.run_branch_laws.proofs.PhaseLemmas.{phases_fit}
use Rattle.run_branch_laws.proofs.FreezeLemmas.{working_or}
use Rattle.run_branch_laws.proofs.FreezeRunLemmas.{asked_stand_still}
use Rattle.tree_laws.specs.AskLaws.{way_of, tells}
use Rattle.tree_laws.specs.AnswerLaws.{EdgeTold, AnswersTold, ReadyIs}
use Rattle.tree_laws.proofs.AskLemmas.{sent_wider, below_asks, tells_own}
use Rattle.tree_laws.proofs.AskStepLemmas.{voted_peers}
use Rattle.tree_laws.proofs.AskRunLemmas.{sent_from, collects_as_told, edges_asked}
use Rattle.tree_laws.proofs.AnswerStepLemmas.{acting_edges}
use Rattle.tree_laws.proofs.AnswerRunLemmas.{lives_heard, run_answers, answers_are_as_told}
use Rattle.tree_laws.specs.WeightLaws.{EdgeWeighs, LiveWeighs}
use Rattle.tree_laws.proofs.BeyondLemmas.{Settled, settled_all, child_heard}
use Rattle.tree_laws.proofs.WeightLemmas.{weightless, asked_way}
use Rattle.tree_laws.proofs.ForestLemmas as trees
use Rattle.tree_laws.proofs.PrefixLemmas.{so_far, f_at}
use Rattle.tree_laws.proofs.WhyLemmas.{Near}
use Rattle.tree_laws.proofs.AtPart.{at_part}

-- an act that ends a collect at a branch that has changes on it or beyond, or says that there are none
pub data Settling : Act → Type 0 where
  Seals : Settling acts.Seal
  Passes_on : (i : ℕ) → Settling (acts.SealAndPass i)
  Decides : Settling acts.Decide
  Says_none : Settling acts.SayReadOnly

-- it is one off the walk, or of a root
off_or_root : {l : Live} {b : Bool} {a : Act} → Collected l b a → Settling a → (b ≡ false) ⊎ (is_none l.parent ≡ true)
off_or_root (steps.Has_nothing is) settles = inl refl
off_or_root (steps.Is_prepared is) settles = inl refl
off_or_root (steps.Awaits_point is) settles = elim settles [ ]
off_or_root (steps.Passes i none is) settles = inr none
off_or_root (steps.Is_site none is) settles = inr none
off_or_root (steps.Has_no_site none is) settles = elim settles [ ]

none_off : {l : Live} {b : Bool} → Collected l b acts.SayReadOnly → b ≡ false
none_off (steps.Has_nothing is) = refl

nothing_on : {l : Live} {b : Bool} → Collected l b acts.SayReadOnly → is_none (weight l) ≡ true
nothing_on (steps.Has_nothing is) = is

none_at : (i : ℕ) (x : BranchId) (es : List Edge) → es ≡ [] → numbered (map (λ e. e.peer) es) i ≡ Some x → ⊥
none_at i x es none at = nowhere i (subst (λ (ys : List Edge). numbered (map (λ e. e.peer) ys) i ≡ Some x) none at)
  where
    nowhere : (j : ℕ) → numbered (map (λ (e : Edge). e.peer) []) j ≡ Some x → ⊥
    nowhere zero it = absurd cc
    nowhere (suc j) it = absurd cc

no_parent : (o : Option BranchId) (x : BranchId) → is_none o ≡ true → o ≡ Some x → ⊥
no_parent None x none is = absurd cc
no_parent (Some q) x none is = absurd cc

clock_up : (k : NodeState) (input : Input) → k.clock ≤ (heard k input).clock
clock_up k (inputs.Message m) = omega arith
clock_up k (inputs.Call n s) = omega arith
clock_up k (inputs.GiveUp n) = omega arith
clock_up k inputs.Reco = omega arith
clock_up k inputs.Checkpoint = omega arith

scn_met : (k : NodeState) (input : Input) (from to : BranchId) (kind : Kind) (came : Came input from to kind) → came.scn ≤ (heard k input).clock
scn_met k input from to kind came = subst (λ i. came.scn ≤ (heard k i).clock) (sym came.is) (omega arith)

voted_none : (from : BranchId) (v : Vote) → v ≢ votes.Abort → (es : List Edge) → AllByRecursion IsNoAbort es → AllByRecursion IsNoAbort (map (has_voted from v) es)
voted_none from v other es all =
    all_map IsNoAbort (has_voted from v) es (all_weaker IsNoAbort _ (λ e so. cond_both (answers_first from e) (record e { vote = v }) e IsNoAbort (λ first. other) (λ again. so)) es all)

module _ (t : History) (before : List Happening) (lawful : IsLawfulRun (so_far t before)) (u : Turn) (k : NodeState) (may : MayTurn t.places (f_at t before) u k) where
  open at_part t before use {s, f, e, bs, said}

  abbrev k0 : NodeState
  k0 = heard k u.input

  -- ---- a branch that was live

  pub live_in : (at : NodeState) → Near k0 at → (l : Live) → live_at at l.me ≡ Some l → live_at k l.me ≡ Some l
  live_in at near l live = subst (λ (ls : List Live). item_at live_id ls l.me ≡ Some l) (near.lives ∙ lives_heard k u.input) live

  pub born_of : (l : Live) → live_at k l.me ≡ Some l → LiveIs (Began bs) l
  born_of l live = all_found (LiveIs (Began bs)) live_id k.lives l.me l (nodes_name_the_born s lawful u.node k may.up).0 live

  comes : (from to : BranchId) (kind : Kind) → Came u.input from to kind → GoesSo (Began bs) from to kind
  comes from to kind came = came_so (GoesSo (Began bs)) f (messages_are_of_neighbors s lawful) k u.node u.input u.took may.comes from to kind came

  came_ready : (from to : BranchId) → Came u.input from to kinds.Ready → was_sent is_below said to from ≡ true
  came_ready from to came = came_so (ReadyIs said) f (run_answers s lawful).ready k u.node u.input u.took may.comes from to kinds.Ready came

  -- ---- its children

  pub answers_now : (l : Live) → live_at k l.me ≡ Some l → AllByRecursion (EdgeIs e k0.clock) l.edges
  answers_now l live =
      all_found (AnswersAre e k0.clock) live_id k.lives l.me l (risen_answers e k.clock k0.clock (clock_up k u.input) k.lives (answers_are_true s lawful u.node k may.up)) live

  vote_is : (from to : BranchId) (v : Vote) (kind : Kind) → vote_kind v ≡ Some kind → Came u.input from to kind → VoteIs e k0.clock from v
  vote_is from to votes.Prepared kinds.Prepared is came = (came.scn, came_said f e (run_stands s lawful).2 k u.node u.input u.took may.comes from to kinds.Prepared came, scn_met k u.input from to kinds.Prepared came)
  vote_is from to votes.Prepared _ is came = absurd cc
  vote_is from to votes.ReadOnly kinds.ReadOnly is came = came_so (λ x y kind. QuietIs e x kind) f (quiets_are_gone s lawful) k u.node u.input u.took may.comes from to kinds.ReadOnly came
  vote_is from to votes.ReadOnly _ is came = absurd cc
  vote_is from to _ kind is came = tt

  pub voted_edges : (l : Live) (from : BranchId) (v : Vote) (b : Bool) → live_at k l.me ≡ Some l → Answers u.input l from v b → AllByRecursion (EdgeIs e k0.clock) (voted l from v).edges
  voted_edges l from v b live answers =
      all_map (EdgeIs e k0.clock) (has_voted from v) l.edges
      (all_weaker (EdgeIs e k0.clock) _ (λ y is. cond_both (answers_first from y) (record y { vote = v }) y (EdgeIs e k0.clock)
      (λ first. subst (λ c. VoteIs e k0.clock c v) (sym (equal_from_same y.peer from (and_parts (same y.peer from) (is_awaited y.vote) first).0)) (vote_is from l.me v answers.kind answers.is_vote answers.came)) (λ other. is)) l.edges (answers_now l live))

  told_edges : (at : NodeState) → Near k0 at → {l : Live} {b : Bool} {a : Act} → Acting at u.input l b a → AllByRecursion (EdgeTold said l.me l.phase) l.edges
  told_edges at near why =
      acting_edges said (place_at t.places u.node) u.input came_ready at
      (subst (λ (ls : List Live). AllByRecursion (AnswersTold said) ls) (sym (near.lives ∙ lives_heard k u.input)) ((answers_are_as_told s lawful).0 u.node k may.up)) why

  fits : (l : Live) → live_at k l.me ≡ Some l → PhaseFits l.parent l.edges l.phase
  fits l live = all_found (λ x. PhaseFits x.parent x.edges x.phase) live_id k.lives l.me l (phases_fit s lawful u.node k may.up) live

  -- it asked this child
  module _ (path : Option ℕ) (x : BranchId) where
    abbrev Heard_of : BranchId → List Edge → Type 0
    Heard_of me es = ((list_any (λ c. same c x) (map (λ (c : Peer). c.branch) (named_children path 1 es)) ≡ true) × ((j : ℕ) × Has (Send_vote x j) e × (j ≤ k0.clock))) ⊎ (exit e x ≡ Some Quiet)

    asked_at : (l : Live) → live_at k l.me ≡ Some l → l.phase ≢ phases.Working → was_asked said l.me x ≡ true → (i : ℕ) × (numbered (children_of l) i ≡ Some x)
    asked_at l live other asked = (edges_asked s lawful u.node k may.up l live other).1 x asked

    asked_not : (l : Live) → live_at k l.me ≡ Some l → l.phase ≡ phases.Working → was_asked said l.me x ≡ true → ⊥
    asked_not l live working asked =
        let y : Branch = record { live = l; work = work_at k l.me } in
        let found : branch_at k l.me ≡ Some y = ap (with_work k) live in
        let none : was_asked said l.me x ≡ false = (asked_stand_still s lawful u.node k may.up y found).0 working x in
        absurd (cc (asked, none))

    pub kid_heard : (at : NodeState) → Near k0 at → {l : Live} {b : Bool} {a : Act} → Acting at u.input l b a → Settling a → was_asked said l.me x ≡ true → was_sent is_below said l.me x ≡ false → Heard_of l.me l.edges
    kid_heard at near (steps.Asks_down l comment b y ys live begins has) settles asked off = elim settles [ ]
    kid_heard at near (steps.Has_no_children l comment b a live begins none collected) settles asked off = elim (working_or l.phase) [
      | inl working ↦ absurd (asked_not l (live_in at near l live) working asked)
      | inr other ↦ (let there = asked_at l (live_in at near l live) other asked in absurd (none_at there.0 x l.edges none there.1))
    ]
    kid_heard at near (steps.Hears_abort l from b live answers) settles asked off = elim settles [ ]
    kid_heard at near (steps.Waits_on l from v b live answers other some) settles asked off = elim settles [ ]
    kid_heard at near (steps.Hears_last l from v b a live answers other all_so collected) settles asked off =
        let here : live_at k l.me ≡ Some l = live_in at near l live in
        let phase : l.phase ≡ phases.Collecting b = answers.collecting in
        let busy : l.phase ≢ phases.Working = (λ is. absurd (cc (phase, is))) in
        let there = asked_at l here busy asked in
        let no_abort : PhaseFits l.parent l.edges (phases.Collecting b) = subst (PhaseFits l.parent l.edges) phase (fits l here) in
        child_heard e k0.clock said l.me path 1 (voted l from v).edges there.0 x
        (settled_all e k0.clock said l.me l.phase busy (voted l from v).edges (voted_edges l from v b here answers) (told_edges at near (steps.Hears_last l from v b a live answers other all_so collected))
        (voted_none from v other l.edges no_abort.0) (not-true (list_any (λ y. is_awaited y.vote) (voted l from v).edges) all_so))
        (subst (λ ps. numbered ps there.0 ≡ Some x) (sym (voted_peers from v l.edges)) there.1) off
    kid_heard at near (steps.At_point l from a live came is pointed) settles asked off =
        let here : live_at k l.me ≡ Some l = live_in at near l live in
        let busy : l.phase ≢ phases.Working = (λ working. absurd (cc (is, working))) in
        let there = asked_at l here busy asked in
        let fit : PhaseFits l.parent l.edges phases.Ready = subst (PhaseFits l.parent l.edges) is (fits l here) in
        child_heard e k0.clock said l.me path 1 l.edges there.0 x
        (settled_all e k0.clock said l.me l.phase busy l.edges (answers_now l here) (told_edges at near (steps.At_point l from a live came is pointed)) fit.0 fit.1)
        there.1 off

  -- ---- its parent

  -- a Prepare that came tells the way
  came_way : (from to : BranchId) (b : Bool) (comment : List ℕ) → Came u.input from to (kinds.Prepare b comment) → was_sent (tells b) said from to ≡ true
  came_way from to b comment came =
      came_so (λ x y kind. tells b kind ≡ true → was_sent (tells b) said x y ≡ true) f (sent_from (tells b) f.net.packets) k u.node u.input u.took may.comes from to (kinds.Prepare b comment) came (tells_own b comment)

  module _ (ends : List Born) (all : List Post) (known : trees.Known ends all) (wider : (x : Born) → Began bs x → Began ends x) (more : (kind : Kind → Bool) (p c : BranchId) → was_sent kind said p c ≡ true → was_sent kind all p c ≡ true) where
    -- a branch that is known as the parent is the one
    pub parent_as : (l : Live) → live_at k l.me ≡ Some l → (q : BranchId) → IsChild (Began ends) l.me q → l.parent ≡ Some q
    parent_as l live q child =
        let b : LiveIs (Began bs) l = born_of l live in
        let it : b.born ≡ child.0 = trees.same_born ends all known b.born child.0 (wider b.born b.began) child.1 (b.is_me ∙ sym child.2) in
        sym b.is_parent ∙ (ap (λ (z : Born). z.parent) it ∙ child.3)

    parent_told : (l : Live) → live_at k l.me ≡ Some l → (x : BranchId) → was_sent is_below all x l.me ≡ true → l.parent ≡ Some x
    parent_told l live x told = parent_as l live x (known.child x l.me (sent_wider is_below is_prepare below_asks all x l.me told))

    not_both : (x me : BranchId) → was_sent is_above said x me ≡ true → was_sent is_below all x me ≡ true → ⊥
    not_both x me above below =
        let yes : was_sent is_above all x me ≡ true = more is_above x me above in
        let no : was_sent is_above all x me ≡ false = (known.one x me below).0 in
        absurd (cc (yes, no))

    -- off the walk it is not told so
    begins_off : (at : NodeState) → Near k0 at → {comment : List ℕ} {b : Bool} (l : Live) → live_at k l.me ≡ Some l → Collects at u.input l comment b → b ≡ false → (x : BranchId) → was_sent is_below all x l.me ≡ true → ⊥
    begins_off at near l live (steps.By_commit n given call has code writer is) off x told = absurd cc
    begins_off at near {comment = comment} l live (steps.By_prepare from b came working) off x told =
        let child : IsChild (Began bs) l.me from = comes from l.me (kinds.Prepare b comment) came in
        let parent : l.parent ≡ Some from = parent_as l live from (child.0, wider child.0 child.1, child.2, child.3) in
        let it : Some from ≡ Some x = sym parent ∙ parent_told l live x told in
        let here : from ≡ x = cc in
        let above : was_sent is_above said from l.me ≡ true = subst (λ w. was_sent (tells w) said from l.me ≡ true) off (came_way from l.me b comment came) in
        not_both x l.me (subst (λ c. was_sent is_above said c l.me ≡ true) here above) told

    collects_off : (l : Live) → live_at k l.me ≡ Some l → (b : Bool) → l.phase ≡ phases.Collecting b → b ≡ false → (x : BranchId) → was_sent is_below all x l.me ≡ true → ⊥
    collects_off l live b phase off x told =
        let at : l.phase ≡ phases.Collecting false = phase ∙ ap phases.Collecting off in
        not_both x l.me (collects_as_told s lawful u.node k may.up l live false (ap way_of at) x (parent_told l live x told)) told

    -- the parent from which the walk comes sent CommitPoint
    abbrev Above : BranchId → Option BranchId → Type 0
    Above x parent = (parent ≡ Some x) × ((j : ℕ) × Has (Send_vote x j) e × (j ≤ k0.clock))

    pub above_heard : (at : NodeState) → Near k0 at → {l : Live} {b : Bool} {a : Act} → Acting at u.input l b a → Settling a → (x : BranchId) → was_sent is_below all x l.me ≡ true → Above x l.parent
    above_heard at near (steps.Asks_down l comment b y ys live begins has) settles x told = elim settles [ ]
    above_heard at near (steps.Has_no_children l comment b a live begins none collected) settles x told = elim (off_or_root collected settles) [
      | inl off ↦ absurd (begins_off at near l (live_in at near l live) begins off x told)
      | inr root ↦ absurd (no_parent l.parent x root (parent_told l (live_in at near l live) x told))
    ]
    above_heard at near (steps.Hears_abort l from b live answers) settles x told = elim settles [ ]
    above_heard at near (steps.Waits_on l from v b live answers other some) settles x told = elim settles [ ]
    above_heard at near (steps.Hears_last l from v b a live answers other all_so collected) settles x told = elim (off_or_root collected settles) [
      | inl off ↦ absurd (collects_off l (live_in at near l live) b answers.collecting off x told)
      | inr root ↦ absurd (no_parent l.parent x root (parent_told l (live_in at near l live) x told))
    ]
    above_heard at near (steps.At_point l from a live came is pointed) settles x told =
        let here : live_at k l.me ≡ Some l = live_in at near l live in
        let child : IsChild (Began bs) l.me from = comes from l.me kinds.CommitPoint came in
        let parent : l.parent ≡ Some from = parent_as l here from (child.0, wider child.0 child.1, child.2, child.3) in
        let above : l.parent ≡ Some x = parent_told l here x told in
        let it : Some from ≡ Some x = sym parent ∙ above in
        let same_one : from ≡ x = cc in
        let vote : Has (Send_vote from came.scn) e = came_said f e (run_stands s lawful).2 k u.node u.input u.took may.comes from l.me kinds.CommitPoint came in
        (above, (came.scn, subst (λ c. Has (Send_vote c came.scn) e) same_one vote, scn_met k u.input from l.me kinds.CommitPoint came))

    -- ---- a branch that has no changes on it or beyond

    -- the walk does not come to it
    pub none_below : (at : NodeState) → Near k0 at → {l : Live} {b : Bool} → Acting at u.input l b acts.SayReadOnly → (x : BranchId) → was_sent is_below all x l.me ≡ true → ⊥
    none_below at near (steps.Has_no_children l comment b _ live begins none collected) x told = begins_off at near l (live_in at near l live) begins (none_off collected) x told
    none_below at near (steps.Hears_last l from v b _ live answers other all_so collected) x told = collects_off l (live_in at near l live) b answers.collecting (none_off collected) x told
    none_below at near (steps.At_point l from _ live came is pointed) x told = elim pointed [ ]

    -- and its parent told it so
    begins_above : (at : NodeState) → Near k0 at → {comment : List ℕ} {b : Bool} (l : Live) → live_at k l.me ≡ Some l → Collects at u.input l comment b → b ≡ false → (q : BranchId) → l.parent ≡ Some q → was_sent is_above said q l.me ≡ true
    begins_above at near l live (steps.By_commit n given call has code writer is) off q above = absurd cc
    begins_above at near {comment = comment} l live (steps.By_prepare from b came working) off q above =
        let child : IsChild (Began bs) l.me from = comes from l.me (kinds.Prepare b comment) came in
        let it : Some from ≡ Some q = sym (parent_as l live from (child.0, wider child.0 child.1, child.2, child.3)) ∙ above in
        let here : from ≡ q = cc in
        subst (λ c. was_sent is_above said c l.me ≡ true) here (subst (λ w. was_sent (tells w) said from l.me ≡ true) off (came_way from l.me b comment came))

    pub none_above : (at : NodeState) → Near k0 at → {l : Live} {b : Bool} → Acting at u.input l b acts.SayReadOnly → (q : BranchId) → l.parent ≡ Some q → was_sent is_above said q l.me ≡ true
    none_above at near (steps.Has_no_children l comment b _ live begins none collected) q above = begins_above at near l (live_in at near l live) begins (none_off collected) q above
    none_above at near (steps.Hears_last l from v b _ live answers other all_so collected) q above =
        collects_as_told s lawful u.node k may.up l (live_in at near l live) false (ap way_of (answers.collecting ∙ ap phases.Collecting (none_off collected))) q above
    none_above at near (steps.At_point l from _ live came is pointed) q above = elim pointed [ ]

  -- ---- the children of such a branch

  module _ (weigh : AllByRecursion (LiveWeighs e said) k.lives) (x : BranchId) where
    -- a child that voted has a weight
    child_quiet : (me : BranchId) (es : List Edge) (i : ℕ) → AllByRecursion (Settled e k0.clock said me) es → AllByRecursion (EdgeWeighs e said me) es → AllByRecursion (λ y. y.weight ≡ None) es → numbered (map (λ y. y.peer) es) i ≡ Some x
        → was_sent is_below said me x ≡ false → was_sent is_above said me x ≡ true → exit e x ≡ Some Quiet
    child_quiet me es zero all weighs none at off above = absurd cc
    child_quiet me [] (suc i) all weighs none at off above = absurd cc
    child_quiet me (y ∷ es) (suc zero) all weighs none at off above =
        let it : Some y.peer ≡ Some x = at in
        let here : y.peer ≡ x = cc in
        elim all.0 [
          | inl voted ↦ absurd (weighs.0 voted.1.0 voted.1.1 (subst (λ b. was_sent is_above said me b ≡ true) (sym here) above) none.0)
          | inr rest ↦ elim rest [
            | inl quiet ↦ subst (λ b. exit e b ≡ Some Quiet) here quiet
            | inr below ↦ (let on : was_sent is_below said me x ≡ true = subst (λ b. was_sent is_below said me b ≡ true) here below in absurd (cc (on, off)))
          ]
        ]
    child_quiet me (y ∷ es) (suc (suc i)) all weighs none at off above = child_quiet me es (suc i) all.1 weighs.1 none.1 at off above

    weighs_at : (l : Live) → live_at k l.me ≡ Some l → AllByRecursion (EdgeWeighs e said l.me) l.edges
    weighs_at l live = all_found (LiveWeighs e said) live_id k.lives l.me l weigh live

    voted_weighs : (me from : BranchId) (v : Vote) (es : List Edge) → AllByRecursion (EdgeWeighs e said me) es → AllByRecursion (EdgeWeighs e said me) (map (has_voted from v) es)
    voted_weighs me from v es all =
        all_map (EdgeWeighs e said me) (has_voted from v) es (all_weaker (EdgeWeighs e said me) _ (λ y is. cond_both (answers_first from y) (record y { vote = v }) y (EdgeWeighs e said me) (λ first. is) (λ again. is)) es all)

    pub kid_quiet : (at : NodeState) → Near k0 at → {l : Live} {b : Bool} → Acting at u.input l b acts.SayReadOnly → was_asked said l.me x ≡ true → was_sent is_below said l.me x ≡ false → exit e x ≡ Some Quiet
    kid_quiet at near (steps.Has_no_children l comment b _ live begins none collected) asked off = elim (working_or l.phase) [
      | inl working ↦ absurd (asked_not None x l (live_in at near l live) working asked)
      | inr other ↦ (let there = asked_at None x l (live_in at near l live) other asked in absurd (none_at there.0 x l.edges none there.1))
    ]
    kid_quiet at near (steps.Hears_last l from v b _ live answers other all_so collected) asked off =
        let here : live_at k l.me ≡ Some l = live_in at near l live in
        let phase : l.phase ≡ phases.Collecting b = answers.collecting in
        let busy : l.phase ≢ phases.Working = (λ is. absurd (cc (phase, is))) in
        let there = asked_at None x l here busy asked in
        let no_abort : PhaseFits l.parent l.edges (phases.Collecting b) = subst (PhaseFits l.parent l.edges) phase (fits l here) in
        child_quiet l.me (voted l from v).edges there.0
        (settled_all e k0.clock said l.me l.phase busy (voted l from v).edges (voted_edges l from v b here answers) (told_edges at near (steps.Hears_last l from v b acts.SayReadOnly live answers other all_so collected))
        (voted_none from v other l.edges no_abort.0) (not-true (list_any (λ y. is_awaited y.vote) (voted l from v).edges) all_so))
        (voted_weighs l.me from v l.edges (weighs_at l here)) (weightless (voted l from v) (nothing_on collected)) (subst (λ ps. numbered ps there.0 ≡ Some x) (sym (voted_peers from v l.edges)) there.1) off
        (asked_way said l.me x asked off)
    kid_quiet at near (steps.At_point l from _ live came is pointed) asked off = elim pointed [ ]
