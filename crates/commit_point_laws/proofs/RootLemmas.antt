-- In every lawful run a live root leaves in a turn for a reason. Where its collect found no changes, each child that it asked
-- is gone without changes, and the walk went to none.
use Rattle.std.proofs.Common.{◌≡◌, ◌≢◌, ℕ, ◌&&◌, ◌||◌, Bool, true, false, List, [], ◌∷◌, ◌++◌, map, is_none, Option, Some, None, inl, inr, refl, sym, ap, subst, ◌∙◌}
use Rattle.std.specs.List.{AllByRecursion, list_any}
use Rattle.tran_ids.proofs.BranchLemmas.{same_from_equal}
use Rattle.session_tree.specs.Live.{children_of}
use Rattle.session_tree.specs.Tree.{weight, step}
use Rattle.session_tree.specs.declared.act.Walk.TheVariants as walks
use Rattle.agreement.specs.Events.{Quiet, Send_vote, exit, Has}
use Rattle.node_rules.specs.Data.{BranchId, Edge, Kind, Live}
use Rattle.node_rules.specs.Data.acts
use Rattle.node_rules.specs.Data.kinds
use Rattle.node_rules.specs.Data.phases
use Rattle.node_rules.specs.Data.votes
use Rattle.node_rules.specs.Words.{same, item_at, numbered}
use Rattle.node_rules.specs.Inputs.{Came, IsCall}
use Rattle.node_rules.specs.NodeState.{NodeState, Branch, TurnDraft, live_id, live_at, branch_at, work_at, with_work, to_each}
use Rattle.node_rules.specs.Prepare.{answers_first, is_awaited, voted}
use Rattle.node_rules.specs.Turn.{turn_of, heard, draft_of}
use Rattle.node_rules.proofs.Steps as steps
use Rattle.node_rules.proofs.Steps.{Acting, Collected, Collects}
use Rattle.run_rules.specs.Births.{births_of}
use Rattle.run_base_laws.specs.BirthLaws.{Began, IsChild, GoesSo}
use Rattle.run_rules.specs.Data.{Turn, Happening}
use Rattle.run_rules.specs.Data.happenings
use Rattle.run_base_laws.specs.EventLaws.{EachEventFrom}
use Rattle.run_rules.specs.Facts.{place_at}
use Rattle.run_base_laws.specs.FreezeLaws.{was_asked}
use Rattle.run_rules.specs.Lawful.{MayHappen, MayTurn, History, IsLawfulRun}
use Rattle.run_rules.specs.Trail.{is_prepare}
use Rattle.run_branch_laws.specs.WalkLaws.{is_below, is_above, was_sent}
use Rattle.run_base_laws.proofs.BirthRunLemmas.{messages_are_of_neighbors}
use Rattle.run_base_laws.proofs.BirthsStandLemmas.{came_so}
use Rattle.run_branch_laws.proofs.FreezeLemmas.{working_or}
use Rattle.run_branch_laws.proofs.FreezeRunLemmas.{asked_stand_still}
use Rattle.run_base_laws.proofs.KidLemmas.{child_parent, above_of}
use Rattle.run_base_laws.proofs.LawfulLemmas.{serves, turn_of_node}
use Rattle.run_base_laws.proofs.OwnLemmas.{all_found}
use Rattle.run_base_laws.proofs.SaidPostLemmas.{posts_back}
use Rattle.tree_laws.specs.AskLaws.{way_of}
use Rattle.tree_laws.specs.WeightLaws.{EdgeWeighs, LiveWeighs, NodesWeigh}
use Rattle.tree_laws.proofs.AnswerRunLemmas.{lives_heard}
use Rattle.tree_laws.proofs.AskLemmas.{sent_new, sent_wider, below_asks, voted_step}
use Rattle.tree_laws.proofs.AskRunLemmas.{edges_asked, live_told, paths_are_told}
use Rattle.tree_laws.proofs.AskStepLemmas.{voted_peers}
use Rattle.tree_laws.proofs.PrefixLemmas.{so_far, f_at, e_at, each_prefix}
use Rattle.tree_laws.proofs.SettleLemmas.{born_of, live_in}
use Rattle.tree_laws.proofs.VoterRunLemmas.{voters_weigh}
use Rattle.tree_laws.proofs.WeightLemmas.{weightless, asked_way}
use Rattle.tree_laws.proofs.WhyLemmas.{Near}
use Rattle.tree_laws.proofs.FrozenLemmas.{edge_to, path_down}
use Rattle.commit_laws.proofs.NetLemmas.{numbered_all}
use Rattle.commit_point_laws.specs.RootLaws.{FoundNothing, is_rollback, RootReason, Seals, Decides, Finishes, Hears_abort, Gets_rollback, Rolls_back, Gives_up, RootLeaves, TurnsLeaveRoots, RootsHaveReasons, Ends_reading}
use Rattle.commit_point_laws.proofs.OverLemmas as over
use Rattle.commit_point_laws.proofs.OverLemmas.{EdgeOver, edges_over}
use Rattle.commit_point_laws.proofs.PassLemmas.{none_at}
use Rattle.commit_point_laws.proofs.RootStepLemmas.{StepReason, Wrote_seal, Wrote_decision, Found_none, Said_none, Abandons, Told_rollback, Rolls, Reads, Gives, root_leaves, CallsOwn}
use Rattle.tree_laws.proofs.StepWeightLemmas.{nowhere_weighs}
use Rattle.tree_laws.proofs.AtPart.{at_part}
use Rattle.run_base_laws.proofs.RootLemmas.{roots_are_of_sessions}
use Rattle.node_rules.specs.Sessions.{session_at}
use Rattle.node_rules.specs.Data.stmts

-- ---- acts

finish_nowhere : {l : Live} {b : Bool} → Collected l b acts.Finish → (b ≡ true) × (step l ≡ walks.Nowhere)
finish_nowhere (steps.Has_no_site none is) = (refl, is)

none_off : {l : Live} {b : Bool} → Collected l b acts.SayReadOnly → b ≡ false
none_off (steps.Has_nothing is) = refl

is_none_of : {A : Type 0} (o : Option A) → o ≡ None → is_none o ≡ true
is_none_of None is = refl
is_none_of (Some a) is = absurd cc

-- ---- messages

-- each of these is told
each_sent : (kind : Kind → Bool) (me : BranchId) (x : Kind) (cs : List BranchId) (c : BranchId) → kind x ≡ true → list_any (λ b. same b c) cs ≡ true → was_sent kind (to_each me x cs) me c ≡ true
each_sent kind me x [] c is there = absurd cc
each_sent kind me x (b ∷ cs) c is there = by (same b c) refl there (each_sent kind me x cs c is)
  where
    three : (p q r s : Bool) → p ≡ true → q ≡ true → r ≡ true → (((p && q) && r) || s) ≡ true
    three true true true s i j k = refl
    three true true false s i j k = absurd cc
    three true false r s i j k = absurd cc
    three false q r s i j k = absurd cc

    more : (p s : Bool) → s ≡ true → (p || s) ≡ true
    more true s i = refl
    more false s i = i

    by : (q : Bool) → same b c ≡ q → (q || list_any (λ y. same y c) cs) ≡ true → (list_any (λ y. same y c) cs ≡ true → was_sent kind (to_each me x cs) me c ≡ true) → was_sent kind (to_each me x (b ∷ cs)) me c ≡ true
    by true here found rest = three (same me me) (same b c) (kind x) (was_sent kind (to_each me x cs) me c) (same_from_equal me me refl) here is
    by false here found rest = more ((same me me && same b c) && kind x) (was_sent kind (to_each me x cs) me c) (rest found)

-- a child whose answer was waited for
first_there : (from : BranchId) (es : List Edge) → list_any (answers_first from) es ≡ true → list_any (λ c. same c from) (map (λ (e : Edge). e.peer) es) ≡ true
first_there from [] is = absurd cc
first_there from (e ∷ es) is = by (same e.peer from) (is_awaited e.vote) is (first_there from es)
  where
    by : (p q : Bool) → ((p && q) || list_any (answers_first from) es) ≡ true → (list_any (answers_first from) es ≡ true → list_any (λ c. same c from) (map (λ (x : Edge). x.peer) es) ≡ true) → (p || list_any (λ c. same c from) (map (λ (x : Edge). x.peer) es)) ≡ true
    by true q found rest = refl
    by false q found rest = rest found

module _ (t : History) (before : List Happening) (lawful : IsLawfulRun (so_far t before)) (u : Turn) (k : NodeState) (may : MayTurn t.places (f_at t before) u k) where
  open at_part t before use {s, f, e, said}

  abbrev k0 : NodeState
  k0 = heard k u.input

  asked_none : (l : Live) → live_at k l.me ≡ Some l → l.edges ≡ [] → (c : BranchId) → was_asked said l.me c ≡ true → ⊥
  asked_none l live none c asked = elim (working_or l.phase) [
    | inl working ↦ (let y : Branch = record { live = l; work = work_at k l.me } in
        let found : branch_at k l.me ≡ Some y = ap (with_work k) live in
        let no : was_asked said l.me c ≡ false = (asked_stand_still s lawful u.node k may.up y found).0 working c in
        absurd (cc (asked, no)))
    | inr other ↦ (let there = (edges_asked s lawful u.node k may.up l live other).1 c asked in none_at there.0 c l.edges none there.1)
  ]

  not_told : (me c : BranchId) → (was_sent is_below said me c ≡ true → ⊥) → was_sent is_below said me c ≡ false
  not_told me c never = by (was_sent is_below said me c) refl
    where
      by : (q : Bool) → was_sent is_below said me c ≡ q → q ≡ false
      by false is = refl
      by true is = absurd (never is)

  -- a root that finishes
  module _ (weigh : AllByRecursion (LiveWeighs e said) k.lives) where
    finds_nothing : (at : NodeState) → Near k0 at → {l : Live} {b : Bool} → Acting at u.input l b acts.Finish → FoundNothing said e l.me
    finds_nothing at near (steps.Has_no_children l comment b _ live begins none collected) =
        let here : live_at k l.me ≡ Some l = live_in t before lawful u k may at near l live in
        record {
          quiet = λ c asked. absurd (asked_none l here none c asked);
          off = λ c. not_told l.me c (λ told. asked_none l here none c (sent_wider is_below is_prepare below_asks said l.me c told));
        }
    finds_nothing at near (steps.Hears_last l from v b _ live answers other all_so collected) =
        let here : live_at k l.me ≡ Some l = live_in t before lawful u k may at near l live in
        let phase : l.phase ≡ phases.Collecting b = answers.collecting in
        let busy : l.phase ≢ phases.Working = (λ is. absurd (cc (phase, is))) in
        let nowhere : step l ≡ walks.Nowhere = sym (voted_step l from v) ∙ (finish_nowhere collected).1 in
        let off : (c : BranchId) → was_sent is_below said l.me c ≡ false
        = (λ c. not_told l.me c (λ told. (let there = (paths_are_told s lawful u.node k may.up l here busy).0 c told in
        let down : step l ≡ walks.Down there.0 = path_down l.phase (step l) there.0 there.1 in
        absurd (cc (nowhere, down))))) in
        let acting : Acting at u.input (voted l from v) b acts.Finish = steps.Hears_last l from v b acts.Finish live answers other all_so collected in
        let all : AllByRecursion (EdgeOver e said l.me) (voted l from v).edges = edges_over t before lawful u k may at near acting over.Finishes in
        let light : AllByRecursion (λ y. y.weight ≡ None) l.edges = weightless l (is_none_of (weight l) (nowhere_weighs l nowhere)) in
        let weighs : AllByRecursion (EdgeWeighs e said l.me) l.edges = all_found (LiveWeighs e said) live_id k.lives l.me l weigh here in
        record {
          quiet = λ c asked. (let there = (edges_asked s lawful u.node k may.up l here busy).1 c asked in
              let old = edge_to l.edges there.0 c there.1 in
              let new = edge_to (voted l from v).edges there.0 c (ap (λ ps. numbered ps there.0) (voted_peers from v l.edges) ∙ there.1) in
              elim (numbered_all (EdgeOver e said l.me) (voted l from v).edges there.0 new.0 all new.1) [
                | inl vote ↦ absurd (numbered_all (EdgeWeighs e said l.me) l.edges there.0 old.0 weighs old.1 vote.0 (subst (λ b. Has (Send_vote b vote.0) e) (new.2 ∙ sym old.2) vote.1)
                    (subst (λ b. was_sent is_above said l.me b ≡ true) (sym old.2) (asked_way said l.me c asked (off c))) (numbered_all (λ (y : Edge). y.weight ≡ None) l.edges there.0 old.0 light old.1))
                | inr rest ↦ elim rest [
                  | inl quiet ↦ subst (λ b. exit e b ≡ Some Quiet) new.2 quiet
                  | inr ready ↦ (let yes : was_sent is_below said l.me c ≡ true = subst (λ b. was_sent is_below said l.me b ≡ true) new.2 ready.1 in let no = off c in absurd (cc (yes, no)))
                ]
              ]);
          off = off;
        }
    finds_nothing at near (steps.At_point l from _ live came is pointed) = elim pointed [ ]

  -- a root does not say ReadOnly
  begins_on : (at : NodeState) {comment : List ℕ} {b : Bool} (l : Live) → live_at k l.me ≡ Some l → l.parent ≡ None → Collects at u.input l comment b → b ≡ false → ⊥
  begins_on at l live top (steps.By_commit n given call has code writer is) off = absurd cc
  begins_on at {comment = comment} l live top (steps.By_prepare from b came working) off =
      let child : IsChild (Began (births_of s)) l.me from = came_so (GoesSo (Began (births_of s))) f (messages_are_of_neighbors s lawful) k u.node u.input u.took may.comes from l.me (kinds.Prepare b comment) came in
      let parent : l.parent ≡ Some from = above_of (births_of s) l (born_of t before lawful u k may l live) from (child_parent (births_of s) l.me from child) in
      absurd (cc (top, parent))

  -- the parent of the branch of an act
  not_quiet : (at : NodeState) → Near k0 at → {l : Live} {b : Bool} → Acting at u.input l b acts.SayReadOnly → l.parent ≡ None → ⊥
  not_quiet at near (steps.Has_no_children l comment b _ live begins none collected) top = begins_on at l (live_in t before lawful u k may at near l live) top begins (none_off collected)
  not_quiet at near (steps.Hears_last l from v b _ live answers other all_so collected) top =
      (live_told s lawful u.node k may.up l (live_in t before lawful u k may at near l live)).root top (ap way_of (answers.collecting ∙ ap phases.Collecting (none_off collected)))
  not_quiet at near (steps.At_point l from _ live came is pointed) top = elim pointed [ ]

  -- a child's Abort
  aborts : (at : NodeState) → {l : Live} {b : Bool} → Acting at u.input l b acts.Abandon → (from : BranchId) × Came u.input from l.me kinds.Abort × (list_any (λ c. same c from) (children_of l) ≡ true)
  aborts at (steps.Hears_abort l from b live answers) =
      let it : Some kinds.Abort ≡ Some answers.kind = answers.is_vote in
      let kind : answers.kind ≡ kinds.Abort = cc in (
        from,
        subst (Came u.input from l.me) kind answers.came,
        ap (list_any (λ c. same c from)) (voted_peers from votes.Abort l.edges) ∙ first_there from l.edges answers.first,
      )
  aborts at (steps.Has_no_children l comment b _ live begins none collected) = elim collected [ ]
  aborts at (steps.Hears_last l from v b _ live answers other all_so collected) = elim collected [ ]
  aborts at (steps.At_point l from _ live came is pointed) = elim pointed [ ]

  -- ---- the turn

  abbrev d : TurnDraft
  d = draft_of (place_at t.places u.node) k u.input

  module _ (weigh : AllByRecursion (LiveWeighs e said) k.lives) (b : BranchId) (l : Live) (live : live_at k b ≡ Some l) (top : l.parent ≡ None) where
    -- the branch of an act is the root
    acting_top : (at : NodeState) → Near k0 at → {x : Live} {below : Bool} {a : _} → Acting at u.input x below a → x.me ≡ b → x.parent ≡ None
    acting_top at near why me = by why me
      where
        same_one : (y : Live) → live_at at y.me ≡ Some y → y.me ≡ b → y.parent ≡ None
        same_one y found is =
            let here : live_at k y.me ≡ Some y = live_in t before lawful u k may at near y found in
            let there : live_at k b ≡ Some y = subst (λ i. live_at k i ≡ Some y) is here in
            let both : Some y ≡ Some l = sym there ∙ live in
            let it : y ≡ l = cc in
            ap (λ (z : Live). z.parent) it ∙ top

        by : {x : Live} {below : Bool} {a : _} → Acting at u.input x below a → x.me ≡ b → x.parent ≡ None
        by (steps.Asks_down y comment w z zs found begins has) is = same_one y found is
        by (steps.Has_no_children y comment w a found begins none collected) is = same_one y found is
        by (steps.Hears_abort y from w found answers) is = same_one y found is
        by (steps.Waits_on y from v w found answers other some) is = same_one y found is
        by (steps.Hears_last y from v w a found answers other all_so collected) is = same_one y found is
        by (steps.At_point y from a found came is_ready pointed) is = same_one y found is

    by_step : StepReason k0 u.input b d → RootReason said e u.input b l.read_at d.wrote d.says
    by_step (Wrote_seal r is me) = Seals r is me
    by_step (Wrote_decision r is me) = Decides r is me
    by_step (Found_none x below acts_in me) = Finishes (subst (FoundNothing said e) me (finds_nothing weigh acts_in.here acts_in.near acts_in.acting))
    by_step (Said_none x below acts_in me) = absurd (not_quiet acts_in.here acts_in.near acts_in.acting (acting_top acts_in.here acts_in.near acts_in.acting me))
    by_step (Abandons x below acts_in me is) =
        let it = aborts acts_in.here acts_in.acting in
        let told : was_sent is_rollback d.says x.me it.0 ≡ true
        = subst (λ xs. was_sent is_rollback xs x.me it.0 ≡ true) (sym is) (sent_new is_rollback _ (to_each x.me kinds.Rollback (children_of x)) x.me it.0 (each_sent is_rollback x.me kinds.Rollback (children_of x) it.0 refl it.2)) in
        Hears_abort it.0 (subst (λ i. Came u.input it.0 i kinds.Abort) me it.1) (subst (λ i. was_sent is_rollback d.says i it.0 ≡ true) me told)
    by_step (Told_rollback from came) = Gets_rollback from came
    by_step (Rolls n call) = Rolls_back n call
    by_step (Reads x comment scn call there reads) =
        let here : live_at k b ≡ Some x = subst (λ (ls : List Live). item_at live_id ls b ≡ Some x) (lives_heard k u.input) there in
        let both : Some x ≡ Some l = sym here ∙ live in
        let it : x ≡ l = cc in
        Ends_reading comment scn call (sym (ap (λ (y : Live). y.read_at) it) ∙ reads)
    by_step (Gives n gives) = Gives_up n gives

    -- a COMMIT comes to the root of its session
    calls_own : CallsOwn (place_at t.places u.node) k0 u.input b k0
    calls_own n given x call has found =
        let same : k0 ≡ k = ap (heard k) call in
        let root : (session_at k.sessions n).root ≡ Some x.me = subst (λ (j : NodeState). (session_at j.sessions n).root ≡ Some x.me) same has in
        let at : x.me.session ≡ n = (roots_are_of_sessions s lawful u.node k may.up n x.me root).0 in
        (given, subst (λ m. IsCall u.input m (stmts.Commit given)) (sym at) call)

    root_turn : live_at d.after b ≡ None → RootReason said e u.input b l.read_at d.wrote d.says
    root_turn none =
        let there : live_at k0 b ≡ Some l = subst (λ (ls : List Live). item_at live_id ls b ≡ Some l) (sym (lives_heard k u.input)) live in
        by_step (root_leaves (place_at t.places u.node) k0 u.input b (serves t.places f u k may).step (λ no. record { lives = refl; clock = refl }) calls_own (l, there, top) none)

  pub turn_leaves : AllByRecursion (LiveWeighs e said) k.lives → RootLeaves said e u.input k (turn_of (place_at t.places u.node) k u.input)
  unfolding turn_of
  turn_leaves weigh b l live top none = subst (λ xs. RootReason said e u.input b l.read_at d.wrote xs) (sym (posts_back d.after.clock d.says)) (root_turn weigh b l live top none)

module _ (t : History) where
  leaves_so : (before : List Happening) (h : Happening) (rest : List Happening) → before ++ h ∷ rest ≡ t.trace → IsLawfulRun (so_far t before) → MayHappen t.places t.commands (f_at t before) h
      → EachEventFrom NodesWeigh t.places t.commands (f_at t before) (e_at t before) (h ∷ rest) → TurnsLeaveRoots t.places (f_at t before) (e_at t before) h
  leaves_so before (happenings.Turn u) rest is lawful may laws = λ k up. turn_leaves t before lawful u k (turn_of_node t.places (f_at t before) u k t.commands may up) (laws.0 u.node k up)
  leaves_so before _ rest is lawful may laws = tt

pub roots_have_reasons : RootsHaveReasons
roots_have_reasons t whole = each_prefix t NodesWeigh (TurnsLeaveRoots t.places) (leaves_so t) whole (voters_weigh t whole)
