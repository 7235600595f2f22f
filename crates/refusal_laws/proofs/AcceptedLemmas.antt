-- In every lawful run each accepted run of a statement meets nobody: no key that it examines is in doubt, and no key that it writes was
-- changed by another live branch.
use Rattle.std.proofs.Common.{◌≡◌, ℕ, ◌==◌, ◌⊎◌, Bool, true, false, if◌then◌else◌, List, ◌∷◌, ◌++◌, slice_get, is_none, Option, Some, None, inl, inr, refl, sym, ap, subst, ◌∙◌, true≢false, nat_lt, ◌+◌}
use Rattle.row_store.specs.Own.{changes_length}
use Rattle.dtx_values.specs.Limits.{changes_limit}
use Rattle.std.specs.List.{list_any}
use Rattle.std.proofs.lemmas.Bool.{and_parts, eqb-true}
use Rattle.tran_ids.proofs.ListedLemmas.{put_found}
use Rattle.agreement.specs.Events.{Exit}
use Rattle.row_locks.specs.Held.{hold_on}
use Rattle.node_rules.specs.Data.{Value, Answer, BranchId, Change, Done, Live, Place, Input, Keyed, Stmt}
use Rattle.node_rules.specs.Data.inputs
use Rattle.node_rules.specs.Data.tasks
use Rattle.node_rules.specs.Meaning.{Changes, examined, meant, written}
use Rattle.node_rules.specs.Names.{ref_of}
use Rattle.node_rules.specs.NodeState.{NodeState, Branch, TurnDraft, live_id, live_at}
use Rattle.node_rules.specs.Prepare.{own_changes}
use Rattle.node_rules.specs.Rows.{same_value}
use Rattle.node_rules.specs.Statement.{StmtOutcome, ran, after_run, answer_of_run, reads_at, read_by, view}
use Rattle.node_rules.specs.Turn.{turn_of, heard, draft_of, output_of}
use Rattle.node_rules.specs.Words.{same}
use Rattle.node_rules.proofs.StandLemmas.{live_so}
use Rattle.node_rules.proofs.Steps.{Asked, By_call, By_exec}
use Rattle.run_rules.specs.Branches.{Run, is_live, own_at, read_at_at}
use Rattle.run_rules.specs.Data.{Turn, Happening}
use Rattle.run_rules.specs.Data.happenings
use Rattle.run_rules.specs.Each.{AtEach}
use Rattle.run_rules.specs.Facts.{node_at, served, outcome_at}
use Rattle.run_rules.specs.Lawful.{MayHappen, History, IsLawfulRun, facts_at}
use Rattle.run_rules.specs.Runs.{asks, run_by, run_in, answered_by, is_accepted, meaning, view_by, keys_in_doubt, locked_at}
use Rattle.run_rules.specs.Trail.{with_begun}
use Rattle.run_claims.specs.Meanings.{IsInDoubt}
use Rattle.run_base_laws.proofs.EventsStandLemmas.{ids_name_their_node}
use Rattle.run_base_laws.proofs.OwnLemmas.{all_found}
use Rattle.run_key_laws.proofs.KeyRunLemmas.{keys_are_held}
use Rattle.run_key_laws.proofs.RanLemmas.{runs_at_table}
use Rattle.tree_laws.proofs.AtTurn.{at_turn}
use Rattle.tree_laws.proofs.PrefixLemmas.{so_far, f_at, one_on}
use Rattle.tree_laws.proofs.TimeLemmas.{Part, part_lawful, part_of}
use Rattle.tree_trail_laws.specs.OwnLaws.{TracesRoots}
use Rattle.tree_trail_laws.specs.SeenLaws.{TracesOwns}
use Rattle.tree_trail_laws.specs.SeenLaws as seen
use Rattle.tree_trail_laws.proofs.AtTrail.{at_trail}
use Rattle.tree_trail_laws.proofs.ChildTurnLemmas as kids
use Rattle.tree_trail_laws.proofs.LowerLivesLemmas.{bool_cases}
use Rattle.tree_trail_laws.proofs.MomentLemmas.{tr_at, at_moment, by_moment}
use Rattle.tree_trail_laws.proofs.OwnAfterLemmas as after
use Rattle.tree_trail_laws.proofs.OwnAfterLemmas.{all_at}
use Rattle.tree_trail_laws.proofs.OwnAskLemmas.{none_asked, again_asked, none_runs}
use Rattle.tree_trail_laws.proofs.OwnFollowLemmas.{owns_at}
use Rattle.tree_trail_laws.proofs.OwnKnowLemmas.{from_owns, from_book, heard_book}
use Rattle.tree_trail_laws.proofs.OwnRunLemmas.{IsOfBook, of_book}
use Rattle.tree_trail_laws.proofs.OwnStepLemmas.{HasRun, AcceptsNone, is_plain, From, Itself, Begun, Counted, turns_on}
use Rattle.tree_trail_laws.proofs.OwnTurnLemmas as turns
use Rattle.tree_trail_laws.proofs.OwnTurnLemmas.{Owns}
use Rattle.tree_trail_laws.proofs.SeenRunLemmas.{all_is_seen}
use Rattle.tree_trail_laws.proofs.SpecialWorkLemmas.{special_turn}
use Rattle.tree_trail_laws.proofs.TopFollowLemmas.{tops_follow}
use Rattle.refusal_laws.specs.AcceptedLaws.{AcceptedMeetsNobody, AcceptedRunsMeetNobody, IsChangedByAnother, MeetsNobody}
use Rattle.refusal_laws.proofs.LiveLemmas.{holds_changed}
use Rattle.refusal_laws.proofs.ViewLemmas.{HasMet, has_met}

-- ---- a node at which a statement runs

-- its locks are those from before
from_locks : (p : Place) (input : Input) {k j : NodeState} → From p input k j → k.locks ≡ j.locks
from_locks p input (Itself k) = refl
from_locks p input (Begun n s read_at call begins new from) = from_locks p input from
from_locks p input (Counted n s call counts from) = from_locks p input from

heard_locks : (k : NodeState) (input : Input) → (heard k input).locks ≡ k.locks
heard_locks k (inputs.Message m) = refl
heard_locks k (inputs.Call n s) = refl
heard_locks k (inputs.GiveUp n) = refl
heard_locks k inputs.Reco = refl
heard_locks k inputs.Checkpoint = refl

-- a branch that runs a statement reads as it stands at the node
asked_reads : {k : NodeState} {input : Input} {x : Branch} {s : Stmt} {given : ℕ} → Asked k input x s given → reads_at k x.live.me ≡ x.live.read_at
asked_reads {k = k} (By_call n x s call rows has code live may) = ap read_by (live_so k x.live.me x live)
asked_reads {k = k} (By_exec x from call given advice s came live runs) = ap read_by (live_so k x.live.me x live)

pub no_exit : (o : Option Exit) → is_none o ≡ true → o ≡ None
no_exit None is = refl
no_exit (Some x) is = absurd cc

-- ---- what is told of roots and of changes

module _ (t : History) (whole : IsLawfulRun t) where
  pub owns_each : AtEach (λ places f tr h. TracesOwns f tr) t
  owns_each = by_moment t (λ places f tr h. TracesOwns f tr) (λ hs h rest is. (at_moment t (λ places f tr x. seen.Sees f tr) (all_is_seen t whole) hs h rest is).owns)

module _ (t : History) (whole : IsLawfulRun t) where
  roots_so : (hs : List Happening) → Part t whole hs → TracesRoots t.places (f_at t hs) (tr_at t hs)
  roots_so hs part =
      let it = tops_follow (so_far t hs) (part_lawful t whole hs part) (owns_each (so_far t hs) (part_lawful t whole hs part)) in
      record { tops = it.0; roots = it.1; next = it.2 }

  pub roots_each : AtEach (λ places f tr h. TracesRoots places f tr) t
  roots_each = by_moment t (λ places f tr h. TracesRoots places f tr) (λ hs h rest is. roots_so hs (part_of t whole hs h rest is))

  module _ (hs : List Happening) (u : Turn) (more : List Happening) (is : hs ++ happenings.Turn u ∷ more ≡ t.trace) (uncut : u.cut ≡ false) where
    open at_turn t whole hs u more is use {s as s0, s_after as s1, lawful_after as lawful1, f as f0, p}
    open at_trail t hs u use {tr as tr0, begun_tr as trb}

    abbrev part : Part t whole hs
    part = part_of t whole hs (happenings.Turn u) more is

    abbrev roots : TracesRoots t.places (f_at t hs) (tr_at t hs)
    roots = roots_so hs part

    abbrev now : Owns (f_at t hs) (tr_at t hs)
    now = owns_at t whole roots_each hs part

    abbrev lawful0 : IsLawfulRun s0
    lawful0 = part_lawful t whole hs part

    abbrev may : MayHappen t.places t.commands f0 (happenings.Turn u)
    may = turns.may t whole hs u more is roots now

    abbrev k : NodeState
    k = (turns.may t whole hs u more is roots now).0

    abbrev k1 : NodeState
    k1 = heard k u.input

    abbrev d : TurnDraft
    d = draft_of p k u.input

    outcome_is : outcome_at t.places f0 u ≡ Some (output_of d)
    unfolding turn_of
    outcome_is = ap (served p u.input) may.1.up

    -- no statement runs by what is told, or its answer is a refusal
    abbrev Unrun : Type 0
    Unrun = (run_in f0 trb u ≡ None) ⊎ (is_accepted (answered_by (outcome_at t.places f0 u)) ≡ false)

    unrun : AcceptsNone k1 u.input d → Unrun
    unrun (inl none) = inl (none_runs f0 trb u (none_asked trb u.node u.input none))
    unrun (inr (inl not_so)) = inr (ap (λ o. is_accepted (answered_by o)) outcome_is ∙ not_so)
    unrun (inr (inr again)) =
        let x : Branch = again.0 in
        let came = again.6 in
        let it = turns.old_known t whole hs u more is roots now x.live.me x.live (live_so k1 x.live.me x again.7) in
        inl (none_runs f0 trb u (again_asked trb u.node k1 u.input again it.seen it.at
        (it.taken (turns.exec_below t whole hs u more is roots now uncut again.1 x.live.me again.2 (tasks.Run again.3 again.4 again.5) came x.live (live_so k1 x.live.me x again.7) it))))

    -- a statement ran in the turn, or none was accepted
    ran_or_not : HasRun p u.input k1 d ⊎ Unrun
    ran_or_not = bool_cases (is_plain u.input) _
        (λ plain. elim (turns_on p u.input (turns.step t whole hs u more is roots now) plain) [ inl has ↦ inl has | inr rests ↦ inr (unrun rests.accepts) ])
        (λ special. elim (special_turn t whole hs u more is roots now uncut special) [ inl has ↦ inl has | inr traces ↦ inr traces.1 ])

    module _ (has : HasRun p u.input k1 d) where
      open has use {at as j, branch as x}

      abbrev b : BranchId
      b = x.live.me

      abbrev q : StmtOutcome
      q = ran p j b has.statement has.table

      abbrev y : Live
      y = after_run x.live q

      runs_on : live_at d.after b ≡ Some y
      runs_on = ap (λ e. live_at e.after b) has.is ∙ put_found live_id j.lives y

      own_node : b.node ≡ u.node
      own_node =
          let up1 : node_at (facts_at s1) u.node ≡ Some d.after = ap (λ f. node_at f u.node) (one_on t hs (happenings.Turn u)) ∙ kids.after_up t whole hs u more is (turns.tells t whole hs u more is roots now) uncut in
          all_found (λ z. z.me.node ≡ u.node) live_id d.after.lives b y (ids_name_their_node s1 lawful1 u.node d.after up1).lives runs_on

      abbrev run : Run
      run = after.run t whole hs u more is roots now uncut has

      me : run.branch ≡ b
      me = (after.asked t whole hs u more is roots now uncut has).2

      of_it : IsOfBook f0.book u.node j
      of_it = from_book p u.input has.from f0.book u.node (heard_book k u.input f0.book u.node (of_book s0 lawful0 u.node k may.1.up))

      own_told : own_at tr0 run.branch ≡ own_changes j b
      own_told = ap (own_at tr0) me ∙ (turns.own_before t whole hs u more is roots now uncut y runs_on ∙ from_owns p u.input has.from b)

      reads_told : read_at_at tr0 run.branch ≡ reads_at j b
      reads_told =
          ap (read_at_at tr0) me
          ∙ (turns.reads_before t whole hs u more is roots now uncut has.from has.asked y runs_on refl ∙ (turns.reads_after t whole hs u more is roots now uncut y runs_on ∙ sym (asked_reads has.asked)))

      -- what the branch sees by the book
      abbrev told_view : List Keyed
      told_view = view_by f0.book b (reads_at j b) (own_changes j b) has.table.name

      view_told : view_by f0.book run.branch (read_at_at tr0 run.branch) (own_at tr0 run.branch) has.table.name ≡ told_view
      view_told =
          ap (λ o. view_by f0.book run.branch o (own_at tr0 run.branch) has.table.name) reads_told
          ∙ (ap (λ own. view_by f0.book run.branch (reads_at j b) own has.table.name) own_told ∙ ap (λ c. view_by f0.book c (reads_at j b) (own_changes j b) has.table.name) me)

      node_is : run.branch.node ≡ u.node
      node_is = ap (λ (c : BranchId). c.node) me ∙ own_node

      module _ (accepted : is_accepted (Some (answer_of_run q)) ≡ true) where
        met : HasMet f0.book u.node j of_it p b own_node has.statement has.table (ref_of has.statement).name (runs_at_table p j.stored.durable x.live has.room has.statement has.table has.way)
        met = has_met f0.book u.node j of_it p b own_node has.statement has.table (ref_of has.statement).name (runs_at_table p j.stored.durable x.live has.room has.statement has.table has.way) accepted

        certain : (i : ℕ) (key : Value) → slice_get (examined has.statement has.table (view_by f0.book run.branch (read_at_at tr0 run.branch) (own_at tr0 run.branch) has.table.name) (locked_at f0.book tr0 run.branch.node has.table.name)) i ≡ Some key
            → IsInDoubt f0 run.branch.node has.table.name key → ⊥
        certain i key at doubt =
            let others : List Value = locked_at f0.book tr0 run.branch.node has.table.name in
            let here : slice_get (examined has.statement has.table told_view others) i ≡ Some key = ap (λ v. slice_get (examined has.statement has.table v others) i) (sym view_told) ∙ at in
            let free : list_any (same_value key) (keys_in_doubt f0.book u.node has.table.name) ≡ false = all_at (λ c. list_any (same_value c) (keys_in_doubt f0.book u.node has.table.name) ≡ false) _ i key (met.certain others) here in
            let held : list_any (same_value key) (keys_in_doubt f0.book u.node has.table.name) ≡ true = subst (λ n. list_any (same_value key) (keys_in_doubt f0.book n has.table.name) ≡ true) node_is doubt in
            true≢false (sym held ∙ free)

        locks_same : k.locks ≡ j.locks
        locks_same = sym (heard_locks k u.input) ∙ from_locks p u.input has.from

        free : (i : ℕ) (key : Value) → slice_get (written has.statement has.table (view_by f0.book run.branch (read_at_at tr0 run.branch) (own_at tr0 run.branch) has.table.name)) i ≡ Some key
            → IsChangedByAnother tr0 run.branch has.table.name key → ⊥
        free i key at other =
            let here : slice_get (written has.statement has.table (view j b has.table.name)) i ≡ Some key = ap (λ v. slice_get v i) met.keys ∙ (ap (λ v. slice_get (written has.statement has.table v) i) (sym view_told) ∙ at) in
            let none : hold_on j.locks b has.table.name key ≡ None = all_at (λ c. hold_on j.locks b has.table.name c ≡ None) _ i key met.passed.free here in
            let live = and_parts (other.other.me.node == run.branch.node) (is_live other.other) other.live in
            let holds : hold_on k.locks b has.table.name key ≡ Some other.other.me
            = holds_changed t whole hs u more is (keys_are_held s0 lawful0 u.node k may.1.up) other.other.me (eqb-true other.other.me.node run.branch.node live.0 ∙ node_is) other.other other.began (no_exit other.other.exit live.1) b
            (subst (λ c. same other.other.me c ≡ false) me other.apart) has.table.name key other.changed in
            let same_holds : hold_on j.locks b has.table.name key ≡ Some other.other.me = subst (λ ls. hold_on ls b has.table.name key ≡ Some other.other.me) locks_same holds in
            absurd (cc (none, same_holds))

        small : (e : Done) (n : ℕ) (cs : List Change) → meaning f0.book (read_at_at tr0 run.branch) (own_at tr0 run.branch) run ≡ Changes e n cs → nat_lt changes_limit (changes_length (own_at tr0 run.branch) + changes_length cs) ≡ false
        small e n cs is = ap (λ own. nat_lt changes_limit (changes_length own + changes_length cs)) own_told ∙ met.small e n cs (ap (meant has.statement has.table) (sym view_told) ∙ is)

        meets : MeetsNobody f0 tr0 run
        meets = record { right = met.passed.right; certain = certain; free = free; small = small }

    meets_nobody : (r : Run) (a : Answer) → run_in f0 trb u ≡ Some r → answered_by (outcome_at t.places f0 u) ≡ Some a → is_accepted (Some a) ≡ true → MeetsNobody f0 tr0 r
    meets_nobody r a some answer accepted = by ran_or_not
      where
        by : HasRun p u.input k1 d ⊎ Unrun → MeetsNobody f0 tr0 r
        by (inr (inl none)) = absurd (cc (none, some))
        by (inr (inr not_so)) = absurd (true≢false (sym (ap is_accepted answer ∙ accepted) ∙ not_so))
        by (inl has) =
            let runs_it : Some (run has) ≡ Some r = sym (after.runs t whole hs u more is roots now uncut has) ∙ some in
            let answers : Some (answer_of_run (q has)) ≡ Some a = sym (after.answers_it t whole hs u more is roots now uncut has) ∙ answer in
            let one : run has ≡ r = cc in
            let two : answer_of_run (q has) ≡ a = cc in
            subst (MeetsNobody f0 tr0) one (meets has (ap (λ x. is_accepted (Some x)) two ∙ accepted))

  accepted_turn : (hs : List Happening) (u : Turn) (more : List Happening) → hs ++ happenings.Turn u ∷ more ≡ t.trace → (r : Run) (a : Answer) → run_in (f_at t hs) (with_begun (f_at t hs) (tr_at t hs) u) u ≡ Some r
      → answered_by (outcome_at t.places (f_at t hs) u) ≡ Some a → is_accepted (Some a) ≡ true → MeetsNobody (f_at t hs) (tr_at t hs) r
  unfolding run_in
  accepted_turn hs u more is r a some answer accepted = by u.cut refl
    where
      by : (cut : Bool) → u.cut ≡ cut → MeetsNobody (f_at t hs) (tr_at t hs) r
      by true cut = (let none : run_in (f_at t hs) (with_begun (f_at t hs) (tr_at t hs) u) u ≡ None = ap (λ c. if c then None else run_by (f_at t hs) (with_begun (f_at t hs) (tr_at t hs) u) u.node (asks (with_begun (f_at t hs) (tr_at t hs) u) u.node u.input)) cut in absurd (cc (none, some)))
      by false cut = meets_nobody hs u more is cut r a some answer accepted

  accepted_at : (hs : List Happening) (h : Happening) (more : List Happening) → hs ++ h ∷ more ≡ t.trace → AcceptedMeetsNobody t.places (f_at t hs) (tr_at t hs) h
  accepted_at hs (happenings.Turn u) more is = accepted_turn hs u more is
  accepted_at hs _ more is = tt

pub accepted_runs_meet_nobody : AcceptedRunsMeetNobody
accepted_runs_meet_nobody t whole = by_moment t AcceptedMeetsNobody (accepted_at t whole)
