-- The plan of a COMMIT: it is there once the COMMIT was accepted, the first one of its root stays, and it is of the tree that was told then.
use Rattle.std.proofs.Common.{◌≡◌, ℕ, ◌+◌, Bool, true, false, not, ◌&&◌, if◌then◌else◌, find, is_none, List, [], ◌∷◌, ◌++◌, map, unwrap_or, Option, Some, None, refl, sym, ap, subst, ◌∙◌, append-nil}
use Rattle.tran_ids.proofs.BranchLemmas.{same_from_equal}
use Rattle.session_tree.specs.declared.act.Walk.{Walk}
use Rattle.session_tree.specs.declared.act.Walk.TheVariants as walks
use Rattle.session_tree.specs.Live.{peer_of}
use Rattle.session_tree.specs.Tree.{step}
use Rattle.prepare_phase.specs.declared.asked.Asked.{Asked}
use Rattle.prepare_phase.specs.Records.{asked_from}
use Rattle.node_rules.specs.Data.{Answer, BranchId, Edge, Live, Place, Input}
use Rattle.node_rules.specs.Data.acts
use Rattle.node_rules.specs.Data.inputs
use Rattle.node_rules.specs.Data.kinds
use Rattle.node_rules.specs.declared.session.PendingCall.TheVariants as pending
use Rattle.node_rules.specs.Data.stmts
use Rattle.node_rules.specs.Inputs.{IsCall}
use Rattle.node_rules.specs.NodeState.{NodeState, Branch, TurnDraft, to_one, to_each}
use Rattle.node_rules.specs.Sessions.{session_at, with_call, commit_is_pending, commit_complete}
use Rattle.node_rules.specs.Prepare.{act_turn, collecting, with_comment, first_act_by, root_act, without_read_keys, prepare_to, path_of, site_neighbors, is_alone}
use Rattle.node_rules.specs.Client.{root_at as kept_root, commit_by, commit_at}
use Rattle.node_rules.specs.Turn.{turn_of, output_of, stamped}
use Rattle.run_rules.specs.Data.{Turn, Happening}
use Rattle.run_rules.specs.Data.happenings
use Rattle.run_rules.specs.Facts.{Facts, place_at, node_at, served, outcome_at}
use Rattle.run_rules.specs.Branches.{Seen, Trail, CommitPlan, is_root_of, root_at, is_plan_of, plan_at}
use Rattle.run_rules.specs.Runs.{ended_answer, replied_answer, answer_or, answered_by, is_refused}
use Rattle.run_rules.specs.Tree.{plan}
use Rattle.run_rules.specs.Trail.{begun_in_turn, commits, planned_by, called_root, with_begun, trail_after}
pub use Rattle.tree_laws.proofs.TopStepLemmas.{find_more}

-- ---- what is found in a list

-- one that is put behind the others
pub find_last : {A : Type 0} (p : A → Bool) (xs : List A) (y : A) → find p xs ≡ None → p y ≡ true → find p (xs ++ y ∷ []) ≡ Some y
find_last p [] y none here = ap (λ q. if q then Some y else None) here
find_last p (x ∷ xs) y none here = by (p x) none (λ rest. find_last p xs y rest here)
  where
    by : (q : Bool) → (if q then Some x else find p xs) ≡ None → (find p xs ≡ None → find p (xs ++ y ∷ []) ≡ Some y) → (if q then Some x else find p (xs ++ y ∷ [])) ≡ Some y
    by true none later = absurd cc
    by false none later = later none

pub find_passes : {A : Type 0} (p : A → Bool) (xs : List A) (y : A) → find p xs ≡ Some y → p y ≡ true
find_passes p [] y is = absurd cc
find_passes p (x ∷ xs) y is = by (p x) refl is (find_passes p xs y)
  where
    by : (q : Bool) → p x ≡ q → (if q then Some x else find p xs) ≡ Some y → (find p xs ≡ Some y → p y ≡ true) → p y ≡ true
    by true here is later = let it : Some x ≡ Some y = is in subst (λ z. p z ≡ true) (let same : x ≡ y = cc in same) here
    by false here is later = later is

-- ---- plans stay

pub plan_stays : (places : List Place) (f : Facts) (tr : Trail) (h : Happening) (r : BranchId) (p : CommitPlan) → plan_at tr r ≡ Some p → plan_at (trail_after places f tr h) r ≡ Some p
unfolding trail_after
plan_stays places f tr (happenings.Turn u) r p is = find_more (is_plan_of r) tr.plans _ p is
plan_stays places f tr _ r p is = is

-- ---- a COMMIT of a transaction that needs no rollback is not refused

-- messages without a Reply
silent_each : (scn n : ℕ) (me : BranchId) (bs : List BranchId) → replied_answer (map (stamped scn) (to_each me (kinds.Committed n) bs)) ≡ None
silent_each scn n me [] = refl
silent_each scn n me (b ∷ bs) = silent_each scn n me bs

silent_asks : (scn : ℕ) (me : BranchId) (comment : List ℕ) (xs : List Asked) → replied_answer (map (stamped scn) (map (prepare_to me comment) xs)) ≡ None
silent_asks scn me comment [] = refl
silent_asks scn me comment (x ∷ xs) = silent_asks scn me comment xs

-- the end of a COMMIT, where there is one
ended_so : (pends : Bool) (n : ℕ) (o : Option Answer) → o ≡ None → is_refused (answer_or (ended_answer (if pends then (record { session = n; answer = commit_complete }) ∷ [] else [])) o) ≡ false
ended_so true n o none = refl
ended_so false n o none = ap is_refused none

ends_alone : (alone pends : Bool) (n : ℕ) (o : Option Answer) → o ≡ None
    → is_refused (answer_or (ended_answer (if alone then (if pends then (record { session = n; answer = commit_complete }) ∷ [] else []) else [])) o) ≡ false
ends_alone true pends n o none = ended_so pends n o none
ends_alone false pends n o none = ap is_refused none

-- what a turn answers is no refusal
abbrev pub IsGranted : TurnDraft → Type 0
IsGranted d = is_refused (answered_by (Some (output_of d))) ≡ false

ready_granted : (scn : ℕ) (me : BranchId) (o : Option BranchId) → is_refused (replied_answer (map (stamped scn) (to_one me kinds.Ready o))) ≡ false
ready_granted scn me None = refl
ready_granted scn me (Some b) = refl

pass_granted : (scn : ℕ) (me : BranchId) (o : Option BranchId) → is_refused (replied_answer (map (stamped scn) (to_one me kinds.CommitPoint o))) ≡ false
pass_granted scn me None = refl
pass_granted scn me (Some b) = refl

root_granted : (k : NodeState) (l : Live) (b : Bool) (w : Walk) → IsGranted (act_turn k l b (root_act w))
root_granted k l b walks.Here = ends_alone (is_alone l) (commit_is_pending k.sessions l.me) l.me.session _ (silent_each _ (k.clock + 1) l.me (site_neighbors l))
root_granted k l b (walks.Down i) = pass_granted _ l.me (peer_of l i)
root_granted k l b walks.Nowhere = ended_so (commit_is_pending k.sessions l.me) l.me.session None refl

collected_granted : (k : NodeState) (l : Live) (top : Bool) → IsGranted (act_turn k l true (if top then root_act (step l) else acts.SayReady))
collected_granted k l true = root_granted k l true (step l)
collected_granted k l false = ready_granted _ l.me l.parent

first_granted : (k : NodeState) (l : Live) (es : List Edge) → IsGranted (act_turn k l true (first_act_by l true es))
first_granted k l [] = collected_granted k l (is_none l.parent)
first_granted k l (e ∷ es) = ap is_refused (silent_asks k.clock l.me l.comment (asked_from (path_of true (step l)) 1 l.edges))

-- COMMIT of a READ ONLY transaction is not refused either
at_granted : (k : NodeState) (n : ℕ) (c : List ℕ) (x : Branch) (read_at : Option ℕ) → IsGranted (commit_at k n c x read_at)
at_granted k n c x (Some scn) = refl
at_granted k n c x None =
    let l : Live = collecting (with_comment x.live c) true in first_granted (without_read_keys (record k { sessions = with_call k.sessions n pending.Commit }) l.me) l l.edges

commit_granted : (k : NodeState) (n : ℕ) (c : List ℕ) (o : Option Branch) → IsGranted (commit_by k n c None o)
commit_granted k n c None = refl
commit_granted k n c (Some x) = at_granted k n c x x.live.read_at

module _ (places : List Place) (f : Facts) (tr : Trail) (u : Turn) (k : NodeState) (up : node_at f u.node ≡ Some k) (session : ℕ) (given : Option (List ℕ)) (call : IsCall u.input session (stmts.Commit given))
    (code : (session_at k.sessions session).code ≡ None) where
  abbrev commit : Input
  commit = inputs.Call session (Some (stmts.Commit given))

  pub accepted : is_refused (answered_by (outcome_at places f u)) ≡ false
  unfolding turn_of
  accepted =
      let so : outcome_at places f u ≡ served (place_at places u.node) commit (Some k) = ap (λ i. served (place_at places u.node) i (node_at f u.node)) call ∙ ap (served (place_at places u.node) commit) up in
      let by_code : IsGranted (commit_by k session (unwrap_or given []) (session_at k.sessions session).code (kept_root k session))
      = subst (λ c. IsGranted (commit_by k session (unwrap_or given []) c (kept_root k session))) (sym code) (commit_granted k session (unwrap_or given []) (kept_root k session)) in
      subst (λ o. is_refused (answered_by o) ≡ false) (sym so) by_code

  -- no branch begins with a COMMIT
  begun_by_cut : (cut : Bool) (i : Input) → i ≡ commit → begun_in_turn f tr (record u { input = i; cut = cut }) ≡ []
  begun_by_cut true i is = refl
  begun_by_cut false i is = subst (λ j. begun_in_turn f tr (record u { input = j; cut = false }) ≡ []) (sym is) refl

  pub none_begins : begun_in_turn f tr u ≡ []
  none_begins = begun_by_cut u.cut u.input call

  pub same_trail : with_begun f tr u ≡ tr
  same_trail = ap (λ xs. record tr { seen = tr.seen ++ xs }) none_begins ∙ ap (λ xs. record tr { seen = xs }) (append-nil tr.seen)

  module _ (s : Seen) (root : root_at tr u.node session ≡ Some s) (writer : s.read_at ≡ None) where
    is_commit : commits u.node (answered_by (outcome_at places f u)) s commit ≡ true
    is_commit =
        ap (λ o. is_none o && (is_root_of u.node session s && not (is_refused (answered_by (outcome_at places f u))))) writer
        ∙ (ap (λ q. q && not (is_refused (answered_by (outcome_at places f u)))) (find_passes (is_root_of u.node session) tr.seen s root) ∙ ap not accepted)

    planned_so : planned_by places tr u.node (answered_by (outcome_at places f u)) commit (Some s) ≡ plan places tr s.me ∷ []
    planned_so = ap (λ q. if q then plan places tr s.me ∷ [] else []) is_commit

    planned_one : planned_by places (with_begun f tr u) u.node (answered_by (outcome_at places f u)) u.input (called_root (with_begun f tr u) u.node u.input) ≡ plan places tr s.me ∷ []
    planned_one =
        ap (λ x. planned_by places x u.node (answered_by (outcome_at places f u)) u.input (called_root x u.node u.input)) same_trail
        ∙ (ap (λ i. planned_by places tr u.node (answered_by (outcome_at places f u)) i (called_root tr u.node i)) call
        ∙ (ap (λ o. planned_by places tr u.node (answered_by (outcome_at places f u)) commit o) root ∙ planned_so))

    plan_of_it : is_plan_of s.me (plan places tr s.me) ≡ true
    unfolding plan
    plan_of_it = same_from_equal s.me s.me refl

    -- the plan of the COMMIT is the first of its root
    pub plan_here : plan_at tr s.me ≡ None → plan_at (trail_after places f tr (happenings.Turn u)) s.me ≡ Some (plan places tr s.me)
    unfolding trail_after
    plan_here none = subst (λ ps. find (is_plan_of s.me) (tr.plans ++ ps) ≡ Some (plan places tr s.me)) (sym planned_one) (find_last (is_plan_of s.me) tr.plans (plan places tr s.me) none plan_of_it)
