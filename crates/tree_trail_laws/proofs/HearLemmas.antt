-- What a message makes of the live branch that it comes to, as its node keeps it.
use Rattle.std.proofs.Common.{◌≡◌, ◌≢◌, ℕ, ◌==◌, ◌||◌, ◌&&◌, ◌⊎◌, not, Bool, true, false, if◌then◌else◌, List, [], ◌∷◌, ◌++◌, map, Option, Some, None, inl, inr, refl, sym, ap, subst, ◌∙◌, ◌+◌}
use Rattle.std.specs.List.{list_any}
use Rattle.std.proofs.lemmas.Bool.{and_parts, or_cases, or_left, or_right}
use Rattle.std.proofs.lemmas.List.Folds.{list_any-append}
use Rattle.tran_ids.proofs.BranchLemmas.{equal_from_same, same_from_equal}
use Rattle.tran_ids.proofs.ListedLemmas.{put_found, drop_gone}
use Rattle.session_tree.specs.Live.{is_branch, next_edge}
use Rattle.node_rules.specs.Data.{Answer, BranchId, Edge, Live, Phase, Vote, Act, Stmt, Admit, Place, Task}
use Rattle.node_rules.specs.Data.acts
use Rattle.node_rules.specs.Data.admits
use Rattle.node_rules.specs.Data.kinds
use Rattle.node_rules.specs.Data.phases
use Rattle.node_rules.specs.Data.votes
use Rattle.node_rules.specs.declared.work.Going.{Going}
use Rattle.node_rules.specs.declared.work.Waits.{Waits}
use Rattle.node_rules.specs.declared.work.Waits.TheVariants as waiting
use Rattle.node_rules.specs.Words.{same, item_at, put_item}
use Rattle.node_rules.specs.NodeState.{NodeState, Branch, TurnDraft, live_id, live_at, branch_at, nothing, post}
use Rattle.node_rules.specs.Names.{Way, Runs_here, Over, Through, Nowhere_to, way_of}
use Rattle.node_rules.specs.Calls.{goes, exec_by, on_exec, on_opened, opened_going, opened_waits, on_reply, reply_by, reply_of, admit, takes_call, back_heard, backs_to, goes_back, hears_reply, errand_heard, task_at, going_heard}
use Rattle.node_rules.specs.Prepare.{is_awaited, answers_first, has_voted, with_prepare_sent, collecting, with_comment, voted, ready, act_turn, answer_act, first_act, collects, prepare_in, answer_in, on_prepare, on_answer, on_commit_point, commit_point_in, commit_point_act, drops, without_read_keys}
use Rattle.node_rules.specs.Recovery.{on_ask, on_ask_told}
use Rattle.reco.specs.declared.told.Told.TheVariants as tolds
use Rattle.node_rules.proofs.StandLemmas.{live_so}
use Rattle.run_rules.specs.Branches.{is_among}
use Rattle.run_base_laws.proofs.RestStepLemmas.{going_of}
use Rattle.session_tree.specs.Tree.{step}
use Rattle.tree_trail_laws.specs.LowerLaws.{AreVoted}
use Rattle.node_rules.specs.declared.work.Errand.{Errand}
use Rattle.node_rules.specs.Data.answers
use Rattle.node_rules.specs.Marks.{node_back, branch_back, next_back}
use Rattle.node_rules.specs.Data.tasks
use Rattle.node_rules.specs.declared.work.Errand.TheVariants as errands

-- A live branch that is as far in its transaction as it was.
pub record Alike (z l : Live) : Type 0 where
  pub phase : l.phase ≡ z.phase
  pub votes : z.phase ≢ phases.Working → (vs : List BranchId) → AreVoted vs z.edges → AreVoted vs l.edges

pub same_alike : (z l : Live) → l ≡ z → Alike z l
same_alike z l is = subst (Alike z) (sym is) (record { phase = refl; votes = λ busy vs all. all })

-- ---- votes

none_voted : (es : List Edge) → AreVoted [] (map with_prepare_sent es)
none_voted [] = tt
none_voted (e ∷ es) = (refl, none_voted es)

among_more : (vs : List BranchId) (from c : BranchId) → is_among c (vs ++ from ∷ []) ≡ (is_among c vs || same from c)
among_more vs from c = list_any-append (λ d. same d c) vs (from ∷ []) ∙ ap (λ q. is_among c vs || q) (or_none (same from c))
  where
    or_none : (q : Bool) → (q || false) ≡ q
    or_none true = refl
    or_none false = refl

-- the answer of one child more
pub one_voted : (vs : List BranchId) (from : BranchId) (v : Vote) → is_awaited v ≡ false → (es : List Edge) → AreVoted vs es → AreVoted (vs ++ from ∷ []) (map (has_voted from v) es)
one_voted vs from v heard [] all = tt
one_voted vs from v heard (e ∷ es) all = (by (answers_first from e) refl, one_voted vs from v heard es all.1)
  where
    other : (q : Bool) → same from e.peer ≡ q → (same e.peer from && is_awaited e.vote) ≡ false → (is_among e.peer vs || q) ≡ not (is_awaited e.vote)
    other false apart not_so = or_not (is_among e.peer vs) ∙ all.0
      where
        or_not : (q : Bool) → (q || false) ≡ q
        or_not true = refl
        or_not false = refl
    other true here not_so =
        let back : same e.peer from ≡ true = same_from_equal e.peer from (sym (equal_from_same from e.peer here)) in
        let heard_it : is_awaited e.vote ≡ false = sym (ap (λ q. q && is_awaited e.vote) back) ∙ not_so in
        or_right (is_among e.peer vs) true refl ∙ sym (ap not heard_it)

    by : (q : Bool) → answers_first from e ≡ q → is_among (if q then record e { vote = v } else e).peer (vs ++ from ∷ []) ≡ not (is_awaited (if q then record e { vote = v } else e).vote)
    by true first =
        let here : same from e.peer ≡ true = same_from_equal from e.peer (sym (equal_from_same e.peer from (and_parts (same e.peer from) (is_awaited e.vote) first).0)) in
        among_more vs from e.peer ∙ (or_right (is_among e.peer vs) (same from e.peer) here ∙ sym (ap not heard))
    by false not_so = among_more vs from e.peer ∙ other (same from e.peer) refl not_so

-- one that answers first is a child, and has not answered
pub first_among : (votes : List BranchId) (from : BranchId) (es : List Edge) → AreVoted votes es → list_any (answers_first from) es ≡ true
    → (is_among from (map (λ (e : Edge). e.peer) es) ≡ true) × (is_among from votes ≡ false)
first_among votes from [] all some = absurd cc
first_among votes from (e ∷ es) all some = elim (or_cases (answers_first from e) (list_any (answers_first from) es) some) [
  | inl here ↦ (let parts = and_parts (same e.peer from) (is_awaited e.vote) here in (
    or_left (same e.peer from) (is_among from (map (λ (x : Edge). x.peer) es)) parts.0,
    subst (λ c. is_among c votes ≡ false) (equal_from_same e.peer from parts.0) (all.0 ∙ ap not parts.1),
  ))
  | inr later ↦ (let rest = first_among votes from es all.1 later in (or_right (same e.peer from) (is_among from (map (λ (x : Edge). x.peer) es)) rest.0, rest.1))
]

-- ---- a branch that is put, or dropped

pub put_is : (ls : List Live) (y l : Live) (b : BranchId) → y.me ≡ b → item_at live_id (put_item live_id ls y) b ≡ Some l → l ≡ y
put_is ls y l b me is = let both : Some y ≡ Some l = sym (put_found live_id ls y) ∙ (ap (λ c. item_at live_id (put_item live_id ls y) c) me ∙ is) in let it : l ≡ y = cc in it

pub act_live : (k : NodeState) (l : Live) (b : Bool) (a : Act) (w : Live) → live_at (act_turn k l b a).after l.me ≡ Some w → (w ≡ l) ⊎ (w ≡ ready l)
act_live k l b acts.Rest w is = inl (put_is k.lives l w l.me refl is)
act_live k l b acts.AskDown w is = inl (put_is k.lives l w l.me refl is)
act_live k l b acts.SayReady w is = inr (put_is k.lives (ready l) w l.me refl is)
act_live k l b acts.SayReadOnly w is = (let none : live_at (act_turn k l b acts.SayReadOnly).after l.me ≡ None = drop_gone live_id k.lives l.me in absurd (cc (none, is)))
act_live k l b acts.Seal w is = (let none : live_at (act_turn k l b acts.Seal).after l.me ≡ None = drop_gone live_id k.lives l.me in absurd (cc (none, is)))
act_live k l b (acts.SealAndPass i) w is = (let none : live_at (act_turn k l b (acts.SealAndPass i)).after l.me ≡ None = drop_gone live_id k.lives l.me in absurd (cc (none, is)))
act_live k l b acts.Decide w is = (let none : live_at (act_turn k l b acts.Decide).after l.me ≡ None = drop_gone live_id k.lives l.me in absurd (cc (none, is)))
act_live k l b acts.Finish w is = (let none : live_at (act_turn k l b acts.Finish).after l.me ≡ None = drop_gone live_id k.lives l.me in absurd (cc (none, is)))
act_live k l b acts.Abandon w is = (let none : live_at (act_turn k l b acts.Abandon).after l.me ≡ None = drop_gone live_id k.lives l.me in absurd (cc (none, is)))

-- in the prepare phase, with these answers
abbrev pub IsBusy : List BranchId → Live → Type 0
IsBusy vs l = (l.phase ≢ phases.Working) × AreVoted vs l.edges

module _ (p : Place) (k : NodeState) (x : Branch) (found : branch_at k x.live.me ≡ Some x) where
  -- what stays live after these drafts
  abbrev pub After : TurnDraft → (Live → Type 0) → Type 0
  After d P = (l : Live) → live_at d.after x.live.me ≡ Some l → P l

  -- where its node keeps the same live branches
  pub kept_alike : (l : Live) → live_at k x.live.me ≡ Some l → Alike x.live l
  kept_alike l is = let both : Some x.live ≡ Some l = sym (live_so k x.live.me x found) ∙ is in same_alike x.live l (let it : l ≡ x.live = cc in it)

  pub gone : (first : _) → After (drops k x.live first) (λ l. ⊥)
  gone first l is = let none : live_at (drops k x.live first).after x.live.me ≡ None = drop_gone live_id k.lives x.live.me in absurd (cc (none, is))

  -- ---- statements

  like : (ls : List Live) (y l : Live) → y.me ≡ x.live.me → y.phase ≡ x.live.phase → y.edges ≡ x.live.edges → item_at live_id (put_item live_id ls y) x.live.me ≡ Some l → Alike x.live l
  like ls y l me phase edges is =
      subst (Alike x.live) (sym (put_is ls y l x.live.me me is)) (record { phase = phase; votes = λ busy vs all. subst (AreVoted vs) (sym edges) all })

  pub goes_alike : (y : Branch) (s : Stmt) (given : ℕ) (w : Way) → y.live.me ≡ x.live.me → y.live.phase ≡ x.live.phase → y.live.edges ≡ x.live.edges → After (goes p k y s given w) (Alike x.live)
  goes_alike y s given (Runs_here t) me phase edges l is = like k.lives _ l me phase edges is
  goes_alike y s given (Nowhere_to r) me phase edges l is = like k.lives y.live l me phase edges is
  goes_alike y s given (Over i table) me phase edges l is = like k.lives y.live l me phase edges is
  goes_alike y s given (Through node link table) me phase edges l is = like k.lives y.live l me phase edges is

  -- and where its children are to go back
  backs_alike : (j : NodeState) (y : Branch) (step : ℕ) (next : Option ℕ) → y.live.me ≡ x.live.me → y.live.phase ≡ x.live.phase → y.live.edges ≡ x.live.edges → After (backs_to j y step next) (Alike x.live)
  backs_alike j y step None me phase edges l is = like j.lives y.live l me phase edges is
  backs_alike j y step (Some i) me phase edges l is = like j.lives y.live l me phase edges is

  pub goes_back_alike : (y : Branch) (step : ℕ) → y.live.me ≡ x.live.me → y.live.phase ≡ x.live.phase → y.live.edges ≡ x.live.edges → After (goes_back k y step) (Alike x.live)
  goes_back_alike y step me phase edges l is = backs_alike (node_back k y step) (branch_back k y step) step (next_back (branch_back k y step).work step 1) me phase edges l is

  task_alike : (call : ℕ) (task : Task) → After (task_at p k (takes_call x call task) task) (Alike x.live)
  task_alike call (tasks.Run given advice s) l is =
      goes_alike (takes_call x call (tasks.Run given advice s)) s given (way_of p k.stored.durable (takes_call x call (tasks.Run given advice s)).live given s) refl refl refl l is
  task_alike call (tasks.GoBack keep) l is = goes_back_alike (takes_call x call (tasks.GoBack keep)) keep refl refl refl l is

  exec_alike : (from : BranchId) (call : ℕ) (task : Task) (a : Admit) → After (exec_by p k x from call task a) (Alike x.live)
  exec_alike from call task admits.Ignore l is = kept_alike l is
  exec_alike from call task admits.Again l is = kept_alike l is
  exec_alike from call task admits.Run l is = task_alike call task l is

  pub execs : (from : BranchId) (call : ℕ) (task : Task) → After (on_exec p k x from call task) (Alike x.live)
  execs from call task l is = exec_alike from call task (admit x.work.came call) l is

  -- a branch that hears a Reply is put as it is then
  module _ (y : Branch) (me : y.live.me ≡ x.live.me) where
    backs_put : (step : ℕ) (next : Option ℕ) → After (backs_to k y step next) (λ l. l ≡ y.live)
    backs_put step None l is = put_is k.lives y.live l x.live.me me is
    backs_put step (Some i) l is = put_is k.lives y.live l x.live.me me is

    back_put : (step i : ℕ) (link : List ℕ) (a : Answer) → After (back_heard k y step i link a) (λ l. l ≡ y.live)
    back_put step i link (answers.Refused r) l is = put_is k.lives y.live l x.live.me me is
    back_put step i link (answers.Found rows) l is = backs_put step (next_back y.work step (i + 1)) l is
    back_put step i link (answers.Did d n) l is = backs_put step (next_back y.work step (i + 1)) l is

    errand_put : (i : ℕ) (link : List ℕ) (a : Answer) (e : Errand) → After (errand_heard k y i link a e) (λ l. l ≡ y.live)
    errand_put i link a (errands.Statement s given) l is = put_is k.lives y.live l x.live.me me is
    errand_put i link a (errands.GoBack step) l is = back_put step i link a l is

  module _ (rests : x.live.phase ≢ phases.Working → x.work.going ≡ None) where
    -- only one that is working waits
    waits_working : (g : Going) → x.work.going ≡ Some g → x.live.phase ≢ phases.Working → ⊥
    waits_working g waits busy = let none : x.work.going ≡ None = rests busy in absurd (cc (waits, none))

    opens_alike : (from : BranchId) (strength : ℕ) (g : Going) (w : Waits) → x.work.going ≡ Some g → After (opened_waits k x from strength g w) (Alike x.live)
    opens_alike from strength g (waiting.ForReply i) going l is = kept_alike l is
    opens_alike from strength g (waiting.ForOpened link) going l is =
        subst (Alike x.live) (sym (put_is k.lives _ l x.live.me refl is)) (record { phase = refl; votes = λ busy vs all. absurd (waits_working g going busy) })

    opened_alike : (from : BranchId) (edge strength : ℕ) (o : Option Going) → x.work.going ≡ o → After (opened_going k x from edge strength o) (Alike x.live)
    opened_alike from edge strength None going l is = kept_alike l is
    opened_alike from edge strength (Some g) going l is = by (edge == next_edge x.live) is
      where
        by : (q : Bool) → live_at (if q then opened_waits k x from strength g g.waits else nothing k).after x.live.me ≡ Some l → Alike x.live l
        by true at = opens_alike from strength g g.waits going l at
        by false at = kept_alike l at

    pub openeds : (from : BranchId) (edge strength : ℕ) → After (on_opened k x from edge strength) (Alike x.live)
    openeds from edge strength l is = opened_alike from edge strength x.work.going refl l is

    reply_alike : (from : BranchId) (call : ℕ) (weight : Option ℕ) (count : ℕ) (a : Answer) (o : Option (ℕ × Edge)) → reply_of x from call ≡ o → After (reply_by k x weight count a o) (Alike x.live)
    reply_alike from call weight count a None waits l is = kept_alike l is
    reply_alike from call weight count a (Some ie) waits l is =
        let g = going_of x from call ie.0 ie.1 waits in
        let y : Branch = hears_reply x ie.0 weight count ie.1 in
        let at : live_at (errand_heard k y ie.0 ie.1.link a g.0.errand).after x.live.me ≡ Some l = subst (λ o. live_at (going_heard k y ie.0 ie.1.link a o).after x.live.me ≡ Some l) g.1 is in
        subst (Alike x.live) (sym (errand_put y refl ie.0 ie.1.link a g.0.errand l at)) (record { phase = refl; votes = λ busy vs all. absurd (waits_working g.0 g.1 busy) })

    pub hears_replies : (from : BranchId) (call : ℕ) (weight : Option ℕ) (count : ℕ) (a : Answer) → After (on_reply k x from call weight count a) (Alike x.live)
    hears_replies from call weight count a l is = reply_alike from call weight count a (reply_of x from call) refl l is

  -- ---- the prepare phase

  points_by : (phase : Phase) → x.live.phase ≡ phase → After (commit_point_in k x.live phase) (Alike x.live)
  points_by phases.Ready at l is = elim (act_live k x.live true (commit_point_act (step x.live)) l is) [
    | inl alike ↦ same_alike x.live l alike
    | inr readies ↦ subst (Alike x.live) (sym readies) (record { phase = sym at; votes = λ busy vs all. all })
  ]
  points_by phases.Working at l is = kept_alike l is
  points_by (phases.Collecting b) at l is = kept_alike l is

  pub points : After (on_commit_point k x.live) (Alike x.live)
  points l is = points_by x.live.phase refl l is

  pub asks : (from : BranchId) → is_branch from x.live.parent ≡ false → After (on_ask k x.live from) (Alike x.live)
  asks from other l is = by (is_branch from x.live.parent) other is
    where
      by : (q : Bool) → q ≡ false → live_at (on_ask_told k x.live from (if q then tolds.RollBackFirst else tolds.InDoubt)).after x.live.me ≡ Some l → Alike x.live l
      by true not_so at = absurd cc
      by false not_so at = kept_alike l at

  pub asks_gone : (from : BranchId) → is_branch from x.live.parent ≡ true → After (on_ask k x.live from) (λ l. ⊥)
  asks_gone from mine l is = by (is_branch from x.live.parent) mine is
    where
      by : (q : Bool) → q ≡ true → live_at (on_ask_told k x.live from (if q then tolds.RollBackFirst else tolds.InDoubt)).after x.live.me ≡ Some l → ⊥
      by true yes_it at = gone (post x.live.me from kinds.RolledBack) l at
      by false not_so at = absurd cc

  -- Prepare
  pub collected_busy : (l0 l : Live) (comment : List ℕ) (b : Bool) → l0 ≡ collecting (with_comment x.live comment) b → (l ≡ l0) ⊎ (l ≡ ready l0) → IsBusy [] l
  collected_busy l0 l comment b is (inl alike) = subst (IsBusy []) (sym (alike ∙ is)) ((λ working. absurd cc), none_voted x.live.edges)
  collected_busy l0 l comment b is (inr readies) = subst (IsBusy []) (sym (readies ∙ ap ready is)) ((λ working. absurd cc), none_voted x.live.edges)

  pub prepares_working : (comment : List ℕ) (b : Bool) → x.live.phase ≡ phases.Working → After (on_prepare k x.live b comment) (IsBusy [])
  prepares_working comment b working l is =
      let l0 : Live = collecting (with_comment x.live comment) b in
      let at : live_at (collects k (with_comment x.live comment) b).after x.live.me ≡ Some l = subst (λ ph. live_at (prepare_in k x.live b comment ph).after x.live.me ≡ Some l) working is in
      collected_busy l0 l comment b refl (act_live (without_read_keys k x.live.me) l0 b (first_act l0 b) l at)

  prepares_by : (comment : List ℕ) (b : Bool) (phase : Phase) → x.live.phase ≡ phase → phase ≢ phases.Working → After (prepare_in k x.live b comment phase) (Alike x.live)
  prepares_by comment b phases.Working at busy l is = absurd (busy refl)
  prepares_by comment b (phases.Collecting c) at busy l is = kept_alike l is
  prepares_by comment b phases.Ready at busy l is = kept_alike l is

  pub prepares_busy : (comment : List ℕ) (b : Bool) → x.live.phase ≢ phases.Working → After (on_prepare k x.live b comment) (Alike x.live)
  prepares_busy comment b busy l is = prepares_by comment b x.live.phase refl busy l is

  -- an answer to Prepare
  pub answers_first_so : (from : BranchId) (v : Vote) (b : Bool) → x.live.phase ≡ phases.Collecting b → list_any (answers_first from) x.live.edges ≡ true → is_awaited v ≡ false
      → After (on_answer k x.live from v) (λ l. (v ≢ votes.Abort) × (l.phase ≢ phases.Working) × ((vs : List BranchId) → AreVoted vs x.live.edges → AreVoted (vs ++ from ∷ []) l.edges))
  answers_first_so from v b phase first heard l is =
      let at : live_at (answer_in k x.live from v (phases.Collecting b)).after x.live.me ≡ Some l = subst (λ ph. live_at (answer_in k x.live from v ph).after x.live.me ≡ Some l) phase is in
      let l0 : Live = voted x.live from v in
      let acted : live_at (act_turn k l0 b (answer_act l0 b v)).after x.live.me ≡ Some l = subst (λ q. live_at (if q then act_turn k l0 b (answer_act l0 b v) else nothing k).after x.live.me ≡ Some l) first at in
      (let more = so (act_live k l0 b (answer_act l0 b v) l acted) in ((λ abort. abandoned v abort acted), more.0, more.1))
    where
      abandoned : (w : Vote) → w ≡ votes.Abort → live_at (act_turn k (voted x.live from v) b (answer_act (voted x.live from v) b w)).after x.live.me ≡ Some l → ⊥
      abandoned votes.Abort abort at = (let none : live_at (act_turn k (voted x.live from v) b acts.Abandon).after x.live.me ≡ None = drop_gone live_id k.lives x.live.me in absurd (cc (none, at)))
      abandoned _ abort at = absurd cc

      so : (l ≡ voted x.live from v) ⊎ (l ≡ ready (voted x.live from v)) → (l.phase ≢ phases.Working) × ((vs : List BranchId) → AreVoted vs x.live.edges → AreVoted (vs ++ from ∷ []) l.edges)
      so (inl alike) = subst (λ (y : Live). (y.phase ≢ phases.Working) × ((vs : List BranchId) → AreVoted vs x.live.edges → AreVoted (vs ++ from ∷ []) y.edges)) (sym alike)
          ((λ working. absurd (cc (phase, working))), (λ vs all. one_voted vs from v heard x.live.edges all))
      so (inr readies) = subst (λ (y : Live). (y.phase ≢ phases.Working) × ((vs : List BranchId) → AreVoted vs x.live.edges → AreVoted (vs ++ from ∷ []) y.edges)) (sym readies)
          ((λ working. absurd cc), (λ vs all. one_voted vs from v heard x.live.edges all))

  answers_by : (from : BranchId) (v : Vote) (phase : Phase) → (list_any (answers_first from) x.live.edges ≡ true → (b : Bool) → phase ≢ phases.Collecting b) → After (answer_in k x.live from v phase) (Alike x.live)
  answers_by from v phases.Working not_so l is = kept_alike l is
  answers_by from v phases.Ready not_so l is = kept_alike l is
  answers_by from v (phases.Collecting b) not_so l is = by (list_any (answers_first from) x.live.edges) refl is
    where
      by : (q : Bool) → list_any (answers_first from) x.live.edges ≡ q → live_at (if q then act_turn k (voted x.live from v) b (answer_act (voted x.live from v) b v) else nothing k).after x.live.me ≡ Some l → Alike x.live l
      by true first at = absurd (not_so first b refl)
      by false none at = kept_alike l at

  -- one that is not heard
  pub answers_not : (from : BranchId) (v : Vote) → (list_any (answers_first from) x.live.edges ≡ true → (b : Bool) → x.live.phase ≢ phases.Collecting b) → After (on_answer k x.live from v) (Alike x.live)
  answers_not from v not_so l is = answers_by from v x.live.phase not_so l is
