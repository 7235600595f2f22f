-- What a step makes of the advice and the comment of a live branch, and whose comment and advice its messages carry.
use Rattle.std.proofs.Common.{◌≡◌, ℕ, ◌+◌, ◌⊎◌, Bool, true, false, if◌then◌else◌, List, [], ◌∷◌, ◌++◌, unwrap_or, Option, Some, None, inl, inr, refl, sym, ap, subst, ◌∙◌}
use Rattle.tran_ids.proofs.BranchLemmas.{equal_from_same}
use Rattle.tran_ids.proofs.ListedLemmas.{put_or_before, drop_gone, drop_leaves}
use Rattle.session_tree.specs.Live.{fresh_live, new_edge}
use Rattle.node_rules.specs.Data.{Act, Advice, BranchId, Input, Kind, Live, Place, Stmt}
use Rattle.node_rules.specs.Data.acts
use Rattle.node_rules.specs.Data.inputs
use Rattle.node_rules.specs.Data.kinds
use Rattle.node_rules.specs.Data.nexts
use Rattle.node_rules.specs.declared.session.PendingCall.TheVariants as pending
use Rattle.node_rules.specs.declared.session.Session.{Session}
use Rattle.node_rules.specs.Data.phases
use Rattle.node_rules.specs.Data.stmts
use Rattle.node_rules.specs.Data.tasks
use Rattle.node_rules.specs.Words.{same, item_at, put_item, drop_item, set_numbered}
use Rattle.node_rules.specs.Calls.{branch_ran, hears_reply, next_child, strength_of, with_edge}
use Rattle.node_rules.specs.Client.{begun_by, fresh_root, marked, new_root}
use Rattle.node_rules.specs.Inputs.{Came, IsCall}
use Rattle.node_rules.specs.Marks.{branch_back}
use Rattle.node_rules.specs.NodeState.{Branch, NodeState, TurnDraft, live_id, live_at}
use Rattle.node_rules.specs.Prepare.{act_turn, ready}
use Rattle.node_rules.specs.Sessions.{session_at, with_call_of}
use Rattle.node_rules.specs.Statement.{ran}
use Rattle.node_rules.proofs.StandLemmas.{live_so}
use Rattle.node_rules.proofs.StepLemmas.{gone_back_live}
use Rattle.node_rules.proofs.Steps as steps
use Rattle.node_rules.proofs.Steps.{Acting, Asked, Calls_back, Collects, HasRoot, Step}
use Rattle.run_rules.specs.Trail.{is_exec}
use Rattle.run_base_laws.proofs.BeginLemmas.{MayBegin, may_begin}
use Rattle.run_base_laws.proofs.RootLemmas.{session_or_before}

-- the live branch of an id, one that is put behind the others too
last_live : (ls : List Live) (l : Live) (b : BranchId) (y : Live) → item_at live_id (ls ++ l ∷ []) b ≡ Some y → (item_at live_id ls b ≡ Some y) ⊎ ((item_at live_id ls b ≡ None) × (l ≡ y))
last_live [] l b y found = by (same l.me b) found
  where
    by : (here : Bool) → (if here then Some l else item_at live_id [] b) ≡ Some y → (item_at live_id [] b ≡ Some y) ⊎ ((item_at live_id [] b ≡ None) × (l ≡ y))
    by true is = inr (refl, (let it : Some l ≡ Some y = is in cc))
    by false is = absurd cc
last_live (z ∷ ls) l b y found = by (same z.me b) found (last_live ls l b y)
  where
    by : (here : Bool) → (if here then Some z else item_at live_id (ls ++ l ∷ []) b) ≡ Some y → (item_at live_id (ls ++ l ∷ []) b ≡ Some y → (item_at live_id ls b ≡ Some y) ⊎ ((item_at live_id ls b ≡ None) × (l ≡ y)))
        → ((if here then Some z else item_at live_id ls b) ≡ Some y) ⊎ (((if here then Some z else item_at live_id ls b) ≡ None) × (l ≡ y))
    by true is later = inl is
    by false is later = later is

none_before : (ls : List Live) (l : Live) (b : BranchId) → item_at live_id (ls ++ l ∷ []) b ≡ None → item_at live_id ls b ≡ None
none_before [] l b none = refl
none_before (z ∷ ls) l b none = by (same z.me b) none (none_before ls l b)
  where
    by : (here : Bool) → (if here then Some z else item_at live_id (ls ++ l ∷ []) b) ≡ None → (item_at live_id (ls ++ l ∷ []) b ≡ None → item_at live_id ls b ≡ None) → (if here then Some z else item_at live_id ls b) ≡ None
    by true is later = absurd cc
    by false is later = later is

-- an Exec that runs a statement comes to a branch
abbrev pub ExecCame : Input → BranchId → Type 0
ExecCame input b = (from : BranchId) × (call given : ℕ) × (advice : Option Advice) × (s : Stmt) × Came input from b (kinds.Exec call (tasks.Run given advice s))

kind_in : Input → Option Kind
kind_in (inputs.Message m) = Some m.kind
kind_in _ = None

-- what comes then is an Exec
pub exec_kind : {input : Input} {b from to : BranchId} {kind : Kind} → ExecCame input b → Came input from to kind → is_exec kind ≡ true
unfolding kind_in
exec_kind {kind = kind} exec came =
    let both : Some (kinds.Exec exec.1 (tasks.Run exec.2 exec.3 exec.4)) ≡ Some kind = sym (ap kind_in exec.5.is) ∙ ap kind_in came.is in let one : kinds.Exec exec.1 (tasks.Run exec.2 exec.3 exec.4) ≡ kind = cc in ap is_exec (sym one)

module _ (p : Place) (input : Input) (b : BranchId) where
  -- What became of a live branch in a step: it kept its comment, and its advice unless a statement came; its collect began with a COMMIT
  -- or a Prepare; or it began.
  pub data Got (k : NodeState) (y : Live) : Type 0 where
    Keeps : (z : Live) → live_at k b ≡ Some z → (y.advice ≡ z.advice) ⊎ ExecCame input b → y.comment ≡ z.comment → (z.phase ≡ phases.Working → y.phase ≡ phases.Working) → Got k y
    Commits : (z : Live) → live_at k b ≡ Some z → y.advice ≡ z.advice → (n : ℕ) (given : Option (List ℕ)) → IsCall input n (stmts.Commit given) → HasRoot k n b → (session_at k.sessions n).code ≡ None → z.read_at ≡ None
        → y.comment ≡ unwrap_or given [] → Got k y
    Prepares : (z : Live) → live_at k b ≡ Some z → y.advice ≡ z.advice → (from : BranchId) (site_below : Bool) → Came input from b (kinds.Prepare site_below y.comment) → Got k y
    Begins : live_at k b ≡ None → y.advice ≡ None → y.phase ≡ phases.Working → (ExecCame input b → ⊥) → Got k y

  still : (k : NodeState) (y : Live) → live_at k b ≡ Some y → Got k y
  still k y live = Keeps y live (inl refl) refl (λ working. working)

  -- one that is put in its place
  put : (k : NodeState) (x y : Live) → (x.me ≡ b → Got k x) → item_at live_id (put_item live_id k.lives x) b ≡ Some y → Got k y
  put k x y so live = elim (put_or_before live_id k.lives x b) [
    | inl before ↦ still k y (sym before ∙ live)
    | inr new ↦ (let both : Some x ≡ Some y = sym new.1 ∙ live in let one : x ≡ y = cc in subst (Got k) one (so new.0))
  ]

  left : (k : NodeState) (c : BranchId) (y : Live) → item_at live_id (drop_item live_id k.lives c) b ≡ Some y → Got k y
  left k c y live = by (same c b) refl
    where
      by : (q : Bool) → same c b ≡ q → Got k y
      by true here = (let gone : item_at live_id (drop_item live_id k.lives c) b ≡ None = subst (λ x. item_at live_id (drop_item live_id k.lives c) x ≡ None) (equal_from_same c b here) (drop_gone live_id k.lives c) in absurd (cc (gone, live)))
      by false other = still k y (sym (drop_leaves live_id k.lives c b other) ∙ live)

  -- changed in its children alone
  like : (k : NodeState) (x y : Live) → live_at k x.me ≡ Some x → y.advice ≡ x.advice → y.comment ≡ x.comment → y.phase ≡ x.phase → x.me ≡ b → Got k y
  like k x y live advice comment phase me = Keeps x (subst (λ c. live_at k c ≡ Some x) me live) (inl advice) comment (λ working. phase ∙ working)

  asked : (k : NodeState) {x : Branch} {s : Stmt} {given : ℕ} (y : Live) → Asked k input x s given → y.me ≡ x.live.me → y.advice ≡ x.live.advice → y.comment ≡ x.live.comment → y.phase ≡ x.live.phase → y.me ≡ b → Got k y
  asked k y (steps.By_call n x s call rows has code found may) same_one advice comment phase me = like k x.live y (live_so k x.live.me x found) advice comment phase (sym same_one ∙ me)
  asked k y (steps.By_exec x from call given advice s came found runs) same_one advice_is comment phase me =
      let mine : x.live.me ≡ b = sym same_one ∙ me in
      Keeps x.live (subst (λ c. live_at k c ≡ Some x.live) mine (live_so k x.live.me x found)) (inr (from, call, given, advice, s, subst (λ c. Came input from c (kinds.Exec call (tasks.Run given advice s))) mine came)) comment (λ working. phase ∙ working)

  collects : (k : NodeState) (l : Live) (comment : List ℕ) {q : Bool} (y : Live) → live_at k l.me ≡ Some l → Collects k input l comment q → y.advice ≡ l.advice → y.comment ≡ comment → l.me ≡ b → Got k y
  collects k l comment y live (steps.By_commit n given call has code writer is) advice comment_is me =
      Commits l (subst (λ c. live_at k c ≡ Some l) me live) advice n given call (subst (HasRoot k n) me has) code writer (comment_is ∙ is)
  collects k l comment y live (steps.By_prepare from q came working) advice comment_is me =
      Prepares l (subst (λ c. live_at k c ≡ Some l) me live) advice from q (subst (λ c. Came input from c (kinds.Prepare q y.comment)) me (subst (λ c. Came input from l.me (kinds.Prepare q c)) (sym comment_is) came))

  busy : (k : NodeState) (l y : Live) → live_at k l.me ≡ Some l → y.advice ≡ l.advice → y.comment ≡ l.comment → (l.phase ≡ phases.Working → ⊥) → l.me ≡ b → Got k y
  busy k l y live advice comment not_working me = Keeps l (subst (λ c. live_at k c ≡ Some l) me live) (inl advice) comment (λ working. absurd (not_working working))

  -- the branch of an act, as it then is
  acting : (k : NodeState) {l : Live} {q : Bool} {a : Act} (y : Live) → Acting k input l q a → y.advice ≡ l.advice → y.comment ≡ l.comment → l.me ≡ b → Got k y
  acting k y (steps.Asks_down l comment q e es live begins has) advice comment_is me = collects k l comment y live begins advice comment_is me
  acting k y (steps.Has_no_children l comment q a live begins none collected) advice comment_is me = collects k l comment y live begins advice comment_is me
  acting k y (steps.Hears_abort l from q live answers) advice comment_is me = busy k l y live advice comment_is (λ working. (let collects = answers.collecting in cc (collects, working))) me
  acting k y (steps.Waits_on l from v q live answers other some) advice comment_is me = busy k l y live advice comment_is (λ working. (let collects = answers.collecting in cc (collects, working))) me
  acting k y (steps.Hears_last l from v q a live answers other all collected) advice comment_is me = busy k l y live advice comment_is (λ working. (let collects = answers.collecting in cc (collects, working))) me
  acting k y (steps.At_point l from a live came ready_is pointed) advice comment_is me = busy k l y live advice comment_is (λ working. cc (ready_is, working)) me

  acted : (k : NodeState) {l : Live} {q : Bool} (a : Act) (y : Live) → Acting k input l q a → live_at (act_turn k l q a).after b ≡ Some y → Got k y
  acted k {l = l} acts.Rest y why live = put k l y (λ me. acting k l why refl refl me) live
  acted k {l = l} acts.AskDown y why live = put k l y (λ me. acting k l why refl refl me) live
  acted k {l = l} acts.SayReady y why live = put k (ready l) y (λ me. acting k (ready l) why refl refl me) live
  acted k {l = l} acts.SayReadOnly y why live = left k l.me y live
  acted k {l = l} acts.Seal y why live = left k l.me y live
  acted k {l = l} (acts.SealAndPass i) y why live = left k l.me y live
  acted k {l = l} acts.Decide y why live = left k l.me y live
  acted k {l = l} acts.Finish y why live = left k l.me y live
  acted k {l = l} acts.Abandon y why live = left k l.me y live

  -- ---- changes before a draft

  -- a transaction that begins for a statement
  begun : (k : NodeState) (n : ℕ) (s : Stmt) (read_at : Option ℕ) → IsCall input n s → MayBegin s → (y : Live) → Got (begun_by p k n read_at None) y → Got k y
  begun k n s read_at call begins y got = by got
    where
      x : Live
      x = fresh_root p k (new_root p k n) read_at

      no_exec : ExecCame input b → ⊥
      no_exec (from, number, given, advice, st, came) = (let is = came.is in cc (is, call))

      no_commit : (st : Stmt) (given : Option (List ℕ)) → MayBegin st → st ≡ stmts.Commit given → ⊥
      no_commit st given may is = subst MayBegin is may

      by : Got (begun_by p k n read_at None) y → Got k y
      by (Keeps z live advice comment phase) = elim (last_live k.lives x b z live) [
        | inl before ↦ Keeps z before advice comment phase
        | inr new ↦ Begins new.0 (elim advice [ inl same_one ↦ same_one ∙ ap (λ (l : Live). l.advice) (sym new.1) | inr exec ↦ absurd (no_exec exec) ]) (phase (ap (λ (l : Live). l.phase) (sym new.1))) no_exec
      ]
      by (Commits z live advice m given other has code writer comment) =
          (let both : inputs.Call n (Some s) ≡ inputs.Call m (Some (stmts.Commit given)) = sym call ∙ other in let one : s ≡ stmts.Commit given = cc in absurd (no_commit s given begins one))
      by (Prepares z live advice from q came) = (let is = came.is in absurd (cc (is, call)))
      by (Begins none advice phase not_exec) = Begins (none_before k.lives x b none) advice phase not_exec

  -- with other sessions that have the same transactions
  alike_sessions : (k : NodeState) (ss : List Session) (y : Live) → ((n : ℕ) → (session_at ss n).root ≡ (session_at k.sessions n).root) → ((n : ℕ) → (session_at ss n).code ≡ (session_at k.sessions n).code)
      → Got (record k { sessions = ss }) y → Got k y
  alike_sessions k ss y roots codes (Keeps z live advice comment phase) = Keeps z live advice comment phase
  alike_sessions k ss y roots codes (Prepares z live advice from q came) = Prepares z live advice from q came
  alike_sessions k ss y roots codes (Begins none advice phase not_exec) = Begins none advice phase not_exec
  alike_sessions k ss y roots codes (Commits z live advice n given call has code writer comment) = Commits z live advice n given call (sym (roots n) ∙ has) (sym (codes n) ∙ code) writer comment

  -- one session that is set, and keeps its transaction
  set_alike : (k : NodeState) (m : ℕ) (s : Session) (y : Live) → s.root ≡ (session_at k.sessions m).root → s.code ≡ (session_at k.sessions m).code → Got (record k { sessions = set_numbered k.sessions m s }) y → Got k y
  set_alike k m s y root code =
      alike_sessions k (set_numbered k.sessions m s) y
      (λ n. elim (session_or_before k.sessions m n s) [
        | inl before ↦ ap (λ (x : Session). x.root) before
        | inr new ↦ ap (λ (x : Session). x.root) new.1 ∙ (root ∙ ap (λ i. (session_at k.sessions i).root) new.0)
      ])
      (λ n. elim (session_or_before k.sessions m n s) [
        | inl before ↦ ap (λ (x : Session). x.code) before
        | inr new ↦ ap (λ (x : Session). x.code) new.1 ∙ (code ∙ ap (λ i. (session_at k.sessions i).code) new.0)
      ])

  -- a call of the transaction is counted
  counts : (k : NodeState) (m : ℕ) (y : Live) (root : Option BranchId) → Got (record k { sessions = with_call_of k.sessions m root }) y → Got k y
  counts k m y None got = got
  counts k m y (Some root) got = set_alike k m (record (session_at k.sessions m) { calls = (session_at k.sessions m).calls + 1 }) y refl refl got

  -- with other locks, or another kept row
  alike : (k j : NodeState) (y : Live) → j.lives ≡ k.lives → j.sessions ≡ k.sessions → Got j y → Got k y
  alike k j y lives sessions (Keeps z live advice comment phase) = Keeps z (ap (λ ls. item_at live_id ls b) (sym lives) ∙ live) advice comment phase
  alike k j y lives sessions (Prepares z live advice from q came) = Prepares z (ap (λ ls. item_at live_id ls b) (sym lives) ∙ live) advice from q came
  alike k j y lives sessions (Begins none advice phase not_exec) = Begins (ap (λ ls. item_at live_id ls b) (sym lives) ∙ none) advice phase not_exec
  alike k j y lives sessions (Commits z live advice n given call has code writer comment) =
      Commits z (ap (λ ls. item_at live_id ls b) (sym lives) ∙ live) advice n given call (ap (λ ss. (session_at ss n).root) (sym sessions) ∙ has) (ap (λ ss. (session_at ss n).code) (sym sessions) ∙ code) writer comment

  -- a branch whose children are to go back
  calls_back : (k : NodeState) {x : Branch} {step from : ℕ} → Calls_back k input x step from → x.live.me ≡ b → Got k x.live
  calls_back k (steps.Has_gone before x step goes is) me = like k x.live (branch_back before x step).live (subst (λ j. live_at j x.live.me ≡ Some x.live) (sym is) (gone_back_live goes)) refl refl refl me
  calls_back k (steps.Has_heard x weight count a i e g step answered going errand done) me = like k x.live (hears_reply x i weight count e).live (live_so k x.live.me x answered.live) refl refl refl me

  -- ---- every step

  pub got_on : {k : NodeState} {d : TurnDraft} → Step p input k d → (y : Live) → live_at d.after b ≡ Some y → Got k y
  got_on (steps.Begins {k = k} n s read_at call begins range new step) y live = begun k n s read_at call (may_begin begins) y (got_on step y live)
  got_on (steps.Counts_call {k = k} n s call counted step) y live = counts k n y (session_at k.sessions n).root (got_on step y live)
  got_on (steps.Goes_back {k = k} x step goes next) y live = alike k _ y refl refl (got_on next y live)
  got_on (steps.Pends {k = k} n x given call has found code writer step) y live = set_alike k n (record (session_at k.sessions n) { call = pending.Commit }) y refl refl (got_on step y live)
  got_on (steps.Lets_reads_go {k = k} x comment q found begins step) y live = alike k _ y refl refl (got_on step y live)
  got_on (steps.Counts_ack {k = k} s from kept came counts step) y live = alike k _ y refl refl (got_on step y live)
  got_on (steps.Runs {k = k} x s given t ask way) y live = put k (branch_ran k.sessions x t (ran p k x.live.me s t)).live y (λ me. asked k (branch_ran k.sessions x t (ran p k x.live.me s t)).live ask refl refl refl refl me) live
  got_on (steps.Goes_nowhere {k = k} x s given r ask way) y live = put k x.live y (λ me. asked k x.live ask refl refl refl refl me) live
  got_on (steps.Calls {k = k} x s given i table ask way) y live = put k x.live y (λ me. asked k x.live ask refl refl refl refl me) live
  got_on (steps.Opens {k = k} x s given node link table ask way) y live = put k x.live y (λ me. asked k x.live ask refl refl refl refl me) live
  got_on (steps.Goes_on {k = k} x from strength g link opened) y live =
      put k (with_edge x (new_edge from link strength)).live y (λ me. like k x.live (with_edge x (new_edge from link strength)).live (live_so k x.live.me x opened.live) refl refl refl me) live
  got_on (steps.Hears_reply {k = k} x weight count a i e answered) y live =
      put k (hears_reply x i weight count e).live y (λ me. like k x.live (hears_reply x i weight count e).live (live_so k x.live.me x answered.live) refl refl refl me) live
  got_on (steps.Backs {k = k} x step from i calls next) y live = put k x.live y (λ me. calls_back k calls me) live
  got_on (steps.Is_back {k = k} x step from calls none) y live = put k x.live y (λ me. calls_back k calls me) live
  got_on (steps.Opens_branch {k = k} to parent edge root depth read_at came new) y live = elim (last_live k.lives (fresh_live (next_child p k) root (Some parent) depth (strength_of p k) read_at) b y live) [
    | inl before ↦ still k y before
    | inr last ↦ Begins last.0 (ap (λ (l : Live). l.advice) (sym last.1)) (ap (λ (l : Live). l.phase) (sym last.1)) (λ exec. (let is_open = exec_kind exec came in cc))
  ]
  got_on (steps.Acts {k = k} l q a why) y live = acted k a y why live
  got_on (steps.Drops_told {k = k} x found drops) y live = left k x.me y live
  got_on (steps.Drops_asked {k = k} x from found came parent) y live = left k x.me y live
  got_on (steps.Does {k = k} s from nexts.Rest kept why) y live = still k y live
  got_on (steps.Does {k = k} s from nexts.AckToward kept why) y live = still k y live
  got_on (steps.Does {k = k} s from nexts.SayForgotten kept why) y live = still k y live
  got_on (steps.Does {k = k} s from nexts.SayAck kept why) y live = still k y live
  got_on (steps.Does {k = k} s from (nexts.End d) kept why) y live = still k y live
  got_on (steps.Does {k = k} s from (nexts.Meet d mixed) kept why) y live = still k y live
  got_on (steps.Does {k = k} s from nexts.Forget kept why) y live = still k y live
  got_on (steps.Leaves {k = k} n s d x call ends has found) y live = left k x.live.me y live
  got_on (steps.Sets_savepoint {k = k} n x name call has code found) y live = put k (marked k.sessions x name).live y (λ me. like k x.live x.live (live_so k x.live.me x found) refl refl refl me) live
  got_on (steps.Gives_up {k = k} n x gives has calls found) y live = put k x.live y (λ me. like k x.live x.live (live_so k x.live.me x found) refl refl refl me) live
  got_on (steps.Gives_up_commit {k = k} n c (Some x) gives has calls found) y live = left k x.me y live
  got_on (steps.Gives_up_commit {k = k} n c None gives has calls found) y live = still k y live
  got_on {k = k} _ y live = still k y live
