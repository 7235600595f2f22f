-- What a turn makes of the changes of live branches: a run of a statement adds its changes, and nothing else does. A turn without a run accepts no
-- statement, unless it answers a call once more.
use Rattle.std.proofs.Common.{◌≡◌, ℕ, ◌⊎◌, not, Bool, true, false, List, Option, Some, None, inl, inr, refl, sym, ap, subst, ◌||◌, ◌∙◌, length, ◌+◌}
use Rattle.tran_ids.proofs.BranchLemmas.{equal_from_same}
use Rattle.tran_ids.proofs.ListedLemmas.{drop_gone, drop_leaves, put_found, put_leaves}
use Rattle.commit_forget.specs.declared.next.Next.TheVariants as nexts
use Rattle.node_rules.specs.Data.{Table, Stmt, Done, Advice, BranchId, Decision, Kind, Live, Act, Next, Place, Input, Post, Owned}
use Rattle.node_rules.specs.Data.acts
use Rattle.node_rules.specs.Data.answers
use Rattle.node_rules.specs.Data.inputs
use Rattle.node_rules.specs.Data.kinds
use Rattle.node_rules.specs.Data.stmts
use Rattle.node_rules.specs.Data.votes
use Rattle.session_tree.specs.Live.{peer_of, new_edge}
use Rattle.node_rules.specs.Words.{same, item_at, drop_item, put_item}
use Rattle.node_rules.specs.Inputs.{Came, IsCall, Brings, Commit_came, Rollback_came, Rolled_back_came}
use Rattle.node_rules.specs.Names.{Runs_here, way_of, passed_on}
use Rattle.node_rules.specs.NodeState.{NodeState, Branch, TurnDraft, live_id, own_id, sets_of, live_at, branch_at, nothing, saying, ending, work_at, work_id, sets_at, with_work, work_or}
use Rattle.node_rules.specs.Prepare.{act_turn}
use Rattle.node_rules.specs.Calls.{runs_here, answered, answer_says, answer_ends, exec_to, calls_over, opens_through, called, with_edge, calls_with, less_room}
use Rattle.node_rules.specs.Commit.{next_turn}
use Rattle.node_rules.specs.Client.{begun_by, begun, counted}
use Rattle.node_rules.specs.Sessions.{session_at}
use Rattle.node_rules.specs.Turn.{output_of}
use Rattle.node_rules.proofs.Steps as steps
use Rattle.node_rules.proofs.Steps.{IsOfRows, Asked, Collects, Acting, Doing, Says, Makes, Completes, Drops, Step, vote_kind, purge_of, BeginsBy, Calls_back, EndsAtOnce, Goes_to, IsCounted}
use Rattle.run_rules.specs.Runs.{is_of_rows, answered_by, is_accepted, begins_transaction, is_counted}
use Rattle.run_rules.specs.Trail.{is_exec}
use Rattle.node_rules.specs.Data.tasks
use Rattle.node_rules.specs.declared.work.Errand.{Errand}
use Rattle.node_rules.specs.declared.work.Work.{Work}
use Rattle.node_rules.specs.declared.session.Session.{Session}
use Rattle.run_base_laws.proofs.BeginLemmas.{begins_are}
use Rattle.tree_trail_laws.specs.RunLaws.{steps_of_sets}
use Rattle.node_rules.proofs.LiveLemmas.{work_is}
use Rattle.node_rules.specs.declared.work.Errand.TheVariants as errands
use Rattle.std.proofs.lemmas.Bool.{or_left, or_right}
use Rattle.tree_trail_laws.proofs.RunListLemmas.{none_noted}
use Rattle.node_rules.specs.Marks.{call_note, step_of}

-- ---- statements that come

-- whether a message is an Exec that runs a statement
abbrev pub is_run : Kind → Bool
is_run (kinds.Exec call (tasks.Run given advice s)) = true
is_run _ = false

-- whether it is BACK
abbrev pub is_way_back : Kind → Bool
is_way_back (kinds.Exec call (tasks.GoBack keep)) = true
is_way_back _ = false

-- whether an input is neither a call within a transaction nor BACK
abbrev pub is_plain : Input → Bool
is_plain (inputs.Call n (Some s)) = not (begins_transaction s || is_counted s)
is_plain (inputs.Message m) = not (is_way_back m.kind)
is_plain _ = true

abbrev pub IsPlain : Input → Type 0
IsPlain input = is_plain input ≡ true

-- whether an input brings no statement with a table
abbrev pub brings_none : Input → Bool
brings_none (inputs.Call n (Some s)) = not (is_of_rows s)
brings_none (inputs.Message m) = not (is_run m.kind)
brings_none _ = true

abbrev pub BringsNone : Input → Type 0
BringsNone input = brings_none input ≡ true

-- a call that was answered comes again to its live branch
abbrev pub Repeats : NodeState → Input → Type 0
Repeats k input = (x : Branch) × (from : BranchId) × (call given : ℕ) × (advice : Option Advice) × (s : Stmt) × Came input from x.live.me (kinds.Exec call (tasks.Run given advice s))
    × (branch_at k x.live.me ≡ Some x) × (x.work.came.last_call ≡ call)

pub of_rows : (s : Stmt) → IsOfRows s → is_of_rows s ≡ true
of_rows (stmts.Insert table columns given) is = refl
of_rows (stmts.Update table sets cs) is = refl
of_rows (stmts.Delete table cs) is = refl
of_rows (stmts.Select list table cs for_update) is = refl
of_rows _ is = absurd is

no_run : (kind : Kind) → is_exec kind ≡ false → is_run kind ≡ false
no_run (kinds.Exec call task) none = absurd cc
no_run _ none = refl

pub counted_rows : (s : Stmt) → IsOfRows s → is_counted s ≡ true
counted_rows (stmts.Insert table columns given) rows = refl
counted_rows (stmts.Update table sets cs) rows = refl
counted_rows (stmts.Delete table cs) rows = refl
counted_rows (stmts.Select list table cs for_update) rows = refl
counted_rows _ rows = absurd rows

pub counted_is : (s : Stmt) → IsCounted s → is_counted s ≡ true
counted_is (stmts.Savepoint name) counts = refl
counted_is (stmts.RollbackTo name) counts = refl
counted_is s counts = counted_rows s counts

module _ (input : Input) where
  pub called_none : (n : ℕ) (s : Stmt) → IsCall input n s → is_of_rows s ≡ false → BringsNone input
  called_none n s is none = subst BringsNone (sym is) (ap not none)

  pub came_none : {from to : BranchId} {kind : Kind} → Came input from to kind → is_exec kind ≡ false → BringsNone input
  came_none {kind = kind} came none = subst BringsNone (sym came.is) (ap not (no_run kind none))

  -- what begins a transaction or counts is no plain call
  begins_apart : (n : ℕ) (s : Stmt) → IsCall input n s → begins_transaction s ≡ true → IsPlain input → ⊥
  begins_apart n s call begins plain =
      let not_so : not (begins_transaction s || is_counted s) ≡ true = subst IsPlain call plain in
      let so : (begins_transaction s || is_counted s) ≡ true = or_left (begins_transaction s) (is_counted s) begins in
      absurd (cc (not_so, so))

  counts_apart : (n : ℕ) (s : Stmt) → IsCall input n s → is_counted s ≡ true → IsPlain input → ⊥
  counts_apart n s call counts plain =
      let not_so : not (begins_transaction s || is_counted s) ≡ true = subst IsPlain call plain in
      let so : (begins_transaction s || is_counted s) ≡ true = or_right (begins_transaction s) (is_counted s) counts in
      absurd (cc (not_so, so))

  back_apart : {from to : BranchId} {call keep : ℕ} → Came input from to (kinds.Exec call (tasks.GoBack keep)) → IsPlain input → ⊥
  back_apart came plain = (let not_so : false ≡ true = subst IsPlain came.is plain in absurd cc)

  asked_some : {k : NodeState} {x : Branch} {s : Stmt} {given : ℕ} → Asked k input x s given → BringsNone input → ⊥
  asked_some (steps.By_call n x s call rows has code found may) none =
      let some : not (is_of_rows s) ≡ true = subst BringsNone call none in
      let row : is_of_rows s ≡ true = of_rows s rows in
      absurd (cc (some, row))
  asked_some (steps.By_exec x from call given advice s came found runs) none = let some : false ≡ true = subst BringsNone came.is none in absurd cc

  pub collects_none : {k : NodeState} {l : Live} {comment : List ℕ} {q : Bool} → Collects k input l comment q → BringsNone input
  collects_none (steps.By_commit n given call has code writer is) = called_none n (stmts.Commit given) call refl
  collects_none (steps.By_prepare from q came working) = came_none came refl

  vote_none : {from to : BranchId} {kind : Kind} (v : _) → vote_kind v ≡ Some kind → Came input from to kind → BringsNone input
  vote_none votes.Prepared is came = came_none came (let it : Some kinds.Prepared ≡ Some _ = is in cc)
  vote_none votes.ReadOnly is came = came_none came (let it : Some kinds.ReadOnly ≡ Some _ = is in cc)
  vote_none votes.Ready is came = came_none came (let it : Some kinds.Ready ≡ Some _ = is in cc)
  vote_none votes.Abort is came = came_none came (let it : Some kinds.Abort ≡ Some _ = is in cc)
  vote_none _ is came = absurd cc

  acting_none : {k : NodeState} {l : Live} {q : Bool} {a : Act} → Acting k input l q a → BringsNone input
  acting_none (steps.Asks_down l comment q e es found begins has) = collects_none begins
  acting_none (steps.Has_no_children l comment q a found begins none collected) = collects_none begins
  acting_none (steps.Hears_abort l from q found answers) = vote_none votes.Abort answers.is_vote answers.came
  acting_none (steps.Waits_on l from v q found answers other some) = vote_none v answers.is_vote answers.came
  acting_none (steps.Hears_last l from v q a found answers other all collected) = vote_none v answers.is_vote answers.came
  acting_none (steps.At_point l from a found came is pointed) = came_none came refl

  brought_none : {from to : BranchId} {d : Decision} → Brings input from to d → BringsNone input
  brought_none (Commit_came n came) = came_none came refl
  brought_none (Rollback_came came) = came_none came refl
  brought_none (Rolled_back_came came) = came_none came refl

  drops_none : {l : Live} → Drops input l → BringsNone input
  drops_none (steps.By_rollback from came) = came_none came refl
  drops_none (steps.By_parent from came parent) = came_none came refl

  completes_none : (n : ℕ) (s : Stmt) (d : Done) → IsCall input n s → Completes s d → BringsNone input
  completes_none n _ _ call (steps.Commits_nothing comment) = called_none n (stmts.Commit comment) call refl
  completes_none n _ _ call steps.Rolls_nothing_back = called_none n stmts.Rollback call refl

  makes_none : {k : NodeState} {n : ℕ} {s : Stmt} {r : _} {d : Done} → IsCall input n s → Makes k s r d → BringsNone input
  makes_none call (steps.Makes_table t free) = called_none _ (stmts.CreateTable t) call refl
  makes_none call (steps.Makes_link l free) = called_none _ (stmts.CreateLink l) call refl
  makes_none call (steps.Makes_synonym y free) = called_none _ (stmts.CreateSynonym y) call refl
  makes_none call (steps.Sets_recovery on) = called_none _ (stmts.Recovery on) call refl
  makes_none call (steps.Sets_strength strength) = called_none _ (stmts.SetStrength strength) call refl

  ends_none : {n : ℕ} {s : Stmt} {d : Done} {code read_at : Option ℕ} → IsCall input n s → EndsAtOnce code read_at s d → BringsNone input
  ends_none {n = n} call steps.By_rollback_call = called_none n stmts.Rollback call refl
  ends_none {n = n} call (steps.By_reading comment scn open_so reads) = called_none n (stmts.Commit comment) call refl

  purge_none : (n : ℕ) (mixed : Bool) (id : List ℕ) → IsCall input n (purge_of mixed id) → BringsNone input
  purge_none n true id call = called_none n (stmts.PurgeMixed id) call refl
  purge_none n false id call = called_none n (stmts.PurgeLost id) call refl

-- ---- the node of a run

-- A node, as a statement runs there: a transaction may have begun for it, and its call may have been counted.
pub data From (p : Place) (input : Input) : NodeState → NodeState → Type 0 where
  Itself : (k : NodeState) → From p input k k
  Begun : {k j : NodeState} (n : ℕ) (s : Stmt) (read_at : Option ℕ) → IsCall input n s → BeginsBy k.clock s read_at → (session_at k.sessions n).root ≡ None → From p input (begun_by p k n read_at None) j → From p input k j
  Counted : {k j : NodeState} (n : ℕ) (s : Stmt) → IsCall input n s → IsCounted s → From p input (counted k n) j → From p input k j

-- A statement ran in a turn.
pub record HasRun (p : Place) (input : Input) (k : NodeState) (d : TurnDraft) : Type 0 where
  pub at : NodeState
  pub from : From p input k at
  pub branch : Branch
  pub statement : Stmt
  pub room : ℕ
  pub table : Table
  pub asked : Asked at input branch statement room
  pub way : way_of p at.stored.durable branch.live room statement ≡ Runs_here table
  pub is : d ≡ runs_here p at branch statement table
  pub counts : (n : ℕ) (s : Stmt) → IsCall input n s → at ≡ begun p k n

-- The sets of changes of a branch, what its notes count, and its savepoints are as before.
pub record SameWork (owns : List Owned) (works : List Work) (os : List Owned) (ws : List Work) (b : BranchId) : Type 0 where
  pub sets : sets_at os b ≡ sets_at owns b
  pub steps : steps_of_sets (work_or b (item_at work_id ws b)).marks.notes ≡ steps_of_sets (work_or b (item_at work_id works b)).marks.notes
  pub savepoints : (work_or b (item_at work_id ws b)).marks.savepoints ≡ (work_or b (item_at work_id works b)).marks.savepoints

-- so are those of each branch that is live after it
abbrev pub SameOwn : NodeState → TurnDraft → Type 0
SameOwn k d = (b : BranchId) (l : Live) → live_at d.after b ≡ Some l → SameWork k.owns k.works d.after.owns d.after.works b

-- no statement is accepted: none came, or it was not answered or refused, or it is one that was answered before
abbrev pub AcceptsNone : NodeState → Input → TurnDraft → Type 0
AcceptsNone k input d = BringsNone input ⊎ ((is_accepted (answered_by (Some (output_of d))) ≡ false) ⊎ Repeats k input)

-- What a turn without a run does.
pub record Rests (k : NodeState) (input : Input) (d : TurnDraft) : Type 0 where
  pub own : SameOwn k d
  pub accepts : AcceptsNone k input d

-- ---- the marks of a branch

-- those of these calls are those of a branch
abbrev pub MarksAs : List Work → Work → BranchId → Type 0
MarksAs works w b =
    (steps_of_sets w.marks.notes ≡ steps_of_sets (work_or b (item_at work_id works b)).marks.notes) × (w.marks.savepoints ≡ (work_or b (item_at work_id works b)).marks.savepoints)

-- its calls are put
pub put_same : (owns : List Owned) (works : List Work) (w : Work) (b : BranchId) → (w.branch ≡ b → MarksAs works w b) → SameWork owns works owns (put_item work_id works w) b
put_same owns works w b so = by (same w.branch b) refl
  where
    by : (q : Bool) → same w.branch b ≡ q → SameWork owns works owns (put_item work_id works w) b
    by true here =
        let one : w.branch ≡ b = equal_from_same w.branch b here in
        let found : item_at work_id (put_item work_id works w) b ≡ Some w = subst (λ c. item_at work_id (put_item work_id works w) c ≡ Some w) one (put_found work_id works w) in
        record {
          sets = refl;
          steps = ap (λ o. steps_of_sets (work_or b o).marks.notes) found ∙ (so one).0;
          savepoints = ap (λ o. (work_or b o).marks.savepoints) found ∙ (so one).1;
        }
    by false other =
        let leaves = put_leaves work_id works w b other in
        record { sets = refl; steps = ap (λ o. steps_of_sets (work_or b o).marks.notes) leaves; savepoints = ap (λ o. (work_or b o).marks.savepoints) leaves }

-- the calls of a branch that is found are its own
pub found_work : (k : NodeState) (x : Branch) → branch_at k x.live.me ≡ Some x → x.work ≡ work_at k x.live.me
found_work k x found = by (live_at k x.live.me) refl found
  where
    by : (o : Option Live) → live_at k x.live.me ≡ o → with_work k o ≡ Some x → x.work ≡ work_at k x.live.me
    by None is found = absurd cc
    by (Some l) is found =
        let one : record { live = l; work = work_at k l.me } ≡ x = (let it : Some (record { live = l; work = work_at k l.me }) ≡ Some x = found in cc) in
        sym (ap (λ (y : Branch). y.work) one) ∙ ap (λ (y : Branch). work_at k y.live.me) one

pub found_marks : (k : NodeState) (x : Branch) → branch_at k x.live.me ≡ Some x → (b : BranchId) → x.work.branch ≡ b → MarksAs k.works x.work b
found_marks k x found b me =
    let its : x.work ≡ work_at k b = found_work k x found ∙ ap (work_at k) (sym (work_is k x.live.me x found) ∙ me) in
    (ap (λ (w : Work). steps_of_sets w.marks.notes) its, ap (λ (w : Work). w.marks.savepoints) its)

asked_marks : {input : Input} (k : NodeState) {x : Branch} {s : Stmt} {given : ℕ} → Asked k input x s given → (b : BranchId) → x.work.branch ≡ b → MarksAs k.works x.work b
asked_marks k (steps.By_call n x s call rows has code found may) b me = found_marks k x found b me
asked_marks k (steps.By_exec x from call given advice s came found runs) b me = found_marks k x found b me

-- with a call noted
pub called_marks : (works : List Work) (ss : List Session) (x : Branch) (i : ℕ) (e : Errand) (b : BranchId) → MarksAs works x.work b → MarksAs works (called ss x i e).work b
called_marks works ss x i e b so = (none_noted x.work.marks.notes (call_note (step_of ss x) (calls_with x.work i)) refl ∙ so.0, so.1)

-- a branch that leaves takes its changes along, and no other's
left_own : (k : NodeState) (b c : BranchId) (l : Live) → item_at live_id (drop_item live_id k.lives b) c ≡ Some l → SameWork k.owns k.works (drop_item own_id k.owns b) (drop_item work_id k.works b) c
left_own k b c l live = by (same b c) refl
  where
    by : (q : Bool) → same b c ≡ q → SameWork k.owns k.works (drop_item own_id k.owns b) (drop_item work_id k.works b) c
    by true here =
        let one : b ≡ c = equal_from_same b c here in
        let gone : item_at live_id (drop_item live_id k.lives b) c ≡ None = subst (λ x. item_at live_id (drop_item live_id k.lives b) x ≡ None) one (drop_gone live_id k.lives b) in
        absurd (cc (gone, live))
    by false other =
        let calls = drop_leaves work_id k.works b c other in
        record {
          sets = ap sets_of (drop_leaves own_id k.owns b c other);
          steps = ap (λ o. steps_of_sets (work_or c o).marks.notes) calls;
          savepoints = ap (λ o. (work_or c o).marks.savepoints) calls;
        }

pub as_before : (owns : List Owned) (works : List Work) (b : BranchId) → SameWork owns works owns works b
as_before owns works b = record { sets = refl; steps = refl; savepoints = refl }

act_own : (k : NodeState) (l : Live) (q : Bool) (a : Act) → SameOwn k (act_turn k l q a)
act_own k l q acts.Rest b y live = as_before k.owns k.works b
act_own k l q acts.AskDown b y live = as_before k.owns k.works b
act_own k l q acts.SayReady b y live = as_before k.owns k.works b
act_own k l q _ b y live = left_own k l.me b y live

-- ---- a step

pub refused_not : (k : NodeState) (x : Branch) (r : _) → is_accepted (answered_by (Some (output_of (answered k x (answers.Refused r))))) ≡ false
refused_not k x r = by x.live.parent
  where
    by : (o : Option BranchId) → is_accepted (answered_by (Some (output_of (record (answered k x (answers.Refused r)) { says = answer_says x (answers.Refused r) o; ended = answer_ends x.live (answers.Refused r) o })))) ≡ false
    by None = refl
    by (Some parent) = refl

pub calls_not : (k : NodeState) (x : Branch) (i : ℕ) (e : Errand) → is_accepted (answered_by (Some (output_of (calls_over k x i e)))) ≡ false
calls_not k x i e = by (peer_of x.live i)
  where
    by : (o : Option BranchId) → is_accepted (answered_by (Some (output_of (record (calls_over k x i e) { says = exec_to k.sessions x i e o })))) ≡ false
    by None = refl
    by (Some peer) = refl

module _ (p : Place) (input : Input) where
  -- a run happened, or none
  abbrev pub Turns : NodeState → TurnDraft → Type 0
  Turns k d = HasRun p input k d ⊎ Rests k input d

  none : (k : NodeState) (d : TurnDraft) → SameOwn k d → BringsNone input → Turns k d
  none k d own is = inr (record { own = own; accepts = inl is })

  not_yet : (k : NodeState) (d : TurnDraft) → SameOwn k d → is_accepted (answered_by (Some (output_of d))) ≡ false → Turns k d
  not_yet k d own is = inr (record { own = own; accepts = inr (inl is) })

  said : (k : NodeState) (ps : List Post) → Says k input ps → AcceptsNone k input (saying k ps)
  said k _ (steps.Gone_replies to from call task came gone) = inr (inl refl)
  said k _ (steps.Gone_aborts to from q comment came gone) = inl (came_none input came refl)
  said k _ (steps.Gone_rolls_back to from (inl came) gone) = inl (came_none input came refl)
  said k _ (steps.Gone_rolls_back to from (inr came) gone) = inl (came_none input came refl)
  said k _ (steps.Gone_acks to from n came gone) = inl (came_none input came refl)
  said k _ (steps.Gone_forgets to from came gone) = inl (came_none input came refl)
  said k _ (steps.Replies_again x to call (tasks.Run given advice s) t came found last reply) = inr (inr (x, to, call, given, advice, s, came, found, last))
  said k _ (steps.Replies_again x to call (tasks.GoBack keep) t came found last reply) = inl (subst BringsNone (sym came.is) refl)
  said k _ (steps.Opened_again to parent edge root depth read_at o came found) = inl (came_none input came refl)
  said k _ (steps.Prepared_again s from q comment came kept asked) = inl (came_none input came refl)
  said k _ (steps.Knows_commit s from n came kept knows) = inl (came_none input came refl)
  said k _ (steps.Knows_rollback s from came kept knows) = inl (came_none input came refl)
  said k _ (steps.Is_in_doubt l from came live parent) = inl (came_none input came refl)
  said k _ (steps.Tells s from came kept) = inl (came_none input came refl)
  said k _ (steps.Recovers is) = inl (subst BringsNone (sym is) refl)

  -- a run can't have happened where no statement came
  unless_run : {j : NodeState} {d : TurnDraft} → BringsNone input → Turns j d → SameOwn j d
  unless_run is (inl ran) = absurd (asked_some input ran.asked is)
  unless_run is (inr rests) = rests.own

  doing : (k : NodeState) (s : _) (from : BranchId) (n : Next) → Doing k.clock input s from n → Turns k (next_turn k s from n)
  doing k s from nexts.Rest why = not_yet k (nothing k) (λ b l live. as_before k.owns k.works b) refl
  doing k s from nexts.AckToward (steps.Acks_on came knows forgot acked toward) = none k _ (λ b l live. as_before k.owns k.works b) (came_none input came refl)
  doing k s from nexts.SayForgotten (steps.Has_forgotten came knows forgot) = none k _ (λ b l live. as_before k.owns k.works b) (came_none input came refl)
  doing k s from nexts.SayAck (steps.Acks_again n m came toward knows acked) = none k _ (λ b l live. as_before k.owns k.works b) (came_none input came refl)
  doing k s from nexts.Forget (steps.Forgets_first came knows forgot acked toward) = none k _ (λ b l live. as_before k.owns k.works b) (came_none input came refl)
  doing k s from nexts.Forget (steps.Forgets_after came knows toward forgot) = none k _ (λ b l live. as_before k.owns k.works b) (came_none input came refl)
  doing k s from (nexts.End e) (steps.Ends_so d brings toward new sealed met) = none k _ (λ b l live. as_before k.owns k.works b) (brought_none input brings)
  doing k s from (nexts.Meet e mixed) (steps.Meets_so d brings toward new sealed committed met) = none k _ (λ b l live. as_before k.owns k.works b) (brought_none input brings)

  -- a plain message that brings a statement is no call
  not_called : {k : NodeState} {x : Branch} {s : Stmt} {given : ℕ} → Asked k input x s given → IsPlain input → (n : ℕ) (u : Stmt) → IsCall input n u → ⊥
  not_called (steps.By_call m x s call rows has code found may) plain n u other = counts_apart input m s call (counted_rows s rows) plain
  not_called (steps.By_exec x from call given advice s came found runs) plain n u other = (let one = came.is in absurd (cc (one, other)))

  goes_apart : {k : NodeState} {x : Branch} {step : ℕ} → Goes_to k input x step → IsPlain input → ⊥
  goes_apart (steps.By_rollback_to n x name step call has code found set) plain = counts_apart input n (stmts.RollbackTo name) call refl plain
  goes_apart (steps.By_back x from call keep came found runs) plain = back_apart input came plain

  -- a branch whose child has gone back
  calling_heard : {k : NodeState} {x : Branch} {step from : ℕ} → Calls_back k input x step from → IsPlain input → BringsNone input × ((b : BranchId) → x.work.branch ≡ b → MarksAs k.works x.work b)
  calling_heard (steps.Has_gone j x step goes is) plain = absurd (goes_apart goes plain)
  calling_heard {k = k} (steps.Has_heard x weight count a i e g step answered going errand done) plain = (came_none input answered.came refl, (λ b me. found_marks k x answered.live b me))

  pub turns_on : {k : NodeState} {d : TurnDraft} → Step p input k d → IsPlain input → Turns k d
  turns_on (steps.Begins n s read_at call begins range new step) plain = absurd (begins_apart input n s call (begins_are begins) plain)
  turns_on (steps.Counts_call n s call counts step) plain = absurd (counts_apart input n s call (counted_is s counts) plain)
  turns_on (steps.Goes_back x step goes next) plain = absurd (goes_apart goes plain)
  turns_on (steps.Pends {k = k} {d = d} n l given call has found code writer step) plain = none k d (unless_run (called_none input n (stmts.Commit given) call refl) (turns_on step plain)) (called_none input n (stmts.Commit given) call refl)
  turns_on (steps.Lets_reads_go {k = k} {d = d} l comment q found begins step) plain = none k d (unless_run (collects_none input begins) (turns_on step plain)) (collects_none input begins)
  turns_on (steps.Counts_ack {k = k} {d = d} s from kept came counts step) plain = none k d (unless_run (came_none input came refl) (turns_on step plain)) (came_none input came refl)
  turns_on (steps.Rests {k = k}) plain = not_yet k (nothing k) (λ b l live. as_before k.owns k.works b) refl
  turns_on (steps.Sends {k = k} ps says) plain = inr (record { own = λ b l live. as_before k.owns k.works b; accepts = said k ps says })
  turns_on (steps.Runs {k = k} x s given t asked way) plain =
      inl (record { at = k; from = Itself k; branch = x; statement = s; room = given; table = t; asked = asked; way = way; is = refl; counts = λ n u call. absurd (not_called asked plain n u call) })
  turns_on (steps.Goes_nowhere {k = k} x s given r asked way) plain = not_yet k (answered k x (answers.Refused r)) (λ b l live. put_same k.owns k.works _ b (asked_marks k asked b)) (refused_not k x r)
  turns_on (steps.Calls {k = k} x s given i table asked way) plain =
      let e : Errand = errands.Statement (passed_on s table) given in
      not_yet k (calls_over k x i e) (λ b l live. put_same k.owns k.works _ b (λ me. called_marks k.works k.sessions x i e b (asked_marks k asked b me))) (calls_not k x i e)
  turns_on (steps.Opens {k = k} x s given node link table asked way) plain = not_yet k (opens_through k x node link (passed_on s table) given) (λ b l live. put_same k.owns k.works _ b (asked_marks k asked b)) refl
  turns_on (steps.Goes_on {k = k} x from strength g link opened) plain =
      none k _ (λ b l live. put_same k.owns k.works _ b (λ me. called_marks k.works k.sessions (with_edge x (new_edge from link strength)) (length x.live.edges + 1) (less_room g.errand) b (found_marks k x opened.live b me)))
      (came_none input opened.came refl)
  turns_on (steps.Hears_reply {k = k} x weight count a i e answered) plain = none k _ (λ b l live. put_same k.owns k.works _ b (found_marks k x answered.live b)) (came_none input answered.came refl)
  turns_on (steps.Backs {k = k} x step from i calls next) plain =
      let heard_it = calling_heard calls plain in none k _ (λ b l live. put_same k.owns k.works _ b (λ me. called_marks k.works k.sessions x i (errands.GoBack step) b (heard_it.1 b me))) heard_it.0
  turns_on (steps.Is_back {k = k} x step from calls none_left) plain = (let heard_it = calling_heard calls plain in none k _ (λ b l live. put_same k.owns k.works _ b (heard_it.1 b)) heard_it.0)
  turns_on (steps.Opens_branch {k = k} to parent edge root depth read_at came new) plain = none k _ (λ b l live. as_before k.owns k.works b) (came_none input came refl)
  turns_on (steps.Acts {k = k} l q a why) plain = none k (act_turn k l q a) (act_own k l q a) (acting_none input why)
  turns_on (steps.Drops_told {k = k} l found drops) plain = none k _ (λ b y live. left_own k l.me b y live) (drops_none input drops)
  turns_on (steps.Drops_asked {k = k} l from found came parent) plain = none k _ (λ b y live. left_own k l.me b y live) (came_none input came refl)
  turns_on (steps.Does {k = k} s from n kept why) plain = doing k s from n why
  turns_on (steps.Refuses {k = k} n s r is) plain = not_yet k (ending k n (answers.Refused r)) (λ b l live. as_before k.owns k.works b) refl
  turns_on (steps.Completes_at_once {k = k} n s d call completes free) plain = none k _ (λ b l live. as_before k.owns k.works b) (completes_none input n s d call completes)
  turns_on (steps.Makes_record {k = k} n s r d call makes) plain = none k _ (λ b l live. as_before k.owns k.works b) (makes_none input call makes)
  turns_on (steps.Forces_given {k = k} n id m b call named) plain = none k _ (λ c l live. as_before k.owns k.works c) (called_none input n (stmts.CommitForce id (Some m)) call refl)
  turns_on (steps.Forces_commit {k = k} n id b call named) plain = none k _ (λ c l live. as_before k.owns k.works c) (called_none input n (stmts.CommitForce id None) call refl)
  turns_on (steps.Forces_rollback {k = k} n id b call named) plain = none k _ (λ c l live. as_before k.owns k.works c) (called_none input n (stmts.RollbackForce id) call refl)
  turns_on (steps.Hides {k = k} n mixed id s call found) plain = none k _ (λ b l live. as_before k.owns k.works b) (purge_none input n mixed id call)
  turns_on (steps.Advises {k = k} n a call) plain = none k _ (λ b l live. as_before k.owns k.works b) (called_none input n (stmts.Advise a) call refl)
  turns_on (steps.Leaves {k = k} n s d x call ends has found) plain = none k _ (λ b y live. left_own k x.live.me b y live) (ends_none input call ends)
  turns_on (steps.Sets_read_only {k = k} n call) plain = none k _ (λ b l live. as_before k.owns k.works b) (called_none input n stmts.SetReadOnly call refl)
  turns_on (steps.Sets_savepoint {k = k} n x name call has code found) plain = absurd (counts_apart input n (stmts.Savepoint name) call refl plain)
  turns_on (steps.Images {k = k} is) plain = none k _ (λ b l live. as_before k.owns k.works b) (subst BringsNone (sym is) refl)
  turns_on (steps.Gives_up {k = k} n x gives has calls found) plain = none k _ (λ b l live. put_same k.owns k.works _ b (found_marks k x found b)) (subst BringsNone (sym gives) refl)
  turns_on (steps.Gives_up_commit {k = k} n c (Some l) gives has calls found) plain = none k _ (λ b y live. left_own k l.me b y live) (subst BringsNone (sym gives) refl)
  turns_on (steps.Gives_up_commit {k = k} n c None gives has calls found) plain = none k _ (λ b l live. as_before k.owns k.works b) (subst BringsNone (sym gives) refl)
