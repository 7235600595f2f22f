-- What a call within a transaction and BACK do at a node: a statement with a table runs, is refused or goes on to a child; a savepoint is set; a branch
-- goes back to a savepoint; else the works of branches stay as they are.
use Rattle.std.proofs.Common.{◌≡◌, ◌≢◌, ℕ, zero, suc, ◌+◌, ◌-◌, ◌==◌, ◌&&◌, ◌⊎◌, Bool, true, false, if◌then◌else◌, List, [], filter, take, length, nat_le, is_none, is_some, unwrap_or, Option, Some, None, inl, inr, refl, sym, ap, subst, ◌∙◌, arith}
use Rattle.std.specs.Prelude.{nat_lt}
use Rattle.tran_ids.proofs.ListedLemmas.{item_is, put_found, put_leaves}
use Rattle.tran_ids.proofs.NumberedLemmas.{set_found, set_leaves}
use Rattle.node_rules.specs.Data.{Stmt, Answer, BranchId, KeptRow, Live, Place, Input, Owned, ChangeSet}
use Rattle.node_rules.specs.declared.session.Session.{Session}
use Rattle.node_rules.specs.declared.session.PendingCall.{PendingCall}
use Rattle.node_rules.specs.declared.work.Work.{Work}
use Rattle.node_rules.specs.Data.answers
use Rattle.node_rules.specs.Data.admits
use Rattle.node_rules.specs.Data.dones
use Rattle.node_rules.specs.declared.work.Errand.TheVariants as errands
use Rattle.node_rules.specs.Data.inputs
use Rattle.node_rules.specs.declared.session.PendingCall.TheVariants as pending
use Rattle.node_rules.specs.Data.tasks
use Rattle.node_rules.specs.declared.work.Errand.{Errand}
use Rattle.session_tree.specs.Live.{peer_of}
use Rattle.row_store.specs.Store.{less_sets}
use Rattle.node_rules.specs.Words.{same, item_at, put_item, one}
use Rattle.node_rules.specs.Ids.{decimal}
use Rattle.node_rules.specs.Refusals.{ora, dtx}
use Rattle.node_rules.specs.Inputs.{IsSession, IsCall}
use Rattle.node_rules.specs.Names.{Way, Runs_here, Over, Through, Nowhere_to, way_of, passed_on, is_write}
use Rattle.node_rules.specs.NodeState.{NodeState, TurnDraft, Branch, own_id, work_id, sets_of, sets_at, work_or, work_at, with_work, live_at, branch_at, kept_row_at, with_branch, nothing}
use Rattle.node_rules.specs.Sessions.{session_at, fresh_session, with_call, with_call_of, with_root}
use Rattle.node_rules.specs.Marks.{savepoint_at, sets_behind, owns_back, node_back, branch_back, next_back, call_note, step_of}
use Rattle.savepoints.specs.Marks.{notes_until}
use Rattle.node_rules.specs.Calls.{admit, answered, answer_says, answer_ends, with_answer, called, answered_sessions, call_pends, calls_over, calls_with, exec_to, goes, statement_at, backs_to, goes_back, takes_call, exec_by, on_exec}
use Rattle.node_rules.specs.Client.{begun, begun_by, counted, new_root, root_at, refuses, did, allowed_at, statement_by, statement_call, marked, savepoint_by, savepoint_call, back_by, back_call, back_to_savepoint, read_only_by}
use Rattle.node_rules.specs.Turn.{output_of, status_of, live_or, exec_turn}
use Rattle.node_rules.proofs.LiveLemmas.{work_is}
use Rattle.node_rules.proofs.StandLemmas.{RootSo, root_so, count_set, branch_is}
use Rattle.node_rules.proofs.Steps.{IsOfRows, HasRoot, IsCounted, By_call, By_rows}
use Rattle.run_rules.specs.Runs.{answered_by, is_accepted, is_refused}
use Rattle.run_rules.proofs.AtNodeLemmas.{item_there}
use Rattle.run_base_laws.proofs.RootLemmas.{SessionsFit, begun_so, counted_so, counted_session, session_or_before}
use Rattle.tree_trail_laws.specs.RunLaws.{steps_of_sets}
use Rattle.tree_trail_laws.proofs.OwnStepLemmas.{From, Itself, Begun, Counted, HasRun, SameWork, SameOwn, put_same, found_marks, called_marks, as_before, refused_not, calls_not}
use Rattle.tree_trail_laws.proofs.RunListLemmas.{none_noted}

-- ---- the calls of sessions

-- each session has as many calls
abbrev pub CallsAs : List Session → List Session → Type 0
CallsAs ss ts = (m : ℕ) → (session_at ts m).calls ≡ (session_at ss m).calls

call_keeps : (ss : List Session) (n : ℕ) (c : PendingCall) → CallsAs ss (with_call ss n c)
call_keeps ss n c m = elim (session_or_before ss n m (record (session_at ss n) { call = c })) [
  | inl still ↦ ap (λ (s : Session). s.calls) still
  | inr new ↦ ap (λ (s : Session). s.calls) new.1 ∙ ap (λ i. (session_at ss i).calls) new.0
]

pends_keeps : (ss : List Session) (l : Live) → CallsAs ss (call_pends ss l)
pends_keeps ss l = by (is_none l.parent)
  where
    by : (q : Bool) → CallsAs ss (if q then with_call ss l.me.session pending.Statement else ss)
    by true = call_keeps ss l.me.session pending.Statement
    by false = λ m. refl

answered_keeps : (ss : List Session) (l : Live) (o : Option BranchId) → CallsAs ss (answered_sessions ss l o)
answered_keeps ss l None = call_keeps ss l.me.session pending.NoCall
answered_keeps ss l (Some parent) = λ m. refl

-- A call counted, or not, at a session's transaction, which it begins where there is none.
pub record Counting (counts : Bool) (p : Place) (k j : NodeState) (n : ℕ) : Type 0 where
  pub others : (m : ℕ) → n ≢ m → (session_at j.sessions m).calls ≡ (session_at k.sessions m).calls
  pub old : (r : BranchId) → HasRoot k n r → ((session_at j.sessions n).calls ≡ (if counts then (session_at k.sessions n).calls + 1 else (session_at k.sessions n).calls)) × HasRoot j n r

-- with the transaction that begins
abbrev pub NewCounting : Bool → Place → NodeState → NodeState → ℕ → Type 0
NewCounting counts p k j n = (session_at k.sessions n).root ≡ None → ((session_at j.sessions n).calls ≡ (if counts then 1 else 0)) × HasRoot j n (new_root p k n)

counted_others : (ss : List Session) (n : ℕ) (o : Option BranchId) (m : ℕ) → n ≢ m → session_at (with_call_of ss n o) m ≡ session_at ss m
counted_others ss n None m other = refl
counted_others ss n (Some r) m other = ap (λ o. unwrap_or o fresh_session) (set_leaves ss n m (record (session_at ss n) { calls = (session_at ss n).calls + 1 }) other)

root_others : (ss : List Session) (n : ℕ) (b : BranchId) (m : ℕ) → n ≢ m → session_at (with_root ss n b) m ≡ session_at ss m
root_others ss n b m other = ap (λ o. unwrap_or o fresh_session) (set_leaves ss n m (record (session_at ss n) { seq = b.seq; root = Some b; calls = 0 }) other)

counted_root : (ss : List Session) (n : ℕ) (r : BranchId) → (session_at ss n).root ≡ Some r → (session_at (with_call_of ss n (session_at ss n).root) n).root ≡ Some r
counted_root ss n r has = ap (λ (s : Session). s.root) (counted_session ss n n (session_at ss n).root).1 ∙ has

module _ (p : Place) (k : NodeState) (fits : SessionsFit k) (n : ℕ) where
  pub counted_counts : Counting true p k (counted k n) n
  counted_counts = record {
    others = λ m other. ap (λ (s : Session). s.calls) (counted_others k.sessions n (session_at k.sessions n).root m other);
    old = λ r has. (ap (λ (s : Session). s.calls) (count_set k.sessions n r has), counted_root k.sessions n r has);
  }

  begun_others : (o : Option BranchId) (m : ℕ) → n ≢ m → session_at (counted (begun_by p k n None o) n).sessions m ≡ session_at k.sessions m
  begun_others (Some r) m other = counted_others k.sessions n (session_at k.sessions n).root m other
  begun_others None m other =
      let ss : List Session = with_root k.sessions n (new_root p k n) in
      counted_others ss n (session_at ss n).root m other ∙ root_others k.sessions n (new_root p k n) m other

  pub begun_counts : Counting true p k (begun p k n) n
  begun_counts = record {
    others = λ m other. ap (λ (s : Session). s.calls) (begun_others (session_at k.sessions n).root m other);
    old = λ r has. subst (λ o. ((session_at (counted (begun_by p k n None o) n).sessions n).calls ≡ (session_at k.sessions n).calls + 1) × HasRoot (counted (begun_by p k n None o) n) n r) (sym has)
        (ap (λ (s : Session). s.calls) (count_set k.sessions n r has), counted_root k.sessions n r has);
  }

  only_counts : (read_at : Option ℕ) (o : Option BranchId) (m : ℕ) → n ≢ m → session_at (begun_by p k n read_at o).sessions m ≡ session_at k.sessions m
  only_counts read_at (Some r) m other = refl
  only_counts read_at None m other = root_others k.sessions n (new_root p k n) m other

  pub only_begun : (read_at : Option ℕ) → Counting false p k (begun_by p k n read_at (session_at k.sessions n).root) n
  only_begun read_at = record {
    others = λ m other. ap (λ (s : Session). s.calls) (only_counts read_at (session_at k.sessions n).root m other);
    old = λ r has. subst (λ o. ((session_at (begun_by p k n read_at o).sessions n).calls ≡ (session_at k.sessions n).calls) × HasRoot (begun_by p k n read_at o) n r) (sym has) (refl, has);
  }

  -- the session with its new transaction
  new_there : IsSession n → session_at (with_root k.sessions n (new_root p k n)) n ≡ record (session_at k.sessions n) { seq = (new_root p k n).seq; root = Some (new_root p k n); calls = 0 }
  new_there range =
      let there = item_there k.sessions n range.0 (omega (arith, range.1, fits.roots.many)) in
      ap (λ o. unwrap_or o fresh_session) (set_found k.sessions n there.0 (record (session_at k.sessions n) { seq = (new_root p k n).seq; root = Some (new_root p k n); calls = 0 }) there.1)

  pub begun_new : IsSession n → NewCounting true p k (begun p k n) n
  begun_new range none =
      let ss : List Session = with_root k.sessions n (new_root p k n) in
      let there = new_there range in
      let root : (session_at ss n).root ≡ Some (new_root p k n) = ap (λ (s : Session). s.root) there in
      subst (λ o. ((session_at (counted (begun_by p k n None o) n).sessions n).calls ≡ 1) × HasRoot (counted (begun_by p k n None o) n) n (new_root p k n)) (sym none)
      (ap (λ (s : Session). s.calls) (count_set ss n (new_root p k n) root) ∙ ap (λ (s : Session). s.calls + 1) there, counted_root ss n (new_root p k n) root)

  pub only_new : IsSession n → (read_at : Option ℕ) → NewCounting false p k (begun_by p k n read_at (session_at k.sessions n).root) n
  only_new range read_at none =
      let there = new_there range in
      subst (λ o. ((session_at (begun_by p k n read_at o).sessions n).calls ≡ 0) × HasRoot (begun_by p k n read_at o) n (new_root p k n)) (sym none)
      (ap (λ (s : Session). s.calls) there, ap (λ (s : Session). s.root) there)

  pub begun_fits : SessionsFit (begun p k n)
  begun_fits = by (session_at k.sessions n).root
    where
      by : (o : Option BranchId) → SessionsFit (counted (begun_by p k n None o) n)
      by (Some r) = counted_so k fits n
      by None = counted_so (begun_by p k n None None) (begun_so k fits p n None) n

-- ---- turns that leave the works of branches

-- Sets of changes, what notes count, and savepoints stay, and the sessions have the calls of this node.
pub record Unmoved (k j : NodeState) (d : TurnDraft) : Type 0 where
  pub own : SameOwn k d
  pub calls : CallsAs j.sessions d.after.sessions

-- what a turn answers
abbrev pub answer_of : TurnDraft → Option Answer
answer_of d = answered_by (Some (output_of d))

-- ---- a statement with a table

-- it runs, or it is not accepted
abbrev pub RowsTurn : Place → Input → NodeState → ℕ → TurnDraft → Type 0
RowsTurn p input k n d = HasRun p input k d ⊎ (Unmoved k (begun p k n) d × (is_accepted (answer_of d) ≡ false))

module _ (p : Place) (input : Input) (k : NodeState) (n : ℕ) (s : Stmt) (call : IsCall input n s) (rows : IsOfRows s) (counts : IsCounted s) where
  abbrev j : NodeState
  j = begun p k n

  from_by : (o : Option BranchId) → (session_at k.sessions n).root ≡ o → From p input k (counted (begun_by p k n None o) n)
  from_by None none = Begun n s None call (By_rows s rows) none (Counted n s call counts (Itself (counted (begun_by p k n None None) n)))
  from_by (Some r) some = Counted n s call counts (Itself (counted k n))

  goes_rows : (x : Branch) → HasRoot j n x.live.me → (session_at j.sessions n).code ≡ None → branch_at j x.live.me ≡ Some x → (is_some x.live.read_at && is_write s) ≡ false
      → (way : Way) → way_of p j.stored.durable x.live 0 s ≡ way → RowsTurn p input k n (goes p j x s 0 way)
  goes_rows x has code found may (Runs_here t) is = inl (record {
    at = j;
    from = from_by (session_at k.sessions n).root refl;
    branch = x;
    statement = s;
    room = 0;
    table = t;
    asked = By_call n x s call rows has code found may;
    way = is;
    is = refl;
    counts = λ m v other. (let both : inputs.Call n (Some s) ≡ inputs.Call m (Some v) = sym call ∙ other in let same_session : n ≡ m = cc in ap (begun p k) same_session);
  })
  goes_rows x has code found may (Nowhere_to r) is =
      inr (record { own = λ b l live. put_same k.owns k.works _ b (found_marks j x found b); calls = answered_keeps j.sessions x.live x.live.parent }, refused_not j x r)
  goes_rows x has code found may (Over i table) is =
      let e : Errand = errands.Statement (passed_on s table) 0 in
      inr (record { own = λ b l live. put_same k.owns k.works _ b (λ me. called_marks k.works j.sessions x i e b (found_marks j x found b me)); calls = pends_keeps j.sessions x.live }, calls_not j x i e)
  goes_rows x has code found may (Through node link table) is =
      inr (record { own = λ b l live. put_same k.owns k.works _ b (found_marks j x found b); calls = pends_keeps j.sessions x.live }, refl)

  allowed_rows : (x : Branch) → HasRoot j n x.live.me → (session_at j.sessions n).code ≡ None → branch_at j x.live.me ≡ Some x → RowsTurn p input k n (allowed_at p j n x s)
  allowed_rows x has code found = by (is_some x.live.read_at && is_write s) refl
    where
      by : (q : Bool) → (is_some x.live.read_at && is_write s) ≡ q → RowsTurn p input k n (if q then refuses j n (dtx 21 []) else statement_at p j x s 0)
      by true is = inr (record { own = λ b l live. as_before k.owns k.works b; calls = λ m. refl }, refl)
      by false is = goes_rows x has code found is (way_of p j.stored.durable x.live 0 s) refl

  by_rows : (code : Option ℕ) → (session_at j.sessions n).code ≡ code → (o : Option Branch) → RootSo j n o → RowsTurn p input k n (statement_by p j n s code o)
  by_rows code is None so = inr (record { own = λ b l live. as_before k.owns k.works b; calls = λ m. refl }, refl)
  by_rows (Some c) is (Some x) so = inr (record { own = λ b l live. as_before k.owns k.works b; calls = λ m. refl }, refl)
  by_rows None is (Some x) so = allowed_rows x so.0 is so.1

  pub rows_turn : RowsTurn p input k n (statement_call p (begun p k n) n s)
  rows_turn = by_rows (session_at j.sessions n).code refl (root_at j n) (root_so j n)

-- ---- SET TRANSACTION READ ONLY

pub read_only_turn : (p : Place) (k : NodeState) (n : ℕ) → Unmoved k (begun_by p k n (Some k.clock) (session_at k.sessions n).root) (read_only_by p k n (session_at k.sessions n).root)
read_only_turn p k n = by (session_at k.sessions n).root
  where
    by : (o : Option BranchId) → Unmoved k (begun_by p k n (Some k.clock) o) (read_only_by p k n o)
    by None = record { own = λ b l live. as_before k.owns k.works b; calls = λ m. refl }
    by (Some r) = record { own = λ b l live. as_before k.owns k.works b; calls = λ m. refl }

-- ---- SAVEPOINT

-- It is set at the root, or refused; a session without a live root does nothing.
pub data SavepointTurn (k j : NodeState) (n : ℕ) (name : List ℕ) (d : TurnDraft) : Type 0 where
  No_root : d ≡ nothing j → root_at j n ≡ None → Unmoved k j d → SavepointTurn k j n name d
  Not_set : is_refused (answer_of d) ≡ true → Unmoved k j d → SavepointTurn k j n name d
  Is_set : (x : Branch) → HasRoot j n x.live.me → branch_at j x.live.me ≡ Some x → d ≡ did (with_branch j (marked j.sessions x name)) n dones.SavepointMade → SavepointTurn k j n name d

pub savepoint_turn : (p : Place) (k : NodeState) (n : ℕ) (name : List ℕ) → SavepointTurn k (begun p k n) n name (savepoint_call (begun p k n) n name)
savepoint_turn p k n name = by (session_at (begun p k n).sessions n).code (root_at (begun p k n) n) refl (root_so (begun p k n) n)
  where
    by : (code : Option ℕ) (o : Option Branch) → root_at (begun p k n) n ≡ o → RootSo (begun p k n) n o → SavepointTurn k (begun p k n) n name (savepoint_by (begun p k n) n name code o)
    by code None is so = No_root refl is (record { own = λ b l live. as_before k.owns k.works b; calls = λ m. refl })
    by (Some c) (Some x) is so = Not_set refl (record { own = λ b l live. as_before k.owns k.works b; calls = λ m. refl })
    by None (Some x) is so = Is_set x so.0 so.1 refl

-- ---- going back

-- A branch has gone back to a step, whichever child it calls first.
pub record WentBack (owns : List Owned) (works : List Work) (ss : List Session) (x : Branch) (step : ℕ) (d : TurnDraft) : Type 0 where
  pub others : (b : BranchId) → same x.live.me b ≡ false → SameWork owns works d.after.owns d.after.works b
  pub sets : sets_at d.after.owns x.live.me ≡ take (length (sets_at owns x.live.me) - sets_behind x.work.marks step) (sets_at owns x.live.me)
  pub steps : steps_of_sets (work_at d.after x.live.me).marks.notes ≡ steps_of_sets (notes_until x.work.marks step)
  pub savepoints : (work_at d.after x.live.me).marks.savepoints ≡ filter (λ s. nat_le s.step step) x.work.marks.savepoints
  pub calls : CallsAs ss d.after.sessions
  pub done : is_refused (answer_of d) ≡ false

abbrev no_sets : List ChangeSet
no_sets = []

take_none : (m : ℕ) → no_sets ≡ take m no_sets
take_none zero = refl
take_none (suc m) = refl

module _ (j : NodeState) (x : Branch) (step : ℕ) (mine : x.work.branch ≡ x.live.me) where
  abbrev c : BranchId
  c = x.live.me

  abbrev n : ℕ
  n = sets_behind x.work.marks step

  back_sets : sets_at (owns_back j x step) c ≡ take (length (sets_at j.owns c) - n) (sets_at j.owns c)
  back_sets = by (item_at own_id j.owns c) refl
    where
      by : (o : Option Owned) → item_at own_id j.owns c ≡ o → sets_at (less_sets n j.owns o) c ≡ take (length (sets_of o) - n) (sets_of o)
      by None is = ap sets_of is ∙ take_none (length no_sets - n)
      by (Some o) is =
          let me : o.branch ≡ c = item_is own_id j.owns c o is in
          let w : Owned = record o { sets = take (length o.sets - n) o.sets } in
          ap sets_of (subst (λ b. item_at own_id (put_item own_id j.owns w) b ≡ Some w) me (put_found own_id j.owns w))

  back_others : (b : BranchId) → same c b ≡ false → sets_at (owns_back j x step) b ≡ sets_at j.owns b
  back_others b other = by (item_at own_id j.owns c) refl
    where
      by : (o : Option Owned) → item_at own_id j.owns c ≡ o → sets_at (less_sets n j.owns o) b ≡ sets_at j.owns b
      by None is = refl
      by (Some o) is =
          let me : o.branch ≡ c = item_is own_id j.owns c o is in
          let w : Owned = record o { sets = take (length o.sets - n) o.sets } in
          ap sets_of (put_leaves own_id j.owns w b (subst (λ a. same a b ≡ false) (sym me) other))

  put_here : (w : Work) → w.branch ≡ c → work_or c (item_at work_id (put_item work_id j.works w) c) ≡ w
  put_here w me = ap (work_or c) (subst (λ b. item_at work_id (put_item work_id j.works w) b ≡ Some w) me (put_found work_id j.works w))

  put_others : (w : Work) → w.branch ≡ c → (b : BranchId) → same c b ≡ false → SameWork j.owns j.works (owns_back j x step) (put_item work_id j.works w) b
  put_others w me b other =
      let leaves = put_leaves work_id j.works w b (subst (λ a. same a b ≡ false) (sym me) other) in
      record { sets = back_others b other; steps = ap (λ o. steps_of_sets (work_or b o).marks.notes) leaves; savepoints = ap (λ o. (work_or b o).marks.savepoints) leaves }

  pub went_back : WentBack j.owns j.works j.sessions x step (goes_back j x step)
  went_back = by (next_back (branch_back j x step).work step 1)
    where
      answered_so : (l : Live) (o : Option BranchId) → is_refused (answered_by (Some (output_of (record (answered (node_back j x step) (branch_back j x step) (answers.Did dones.RolledBack 0)) {
        says = answer_says (branch_back j x step) (answers.Did dones.RolledBack 0) o;
        ended = answer_ends l (answers.Did dones.RolledBack 0) o;
      })))) ≡ false
      answered_so l None = refl
      answered_so l (Some parent) = refl

      called_so : (i : ℕ) (o : Option BranchId) → is_refused (answered_by (Some (output_of (record (calls_over (node_back j x step) (branch_back j x step) i (errands.GoBack step)) {
        says = exec_to j.sessions (branch_back j x step) i (errands.GoBack step) o;
      })))) ≡ false
      called_so i None = refl
      called_so i (Some peer) = refl

      by : (o : Option ℕ) → WentBack j.owns j.works j.sessions x step (backs_to (node_back j x step) (branch_back j x step) step o)
      by None =
          let here = put_here (with_answer (branch_back j x step) (answers.Did dones.RolledBack 0)).work mine in
          record {
            others = put_others (with_answer (branch_back j x step) (answers.Did dones.RolledBack 0)).work mine;
            sets = back_sets;
            steps = ap (λ (w : Work). steps_of_sets w.marks.notes) here;
            savepoints = ap (λ (w : Work). w.marks.savepoints) here;
            calls = answered_keeps j.sessions (branch_back j x step).live x.live.parent;
            done = answered_so (branch_back j x step).live x.live.parent;
          }
      by (Some i) =
          let w : Work = (called j.sessions (branch_back j x step) i (errands.GoBack step)).work in
          let here = put_here w mine in
          record {
            others = put_others w mine;
            sets = back_sets;
            steps = ap (λ (w : Work). steps_of_sets w.marks.notes) here ∙ none_noted (notes_until x.work.marks step) (call_note (step_of j.sessions (branch_back j x step)) (calls_with (branch_back j x step).work i)) refl;
            savepoints = ap (λ (w : Work). w.marks.savepoints) here;
            calls = pends_keeps j.sessions (branch_back j x step).live;
            done = called_so i (peer_of (branch_back j x step).live i);
          }

-- ---- ROLLBACK TO

-- It is refused, or the root goes back.
pub data BackTurn (k j : NodeState) (n : ℕ) (name : List ℕ) (d : TurnDraft) : Type 0 where
  Not_back : is_refused (answer_of d) ≡ true → Unmoved k j d → BackTurn k j n name d
  Is_back : (x : Branch) (step : ℕ) → HasRoot j n x.live.me → branch_at j x.live.me ≡ Some x → savepoint_at x.work.marks name ≡ Some step → WentBack k.owns k.works j.sessions x step d → BackTurn k j n name d

pub back_turn : (k : NodeState) (n : ℕ) (name : List ℕ) → BackTurn k (counted k n) n name (back_call (counted k n) n name)
back_turn k n name = by (session_at (counted k n).sessions n).code (root_at (counted k n) n) (root_so (counted k n) n)
  where
    still : (r : _) → BackTurn k (counted k n) n name (refuses (counted k n) n r)
    still r = Not_back refl (record { own = λ b l live. as_before k.owns k.works b; calls = λ m. refl })

    at_step : (x : Branch) → HasRoot (counted k n) n x.live.me → branch_at (counted k n) x.live.me ≡ Some x → (o : Option ℕ) → savepoint_at x.work.marks name ≡ o → BackTurn k (counted k n) n name (back_to_savepoint (counted k n) n name x o)
    at_step x has found None is = still (dtx 22 (one name))
    at_step x has found (Some step) is = Is_back x step has found is (went_back (counted k n) x step (work_is (counted k n) x.live.me x found))

    by : (code : Option ℕ) (o : Option Branch) → RootSo (counted k n) n o → BackTurn k (counted k n) n name (back_by (counted k n) n name code o)
    by code None so = still (dtx 22 (one name))
    by (Some c) (Some x) so = still (ora 2067 (one (decimal c)))
    by None (Some x) so = at_step x so.0 so.1 (savepoint_at x.work.marks name) refl

-- ---- BACK

-- Its branch goes back where its number comes for the first time, and else nothing changes.
pub data WayBack (k : NodeState) (to : BranchId) (call keep : ℕ) (d : TurnDraft) : Type 0 where
  Not_live : live_at k to ≡ None → d.after ≡ k → WayBack k to call keep d
  Not_new : (x : Branch) → x.live.me ≡ to → branch_at k x.live.me ≡ Some x → nat_lt x.work.came.last_call call ≡ false → d.after ≡ k → WayBack k to call keep d
  Is_new : (x : Branch) → x.live.me ≡ to → branch_at k x.live.me ≡ Some x → nat_lt x.work.came.last_call call ≡ true → WentBack k.owns k.works k.sessions (takes_call x call (tasks.GoBack keep)) keep d → WayBack k to call keep d

none_live : (k : NodeState) (b : BranchId) → branch_at k b ≡ None → live_at k b ≡ None
none_live k b none = by (live_at k b) none
  where
    by : (o : Option Live) → with_work k o ≡ None → o ≡ None
    by None is = refl
    by (Some l) is = absurd cc

pub way_back_turn : (p : Place) (k : NodeState) (from to : BranchId) (call keep : ℕ) → WayBack k to call keep (exec_turn p k from to call (tasks.GoBack keep) (status_of k to))
unfolding status_of admit
way_back_turn p k from to call keep = by (branch_at k to) refl (kept_row_at k to)
  where
    live_back : (x : Branch) → x.live.me ≡ to → branch_at k x.live.me ≡ Some x → WayBack k to call keep (on_exec p k x from call (tasks.GoBack keep))
    live_back x me found = new (nat_lt x.work.came.last_call call) refl ((call == x.work.came.last_call) && is_some x.work.came.reply)
      where
        new : (q : Bool) → nat_lt x.work.came.last_call call ≡ q → (r : Bool) → WayBack k to call keep (exec_by p k x from call (tasks.GoBack keep) (if q then admits.Run else (if r then admits.Again else admits.Ignore)))
        new true is r = Is_new x me found is (went_back k (takes_call x call (tasks.GoBack keep)) keep (work_is k x.live.me x found))
        new false is true = Not_new x me found is refl
        new false is false = Not_new x me found is refl

    by : (o : Option Branch) → branch_at k to ≡ o → (kept : Option KeptRow) → WayBack k to call keep (exec_turn p k from to call (tasks.GoBack keep) (live_or o kept))
    by None is (Some y) = Not_live (none_live k to is) refl
    by None is None = Not_live (none_live k to is) refl
    by (Some x) is kept = (let me : x.live.me ≡ to = branch_is k to x is in live_back x me (subst (λ c. branch_at k c ≡ Some x) (sym me) is))
