-- Which branches are live after a turn: those that were, a root that begins with a statement of its session, and one that is opened below another.
use Rattle.std.proofs.Common.{◌≡◌, ◌≢◌, ℕ, ◌⊎◌, Bool, true, false, List, unwrap_or, Some, None, inl, inr, refl, sym, ap, subst, ◌∙◌, arith, Option, ◌++◌, ◌∷◌, [], if◌then◌else◌, ◌+◌}
use Rattle.tran_ids.proofs.BranchLemmas.{equal_from_same}
use Rattle.tran_ids.proofs.ListedLemmas.{item_is, put_or_before, drop_gone, drop_leaves}
use Rattle.tran_ids.proofs.NumberedLemmas.{set_found}
use Rattle.commit_forget.specs.declared.next.Next.TheVariants as nexts
use Rattle.session_tree.specs.Live.{new_edge, fresh_live}
use Rattle.node_rules.specs.Data.{Stmt, BranchId, Live, Act, Place, Input, Kind}
use Rattle.node_rules.specs.Data.acts
use Rattle.node_rules.specs.Data.inputs
use Rattle.node_rules.specs.Data.stmts
use Rattle.node_rules.specs.declared.session.Session.{Session}
use Rattle.node_rules.specs.Words.{same, item_at, put_item, drop_item}
use Rattle.node_rules.specs.Inputs.{IsSession, IsCall, Came}
use Rattle.node_rules.specs.NodeState.{NodeState, Branch, TurnDraft, live_id, live_at}
use Rattle.node_rules.specs.Calls.{next_child, strength_of, with_edge, hears_reply, backs_to}
use Rattle.node_rules.specs.Client.{new_root, fresh_root, begun_by, counted}
use Rattle.node_rules.specs.Prepare.{ready, act_turn}
use Rattle.node_rules.specs.Statement.{ran, after_run}
use Rattle.node_rules.specs.Sessions.{session_at, fresh_session, with_root}
use Rattle.node_rules.proofs.StandLemmas.{live_so}
use Rattle.node_rules.proofs.StepLemmas.{acting_live, gone_back_live, calling_back_live}
use Rattle.node_rules.proofs.Steps as steps
use Rattle.node_rules.proofs.Steps.{Asked, Step, Collects, HasRoot, IsCounted, BeginsBy}
use Rattle.run_rules.proofs.AtNodeLemmas.{item_there}
use Rattle.run_base_laws.proofs.RootLemmas.{RootsFit, SessionsFit, begun_so, counted_so, counted_session}
use Rattle.tree_trail_laws.proofs.OwnStepLemmas.{From, Itself, Begun, Counted}
use Rattle.node_rules.specs.Marks.{next_back, branch_back, node_back}
use Rattle.run_base_laws.proofs.BeginLemmas.{MayBegin, may_begin}

-- one that is found with another behind was there before, or is that one
found_last : {A : Type 0} (id : A → BranchId) (xs : List A) (y : A) (b : BranchId) (x : A) → item_at id (xs ++ y ∷ []) b ≡ Some x → (item_at id xs b ≡ Some x) ⊎ ((item_at id xs b ≡ None) × (y ≡ x))
found_last id [] y b x found = by (same (id y) b) found
  where
    by : (here : Bool) → (if here then Some y else item_at id [] b) ≡ Some x → (item_at id [] b ≡ Some x) ⊎ ((item_at id [] b ≡ None) × (y ≡ x))
    by true is = inr (refl, (let it : Some y ≡ Some x = is in cc))
    by false is = absurd cc
found_last id (z ∷ zs) y b x found = by (same (id z) b) found (found_last id zs y b x)
  where
    by : (here : Bool) → (if here then Some z else item_at id (zs ++ y ∷ []) b) ≡ Some x → (item_at id (zs ++ y ∷ []) b ≡ Some x → (item_at id zs b ≡ Some x) ⊎ ((item_at id zs b ≡ None) × (y ≡ x)))
        → ((if here then Some z else item_at id zs b) ≡ Some x) ⊎ (((if here then Some z else item_at id zs b) ≡ None) × (y ≡ x))
    by true is later = inl is
    by false is later = later is

-- ---- lives

-- A root that begins with a statement that a session without a transaction calls for.
pub record NewRoot (p : Place) (input : Input) (k : NodeState) (b : BranchId) : Type 0 where
  pub at : NodeState
  pub from : From p input k at
  pub session : ℕ
  pub statement : Stmt
  pub call : IsCall input session statement
  pub begins : MayBegin statement
  pub new : (session_at at.sessions session).root ≡ None
  pub is : b ≡ new_root p at session

module _ (p : Place) (input : Input) (b : BranchId) where
  abbrev pub IsOfThese : NodeState → Live → Type 0
  IsOfThese k l = ((z : Live) × (live_at k b ≡ Some z)) ⊎ (NewRoot p input k b ⊎ (l.parent ≢ None))

  put_lives : (k : NodeState) (y l : Live) → ((z : Live) × (live_at k y.me ≡ Some z)) → item_at live_id (put_item live_id k.lives y) b ≡ Some l → (z : Live) × (live_at k b ≡ Some z)
  put_lives k y l there live = elim (put_or_before live_id k.lives y b) [
    | inl before ↦ (l, sym before ∙ live)
    | inr new ↦ (there.0, subst (λ c. live_at k c ≡ Some there.0) new.0 there.1)
  ]

  left_lives : (k : NodeState) (c : BranchId) (l : Live) → item_at live_id (drop_item live_id k.lives c) b ≡ Some l → (z : Live) × (live_at k b ≡ Some z)
  left_lives k c l live = by (same c b) refl
    where
      by : (q : Bool) → same c b ≡ q → (z : Live) × (live_at k b ≡ Some z)
      by true here =
          let one : c ≡ b = equal_from_same c b here in
          let gone : item_at live_id (drop_item live_id k.lives c) b ≡ None = subst (λ x. item_at live_id (drop_item live_id k.lives c) x ≡ None) one (drop_gone live_id k.lives c) in
          absurd (cc (gone, live))
      by false other = (l, sym (drop_leaves live_id k.lives c b other) ∙ live)

  asked_lives : (k : NodeState) {x : Branch} {s : Stmt} {given : ℕ} → Asked k input x s given → (z : Live) × (live_at k x.live.me ≡ Some z)
  asked_lives k (steps.By_call n x s call rows has code found may) = (x.live, live_so k x.live.me x found)
  asked_lives k (steps.By_exec x from call given advice s came found runs) = (x.live, live_so k x.live.me x found)

  act_lives : (k : NodeState) (l : Live) (q : Bool) (a : Act) (y : Live) → ((z : Live) × (live_at k l.me ≡ Some z)) → live_at (act_turn k l q a).after b ≡ Some y → (z : Live) × (live_at k b ≡ Some z)
  act_lives k l q acts.Rest y there live = put_lives k l y there live
  act_lives k l q acts.AskDown y there live = put_lives k l y there live
  act_lives k l q acts.SayReady y there live = put_lives k (ready l) y there live
  act_lives k l q _ y there live = left_lives k l.me y live

  begun_lives : (k : NodeState) (n : ℕ) (s : Stmt) (read_at : Option ℕ) → IsCall input n s → BeginsBy k.clock s read_at → (session_at k.sessions n).root ≡ None → (l : Live) → IsOfThese (begun_by p k n read_at None) l → IsOfThese k l
  begun_lives k n s read_at call begins new l (inl there) = elim (found_last live_id k.lives (fresh_root p k (new_root p k n) read_at) b there.0 there.1) [
    | inl before ↦ inl (there.0, before)
    | inr last ↦ inr (inl (record {
      at = k;
      from = Itself k;
      session = n;
      statement = s;
      call = call;
      begins = may_begin begins;
      new = new;
      is = sym (item_is live_id (begun_by p k n read_at None).lives b there.0 there.1) ∙ ap (λ (y : Live). y.me) (sym last.1);
    }))
  ]
  begun_lives k n s read_at call begins new l (inr (inl root)) = inr (inl (record {
    at = root.at;
    from = Begun n s read_at call begins new root.from;
    session = root.session;
    statement = root.statement;
    call = root.call;
    begins = root.begins;
    new = root.new;
    is = root.is;
  }))
  begun_lives k n s read_at call begins new l (inr (inr below)) = inr (inr below)

  counted_lives : (k : NodeState) (n : ℕ) (s : Stmt) → IsCall input n s → IsCounted s → (l : Live) → IsOfThese (counted k n) l → IsOfThese k l
  counted_lives k n s call counts l (inl there) = inl there
  counted_lives k n s call counts l (inr (inl root)) = inr (inl (record {
    at = root.at;
    from = Counted n s call counts root.from;
    session = root.session;
    statement = root.statement;
    call = root.call;
    begins = root.begins;
    new = root.new;
    is = root.is;
  }))
  counted_lives k n s call counts l (inr (inr below)) = inr (inr below)

  -- no root begins with this input
  abbrev BeginsNone : Type 0
  BeginsNone = (n : ℕ) (s : Stmt) → IsCall input n s → MayBegin s → ⊥

  commit_begins : (n : ℕ) (given : Option (List ℕ)) → IsCall input n (stmts.Commit given) → BeginsNone
  commit_begins n given call m s other begins =
      let both : inputs.Call n (Some (stmts.Commit given)) ≡ inputs.Call m (Some s) = sym call ∙ other in
      let here : s ≡ stmts.Commit given = cc in
      subst MayBegin here begins

  came_begins : {from to : BranchId} {kind : Kind} → Came input from to kind → BeginsNone
  came_begins came m s call begins = (let is = came.is in absurd (cc (is, call)))

  collects_begin : {k : NodeState} {l : Live} {comment : List ℕ} {q : Bool} → Collects k input l comment q → BeginsNone
  collects_begin (steps.By_commit n given call has code writer is) = commit_begins n given call
  collects_begin (steps.By_prepare from q came working) = came_begins came

  -- changes before a draft that leave the live branches
  past : (k j : NodeState) (l : Live) → BeginsNone → (((z : Live) × (live_at j b ≡ Some z)) → (z : Live) × (live_at k b ≡ Some z)) → IsOfThese j l → IsOfThese k l
  past k j l none same (inl there) = inl (same there)
  past k j l none same (inr (inl root)) = absurd (none root.session root.statement root.call root.begins)
  past k j l none same (inr (inr below)) = inr (inr below)

  -- a branch goes back, whichever child it calls first
  back_lives : (k : NodeState) (x : Branch) (step : ℕ) (next : Option ℕ) (l : Live) → live_at k x.live.me ≡ Some x.live → live_at (backs_to (node_back k x step) (branch_back k x step) step next).after b ≡ Some l → (z : Live) × (live_at k b ≡ Some z)
  back_lives k x step None l there live = put_lives k (branch_back k x step).live l (x.live, there) live
  back_lives k x step (Some i) l there live = put_lives k (branch_back k x step).live l (x.live, there) live

  pub lives_on : {k : NodeState} {d : TurnDraft} → Step p input k d → (l : Live) → live_at d.after b ≡ Some l → IsOfThese k l
  lives_on (steps.Begins {k = k} n s read_at call begins range new step) l live = begun_lives k n s read_at call begins new l (lives_on step l live)
  lives_on (steps.Counts_call {k = k} n s call counts step) l live = counted_lives k n s call counts l (lives_on step l live)
  lives_on (steps.Goes_back {k = k} x step goes next) l live = inl (back_lives k x step (next_back (branch_back k x step).work step 1) l (gone_back_live goes) live)
  lives_on (steps.Pends {k = k} n x given call has found code writer step) l live = past k _ l (commit_begins n given call) (λ there. there) (lives_on step l live)
  lives_on (steps.Lets_reads_go {k = k} x comment q found begins step) l live = past k _ l (collects_begin begins) (λ there. there) (lives_on step l live)
  lives_on (steps.Counts_ack {k = k} s from kept came counts step) l live = past k _ l (came_begins came) (λ there. there) (lives_on step l live)
  lives_on (steps.Runs {k = k} x s given t asked way) l live = inl (put_lives k (after_run x.live (ran p k x.live.me s t)) l (asked_lives k asked) live)
  lives_on (steps.Goes_nowhere {k = k} x s given r asked way) l live = inl (put_lives k x.live l (asked_lives k asked) live)
  lives_on (steps.Calls {k = k} x s given i table asked way) l live = inl (put_lives k x.live l (asked_lives k asked) live)
  lives_on (steps.Opens {k = k} x s given node link table asked way) l live = inl (put_lives k x.live l (asked_lives k asked) live)
  lives_on (steps.Goes_on {k = k} x from strength g link opened) l live = inl (put_lives k (with_edge x (new_edge from link strength)).live l (x.live, live_so k x.live.me x opened.live) live)
  lives_on (steps.Hears_reply {k = k} x weight count a i e answered) l live = inl (put_lives k (hears_reply x i weight count e).live l (x.live, live_so k x.live.me x answered.live) live)
  lives_on (steps.Backs {k = k} x step from i calls next) l live = inl (put_lives k x.live l (calling_back_live calls) live)
  lives_on (steps.Is_back {k = k} x step from calls none) l live = inl (put_lives k x.live l (calling_back_live calls) live)
  lives_on (steps.Opens_branch {k = k} to parent edge root depth read_at came new) l live = elim (found_last live_id k.lives (fresh_live (next_child p k) root (Some parent) depth (strength_of p k) read_at) b l live) [
    | inl before ↦ inl (l, before)
    | inr last ↦ inr (inr (λ none. (let below : l.parent ≡ Some parent = ap (λ (y : Live). y.parent) (sym last.1) in absurd (cc (below, none)))))
  ]
  lives_on (steps.Acts {k = k} x q a why) l live = inl (act_lives k x q a l (acting_live why) live)
  lives_on (steps.Drops_told {k = k} x found drops) l live = inl (left_lives k x.me l live)
  lives_on (steps.Drops_asked {k = k} x from found came parent) l live = inl (left_lives k x.me l live)
  lives_on (steps.Does s from nexts.Rest kept why) l live = inl (l, live)
  lives_on (steps.Leaves {k = k} n s d x call ends has found) l live = inl (left_lives k x.live.me l live)
  lives_on (steps.Sets_savepoint {k = k} n x name call has code found) l live = inl (put_lives k x.live l (x.live, live_so k x.live.me x found) live)
  lives_on (steps.Gives_up {k = k} n x gives has calls found) l live = inl (put_lives k x.live l (x.live, live_so k x.live.me x found) live)
  lives_on (steps.Gives_up_commit {k = k} n c (Some x) gives has calls found) l live = inl (left_lives k x.me l live)
  lives_on _ l live = inl (l, live)

-- ---- a transaction begins once in a turn

pub root_there : (ss : List Session) (n : ℕ) (b : BranchId) → RootsFit ss → IsSession n → (session_at (with_root ss n b) n).root ≡ Some b
root_there ss n b fits range =
    let there = item_there ss n range.0 (omega (arith, range.1, fits.many)) in
    ap (λ o. (unwrap_or o fresh_session).root) (set_found ss n there.0 (record (session_at ss n) { seq = b.seq; root = Some b; calls = 0 }) there.1)

module _ (p : Place) (input : Input) (range : (n : ℕ) (s : Stmt) → IsCall input n s → IsSession n) where
  one_session : (n m : ℕ) (s u : Stmt) → IsCall input n s → IsCall input m u → n ≡ m
  one_session n m s u call other = (let both : inputs.Call n (Some s) ≡ inputs.Call m (Some u) = sym call ∙ other in cc)

  begun_root : (k : NodeState) → SessionsFit k → (read_at : Option ℕ) (n m : ℕ) (s u : Stmt) → IsCall input n s → IsCall input m u → (session_at (begun_by p k n read_at None).sessions m).root ≡ Some (new_root p k n)
  begun_root k fits read_at n m s u call other =
      subst (λ i. (session_at (begun_by p k n read_at None).sessions i).root ≡ Some (new_root p k n)) (one_session n m s u call other) (root_there k.sessions n (new_root p k n) fits.roots (range n s call))

  -- a session that has no transaction there had none before, and has the same next root
  pub new_at : {k j : NodeState} → From p input k j → SessionsFit k → (n : ℕ) (s : Stmt) → IsCall input n s → (session_at j.sessions n).root ≡ None → (new_root p j n ≡ new_root p k n) × ((session_at k.sessions n).root ≡ None)
  new_at (Itself k) fits n s call none = (refl, none)
  new_at (Begun {k = k} m u read_at other begins new from) fits n s call none =
      let it = new_at from (begun_so k fits p m read_at) n s call none in
      let some = begun_root k fits read_at m n u s other call in
      let gone = it.1 in
      absurd (cc (some, gone))
  new_at (Counted {k = k} m u other counts from) fits n s call none =
      let it = new_at from (counted_so k fits m) n s call none in
      let at = (counted_session k.sessions m n (session_at k.sessions m).root).1 in (
        it.0 ∙ ap (λ (x : Session). record { node = p.number; boot = k.stored.durable.boot; session = n; seq = x.seq + 1 }) at,
        sym (ap (λ (x : Session). x.root) at) ∙ it.1,
      )

  -- the root that began has its session's next id
  pub new_is : (k : NodeState) → SessionsFit k → (b : BranchId) (root : NewRoot p input k b) → (b ≡ new_root p k root.session) × ((session_at k.sessions root.session).root ≡ None)
  new_is k fits b root = (let it = new_at root.from fits root.session root.statement root.call root.new in (root.is ∙ it.0, it.1))

  -- the transaction of a session that calls was there, or has begun
  pub has_at : {k j : NodeState} → From p input k j → SessionsFit k → (n : ℕ) (s : Stmt) (b : BranchId) → IsCall input n s → HasRoot j n b → HasRoot k n b ⊎ NewRoot p input k b
  has_at (Itself k) fits n s b call has = inl has
  has_at (Begun {k = k} m u read_at other begins new from) fits n s b call has = elim (has_at from (begun_so k fits p m read_at) n s b call has) [
    | inl there ↦ (let both : Some (new_root p k m) ≡ Some b = sym (begun_root k fits read_at m n u s other call) ∙ there in
        inr (record { at = k; from = Itself k; session = m; statement = u; call = other; begins = may_begin begins; new = new; is = (let it : b ≡ new_root p k m = cc in it) }))
    | inr root ↦ inr (record { at = root.at; from = Begun m u read_at other begins new root.from; session = root.session; statement = root.statement; call = root.call; begins = root.begins; new = root.new; is = root.is })
  ]
  has_at (Counted {k = k} m u other counts from) fits n s b call has = elim (has_at from (counted_so k fits m) n s b call has) [
    | inl there ↦ inl (sym (ap (λ (x : Session). x.root) (counted_session k.sessions m n (session_at k.sessions m).root).1) ∙ there)
    | inr root ↦ inr (record { at = root.at; from = Counted m u other counts root.from; session = root.session; statement = root.statement; call = root.call; begins = root.begins; new = root.new; is = root.is })
  ]
