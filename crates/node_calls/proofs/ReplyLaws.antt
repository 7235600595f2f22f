-- A branch hears the Reply that it waits for, and its statement is answered.
use Rattle.std.proofs.Common.{◌≡◌, ℕ, ◌+◌, Bool, true, false, if◌then◌else◌, List, [], Option, None, Some, refl, sym, ap, subst, ◌∙◌}
use Rattle.tran_ids.specs.declared.branch.BranchId.{BranchId}
use Rattle.tran_ids.specs.Listed.{item_at, put_item}
use Rattle.tran_ids.proofs.ListedLemmas.{item_is, put_found}
use Rattle.session_tree.specs.Live.{edge_at, peer_of}
use Rattle.node_rules.specs.Data.{Live, Edge, Answer}
use Rattle.node_rules.specs.declared.work.Errand.{Errand}
use Rattle.node_rules.specs.Data.answers
use Rattle.node_rules.specs.Data.dones
use Rattle.node_rules.specs.declared.work.Errand.TheVariants as errands
use Rattle.node_rules.specs.declared.session.Session.{Session}
use Rattle.node_rules.specs.declared.work.Going.{Going}
use Rattle.node_rules.specs.declared.work.Waits.{Waits}
use Rattle.node_rules.specs.declared.work.Waits.TheVariants as waiting
use Rattle.node_rules.specs.declared.work.Work.{Work}
use Rattle.node_rules.specs.NodeState.{NodeState, Branch, nothing, live_id, work_id, branch_at}
use Rattle.node_rules.specs.Marks.{next_back}
use Rattle.node_rules.specs.Calls.{answered, answered_sessions, answer_ends, answer_says, backs_from, backs_to, call_pends, called, calls_over, errand_heard, exec_to, going_heard, heard_answer, heard_sessions, hears_reply, on_reply, reply_by, reply_edge, reply_going, reply_heard, reply_of, reply_waits, with_answer}
use Rattle.node_state.specs.Changed.{change_item, with_item}
use Rattle.node_state.specs.Lives.{heard, told}
use Rattle.node_state.specs.Works.{work_of}
use Rattle.node_drafts.specs.declared.draft.TurnDraft.{TurnDraft}
use Rattle.node_drafts.specs.Gives.{GivesDraft}
use Rattle.node_calls.specs.Handled.{at_live, back_step, step_after}
use Rattle.node_calls.proofs.BranchLaws.{put_twice, branch_here, somebody}

-- a child with its number
abbrev at_number : ℕ → Edge → ℕ × Edge
at_number i e = (i, e)

found_if : (x : Branch) (i j : ℕ) (e f : Edge) (hit : Bool) → edge_at x.live j ≡ Some f → (if hit then Some (at_number j f) else None) ≡ Some (at_number i e) → edge_at x.live i ≡ Some e
found_if x i j e f true there found =
    let it : at_number j f ≡ at_number i e = cc in
    ap (λ q. edge_at x.live q.0) (sym it) ∙ there ∙ ap (λ q. Some q.1) it
found_if x i j e f false there found = absurd cc

found_edge : (x : Branch) (from : BranchId) (call i j : ℕ) (e : Edge) (o : Option Edge) → edge_at x.live j ≡ o → reply_edge x from call j o ≡ Some (i, e) → edge_at x.live i ≡ Some e
found_edge x from call i j e None there found = absurd cc
found_edge x from call i j e (Some f) there found = found_if x i j e f _ there found

found_waits : (x : Branch) (from : BranchId) (call i : ℕ) (e : Edge) (waits : Waits) → reply_waits x from call waits ≡ Some (i, e) → edge_at x.live i ≡ Some e
found_waits x from call i e (waiting.ForOpened link) found = absurd cc
found_waits x from call i e (waiting.ForReply j) found = found_edge x from call i j e (edge_at x.live j) refl found

found_going : (x : Branch) (from : BranchId) (call i : ℕ) (e : Edge) (g : Option Going) → reply_going x from call g ≡ Some (i, e) → edge_at x.live i ≡ Some e
found_going x from call i e None found = absurd cc
found_going x from call i e (Some g) found = found_waits x from call i e g.waits found

-- the child that replies has the number that is told
reply_found : (x : Branch) (from : BranchId) (call i : ℕ) (e : Edge) → reply_of x from call ≡ Some (i, e) → edge_at x.live i ≡ Some e
unfolding reply_of
reply_found x from call i e found = found_going x from call i e x.work.going found

-- a statement is answered the same where its branch was put in its place before
pub answered_again : (k : NodeState) (l : Live) (w : Work) (a : Answer) → answered (record k { lives = put_item live_id k.lives l }) (record { live = l; work = w }) a ≡ answered k (record { live = l; work = w }) a
answered_again k l w a =
    ap (λ ls. record { after = record k { lives = ls; works = put_item work_id k.works (with_answer (record { live = l; work = w }) a).work; sessions = answered_sessions k.sessions l l.parent }; wrote = None; says = answer_says (record { live = l; work = w }) a l.parent; ended = answer_ends l a l.parent })
    (put_twice live_id k.lives l l refl)

-- so is an errand
calls_again_by : (k : NodeState) (l : Live) (w : Work) (i : ℕ) (e : Errand) → calls_over (record k { lives = put_item live_id k.lives l }) (record { live = l; work = w }) i e ≡ calls_over k (record { live = l; work = w }) i e
calls_again_by k l w i e =
    ap (λ ls. record { after = record k { lives = ls; works = put_item work_id k.works (called k.sessions (record { live = l; work = w }) i e).work; sessions = call_pends k.sessions l }; wrote = None; says = exec_to k.sessions (record { live = l; work = w }) i e (peer_of l i); ended = [] })
    (put_twice live_id k.lives l l refl)

backs_again_by : (k : NodeState) (l : Live) (w : Work) (step : ℕ) (next : Option ℕ) → backs_to (record k { lives = put_item live_id k.lives l }) (record { live = l; work = w }) step next ≡ backs_to k (record { live = l; work = w }) step next
backs_again_by k l w step None = answered_again k l w (answers.Did dones.RolledBack 0)
backs_again_by k l w step (Some i) = calls_again_by k l w i (errands.GoBack step)

-- ---- what is under way

errand_plain : (k : NodeState) (x : Branch) (i : ℕ) (link : List ℕ) (a : Answer) (e : Errand) → step_after a e ≡ None → errand_heard k x i link a e ≡ reply_heard k x link a
errand_plain k x i link a (errands.Statement s given) none = refl
errand_plain k x i link (answers.Refused r) (errands.GoBack step) none = refl
errand_plain k x i link (answers.Did d n) (errands.GoBack step) none = absurd cc
errand_plain k x i link (answers.Found rows) (errands.GoBack step) none = absurd cc

errand_back : (k : NodeState) (x : Branch) (i : ℕ) (link : List ℕ) (a : Answer) (e : Errand) (step : ℕ) → step_after a e ≡ Some step → errand_heard k x i link a e ≡ backs_from k x step (i + 1)
errand_back k x i link a (errands.Statement s given) step is = absurd cc
errand_back k x i link (answers.Refused r) (errands.GoBack back) step is = absurd cc
errand_back k x i link (answers.Did d n) (errands.GoBack back) step is = let same : back ≡ step = cc in ap (λ q. backs_from k x q (i + 1)) same
errand_back k x i link (answers.Found rows) (errands.GoBack back) step is = let same : back ≡ step = cc in ap (λ q. backs_from k x q (i + 1)) same

-- a statement is under way, or a child refuses to go back
heard_plain : (k : NodeState) (x : Branch) (from : BranchId) (call i : ℕ) (e : Edge) (link : List ℕ) (a : Answer) (g : Option Going) → reply_going x from call g ≡ Some (at_number i e) → back_step a g ≡ None
    → (y : Branch) → going_heard k y i link a g ≡ reply_heard k y link a
heard_plain k x from call i e link a None waits none y = absurd cc
heard_plain k x from call i e link a (Some g) waits none y = errand_plain k y i link a g.errand none

-- a child has gone back
heard_back : (k : NodeState) (i : ℕ) (link : List ℕ) (a : Answer) (g : Option Going) (step : ℕ) → back_step a g ≡ Some step → (y : Branch) → going_heard k y i link a g ≡ backs_from k y step (i + 1)
heard_back k i link a None step is y = absurd cc
heard_back k i link a (Some g) step is y = errand_back k y i link a g.errand step is

module _ (k : NodeState) (b : BranchId) (l : Live) (is : item_at live_id k.lives b ≡ Some l) (from : BranchId) (call : ℕ) (weight : Option ℕ) (count : ℕ) (a : Answer) where
  at_once : at_live k (λ x. on_reply k x from call weight count a) (branch_at k b) ≡ reply_by k (branch_here k b l) weight count a (reply_of (branch_here k b l) from call)
  at_once = somebody k b l (λ x. on_reply k x from call weight count a) is

  -- a Reply that is not waited for
  pub reply_ignored : (draft : TurnDraft) → reply_of (branch_here k b l) from call ≡ None → GivesDraft (nothing k) k draft → GivesDraft (at_live k (λ x. on_reply k x from call weight count a) (branch_at k b)) k draft
  reply_ignored draft none does = subst (λ d. GivesDraft d k draft) (sym (at_once ∙ ap (reply_by k (branch_here k b l) weight count a) none)) does

  -- one that is
  pub reply_so : (i : ℕ) (e : Edge) (result : Answer) (lives : List Live) (sessions : List Session) (after : NodeState) (draft : TurnDraft) → reply_of (branch_here k b l) from call ≡ Some (at_number i e)
      → back_step a (work_of k.works b).going ≡ None
      → result ≡ heard_answer l e.link a → lives ≡ change_item live_id (heard i weight count) k.lives b → sessions ≡ heard_sessions k.sessions l a
      → GivesDraft (at_live (record k { lives = lives; sessions = sessions }) (λ x. answered (record k { lives = lives; sessions = sessions }) x result) (branch_at (record k { lives = lives; sessions = sessions }) b)) after draft
      → GivesDraft (at_live k (λ x. on_reply k x from call weight count a) (branch_at k b)) after draft
  unfolding reply_of
  reply_so i e result lives sessions after draft waits none is_result is_lives is_sessions does =
      let n : NodeState = record k { sessions = heard_sessions k.sessions l a } in
      let m : NodeState = record k { lives = lives; sessions = sessions } in
      let y : Live = heard i weight count l in
      let put : m ≡ record n { lives = put_item live_id k.lives y } =
      ap (λ ls. record k { lives = ls; sessions = sessions }) (is_lives ∙ ap (with_item live_id (heard i weight count) k.lives) is)
      ∙ ap (λ ss. record k { lives = put_item live_id k.lives y; sessions = ss }) is_sessions in
      let there : item_at live_id (put_item live_id k.lives y) b ≡ Some y =
      subst (λ c. item_at live_id (put_item live_id k.lives y) c ≡ Some y) (item_is live_id k.lives b l is) (put_found live_id k.lives y) in
      let code : at_live m (λ x. answered m x result) (branch_at m b) ≡ answered n (record { live = y; work = work_of k.works b }) (heard_answer l e.link a) =
      ap (λ q. at_live q (λ x. answered q x result) (branch_at q b)) put
      ∙ somebody (record n { lives = put_item live_id k.lives y }) b y (λ x. answered (record n { lives = put_item live_id k.lives y }) x result) there
      ∙ answered_again n y (work_of k.works b) result
      ∙ ap (answered n (record { live = y; work = work_of k.works b })) is_result in
      let edge : edge_at l i ≡ Some e = reply_found (branch_here k b l) from call i e waits in
      let rules : at_live k (λ x. on_reply k x from call weight count a) (branch_at k b) ≡ answered n (record { live = y; work = work_of k.works b }) (heard_answer l e.link a) =
      at_once ∙ ap (reply_by k (branch_here k b l) weight count a) waits
      ∙ heard_plain k (branch_here k b l) from call i e e.link a (work_of k.works b).going waits none (hears_reply (branch_here k b l) i weight count e)
      ∙ ap (λ es. answered n (record { live = record l { edges = es }; work = work_of k.works b }) (heard_answer l e.link a)) (sym (ap (told i weight count l.edges) edge)) in
      subst (λ d. GivesDraft d after draft) (code ∙ sym rules) does

  -- one by which a child says that it is back
  pub back_so : (i : ℕ) (e : Edge) (step : ℕ) (lives : List Live) (after : NodeState) (draft : TurnDraft) → reply_of (branch_here k b l) from call ≡ Some (at_number i e)
      → back_step a (work_of k.works b).going ≡ Some step → lives ≡ change_item live_id (heard i weight count) k.lives b
      → GivesDraft (at_live (record k { lives = lives }) (λ x. backs_from (record k { lives = lives }) x step (i + 1)) (branch_at (record k { lives = lives }) b)) after draft
      → GivesDraft (at_live k (λ x. on_reply k x from call weight count a) (branch_at k b)) after draft
  back_so i e step lives after draft waits is_back is_lives does =
      let m : NodeState = record k { lives = lives } in
      let y : Live = heard i weight count l in
      let w : Work = work_of k.works b in
      let put : m ≡ record k { lives = put_item live_id k.lives y } = ap (λ ls. record k { lives = ls }) (is_lives ∙ ap (with_item live_id (heard i weight count) k.lives) is) in
      let there : item_at live_id (put_item live_id k.lives y) b ≡ Some y =
      subst (λ c. item_at live_id (put_item live_id k.lives y) c ≡ Some y) (item_is live_id k.lives b l is) (put_found live_id k.lives y) in
      let code : at_live m (λ x. backs_from m x step (i + 1)) (branch_at m b) ≡ backs_from k (record { live = y; work = w }) step (i + 1) =
      ap (λ q. at_live q (λ x. backs_from q x step (i + 1)) (branch_at q b)) put
      ∙ somebody (record k { lives = put_item live_id k.lives y }) b y (λ x. backs_from (record k { lives = put_item live_id k.lives y }) x step (i + 1)) there
      ∙ backs_again_by k y w step (next_back w step (i + 1)) in
      let edge : edge_at l i ≡ Some e = reply_found (branch_here k b l) from call i e waits in
      let rules : at_live k (λ x. on_reply k x from call weight count a) (branch_at k b) ≡ backs_from k (record { live = y; work = w }) step (i + 1) =
      at_once ∙ ap (reply_by k (branch_here k b l) weight count a) waits
      ∙ heard_back k i e.link a w.going step is_back (hears_reply (branch_here k b l) i weight count e)
      ∙ ap (λ es. backs_from k (record { live = record l { edges = es }; work = w }) step (i + 1)) (sym (ap (told i weight count l.edges) edge)) in
      subst (λ d. GivesDraft d after draft) (code ∙ sym rules) does
