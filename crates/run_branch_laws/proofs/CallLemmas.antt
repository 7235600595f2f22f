-- In every lawful run a live branch has one call number for each edge, and has not answered its last call while it waits.
use Rattle.std.proofs.Common.{◌≡◌, ◌≢◌, ℕ, ◌+◌, Bool, List, [], ◌∷◌, length, Option, Some, None, refl, sym, ap, subst, ◌∙◌}
use Rattle.std.proofs.lemmas.List.{length-append, length-map}
use Rattle.tran_ids.proofs.ListedLemmas.{item_is}
use Rattle.tran_ids.proofs.NumberedLemmas.{set_length}
use Rattle.commit_forget.specs.declared.next.Next.TheVariants as nexts
use Rattle.node_rules.specs.Data.{BranchId, Stmt, Answer, Edge, Live, Act, ReplyFields, Place, Input}
use Rattle.node_rules.specs.declared.work.Errand.{Errand}
use Rattle.node_rules.specs.declared.work.Work.{Work}
use Rattle.node_rules.specs.declared.work.Going.{Going}
use Rattle.node_rules.specs.Data.acts
use Rattle.node_rules.specs.declared.session.PendingCall.TheVariants as pending
use Rattle.session_tree.specs.Live.{new_edge}
use Rattle.node_rules.specs.NodeState.{NodeState, Branch, TurnDraft, live_id, branch_at, with_branch, with_live, without_branch}
use Rattle.node_rules.specs.Statement.{ran}
use Rattle.node_rules.specs.Calls.{kept_reply, with_answer, called, with_edge, hears_reply, reply_going, reply_of, branch_ran, less_room}
use Rattle.node_rules.specs.Prepare.{with_prepare_sent, ready, has_voted}
use Rattle.node_rules.specs.Client.{gives_up, marked}
use Rattle.node_rules.proofs.Steps as steps
use Rattle.node_rules.proofs.Steps.{Step, Asked, Acting, Goes_to, Calls_back}
use Rattle.node_rules.proofs.StandLemmas.{live_so}
use Rattle.run_base_laws.specs.CallLaws.{CallsFit, CallsFitEdges}
use Rattle.node_rules.proofs.StepLemmas.{acting_so}
use Rattle.run_base_laws.proofs.NodeLemmas.{KeepsAlone, kept_alone}
use Rattle.node_rules.specs.LiveBranches.{EachLive, works_of}
use Rattle.node_rules.proofs.LiveLemmas.{none_live, each_put, each_changed, each_left, each_begun, branch_parts, work_is}
use Rattle.node_rules.specs.declared.work.Errand.TheVariants as errands
use Rattle.node_rules.specs.Marks.{node_back}
use Rattle.node_rules.specs.Names.{passed_on}
use Rattle.run_base_laws.proofs.RootLemmas.{SessionsFit, root_alone, pends_so, begun_so, started_fits, sessions_on, counted_so, back_so}

abbrev Fits : Live → Work → Type 0
Fits l w = CallsFit l.parent l.edges w

-- ---- changes of a branch

-- the same at as many edges
as_many : (parent : Option BranchId) (es xs : List Edge) (w : Work) → length xs ≡ length es → CallsFit parent es w → CallsFit parent xs w
as_many parent es xs w same fits = record { numbers = fits.numbers ∙ sym same; waiting = fits.waiting; root = fits.root }

-- one whose last call is not answered
unanswered : (parent : Option BranchId) (es : List Edge) (w : Work) → length w.calls ≡ length es → w.came.reply ≡ None → CallsFit parent es w
unanswered parent es w numbers none = record { numbers = numbers; waiting = λ waits. none; root = λ root. none }

kept_none : (x : Branch) (a : Answer) (parent : Option BranchId) → x.work.came.reply ≡ None → parent ≡ None → kept_reply x a parent ≡ None
kept_none x a None none is = none
kept_none x a (Some b) none is = absurd cc

-- one that answers
answers_so : (x : Branch) (a : Answer) → length x.work.calls ≡ length x.live.edges → x.work.came.reply ≡ None → Fits (with_answer x a).live (with_answer x a).work
answers_so x a numbers none = record { numbers = numbers; waiting = λ waits. absurd (waits refl); root = λ root. kept_none x a x.live.parent none root }

-- one that waits has not answered
none_while : (o : Option Going) (r : Option ReplyFields) (g : Going) → o ≡ Some g → (o ≢ None → r ≡ None) → r ≡ None
none_while o r g is waiting = waiting (λ none. absurd (cc (is, none)))

-- ---- nodes

abbrev Nodes : NodeState → Type 0
Nodes k = EachLive Fits k.lives k.works

-- What is known before a statement goes on.
pub record Ready (x : Branch) : Type 0 where
  pub numbers : length x.work.calls ≡ length x.live.edges
  pub none : x.work.came.reply ≡ None
  pub mine : x.work.branch ≡ x.live.me

module _ (k : NodeState) (sessions : SessionsFit k) (now : Nodes k) where
  branch_fits : (b : BranchId) (x : Branch) → branch_at k b ≡ Some x → Fits x.live x.work
  branch_fits b x found = let parts = branch_parts k b x found in subst (CallsFit x.live.parent x.live.edges) (sym parts.1) (now.each b x.live parts.0)

  asked_ready : {input : Input} {x : Branch} {s : Stmt} {given : ℕ} → Asked k input x s given → Ready x
  asked_ready (steps.By_call n x s call rows has code live may) =
      let fits : Fits x.live x.work = branch_fits x.live.me x live in
      record { numbers = fits.numbers; none = fits.root (root_alone k sessions n x.live.me has x.live (live_so k x.live.me x live)); mine = work_is k x.live.me x live }
  asked_ready (steps.By_exec x from call given advice s came live runs) = record { numbers = (branch_fits x.live.me x live).numbers; none = refl; mine = work_is k x.live.me x live }

  goes_ready : {input : Input} {x : Branch} {step : ℕ} → Goes_to k input x step → Ready x
  goes_ready (steps.By_rollback_to n x name step call has code live set) =
      let fits : Fits x.live x.work = branch_fits x.live.me x live in
      record { numbers = fits.numbers; none = fits.root (root_alone k sessions n x.live.me has x.live (live_so k x.live.me x live)); mine = work_is k x.live.me x live }
  goes_ready (steps.By_back x from call keep came live runs) = record { numbers = (branch_fits x.live.me x live).numbers; none = refl; mine = work_is k x.live.me x live }

  going_ready : (x : Branch) (g : Going) → branch_at k x.live.me ≡ Some x → x.work.going ≡ Some g → Ready x
  going_ready x g live going =
      let fits : Fits x.live x.work = branch_fits x.live.me x live in
      record { numbers = fits.numbers; none = none_while x.work.going x.work.came.reply g going fits.waiting; mine = work_is k x.live.me x live }

  -- so is one that hears the Reply that it waits for
  replied_by : (x : Branch) (from : BranchId) (call i : ℕ) (e : Edge) (o : Option Going) → x.work.going ≡ o → branch_at k x.live.me ≡ Some x → reply_going x from call o ≡ Some (i, e) → Ready x
  replied_by x from call i e None going live is = absurd cc
  replied_by x from call i e (Some g) going live is = going_ready x g live going

  replied : (x : Branch) (from : BranchId) (call i : ℕ) (e : Edge) → branch_at k x.live.me ≡ Some x → reply_of x from call ≡ Some (i, e) → Ready x
  unfolding reply_of
  replied x from call i e live is = replied_by x from call i e x.work.going refl live is

  answered_so : (x : Branch) (a : Answer) → Ready x → EachLive Fits (with_branch k (with_answer x a)).lives (with_branch k (with_answer x a)).works
  answered_so x a is = each_put Fits Fits k.lives k.works now x.live (with_answer x a).work is.mine (answers_so x a is.numbers is.none) (λ y v live other so. so)

  called_so : (x : Branch) (i : ℕ) (e : Errand) → Ready x → EachLive Fits (with_branch k (called k.sessions x i e)).lives (with_branch k (called k.sessions x i e)).works
  called_so x i e is = each_put Fits Fits k.lives k.works now x.live (called k.sessions x i e).work is.mine (unanswered x.live.parent x.live.edges _ (set_length x.work.calls i _ ∙ is.numbers) is.none) (λ y v live other so. so)

  -- a branch that acts
  acting_fits : {input : Input} {l : Live} {site_below : Bool} {a : Act} → Acting k input l site_below a → Fits l (works_of k.works l.me)
  acting_fits why =
      acting_so (λ l. Fits l (works_of k.works l.me)) (λ l comment site_below is. as_many l.parent l.edges _ _ (length-map l.edges with_prepare_sent) is)
      (λ l from v is. as_many l.parent l.edges _ _ (length-map l.edges (has_voted from v)) is)
      (λ b l found. subst (λ m. Fits l (works_of k.works m)) (sym (item_is live_id k.lives b l found)) (now.each b l found)) why

  gone : (b : BranchId) → EachLive Fits (without_branch k b).lives (without_branch k b).works
  gone b = each_left Fits Fits k.lives k.works now b (λ y v live other so. so)

  stays : (l : Live) → Fits l (works_of k.works l.me) → EachLive Fits (with_live k l).lives k.works
  stays l is = each_changed Fits Fits k.lives k.works now l is (λ y v live other so. so)

-- a Reply leaves as many edges
as_many_set : (x : Branch) (i : ℕ) (weight : Option ℕ) (count : ℕ) (e : Edge) → length (hears_reply x i weight count e).live.edges ≡ length x.live.edges
as_many_set x i weight count e = set_length x.live.edges i _

-- a branch whose children are to go back
calling_ready : {input : Input} (k : NodeState) → SessionsFit k → Nodes k → {x : Branch} {step from : ℕ} → Calls_back k input x step from → Ready x
calling_ready k sessions now (steps.Has_gone j x step goes is) =
    let fits : SessionsFit (node_back j x step) = subst SessionsFit is sessions in
    let was : Ready x = goes_ready j (record { roots = fits.roots; above = fits.above }) (subst Nodes is now) goes in record { numbers = was.numbers; none = was.none; mine = was.mine }
calling_ready k sessions now (steps.Has_heard x weight count a i e g step answered going errand done) =
    let is : Ready x = going_ready k sessions now x g answered.live going in record { numbers = is.numbers ∙ sym (as_many_set x i weight count e); none = is.none; mine = is.mine }

-- each step keeps it
calls_on : (p : Place) (input : Input) {k : NodeState} {d : TurnDraft} → Step p input k d → SessionsFit k → Nodes k → Nodes d.after
calls_on p input (steps.Begins {k = k} n s read_at call begins fit none step) ss now =
    calls_on p input step (begun_so k ss p n read_at) (each_begun Fits Fits k.lives k.works now _ (unanswered _ _ _ refl refl) (λ y v live any so. so))
calls_on p input (steps.Counts_call {k = k} n s call counts step) ss now = calls_on p input step (counted_so k ss n) now
calls_on p input (steps.Goes_back {k = k} x step goes next) ss now = calls_on p input next (back_so k ss x step) now
calls_on p input (steps.Pends {k = k} n l given call has live code writer step) ss now = calls_on p input step (pends_so k ss n pending.Commit) now
calls_on p input (steps.Lets_reads_go l comment site_below live begins step) ss now = calls_on p input step (record { roots = ss.roots; above = ss.above }) now
calls_on p input (steps.Counts_ack s from kept came counts step) ss now = calls_on p input step (record { roots = ss.roots; above = ss.above }) now
calls_on p input (steps.Runs {k = k} x s given t asked way) ss now =
    let is : Ready x = asked_ready k ss now asked in
    let y : Branch = branch_ran k.sessions x t (ran p k x.live.me s t) in
    answered_so k ss now y _ (record { numbers = is.numbers; none = is.none; mine = is.mine })
calls_on p input (steps.Goes_nowhere {k = k} x s given r asked way) ss now = answered_so k ss now x _ (asked_ready k ss now asked)
calls_on p input (steps.Calls {k = k} x s given i table asked way) ss now = called_so k ss now x i (errands.Statement (passed_on s table) given) (asked_ready k ss now asked)
calls_on p input (steps.Opens {k = k} x s given node link table asked way) ss now =
    let is : Ready x = asked_ready k ss now asked in each_put Fits Fits k.lives k.works now x.live _ is.mine (unanswered x.live.parent x.live.edges _ is.numbers is.none) (λ y v live other so. so)
calls_on p input (steps.Goes_on {k = k} x from strength g link opened) ss now =
    let is : Ready x = going_ready k ss now x g opened.live opened.going in
    called_so k ss now (with_edge x (new_edge from link strength)) _ (less_room g.errand) (record {
      numbers = length-append x.work.calls (0 ∷ []) ∙ (ap (λ n. n + 1) is.numbers ∙ sym (length-append x.live.edges (new_edge from link strength ∷ [])));
      none = is.none;
      mine = is.mine;
    })
calls_on p input (steps.Hears_reply {k = k} x weight count a i e answered) ss now =
    let is : Ready x = replied k ss now x answered.from answered.call i e answered.live answered.waits in answered_so k ss now (hears_reply x i weight count e) _ (record { numbers = is.numbers ∙ sym (as_many_set x i weight count e); none = is.none; mine = is.mine })
calls_on p input (steps.Backs {k = k} x step from i calls next) ss now = called_so k ss now x i (errands.GoBack step) (calling_ready k ss now calls)
calls_on p input (steps.Is_back {k = k} x step from calls none) ss now = answered_so k ss now x _ (calling_ready k ss now calls)
calls_on p input (steps.Opens_branch {k = k} to parent edge root depth read_at came new) ss now = each_begun Fits Fits k.lives k.works now _ (unanswered _ _ _ refl refl) (λ y v live any so. so)
calls_on p input (steps.Acts {k = k} l site_below acts.Rest why) ss now = stays k ss now l (acting_fits k ss now why)
calls_on p input (steps.Acts {k = k} l site_below acts.AskDown why) ss now = stays k ss now l (acting_fits k ss now why)
calls_on p input (steps.Acts {k = k} l site_below acts.SayReady why) ss now = stays k ss now (ready l) (as_many l.parent l.edges _ _ refl (acting_fits k ss now why))
calls_on p input (steps.Acts {k = k} l site_below acts.SayReadOnly why) ss now = gone k ss now l.me
calls_on p input (steps.Acts {k = k} l site_below acts.Seal why) ss now = gone k ss now l.me
calls_on p input (steps.Acts {k = k} l site_below (acts.SealAndPass i) why) ss now = gone k ss now l.me
calls_on p input (steps.Acts {k = k} l site_below acts.Decide why) ss now = gone k ss now l.me
calls_on p input (steps.Acts {k = k} l site_below acts.Finish why) ss now = gone k ss now l.me
calls_on p input (steps.Acts {k = k} l site_below acts.Abandon why) ss now = gone k ss now l.me
calls_on p input (steps.Drops_told {k = k} l live drops) ss now = gone k ss now l.me
calls_on p input (steps.Drops_asked {k = k} l from live came parent) ss now = gone k ss now l.me
calls_on p input (steps.Does s from nexts.Rest kept why) ss now = now
calls_on p input (steps.Leaves {k = k} n s d x call ends has live) ss now = gone k ss now x.live.me
calls_on p input (steps.Sets_savepoint {k = k} n x name call has code live) ss now =
    let fits : Fits x.live x.work = branch_fits k ss now x.live.me x live in
    each_put Fits Fits k.lives k.works now x.live (marked k.sessions x name).work (work_is k x.live.me x live) (record { numbers = fits.numbers; waiting = fits.waiting; root = fits.root }) (λ y v live other so. so)
calls_on p input (steps.Gives_up {k = k} n x gives has calls live) ss now =
    let fits : Fits x.live x.work = branch_fits k ss now x.live.me x live in
    each_put Fits Fits k.lives k.works now x.live (gives_up x).work (work_is k x.live.me x live) (record { numbers = fits.numbers; waiting = λ waits. absurd (waits refl); root = fits.root }) (λ y v live other so. so)
calls_on p input (steps.Gives_up_commit {k = k} n b (Some l) gives has calls live) ss now = gone k ss now l.me
calls_on p input _ ss now = now

abbrev pub CallsSo : NodeState → Type 0
CallsSo k = SessionsFit k × Nodes k

pub calls_keep : KeepsAlone CallsSo
calls_keep = record {
  starts = λ s vs. (started_fits s vs, none_live Fits);
  hears = λ k scn now. (record { roots = now.0.roots; above = now.0.above }, now.1);
  steps = λ p input k d step now. (sessions_on p input step now.0, calls_on p input step now.0 now.1);
}

pub calls_fit_edges : CallsFitEdges
calls_fit_edges t lawful n k up b x found = let so : CallsSo k = kept_alone CallsSo calls_keep t lawful n k up in branch_fits k so.0 so.1 b x found
